-- `controller_calls::soundness::running_stands`: one law for each way.
use Rattle.controller_calls.proofs.Laws.{outside, over, zero-plan, other-plan}
use Rattle.controller_calls.proofs.soundness.running_stands.Goals as goal

pub returns-then-cycle-u : goal.returns-then-cycle-u
returns-then-cycle-u c = outside c.args.u c.cycle.ensures c.if-cycle-u.true

pub returns-then-u-gt-PLANS_MOST : goal.returns-then-u-gt-PLANS_MOST
returns-then-u-gt-PLANS_MOST c = over c.args.u c.cycle.ensures c.if-cycle-u.false c.if-u-gt-PLANS_MOST.true

pub returns-then-u-eq0 : goal.returns-then-u-eq0
returns-then-u-eq0 c = zero-plan c.args.u c.cycle.ensures c.if-cycle-u.false c.if-u-gt-PLANS_MOST.false c.if-u-eq0.true c.is_built_in.ensures

pub returns : goal.returns
returns c = other-plan c.args.u c.cycle.ensures c.if-cycle-u.false c.if-u-gt-PLANS_MOST.false c.if-u-eq0.false c.standing.ensures
