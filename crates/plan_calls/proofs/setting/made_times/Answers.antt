-- `plan_calls::setting::made_times`: there are at most sixteen checks, and one law for each way.
use Rattle.std.proofs.Common.{arith}
use Rattle.checks.proofs.Stands.{times-first}
use Rattle.plan.proofs.Sets.{times-not, times-is}
use Rattle.plan_calls.proofs.setting.made_times.Goals as goal

pub times_field-requires : goal.times_field-requires
times_field-requires c = let f = (times-first c.args.body.now).within in (omega arith, omega (arith, c.times_disagree-n.ensures, c.requires.count.most))

pub returns-then-n-ne0 : goal.returns-then-n-ne0
returns-then-n-ne0 c = rw c.disagree.ensures (search times-not)

pub returns : goal.returns
returns c = search times-is
