-- `controller_calls::stepper::record_of`: reading a plan gives its record or an empty part.
use Rattle.std.proofs.Common.{rules}
use Rattle.controller_calls.proofs.Laws.{record_of}
use Rattle.controller_calls.proofs.stepper.record_of.Goals as goal

pub returns : goal.returns
returns c =
    let a = c.args in
    record_of a.book a.copy c.read_plan.result.0 a.plan c.read_plan.ensures.part (search rules) c.requires.0 c.requires.1
