-- `plan_calls::book::is_built_in`: octets of another length are not the same.
use Rattle.std.proofs.Common.{◌≡◌, ◌∙◌}
use Rattle.octets.proofs.Laws.{same_not}
use Rattle.plan.specs.BuiltIn.{built_in}
use Rattle.plan.proofs.Laws.{length-built-in}
use Rattle.plan_calls.proofs.book.is_built_in.Goals as goal

pub returns-in-Ok : goal.returns-in-Ok
returns-in-Ok c = c.matches.ensures ∙ rw c.in-Ok.ensures.1.same

pub returns-in-Err : goal.returns-in-Err
returns-in-Err c = let h = c.in-Err.ensures in same_not c.args.rec.now (built_in c.args.which) (λ e. h.1 (e ∙ length-built-in c.args.which))
