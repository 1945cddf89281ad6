-- `plan_calls::setting::keep`: each refusal has a number, so that of what is not made nothing is stored.
use Rattle.std.proofs.Common.{refl}
use Rattle.std.proofs.lemmas.Result.{err_from_is_err_and}
use Rattle.plan.specs.Setting.{not_made}
use Rattle.plan.proofs.Sets.{kept-not}
use Rattle.plan_calls.proofs.Read.{refused-some}
use Rattle.plan_calls.proofs.setting.keep.Goals as goal

pub returns-in_err-rec : goal.returns-in_err-rec
unfolding not_made
returns-in_err-rec c = let p = err_from_is_err_and c.from_residual.result c.from_residual.ensures.1 in rw (p.1, p.2, c.in_err-rec.was) (kept-not _ _ _ (refused-some _) refl)
