-- What a set answers in 01's numbers is one answer of the code's: a refusal's number is none but its own.
use mathlib.Core.Path.{◌≡◌, refl, ap, sym, ◌∙◌}
use Rattle.std.specs.Prelude.{Some, Result, Ok, Err, ⊤}
use Rattle.octets.proofs.Refusals.{named, named-told}
use Rattle.message.specs.declared.Fault.{Fault}
use Rattle.message.proofs.Answers.{answered_by}
use Rattle.plan.specs.Setting.{Answered, not_made, set_answer}
use Rattle.plan.specs.Promises.{SetsAnswerSo}

abbrev set_again : Answered → Result ⊤ Fault
set_again a = answered_by (named a.refusal) a.field tt

set-again : (r : Result ⊤ Fault) → set_again (set_answer r) ≡ r
set-again (Ok d) = refl
set-again (Err e) = ap (λ t. answered_by t e.field tt) (named-told (Some e.refusal))

pub sets-answer-so : SetsAnswerSo
unfolding not_made
sets-answer-so =
    record {
      done = refl;
      refused = λ e. refl;
      made = λ rec. refl;
      none_made = λ e. refl;
      apart = λ r s e. sym (set-again r) ∙ ap set_again e ∙ set-again s;
    }
