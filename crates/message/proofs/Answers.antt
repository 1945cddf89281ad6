-- The answer of the numbers is the one that they came from: a refusal's number is none but its own.
use mathlib.Core.Path.{◌≡◌, refl, ap, sym, ◌∙◌}
use Rattle.std.specs.Prelude.{ℕ, Option, Some, None, Result, Ok, Err}
use Rattle.octets.specs.declared.refusal.Refusal.{Refusal}
use Rattle.octets.proofs.Refusals.{named, named-told}
use Rattle.message.specs.declared.Fault.{Fault}
use Rattle.message.specs.declared.Message.{Message}
use Rattle.message.specs.Reader.{Read, not_read, no_message, reading_of}
use Rattle.message.specs.Values.{zeros}
use Rattle.message.specs.Promises.{ReadersAnswerSo}

-- the answer of a refusal, a field and a message
abbrev pub answered_by : {T : Type 0} → Option Refusal → ℕ → T → Result T Fault
answered_by None field x = Ok x
answered_by (Some r) field x = Err (record { refusal = r; field = field })

abbrev read_again : Read → Result Message Fault
read_again r = answered_by (named r.refusal) r.field r.message

read-again : (r : Result Message Fault) → read_again (reading_of r) ≡ r
unfolding not_read
read-again (Ok m) = refl
read-again (Err e) = ap (λ t. answered_by t e.field no_message) (named-told (Some e.refusal))

pub readers-answer-so : ReadersAnswerSo
unfolding not_read no_message zeros
readers-answer-so =
    record {
      read = λ m. refl;
      refused = λ e. refl;
      apart = λ r s e. sym (read-again r) ∙ ap read_again e ∙ read-again s;
    }
