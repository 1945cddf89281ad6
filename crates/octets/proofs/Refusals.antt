-- The refusals are 01's numbers: by computation. A number names one refusal at most: from it the refusal is told again.
use Prim.Native.Nat.{ℕ}
use mathlib.Core.Path.{◌≡◌, refl, ap, sym, ◌∙◌}
use Rattle.std.specs.Prelude.{List, [], ◌∷◌, get_or, Option, Some, None, Result, Ok, Err}
use Rattle.octets.specs.declared.refusal.Refusal.{Refusal}
use Rattle.octets.specs.declared.refusal.Refusal.TheVariants.{CksWrong, ClosingWrong, LenWrong, InfoWrong, FieldWrong, StartWrong, StateUnsound, BookWrong, OutputShort, CodeNotHandled, InfoLengthWrong, OutOfRange, NotReady, Disagree, SenderBusy, WaitWrong}
use Rattle.octets.specs.Refusal.{RefusalsAsSaid}
use Rattle.octets.specs.Refusals.{told_number, RefusalsNamedSo}
use Rattle.octets.specs.Writing.{Written, written_of}
use Rattle.octets.specs.Promises.{WritersAnswerSo}

pub refusals-as-said : RefusalsAsSaid
refusals-as-said = (refl, refl, refl, refl, refl, refl, refl, refl, refl, refl, refl, refl, refl, refl, refl, refl, refl)

-- the refusals in the order of their numbers
abbrev pub in_order : List (Option Refusal)
in_order =
    None ∷ Some CksWrong ∷ Some ClosingWrong ∷ Some LenWrong ∷ Some InfoWrong ∷ Some FieldWrong ∷ Some StartWrong ∷ Some StateUnsound ∷ Some BookWrong ∷ Some OutputShort ∷ Some CodeNotHandled ∷ Some InfoLengthWrong ∷ Some OutOfRange ∷ Some NotReady ∷ Some Disagree ∷ Some SenderBusy ∷ None ∷ Some WaitWrong ∷ []

abbrev pub named : ℕ → Option Refusal
named n = get_or in_order n None

pub named-told : (r : Option Refusal) → named (told_number r) ≡ r
named-told None = refl
named-told (Some CksWrong) = refl
named-told (Some ClosingWrong) = refl
named-told (Some LenWrong) = refl
named-told (Some InfoWrong) = refl
named-told (Some FieldWrong) = refl
named-told (Some StartWrong) = refl
named-told (Some StateUnsound) = refl
named-told (Some BookWrong) = refl
named-told (Some OutputShort) = refl
named-told (Some CodeNotHandled) = refl
named-told (Some InfoLengthWrong) = refl
named-told (Some OutOfRange) = refl
named-told (Some NotReady) = refl
named-told (Some Disagree) = refl
named-told (Some SenderBusy) = refl
named-told (Some WaitWrong) = refl

pub told-apart : (r s : Option Refusal) → told_number r ≡ told_number s → r ≡ s
told-apart r s e = sym (named-told r) ∙ ap named e ∙ named-told s

pub refusals-named-so : RefusalsNamedSo
refusals-named-so =
    record {
      numbers = (refl, refl, refl, refl, refl, refl, refl, refl, refl, refl, refl, refl, refl, refl, refl, refl);
      none = refl;
      some = λ r. refl;
      apart = told-apart;
    }

-- the answer of the numbers
abbrev answered : Option Refusal → ℕ → Result ℕ Refusal
answered None n = Ok n
answered (Some r) n = Err r

abbrev answer_again : Written → Result ℕ Refusal
answer_again w = answered (named w.refusal) w.count

answered-again : (r : Result ℕ Refusal) → answer_again (written_of r) ≡ r
answered-again (Ok n) = refl
answered-again (Err r) = ap (λ t. answered t 0) (named-told (Some r))

pub written-apart : (r s : Result ℕ Refusal) → written_of r ≡ written_of s → r ≡ s
written-apart r s e = sym (answered-again r) ∙ ap answer_again e ∙ answered-again s

pub writers-answer-so : WritersAnswerSo
writers-answer-so = record { stored = λ n. (refl, refl); refused = λ r. (refl, refl); apart = written-apart }
