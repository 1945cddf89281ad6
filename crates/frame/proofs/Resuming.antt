-- Where the decoder is in idle and after a lone AA, and after a refusal or a sound frame, place by place.
use Prim.Native.Nat.{ℕ}
use mathlib.Core.Path.{◌≡◌, refl}
use mathlib.Core.Bool.{Bool, true, false}
use borrow.Author.Tests.{ne_eqb, eqb-false, not-true}
use lib.Dec.{eqb}
use Rattle.octets.specs.Choice.{pick}
use Rattle.octets.specs.declared.refusal.Refusal.TheVariants as why
use Rattle.octets.specs.Word.{low_of, word_of}
use Rattle.octets.proofs.Laws.{pick-by, clash}
use Rattle.frame.specs.declared.decoder.Place.{Place}
use Rattle.frame.specs.declared.decoder.Place.TheVariants.{Idle, LoneAa, Seq, AddrHigh, AddrLow, LenHigh, LenLow, Info, InfoAa, CloseAa, CloseCc, Err, Cks}
use Rattle.frame.specs.declared.decoder.Found.{Found}
use Rattle.frame.specs.declared.decoder.Found.TheVariants as found
use Rattle.frame.specs.declared.decoder.Stepped.{Stepped}
use Rattle.frame.specs.Frame.{len_fits}
use Rattle.frame.specs.Decoder.{Decoder, possible_of, idle_drops, after_aa, refused_by, step_of, step_at, taken_as, taken_of, cks_in}
use Rattle.frame.specs.Run.{nothing, outcome_of}
use Rattle.frame.specs.Promises.{placed_at, Waits, resumed_at, Resumes}
use Rattle.frame.proofs.Laws.{taken-done}
use Rattle.frame.proofs.Refusing.{after-aa-outcome}

pub said-only : (b : ℕ) (p : Place) → idle_drops p b ≡ true → (p ≡ Idle) × (b ≡ 0xAA → ⊥)
said-only b Idle h = (refl, eqb-false b 0xAA (not-true (eqb b 0xAA) h))
said-only b LoneAa h = absurd (clash refl h)
said-only b Seq h = absurd (clash refl h)
said-only b AddrHigh h = absurd (clash refl h)
said-only b AddrLow h = absurd (clash refl h)
said-only b LenHigh h = absurd (clash refl h)
said-only b LenLow h = absurd (clash refl h)
said-only b Info h = absurd (clash refl h)
said-only b InfoAa h = absurd (clash refl h)
said-only b CloseAa h = absurd (clash refl h)
said-only b CloseCc h = absurd (clash refl h)
said-only b Err h = absurd (clash refl h)
said-only b Cks h = absurd (clash refl h)

pub waits : Waits
unfolding taken_of step_of possible_of
waits d =
    record {
      remembered = refl;
      dropped = λ b aa. rw (ne_eqb b 0xAA aa);
      opens_message = refl;
      opens_ack = refl;
      opens_nak = refl;
      stays = refl;
      returns = λ b bb dd ee aa. rw (ne_eqb b 0xAA aa, ne_eqb b 0xBB bb, ne_eqb b 0xDD dd, ne_eqb b 0xEE ee);
      said_dropped = λ b aa. rw (ne_eqb b 0xAA aa);
      said_only = λ b. said-only b d.head.place;
    }

-- two choices by one test
pub pick_two : {A : Type 0} (R : A → A → Type 0) (t : Bool) {a b a' b' : A} → R a a' → R b b' → R (pick t a b) (pick t a' b')
pick_two R true p q = p
pick_two R false p q = q

module _ (d : Decoder) (b : ℕ) where
  -- after an AA the octet goes by itself, whatever stood before
  abbrev Same : Stepped → Stepped → Type 0
  Same t u = (taken_as d b t).decoder ≡ (taken_as (placed_at LoneAa d) b u).decoder

  aa-same : (f : Found) → Same (after_aa d.head b f) (after_aa (placed_at LoneAa d).head b found.Nothing)
  aa-same f =
      pick_two Same (eqb b 0xAA) refl (pick_two Same (eqb b 0xBB) refl (pick_two Same (eqb b 0xDD) refl (pick_two Same (eqb b 0xEE) refl refl)))

  aa-resumed : (f : Found) → (taken_as d b (after_aa d.head b f)).decoder ≡ (taken_of (placed_at LoneAa d) b).decoder
  unfolding taken_of step_of possible_of
  aa-resumed f = aa-same f

  abbrev Resumed : Place → Stepped → Type 0
  Resumed p t = let u = taken_as d b t in (outcome_of u ≡ nothing → ⊥) → u.decoder ≡ resumed_at p d b

  -- where nothing is brought nothing is asked
  resumed-at : (p : Place) → Resumed p (step_at p d.head d.info b)
  resumed-at Idle = pick-by (Resumed Idle) (eqb b 0xAA) (λ _ h. absurd (h refl)) (λ _ h. absurd (h refl))
  resumed-at LoneAa = λ h. absurd (h (after-aa-outcome d b found.Nothing))
  resumed-at Seq = λ h. absurd (h refl)
  resumed-at AddrHigh = λ h. absurd (h refl)
  resumed-at AddrLow = λ h. absurd (h refl)
  resumed-at LenHigh = λ h. absurd (h refl)
  resumed-at LenLow = pick-by (Resumed LenLow) (len_fits d.head.kind (word_of (low_of d.head.len) b)) (λ _ h. absurd (h refl)) (λ _ h. refl)
  resumed-at Info = pick-by (Resumed Info) (eqb b 0xAA) (λ _ h. absurd (h refl)) (λ _ h. absurd (h refl))
  resumed-at InfoAa = pick-by (Resumed InfoAa) (eqb b 0xAA) (λ _ h. absurd (h refl)) (λ _ h. aa-resumed (refused_by d.head why.ClosingWrong))
  resumed-at CloseAa = pick-by (Resumed CloseAa) (eqb b 0xAA) (λ _ h. absurd (h refl)) (λ _ h. refl)
  resumed-at CloseCc = pick-by (Resumed CloseCc) (eqb b 0xCC) (λ _ h. absurd (h refl)) (λ _ h. aa-resumed (refused_by d.head why.ClosingWrong))
  resumed-at Err = λ h. absurd (h refl)
  resumed-at Cks = pick-by (Resumed Cks) (eqb (cks_in d.head d.info) b) (λ _ h. refl) (λ _ h. refl)

pub resumes : Resumes
unfolding step_of
resumes d b p = rw (taken-done d b p) (resumed-at d b d.head.place)
