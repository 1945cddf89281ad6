-- What an octet can find: nothing, a frame refused 1 to 3, or a sound frame, whose INFO is 2 to 256 octets. What holds of
-- each of these holds of whatever it finds.
use Prim.Native.Nat.{ℕ, ◌-◌, ◌≤◌}
use mathlib.Core.Path.{◌≡◌}
use mathlib.Core.Bool.{true}
use mathlib.Core.List.{List}
use native.Mathlib.Omega.{arith}
use borrow.Author.Tests.{eqb-true, leb-true}
use lib.Dec.{eqb, leb}
use Rattle.octets.specs.Refusal as refusal
use Rattle.octets.specs.Refusals.{refusal_number}
use Rattle.octets.specs.declared.refusal.Refusal.{Refusal}
use Rattle.octets.specs.declared.refusal.Refusal.TheVariants as why
use Rattle.octets.specs.Word.{low_of, word_of}
use Rattle.octets.proofs.Laws.{pick-by, both_left, both_right}
use Rattle.frame.specs.declared.Kind.{Kind}
use Rattle.frame.specs.declared.Kind.TheVariants.{Message, Ack, Nak}
use Rattle.frame.specs.declared.decoder.Place.{Place}
use Rattle.frame.specs.declared.decoder.Place.TheVariants.{Idle, LoneAa, Seq, AddrHigh, AddrLow, LenHigh, LenLow, Info, InfoAa, CloseAa, CloseCc, Err, Cks}
use Rattle.frame.specs.declared.decoder.Head.{Head}
use Rattle.frame.specs.declared.decoder.Found.{Found}
use Rattle.frame.specs.declared.decoder.Found.TheVariants as found
use Rattle.frame.specs.declared.decoder.Stepped.{Stepped}
use Rattle.frame.specs.Frame.{len_fits, message_len, info_least, info_most}
use Rattle.frame.specs.Decoder.{Decoder, head_of, possible_of, cks_due, after_aa, cks_in, step_at, step_of, taken_of}
use Rattle.frame.proofs.Laws.{message-len, taken-done}

pub record Findable (P : Found → Type 0) : Type 0 where
  pub nothing : P found.Nothing
  pub refused : (r : Refusal) (k : Kind) (s a : ℕ) → refusal_number r ≤ refusal.len_wrong → P (found.Refused r k s a)
  pub message : (s a n : ℕ) → info_least ≤ n → n ≤ info_most → P (found.Message s a n)
  pub ack : (s a : ℕ) → P (found.Ack s a)
  pub nak : (s a e : ℕ) → P (found.Nak s a e)

module _ {P : Found → Type 0} (w : Findable P) where
  abbrev Finds : Stepped → Type 0
  Finds t = P t.found

  after-aa : (h : Head) (b : ℕ) (f : Found) → P f → Finds (after_aa h b f)
  after-aa h b f p =
      pick-by Finds (eqb b 0xAA) (λ _. p)
      (λ _. pick-by Finds (eqb b 0xBB) (λ _. p)
      (λ _. pick-by Finds (eqb b 0xDD) (λ _. p)
      (λ _. pick-by Finds (eqb b 0xEE) (λ _. p) (λ _. p))))

  module _ (s e a n g : ℕ) (l : List ℕ) (b : ℕ) where
    at-cks : (k : Kind) → cks_due k n g ≡ true → Finds (step_at Cks (head_of Cks k s e a n g) l b)
    at-cks Message h =
        let f = both_left (len_fits Message n) (eqb g (n - message_len)) h in
        let q = eqb-true g (n - message_len) (both_right (len_fits Message n) (eqb g (n - message_len)) h) in
        let least = message-len n f in
        let most = leb-true n 266 (both_right (leb 12 n) (leb n 266) f) in
        pick-by Finds (eqb (cks_in (head_of Cks Message s e a n g) l) b) (λ _. w.message s a g (omega arith) (omega arith)) (λ _. w.refused _ _ _ _ (omega arith))
    at-cks Ack h = pick-by Finds (eqb (cks_in (head_of Cks Ack s e a n g) l) b) (λ _. w.ack s a) (λ _. w.refused _ _ _ _ (omega arith))
    at-cks Nak h = pick-by Finds (eqb (cks_in (head_of Cks Nak s e a n g) l) b) (λ _. w.nak s a e) (λ _. w.refused _ _ _ _ (omega arith))

    found_at : (p : Place) (k : Kind) → possible_of (head_of p k s e a n g) ≡ true → Finds (step_at p (head_of p k s e a n g) l b)
    unfolding possible_of
    found_at Idle k h = pick-by Finds (eqb b 0xAA) (λ _. w.nothing) (λ _. w.nothing)
    found_at LoneAa k h = after-aa (head_of LoneAa k s e a n g) b found.Nothing w.nothing
    found_at Seq k h = w.nothing
    found_at AddrHigh k h = w.nothing
    found_at AddrLow k h = w.nothing
    found_at LenHigh k h = w.nothing
    found_at LenLow k h = pick-by Finds (len_fits k (word_of (low_of n) b)) (λ _. w.nothing) (λ _. w.refused _ _ _ _ (omega arith))
    found_at Info k h = pick-by Finds (eqb b 0xAA) (λ _. w.nothing) (λ _. w.nothing)
    found_at InfoAa k h = pick-by Finds (eqb b 0xAA) (λ _. w.nothing) (λ _. after-aa (head_of InfoAa k s e a n g) b (found.Refused why.ClosingWrong k s a) (w.refused _ _ _ _ (omega arith)))
    found_at CloseAa k h = pick-by Finds (eqb b 0xAA) (λ _. w.nothing) (λ _. w.refused _ _ _ _ (omega arith))
    found_at CloseCc k h = pick-by Finds (eqb b 0xCC) (λ _. w.nothing) (λ _. after-aa (head_of CloseCc k s e a n g) b (found.Refused why.ClosingWrong k s a) (w.refused _ _ _ _ (omega arith)))
    found_at Err k h = w.nothing
    found_at Cks k h = at-cks k h

  pub finds : (d : Decoder) (b : ℕ) → possible_of d.head ≡ true → P (taken_of d b).found
  unfolding step_of
  finds d b h =
      let q = d.head in
      rw (taken-done d b h) (found_at q.seq q.err q.addr q.len q.filled d.info b q.place q.kind h)
