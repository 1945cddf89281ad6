-- Refusals 1 to 3, "when": the octets of a frame that is to be refused, through a decoder at rest.
use Prim.Native.Nat.{ℕ, ◌+◌, ◌-◌, ◌≤◌, ◌<◌}
use mathlib.Core.Path.{◌≡◌, refl, sym, subst}
use mathlib.Core.Bool.{true, false}
use mathlib.Core.List.{List, [], ◌∷◌, ◌++◌, append_assoc}
use native.Mathlib.Nat.{zero-add}
use native.Mathlib.Omega.{arith}
use borrow.Author.Tests.{ne_eqb, eqb-true, leb-true}
use lib.Dec.{eqb, leb}
use lib.ListN.{length, replicate}
use lib.Seq.{sets}
use Rattle.octets.specs.Octet.{Octets}
use Rattle.octets.specs.Refusal as refusal
use Rattle.octets.specs.declared.refusal.Refusal.TheVariants as why
use Rattle.octets.specs.Word.{high_of, low_of}
use Rattle.octets.proofs.Laws.{pick-by, both_right, octets-left}
use Rattle.frame.specs.declared.Kind.{Kind}
use Rattle.frame.specs.declared.Kind.TheVariants.{Message, Ack, Nak}
use Rattle.frame.specs.declared.decoder.Place.{Place}
use Rattle.frame.specs.declared.decoder.Place.TheVariants.{Idle, LenLow, Info, InfoAa, CloseAa, CloseCc}
use Rattle.frame.specs.declared.decoder.Found.{Found}
use Rattle.frame.specs.declared.decoder.Found.TheVariants as found
use Rattle.frame.specs.declared.decoder.Stepped.{Stepped}
use Rattle.frame.specs.Frame.{Frame, message, ack, nak, kind_of, seq_of, addr_of, len_of, message_len, info_most, len_fits, info_fits, opener, front, front_of, sent_of, cks_of, doubled}
use Rattle.frame.specs.Decoder.{Decoder, possible_of, after_aa, step_of, taken_as}
use Rattle.frame.specs.Run.{Outcome, nothing, refused, found_means, outcome_of, outcomes}
use Rattle.frame.specs.Promises.{Refusable, len_message, len_ack, len_nak, doubling, closing_aa, closing_cc, cks_message, cks_ack, cks_nak, RefusedWhen}
use Rattle.frame.proofs.Laws.{message-len}
use Rattle.frame.proofs.Fitting.{in-fits, len-message, len-not-message}
use Rattle.frame.proofs.Possible.{at}
use Rattle.frame.proofs.Reading.{Quiet, once, quiet_then, word, info-part, info-run, len-high-run, front-run, ready, most-run, cks-ready, end-outcome}

-- what an octet after AA finds is what was found before it
pub after-aa-outcome : (d : Decoder) (b : ℕ) (f : Found) → outcome_of (taken_as d b (after_aa d.head b f)) ≡ found_means f d.info
after-aa-outcome d b f =
    let P : Stepped → Type 0 = λ t. outcome_of (taken_as d b t) ≡ found_means f d.info in
    pick-by P (eqb b 0xAA) (λ _. refl)
    (λ _. pick-by P (eqb b 0xBB) (λ _. refl)
    (λ _. pick-by P (eqb b 0xDD) (λ _. refl)
    (λ _. pick-by P (eqb b 0xEE) (λ _. refl) (λ _. refl))))

-- ADDR and LEN are of two octets each
front-words : (k : Kind) (s a n : ℕ) (ys : List ℕ) → Octets (front k s a n ++ ys) → (a < 65536) × (n < 65536)
front-words k s a n ys o = (omega (arith, o.1.1.1.0), omega (arith, o.1.1.1.1.1.0))

pub addr-front : (f : Frame) (ys : List ℕ) → Octets (front_of f ++ ys) → addr_of f < 65536
unfolding front_of
addr-front f ys o = (front-words (kind_of f) (seq_of f) (addr_of f) (len_of f) ys o).0

len-most : (n : ℕ) → len_fits Message n ≡ true → n ≤ message_len + info_most
len-most n h = leb-true n 266 (both_right (leb 12 n) (leb n 266) h)

module _ (k₀ : Kind) (s₀ e a₀ n₀ g₀ : ℕ) (l : List ℕ) (hl : length l ≡ info_most) where
  -- INFO's octets i, all or not all of them
  pub closed_run : (s a n : ℕ) (i : List ℕ) → a < 65536 → len_fits Message n ≡ true → message_len + length i ≡ n
      → Quiet (at Idle k₀ s₀ e a₀ n₀ g₀ l) (front Message s a n ++ doubled i) (at CloseAa Message s e a n (length i) (sets l 0 i))
  closed_run s a n [] ha f h = let z : ⊥ = omega (arith, message-len n f) in absurd z
  closed_run s a n (x ∷ xs) ha f h =
      let m = len-most n f in
      quiet_then (front-run k₀ s₀ e a₀ n₀ g₀ Message s a n l ha (omega arith) f)
      (rw zero-add at (info-run s e a n x xs 0 l (omega arith)))

  pub open-run : (s a n : ℕ) (i : List ℕ) → a < 65536 → len_fits Message n ≡ true → message_len + length i < n
      → Quiet (at Idle k₀ s₀ e a₀ n₀ g₀ l) (front Message s a n ++ doubled i) (at Info Message s e a n (length i) (sets l 0 i))
  open-run s a n i ha f h =
      let m = len-most n f in
      quiet_then (front-run k₀ s₀ e a₀ n₀ g₀ Message s a n l ha (omega arith) f)
      (rw zero-add at (info-part s e a n i 0 l (omega arith)))

  abbrev rest : Decoder
  rest = at Idle k₀ s₀ e a₀ n₀ g₀ l

  -- the last octet, at each place that refuses
  doubling-step : (s a n g x : ℕ) (i : List ℕ) → (x ≡ 0xAA → ⊥) → outcome_of (step_of (at InfoAa Message s e a n g i) x) ≡ refused refusal.closing_wrong Message s a
  unfolding step_of
  doubling-step s a n g x i h =
      pick-by (λ (t : Stepped). outcome_of (taken_as (at InfoAa Message s e a n g i) x t) ≡ refused refusal.closing_wrong Message s a) (eqb x 0xAA) (λ t. absurd (h (eqb-true x 0xAA t)))
      (λ _. after-aa-outcome (at InfoAa Message s e a n g i) x (found.Refused why.ClosingWrong Message s a))

  closing-step : (s a n g x : ℕ) (i : List ℕ) → (x ≡ 0xCC → ⊥) → outcome_of (step_of (at CloseCc Message s e a n g i) x) ≡ refused refusal.closing_wrong Message s a
  unfolding step_of
  closing-step s a n g x i h = rw (ne_eqb x 0xCC h) (after-aa-outcome (at CloseCc Message s e a n g i) x (found.Refused why.ClosingWrong Message s a))

  cks-step : (f : Frame) (x : ℕ) → info_fits f ≡ true → (x ≡ cks_of f → ⊥) → outcome_of (step_of (ready f e l) x) ≡ refused refusal.cks_wrong (kind_of f) (seq_of f) (addr_of f)
  unfolding step_of ready
  cks-step (message s a i) x h hx = rw (cks-ready (message s a i) e l h hl, ne_eqb (cks_of (message s a i)) x (λ q. hx (sym q)))
  cks-step (ack s a) x h hx = rw (cks-ready (ack s a) e l h hl, ne_eqb (cks_of (ack s a)) x (λ q. hx (sym q)))
  cks-step (nak s a e₁) x h hx = rw (cks-ready (nak s a e₁) e l h hl, ne_eqb (cks_of (nak s a e₁)) x (λ q. hx (sym q)))

  abbrev Says : List ℕ → Outcome → Type 0
  Says os z = outcomes rest os ≡ replicate (length os - 1) nothing ++ (z ∷ [])

  -- octets parted into those that bring nothing and the last
  says : {d : Decoder} (xs : List ℕ) (x : ℕ) {os : List ℕ} {z : Outcome} → xs ++ (x ∷ []) ≡ os → Octets os → Quiet rest xs d → outcome_of (step_of d x) ≡ z → Says os z
  unfolding possible_of
  says xs x p o q h = rw (← p) (end-outcome x q refl (octets-left xs (x ∷ []) (rw (← p) at o)) h)

  len-says : (k : Kind) (s a n : ℕ) → len_fits k n ≡ false → Octets (front k s a n) → Says (front k s a n) (refused refusal.len_wrong k s a)
  unfolding step_of
  len-says k s a n f o =
      let w = front-words k s a n [] o in
      let h : outcome_of (step_of (at LenLow k s e a (high_of n) g₀ l) (low_of n)) ≡ refused refusal.len_wrong k s a = rw (word n w.1, f) in
      says (0xAA ∷ opener k ∷ s ∷ high_of a ∷ low_of a ∷ high_of n ∷ []) (low_of n) refl o (len-high-run k₀ s₀ e a₀ n₀ g₀ k s l a w.0 (high_of n)) h

  cks-says : (f : Frame) (x : ℕ) → info_fits f ≡ true → (x ≡ cks_of f → ⊥) → {os : List ℕ} → (front_of f ++ sent_of f) ++ (x ∷ []) ≡ os → Octets os
      → Says os (refused refusal.cks_wrong (kind_of f) (seq_of f) (addr_of f))
  cks-says f x h hx p o =
      let q = append_assoc (front_of f) (sent_of f) (x ∷ []) in
      let ha = addr-front f (sent_of f ++ (x ∷ [])) (rw (← q, p) o) in
      says (front_of f ++ sent_of f) x p o (most-run k₀ s₀ e a₀ n₀ g₀ l f h ha) (cks-step f x h hx)

  refuses : {n : ℕ} {k : Kind} {s a : ℕ} {os : List ℕ} → Octets os → Refusable n k s a os → Says os (refused n k s a)
  unfolding step_of front_of sent_of
  refuses o (len_message s a n z) = len-says Message s a n (len-not-message n z) o
  refuses o (len_ack s a n z) = len-says Ack s a n (ne_eqb n 8 z) o
  refuses o (len_nak s a n z) = len-says Nak s a n (ne_eqb n 9 z) o
  refuses o (doubling s a n x i least most h hx) =
      let f = len-message n least most in
      let w = front-words Message s a n (doubled i ++ (0xAA ∷ x ∷ [])) o in
      let q : Quiet (at Info Message s e a n (length i) (sets l 0 i)) (0xAA ∷ []) (at InfoAa Message s e a n (length i) (sets l 0 i)) = once refl refl in
      says ((front Message s a n ++ doubled i) ++ (0xAA ∷ [])) x (simp append_assoc) o
      (quiet_then (open-run s a n i w.0 f h) q) (doubling-step s a n (length i) x (sets l 0 i) hx)
  refuses o (closing_aa s a x i least most hx) =
      let n = 10 + length i in
      let f = len-message n (omega arith) (omega arith) in
      let w = front-words Message s a n (doubled i ++ (x ∷ [])) o in
      says (front Message s a n ++ doubled i) x (simp append_assoc) o (closed_run s a n i w.0 f refl) (rw (ne_eqb x 0xAA hx))
  refuses o (closing_cc s a x i least most hx) =
      let n = 10 + length i in
      let f = len-message n (omega arith) (omega arith) in
      let w = front-words Message s a n (doubled i ++ (0xAA ∷ x ∷ [])) o in
      let q : Quiet (at CloseAa Message s e a n (length i) (sets l 0 i)) (0xAA ∷ []) (at CloseCc Message s e a n (length i) (sets l 0 i)) = once refl refl in
      says ((front Message s a n ++ doubled i) ++ (0xAA ∷ [])) x (simp append_assoc) o
      (quiet_then (closed_run s a n i w.0 f refl) q) (closing-step s a n (length i) x (sets l 0 i) hx)
  refuses o (cks_message s a x i least most hx) = cks-says (message s a i) x (in-fits (message s a i) (least, most)) hx (simp append_assoc) o
  refuses o (cks_ack s a x hx) = cks-says (ack s a) x refl hx refl o
  refuses o (cks_nak s a e₁ x hx) = cks-says (nak s a e₁) x refl hx refl o

pub refused-when : RefusedWhen
refused-when d n k s a os r o w =
    let q = d.head in
    subst (λ (p : Place). outcomes (at p q.kind q.seq q.err q.addr q.len q.filled d.info) os ≡ replicate (length os - 1) nothing ++ (refused n k s a ∷ [])) (sym r.idle)
    (refuses q.kind q.seq q.err q.addr q.len q.filled d.info r.long o w)
