-- Reading undoes writing: the octets of a frame, as written, through a decoder at rest.
use Prim.Native.Nat.{ℕ, suc, ◌+◌, ◌-◌, ◌≤◌, ◌<◌}
use mathlib.Core.Path.{◌≡◌, refl, sym, ap, subst, ◌∙◌}
use mathlib.Core.Bool.{Bool, true, false}
use mathlib.Core.List.{List, [], ◌∷◌, ◌++◌, append_assoc}
use native.Mathlib.Nat.{zero-add, add-zero, add-suc, suc-add}
use native.Mathlib.Numerals.{add-one}
use native.Mathlib.Omega.{arith}
use borrow.Author.Tests.{eq-eqb, eqb-true, eqb-false, lt-ltb, le-ltb, le-leb, leb-true}
use lib.Dec.{eqb, leb}
use lib.ListN.{length, set, take, drop, replicate, length-append}
use lib.Seq.{sets, sets-eq, take_at, length-sets}
use Rattle.octets.specs.Octet.{Octets}
use Rattle.octets.specs.Word.{high_of, low_of, word_of}
use Rattle.octets.proofs.Laws.{pick-by, both_left, both_right, octets-append}
use Rattle.frame.specs.declared.Kind.{Kind}
use Rattle.frame.specs.declared.Kind.TheVariants.{Message, Ack, Nak}
use Rattle.frame.specs.declared.decoder.Place.{Place}
use Rattle.frame.specs.declared.decoder.Place.TheVariants.{Idle, LoneAa, Seq, AddrHigh, AddrLow, LenHigh, LenLow, Info, InfoAa, CloseAa, Cks}
use Rattle.frame.specs.declared.decoder.Found.TheVariants as found
use Rattle.frame.specs.Frame.{Frame, message, ack, nak, ack_len, nak_len, info_least, kind_of, seq_of, addr_of, len_of, message_len, info_most, len_fits, info_fits, opener, front, front_of, body_of, sent_of, cks_of, twice, doubled, written}
use Rattle.frame.specs.Decoder.{Decoder, Taken, possible_of, after_len, after_info, opened, step_of, taken_of, cks_in, front_in, taken, taken_as}
use Rattle.frame.specs.Run.{Outcome, nothing, sound, outcome_of, outcomes, decoder_after, AtRest, drops, NothingDropped}
use Rattle.frame.specs.Promises.{InOctets, ReadBack, ReadingFramesUndoesWriting}
use Rattle.frame.proofs.Laws.{twice-aa, twice-other, taken-done}
use Rattle.frame.proofs.Fitting.{in-fits}
use Rattle.frame.proofs.Possible.{at, step-possible}

-- the octets take the one decoder to the other; none is dropped, and they bring nothing on the way
pub data Quiet : Decoder → List ℕ → Decoder → Type 0 where
  done : {d : Decoder} → Quiet d [] d
  more : {d e f : Decoder} {x : ℕ} {xs : List ℕ} → drops d.head.place x ≡ false → step_of d x ≡ taken e.head e.info found.Nothing → Quiet e xs f → Quiet d (x ∷ xs) f

pub quiet_then : {d e f : Decoder} {xs ys : List ℕ} → Quiet d xs e → Quiet e ys f → Quiet d (xs ++ ys) f
quiet_then done q = q
quiet_then (more k s p) q = more k s (quiet_then p q)

pub once : {d f : Decoder} {x : ℕ} → drops d.head.place x ≡ false → step_of d x ≡ taken f.head f.info found.Nothing → Quiet d (x ∷ []) f
once k p = more k p done

module _ (s e a n : ℕ) where
  -- one octet of INFO as sent
  twice-by : (t : Bool) (g : ℕ) (l : List ℕ) (x : ℕ) → eqb x 0xAA ≡ t
      → Quiet (at Info Message s e a n g l) (twice x) (at (after_info n (g + 1)) Message s e a n (g + 1) (set l g x))
  unfolding step_of
  twice-by true g l x t =
      let q : Quiet (at InfoAa Message s e a n g l) (0xAA ∷ []) (at (after_info n (g + 1)) Message s e a n (g + 1) (set l g 0xAA)) = once refl refl in
      rw (twice-aa x (eqb-true x 0xAA t), eqb-true x 0xAA t)
      (more refl refl q)
  twice-by false g l x t =
      rw (twice-other x (eqb-false x 0xAA t))
      (once refl (rw t))

  twice-run : (g : ℕ) (l : List ℕ) (x : ℕ) {p : Place} → after_info n (g + 1) ≡ p
      → Quiet (at Info Message s e a n g l) (twice x) (at p Message s e a n (suc g) (set l g x))
  twice-run g l x q = rw (← q, ← add-one g) (twice-by (eqb x 0xAA) g l x refl)

  -- part of INFO from its octet g on: more is to come, so the decoder stays in INFO
  pub info-part : (xs : List ℕ) (g : ℕ) (l : List ℕ) → message_len + (g + length xs) < n
      → Quiet (at Info Message s e a n g l) (doubled xs) (at Info Message s e a n (g + length xs) (sets l g xs))
  unfolding doubled
  info-part [] g l h = rw (add-zero g) done
  info-part (x ∷ xs) g l h =
      rw (add-suc g (length xs), ← suc-add g (length xs))
      (quiet_then (twice-run g l x (rw (lt-ltb (message_len + (g + 1)) n (omega arith))))
      (info-part xs (suc g) (set l g x) (omega arith)))

  -- all of INFO from its octet g on
  pub info-run : (x : ℕ) (xs : List ℕ) (g : ℕ) (l : List ℕ) → message_len + (g + length (x ∷ xs)) ≡ n
      → Quiet (at Info Message s e a n g l) (doubled (x ∷ xs)) (at CloseAa Message s e a n (g + length (x ∷ xs)) (sets l g (x ∷ xs)))
  unfolding doubled
  info-run x [] g l h =
      rw add-one (quiet_then (twice-run g l x (rw (le-ltb (message_len + (g + 1)) n (omega arith)))) done)
  info-run x (y ∷ ys) g l h =
      rw (add-suc g (length (y ∷ ys)), ← suc-add g (length (y ∷ ys)))
      (quiet_then (twice-run g l x (rw (lt-ltb (message_len + (g + 1)) n (omega arith))))
      (info-run y ys (suc g) (set l g x) (omega arith)))

-- a number of two octets comes back
pub word : (a : ℕ) → a < 65536 → word_of (low_of (high_of a)) (low_of a) ≡ a
word a h = omega arith

-- the octet after AA opens its kind
open_kept : (k : Kind) → drops LoneAa (opener k) ≡ false
open_kept Message = refl
open_kept Ack = refl
open_kept Nak = refl

open-run : (k : Kind) (d : Decoder) → d.head.place ≡ LoneAa → step_of d (opener k) ≡ taken_as d (opener k) (opened d.head k found.Nothing)
unfolding step_of
open-run Message d h = rw h
open-run Ack d h = rw h
open-run Nak d h = rw h

-- from the first AA on, octet by octet
module _ (k₀ : Kind) (s₀ e a₀ n₀ g₀ : ℕ) (k : Kind) (s : ℕ) (l : List ℕ) where
  pub lone-run : Quiet (at Idle k₀ s₀ e a₀ n₀ g₀ l) (0xAA ∷ []) (at LoneAa k₀ s₀ e a₀ n₀ g₀ l)
  unfolding step_of
  lone-run = once refl refl

  pub opened-run : Quiet (at Idle k₀ s₀ e a₀ n₀ g₀ l) (0xAA ∷ opener k ∷ []) (at Seq k s₀ e a₀ n₀ g₀ l)
  opened-run = quiet_then lone-run (once (open_kept k) (open-run k (at LoneAa k₀ s₀ e a₀ n₀ g₀ l) refl))

  pub seq-run : Quiet (at Idle k₀ s₀ e a₀ n₀ g₀ l) (0xAA ∷ opener k ∷ s ∷ []) (at AddrHigh k s e a₀ n₀ g₀ l)
  unfolding step_of
  seq-run = quiet_then opened-run (once refl refl)

  pub addr-high-run : (x : ℕ) → Quiet (at Idle k₀ s₀ e a₀ n₀ g₀ l) (0xAA ∷ opener k ∷ s ∷ x ∷ []) (at AddrLow k s e x n₀ g₀ l)
  unfolding step_of
  addr-high-run x = quiet_then seq-run (once refl refl)

  pub addr-run : (a : ℕ) → a < 65536 → Quiet (at Idle k₀ s₀ e a₀ n₀ g₀ l) (0xAA ∷ opener k ∷ s ∷ high_of a ∷ low_of a ∷ []) (at LenHigh k s e a n₀ g₀ l)
  unfolding step_of
  addr-run a ha = quiet_then (addr-high-run (high_of a)) (once refl (rw (word a ha)))

  pub len-high-run : (a : ℕ) → a < 65536 → (x : ℕ) → Quiet (at Idle k₀ s₀ e a₀ n₀ g₀ l) (0xAA ∷ opener k ∷ s ∷ high_of a ∷ low_of a ∷ x ∷ []) (at LenLow k s e a x g₀ l)
  unfolding step_of
  len-high-run a ha x = quiet_then (addr-run a ha) (once refl refl)

-- to LEN, where it is right
module _ (k₀ : Kind) (s₀ e a₀ n₀ g₀ : ℕ) (k : Kind) (s a n : ℕ) (l : List ℕ) (ha : a < 65536) where
  pub front-run : n < 65536 → len_fits k n ≡ true → Quiet (at Idle k₀ s₀ e a₀ n₀ g₀ l) (front k s a n) (at (after_len k) k s e a n 0 l)
  unfolding step_of
  front-run hn f =
      let q : Quiet (at LenLow k s e a (high_of n) g₀ l) (low_of n ∷ []) (at (after_len k) k s e a n 0 l) = once refl (rw (word n hn, f)) in
      quiet_then (len-high-run k₀ s₀ e a₀ n₀ g₀ k s l a ha (high_of n)) q

-- the decoder that has all of a frame but CKS
unfoldable pub ready : Frame → ℕ → List ℕ → Decoder
ready (message s a i) e l = at Cks Message s e a (message_len + length i) (length i) (sets l 0 i)
ready (ack s a) e l = at Cks Ack s e a ack_len 0 l
ready (nak s a e₁) e l = at Cks Nak s e₁ a nak_len 0 l

pub stored-info : (i l : List ℕ) → length i ≤ length l → take (length i) (sets l 0 i) ≡ i
stored-info i l h = rw (sets-eq i l 0 (omega arith)) (take_at i (drop (0 + length i) l) (length i) refl)

-- INFO's length, from either test of it
pub info-bounds : (i : List ℕ) → info_fits (message 0 0 i) ≡ true → (info_least ≤ length i) × (length i ≤ info_most)
info-bounds i h =
    let p = both_left (leb info_least (length i)) (leb (length i) info_most) h in
    let q = both_right (leb info_least (length i)) (leb (length i) info_most) h in
    (leb-true info_least (length i) p, leb-true (length i) info_most q)

pub len-fits : (f : Frame) → info_fits f ≡ true → (len_fits (kind_of f) (len_of f) ≡ true) × (len_of f < 65536)
len-fits (message s a i) h =
    let b = info-bounds i h in
    (rw (le-leb (message_len + info_least) (message_len + length i) (omega arith), le-leb (message_len + length i) (message_len + info_most) (omega arith)), omega arith)
len-fits (ack s a) h = (refl, omega arith)
len-fits (nak s a e) h = (refl, omega arith)

pub addr-octets : (f : Frame) → InOctets f → addr_of f < 65536
addr-octets (message s a i) o = o.1
addr-octets (ack s a) o = o.1
addr-octets (nak s a e) o = o.1

-- all of a frame but CKS
module _ (k₀ : Kind) (s₀ e a₀ n₀ g₀ : ℕ) (l : List ℕ) where
  sent-run : (f : Frame) → info_fits f ≡ true → Quiet (at (after_len (kind_of f)) (kind_of f) (seq_of f) e (addr_of f) (len_of f) 0 l) (sent_of f) (ready f e l)
  unfolding step_of sent_of ready
  sent-run (message s a []) h = let z : ⊥ = omega (arith, info-bounds [] h) in absurd z
  sent-run (message s a (x ∷ xs)) h =
      let b = info-bounds (x ∷ xs) h in
      let n = message_len + length (x ∷ xs) in
      let q : Quiet (at CloseAa Message s e a n (length (x ∷ xs)) (sets l 0 (x ∷ xs))) (0xAA ∷ 0xCC ∷ []) (ready (message s a (x ∷ xs)) e l) = more refl refl (once refl refl) in
      quiet_then (rw zero-add at (info-run s e a n x xs 0 l (omega arith))) q
  sent-run (ack s a) h = done
  sent-run (nak s a e₁) h = once refl refl

  pub most-run : (f : Frame) → info_fits f ≡ true → addr_of f < 65536 → Quiet (at Idle k₀ s₀ e a₀ n₀ g₀ l) (front_of f ++ sent_of f) (ready f e l)
  unfolding front_of
  most-run f h ha =
      let n = len-fits f h in
      quiet_then (front-run k₀ s₀ e a₀ n₀ g₀ (kind_of f) (seq_of f) (addr_of f) (len_of f) l ha n.1 n.0) (sent-run f h)

-- the CKS that the decoder works out is the frame's
pub cks-ready : (f : Frame) (e : ℕ) (l : List ℕ) → info_fits f ≡ true → length l ≡ info_most → cks_in (ready f e l).head (ready f e l).info ≡ cks_of f
unfolding ready cks_in cks_of front_in front_of body_of
cks-ready (message s a i) e l h hl = rw (stored-info i l (omega (arith, info-bounds i h)))
cks-ready (ack s a) e l h hl = refl
cks-ready (nak s a e₁) e l h hl = refl

-- octets that bring nothing, and their end
pub quiet-outcomes : {d e : Decoder} {xs : List ℕ} (ys : List ℕ) → Quiet d xs e → possible_of d.head ≡ true → Octets xs
    → outcomes d (xs ++ ys) ≡ replicate (length xs) nothing ++ outcomes e ys
unfolding outcomes
quiet-outcomes ys done p o = refl
quiet-outcomes {d} ys (more {e = e} {x = x} {xs = xs} _ q r) p o =
    let t : taken_of d x ≡ taken e.head e.info found.Nothing = taken-done d x p ∙ q in
    let p₁ : possible_of e.head ≡ true = rw q at (step-possible d x o.0 p) in
    ap (λ (t : Taken). outcome_of t ∷ outcomes t.decoder (xs ++ ys)) t ∙ ap (λ (l : List Outcome). nothing ∷ l) (quiet-outcomes ys r p₁ o.1)

pub quiet-after : {d e : Decoder} {xs : List ℕ} (ys : List ℕ) → Quiet d xs e → possible_of d.head ≡ true → Octets xs
    → (decoder_after d (xs ++ ys) ≡ decoder_after e ys) × (possible_of e.head ≡ true)
unfolding decoder_after
quiet-after ys done p o = (refl, p)
quiet-after {d} ys (more {e = e} {x = x} {xs = xs} _ q r) p o =
    let t : taken_of d x ≡ taken e.head e.info found.Nothing = taken-done d x p ∙ q in
    let p₁ : possible_of e.head ≡ true = rw q at (step-possible d x o.0 p) in
    let w = quiet-after ys r p₁ o.1 in
    (ap (λ (t : Taken). decoder_after t.decoder (xs ++ ys)) t ∙ w.0, w.1)

pub quiet-undropped : {d e : Decoder} {xs : List ℕ} → Quiet d xs e → possible_of d.head ≡ true → Octets xs → NothingDropped d xs
unfolding NothingDropped
quiet-undropped done p o = tt
quiet-undropped {d} (more {e = e} {x = x} {xs = xs} k q r) p o =
    let t : taken_of d x ≡ taken e.head e.info found.Nothing = taken-done d x p ∙ q in
    let p₁ : possible_of e.head ≡ true = rw q at (step-possible d x o.0 p) in
    (k, ap outcome_of t, subst (λ (t : Taken). NothingDropped t.decoder xs) (sym t) (quiet-undropped r p₁ o.1))

-- all octets of a frame but CKS are octets
pub doubled-octets : (i : List ℕ) → Octets i → Octets (doubled i)
unfolding doubled twice
doubled-octets [] o = o
doubled-octets (x ∷ xs) o =
    octets-append (twice x) (doubled xs)
    (pick-by Octets (eqb x 0xAA) (λ _. (omega arith, (omega arith, tt))) (λ _. (o.0, tt)))
    (doubled-octets xs o.1)

pub opener-octet : (k : Kind) → opener k < 256
opener-octet Message = omega arith
opener-octet Ack = omega arith
opener-octet Nak = omega arith

pub front-octets : (k : Kind) (s a n : ℕ) → s < 256 → a < 65536 → n < 65536 → Octets (front k s a n)
front-octets k s a n hs ha hn = (omega arith, (opener-octet k, (hs, (omega arith, (omega arith, (omega arith, (omega arith, tt)))))))

pub most-octets : (f : Frame) → InOctets f → info_fits f ≡ true → Octets (front_of f ++ sent_of f)
unfolding front_of sent_of
most-octets (message s a i) o h =
    octets-append (front Message s a (message_len + length i)) (doubled i ++ (0xAA ∷ 0xCC ∷ [])) (front-octets Message s a (message_len + length i) o.0 o.1 (len-fits (message s a i) h).1)
    (octets-append (doubled i) (0xAA ∷ 0xCC ∷ []) (doubled-octets i o.2) (omega arith, (omega arith, tt)))
most-octets (ack s a) o h = octets-append (front Ack s a ack_len) [] (front-octets Ack s a ack_len o.0 o.1 (omega arith)) tt
most-octets (nak s a e) o h = octets-append (front Nak s a nak_len) (e ∷ []) (front-octets Nak s a nak_len o.0 o.1 (omega arith)) (o.2, tt)

-- the right CKS brings the frame
sound-step : (f : Frame) (e : ℕ) (l : List ℕ) → info_fits f ≡ true → length l ≡ info_most
    → (outcome_of (step_of (ready f e l) (cks_of f)) ≡ sound f) × AtRest (step_of (ready f e l) (cks_of f)).decoder
unfolding step_of ready
sound-step (message s a i) e l h hl =
    rw (cks-ready (message s a i) e l h hl, eq-eqb (cks_of (message s a i)) (cks_of (message s a i)) refl)
    (ap (λ (v : List ℕ). sound (message s a v)) (stored-info i l (omega (arith, info-bounds i h))), record { idle = refl; long = length-sets l 0 i ∙ hl })
sound-step (ack s a) e l h hl =
    rw (cks-ready (ack s a) e l h hl, eq-eqb (cks_of (ack s a)) (cks_of (ack s a)) refl) (refl, record { idle = refl; long = hl })
sound-step (nak s a e₁) e l h hl =
    rw (cks-ready (nak s a e₁) e l h hl, eq-eqb (cks_of (nak s a e₁)) (cks_of (nak s a e₁)) refl) (refl, record { idle = refl; long = hl })

pub whole : (f : Frame) → written f ≡ (front_of f ++ sent_of f) ++ (cks_of f ∷ [])
unfolding written
whole f = sym (append_assoc (front_of f) (sent_of f) (cks_of f ∷ []))

-- octets that bring nothing, and one more
module _ {d e : Decoder} {xs : List ℕ} (x : ℕ) (q : Quiet d xs e) (p : possible_of d.head ≡ true) (o : Octets xs) where
  pub end-outcome : {z : Outcome} → outcome_of (step_of e x) ≡ z
      → outcomes d (xs ++ (x ∷ [])) ≡ replicate (length (xs ++ (x ∷ [])) - 1) nothing ++ (z ∷ [])
  unfolding outcomes
  end-outcome {z} h =
      let n : length (xs ++ (x ∷ [])) - 1 ≡ length xs = omega (arith, length-append xs (x ∷ [])) in
      let t = taken-done e x (quiet-after [] q p o).1 in
      rw n (quiet-outcomes (x ∷ []) q p o ∙ ap (λ (u : Outcome). replicate (length xs) nothing ++ (u ∷ [])) (ap outcome_of t ∙ h))

  pub end_after : decoder_after d (xs ++ (x ∷ [])) ≡ (step_of e x).decoder
  unfolding decoder_after
  end_after = (quiet-after (x ∷ []) q p o).0 ∙ ap (λ (t : Taken). t.decoder) (taken-done e x (quiet-after [] q p o).1)

read_back : (k₀ : Kind) (s₀ e a₀ n₀ g₀ : ℕ) (l : List ℕ) (f : Frame) → length l ≡ info_most → InOctets f → info_fits f ≡ true → ReadBack (at Idle k₀ s₀ e a₀ n₀ g₀ l) f
unfolding possible_of
read_back k₀ s₀ e a₀ n₀ g₀ l f hl o h =
    let q = most-run k₀ s₀ e a₀ n₀ g₀ l f h (addr-octets f o) in
    let v = most-octets f o h in
    let y = sound-step f e l h hl in
    record { outcome = rw (whole f) (end-outcome (cks_of f) q refl v y.0); rest = rw (whole f, end_after (cks_of f) q refl v) y.1 }

pub reading-undoes-writing : ReadingFramesUndoesWriting
reading-undoes-writing d f r o h =
    let q = d.head in
    subst (λ (p : Place). ReadBack (at p q.kind q.seq q.err q.addr q.len q.filled d.info) f) (sym r.idle)
    (read_back q.kind q.seq q.err q.addr q.len q.filled d.info f r.long o (in-fits f h))
