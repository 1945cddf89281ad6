-- The octets that belong to no sound frame, counted: at every place as many octets are open as the decoder's own fields tell, and what is held no longer
-- is noise, or a frame as written.
use Prim.Native.Nat.{ℕ, ◌+◌, ◌-◌, ◌≤◌, ◌<◌}
use mathlib.Core.Path.{◌≡◌, refl, sym, ap, subst, ◌∙◌}
use mathlib.Core.Bool.{true, false}
use mathlib.Core.List.{List, [], ◌∷◌, ◌++◌}
use native.Mathlib.Omega.{arith}
use native.Mathlib.Decide.{dec_le}
use borrow.Author.Tests.{le-leb, leb-true}
use lib.Dec.{leb}
use lib.ListN.{length, take, drop, set, length-append}
use Rattle.octets.specs.Octet.{Octets}
use Rattle.octets.proofs.Laws.{pick-by, clash}
use Rattle.frame.specs.declared.Kind.{Kind}
use Rattle.frame.specs.declared.Kind.TheVariants.{Message, Ack, Nak}
use Rattle.frame.specs.declared.decoder.Place.{Place}
use Rattle.frame.specs.declared.decoder.Place.TheVariants.{Idle, LoneAa, Seq, AddrHigh, AddrLow, LenHigh, LenLow, Info, InfoAa, CloseAa, CloseCc, Err, Cks}
use Rattle.frame.specs.declared.decoder.Head.{Head}
use Rattle.frame.specs.declared.decoder.Found.{Found}
use Rattle.frame.specs.declared.decoder.Found.TheVariants as found
use Rattle.frame.specs.declared.decoder.Stepped.{Stepped}
use Rattle.frame.specs.Frame.{Frame, message, ack, nak, front, doubled, info_most}
use Rattle.frame.specs.Decoder.{Decoder, Taken, possible_of, idle_drops, step_at, taken, taken_of, idled_of}
use Rattle.frame.specs.Run.{nothing, sound, found_means, outcome_of, decoder_after, AtRest, drops, NothingDropped}
use Rattle.frame.specs.Dropped.{waits, open_at, open_in, open_of, dropped_most, stopped, number_then, OpenThen, Counted, number_told, number_kept, counted_as, counted_of, idle_counted, fresh_receiver}
use Rattle.frame.specs.Promises.{parts_at, parts_of}
use Rattle.frame.specs.Noise.{Stops, OpenAsSaid, OctetCounts, IdleCounts, CallsCount}
use Rattle.frame.proofs.Laws.{possible-at, taken-7, taken_as_lem, taken-dropped, idled-7, keeps_on}
use Rattle.frame.proofs.Agreeing.{part}
use Rattle.frame.proofs.Reaching.{led-clean}
use Rattle.frame.proofs.Resuming.{said-only}
use Rattle.frame.proofs.Writing.{held_at, held, Went, kept, dropped, refuse, ended, Runs, went, nothing-refused, nothing-sound, refused-sound, left, rest-runs}

-- What is open is what is held

length_front : (k : Kind) (s a n : ℕ) (i : List ℕ) → length (front k s a n ++ i) ≡ 7 + length i
length_front k s a n i = length-append (front k s a n) i

held-at : (p : Place) (k : Kind) (s e a n : ℕ) (i : List ℕ) → length (held_at p k s e a n i) ≡ open_at p k i
held-at Idle k s e a n i = refl
held-at LoneAa k s e a n i = refl
held-at Seq k s e a n i = refl
held-at AddrHigh k s e a n i = refl
held-at AddrLow k s e a n i = refl
held-at LenHigh k s e a n i = refl
held-at LenLow k s e a n i = refl
held-at Info k s e a n i = length_front k s a n (doubled i)
held-at InfoAa k s e a n i = omega (arith, length_front k s a n (doubled i ++ (0xAA ∷ [])), length-append (doubled i) (0xAA ∷ []))
held-at CloseAa k s e a n i = length_front k s a n (doubled i)
held-at CloseCc k s e a n i = omega (arith, length_front k s a n (doubled i ++ (0xAA ∷ [])), length-append (doubled i) (0xAA ∷ []))
held-at Err k s e a n i = refl
held-at Cks Message s e a n i = omega (arith, length_front Message s a n (doubled i ++ (0xAA ∷ 0xCC ∷ [])), length-append (doubled i) (0xAA ∷ 0xCC ∷ []))
held-at Cks Ack s e a n i = refl
held-at Cks Nak s e a n i = refl

pub held-open : (d : Decoder) → length (held d) ≡ open_of d
unfolding held open_of
held-open d = let h = d.head in held-at h.place h.kind h.seq h.err h.addr h.len (take h.filled d.info)

-- by the place and the fields that matter there
open-parts : (p : Place) (k₁ k₂ : Kind) (h₁ h₂ : Head) (i₁ i₂ : List ℕ) → parts_at p k₁ h₁ i₁ ≡ parts_at p k₂ h₂ i₂ → open_at p k₁ (take h₁.filled i₁) ≡ open_at p k₂ (take h₂.filled i₂)
open-parts Idle k₁ k₂ h₁ h₂ i₁ i₂ q = refl
open-parts LoneAa k₁ k₂ h₁ h₂ i₁ i₂ q = refl
open-parts Seq k₁ k₂ h₁ h₂ i₁ i₂ q = refl
open-parts AddrHigh k₁ k₂ h₁ h₂ i₁ i₂ q = refl
open-parts AddrLow k₁ k₂ h₁ h₂ i₁ i₂ q = refl
open-parts LenHigh k₁ k₂ h₁ h₂ i₁ i₂ q = refl
open-parts LenLow k₁ k₂ h₁ h₂ i₁ i₂ q = refl
open-parts Info k₁ k₂ h₁ h₂ i₁ i₂ q = ap (λ (v : List ℕ). 7 + length (doubled (drop 5 v))) q
open-parts InfoAa k₁ k₂ h₁ h₂ i₁ i₂ q = ap (λ (v : List ℕ). 8 + length (doubled (drop 5 v))) q
open-parts CloseAa k₁ k₂ h₁ h₂ i₁ i₂ q = ap (λ (v : List ℕ). 7 + length (doubled (drop 5 v))) q
open-parts CloseCc k₁ k₂ h₁ h₂ i₁ i₂ q = ap (λ (v : List ℕ). 8 + length (doubled (drop 5 v))) q
open-parts Err k₁ k₂ h₁ h₂ i₁ i₂ q = refl
open-parts Cks k₁ k₂ h₁ h₂ i₁ i₂ q = by k₁ k₂ q
  where
    by : (k₁ k₂ : Kind) → parts_at Cks k₁ h₁ i₁ ≡ parts_at Cks k₂ h₂ i₂ → open_at Cks k₁ (take h₁.filled i₁) ≡ open_at Cks k₂ (take h₂.filled i₂)
    by Message Message q = ap (λ (v : List ℕ). 9 + length (doubled (drop 5 v))) q
    by Message Ack q = absurd (omega (arith, part 0 q))
    by Message Nak q = absurd (omega (arith, part 0 q))
    by Ack Message q = absurd (omega (arith, part 0 q))
    by Ack Ack q = refl
    by Ack Nak q = absurd (omega (arith, part 0 q))
    by Nak Message q = absurd (omega (arith, part 0 q))
    by Nak Ack q = absurd (omega (arith, part 0 q))
    by Nak Nak q = refl

open-alike : (e d : Decoder) → e.head.place ≡ d.head.place → parts_of e ≡ parts_of d → open_of e ≡ open_of d
unfolding open_of
open-alike e d p q =
    let h = e.head in
    let g = d.head in
    ap (λ (u : Place). open_at u h.kind (take h.filled e.info)) p
    ∙ open-parts g.place h.kind g.kind h g e.info d.info (subst (λ (u : Place). parts_at u h.kind h e.info ≡ parts_of d) p q)

-- from rest, with nothing dropped, all octets are held
all-open : (r : Decoder) (xs : List ℕ) → AtRest r → Octets xs → NothingDropped r xs → length xs ≡ open_of (decoder_after r xs)
all-open r xs a o n =
    let w = left r xs o (rest-runs r a).1 in
    let e : xs ≡ held (decoder_after r xs) = rw ((rest-runs r a).0, w.clean n) at w.octets in
    ap length e ∙ held-open (decoder_after r xs)

-- The number

stops : (n : ℕ) → Stops n (stopped n)
unfolding stopped
stops n = record { within = λ h. rw (le-leb n dropped_most h); beyond = λ h. pick-by (λ (m : ℕ). m ≡ 65535) (leb n dropped_most) (λ t. omega (arith, leb-true n dropped_most t)) (λ _. refl) }

-- what stopped goes on from where it stopped
pub stops-more : {a n m : ℕ} (p : ℕ) → Stops a n → Stops (n + p) m → Stops (a + p) m
stops-more {a} {n} {m} p s t = by (dec_le a 65535)
  where
    by : Dec (a ≤ 65535) → Stops (a + p) m
    by (yes l) = let q = s.within l in record { within = λ h. t.within (omega arith) ∙ omega arith; beyond = λ h. t.beyond (omega arith) }
    by (no g) = let q = s.beyond (omega arith) in record { within = λ h. absurd (omega arith); beyond = λ h. t.beyond (omega arith) }

-- An octet

module _ (d : Decoder) (b : ℕ) (o : b < 256) (r : Runs d) where
  abbrev t : Taken
  t = taken_of d b

  -- of the octets held, and this one, so many are held no longer
  pub lost-open : (pre : List ℕ) → held d ++ (b ∷ []) ≡ pre ++ held t.decoder → open_of d + 1 ≡ length pre + open_of t.decoder
  lost-open pre e =
      omega (arith, ap length e, length-append (held d) (b ∷ []), length-append pre (held t.decoder), held-open d, held-open t.decoder)

  -- nothing is found, and the decoder is within a frame: the octet goes on
  pub open-on : t.found ≡ found.Nothing → waits t.decoder.head.place ≡ false → open_of t.decoder ≡ open_of d + 1
  open-on f i = by (went d b o r)
    where
      quiet : outcome_of t ≡ nothing
      quiet = ap (λ (u : Found). found_means u t.decoder.info) f

      by : Went (held d) b (drops d.head.place b) t → open_of t.decoder ≡ open_of d + 1
      by (kept n u e) = omega (arith, lost-open [] e)
      by (dropped pre u v e w z) = absurd (clash i w)
      by (refuse n k s a pre u e w v) = absurd (nothing-refused (sym quiet ∙ u))
      by (ended f u e z w v) = absurd (nothing-sound (sym quiet ∙ u))

  open-most : open_of t.decoder ≤ open_of d + 1
  open-most = by (went d b o r)
    where
      by : Went (held d) b (drops d.head.place b) t → open_of t.decoder ≤ open_of d + 1
      by (kept n u e) = omega (arith, lost-open [] e)
      by (dropped pre u v e w z) = omega (arith, lost-open pre e)
      by (refuse n k s a pre u e w v) = omega (arith, lost-open pre e)
      by (ended f u e z w v) = omega (arith, held-open t.decoder, ap length z)

-- What the code does

-- one that goes on leaves the number
pub number-stays : (n o : ℕ) {o' : ℕ} → n < 65536 → o' ≡ o + 1 → stopped ((n + o + 1) - o') ≡ n
number-stays n o {o'} l e = (stops ((n + o + 1) - o')).within (omega arith) ∙ omega arith

module _ (d : Decoder) (n b : ℕ) (o : b < 256) (long : length d.info ≡ info_most) (p : possible_of d.head ≡ true)
    {t : Stepped} (e : t ≡ step_at d.head.place d.head d.info b) where
  abbrev runs : Runs d
  runs = record { possible = p; long = long }

  pub counted-kept : n < 65536 → t.keeps ≡ true
      → counted_of d n b ≡ record { taken = taken t.head (set d.info d.head.filled b) t.found; told = n; kept = n }
  unfolding counted_of number_then
  counted-kept l q =
      let w = keeps_on d.head d.info b p (rw (← e) q) in
      let z = taken_as_lem d b p e q in
      let f : t.found ≡ found.Nothing = rw e w.1 in
      let v = open-on d b o runs (rw z f) (rw (z, e) w.2) in
      let m : number_then n d (taken_of d b).decoder ≡ n = number-stays n (open_of d) l v in
      rw (p, m, z, f)

  pub counted-other : t.keeps ≡ false
      → counted_of d n b ≡ counted_as n (stopped ((n + open_in d.head d.info + 1) - open_in t.head d.info)) (taken t.head d.info t.found)
  unfolding counted_of number_then open_of
  counted-other q = rw (p, taken_as_lem d b p e q)

  pub open-then : t.keeps ≡ false → OpenThen d.head d.info t
  unfolding open_of
  open-then q =
      let z = taken_as_lem d b p e q in
      record {
        on = λ f w. rw z at (open-on d b o runs (rw z f) (rw z w));
        most = rw z at (open-most d b o runs);
      }

-- an octet that is dropped in idle is one more
pub counted-dropped : (d : Decoder) (n b : ℕ) → idle_drops d.head.place b ≡ true
    → counted_of d n b ≡ record { taken = taken d.head d.info found.Nothing; told = stopped (n + 1); kept = stopped (n + 1) }
unfolding counted_of number_then open_of possible_of
counted-dropped d n b h =
    let e = (said-only b d.head.place h).0 in
    let z : open_of d ≡ 0 = ap (λ (p : Place). open_at p d.head.kind (take d.head.filled d.info)) e in
    let m : (n + open_of d + 1) - open_of d ≡ n + 1 = omega arith in
    rw (possible-at d.head e, taken-dropped d b h, m)

-- A call

by-found : (P : ℕ → ℕ → Type 0) (f : Found) (i : List ℕ) (n m : ℕ) → ((g : Frame) → found_means f i ≡ sound g → ⊥) → P m m → P (number_told f n m) (number_kept f m)
by-found P found.Nothing i n m h p = p
by-found P (found.Refused r k s a) i n m h p = p
by-found P (found.Message s a l) i n m h p = absurd (h (message s a (take l i)) refl)
by-found P (found.Ack s a) i n m h p = absurd (h (ack s a) refl)
by-found P (found.Nak s a e) i n m h p = absurd (h (nak s a e) refl)

by-sound : (f : Found) (i : List ℕ) (n m : ℕ) {g : Frame} → found_means f i ≡ sound g → (number_told f n m ≡ n) × (number_kept f m ≡ 0)
by-sound found.Nothing i n m h = absurd (nothing-sound h)
by-sound (found.Refused r k s a) i n m h = absurd (refused-sound h)
by-sound (found.Message s a l) i n m h = (refl, refl)
by-sound (found.Ack s a) i n m h = (refl, refl)
by-sound (found.Nak s a e) i n m h = (refl, refl)

module _ (d : Decoder) (n : ℕ) where
  pub counted-taken : (b : ℕ) → (counted_of d n b).taken ≡ taken_of d b
  unfolding counted_of
  counted-taken b = pick-by (λ (c : Counted). c.taken ≡ taken_of d b) (possible_of d.head) (λ _. refl) (λ q. sym (taken-7 d b q))

  pub idle-taken : (idle_counted d n).taken ≡ idled_of d
  unfolding idle_counted
  idle-taken = pick-by (λ (c : Counted). c.taken ≡ idled_of d) (possible_of d.head) (λ _. refl) (λ q. sym (idled-7 d q))

  pub octet-counts : (b : ℕ) → OctetCounts d n b
  unfolding counted_of number_then
  octet-counts b =
      let t = taken_of d b in
      let m = number_then n d t.decoder in
      record {
        refused = λ q. rw q (refl, refl);
        carried = λ f h q. rw q (by-sound t.found t.decoder.info n m h);
        counted = λ h q. rw q (by-found (λ told kept. Stops ((n + open_of d + 1) - open_of t.decoder) kept × (told ≡ kept)) t.found t.decoder.info n m h (stops ((n + open_of d + 1) - open_of t.decoder), refl));
        taken = counted-taken b;
      }

  pub idle-counts : IdleCounts d n
  unfolding idle_counted
  idle-counts =
      record {
        refused = λ q. rw q (refl, refl);
        counted = λ q. rw q (stops (n + open_of d), refl);
        taken = idle-taken;
      }

pub calls_count : CallsCount
unfolding fresh_receiver
calls_count = (refl, refl, stops, λ d n. (octet-counts d n, idle-counts d n))

pub open-as-said : OpenAsSaid
open-as-said d =
    record {
      all = λ r a w n. sym (open-alike (decoder_after r w.octets) d w.place w.parts) ∙ sym (all-open r w.octets a w.each n);
      some = λ p f r a. led-clean r d a p f;
    }
