-- The reader refuses when, and only when, 01 says so, and names the first field that is wrong.
use Prim.Native.Nat.{ℕ, zero, suc, ◌≤◌, ◌<◌}
use mathlib.Core.Path.{◌≡◌, refl, sym, ◌∙◌}
use mathlib.Core.Bool.{Bool, true, false, not-eq-not}
use mathlib.Core.List.{List}
use native.Mathlib.Decide.{dec_lt}
use native.Mathlib.Omega.{arith}
use borrow.Author.Tests.{le-leb, lt-ltb, leb-true, ltb-true, eq-eqb, ne_eqb, eqb-true}
use lib.Dec.{leb, eqb}
use lib.ListN.{length, get_or, get_or-eq_default}
use Rattle.octets.specs.Choice.{both}
use Rattle.octets.proofs.Laws.{both_left, both_right, clash}
use Rattle.message.specs.Reader.{Read}
use Rattle.message.specs.declared.layout.Field.{Field}
use Rattle.message.specs.Layouts.{layouts, layout_at, known, number_of, rows_at, k_fits}
use Rattle.message.specs.Values.{fields_most, size_of, values_of, zeros, placed, first_out}
use Rattle.message.specs.Reader.{no_message, not_read, k_in, part_of, ranged_of, read_part_of, read_of}
use Rattle.message.specs.Promises.{code_word, after_code, refused_reading, message_read, FirstWrong, HasLayout, RightLength, PartJudged, unknown, wrong_length, out_of_range, accepted, PartsReadSo, Judged, short, body, MessagesReadSo, FirstFieldNamed}
use Rattle.message.proofs.Layouts.{rows-most}
use Rattle.message.proofs.Values.{length-values}
use Rattle.message.proofs.Reading.{read-11, read-body}
use Rattle.message.proofs.Ranges.{both_true, both-le, le-both, placed_at, none_out, one_out, all_right, out_one, right-same, wrong-same}

-- what a refused reading gives, by its fields
not-read : (n field : ℕ) → refused_reading n field ≡ not_read n field
unfolding zeros no_message not_read
not-read n field = refl

pub known_in : (l : ℕ) → known l ≡ true → HasLayout l
unfolding known
known_in l h = record { first = leb-true 1 l (both_left (leb 1 l) _ h); last = ltb-true l (length layouts) (both_right (leb 1 l) _ h) }

pub in-known : (l : ℕ) → HasLayout l → known l ≡ true
unfolding known
in-known l h = both_true (le-leb 1 l h.first) (lt-ltb l (length layouts) h.last)

module _ (l k : ℕ) (os : List ℕ) where
  abbrev fs : List Field
  fs = rows_at l k

  abbrev vs : List ℕ
  vs = values_of fs os

  abbrev long_right : Bool
  long_right = both (k_fits (layout_at l) k) (eqb (length os) (size_of fs))

  in_right : RightLength l k os → long_right ≡ true
  in_right r = both_true (le-both (layout_at l).fewest k k (layout_at l).most (r.fewest, r.most)) (eq-eqb (length os) (size_of fs) r.octets)

  right : long_right ≡ true → RightLength l k os
  right h =
      let f = both-le (layout_at l).fewest k k (layout_at l).most (both_left (k_fits (layout_at l) k) _ h) in
      record { fewest = f.0; most = f.1; octets = eqb-true (length os) (size_of fs) (both_right (k_fits (layout_at l) k) _ h) }

  past : (j : ℕ) → length fs ≤ j → j < fields_most → get_or (placed vs) j 0 ≡ 0
  past j h _ = placed_at vs j ∙ get_or-eq_default vs 0 (rw length-values h)

  part-10 : known l ≡ false → refused_reading 10 0 ≡ read_part_of l k os
  unfolding read_part_of
  part-10 h = not-read 10 0 ∙ rw h

  part-11 : known l ≡ true → long_right ≡ false → refused_reading 11 0 ≡ read_part_of l k os
  unfolding read_part_of
  part-11 h f = not-read 11 0 ∙ rw (h, f)

  part-12 : (n : ℕ) → n ≡ first_out fs (placed vs) → (n ≡ 0 → ⊥) → refused_reading 12 n ≡ ranged_of l k os
  unfolding ranged_of part_of
  part-12 n e z = not-read 12 n ∙ rw (← e, ne_eqb n 0 z)

  part-read : 0 ≡ first_out fs (placed vs) → message_read (part_of l k os) ≡ ranged_of l k os
  unfolding ranged_of part_of
  part-read e = rw (← e)

  part-done : known l ≡ true → long_right ≡ true → ranged_of l k os ≡ read_part_of l k os
  unfolding read_part_of
  part-done h f = rw (h, f)

  parts-when : {r : Read} → PartJudged l k os r → r ≡ read_part_of l k os
  parts-when (unknown n) = part-10 ((not-eq-not {a = known l} {b = false}).0 (λ e. n (known_in l e)))
  parts-when (wrong_length kn n) = part-11 (in-known l kn) ((not-eq-not {a = long_right} {b = false}).0 (λ e. n (right e)))
  parts-when (out_of_range n kn r w) =
      let m = rows-most l k r.most in
      let e = one_out fs (placed vs) m past (wrong-same fs vs (placed vs) (λ j. sym (placed_at vs j)) w) in
      part-12 n (sym e) (λ z. omega (arith, w.number)) ∙ part-done (in-known l kn) (in_right r)
  parts-when (accepted kn r a) =
      let m = rows-most l k r.most in
      let e = none_out fs (placed vs) m past (λ j h. right-same fs vs (placed vs) (λ i. sym (placed_at vs i)) j (a j h)) in
      part-read (sym e) ∙ part-done (in-known l kn) (in_right r)

  -- of a part that the reader has found of the right length
  ranged-then : HasLayout l → RightLength l k os → (n : ℕ) → n ≡ first_out fs (placed vs) → PartJudged l k os (ranged_of l k os)
  ranged-then kn r zero e =
      rw (← part-read e)
      (accepted kn r (λ j h. right-same fs (placed vs) vs (placed_at vs) j (all_right fs (placed vs) (sym e) j (omega (arith, rows-most l k r.most)))))
  ranged-then kn r (suc n) e =
      rw (← part-12 (suc n) e (λ z. omega arith))
      (out_of_range (suc n) kn r (wrong-same fs (placed vs) vs (placed_at vs) (out_one fs (placed vs) (rows-most l k r.most) past e)))

  parts_then : PartJudged l k os (read_part_of l k os)
  parts_then = by (known l) refl long_right refl
    where
      by : (a : Bool) → known l ≡ a → (b : Bool) → long_right ≡ b → PartJudged l k os (read_part_of l k os)
      by false e b f = rw (← part-10 e) (unknown (λ kn. clash e (in-known l kn)))
      by true e false f = rw (← part-11 e f) (wrong_length (known_in l e) (λ r. clash f (in_right r)))
      by true e true f = rw (← part-done e f) (ranged-then (known_in l e) (right f) (first_out fs (placed vs)) refl)

pub parts-read-so : PartsReadSo
parts-read-so l k os r = (parts-when l k os, λ e. rw e (parts_then l k os))

pub read-so : MessagesReadSo
read-so info r = (when, λ e. rw e then')
  where
    when : {r : Read} → Judged info r → r ≡ read_of info
    when (short h) = not-read 11 0 ∙ read-11 info h
    when (body h p) = parts-when _ _ _ p ∙ read-body info h refl refl refl

    then' : Judged info (read_of info)
    then' = by (dec_lt (length info) 2)
      where
        by : Dec (length info < 2) → Judged info (read_of info)
        by (yes l) = rw (← (not-read 11 0 ∙ read-11 info l)) (short l)
        by (no g) = let h : 2 ≤ length info = omega arith in rw (← read-body info h refl refl refl) (body h (parts_then _ _ _))

-- what is refused 12 names the first field that is wrong
pub first-field-named : FirstFieldNamed
first-field-named info e = named ((read-so info (read_of info)).1 refl) e
  where
    named : {r : Read} → Judged info r → r.refusal ≡ 12
        → (let l = number_of (code_word info) in
        let fs = rows_at l (k_in (layout_at l) (after_code info)) in FirstWrong fs (values_of fs (after_code info)) r.field)
    named (short h) e = absurd (omega arith)
    named (body h (unknown n)) e = absurd (omega arith)
    named (body h (wrong_length kn n)) e = absurd (omega arith)
    named (body h (out_of_range n kn r w)) e = w
    named (body h (accepted kn r a)) e = absurd (omega arith)
