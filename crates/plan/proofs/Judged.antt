-- Refusals 8, 12 and 13 of reading a plan come when, and only when, 01 says, and the part is then empty; each other way gives the part that it names.
use Prim.Native.Nat.{ℕ, ◌+◌, ◌*◌, ◌-◌, ◌≤◌}
use mathlib.Core.Path.{◌≡◌, refl, sym, ap, ◌∙◌}
use mathlib.Core.Bool.{Bool, true, false}
use mathlib.Core.List.{List, []}
use native.Mathlib.Nat.{zero-add}
use native.Mathlib.Decide.{dec_le, ℕ_discrete}
use native.Mathlib.Omega.{arith}
use borrow.Author.Tests.{eq-eqb, ne_eqb}
use lib.ListN.{length, take, drop}
use lib.Seq.{take_all}
use denote.Ref.{Bor}
use Rattle.octets.specs.Octet.{Octets}
use Rattle.octets.specs.Part.{PartOf}
use Rattle.octets.specs.Refusal as refusal
use Rattle.octets.proofs.Laws.{clash, octets-part, same-is, is_same}
use Rattle.record.specs.Record.{record_len, plans_most, book_len, empty}
use Rattle.checks.specs.Standing.{standing_of}
use Rattle.plan.specs.declared.Which.{Which}
use Rattle.plan.specs.declared.Which.TheVariants.{New, Old}
use Rattle.plan.specs.BuiltIn.{built_in}
use Rattle.plan.specs.Reading.{record_start, record_at, either_built_in, read_refusal, PartRead}
use Rattle.plan.specs.Promises.{ReadingJudged, wrong_length, over_range, unlike, empty_plan, built_in_read, book_read, BuiltInKnown, PlansReadSo, PartsGivenSo}
use Rattle.plan.proofs.Readying.{stands-has, has-stands}
use Rattle.plan.proofs.Laws.{length-built-in, either_is, is-either, refused-book, refused-copy, refused-range, read-zero, refused-zero, refused-empty, read_set, read-sound}

module _ (book copy : List ℕ) (p : ℕ) (o : Octets book) where
  octets : Octets (record_at book p)
  octets = octets-part record_len (record_start p) book o

  only_then : Dec (length book ≡ book_len) → Dec (length copy ≡ record_len) → Dec (p ≤ plans_most) → Dec (p ≡ 0) → (t : Bool) → t ≡ either_built_in copy
      → Dec (standing_of (record_at book p) ≡ empty) → ReadingJudged book copy p (read_refusal book copy p)
  only_then (no n) d d' d'' t e s = rw (← refused-book book copy p n) (wrong_length (λ b _. n b))
  only_then (yes b) (no n) d' d'' t e s = rw (← refused-copy book copy p b n) (wrong_length (λ _ q. n q))
  only_then (yes b) (yes q) (no n) d'' t e s = rw (← refused-range book copy p b q (omega (arith, n))) (over_range b q (omega (arith, n)))
  only_then (yes b) (yes q) (yes m) (yes z) true e s = let w = either_is copy (sym e) in rw (← read-zero book copy p b q m z e refl) (built_in_read w.0 b z w.1)
  only_then (yes b) (yes q) (yes m) (yes z) false e s =
      let n : (which : Which) → copy ≡ built_in which → ⊥ = λ which q. clash (sym e) (rw q (is-either which)) in
      rw (← refused-zero book copy p b q m z e refl) (unlike b q z (n New) (n Old))
  only_then (yes b) (yes q) (yes m) (no n) t e (yes z) =
      rw (← refused-empty book copy p b q m n refl z) (empty_plan b q (omega (arith, n)) m (λ h. has-stands (record_at book p) octets h z))
  only_then (yes b) (yes q) (yes m) (no n) t e (no s) =
      rw (← read_set book copy p b q m n refl s) (book_read b q (omega (arith, n)) m (stands-has (record_at book p) octets s))

  when : {n : ℕ} → ReadingJudged book copy p n → n ≡ read_refusal book copy p
  when (wrong_length n) = by (ℕ_discrete (length book) book_len)
    where
      by : Dec (length book ≡ book_len) → refusal.book_wrong ≡ read_refusal book copy p
      by (no m) = refused-book book copy p m
      by (yes b) = refused-copy book copy p b (n b)
  when (over_range b q l) = refused-range book copy p b q l
  when (unlike b q z n m) = refused-zero book copy p b q (omega (arith, z)) z refl (neither (either_built_in copy) refl)
    where
      not-one : (which : Which) → copy ≡ built_in which → ⊥
      not-one New = n
      not-one Old = m

      neither : (t : Bool) → either_built_in copy ≡ t → either_built_in copy ≡ false
      neither true e = let w = either_is copy e in absurd (not-one w.0 w.1)
      neither false e = e
  when (empty_plan b q l m h) = by (ℕ_discrete (standing_of (record_at book p)) empty)
    where
      by : Dec (standing_of (record_at book p) ≡ empty) → refusal.not_ready ≡ read_refusal book copy p
      by (yes e) = refused-empty book copy p b q m (λ z. omega (arith, z)) refl e
      by (no n) = absurd (h (stands-has (record_at book p) octets n))
  when (built_in_read which b z e) = read-zero book copy p b (rw e (length-built-in which)) (omega (arith, z)) z refl (rw e (is-either which))
  when (book_read b q l m h) = read_set book copy p b q m (λ z. omega (arith, z)) refl (has-stands (record_at book p) octets h)

pub plans-read-so : PlansReadSo
plans-read-so book copy p n o = (
  when book copy p o,
  λ e.
      rw e
      (only_then book copy p o (ℕ_discrete (length book) book_len) (ℕ_discrete (length copy) record_len) (dec_le p plans_most) (ℕ_discrete p 0) (either_built_in copy) refl
      (ℕ_discrete (standing_of (record_at book p)) empty)),
)

pub built-in-known : BuiltInKnown
built-in-known which rec = (same-is rec (built_in which), λ e. rw e (is_same (built_in which)))

-- The part

module _ (book copy r : Bor (List ℕ)) (p : ℕ) (h : PartRead book copy p r) where
  abbrev why : ℕ
  why = read_refusal book.now copy.now p

  part-refused : (why ≡ 0 → ⊥) → r.now ≡ []
  part-refused n = (rw (ne_eqb why 0 n) at h).octets

  module _ (e : why ≡ 0) where
    is-built-in : p ≡ 0 → (t : Bool) → t ≡ either_built_in copy.now → (which : Which) × (copy.now ≡ built_in which)
    is-built-in z true q = either_is copy.now (sym q)
    is-built-in z false q = let s = read-sound book.now copy.now p e in absurd (omega (arith, refused-zero book.now copy.now p s.0 s.1 s.2 z q refl))

    all-of-copy : p ≡ 0 → (r.ref_ptr ≡ copy.ref_ptr) × (r.now ≡ copy.now) × ((which : Which) × (copy.now ≡ built_in which))
    all-of-copy z =
        let c = is-built-in z (either_built_in copy.now) refl in
        let g : PartOf copy 0 record_len r = rw (eq-eqb why 0 e, eq-eqb p 0 z) at h in
        let l : length copy.now ≤ 80 = omega (arith, ap length c.1, length-built-in c.0) in
        (g.place ∙ rw zero-add, g.octets ∙ take_all 80 copy.now l, c)

    of-book : 1 ≤ p → (r.ref_ptr ≡ (book.ref_ptr.0, 80 * (p - 1) + book.ref_ptr.1)) × (r.now ≡ take 80 (drop (80 * (p - 1)) book.now))
    of-book l =
        let n : p ≡ 0 → ⊥ = λ z. omega arith in
        let g : PartOf book (record_start p) record_len r = rw (eq-eqb why 0 e, ne_eqb p 0 n) at h in
        (g.place, g.octets)

pub parts-given-so : PartsGivenSo
parts-given-so book copy r p why o h =
    rw h.refusal
    (record {
      judged = (plans-read-so book.now copy.now p (read_refusal book.now copy.now p) o).1 refl;
      refused = part-refused book copy r p h.part;
      built_in_all = all-of-copy book copy r p h.part;
      of_book = of-book book copy r p h.part;
    })
