-- What follows from the definitions of specs/: one law for each way through.
use Prim.Native.Nat.{ℕ, ◌≤◌, ◌<◌}
use mathlib.Core.Path.{◌≡◌, refl, sym}
use mathlib.Core.Bool.{Bool, true, false, not, ◌||◌, or-true}
use mathlib.Core.List.{List}
use native.Mathlib.Omega.{arith}
use borrow.Author.Tests.{eq-eqb, ne_eqb, le-leb, lt-leb, eqb-true, leb-true}
use lib.Dec.{eqb, leb}
use lib.ListN.{length, drop, length-drop}
use lib.Seq.{length-take-le}
use Rattle.octets.specs.Choice.{pick, both}
use Rattle.octets.specs.Refusal as refusal
use Rattle.octets.specs.Same.{same}
use Rattle.octets.proofs.Laws.{same-is, is_same}
use Rattle.record.specs.Record.{record_len, plans_most, book_len, empty}
use Rattle.checks.specs.Standing.{standing_of}
use Rattle.plan.specs.declared.Which.{Which}
use Rattle.plan.specs.declared.Which.TheVariants.{New, Old}
use Rattle.plan.specs.BuiltIn.{padded, built_in}
use Rattle.plan.specs.Reading.{record_start, record_at, either_built_in, read_refusal}

-- Reading

pub length-built-in : (which : Which) → length (built_in which) ≡ record_len
unfolding built_in padded
length-built-in which = refl

-- "a copy of either": it is one of the two, and each of the two is
pub either_is : (copy : List ℕ) → either_built_in copy ≡ true → (which : Which) × (copy ≡ built_in which)
unfolding either_built_in
either_is copy h = by (same copy (built_in New)) refl h
  where
    by : (t : Bool) → same copy (built_in New) ≡ t → t || same copy (built_in Old) ≡ true → (which : Which) × (copy ≡ built_in which)
    by true e h = (New, same-is copy (built_in New) e)
    by false e h = (Old, same-is copy (built_in Old) h)

pub is-either : (which : Which) → either_built_in (built_in which) ≡ true
unfolding either_built_in
is-either New = rw (is_same (built_in New))
is-either Old = rw (is_same (built_in Old)) (or-true (same (built_in Old) (built_in New)))

pub record-long : (book : List ℕ) (p : ℕ) {rec : List ℕ} → rec ≡ record_at book p → length book ≡ book_len → 1 ≤ p → p ≤ plans_most → length rec ≡ record_len
record-long book p e hb l m = rw e (length-take-le record_len (drop (record_start p) book) (simp length-drop (omega arith)))

module _ (book copy : List ℕ) (p : ℕ) where
  pub refused-book : (length book ≡ book_len → ⊥) → refusal.book_wrong ≡ read_refusal book copy p
  unfolding read_refusal
  refused-book n = rw (ne_eqb (length book) book_len n)

  module _ (hb : length book ≡ book_len) where
    pub refused-copy : (length copy ≡ record_len → ⊥) → refusal.book_wrong ≡ read_refusal book copy p
    unfolding read_refusal
    refused-copy n = rw (eq-eqb (length book) book_len hb, ne_eqb (length copy) record_len n)

    module _ (ho : length copy ≡ record_len) where
      pub refused-range : plans_most < p → refusal.out_of_range ≡ read_refusal book copy p
      unfolding read_refusal
      refused-range l = rw (eq-eqb (length book) book_len hb, eq-eqb (length copy) record_len ho, lt-leb p plans_most l)

      module _ (hp : p ≤ plans_most) where
        abbrev tests : ℕ → ℕ
        tests n = pick (not (both (eqb (length book) book_len) (eqb (length copy) record_len))) refusal.book_wrong (pick (not (leb p plans_most)) refusal.out_of_range n)

        passed : (n : ℕ) → tests n ≡ n
        passed n = rw (eq-eqb (length book) book_len hb, eq-eqb (length copy) record_len ho, le-leb p plans_most hp)

        module _ (z : p ≡ 0) {t : Bool} (e : t ≡ either_built_in copy) where
          pub read-zero : t ≡ true → refusal.none ≡ read_refusal book copy p
          unfolding read_refusal
          read-zero f = sym (rw (eq-eqb p 0 z, ← e, f) (passed refusal.none))

          pub refused-zero : t ≡ false → refusal.not_ready ≡ read_refusal book copy p
          unfolding read_refusal
          refused-zero f = sym (rw (eq-eqb p 0 z, ← e, f) (passed refusal.not_ready))

        module _ (z : p ≡ 0 → ⊥) {s : ℕ} (e : s ≡ standing_of (record_at book p)) where
          pub refused-empty : s ≡ empty → refusal.not_ready ≡ read_refusal book copy p
          unfolding read_refusal
          refused-empty f = sym (rw (ne_eqb p 0 z, ← e, eq-eqb s empty f) (passed refusal.not_ready))

          pub read_set : (s ≡ empty → ⊥) → refusal.none ≡ read_refusal book copy p
          unfolding read_refusal
          read_set f = sym (rw (ne_eqb p 0 z, ← e, ne_eqb s empty f) (passed refusal.none))

  -- what no refusal tells
  pub read-sound : read_refusal book copy p ≡ refusal.none → (length book ≡ book_len) × (length copy ≡ record_len) × (p ≤ plans_most)
  unfolding read_refusal
  read-sound e = by (eqb (length book) book_len) refl (eqb (length copy) record_len) refl (leb p plans_most) refl _ e
    where
      by : (a : Bool) → eqb (length book) book_len ≡ a → (b : Bool) → eqb (length copy) record_len ≡ b → (c : Bool) → leb p plans_most ≡ c
          → (n : ℕ) → pick (not (both a b)) refusal.book_wrong (pick (not c) refusal.out_of_range n) ≡ refusal.none
          → (length book ≡ book_len) × (length copy ≡ record_len) × (p ≤ plans_most)
      by true ea true eb true ec n h = (eqb-true (length book) book_len ea, eqb-true (length copy) record_len eb, leb-true p plans_most ec)
      by true ea true eb false ec n h = absurd (omega arith)
      by true ea false eb c ec n h = absurd (omega arith)
      by false ea b eb c ec n h = absurd (omega arith)
