-- What follows from the definitions of specs/: one law for each way through.
use Prim.Native.Nat.{ℕ, zero, suc, ◌+◌, ◌≤◌, ◌<◌, max}
use mathlib.Core.Path.{◌≡◌, refl, sym, ap, ◌∙◌}
use mathlib.Core.Bool.{Bool, true, false, not, and-true, and-false}
use mathlib.Core.List.{List}
use native.Mathlib.Decide.{dec_lt}
use native.Mathlib.Omega.{arith}
use borrow.Author.Tests.{eq-eqb, ne_eqb, le-leb, lt-leb}
use lib.Dec.{eqb, leb}
use lib.ListN.{length, drop, get_or, drop_of_length-le}
use Rattle.std.specs.Prelude.{Option, None, Some}
use Rattle.std.specs.Option.{is_some, unwrap_or}
use Rattle.octets.specs.Choice.{pick, both}
use Rattle.octets.proofs.Laws.{drop-next}
use Rattle.record.specs.Record.{record_len, empty, times_set, ready, state_of, times_end, ready_end}
use Rattle.checks.specs.Standing.{times_stand, plan_stands, ready_stands, all_zero, standing_of, check_named}

-- The rest of a record

module _ (rec : List ℕ) (i : ℕ) where
  zero-stops : i < length rec → (get_or rec i 0 ≡ 0 → ⊥) → false ≡ all_zero (drop i rec)
  unfolding all_zero
  zero-stops h n = rw (drop-next rec i h, ne_eqb (get_or rec i 0) 0 n)

  zero-goes : i < length rec → get_or rec i 0 ≡ 0 → all_zero (drop (i + 1) rec) ≡ all_zero (drop i rec)
  unfolding all_zero
  zero-goes h e = rw (drop-next rec i h, eq-eqb (get_or rec i 0) 0 e)

  zero-ends : length rec ≤ i → true ≡ all_zero (drop i rec)
  unfolding all_zero
  zero-ends h = rw (drop_of_length-le rec h)

-- The last octet that is not 0: the rest from a place on is zero exactly where that octet stands before it

module _ (rec : List ℕ) (at : ℕ) where
  -- what the octets from i on say of it
  abbrev pub rest_from : ℕ → Bool
  rest_from i = all_zero (drop (max at i) rec)

  pub last_none : both (leb 0 at) (rest_from 0) ≡ all_zero (drop at rec)
  last_none = let m : max at 0 ≡ at = omega arith in rw (le-leb 0 at (omega arith), m)

  module _ (end i : ℕ) (h : i < length rec) (e : both (leb end at) (rest_from i) ≡ all_zero (drop at rec)) where
    pub last-is : (get_or rec i 0 ≡ 0 → ⊥) → both (leb (i + 1) at) (rest_from (i + 1)) ≡ all_zero (drop at rec)
    last-is n = by (dec_lt i at)
      where
        by : Dec (i < at) → both (leb (i + 1) at) (rest_from (i + 1)) ≡ all_zero (drop at rec)
        by (yes l) = let m : max at (i + 1) ≡ at = omega arith in rw (le-leb (i + 1) at (omega arith), m)
        by (no l) = let m : max at i ≡ i = omega arith in rw (lt-leb (i + 1) at (omega arith)) (sym (and-false (leb end at)) ∙ rw (m, ← zero-stops rec i h n) at e)

    pub last-stays : end ≤ i → get_or rec i 0 ≡ 0 → both (leb end at) (rest_from (i + 1)) ≡ all_zero (drop at rec)
    last-stays l z = by (dec_lt i at)
      where
        by : Dec (i < at) → both (leb end at) (rest_from (i + 1)) ≡ all_zero (drop at rec)
        by (yes g) = let m : max at (i + 1) ≡ at = omega arith in rw (le-leb end at (omega arith), m)
        by (no g) =
            let m : max at i ≡ i = omega arith in
            let m' : max at (i + 1) ≡ i + 1 = omega arith in
            rw (m', zero-goes rec i h z) (rw m at e)

  pub last-of-all : (end i : ℕ) → end ≤ i → length rec ≤ i → both (leb end at) (rest_from i) ≡ all_zero (drop at rec) → leb end at ≡ all_zero (drop at rec)
  last-of-all end i l h e = by (dec_lt i at)
    where
      by : Dec (i < at) → leb end at ≡ all_zero (drop at rec)
      by (yes g) = le-leb end at (omega arith) ∙ zero-ends rec at (omega arith)
      by (no g) = let m : max at i ≡ i = omega arith in sym (and-true (leb end at)) ∙ rw (m, ← zero-ends rec i h) at e

-- The number of a check that fails, where one does

pub named-some : {n m : ℕ} → 0 < n → n ≡ m → Some n ≡ check_named m
named-some {n = zero} l e = absurd (omega arith)
named-some {n = suc n} l e = ap check_named e

pub named-none : {m : ℕ} → 0 ≡ m → None ≡ check_named m
named-none e = ap check_named e

pub number-of : {n m : ℕ} → Some n ≡ check_named m → (n ≡ m) × (n ≡ 0 → ⊥)
number-of {m = zero} e = absurd (cc)
number-of {n} {m = suc m} e = let s : n ≡ suc m = cc in (s, λ z. omega arith)

pub no-number : {m : ℕ} → None ≡ check_named m → 0 ≡ m
no-number {m = zero} e = refl
no-number {m = suc m} e = absurd (cc)

pub number-after : {n : ℕ} {r : Option ℕ} → r ≡ check_named n → unwrap_or r 0 ≡ n
number-after {n = zero} e = rw e
number-after {n = suc n} e = rw e

pub none-told : (n : ℕ) {r : Option ℕ} {t : Bool} → r ≡ check_named n → is_some r ≡ not t → t ≡ eqb n 0
none-told zero {t = true} e s = refl
none-told zero {t = false} e s = let f : false ≡ true = rw e at s in absurd (cc)
none-told (suc n) {t = true} e s = let f : true ≡ false = rw e at s in absurd (cc)
none-told (suc n) {t = false} e s = sym (ne_eqb (suc n) 0 (λ z. omega arith))

-- The parts of a record

module _ (rec : List ℕ) where
  module _ {t : Bool} (et : t ≡ plan_stands rec) where
    pub ready-out : t ≡ false → false ≡ ready_stands rec
    unfolding ready_stands
    ready-out f = rw (← et, f)

    pub ready-zero : t ≡ true → {end : ℕ} → end ≡ ready_end rec → {z : Bool} → z ≡ all_zero (drop end rec) → z ≡ ready_stands rec
    unfolding ready_stands
    ready-zero f ee e = rw (← et, f) (e ∙ ap (λ (n : ℕ). all_zero (drop n rec)) ee)

  -- How it stands

  pub stands-long : (length rec ≡ record_len → ⊥) → empty ≡ standing_of rec
  unfolding standing_of
  stands-long n = rw (ne_eqb (length rec) record_len n)

  module _ (h : length rec ≡ record_len) {t : Bool} (et : t ≡ times_stand rec) where
    pub stands-not : t ≡ false → empty ≡ standing_of rec
    unfolding standing_of
    stands-not f = rw (eq-eqb (length rec) record_len h, ← et, f)

    module _ (f : t ≡ true) where
      pub stands-times : state_of rec ≡ times_set → {end : ℕ} → end ≡ times_end rec → {z : Bool} → z ≡ all_zero (drop end rec) → pick z times_set empty ≡ standing_of rec
      unfolding standing_of
      stands-times e ee ez =
          rw (eq-eqb (length rec) record_len h, ← et, f, eq-eqb (state_of rec) times_set e, ← (ez ∙ ap (λ (n : ℕ). all_zero (drop n rec)) ee))

      pub stands-ready : state_of rec ≡ ready → {z : Bool} → z ≡ ready_stands rec → pick z ready empty ≡ standing_of rec
      unfolding standing_of
      stands-ready e ez =
          let n : state_of rec ≡ times_set → ⊥ = λ (q : state_of rec ≡ times_set). omega arith in
          rw (eq-eqb (length rec) record_len h, ← et, f, ne_eqb (state_of rec) times_set n, eq-eqb (state_of rec) ready e, ez)

      pub stands-else : (state_of rec ≡ times_set → ⊥) → (state_of rec ≡ ready → ⊥) → empty ≡ standing_of rec
      unfolding standing_of
      stands-else n m = rw (eq-eqb (length rec) record_len h, ← et, f, ne_eqb (state_of rec) times_set n, ne_eqb (state_of rec) ready m)
