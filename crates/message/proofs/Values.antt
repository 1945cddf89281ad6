-- Values, their octets and their places.
use Prim.Native.Nat.{ℕ, zero, suc, ◌+◌, ◌*◌, ◌-◌, ◌≤◌, ◌<◌}
use mathlib.Core.Path.{◌≡◌, refl, sym, ap, ◌∙◌}
use mathlib.Core.Bool.{Bool, true, false}
use mathlib.Core.List.{List, [], ◌∷◌, ◌++◌}
use native.Mathlib.Nat.{add-zero, zero-mul, suc-mul}
use native.Mathlib.Numerals.{add-one}
use native.Mathlib.Omega.{arith}
use lib.ListN.{drop_of_length-le, replicate, set, length, get_or, drop, length-append, length-replicate, replicate-append-replicate, get_or-eq_default}
use lib.Seq.{sets, sets-eq, drop_at, drop-drop, drop-cons, get_or-drop}
use Rattle.octets.specs.Word.{word_of}
use Rattle.message.specs.declared.layout.Field.{Field}
use Rattle.message.specs.Fields.{no_field, two_of, width_of, value_of}
use Rattle.message.specs.Layouts.{repeated}
use Rattle.message.specs.Values.{fields_most, size_of, field_start, values_of, zeros, placed, numbered}

pub numbered-past : (vs : List ℕ) (n : ℕ) → length vs < n → numbered vs n ≡ 0
numbered-past vs zero h = refl
numbered-past vs (suc n) h = get_or-eq_default vs 0 (omega arith)

pub numbered-one : (vs : List ℕ) (n : ℕ) → 0 < n → numbered vs n ≡ get_or vs (n - 1) 0
numbered-one vs zero h = absurd (omega arith)
numbered-one vs (suc n) h = ap (λ (m : ℕ). get_or vs m 0) (omega arith)

pub size-append : (fs gs : List Field) → size_of (fs ++ gs) ≡ size_of fs + size_of gs
size-append [] gs = omega arith
size-append (f ∷ fs) gs = omega (arith, size-append fs gs)

pub size-repeated : (g : List Field) (k : ℕ) → size_of (repeated k g) ≡ k * size_of g
size-repeated g zero = sym (zero-mul (size_of g))
size-repeated g (suc k) = omega (arith, size-append g (repeated k g), size-repeated g k, suc-mul k (size_of g))

module _ (fs : List Field) (i : ℕ) where
  pub size-next : i < length fs → size_of (drop i fs) ≡ width_of (two_of (get_or fs i no_field)) + size_of (drop (i + 1) fs)
  size-next h = rw (drop-cons fs i no_field h, add-one)

  pub size-done : length fs ≤ i → size_of (drop i fs) ≡ 0
  size-done h = rw (drop_of_length-le fs h)

pub width-most : (t : Bool) → width_of t ≤ 2
width-most false = omega arith
width-most true = omega arith

pub size-most : (fs : List Field) → size_of fs ≤ 2 * length fs
size-most [] = omega arith
size-most (f ∷ fs) = omega (arith, width-most (two_of f), size-most fs)

pub value-one : (os : List ℕ) (at : ℕ) → value_of false (drop at os) ≡ get_or os at 0
value-one os at = rw (get_or-drop, add-zero)

pub value-two : (os : List ℕ) (at : ℕ) → value_of true (drop at os) ≡ word_of (get_or os at 0) (get_or os (at + 1) 0)
value-two os at = rw (get_or-drop at os 0 0, get_or-drop at os 1 0, add-zero)

pub length-values : (fs : List Field) (os : List ℕ) → length (values_of fs os) ≡ length fs
length-values [] os = refl
length-values (f ∷ fs) os = ap suc (length-values fs (drop (width_of (two_of f)) os))

pub value-at : (fs : List Field) (os : List ℕ) (i : ℕ) → i < length fs → get_or (values_of fs os) i 0 ≡ value_of (two_of (get_or fs i no_field)) (drop (field_start fs i) os)
value-at [] os i h = absurd (omega arith)
value-at (f ∷ fs) os zero h = refl
value-at (f ∷ fs) os (suc i) h = value-at fs (drop (width_of (two_of f)) os) i (omega arith) ∙ simp drop-drop

-- a turn of the reader: the field at i is read where the octets before it end
module _ (fs : List Field) (os v : List ℕ) (i at x : ℕ) (t : Bool) (h : i < length fs)
    (et : t ≡ two_of (get_or fs i no_field)) (ex : x ≡ value_of t (drop at os)) where
  pub values-next : sets (set v i x) (i + 1) (values_of (drop (i + 1) fs) (drop (at + width_of t) os)) ≡ sets v i (values_of (drop i fs) (drop at os))
  values-next = rw (drop-cons fs i no_field h, ← et, ex, drop-drop, add-one)

-- A list, and 0 in the places past its end, up to n of them

padded : (vs : List ℕ) (m j : ℕ) → get_or (vs ++ replicate m 0) j 0 ≡ get_or vs j 0
padded [] zero j = refl
padded [] (suc m) zero = refl
padded [] (suc m) (suc j) = padded [] m j
padded (v ∷ vs) m zero = refl
padded (v ∷ vs) m (suc j) = padded vs m j

module _ (n : ℕ) (vs : List ℕ) where
  abbrev filled : List ℕ
  filled = vs ++ replicate (n - length vs) 0

  pub filled_at : (j : ℕ) → get_or filled j 0 ≡ get_or vs j 0
  filled_at j = padded vs (n - length vs) j

  module _ (h : length vs ≤ n) where
    pub filled-long : length filled ≡ n
    filled-long = simp (length-append, length-replicate) (omega arith)

    pub filled_is : sets (replicate n 0) 0 vs ≡ filled
    filled_is =
        let m = length vs in
        let z : 0 + m ≡ m = omega arith in
        let e : m + (n - m) ≡ n = omega arith in
        let d = rw (replicate-append-replicate, e) at (drop_at {A = ℕ} (replicate m 0) (replicate (n - m) 0) m (length-replicate m 0)) in
        sets-eq vs (replicate n 0) 0 (omega (arith, length-replicate {A = ℕ} n 0)) ∙ rw (z, d)

pub placed-is : (vs : List ℕ) → length vs ≤ fields_most → sets zeros 0 vs ≡ placed vs
unfolding placed zeros
placed-is vs h = filled_is fields_most vs h
