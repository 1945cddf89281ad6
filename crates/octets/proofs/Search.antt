-- A search that stops at the first place at which a test holds.
use Prim.Native.Nat.{ℕ, zero, suc, ◌+◌, ◌-◌, ◌≤◌, ◌<◌}
use mathlib.Core.Path.{◌≡◌, refl, ap, ◌∙◌}
use mathlib.Core.Bool.{Bool, true, false}
use native.Mathlib.Omega.{arith}
use borrow.Author.Count.{below_more}
use Rattle.octets.specs.First.{First, first_of}
use Rattle.octets.proofs.Laws.{first-none, first_found}

searched : (t : ℕ → Bool) (i m : ℕ) {b : Bool} → t i ≡ b → first_of t i (suc m) ≡ elim b [ true ↦ i + 1 | false ↦ first_of t (i + 1) m ]
unfolding first_of
searched t i m e = ap (λ (b : Bool). elim b [ true ↦ i + 1 | false ↦ first_of t (i + 1) m ]) e

module _ (t : ℕ → Bool) (n i : ℕ) where
  pub search-ends : n ≤ i → first_of t i (n - i) ≡ 0
  unfolding first_of
  search-ends h = let e : n - i ≡ 0 = omega arith in rw e

  pub search-stops : i < n → t i ≡ true → first_of t i (n - i) ≡ i + 1
  search-stops h e = let s : n - i ≡ suc (n - (i + 1)) = omega arith in rw s (searched t i (n - (i + 1)) e)

  pub search-goes : i < n → t i ≡ false → first_of t i (n - i) ≡ first_of t (i + 1) (n - (i + 1))
  search-goes h e = let s : n - i ≡ suc (n - (i + 1)) = omega arith in rw s (searched t i (n - (i + 1)) e)

none_from : (t : ℕ → Bool) (i m : ℕ) → ((j : ℕ) → i ≤ j → j < i + m → t j ≡ false) → first_of t i m ≡ 0
unfolding first_of
none_from t i zero h = refl
none_from t i (suc m) h = searched t i m (h i (omega arith) (omega arith)) ∙ none_from t (i + 1) m (λ j a b. h j (omega arith) (omega arith))

-- where the test holds nowhere further on
pub search-none : (t : ℕ → Bool) (n i : ℕ) → ((j : ℕ) → i ≤ j → j < n → t j ≡ false) → first_of t i (n - i) ≡ 0
search-none t n i h = none_from t i (n - i) (λ j a b. h j a (omega arith))

search-from : (t : ℕ → Bool) (n i m : ℕ) → i + m ≡ n → ((j : ℕ) → j < i → t j ≡ false) → First t n (first_of t i m)
unfolding first_of
search-from t n i zero e h = first-none (λ j l. h j (omega arith))
search-from t n i (suc m) e h = by (t i) refl (λ q. search-from t n (i + 1) m (omega arith) (below_more (λ (k : ℕ). t k ≡ false) i h q))
  where
    by : (b : Bool) → t i ≡ b → (t i ≡ false → First t n (first_of t (i + 1) m)) → First t n (elim b [ true ↦ i + 1 | false ↦ first_of t (i + 1) m ])
    by true q r = first_found (omega arith) h q
    by false q r = r q

-- the number that the search yields is the first
pub search-first : (t : ℕ → Bool) (n : ℕ) → First t n (first_of t 0 n)
search-first t n = search-from t n 0 n (omega arith) (λ j h. absurd (omega arith))
