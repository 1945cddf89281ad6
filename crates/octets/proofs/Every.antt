-- One computed test over a list, or over the numbers below one, and what it says of each.
use Prim.Native.Nat.{ℕ, zero, suc, ◌≤◌, ◌<◌}
use mathlib.Core.Path.{◌≡◌, refl}
use mathlib.Core.Bool.{Bool, true}
use mathlib.Core.List.{List, [], ◌∷◌}
use native.Mathlib.Decide.{ℕ_discrete}
use native.Mathlib.Omega.{arith}
use lib.ListN.{length, get_or}
use Rattle.octets.specs.Choice.{both}
use Rattle.octets.proofs.Laws.{both_left, both_right}

module _ {A : Type 0} (test : A → Bool) where
  unfoldable pub every : List A → Bool
  every [] = true
  every (x ∷ xs) = both (test x) (every xs)

  -- of what stands at i, and of what stands in for it past the end
  pub every-at : (xs : List A) (i : ℕ) (d : A) → every xs ≡ true → (length xs ≤ i → test d ≡ true) → test (get_or xs i d) ≡ true
  unfolding every
  every-at [] i d t h = h (omega arith)
  every-at (x ∷ xs) zero d t h = both_left (test x) (every xs) t
  every-at (x ∷ xs) (suc i) d t h = every-at xs i d (both_right (test x) (every xs) t) (λ l. h (omega arith))

-- all of several tests, each then read by its place
unfoldable pub all : List Bool → Bool
all ts = every (λ t. t) ts

pub all-at : (ts : List Bool) (i : ℕ) → all ts ≡ true → get_or ts i true ≡ true
unfolding all
all-at ts i t = every-at (λ b. b) ts i true t (λ _. refl)

module _ (test : ℕ → Bool) where
  unfoldable pub below : ℕ → Bool
  below zero = true
  below (suc n) = both (test n) (below n)

  pub below_at : (n i : ℕ) → below n ≡ true → i < n → test i ≡ true
  unfolding below
  below_at zero i t h = absurd (omega arith)
  below_at (suc n) i t h = by (ℕ_discrete i n) (below_at n i (both_right (test n) (below n) t))
    where
      by : Dec (i ≡ n) → (i < n → test i ≡ true) → test i ≡ true
      by (yes e) f = rw e (both_left (test n) (below n) t)
      by (no ne) f = f (omega arith)
