-- "The search over fields stops at the first that fails and yields its number": the idea, over any test.
use Rattle.std.specs.Prelude.{ℕ, zero, suc, ◌+◌, ◌≤◌, ◌<◌, ◌≡◌, Bool, true, false}

-- r is the number, from 1, of the first of n places at which `fails` holds, and 0 where it holds at none
pub record First (fails : ℕ → Bool) (n r : ℕ) : Type 0 where
  pub within : r ≤ n
  pub before : (j : ℕ) → j + 1 < r → fails j ≡ false
  pub here : (j : ℕ) → j + 1 ≡ r → fails j ≡ true
  pub none : r ≡ 0 → (j : ℕ) → j < n → fails j ≡ false

-- the same, computed from place i on
unfoldable pub first_of : (ℕ → Bool) → ℕ → ℕ → ℕ
first_of fails i zero = 0
first_of fails i (suc n) = elim (fails i) [ true ↦ i + 1 | false ↦ first_of fails (i + 1) n ]
