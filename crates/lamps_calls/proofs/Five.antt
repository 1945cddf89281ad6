-- The sum of a list of five.
use Prim.Native.Nat.{ℕ}
use mathlib.Core.Path.{◌≡◌}
use mathlib.Core.List.{List, [], ◌∷◌}
use native.Mathlib.Omega.{arith}
use lib.ListN.{length}
use Rattle.std.specs.List.{sum_by}
use Rattle.lamps.specs.Rows.{table_sum}

pub five : (t : List ℕ) → length t ≡ 5 → sum_by (λ x. x) t ≡ table_sum t
five (a ∷ b ∷ c ∷ d ∷ e ∷ []) h = omega arith
five [] h = absurd (omega arith)
five (a ∷ []) h = absurd (omega arith)
five (a ∷ b ∷ []) h = absurd (omega arith)
five (a ∷ b ∷ c ∷ []) h = absurd (omega arith)
five (a ∷ b ∷ c ∷ d ∷ []) h = absurd (omega arith)
five (a ∷ b ∷ c ∷ d ∷ e ∷ f ∷ t) h = absurd (omega arith)
