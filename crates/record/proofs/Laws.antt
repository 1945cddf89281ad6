-- What follows from the definitions of specs/: one law for each way through.
use Prim.Native.Nat.{ℕ, zero, suc, ◌<◌}
use mathlib.Core.List.{List, [], ◌∷◌}
use native.Mathlib.Omega.{arith}
use lib.ListN.{get_or}
use Rattle.octets.specs.Octet.{Octets}

-- Octets

pub octet-below : (rec : List ℕ) (i : ℕ) → Octets rec → get_or rec i 0 < 256
octet-below [] i o = omega arith
octet-below (x ∷ xs) zero o = o.0
octet-below (x ∷ xs) (suc i) o = octet-below xs i o.1
