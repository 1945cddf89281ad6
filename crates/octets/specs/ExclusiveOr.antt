-- The exclusive or over a list of octets.
use Rattle.std.specs.Prelude.{ℕ, List, [], ◌∷◌}
use Rattle.std.specs.Int.Bits.{bit_xor}

unfoldable pub xor : ℕ → ℕ → ℕ
xor a b = bit_xor a b

-- of all octets of the list, going on from a
unfoldable pub exclusive_or : ℕ → List ℕ → ℕ
exclusive_or a [] = a
exclusive_or a (x ∷ xs) = exclusive_or (xor a x) xs
