-- What an octet is, and which stands at a place.
use Rattle.std.specs.Prelude.{ℕ, ◌<◌, List, [], ◌∷◌, get_or}

-- each of the numbers is an octet
abbrev pub Octets : List ℕ → Type 0
Octets [] = Unit
Octets (x ∷ xs) = (x < 256) × Octets xs

-- the octet at a place, from 0; one that is not there is 0
abbrev pub octet_at : List ℕ → ℕ → ℕ
octet_at os at = get_or os at 0
