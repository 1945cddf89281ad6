-- Numbers and octets as text, in ASCII.
use Rattle.std.specs.Prelude.{ℕ, zero, suc, ◌+◌, ◌-◌, ◌/◌, ◌%◌, List, [], ◌∷◌, ◌++◌, ltb}
use Prim.Native.Char.{code}
use Prim.Native.String.{String, [] as end, ◌∷◌ as ◌then◌}
use Rattle.octets.specs.Choice.{pick}

-- a text as it is quoted
abbrev pub ascii : String → List ℕ
ascii end = []
ascii (c then s) = code c ∷ ascii s

-- a digit below 16: `0` to `9`, then `A` to `F`
abbrev pub digit : ℕ → ℕ
digit d = pick (ltb d 10) (0x30 + d) (0x41 + (d - 10))

-- the last k digits of n to the base b, highest first
unfoldable pub digits : ℕ → ℕ → ℕ → List ℕ
digits b zero n = []
digits b (suc k) n = digits b k (n / b) ++ (digit (n % b) ∷ [])

-- "Hex prints in capitals": an octet as two digits, a lamp word as sixteen
abbrev pub hex2 : ℕ → List ℕ
hex2 x = digits 16 2 x

abbrev pub hex16 : ℕ → List ℕ
hex16 x = digits 16 16 x

-- how many digits n has in decimal, where f divisions by ten leave less than ten of it
unfoldable pub places_within : ℕ → ℕ → ℕ
places_within zero n = 1
places_within (suc f) n = pick (ltb n 10) 1 (1 + places_within f (n / 10))

-- as many divisions as n counts are always enough
unfoldable pub places : ℕ → ℕ
places n = places_within n n

-- the most digits of a number of 64 bits
abbrev pub digits_most : ℕ
digits_most = 20

-- n in decimal, with no zeros in front
unfoldable pub decimal : ℕ → List ℕ
decimal n = digits 10 (places n) n

-- "octets in hex with spaces": each with a blank before it, but for the first
unfoldable pub blank_hex2 : ℕ → List ℕ
blank_hex2 x = 0x20 ∷ hex2 x

unfoldable pub spaced : List ℕ → List ℕ
spaced [] = []
spaced (x ∷ xs) = blank_hex2 x ++ spaced xs

unfoldable pub octets_hex : List ℕ → List ℕ
octets_hex [] = []
octets_hex (x ∷ xs) = hex2 x ++ spaced xs
