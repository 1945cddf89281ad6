-- What the texts mean: read again, they give back what was put.
use Prim.Native.Char.{Char, code}
use Rattle.std.specs.Prelude.{ℕ, ◌+◌, ◌*◌, ◌-◌, ◌^◌, ◌≤◌, ◌<◌, ◌≡◌, Bool, true, false, ◌⊎◌, List, [], ◌∷◌, ltb, length, take, drop, get_or}
use Prim.Native.String.{String, ◌∷◌ as ◌then◌}
use Rattle.text.specs.Text.{ascii, digits, hex2, hex16, decimal, octets_hex}

-- what a digit stands for, one below `A` and another
abbrev pub worth_if : Bool → ℕ → ℕ
worth_if true c = c - 0x30
worth_if false c = c - 0x41 + 10

abbrev pub worth : ℕ → ℕ
worth c = worth_if (ltb c 0x41) c

-- `0` to `9` or `A` to `F`, and below the base
pub record IsDigit (b c : ℕ) : Type 0 where
  pub glyph : ((0x30 ≤ c) × (c ≤ 0x39)) ⊎ ((0x41 ≤ c) × (c ≤ 0x46))
  pub below : worth c < b

abbrev pub AllDigits : ℕ → List ℕ → Type 0
AllDigits b [] = Unit
AllDigits b (c ∷ cs) = IsDigit b c × AllDigits b cs

-- the number that digits to the base b stand for, a being what those before them gave
unfoldable pub read_from : ℕ → ℕ → List ℕ → ℕ
read_from b a [] = a
read_from b a (c ∷ cs) = read_from b (a * b + worth c) cs

-- the text is k digits to the base b, and they stand for n
pub record Means (b k n : ℕ) (text : List ℕ) : Type 0 where
  pub long : length text ≡ k
  pub right : AllDigits b text
  pub value : read_from b 0 text ≡ n

-- so many hexadecimal digits give back every number that they can hold
abbrev pub HexMeans : Type 0
HexMeans = (k n : ℕ) → n < 16 ^ k → Means 16 k n (digits 16 k n)

-- an octet has two of them, a word of 64 bits sixteen
abbrev pub HexAsPrinted : Type 0
HexAsPrinted = ((x : ℕ) → x < 256 → Means 16 2 x (hex2 x)) × ((x : ℕ) → x < 2 ^ 64 → Means 16 16 x (hex16 x))

-- decimal gives back every number, and starts with no zero but for the number 0
pub record DecimalOf (n : ℕ) : Type 0 where
  pub means : Means 10 (length (decimal n)) n (decimal n)
  pub first : get_or (decimal n) 0 0 ≡ 0x30 → n ≡ 0

abbrev pub DecimalMeans : Type 0
DecimalMeans = ((n : ℕ) → DecimalOf n) × (decimal 0 ≡ 0x30 ∷ [])

-- of parted octets each has three places, its two digits and a blank, and the last has two
pub record OctetAt (xs : List ℕ) (i : ℕ) : Type 0 where
  pub digits : take 2 (drop (3 * i) (octets_hex xs)) ≡ hex2 (get_or xs i 0)
  pub means : get_or xs i 0 < 256 → Means 16 2 (get_or xs i 0) (take 2 (drop (3 * i) (octets_hex xs)))
  pub blank : i + 1 < length xs → get_or (octets_hex xs) (3 * i + 2) 0 ≡ 0x20

abbrev pub OctetsParted : Type 0
OctetsParted = (xs : List ℕ) → (length (octets_hex xs) ≡ 3 * length xs - 1) × ((i : ℕ) → i < length xs → OctetAt xs i)

-- a text is the codes of its characters, one after another: so 01's header, and the words `reply` and `bad`, each with its tab
pub record EachText : Type 0 where
  pub none : ascii "" ≡ []
  pub next : (c : Char) (s : String) → ascii (c then s) ≡ code c ∷ ascii s
  pub header : ascii "second\tplan\tstep\tleft\tsteady\tflashing\n"
      ≡ 0x73 ∷ 0x65 ∷ 0x63 ∷ 0x6F ∷ 0x6E ∷ 0x64 ∷ 0x09
      ∷ 0x70 ∷ 0x6C ∷ 0x61 ∷ 0x6E ∷ 0x09
      ∷ 0x73 ∷ 0x74 ∷ 0x65 ∷ 0x70 ∷ 0x09
      ∷ 0x6C ∷ 0x65 ∷ 0x66 ∷ 0x74 ∷ 0x09
      ∷ 0x73 ∷ 0x74 ∷ 0x65 ∷ 0x61 ∷ 0x64 ∷ 0x79 ∷ 0x09
      ∷ 0x66 ∷ 0x6C ∷ 0x61 ∷ 0x73 ∷ 0x68 ∷ 0x69 ∷ 0x6E ∷ 0x67 ∷ 0x0A ∷ []
  pub reply : ascii "reply\t" ≡ 0x72 ∷ 0x65 ∷ 0x70 ∷ 0x6C ∷ 0x79 ∷ 0x09 ∷ []
  pub bad : ascii "bad\t" ≡ 0x62 ∷ 0x61 ∷ 0x64 ∷ 0x09 ∷ []

abbrev pub AsciiAsSaid : Type 0
AsciiAsSaid = EachText
