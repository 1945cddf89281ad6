-- 01, "Cases": what a line is, told from all its octets at once, and that reading them one by one finds just that.
use Rattle.std.specs.Prelude.{◌≡◌, ℕ, ◌+◌, ◌-◌, ◌*◌, ◌%◌, ◌^◌, ◌<◌, ◌≤◌, List, [], ◌∷◌, ◌++◌, length, replicate, ◌≢◌, Option, Some, None}
use Rattle.line.specs.declared.LineFound.{LineFound}
use Rattle.line.specs.declared.LineFound.TheVariants as found
use Rattle.line.specs.declared.Line.{Line}
use Rattle.line.specs.Line.{line_numbered, first_line, line_octet, end_of}

-- What a line is

-- c is a hex digit "in either case", and v is its value
pub data Hex (c v : ℕ) : Type 0 where
  digit : v < 10 → c ≡ 0x30 + v → Hex c v
  capital : 10 ≤ v → v < 16 → c ≡ 0x41 + (v - 10) → Hex c v
  small : 10 ≤ v → v < 16 → c ≡ 0x61 + (v - 10) → Hex c v

-- "`T` is a second"
abbrev pub IsSecond : List ℕ → Type 0
IsSecond xs = xs ≡ 0x54 ∷ []

-- "`B`, tab, two hex digits an octet"
pub record IsOctet (xs : List ℕ) (b : ℕ) : Type 0 where
  pub c : ℕ
  pub d : ℕ
  pub v : ℕ
  pub w : ℕ
  pub octets : xs ≡ 0x42 ∷ 0x09 ∷ c ∷ d ∷ []
  pub high : Hex c v
  pub low : Hex d w
  pub value : b ≡ v * 16 + w

-- "a bad line": any other
pub record IsBad (xs : List ℕ) : Type 0 where
  pub second : IsSecond xs → ⊥
  pub octet : (b : ℕ) → IsOctet xs b → ⊥

-- what the line with these octets is; "for a bad line .. its number", which is n
pub data Is (n : ℕ) (xs : List ℕ) : LineFound → Type 0 where
  second : IsSecond xs → Is n xs found.Second
  octet : {b : ℕ} → IsOctet xs b → Is n xs (found.Octet b)
  bad : IsBad xs → Is n xs (found.Bad n)

-- it is one thing only
abbrev pub LineIsOne : Type 0
LineIsOne = (n : ℕ) (xs : List ℕ) (f g : LineFound) → Is n xs f → Is n xs g → f ≡ g

-- Reading one line

-- no octet of it is a line feed, 0A
abbrev pub NoFeed : List ℕ → Type 0
NoFeed [] = Unit
NoFeed (x ∷ xs) = (x ≢ 0x0A) × NoFeed xs

-- octets taken one after another: what each finds, and the line then under way
unfoldable pub founds : Line → List ℕ → List (Option LineFound)
founds l [] = []
founds l (o ∷ os) = (line_octet l o).found ∷ founds (line_octet l o).line os

unfoldable pub line_after : Line → List ℕ → Line
line_after l [] = l
line_after l (o ∷ os) = line_after (line_octet l o).line os

pub record LineReadSo (n : ℕ) (xs : List ℕ) : Type 0 where
  pub before : founds (line_numbered n) xs ≡ replicate (length xs) None
  pub line : LineFound
  pub found : (line_octet (line_after (line_numbered n) xs) 0x0A).found ≡ Some line
  pub is : Is n xs line
  pub next : (line_octet (line_after (line_numbered n) xs) 0x0A).line ≡ line_numbered ((n + 1) % 2 ^ 64)

-- nothing is found before the line feed, then what the line is; the next line has the next number, modulo 2^64, and nothing of this one
abbrev pub LineRead : Type 0
LineRead = (n : ℕ) (xs : List ℕ) → NoFeed xs → LineReadSo n xs

-- Reading a whole input

-- all that was found, in order
abbrev pub lines_found : List (Option LineFound) → List LineFound
lines_found [] = []
lines_found (None ∷ fs) = lines_found fs
lines_found (Some f ∷ fs) = f ∷ lines_found fs

unfoldable pub found_in : Line → List ℕ → List LineFound
found_in l os = lines_found (founds l os ++ (end_of (line_after l os) ∷ []))

-- lines, each with its line feed
abbrev pub with_feeds : List (List ℕ) → List ℕ
with_feeds [] = []
with_feeds (xs ∷ ls) = xs ++ (0x0A ∷ with_feeds ls)

abbrev pub NoFeeds : List (List ℕ) → Type 0
NoFeeds [] = Unit
NoFeeds (xs ∷ ls) = NoFeed xs × NoFeeds ls

-- a last line may lack its line feed; where nothing stands there, there is none
abbrev pub last_line : List ℕ → List (List ℕ)
last_line [] = []
last_line (x ∷ xs) = (x ∷ xs) ∷ []

-- what the lines are, in order, the first being number n
pub data Are : ℕ → List (List ℕ) → List LineFound → Type 0 where
  none : {n : ℕ} → Are n [] []
  more : {n : ℕ} {xs : List ℕ} {f : LineFound} {ls : List (List ℕ)} {fs : List LineFound} → Is n xs f → Are ((n + 1) % 2 ^ 64) ls fs → Are n (xs ∷ ls) (f ∷ fs)

-- every line is found once, in order and with its number from 1, and nothing else is found
abbrev pub InputRead : Type 0
InputRead = (ls : List (List ℕ)) (last : List ℕ) → NoFeeds ls → NoFeed last → Are 1 (ls ++ last_line last) (found_in first_line (with_feeds ls ++ last))
