-- What the directory promises: which phase orders are known, that each row is a step of one, and that all else is dark.
use Rattle.std.specs.Prelude.{ℕ, ◌*◌, ◌≤◌, ◌<◌, ◌≡◌, length, get_or}
use Rattle.diagram.specs.Row.{Diagram, diagram}
use Rattle.diagram.specs.Rows.{lamp_rows, directory}
use Rattle.diagram.specs.Table.{diagram_of, phases_of, approaches_of, steps_of, row_number, steady_of, flashing_of}

abbrev pub no_line : Diagram
no_line = diagram 0 0 0 0

-- line i of the directory, from 0
abbrev pub line_at : ℕ → Diagram
line_at i = get_or directory i no_line

-- the order has a line in the directory
pub record Known (order : ℕ) : Type 0 where
  pub line : ℕ
  pub within : line < length directory
  pub there : (line_at line).order ≡ order

-- No order stands twice: each line is the one found for its order.
abbrev pub EachFound : Type 0
EachFound = (i : ℕ) → i < length directory → diagram_of (line_at i).order ≡ line_at i

-- 02, E2: "01's range for phase order becomes the supported codes", each "the type code of Appendix 1, as 60 and 61 for number 22 (A) and (B)".
pub record Supported (order : ℕ) : Type 0 where
  -- numbers 00, 07 and 14
  pub at00 : order ≡ 0x00 → phases_of order ≡ 2
  pub at20 : order ≡ 0x20 → phases_of order ≡ 3
  pub at38 : order ≡ 0x38 → phases_of order ≡ 3
  -- 19 to 21, and 22 to 28
  pub from50 : 0x50 ≤ order → order ≤ 0x57 → phases_of order ≡ 4
  pub from60 : 0x60 ≤ order → order ≤ 0x6d → phases_of order ≡ 4
  -- an order that is none of them has none
  pub others : (order ≡ 0x00 → ⊥) → (order ≡ 0x20 → ⊥) → (order ≡ 0x38 → ⊥) → (0x50 ≤ order → order ≤ 0x57 → ⊥) → (0x60 ≤ order → order ≤ 0x6d → ⊥) → phases_of order ≡ 0

abbrev pub SupportedCodes : Type 0
SupportedCodes = (order : ℕ) → Supported order

-- 02, E2: "up to eight phases". A known order has one at least.
abbrev pub KnownPhases : Type 0
KnownPhases = (order : ℕ) → Known order → (1 ≤ phases_of order) × (phases_of order ≤ 8)

-- 01's table: steps 1 to 5 are the first phase's; step 6 is "as 1 with phase 2", on to "10 .. as 5".
abbrev pub FiveSteps : Type 0
FiveSteps = (order : ℕ) → steps_of order ≡ 5 * phases_of order

-- the order has that step
pub record Step (order step : ℕ) : Type 0 where
  pub first : 1 ≤ step
  pub last : step ≤ steps_of order

-- the row is a step of an order
pub record Used (number : ℕ) : Type 0 where
  pub order : ℕ
  pub step : ℕ
  pub has : Step order step
  pub there : row_number order step ≡ number

-- No row is idle: what is promised at each step of each order is promised over the whole table.
abbrev pub EachUsed : Type 0
EachUsed = (number : ℕ) → number < length lamp_rows → Used number

-- neither a steady nor a flashing lamp
pub record AllDark (order step : ℕ) : Type 0 where
  pub steady : steady_of order step ≡ 0
  pub flashing : flashing_of order step ≡ 0

-- A step that is not there, 0 or over the last, is dark.
abbrev pub OutsideDark : Type 0
OutsideDark = (order step : ℕ) → (1 ≤ step → step ≤ 5 * phases_of order → ⊥) → AllDark order step

-- An unknown order has no phases, no approaches and no steps, and each step of it is dark.
pub record Absent (order : ℕ) : Type 0 where
  pub phases : phases_of order ≡ 0
  pub approaches : approaches_of order ≡ 0
  pub steps : steps_of order ≡ 0
  pub dark : (step : ℕ) → AllDark order step

abbrev pub UnknownDark : Type 0
UnknownDark = (order : ℕ) → (Known order → ⊥) → Absent order
