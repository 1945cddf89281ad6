-- What 01 demands of the lamps and seconds of a cycle, stated from outside.
use Rattle.std.specs.Prelude.{ℕ, zero, suc, ◌+◌, ◌*◌, ◌-◌, ◌≤◌, ◌<◌, ◌≡◌, List, [], ◌∷◌, ◌++◌, length}
use Rattle.diagram.specs.Table.{steady_of, flashing_of}
use Rattle.record.specs.Record.{Ready, k_of, order_of, green_of, walk_flash_of, red_man_of, yellow_of, all_red_of, cycle_of, sum_of}
use Rattle.lamps.specs.declared.Row.{Row}
use Rattle.lamps.specs.Rows.{steps_of_plan, seconds_of, rows_of, row_at}

-- The cycle

-- A ready record's rows are exactly its cycle many, 1 to 900.
pub record CycleRows (rec : List ℕ) : Type 0 where
  pub rows : length (rows_of rec) ≡ cycle_of rec
  pub least : 1 ≤ cycle_of rec
  pub most : cycle_of rec ≤ 900

abbrev pub CycleLong : Type 0
CycleLong = (rec : List ℕ) → Ready rec → CycleRows rec

-- The step table

-- the seconds of steps 1 to n
unfoldable pub seconds_to : (ℕ → ℕ) → ℕ → ℕ
seconds_to sec zero = 0
seconds_to sec (suc n) = seconds_to sec n + sec (suc n)

-- step j, 1 to 5, of phase i, phases counted from 0: 01's step 6 is "as 1 with phase 2", step 7 "as 2"
abbrev pub step_in : ℕ → ℕ → ℕ
step_in i j = 5 * i + j

-- 01's column "Seconds" for the five steps of phase i; a difference is never below 0
pub record StepsOfPhase (rec : List ℕ) (i : ℕ) : Type 0 where
  -- "green less walk flash less red man"
  pub before_flash : seconds_of rec (step_in i 1) ≡ green_of rec i - walk_flash_of rec i - red_man_of rec i
  pub walk_flash : seconds_of rec (step_in i 2) ≡ walk_flash_of rec i
  pub red_man : seconds_of rec (step_in i 3) ≡ red_man_of rec i
  pub yellow : seconds_of rec (step_in i 4) ≡ yellow_of rec i
  pub all_red : seconds_of rec (step_in i 5) ≡ all_red_of rec i

-- A record has five steps a phase, each with its seconds; a step that is not there has none; and there are as many rows as the
-- steps have seconds.
pub record StepTable (rec : List ℕ) : Type 0 where
  pub steps : steps_of_plan rec ≡ 5 * k_of rec
  pub phases : (i : ℕ) → i < k_of rec → StepsOfPhase rec i
  pub none : seconds_of rec 0 ≡ 0
  pub past : (step : ℕ) → 5 * k_of rec < step → seconds_of rec step ≡ 0
  pub rows : length (rows_of rec) ≡ seconds_to (seconds_of rec) (5 * k_of rec)

-- So of every record, ready or not.
abbrev pub SecondsOfSteps : Type 0
SecondsOfSteps = (rec : List ℕ) → StepTable rec

-- Each second

-- r is due at position p, where steps 1 to n have the seconds `sec`: its step is one of these, which has begun and is not
-- over; its "seconds left in the step (this one counted)" are those until the step's end; "both words" are the step's
pub record Due (sec : ℕ → ℕ) (order n p : ℕ) (r : Row) : Type 0 where
  pub first : 1 ≤ r.step
  pub last : r.step ≤ n
  pub begun : seconds_to sec (r.step - 1) ≤ p
  pub some : 1 ≤ r.left
  pub left : p + r.left ≡ seconds_to sec r.step
  pub steady : r.steady ≡ steady_of order r.step
  pub flashing : r.flashing ≡ flashing_of order r.step

-- Each row is due by the step table.
abbrev pub LampsOfStep : Type 0
LampsOfStep = (rec : List ℕ) (p : ℕ) → p < length (rows_of rec) → Due (seconds_of rec) (order_of rec) (steps_of_plan rec) p (row_at rec p)

-- The table leaves no choice: at most one row is due at a position.
abbrev pub OneDue : Type 0
OneDue = (sec : ℕ → ℕ) (order n p : ℕ) (r s : Row) → Due sec order n p r → Due sec order n p s → r ≡ s

-- step 0, which no row has, no seconds left, and all lamps dark
pub record NothingShown (r : Row) : Type 0 where
  pub step : r.step ≡ 0
  pub left : r.left ≡ 0
  pub steady : r.steady ≡ 0
  pub flashing : r.flashing ≡ 0

-- Past the last row nothing is shown.
abbrev pub DarkPast : Type 0
DarkPast = (rec : List ℕ) (p : ℕ) → length (rows_of rec) ≤ p → NothingShown (row_at rec p)

-- "A step of 0 seconds is passed over": no position shows it.
abbrev pub NoZeroStep : Type 0
NoZeroStep = (rec : List ℕ) (step p : ℕ) → 1 ≤ step → seconds_of rec step ≡ 0 → (row_at rec p).step ≡ step → ⊥

-- Each phase

-- Every phase has at least one second of its first step, and begins with all of them left, right after the phases before it.
pub record GreenFirst (rec : List ℕ) (i : ℕ) : Type 0 where
  pub some : 1 ≤ seconds_of rec (step_in i 1)
  pub step : (row_at rec (sum_of rec i)).step ≡ step_in i 1
  pub left : (row_at rec (sum_of rec i)).left ≡ seconds_of rec (step_in i 1)
  pub steady : (row_at rec (sum_of rec i)).steady ≡ steady_of (order_of rec) (step_in i 1)
  pub flashing : (row_at rec (sum_of rec i)).flashing ≡ flashing_of (order_of rec) (step_in i 1)

abbrev pub GreenShown : Type 0
GreenShown = (rec : List ℕ) (i : ℕ) → Ready rec → i < k_of rec → GreenFirst rec i

-- the row shows a step from `first` to `last`, by its words
pub record WithinSteps (order first last : ℕ) (r : Row) : Type 0 where
  pub least : first ≤ r.step
  pub most : r.step ≤ last
  pub steady : r.steady ≡ steady_of order r.step
  pub flashing : r.flashing ≡ flashing_of order r.step

abbrev pub Each : {A : Type 0} → (A → Type 0) → List A → Type 0
Each P [] = Unit
Each P (r ∷ rs) = P r × Each P rs

-- the rows are so many seconds of steps from `first` to `last`, and of no others
pub record Stretch (order first last seconds : ℕ) (rows : List Row) : Type 0 where
  pub long : length rows ≡ seconds
  pub steps : Each (WithinSteps order first last) rows

-- The rows of phase i's green are its three steps in order: "green less walk flash less red man", "walk flash", "red man".
pub record GreenWhole (rec : List ℕ) (i : ℕ) (green : List Row) : Type 0 where
  pub before_flash : List Row
  pub walk_flash : List Row
  pub red_man : List Row
  pub whole : green ≡ before_flash ++ (walk_flash ++ red_man)
  pub full_before_flash : Stretch (order_of rec) (step_in i 1) (step_in i 1) (green_of rec i - walk_flash_of rec i - red_man_of rec i) before_flash
  pub full_walk_flash : Stretch (order_of rec) (step_in i 2) (step_in i 2) (walk_flash_of rec i) walk_flash
  pub full_red_man : Stretch (order_of rec) (step_in i 3) (step_in i 3) (red_man_of rec i) red_man

-- Phase i stands whole in the cycle, right after the phases before it: its full green, then its full yellow, then its full
-- all-red.
pub record PhaseWhole (rec : List ℕ) (i : ℕ) : Type 0 where
  pub before : List Row
  pub green : List Row
  pub yellow : List Row
  pub all_red : List Row
  pub after : List Row
  pub whole : rows_of rec ≡ before ++ (green ++ (yellow ++ (all_red ++ after)))
  pub start : length before ≡ sum_of rec i
  pub full_green : Stretch (order_of rec) (step_in i 1) (step_in i 3) (green_of rec i) green
  pub in_green : GreenWhole rec i green
  pub full_yellow : Stretch (order_of rec) (step_in i 4) (step_in i 4) (yellow_of rec i) yellow
  pub full_all_red : Stretch (order_of rec) (step_in i 5) (step_in i 5) (all_red_of rec i) all_red

abbrev pub WholePhases : Type 0
WholePhases = (rec : List ℕ) (i : ℕ) → Ready rec → i < k_of rec → PhaseWhole rec i
