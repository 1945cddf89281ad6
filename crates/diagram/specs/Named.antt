-- 01, "Lamps and seconds": what the five steps of a phase show, by their names, and how an approach's lamps follow each other.
use Rattle.std.specs.Prelude.{ℕ, ◌+◌, ◌*◌, ◌-◌, ◌%◌, ◌≤◌, ◌<◌, ◌≡◌, Bool, true, false, ◌||◌}
use Rattle.diagram.specs.declared.LampRow.{LampRow}
use Rattle.diagram.specs.Table.{steps_of, lamp_row_of, flashing_of}
use Rattle.diagram.specs.Known.{Step}
use Rattle.diagram.specs.Lamps.{lit, lamp_in, green_man_of, red_lit, yellow_lit, green_lit, round_lit, straight_lit, green_man_lit, uses}

-- The five steps of a phase

-- the place of a step in its phase: 1 for the green, 2 for the walk flash, 3 for the red man, 4 for the yellow, 5 for the all-red
abbrev pub place_of : ℕ → ℕ
place_of step = (step - 1) % 5 + 1

-- 01's table: step 6 is "as 1 with phase 2", 7 is "as 2", on to 10, "as 5". Step j of a phase, which i phases come before, has place j.
abbrev pub PlacesAsSaid : Type 0
PlacesAsSaid = (i j : ℕ) → 1 ≤ j → j ≤ 5 → place_of (5 * i + j) ≡ j

-- some approach shows it
pub record SomeApproach (lamp : LampRow → ℕ → Bool) (order step : ℕ) : Type 0 where
  pub approach : ℕ
  pub within : approach < 8
  pub lights : lamp (lamp_row_of order step) approach ≡ true

pub record AsNamed (order step : ℕ) : Type 0 where
  -- in the step of the green some approach shows it
  pub greens : place_of step ≡ 1 → SomeApproach green_lit order step
  -- a lamp that flashes is a green man, and none does but in the step of the walk flash
  pub flashes : (m : ℕ) → lamp_in (flashing_of order step) m ≡ true → m % 8 ≡ 0
  pub quiet : (place_of step ≡ 2 → ⊥) → flashing_of order step ≡ 0
  -- from the step of the red man on no green man is lit
  pub men : (a : ℕ) → a < 8 → 3 ≤ place_of step → green_man_lit (lamp_row_of order step) a ≡ false
  -- yellow is shown in its own step alone, and there by some approach
  pub yellows : (a : ℕ) → a < 8 → yellow_lit (lamp_row_of order step) a ≡ true → place_of step ≡ 4
  pub some : place_of step ≡ 4 → SomeApproach yellow_lit order step

-- Each step of each order shows what its name says.
abbrev pub StepsAsNamed : Type 0
StepsAsNamed = (order step : ℕ) → Step order step → AsNamed order step

-- One step after another

-- the six lamps of an approach for vehicles, red to right green, are alike
abbrev pub VehiclesAlike : LampRow → LampRow → ℕ → Type 0
VehiclesAlike r s a = (j : ℕ) → j < 6 → lit r (8 * a + (j + 1)) ≡ lit s (8 * a + (j + 1))

pub record Follows (order step a : ℕ) : Type 0 where
  -- green goes on, or yellow follows
  pub green : green_lit (lamp_row_of order step) a ≡ true → (green_lit (lamp_row_of order (step + 1)) a || yellow_lit (lamp_row_of order (step + 1)) a) ≡ true
  -- red follows yellow
  pub yellow : yellow_lit (lamp_row_of order step) a ≡ true → red_lit (lamp_row_of order (step + 1)) a ≡ true
  -- yellow follows green alone
  pub after : yellow_lit (lamp_row_of order (step + 1)) a ≡ true → green_lit (lamp_row_of order step) a ≡ true
  -- walk flash and red man keep the vehicles' lamps of the step before
  pub kept : 2 ≤ place_of (step + 1) → place_of (step + 1) ≤ 3 → VehiclesAlike (lamp_row_of order step) (lamp_row_of order (step + 1)) a
  -- the green men of the step before flash in the walk flash, and no others
  pub walk : place_of (step + 1) ≡ 2 → lamp_in (flashing_of order (step + 1)) (green_man_of a) ≡ green_man_lit (lamp_row_of order step) a

-- So each step of a cycle follows the one before it; no green turns red but by yellow.
abbrev pub StepsFollow : Type 0
StepsFollow = (order step a : ℕ) → Step order step → Step order (step + 1) → a < 8 → Follows order step a

-- The last step of an order shows red at each approach that it uses, whatever order comes next.
abbrev pub EndsRed : Type 0
EndsRed = (order a : ℕ) → a < 8 → uses order a ≡ true → red_lit (lamp_row_of order (steps_of order)) a ≡ true

-- a step of the green that lets the approach's vehicles go straight on
pub record StraightOn (order a : ℕ) : Type 0 where
  pub step : ℕ
  pub has : Step order step
  pub place : place_of step ≡ 1
  pub green : (round_lit (lamp_row_of order step) a || straight_lit (lamp_row_of order step) a) ≡ true

-- No approach that is used waits for ever: a step of the green has a second at least.
abbrev pub EachServed : Type 0
EachServed = (order a : ℕ) → a < 8 → uses order a ≡ true → StraightOn order a
