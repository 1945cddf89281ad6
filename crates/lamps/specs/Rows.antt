-- 01, "Lamps and seconds": the seconds of a step, the rows of a cycle, and the row at a position.
--
-- "A second call answers the current plan, step, seconds left in the step (this one counted) and both words": a row is that
-- answer without the plan, and the rows of a cycle are what its seconds show, one after another.
use Rattle.std.specs.Prelude.{ℕ, zero, suc, ◌+◌, ◌*◌, ◌-◌, ◌/◌, ◌%◌, List, [], ◌∷◌, ◌++◌, leb, get_or}
use Rattle.octets.specs.Choice.{pick, both}
use Rattle.diagram.specs.Table.{steps_aphase, steady_of, flashing_of}
use Rattle.record.specs.Record.{k_of, order_of, green_of, walk_flash_of, red_man_of, yellow_of, all_red_of}
use Rattle.lamps.specs.declared.Row.{Row}

-- Seconds

-- "green less walk flash less red man": a difference is never below 0 here
abbrev pub green_less : ℕ → ℕ → ℕ → ℕ
green_less green walk_flash red_man = green - walk_flash - red_man

-- "Step", "Seconds": the five steps of a phase with these times
abbrev pub table_of : ℕ → ℕ → ℕ → ℕ → ℕ → List ℕ
table_of green walk_flash red_man yellow all_red =
    green_less green walk_flash red_man  -- 1
    ∷ walk_flash  -- 2
    ∷ red_man  -- 3
    ∷ yellow  -- 4
    ∷ all_red  -- 5
    ∷ []

-- those of phase i; phases are counted from 0, as in a record
unfoldable pub phase_table : List ℕ → ℕ → List ℕ
phase_table rec i = table_of (green_of rec i) (walk_flash_of rec i) (red_man_of rec i) (yellow_of rec i) (all_red_of rec i)

-- the seconds of all five
abbrev pub table_sum : List ℕ → ℕ
table_sum t = get_or t 0 0 + get_or t 1 0 + get_or t 2 0 + get_or t 3 0 + get_or t 4 0

-- step 6 "as 1 with phase 2", step 7 "as 2": steps are counted from 1 and go on through the phases
abbrev pub steps_of_plan : List ℕ → ℕ
steps_of_plan rec = steps_aphase * k_of rec

abbrev pub phase_of : ℕ → ℕ
phase_of step = (step - 1) / steps_aphase

-- the step's line in its phase's table, from 0
abbrev pub line_of : ℕ → ℕ
line_of step = (step - 1) % steps_aphase

-- a step that is not there has no seconds
unfoldable pub seconds_of : List ℕ → ℕ → ℕ
seconds_of rec step =
    pick (both (leb 1 step) (leb step (steps_of_plan rec)))
    (get_or (phase_table rec (phase_of step)) (line_of step) 0)
    0

-- Rows

-- a second of a step with so many left: both words are the diagram's
abbrev pub row_of : ℕ → ℕ → ℕ → Row
row_of order step left = record { step = step; left = left; steady = steady_of order step; flashing = flashing_of order step }

-- n seconds of a step, "this one counted": from n left down to 1. "A step of 0 seconds is passed over."
unfoldable pub counted_down : ℕ → ℕ → ℕ → List Row
counted_down order step zero = []
counted_down order step (suc n) = row_of order step (suc n) ∷ counted_down order step n

-- n steps from one on, each with its seconds
unfoldable pub rows_from : (ℕ → ℕ) → ℕ → ℕ → ℕ → List Row
rows_from sec order step zero = []
rows_from sec order step (suc n) = counted_down order step (sec step) ++ rows_from sec order (step + 1) n

-- the rows of a record's cycle
unfoldable pub rows_of : List ℕ → List Row
rows_of rec = rows_from (seconds_of rec) (order_of rec) 1 (steps_of_plan rec)

-- those of phase i alone
abbrev pub phase_rows : List ℕ → ℕ → List Row
phase_rows rec i = rows_from (seconds_of rec) (order_of rec) (steps_aphase * i + 1) steps_aphase

-- where there is no row: step 0, which no row has, and all lamps dark
abbrev pub no_row : Row
no_row = record { step = 0; left = 0; steady = 0; flashing = 0 }

-- the row at a position, from 0
unfoldable pub row_at : List ℕ → ℕ → Row
row_at rec position = get_or (rows_of rec) position no_row
