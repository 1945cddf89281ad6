-- 01, "Lamps and seconds": the step table, and the directory that says which of its rows are a phase order's.
use Rattle.std.specs.Prelude.{ℕ, ◌+◌, ◌*◌, ◌-◌, List, [], ◌∷◌, eqb, leb, length, get_or}
use Rattle.octets.specs.Choice.{pick, both}
use Rattle.diagram.specs.declared.LampRow.{LampRow}
use Rattle.diagram.specs.Row.{row, Diagram, diagram}
use Rattle.diagram.specs.Rows.{lamp_rows, directory}

-- an order that is not there has no phases and no approaches
abbrev pub unknown : ℕ → Diagram
unknown order = diagram order 0 0 0

-- the first line with that order
unfoldable pub find : ℕ → List Diagram → Diagram
find order [] = unknown order
find order (d ∷ ds) = pick (eqb d.order order) d (find order ds)

unfoldable pub diagram_of : ℕ → Diagram
diagram_of order = find order directory

abbrev pub phases_of : ℕ → ℕ
phases_of order = (diagram_of order).phases

abbrev pub approaches_of : ℕ → ℕ
approaches_of order = (diagram_of order).approaches

-- Steps

-- each phase has the five of 01's table: green, walk flash, red man, yellow, all-red
abbrev pub steps_aphase : ℕ
steps_aphase = 5

abbrev pub steps_in : Diagram → ℕ
steps_in d = steps_aphase * d.phases

abbrev pub steps_of : ℕ → ℕ
steps_of order = steps_in (diagram_of order)

-- the row of a step, from 0, the first step being 1; past the table's end where there is no such step
unfoldable pub row_number : ℕ → ℕ → ℕ
row_number order step = pick (both (leb 1 step) (leb step (steps_of order))) ((diagram_of order).first + (step - 1)) (length lamp_rows)

-- a row that is not there is dark
abbrev pub dark_row : LampRow
dark_row = row 0 0

unfoldable pub lamp_row_of : ℕ → ℕ → LampRow
lamp_row_of order step = get_or lamp_rows (row_number order step) dark_row

abbrev pub steady_of : ℕ → ℕ → ℕ
steady_of order step = (lamp_row_of order step).steady

abbrev pub flashing_of : ℕ → ℕ → ℕ
flashing_of order step = (lamp_row_of order step).flashing
