-- Approaches A and B lie on one road, C and D on the road that crosses it: in 01's step table, and in every diagram that is supported.
use Rattle.std.specs.Prelude.{ℕ, ◌≤◌, ◌<◌, ◌≡◌, Bool, true, false, ◌||◌}
use Rattle.diagram.specs.declared.LampRow.{LampRow}
use Rattle.diagram.specs.Table.{lamp_row_of}
use Rattle.diagram.specs.Known.{Step}
use Rattle.diagram.specs.Lamps.{yellow_lit, green_lit, green_man_lit}

-- green or yellow for the approach's vehicles, or a green man, steady or flashing
abbrev pub goes : LampRow → ℕ → Bool
goes r a = green_lit r a || (yellow_lit r a || green_man_lit r a)

-- At each step of each order, while an approach of one road goes, none of the other does.
abbrev pub NoCrossing : Type 0
NoCrossing =
    (order step a c : ℕ) → Step order step → a < 2 → 2 ≤ c → c < 4
    → goes (lamp_row_of order step) a ≡ true → goes (lamp_row_of order step) c ≡ false
