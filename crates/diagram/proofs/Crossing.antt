-- No two roads go at once: one computed test over the whole table.
use Prim.Native.Nat.{ℕ, ◌+◌, ◌-◌}
use mathlib.Core.Path.{◌≡◌, refl}
use mathlib.Core.Bool.{Bool, true, not}
use native.Mathlib.Omega.{arith}
use borrow.Author.Tests.{not-true}
use Rattle.octets.proofs.Every.{every, below, below_at}
use Rattle.diagram.specs.declared.LampRow.{LampRow}
use Rattle.diagram.specs.Row.{Diagram}
use Rattle.diagram.specs.Rows.{lamp_rows, directory}
use Rattle.diagram.specs.Table.{diagram_of, steps_in}
use Rattle.diagram.specs.Lamps.{lit, green_lit}
use Rattle.diagram.specs.Crossing.{goes, NoCrossing}
use Rattle.diagram.proofs.Laws.{row-there}
use Rattle.diagram.proofs.Known.{found-passes}
use Rattle.diagram.proofs.Rule.{row_in}
use Rattle.diagram.proofs.Named.{implies, implied}

-- the approaches of a road
abbrev of_road : ℕ
of_road = 2

abbrev crossed_stops : LampRow → Bool
crossed_stops r = below (λ j. not (goes r (of_road + j))) of_road

abbrev one_goes : LampRow → Bool
one_goes r = below (λ a. implies (goes r a) (crossed_stops r)) of_road

diagram_goes : Diagram → Bool
diagram_goes d = below (λ i. one_goes (row_in d i)) (steps_in d)

table-goes : every diagram_goes directory ≡ true
unfolding every below diagram_goes lit green_lit directory lamp_rows
table-goes = refl

diagram-goes : (order : ℕ) → diagram_goes (diagram_of order) ≡ true
unfolding diagram_goes below
diagram-goes order = found-passes diagram_goes table-goes (λ _. refl) order

pub no-crossing : NoCrossing
unfolding diagram_goes
no-crossing order step a c s ha hc hd g =
    let d = diagram_of order in
    let r = row_in d (step - 1) in
    let e = row-there order step s.first s.last in
    let t = below_at (λ i. one_goes (row_in d i)) (steps_in d) (step - 1) (diagram-goes order) (omega (arith, s.first, s.last)) in
    let u = implied (goes r a) (crossed_stops r) (below_at (λ b. implies (goes r b) (crossed_stops r)) of_road a t ha) (rw e at g) in
    let v = below_at (λ j. not (goes r (of_road + j))) of_road (c - of_road) u (omega arith) in
    let z : of_road + (c - of_road) ≡ c = omega arith in
    rw (e, ← z) (not-true (goes r (of_road + (c - of_road))) v)
