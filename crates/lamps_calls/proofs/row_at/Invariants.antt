-- `lamps_calls::row_at`: what is left of the phases shows at what is left of the position what the whole shows there.
use Rattle.std.proofs.Common.{◌≡◌, ◌≤◌, get_or}
use Rattle.lamps.specs.Rows.{no_row, row_at}
use Rattle.lamps.proofs.Laws.{from_phase}
use Rattle.lamps_calls.proofs.row_at.Given as goal

abbrev pub invariant-loop-i : goal.invariant-loop-i
invariant-loop-i l = (l.i ≤ l.k) × (l.rest ≤ l.position) × (get_or (from_phase l.rec l.i) l.rest no_row ≡ row_at l.rec l.position)
