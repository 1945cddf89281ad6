-- `lamps_calls::row_in`: what is left of the phase's steps shows at what is left of the place what the phase shows there.
use Rattle.std.proofs.Common.{◌≡◌, ◌+◌, ◌-◌, ◌≤◌, get_or}
use Rattle.record.specs.Record.{order_of}
use Rattle.lamps.specs.Rows.{seconds_of, rows_from, phase_rows, no_row}
use Rattle.lamps_calls.proofs.row_in.Given as goal

abbrev pub invariant-loop-j : goal.invariant-loop-j
invariant-loop-j l =
    (l.j ≤ 5)
    × (get_or (rows_from (seconds_of l.rec) (order_of l.rec) (l.first + l.j) (l.first + 5 - (l.first + l.j))) l.rest no_row ≡ get_or (phase_rows l.rec l.i) l.on no_row)
