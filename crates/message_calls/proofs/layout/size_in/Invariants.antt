-- `message_calls::layout::size_in`: what is counted and what is left are the whole.
use Rattle.std.proofs.Common.{◌≡◌, ◌+◌, ◌-◌, ◌*◌, ◌≤◌, drop}
use Rattle.message.specs.Table.{cut}
use Rattle.message.specs.Values.{size_of}
use Rattle.message_calls.proofs.layout.size_in.Given as goal

abbrev pub invariant-loop-row : goal.invariant-loop-row
invariant-loop-row l =
    (l.from ≤ l.row) × (l.row ≤ l.from + l.len) × (l.size + size_of (drop (l.row - l.from) (cut l.from l.len)) ≡ size_of (cut l.from l.len)) × (l.size ≤ 2 * (l.row - l.from))
