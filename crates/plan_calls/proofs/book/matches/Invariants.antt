-- `plan_calls::book::matches`: the octets so far are alike and the rest is the same exactly where the whole is.
use Rattle.std.proofs.Common.{◌≡◌, length, drop}
use Rattle.octets.specs.Choice.{both}
use Rattle.octets.specs.Same.{same}
use Rattle.record.specs.Record.{record_len}
use Rattle.plan_calls.proofs.book.matches.Given as goal

abbrev pub invariant-loop-i : goal.invariant-loop-i
invariant-loop-i l = (length l.rec ≡ record_len) × (both l.alike (same (drop l.i l.copy) (drop l.i l.rec)) ≡ same l.copy l.rec)
