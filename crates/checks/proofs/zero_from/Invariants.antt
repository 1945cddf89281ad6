-- `checks::zero_from`: the last octet so far that is not 0 and what is left say the same as the whole.
use Rattle.std.proofs.Common.{◌≡◌, ◌≤◌, leb, length, drop}
use Rattle.octets.specs.Choice.{both}
use Rattle.checks.specs.Standing.{all_zero}
use Rattle.checks.proofs.Laws.{rest_from}
use Rattle.checks.proofs.zero_from.Given as goal

abbrev pub invariant-loop-i : goal.invariant-loop-i
invariant-loop-i l = (l.i ≤ length l.rec) × (l.end ≤ l.i) × (both (leb l.end l.at) (rest_from l.rec l.at l.i) ≡ all_zero (drop l.at l.rec))
