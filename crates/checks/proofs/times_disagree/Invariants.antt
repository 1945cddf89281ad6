-- `checks::times_disagree`: the two checks of each phase are the next two of the search, and what is left of it gives what the whole
-- gives.
use Rattle.std.proofs.Common.{◌≡◌, ◌*◌, ◌-◌, ◌≤◌}
use Rattle.octets.specs.First.{first_of}
use Rattle.checks.specs.Standing.{times_fail, times_disagree}
use Rattle.checks.proofs.times_disagree.Given as goal

abbrev pub invariant-loop-i : goal.invariant-loop-i
invariant-loop-i l = (l.i ≤ l.k) × (first_of (times_fail l.rec) (2 * l.i) (2 * l.k - 2 * l.i) ≡ times_disagree l.rec)
