-- `checks::first_disagreement`: what is left of the search gives what the whole gives, and the sum is that of the phases so far. No
-- diagram has more than eight phases.
use Rattle.std.proofs.Common.{◌≡◌, ◌+◌, ◌*◌, ◌≤◌}
use Rattle.record.specs.Record.{sum_of}
use Rattle.checks.specs.Standing.{plan_disagree}
use Rattle.checks.proofs.Walk.{left_from}
use Rattle.checks.proofs.first_disagreement.Given as goal

abbrev pub invariant-loop-i : goal.invariant-loop-i
invariant-loop-i l = (l.i ≤ l.phases) × (left_from l.rec (l.i + 1) ≡ plan_disagree l.rec) × (l.sum ≡ sum_of l.rec l.i) × (l.sum ≤ 66045 * l.i)
