-- `checks::times_stand`: the times of all phases so far fit.
use Rattle.std.proofs.Common.{ℕ, ◌≤◌, ◌<◌}
use Rattle.record.specs.Record.{TimesFit}
use Rattle.checks.proofs.times_stand.Given as goal

abbrev pub invariant-loop-i : goal.invariant-loop-i
invariant-loop-i l = (l.i ≤ l.k) × ((j : ℕ) → j < l.i → TimesFit l.rec j)
