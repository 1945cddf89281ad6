-- The record of a plan as the stepper is handed it.
use Rattle.std.specs.Prelude.{◌≡◌, ℕ, List, ◌≢◌}
use Rattle.record.specs.Record.{empty, state_of}
use Rattle.checks.specs.Standing.{standing_of}
use Rattle.controller.specs.State.{record_with}

-- r is the record of plan p as reading a plan gives it, where `zero` was lent for plan 0: an empty plan reads as an empty part
pub record RecordOf (zero book : List ℕ) (p : ℕ) (r : List ℕ) : Type 0 where
  pub stands : standing_of r ≡ standing_of (record_with zero book p)
  pub octets : (standing_of r ≢ empty) → r ≡ record_with zero book p
  -- it was judged: it stands as its state says
  pub state : state_of r ≡ standing_of r
