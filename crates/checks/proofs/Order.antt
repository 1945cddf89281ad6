-- The checks stand in 01's order, by arithmetic on their numbers, and the search finds the first that fails.
use mathlib.Core.Path.{refl}
use Rattle.checks.specs.Standing.{ChecksInOrder}
use Rattle.checks.proofs.Stands.{check-maximum, check-redman, times-first, check-green, check-cycle, check-offset, plan-first}

pub checks-in-order : ChecksInOrder
checks-in-order rec = (
  record { maximum = check-maximum rec; red_man = check-redman rec; first = times-first rec },
  record { count = refl; green = check-green rec; cycle = check-cycle rec; offset = check-offset rec; first = plan-first rec },
)
