-- `printout_calls::store_numbers`: one number after another.
use Rattle.std.proofs.Common.{rules}
use Rattle.octets.proofs.Laws.{stored-then}
use Rattle.printout.specs.Listing.{numbers}
use Rattle.printout_calls.proofs.store_numbers.Goals as goal

pub returns : goal.returns
unfolding numbers
returns c =
    (stored-then (stored-then (stored-then c.store_field-p.ensures.0 c.store_field-q.ensures.0) c.store_field-t.ensures.0) c.store_field.ensures.0, search rules)
