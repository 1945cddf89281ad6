-- `printout_calls::store_second`: the numbers, then one word after another.
use Rattle.octets.proofs.Laws.{stored-then}
use Rattle.printout.specs.Listing.{second_line}
use Rattle.printout_calls.proofs.store_second.Goals as goal

pub returns : goal.returns
unfolding second_line
returns c = stored-then (stored-then c.store_numbers-p.ensures.0 c.store_word-q.ensures.0) c.store_word.ensures.0
