-- `printout_calls::put_reply`: what was stored in the tail is the line's end.
use Rattle.printout.specs.Listing.{reply_line}
use Rattle.printout.proofs.Laws.{stored-taken}
use Rattle.printout_calls.proofs.put_reply.Goals as goal

pub returns : goal.returns
unfolding reply_line
returns c = rw (stored-taken c.store_tail-end.ensures) at c.put_line.ensures
