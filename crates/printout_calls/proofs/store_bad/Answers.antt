-- `printout_calls::store_bad`: there is room for the longest number.
use Rattle.std.proofs.Common.{arith, rules}
use Rattle.text.proofs.Laws.{decimal-64}
use Rattle.printout.specs.Listing.{bad_line}
use Rattle.printout.proofs.Laws.{three-stored}
use Rattle.printout_calls.proofs.store_bad.Goals as goal

pub returns : goal.returns
unfolding bad_line
returns c = three-stored c.put-p.ensures c.put_decimal-q.ensures c.put.ensures (omega (arith, decimal-64 c.args.n (search rules)))
