-- `printout_calls::store_tail`: there is room for the longest number of sixteen bits.
use Rattle.std.proofs.Common.{arith, rules}
use Rattle.printout.proofs.Laws.{three-stored, decimal-16}
use Rattle.printout_calls.proofs.store_tail.Goals as goal

pub returns : goal.returns
returns c = three-stored c.put-p.ensures c.put_decimal-q.ensures c.put.ensures (omega (arith, decimal-16 c.args.n (search rules)))
