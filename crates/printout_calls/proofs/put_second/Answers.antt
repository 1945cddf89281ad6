-- `printout_calls::put_second`: what was stored in the line is what is put.
use Rattle.std.proofs.Common.{arith}
use Rattle.printout.proofs.Laws.{stored-taken}
use Rattle.printout_calls.proofs.put_second.Goals as goal

pub returns : goal.returns
returns c =
    let e = c.store_second-end.ensures in
    (rw (stored-taken e) at c.put_with_again.ensures, omega (arith, e.place, e.fits))
