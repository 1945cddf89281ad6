-- `printout_calls::store_line`: there is room for the whole line.
use Rattle.std.proofs.Common.{◌++◌, arith, length-append}
use Rattle.text.specs.Text.{octets_hex}
use Rattle.printout.proofs.Laws.{three-stored}
use Rattle.printout_calls.proofs.store_line.Goals as goal

pub returns : goal.returns
returns c =
    let a = c.args in
    three-stored c.put-p.ensures c.put_octets-q.ensures c.put.ensures
    (omega (arith, length-append a.head.now (octets_hex a.s.now), length-append (a.head.now ++ octets_hex a.s.now) a.tail.now))
