-- `printout_calls::run::on_octet`: what the octet call counted is in the output, and is what is put, with the number that it told.
use Rattle.std.proofs.Common.{sym, arith, length-take-le}
use Rattle.printout.proofs.Laws.{count_fits, octet-listed}
use Rattle.printout_calls.proofs.run.on_octet.Goals as goal

pub slice_bounds-written-end : goal.slice_bounds-written-end
slice_bounds-written-end c = let a = c.args in count_fits a.run.state a.kept.now a.book.now a.out.now a.b c.octet-a.ensures

pub slice_bounds-written-end-2 : goal.slice_bounds-written-end-2
slice_bounds-written-end-2 c = let a = c.args in sym (length-take-le _ _ (count_fits a.run.state a.kept.now a.book.now a.out.now a.b c.octet-a.ensures))

pub returns : goal.returns
returns c =
    let a = c.args in
    octet-listed a.run.state a.kept.now a.book.now a.out.now a.b c.octet-a.ensures a.run.seconds a.run.used (omega (arith, c.octet-a.type_inv)) c.put_written.ensures
