-- `printout_calls::run::on_second`: what the second call counted is in the output, and what it answered is what is put.
use Rattle.std.proofs.Common.{refl, sym, length-take-le}
use Rattle.printout.proofs.Laws.{second_fits, second-listed}
use Rattle.printout_calls.proofs.run.on_second.Goals as goal

pub slice_bounds-sent-end : goal.slice_bounds-sent-end
slice_bounds-sent-end c = let a = c.args in second_fits a.run.state a.kept.now a.book.now a.out.now c.second-t.result c.second-t.ensures

pub slice_bounds-sent-end-2 : goal.slice_bounds-sent-end-2
slice_bounds-sent-end-2 c = let a = c.args in sym (length-take-le _ _ (second_fits a.run.state a.kept.now a.book.now a.out.now c.second-t.result c.second-t.ensures))

pub returns : goal.returns
returns c =
    let a = c.args in
    second-listed a.run.state a.kept.now a.book.now a.out.now c.second-t.result c.second-t.ensures a.run.seconds _ a.run.used refl c.put_second.ensures.1 c.put_second.ensures.0
