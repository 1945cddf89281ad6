-- `printout_calls::put_with_again`: where something was sent again its word stands behind the line.
use Rattle.std.proofs.Common.{refl, append-nil, rules}
use Rattle.printout.specs.Listing.{again_line}
use Rattle.printout.proofs.Laws.{stored-taken, both_stored, line-none, line-behind}
use Rattle.printout_calls.proofs.put_with_again.Goals as goal

pub returns-then-is_empty : goal.returns-then-is_empty
unfolding again_line
returns-then-is_empty c = rw (line-none _ c.args.again.now _ (search rules), append-nil c.args.line.now) c.put.ensures

pub returns : goal.returns
unfolding again_line
returns c =
    let a = c.args in
    let t = both_stored (search rules) refl refl c.put-p.ensures c.put-end.ensures in
    rw (stored-taken t, line-behind a.line.now _ a.again.now _ (search rules)) at c.put_line.ensures
