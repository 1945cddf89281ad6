-- `printout_calls::store_field`: there is room for the longest number and its tab.
use Rattle.std.proofs.Common.{[], ◌∷◌, arith, rules, length-append}
use Rattle.text.specs.Text.{decimal}
use Rattle.text.proofs.Laws.{decimal-64}
use Rattle.line.specs.Line.{tab}
use Rattle.printout.specs.Listing.{field}
use Rattle.printout.proofs.Laws.{two-stored}
use Rattle.printout_calls.proofs.store_field.Goals as goal

pub returns : goal.returns
unfolding field
returns c =
    let d = decimal-64 c.args.n (search rules) in
    let t = two-stored c.put_decimal-p.ensures c.put.ensures (omega (arith, d)) in
    (t, omega (arith, d, t.place, length-append (decimal c.args.n) (tab ∷ [])))
