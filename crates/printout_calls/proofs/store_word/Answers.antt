-- `printout_calls::store_word`: there is room for sixteen digits and what follows them.
use Rattle.std.proofs.Common.{[], ◌∷◌, arith, length-append}
use Rattle.printout.specs.Listing.{word_text}
use Rattle.printout.proofs.Laws.{word-length, two-stored}
use Rattle.printout_calls.proofs.store_word.Goals as goal

pub returns : goal.returns
unfolding word_text
returns c =
    let d = word-length c.args.x in
    let t = two-stored c.put_hex16-p.ensures c.put.ensures (omega (arith, d)) in
    (t, omega (arith, d, t.place, length-append (word_text c.args.x) (c.args.mark ∷ [])))
