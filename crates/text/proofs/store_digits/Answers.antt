use Rattle.std.proofs.Common.{◌≡◌, ap, ◌∙◌, take, length-set, rules}
use Rattle.text.specs.Text.{digits}
use Rattle.text.proofs.Laws.{digits-stored, digits-taken}
use Rattle.text.proofs.store_digits.Goals as goal

pub loop-i-preserved : goal.loop-i-preserved
loop-i-preserved c =
    let v = c.loop-i in
    (simp length-set v.invariant.0, rw c.digit.ensures (digits-stored c.args.base v.i v.rest v.text (search rules) ∙ v.invariant.1))

pub returns : goal.returns
unfolding digits
returns c =
    let a = c.args in
    let v = c.loop-i in
    let e : v.i ≡ 0 = search rules in
    ap (take a.count) (rw e at v.invariant.1) ∙ digits-taken a.base a.count a.n a.text.now (search rules)
