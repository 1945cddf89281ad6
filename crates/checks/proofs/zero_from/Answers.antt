use Rattle.std.proofs.Common.{rules}
use Rattle.checks.proofs.Laws.{last-is, last-stays, last-of-all}
use Rattle.checks.proofs.zero_from.Goals as goal
use Rattle.checks.proofs.zero_from.Goals.{then-rec-i-ne0, else-rec-i-ne0}

pub loop-i-preserved : goal.loop-i-preserved
loop-i-preserved c =
    let rec = c.args.rec.now in
    let v = c.loop-i in
    elim c.if-rec-i-ne0.branch [
      | then-rec-i-ne0 w ↦ rw w.end-is (search rules, search rules, last-is rec c.args.at v.end v.i (search rules) v.invariant.2 w.if-rec-i-ne0.true)
      | else-rec-i-ne0 w ↦ rw w.end-is (search rules, search rules, last-stays rec c.args.at v.end v.i (search rules) v.invariant.2 v.invariant.1 w.if-rec-i-ne0.false)
    ]

pub returns : goal.returns
returns c = let v = c.loop-i in last-of-all c.args.rec.now c.args.at v.end v.i v.invariant.1 (search rules) v.invariant.2
