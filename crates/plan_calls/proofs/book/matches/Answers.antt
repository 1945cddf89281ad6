use Rattle.std.proofs.Common.{refl, sym, ap, ◌∙◌, length, rules}
use mathlib.Core.Bool.{and-true, and-false}
use Rattle.octets.proofs.Laws.{same-stops, same-goes, same_ends}
use Rattle.plan.proofs.Laws.{length-built-in}
use Rattle.plan_calls.proofs.book.matches.Goals as goal
use Rattle.plan_calls.proofs.book.matches.Goals.{then-copy-i, else-copy-i}

pub loop-i-init : goal.loop-i-init
loop-i-init c = (ap length c.built_in-rec.ensures ∙ length-built-in c.args.which, refl)

pub loop-i-preserved : goal.loop-i-preserved
loop-i-preserved c =
    let v = c.loop-i in
    let copy = c.args.copy.now in
    let rec = c.built_in-rec.result in
    elim c.if-copy-i.branch [
      | then-copy-i w ↦ (
        v.invariant.0,
        rw w.alike-is (sym (and-false v.alike) ∙ rw (← same-stops copy rec v.i (search rules) (search rules) w.if-copy-i.true) at v.invariant.1),
      )
      | else-copy-i w ↦ (v.invariant.0, rw (w.alike-is, same-goes copy rec v.i (search rules) (search rules) w.if-copy-i.false) v.invariant.1)
    ]

pub returns : goal.returns
returns c =
    let v = c.loop-i in
    sym (and-true v.alike) ∙ rw (← same_ends c.args.copy.now c.built_in-rec.result v.i (search rules) (search rules), c.built_in-rec.ensures) at v.invariant.1
