use Rattle.std.proofs.Common.{◌*◌, refl, sym, ap, ◌∙◌, arith, rules}
use Rattle.octets.specs.First.{first_of}
use Rattle.octets.proofs.Search.{search-ends}
use Rattle.checks.specs.Standing.{times_disagree}
use Rattle.checks.proofs.Laws.{number-of, no-number}
use Rattle.checks.proofs.Walk.{phase-stops, phase-goes}
use Rattle.checks.proofs.times_disagree.Goals as goal

pub loop-i-init : goal.loop-i-init
unfolding times_disagree
loop-i-init c = (search rules, ap (first_of _ 0) (omega (arith, c.count-k.ensures)))

pub returns-in-Some : goal.returns-in-Some
returns-in-Some c =
    let n = number-of (sym c.in-Some.is ∙ c.phase_disagrees-first.ensures.named) in
    phase-stops _ (search rules) c.minimum.ensures c.maximum.ensures c.walk_flash.ensures c.red_man.ensures n.0 c.loop-i.invariant.1 n.1

pub loop-i-preserved : goal.loop-i-preserved
loop-i-preserved c = (
  search rules,
  phase-goes _ (search rules) c.minimum.ensures c.maximum.ensures c.walk_flash.ensures c.red_man.ensures (no-number (sym c.in_default.is ∙ c.phase_disagrees-first.ensures.named))
      c.loop-i.invariant.1 refl,
)

pub returns : goal.returns
returns c = let v = c.loop-i in sym (search-ends _ _ (2 * v.i) (omega arith)) ∙ v.invariant.1
