-- `text::places`: the digits counted and those of what is left make those of the whole, and one.
use Rattle.std.proofs.Common.{◌≡◌, ◌+◌}
use Rattle.text.specs.Text.{places}
use Rattle.text.proofs.places.Given as goal

abbrev pub invariant-loop-rest : goal.invariant-loop-rest
invariant-loop-rest l = l.count + places l.rest ≡ 1 + places l.n

abbrev pub decreases-loop-rest : goal.decreases-loop-rest
decreases-loop-rest l = l.rest
