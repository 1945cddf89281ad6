-- `text::store_spaced`: what is left to store, from the place reached, gives what the whole gives from `at`.
use Rattle.std.proofs.Common.{◌≡◌, ◌+◌, ◌*◌, length, drop}
use Rattle.std.proofs.lemmas.List.Edits.{sets}
use Rattle.text.specs.Text.{spaced}
use Rattle.text.proofs.store_spaced.Given as goal

abbrev pub invariant-loop-b : goal.invariant-loop-b
invariant-loop-b l =
    (l.p ≡ l.at + 3 * l.b-index)
    × (length l.out ≡ length l.initial.out)
    × (sets l.out l.p (spaced (drop l.b-index l.s)) ≡ sets l.initial.out l.at (spaced l.s))
