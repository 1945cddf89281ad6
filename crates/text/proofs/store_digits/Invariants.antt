-- `text::store_digits`: the digits left, stored before those that are, give what all of them give.
use Rattle.std.proofs.Common.{◌≡◌, length}
use Rattle.std.proofs.lemmas.List.Edits.{sets}
use Rattle.text.specs.Text.{digits}
use Rattle.text.proofs.store_digits.Given as goal

abbrev pub invariant-loop-i : goal.invariant-loop-i
invariant-loop-i l =
    (length l.text ≡ length l.initial.text) × (sets l.text 0 (digits l.base l.i l.rest) ≡ sets l.initial.text 0 (digits l.base l.count l.n))
