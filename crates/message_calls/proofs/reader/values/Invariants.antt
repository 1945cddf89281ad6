-- `message_calls::reader::values`: what is left to read, from the place reached, fills what the whole fills.
use Rattle.std.proofs.Common.{◌≡◌, ◌*◌, ◌≤◌, length, drop}
use lib.Seq.{sets}
use Rattle.message.specs.Values.{fields_most, zeros, values_of}
use Rattle.message_calls.specs.Shape.{shape_rows}
use Rattle.message_calls.proofs.reader.values.Given as goal

abbrev pub invariant-loop-i : goal.invariant-loop-i
invariant-loop-i l =
    goal.iterator-loop-i.can_next l.i-iterator
    × (let i = length l.yielded in let fs = shape_rows l.fn.shape in
    (l.at ≤ 2 * i) × (length l.values ≡ fields_most) × (sets l.values i (values_of (drop i fs) (drop l.at l.body)) ≡ sets zeros 0 (values_of fs l.body)))
