-- `message_calls::writer::put_fields`: what is left to store, from the place reached, gives what the whole gives.
use Rattle.std.proofs.Common.{◌≡◌, ◌+◌, length, drop}
use lib.Seq.{sets}
use Rattle.message.specs.Values.{size_of, octets_of}
use Rattle.message_calls.specs.Shape.{shape_rows}
use Rattle.message_calls.proofs.writer.put_fields.Given as goal

abbrev pub invariant-loop-field : goal.invariant-loop-field
invariant-loop-field l =
    goal.iterator-loop-field.can_next l.field-iterator
    × (let i = length l.yielded in let fs = shape_rows l.fn.shape in
    (l.p + size_of (drop i fs) ≡ l.at + size_of fs) × (length l.out ≡ length l.initial.out)
    × (sets l.out l.p (octets_of (drop i fs) (drop i l.values)) ≡ sets l.initial.out l.at (octets_of fs l.values)))
