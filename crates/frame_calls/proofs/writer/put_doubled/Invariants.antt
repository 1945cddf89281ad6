-- `frame_calls::writer::put_doubled`: what is left to store, from the place reached, gives what the whole gives from `at`.
use Rattle.std.proofs.Common.{◌≡◌, ◌+◌, length, drop}
use Rattle.std.proofs.lemmas.List.Edits.{sets}
use Rattle.frame.specs.Frame.{doubled}
use Rattle.frame_calls.proofs.writer.put_doubled.Given as goal

abbrev pub invariant-loop-b : goal.invariant-loop-b
invariant-loop-b l =
    (l.p + length (doubled (drop l.b-index l.info)) ≡ l.at + length (doubled l.info))
    × (length l.out ≡ length l.initial.out)
    × (sets l.out l.p (doubled (drop l.b-index l.info)) ≡ sets l.initial.out l.at (doubled l.info))
