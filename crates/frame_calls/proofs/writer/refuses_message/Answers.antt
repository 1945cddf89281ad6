-- `frame_calls::writer::refuses_message`: INFO is judged first, and a message frame is 10 octets and INFO as sent.
use Rattle.std.proofs.Common.{◌≡◌, ℕ, ◌+◌, List, length, sym, arith, length-append}
use Rattle.octets.specs.Writing.{written_as}
use Rattle.frame.specs.Frame.{message, message_len, doubled, front_of, sent_of, written}
use Rattle.frame.specs.Writer.{write_frame}
use Rattle.frame_calls.proofs.writer.refuses_message.Goals as goal

written-long : (seq addr : ℕ) (info : List ℕ) → length (written (message seq addr info)) ≡ message_len + length (doubled info)
unfolding written front_of sent_of
written-long seq addr info = simp length-append (omega arith)

no-more : (n : ℕ) → n + 0 ≡ n
no-more n = omega arith

pub returns-then-not-info_fits : goal.returns-then-not-info_fits
unfolding write_frame
returns-then-not-info_fits c seq addr = rw (sym (rw no-more at c.if-not-info_fits.ensures))

pub returns-then-not-room : goal.returns-then-not-room
unfolding write_frame written_as
returns-then-not-room c seq addr =
    rw (sym (rw no-more at c.if-not-info_fits.ensures), written-long seq addr c.args.info.now, ← c.doubled_len.ensures.0, sym (rw c.from.ensures at c.if-not-room.ensures))

pub returns : goal.returns
unfolding write_frame written_as
returns c seq addr =
    rw (sym (rw no-more at c.if-not-info_fits.ensures), written-long seq addr c.args.info.now, ← c.doubled_len.ensures.0, sym (rw c.from.ensures at c.if-not-room.ensures))
