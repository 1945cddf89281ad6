-- `message_calls::writer::put_message`: the code is stored and then the fields, one after another.
use Rattle.std.proofs.Common.{◌≡◌, ◌+◌, ◌≤◌, length, refl, sym, ◌∙◌, arith}
use borrow.Author.Tests.{leb-true}
use Rattle.octets.specs.Part.{code_len}
use Rattle.octets.proofs.Laws.{put-stored, stored-then, written-9, written-done}
use Rattle.message.specs.Writer.{info_as}
use Rattle.message.proofs.Writing.{info-len}
use Rattle.message_calls.specs.Shape.{shape_rows}
use Rattle.message_calls.proofs.writer.put_message.Goals as goal

pub returns-then-not-room : goal.returns-then-not-room
returns-then-not-room c =
    let a = c.args in
    let i = info_as a.code (shape_rows a.shape) a.values.now in
    let e : code_len + c.size-n.result ≡ length i = omega (arith, info-len a.code (shape_rows a.shape) a.values.now, c.size-n.ensures.0) in
    rw (written-9 i a.out.now a.at e (sym c.room.ensures ∙ c.if-not-room.true)) (record { answer = refl; out = refl })

pub returns : goal.returns
unfolding info_as
returns c =
    let a = c.args in
    let fs = shape_rows a.shape in
    let n = code_len + c.size-n.result in
    let h : a.at + n ≤ length a.out.now = leb-true (a.at + n) (length a.out.now) (sym c.room.ensures ∙ c.if-not-room.false) in
    written-done (info_as a.code fs a.values.now) a.out.now a.at (omega (arith, info-len a.code fs a.values.now, c.size-n.ensures.0))
    (stored-then (put-stored c.put_field-p.ensures (omega arith)) c.put_fields.ensures)
