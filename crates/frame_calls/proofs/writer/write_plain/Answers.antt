-- `frame_calls::writer::write_plain`: the need is counted before the first octet is stored, and the end is stored behind the front.
use Rattle.std.proofs.Common.{◌++◌, length, refl, sym, arith, length-append}
use borrow.Author.Tests.{leb-true}
use Rattle.octets.proofs.Laws.{put-stored, stored-then, written-9, written-done}
use Rattle.frame_calls.proofs.writer.write_plain.Goals as goal

pub returns-then-not-room : goal.returns-then-not-room
returns-then-not-room c =
    let a = c.args in
    rw (written-9 (a.front.now ++ a.end.now) a.out.now a.at (sym (length-append a.front.now a.end.now)) (sym c.if-not-room.ensures))
    (record { answer = refl; out = refl })

pub returns : goal.returns
returns c =
    let a = c.args in
    let h = leb-true _ (length a.out.now) (sym c.if-not-room.ensures) in
    let s = put-stored c.put-p.ensures (omega (arith, h)) in
    let z = put-stored c.put.ensures (omega (arith, h, s.place, s.long)) in
    written-done (a.front.now ++ a.end.now) a.out.now a.at (sym (length-append a.front.now a.end.now)) (stored-then s z)
