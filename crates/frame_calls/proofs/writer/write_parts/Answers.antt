-- `frame_calls::writer::write_parts`: the need is counted before the first octet is stored, and the parts are stored one after another.
use Rattle.std.proofs.Common.{◌≡◌, ℕ, ◌+◌, List, ◌++◌, length, refl, sym, arith, length-append}
use borrow.Author.Tests.{leb-true}
use Rattle.octets.proofs.Laws.{put-stored, stored-then, written-9, written-done}
use Rattle.frame.specs.Frame.{doubled}
use Rattle.frame_calls.proofs.writer.write_parts.Goals as goal

-- the need, counted part by part
need : (f i j e : List ℕ) {n m : ℕ} → n ≡ length (doubled i) → m ≡ length (doubled j) → length f + n + m + length e ≡ length (f ++ (doubled i ++ (doubled j ++ e)))
need f i j e h k = omega (arith, length-append f (doubled i ++ (doubled j ++ e)), length-append (doubled i) (doubled j ++ e), length-append (doubled j) e)

pub returns-then-not-room : goal.returns-then-not-room
returns-then-not-room c =
    let a = c.args in
    let n = need a.front.now a.head.now a.rest.now a.end.now c.doubled_len.ensures.0 c.doubled_len-2.ensures.0 in
    rw (written-9 _ a.out.now a.at n (sym c.if-not-room.ensures)) (record { answer = refl; out = refl })

pub returns : goal.returns
returns c =
    let a = c.args in
    let h = leb-true _ (length a.out.now) (sym c.if-not-room.ensures) in
    let s = put-stored c.put-p.ensures (omega (arith, h)) in
    let d = c.put_doubled-h.ensures in
    let t = c.put_doubled-q.ensures in
    let l = c.doubled_len.ensures.0 in
    let m = c.doubled_len-2.ensures.0 in
    let z = put-stored c.put.ensures (omega (arith, h, l, m, s.place, s.long, d.place, d.long, t.place, t.long)) in
    written-done _ a.out.now a.at (need a.front.now a.head.now a.rest.now a.end.now l m) (stored-then s (stored-then d (stored-then t z)))
