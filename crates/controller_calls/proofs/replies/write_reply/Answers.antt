-- `controller_calls::replies::write_reply` meets its contract: the ACK and the message frame are stored one after the other.
use Rattle.std.proofs.Common.{◌≡◌, length, take, drop, arith}
use Rattle.controller.specs.Sender.{out_start}
use Rattle.controller_calls.proofs.Putting.{out-part, out-part-long}
use Rattle.controller_calls.proofs.Written.{stored-ok, reply-ack-none, reply-none, reply-count, reply-stored}
use Rattle.controller_calls.proofs.replies.write_reply.Goals as goal

pub unwrap-a-requires : goal.unwrap-a-requires
unwrap-a-requires c =
    let a = c.args in
    let i = take a.len (drop out_start a.kept.now) in
    let l : length i ≡ a.len = out-part-long a.len a.kept.now c.requires.1 c.requires.2 in
    stored-ok _ (reply-ack-none a.s a.seq i a.out.now (omega (arith, l, c.requires.0)) (omega (arith, l, c.requires.1)) c.requires.3 c.write_ack.ensures)

pub unwrap-w-requires : goal.unwrap-w-requires
unwrap-w-requires c =
    let a = c.args in
    let i = take a.len (drop out_start a.kept.now) in
    let l : length i ≡ a.len = out-part-long a.len a.kept.now c.requires.1 c.requires.2 in
    stored-ok _
    (reply-none a.s a.seq i a.out.now (omega (arith, l, c.requires.0)) (omega (arith, l, c.requires.1)) c.requires.3 (rw c.unwrap-a.ensures at c.write_ack.ensures)
    (rw (out-part a.len a.kept.now) at c.write_message.ensures))

pub overflow_add-result : goal.overflow_add-result
overflow_add-result c =
    let a = c.args in
    let i = take a.len (drop out_start a.kept.now) in
    let l : length i ≡ a.len = out-part-long a.len a.kept.now c.requires.1 c.requires.2 in
    omega (arith, reply-count a.s a.seq i a.out.now (omega (arith, l, c.requires.0)) (omega (arith, l, c.requires.1)) c.requires.3 (rw c.unwrap-a.ensures at c.write_ack.ensures) (rw (out-part a.len a.kept.now, c.unwrap-w.ensures) at c.write_message.ensures))

pub returns : goal.returns
returns c =
    let a = c.args in
    let i = take a.len (drop out_start a.kept.now) in
    let l : length i ≡ a.len = out-part-long a.len a.kept.now c.requires.1 c.requires.2 in
    reply-stored a.s a.seq i a.out.now (omega (arith, l, c.requires.0)) (omega (arith, l, c.requires.1)) c.requires.3 (rw c.unwrap-a.ensures at c.write_ack.ensures)
    (rw (out-part a.len a.kept.now, c.unwrap-w.ensures) at c.write_message.ensures)
