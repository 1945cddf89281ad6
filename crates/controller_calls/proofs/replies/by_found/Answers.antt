-- `controller_calls::replies::by_found` meets its contract: what the decoder found decides.
use Rattle.std.proofs.Common.{[], ap, take-take}
use Rattle.frame.specs.Frame.{info_most}
use Rattle.controller_calls.specs.Replies.{result_told, brought_as}
use Rattle.controller_calls.proofs.Sending.{ack-sends, nak-sends}
use Rattle.controller_calls.proofs.Written.{can-take, sent-none, brought-unchanged, brought-answered}
use Rattle.controller_calls.proofs.replies.by_found.Goals as goal

pub answered-requires : goal.answered-requires
answered-requires c =
    let s = c.args.s in
    (rw c.acked-t.ensures (ack-sends s.wait s.out c.requires.2 s.seq c.in-Ack.seq), c.requires.3, c.requires.5)

pub answered-requires-in-Nak : goal.answered-requires-in-Nak
answered-requires-in-Nak c =
    let s = c.args.s in
    (rw c.naked-t.ensures (nak-sends s.wait s.out c.requires.2 s.seq c.in-Nak.seq), c.requires.3, c.requires.5)

pub returns-in-Nothing : goal.returns-in-Nothing
returns-in-Nothing c came e =
    let a = c.args in
    rw c.in-Nothing.is (brought-unchanged a.s came a.kept.now e _ _ [] a.book.now sent-none (ap result_told c.unchanged.ensures) (ap brought_as c.still.ensures))

pub returns-in-Refused : goal.returns-in-Refused
returns-in-Refused c came e =
    let a = c.args in
    rw c.in-Refused.is (brought-unchanged a.s came a.kept.now e _ _ _ a.book.now c.nak-count.ensures (ap result_told c.unchanged-in-Refused.ensures) (ap brought_as c.still-in-Refused.ensures))

pub returns-in-Message : goal.returns-in-Message
returns-in-Message c came e =
    rw (c.in-Message.is, take-take _ info_most c.args.kept.now (can-take c.in-Message.is c.requires.0).1) (c.message_taken.ensures came e)

pub returns-in-Ack : goal.returns-in-Ack
returns-in-Ack c came e =
    let a = c.args in
    rw c.in-Ack.is (brought-answered a.s came a.kept.now e _ _ _ a.book.now (rw c.acked-t.ensures at c.answered.ensures) (ap brought_as c.still-in-Ack.ensures))

pub returns-in-Nak : goal.returns-in-Nak
returns-in-Nak c came e =
    let a = c.args in
    rw c.in-Nak.is (brought-answered a.s came a.kept.now e _ _ _ a.book.now (rw c.naked-t.ensures at c.answered-in-Nak.ensures) (ap brought_as c.still-in-Nak.ensures))
