-- `controller_calls::replies::message_taken` meets its contract: a frame for another address is dropped, a repeat acknowledged, a message that is met with silence dropped, any other accepted.
use Rattle.std.proofs.Common.{sym, refl, ap}
use Rattle.controller_calls.specs.Replies.{result_told, brought_as}
use Rattle.controller_calls.proofs.Repeating.{taken-other, taken-repeat, taken-silent, taken-new}
use Rattle.controller_calls.proofs.replies.message_taken.Goals as goal

pub returns-then-not-for_us : goal.returns-then-not-for_us
returns-then-not-for_us c came e =
    let a = c.args in
    taken-other a.s a.kept.now came a.book.now a.out.now a.m.seq a.m.addr a.m.len e (sym c.if-not-for_us.ensures) (ap result_told c.unchanged.ensures) (ap brought_as c.still.ensures)

pub returns-then-is_repeat : goal.returns-then-is_repeat
returns-then-is_repeat c came e =
    let a = c.args in
    taken-repeat a.s a.kept.now came a.book.now a.out.now a.m.seq a.m.addr a.m.len e (sym c.if-not-for_us.ensures) c.if-is_repeat.ensures refl c.ack-count.ensures (ap result_told c.unchanged-then-is_repeat.ensures) (ap brought_as c.still-then-is_repeat.ensures)

pub returns-then-met_with_silence : goal.returns-then-met_with_silence
returns-then-met_with_silence c came e =
    let a = c.args in
    taken-silent a.s a.kept.now came a.book.now a.out.now a.m.seq a.m.addr a.m.len e (sym c.if-not-for_us.ensures) c.if-is_repeat.ensures refl c.if-met_with_silence.ensures refl (ap result_told c.unchanged-then-met_with_silence.ensures) (ap brought_as c.still-then-met_with_silence.ensures)

pub returns : goal.returns
returns c came e =
    let a = c.args in
    taken-new a.s a.kept.now came a.book.now a.out.now a.m.seq a.m.addr a.m.len e (sym c.if-not-for_us.ensures) c.if-is_repeat.ensures refl c.if-met_with_silence.ensures refl c.requires.1 a.m.has_info.1 c.remember-last.ensures c.accepted-result.ensures
