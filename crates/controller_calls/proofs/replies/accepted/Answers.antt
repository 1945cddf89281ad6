-- `controller_calls::replies::accepted` meets its contract: an answer is acknowledged, any other message carried out and replied to.
use Rattle.std.proofs.Common.{[], take, sym, refl, ap, ◌∙◌}
use Rattle.controller.specs.State.{joined}
use Rattle.controller_calls.specs.Replies.{result_told}
use Rattle.controller.specs.Replies.{is_answer}
use Rattle.controller.proofs.Laws.{accepted-answer, accepted-handled}
use Rattle.controller_calls.proofs.Putting.{kept-as-was}
use Rattle.controller_calls.proofs.Written.{stored-tells, handled-there, handled-brings}
use Rattle.controller_calls.proofs.Repeating.{code-kept}
use Rattle.controller_calls.proofs.replies.accepted.Goals as goal

pub returns-then-is_answer : goal.returns-then-is_answer
returns-then-is_answer c came d =
    let a = c.args in
    rw (accepted-answer (joined a.s came) a.m.seq a.m.addr (take a.m.len a.kept.now) a.book.now (ap is_answer (code-kept a.m.len a.kept.now a.m.has_info.0 ∙ sym c.word.ensures) ∙ sym c.if-is_answer.ensures))
    (record { replied = record { tells = stored-tells a.s _ _ _ c.ack-count.ensures (ap result_told c.unchanged.ensures) came; kept = kept-as-was a.s.out a.kept.now came d }; book = refl })

pub replied-requires : goal.replied-requires
replied-requires c =
    let a = c.args in
    (c.requires.0, handled-there a.s a.book.now (take a.m.len a.kept.now) [] c.requires.1 (c.carry_out-h.ensures []), c.requires.2)

pub returns : goal.returns
returns c came d =
    let a = c.args in
    rw (accepted-handled (joined a.s came) a.m.seq a.m.addr (take a.m.len a.kept.now) a.book.now (ap is_answer (code-kept a.m.len a.kept.now a.m.has_info.0 ∙ sym c.word.ensures) ∙ sym c.if-is_answer.ensures))
    (handled-brings a.s a.book.now (take a.m.len a.kept.now) came a.m.seq a.m.addr c.replied.ensures (c.carry_out-h.ensures came) d)
