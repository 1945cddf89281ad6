-- `controller_calls::line_idle`: the law of each way.
use Rattle.std.proofs.Common.{sym, ◌∙◌}
use Rattle.controller.specs.State.{joined}
use Rattle.controller.proofs.Laws.{idle-7}
use Rattle.controller_calls.proofs.Held.{sound-joined, idle-answered}
use Rattle.controller_calls.proofs.line_idle.Goals as goal

pub returns-then-not-stands : goal.returns-then-not-stands
returns-then-not-stands c =
    let a = c.args in
    rw c.quiet.ensures (sym (idle-7 (joined a.s a.kept.now) (sym (sound-joined a.s a.kept.now) ∙ sym c.if-not-stands.ensures)))

pub returns : goal.returns
returns c =
    let a = c.args in
    rw c.tells_dropped.ensures (idle-answered a.s a.kept.now c.line_idle-t.result (sym (sound-joined a.s a.kept.now) ∙ sym c.if-not-stands.ensures) c.line_idle-t.ensures)
