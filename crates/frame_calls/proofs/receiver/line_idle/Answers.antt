-- `frame_calls::receiver::line_idle`: the tests of the state are those of the definition, and what is open is counted.
use Rattle.std.proofs.Common.{sym, ◌∙◌}
use Rattle.frame.proofs.Lent.{idle-short, idle-7, idle-done}
use Rattle.frame_calls.proofs.receiver.line_idle.Goals as goal

pub returns-in_default : goal.returns-in_default
returns-in_default c = let a = c.args in rw c.unsound.ensures (idle-short a.r a.kept.now c.in_default.ensures.cases)

pub returns-then-not-possible : goal.returns-then-not-possible
returns-then-not-possible c =
    let a = c.args in
    rw c.unsound-then-not-possible.ensures (idle-7 a.r a.kept.now c.in-Some.ensures.cases.enough (sym c.if-not-possible.ensures))

pub returns : goal.returns
returns c =
    let a = c.args in
    let k = c.in-Some.ensures.cases in
    rw (c.received.ensures, c.placed-idle.ensures)
    (idle-done a.r a.kept.now k.enough (sym c.if-not-possible.ensures) (c.stopped-n.ensures ∙ rw (c.still_open.ensures.0, k.same, c.from.ensures)))
