-- `plan_calls::book::read_plan`: where nothing is refused, the plan has its octets.
use Rattle.std.proofs.Common.{sym}
use borrow.Author.Tests.{eq-eqb, le-leb}
use Rattle.plan.proofs.Laws.{read-sound}
use Rattle.plan_calls.proofs.book.read_plan.Goals as goal

pub returns-in-None : goal.returns-in-None
returns-in-None c =
    let a = c.args in
    let e = sym c.in-None.ensures in
    let s = read-sound a.book.now a.copy.now a.plan e in
    record { part = rw (eq-eqb _ _ e) (rw (eq-eqb _ _ s.0, le-leb _ _ s.2, s.1) at c.plan_part.ensures); refusal = sym e }
