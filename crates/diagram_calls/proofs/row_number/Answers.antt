-- `diagram_calls::row_number`: one law for a step that is there, for step 0 and for a step past the last.
use Rattle.std.proofs.Common.{ℕ, ◌+◌, ◌-◌, ap, sym, ◌∙◌, arith}
use Rattle.diagram.specs.Rows.{lamp_rows}
use Rattle.diagram.proofs.Laws.{number-there, number-none, number_past}
use Rattle.diagram_calls.proofs.row_number.Goals as goal
use Rattle.diagram_calls.proofs.row_number.Goals.{then-step-eq0-via-then-step-eq0, then-step-eq0-via-else-step-eq0+then-steps-step}

pub returns-then-step-eq0 : goal.returns-then-step-eq0
unfolding lamp_rows
returns-then-step-eq0 c =
    elim c.then-step-eq0.branch [
      | then-step-eq0-via-then-step-eq0 w ↦ sym (number-none c.args.order c.args.step w.if-step-eq0.true)
      | then-step-eq0-via-else-step-eq0+then-steps-step w ↦ sym (number_past c.args.order c.args.step (omega (arith, w.if-steps-step.true, w.steps.ensures)))
    ]

pub returns : goal.returns
returns c =
    let a = c.args in
    rw (c.from.ensures, c.from-2.ensures)
    (ap (λ (f : ℕ). f + (a.step - 1)) (c.first_row.ensures (omega arith)) ∙ sym (number-there a.order a.step (omega arith) (omega arith)))
