use Rattle.std.proofs.Common.{ap, ◌∙◌, arith, rules}
use Rattle.lamps.specs.Rows.{table_sum}
use Rattle.lamps.proofs.Laws.{phases-begin, phases-past, phase-over, phase-here}
use Rattle.lamps_calls.proofs.row_at.Goals as goal

pub loop-i-init : goal.loop-i-init
loop-i-init c = (search rules, search rules, phases-begin c.args.rec.now c.args.position)

pub returns-then-rest-whole : goal.returns-then-rest-whole
returns-then-rest-whole c =
    let v = c.loop-i in
    let whole = c.table_sum-whole in
    let sum = whole.ensures ∙ ap table_sum c.phase_table-table.ensures in
    c.row_in.ensures ∙ phase-here c.args.rec.now v.i (omega arith) whole.result v.rest sum (omega arith) ∙ v.invariant.2

pub loop-i-preserved : goal.loop-i-preserved
loop-i-preserved c =
    let v = c.loop-i in
    let whole = c.table_sum-whole in
    let sum = whole.ensures ∙ ap table_sum c.phase_table-table.ensures in
    (search rules, search rules, phase-over c.args.rec.now v.i (omega arith) whole.result v.rest sum (omega arith) ∙ v.invariant.2)

pub returns : goal.returns
returns c = let v = c.loop-i in phases-past c.args.rec.now v.i v.rest (omega arith) ∙ v.invariant.2
