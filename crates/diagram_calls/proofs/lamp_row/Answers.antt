-- `diagram_calls::lamp_row`: the row of the step's number, and past the table's end none.
use Rattle.std.proofs.Common.{ap, sym, ◌∙◌, arith, get_or}
use Rattle.diagram.specs.Rows.{lamp_rows}
use Rattle.diagram.specs.Table.{dark_row, lamp_row_of}
use Rattle.diagram.proofs.Laws.{row-past}
use Rattle.diagram_calls.proofs.lamp_row.Goals as goal

pub returns-then-number-lt-ROWS : goal.returns-then-number-lt-ROWS
unfolding lamp_row_of
returns-then-number-lt-ROWS c = c.table_row.ensures ∙ ap (λ n. get_or lamp_rows n dark_row) c.row_number-number.ensures

pub returns : goal.returns
unfolding lamp_rows
returns c = sym (row-past c.args.order c.args.step (omega (arith, c.row_number-number.ensures)))
