-- `diagram_calls::table_row`: each arm's line is computed, and the last arm is the last line.
use Rattle.std.proofs.Common.{◌∙◌, arith}
use Rattle.diagram.specs.Rows.{lamp_rows}
use Rattle.diagram_calls.specs.Lines.{words_of, line_words}
use Rattle.diagram_calls.proofs.Laws.{pair_row}
use Rattle.diagram_calls.proofs.table_row.Goals as goal

pub returns-in-0 : goal.returns-in-0
unfolding lamp_rows words_of line_words
returns-in-0 c = c.pair_at.ensures ∙ pair_row _ 0 c.in-0.is

pub returns-in-1 : goal.returns-in-1
unfolding lamp_rows words_of line_words
returns-in-1 c = c.pair_at-in-1.ensures ∙ pair_row _ 1 c.in-1.is

pub returns-in-2 : goal.returns-in-2
unfolding lamp_rows words_of line_words
returns-in-2 c = c.pair_at-in-2.ensures ∙ pair_row _ 2 c.in-2.is

pub returns-in-3 : goal.returns-in-3
unfolding lamp_rows words_of line_words
returns-in-3 c = c.pair_at-in-3.ensures ∙ pair_row _ 3 c.in-3.is

pub returns-in-4 : goal.returns-in-4
unfolding lamp_rows words_of line_words
returns-in-4 c = c.pair_at-in-4.ensures ∙ pair_row _ 4 c.in-4.is

pub returns-in-5 : goal.returns-in-5
unfolding lamp_rows words_of line_words
returns-in-5 c = c.pair_at-in-5.ensures ∙ pair_row _ 5 c.in-5.is

pub returns-in-6 : goal.returns-in-6
unfolding lamp_rows words_of line_words
returns-in-6 c = c.pair_at-in-6.ensures ∙ pair_row _ 6 c.in-6.is

pub returns-in-7 : goal.returns-in-7
unfolding lamp_rows words_of line_words
returns-in-7 c = c.pair_at-in-7.ensures ∙ pair_row _ 7 c.in-7.is

pub returns-in-8 : goal.returns-in-8
unfolding lamp_rows words_of line_words
returns-in-8 c = c.pair_at-in-8.ensures ∙ pair_row _ 8 c.in-8.is

pub returns-in-9 : goal.returns-in-9
unfolding lamp_rows words_of line_words
returns-in-9 c = c.pair_at-in-9.ensures ∙ pair_row _ 9 c.in-9.is

pub returns-in-10 : goal.returns-in-10
unfolding lamp_rows words_of line_words
returns-in-10 c = c.pair_at-in-10.ensures ∙ pair_row _ 10 c.in-10.is

pub returns-in-11 : goal.returns-in-11
unfolding lamp_rows words_of line_words
returns-in-11 c = c.pair_at-in-11.ensures ∙ pair_row _ 11 c.in-11.is

pub returns-in-12 : goal.returns-in-12
unfolding lamp_rows words_of line_words
returns-in-12 c = c.pair_at-in-12.ensures ∙ pair_row _ 12 c.in-12.is

pub returns-in-13 : goal.returns-in-13
unfolding lamp_rows words_of line_words
returns-in-13 c = c.pair_at-in-13.ensures ∙ pair_row _ 13 c.in-13.is

pub returns-in-14 : goal.returns-in-14
unfolding lamp_rows words_of line_words
returns-in-14 c = c.pair_at-in-14.ensures ∙ pair_row _ 14 c.in-14.is

pub returns-in-15 : goal.returns-in-15
unfolding lamp_rows words_of line_words
returns-in-15 c = c.pair_at-in-15.ensures ∙ pair_row _ 15 c.in-15.is

pub returns-in-16 : goal.returns-in-16
unfolding lamp_rows words_of line_words
returns-in-16 c = c.pair_at-in-16.ensures ∙ pair_row _ 16 c.in-16.is

pub returns-in-17 : goal.returns-in-17
unfolding lamp_rows words_of line_words
returns-in-17 c = c.pair_at-in-17.ensures ∙ pair_row _ 17 c.in-17.is

pub returns-in-18 : goal.returns-in-18
unfolding lamp_rows words_of line_words
returns-in-18 c = c.pair_at-in-18.ensures ∙ pair_row _ 18 c.in-18.is

pub returns-in-19 : goal.returns-in-19
unfolding lamp_rows words_of line_words
returns-in-19 c = c.pair_at-in-19.ensures ∙ pair_row _ 19 c.in-19.is

pub returns-in-20 : goal.returns-in-20
unfolding lamp_rows words_of line_words
returns-in-20 c = c.pair_at-in-20.ensures ∙ pair_row _ 20 c.in-20.is

pub returns-in-21 : goal.returns-in-21
unfolding lamp_rows words_of line_words
returns-in-21 c = c.pair_at-in-21.ensures ∙ pair_row _ 21 c.in-21.is

pub returns-in-22 : goal.returns-in-22
unfolding lamp_rows words_of line_words
returns-in-22 c = c.pair_at-in-22.ensures ∙ pair_row _ 22 c.in-22.is

pub returns-in_default : goal.returns-in_default
unfolding lamp_rows words_of line_words
returns-in_default c = c.pair_at-in_default.ensures ∙ pair_row c.args.number 23 (omega arith)
