-- `message_calls::writer::writable`: the tests are those of the definition, in its order.
use Rattle.std.proofs.Common.{ap, sym, ◌∙◌}
use Rattle.std.proofs.Common.{rules}
use Rattle.message.proofs.Layouts.{kept-count, kept-fits}
use Rattle.message.specs.Layouts.{layout_at, k_fits}
use Rattle.message.specs.Writer.{number_in}
use Rattle.message_calls.specs.Shape.{shape_rows}
use Rattle.message_calls.proofs.Shapes.{rows-most, found-out, unclear-out, clear-in}
use Rattle.message.specs.Values.{numbered}
use Rattle.message_calls.proofs.Parts.{writable-10, writable-k, wrong-fields, wrong-value, right-values}
use Rattle.message_calls.proofs.writer.writable.Goals as goal

pub returns-in_err-line : goal.returns-in_err-line
returns-in_err-line c = rw c.from_residual.ensures (writable-10 c.args.m.now c.in_err-line.ensures)

pub returns-in_err-shape : goal.returns-in_err-shape
returns-in_err-shape c =
    let m = c.args.m.now in
    let y = c.in_ok-line.ensures in
    let k = c.count.ensures ∙ ap (numbered m.values) (kept-count y.1) in
    rw c.from_residual-in_err-shape.ensures (writable-k m y.0 (ap (k_fits (layout_at (number_in m))) (sym k) ∙ sym (kept-fits y.1 c.count.result) ∙ c.in_err-shape.ensures))

pub returns-then-m-fields : goal.returns-then-m-fields
returns-then-m-fields c =
    let m = c.args.m.now in
    let y = c.in_ok-line.ensures in
    let k = c.count.ensures ∙ ap (numbered m.values) (kept-count y.1) in
    let z = c.in_ok-shape.ensures in
    let s = c.in_ok-shape.shape in
    let f = ap (k_fits (layout_at (number_in m))) (sym k) ∙ sym (kept-fits y.1 c.count.result) ∙ z.0 in
    wrong-fields m y.0 s (rw z.1 y.1) (z.2 ∙ k) f (λ e. c.if-m-fields.true (e ∙ sym c.fields.ensures.0))

pub returns-then-is_some : goal.returns-then-is_some
returns-then-is_some c =
    let m = c.args.m.now in
    let y = c.in_ok-line.ensures in
    let k = c.count.ensures ∙ ap (numbered m.values) (kept-count y.1) in
    let z = c.in_ok-shape.ensures in
    let s = c.in_ok-shape.shape in
    let f = ap (k_fits (layout_at (number_in m))) (sym k) ∙ sym (kept-fits y.1 c.count.result) ∙ z.0 in
    wrong-value m y.0 s (rw z.1 y.1) (z.2 ∙ k) f (c.if-m-fields.false ∙ c.fields.ensures.0) (found-out (shape_rows s) m.values (rows-most s) c.first_out.result c.if-is_some.ensures c.first_out.ensures)

pub returns-then-not-clear : goal.returns-then-not-clear
returns-then-not-clear c =
    let m = c.args.m.now in
    let y = c.in_ok-line.ensures in
    let k = c.count.ensures ∙ ap (numbered m.values) (kept-count y.1) in
    let z = c.in_ok-shape.ensures in
    let s = c.in_ok-shape.shape in
    let f = ap (k_fits (layout_at (number_in m))) (sym k) ∙ sym (kept-fits y.1 c.count.result) ∙ z.0 in
    let e = c.if-m-fields.false ∙ c.fields.ensures.0 in
    wrong-value m y.0 s (rw z.1 y.1) (z.2 ∙ k) f e (unclear-out (shape_rows s) m.values (rows-most s) e (search rules) (sym c.clear.ensures ∙ c.if-not-clear.true))

pub returns : goal.returns
returns c =
    let m = c.args.m.now in
    let y = c.in_ok-line.ensures in
    let k = c.count.ensures ∙ ap (numbered m.values) (kept-count y.1) in
    let z = c.in_ok-shape.ensures in
    let s = c.in_ok-shape.shape in
    let f = ap (k_fits (layout_at (number_in m))) (sym k) ∙ sym (kept-fits y.1 c.count.result) ∙ z.0 in
    let e = c.if-m-fields.false ∙ c.fields.ensures.0 in
    (right-values m y.0 s (rw z.1 y.1) (z.2 ∙ k) f e (clear-in (shape_rows s) m.values (rows-most s) e (search rules) c.first_out.result c.if-is_some.ensures c.first_out.ensures (sym c.clear.ensures ∙ c.if-not-clear.false)), rw z.1 y.1, z.2 ∙ k)
