use Rattle.std.proofs.Common.{ℕ, ◌≡◌, ◌<◌, ◌∷◌, true, false, not, length, drop, get_or, refl, sym, ap, ◌∙◌, arith}
use borrow.Author.Count.{below_more}
use Rattle.octets.proofs.Laws.{first-none, first_found}
use Rattle.message.specs.declared.layout.Field.{Field}
use Rattle.message.specs.Fields.{no_field, passes}
use Rattle.message.specs.Values.{out_at}
use Rattle.message_calls.specs.Shape.{shape_rows}
use Rattle.message_calls.specs.Walk.{fields_ahead}
use Rattle.message_calls.proofs.Shapes.{rows-most, next-there, next_field, next_ahead, all-past}
use Rattle.message_calls.proofs.layout.first_out.Goals as goal

pub loop-field-init : goal.loop-field-init
loop-field-init c = (c.over-walk.ensures.0, c.over-walk.ensures.1, λ j l. absurd (omega arith))

pub offset_bounds-values-number : goal.offset_bounds-values-number
offset_bounds-values-number c = omega (arith, next-there (shape_rows c.args.shape) c.loop-field.number (sym c.in-Some.ensures.steps ∙ c.loop-field.invariant.1), rows-most c.args.shape)

pub bounds-values-number : goal.bounds-values-number
bounds-values-number c = omega (arith, next-there (shape_rows c.args.shape) c.loop-field.number (sym c.in-Some.ensures.steps ∙ c.loop-field.invariant.1), rows-most c.args.shape)

pub overflow_add-number : goal.overflow_add-number
overflow_add-number c = omega (arith, next-there (shape_rows c.args.shape) c.loop-field.number (sym c.in-Some.ensures.steps ∙ c.loop-field.invariant.1), rows-most c.args.shape)

pub loop-field-preserved : goal.loop-field-preserved
loop-field-preserved c =
    let v = c.loop-field in
    let fs = shape_rows c.args.shape in
    let vs = c.args.values.now in
    let e = sym c.in-Some.ensures.steps ∙ v.invariant.1 in
    let judged = ap not (sym c.if-not-passes.false ∙ c.passes.ensures ∙ ap (λ (f : Field). passes f (get_or vs v.number 0)) (next_field fs v.number e)) in
    (c.in-Some.ensures.goes.keeps, next_ahead fs v.number e, below_more (λ (j : ℕ). out_at fs vs j ≡ false) v.number v.invariant.2 (sym judged))

pub returns-in_default : goal.returns-in_default
returns-in_default c =
    let v = c.loop-field in
    let fs = shape_rows c.args.shape in
    let p = all-past fs v.number (sym c.in_default.ensures.steps.0 ∙ v.invariant.1) in
    first-none (λ j l. v.invariant.2 j (omega arith))

pub returns-then-not-passes : goal.returns-then-not-passes
returns-then-not-passes c =
    let v = c.loop-field in
    let fs = shape_rows c.args.shape in
    let vs = c.args.values.now in
    let e = sym c.in-Some.ensures.steps ∙ v.invariant.1 in
    let judged = ap not (sym c.if-not-passes.true ∙ c.passes.ensures ∙ ap (λ (f : Field). passes f (get_or vs v.number 0)) (next_field fs v.number e)) in
    (omega arith, first_found (next-there fs v.number e) v.invariant.2 (sym judged))
