use Rattle.std.proofs.Common.{ℕ, ◌≡◌, ◌<◌, [], length, drop, refl, ◌∙◌, ap, arith, rules, get_or}
use mathlib.Core.Logic.{inl}
use lib.ListN.{drop_of_length-le}
use Rattle.std.proofs.lemmas.Iterator.Consumers.{YieldsList-from_first, YieldsList-from_enumerate, YieldsList-turn, YieldsList-end}
use Rattle.std.proofs.lemmas.List.FromFn.{length-enumerate_from}
use Rattle.std.proofs.lemmas.List.{length_push}
use Rattle.message.specs.declared.layout.Field.{Field}
use Rattle.message.specs.Fields.{no_field, two_of}
use Rattle.message.specs.Values.{zeros, values_of}
use Rattle.message.proofs.Values.{placed-is, length-values, values-next, width-most}
use Rattle.message_calls.specs.Shape.{shape_rows}
use Rattle.message_calls.specs.Walk.{fields_ahead}
use Rattle.message_calls.proofs.Shapes.{rows-most, numbered-turn}
use Rattle.message_calls.proofs.reader.values.Goals as goal
use Rattle.message_calls.proofs.reader.values.Goals.{After-value_at, After-width-at}

pub loop-i-init : goal.loop-i-init
unfolding zeros
loop-i-init c =
    let into = c.into_iter-i-iterator.ensures.into_iter_gives in
    let n : c.into_iter-i-iterator.result.count ≡ 0 = rw into c.enumerate-i-items.ensures.count in
    let ahead : fields_ahead c.into_iter-i-iterator.result.iter ≡ shape_rows c.args.shape = rw (into, c.enumerate-i-items.ensures.source) c.over.ensures.1 in
    ((rw (into, c.enumerate-i-items.ensures.source) c.over.ensures.0, tt, inl (omega (arith, n, ap length ahead, rows-most c.args.shape))), (omega arith, refl, refl))

-- the turn's place, and the field that stands there
turn : (c : After-value_at) → (let n = length c.loop-i.yielded in let fs = shape_rows c.args.shape in (n < length fs) × (c.in-Some.i ≡ n) × (c.in-Some.field ≡ get_or fs n no_field))
turn c =
    let fs = shape_rows c.args.shape in
    let into = c.into_iter-i-iterator.ensures.into_iter_gives in
    let e = YieldsList-from_enumerate {s = c.into_iter-i-iterator.result} (YieldsList-from_first (λ (f : Field). f) fields_ahead fs (rw (into, c.enumerate-i-items.ensures.source) c.over.ensures.1)) (rw into c.enumerate-i-items.ensures.count) in
    numbered-turn fs (length c.loop-i.yielded) c.in-Some.field c.in-Some.i (YieldsList-turn e c.loop-i.yielded _ c.loop-i.yielded_by _ _ (c.in-Some.i, c.in-Some.field) c.in-Some.is c.next.ensures.steps)

turn-on : (c : After-width-at) → (let n = length c.loop-i.yielded in let fs = shape_rows c.args.shape in (n < length fs) × (c.in-Some.i ≡ n) × (c.in-Some.field ≡ get_or fs n no_field))
turn-on c =
    let fs = shape_rows c.args.shape in
    let into = c.into_iter-i-iterator.ensures.into_iter_gives in
    let e = YieldsList-from_enumerate {s = c.into_iter-i-iterator.result} (YieldsList-from_first (λ (f : Field). f) fields_ahead fs (rw (into, c.enumerate-i-items.ensures.source) c.over.ensures.1)) (rw into c.enumerate-i-items.ensures.count) in
    numbered-turn fs (length c.loop-i.yielded) c.in-Some.field c.in-Some.i (YieldsList-turn e c.loop-i.yielded _ c.loop-i.yielded_by _ _ (c.in-Some.i, c.in-Some.field) c.in-Some.is c.next.ensures.steps)

pub offset_bounds-values-i : goal.offset_bounds-values-i
offset_bounds-values-i c = let t = turn c in let m = rows-most c.args.shape in omega arith

pub bounds-values-i : goal.bounds-values-i
bounds-values-i c = let t = turn c in omega (arith, rows-most c.args.shape)

pub overflow_add-at : goal.overflow_add-at
overflow_add-at c = let t = turn-on c in omega (arith, rows-most c.args.shape, c.loop-i.invariant.1.0, c.width-at.ensures, width-most c.two-two.result)

pub loop-i-preserved : goal.loop-i-preserved
loop-i-preserved c =
    let v = c.loop-i in
    let fs = shape_rows c.args.shape in
    let p : ℕ × Field = (c.in-Some.i, c.in-Some.field) in
    let t = turn-on c in
    let two = c.two-two.ensures ∙ ap two_of t.2 in
    rw (length_push v.yielded p, t.1, c.width-at.ensures) (
      c.in-Some.ensures.goes.keeps,
      (
        omega (arith, width-most c.two-two.result, v.invariant.1.0),
        search rules,
        values-next fs c.args.body.now v.values (length v.yielded) v.at c.value_at.result c.two-two.result t.0 two c.value_at.ensures ∙ v.invariant.1.2,
      ),
    )

pub returns : goal.returns
returns c =
    let v = c.loop-i in
    let fs = shape_rows c.args.shape in
    let into = c.into_iter-i-iterator.ensures.into_iter_gives in
    let e = YieldsList-from_enumerate {s = c.into_iter-i-iterator.result} (YieldsList-from_first (λ (f : Field). f) fields_ahead fs (rw (into, c.enumerate-i-items.ensures.source) c.over.ensures.1)) (rw into c.enumerate-i-items.ensures.count) in
    let n = (YieldsList-end e v.yielded _ v.yielded_by _ _ c.in-None.is c.next.ensures.steps).1 ∙ length-enumerate_from 0 fs in
    let d : drop (length v.yielded) fs ≡ [] = drop_of_length-le fs (omega (arith, n)) in
    rw d at v.invariant.1.2 ∙ placed-is (values_of fs c.args.body.now) (omega (arith, length-values fs c.args.body.now, rows-most c.args.shape))
