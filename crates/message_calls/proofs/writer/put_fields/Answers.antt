use Rattle.std.proofs.Common.{ℕ, ◌≡◌, ◌≤◌, [], length, drop, refl, ◌∙◌, ap, arith, rules}
use lib.ListN.{drop_of_length-le}
use Rattle.std.proofs.lemmas.Iterator.{YieldsList-from_zip, YieldsList-from_slice}
use Rattle.std.proofs.lemmas.Iterator.Consumers.{YieldsList-from_first, YieldsList-turn, YieldsList-end}
use Rattle.std.proofs.lemmas.List.{length_push}
use denote.Ref.{Bor}
use Rattle.octets.proofs.Laws.{put-stored}
use Rattle.message.specs.declared.layout.Field.{Field}
use Rattle.message.specs.Fields.{two_of, width_of}
use Rattle.message.proofs.Values.{size-next, size-done}
use Rattle.message.proofs.Writing.{field-len, length-octets, stored_next}
use Rattle.message_calls.specs.Shape.{shape_rows}
use Rattle.message_calls.specs.Walk.{fields_ahead}
use Rattle.message_calls.proofs.Shapes.{rows-most, zip-len, paired-turn}
use Rattle.message_calls.proofs.writer.put_fields.Goals as goal

pub loop-field-init : goal.loop-field-init
loop-field-init c = ((rw (c.into_iter-field-iterator.ensures.into_iter_gives, c.zip-field-items.ensures.first) c.over.ensures.0, tt), (refl, refl, refl))

pub loop-field-preserved : goal.loop-field-preserved
loop-field-preserved c =
    let v = c.loop-field in
    let n = length v.yielded in
    let fs = shape_rows c.args.shape in
    let vs = c.args.values.now in
    let into = c.into_iter-field-iterator.ensures.into_iter_gives in
    let long : length fs ≤ length vs = let m = rows-most c.args.shape in search rules in
    let e = YieldsList-from_zip {s = c.into_iter-field-iterator.result} (YieldsList-from_first (λ (f : Field). f) fields_ahead fs (rw (into, c.zip-field-items.ensures.first) c.over.ensures.1)) (YieldsList-from_slice vs (rw into c.zip-field-items.ensures.second.0)) in
    let p : Field × Bor ℕ = (c.in-Some.field, c.in-Some.value) in
    let t = paired-turn fs n c.in-Some.field vs c.in-Some.value.now long (YieldsList-turn e v.yielded v.field-iterator v.yielded_by c.next.result c.next.new.self p c.in-Some.is c.next.ensures.steps) in
    let two = c.two.ensures ∙ ap two_of t.1 in
    let w = field-len c.two.result c.in-Some.value.now ∙ ap width_of two in
    let s = put-stored c.put_field-p.ensures (omega (arith, w, size-next fs n t.0, v.invariant.1.0, c.requires)) in
    rw (length_push v.yielded p) (
      c.in-Some.ensures.goes.keeps,
      (
        omega (arith, w, s.place, size-next fs n t.0, v.invariant.1.0),
        s.long ∙ v.invariant.1.1,
        stored_next fs vs n t.0 two (rw t.2 at s) ∙ v.invariant.1.2,
      ),
    )

pub returns : goal.returns
returns c =
    let v = c.loop-field in
    let fs = shape_rows c.args.shape in
    let vs = c.args.values.now in
    let into = c.into_iter-field-iterator.ensures.into_iter_gives in
    let long : length fs ≤ length vs = let m = rows-most c.args.shape in search rules in
    let e = YieldsList-from_zip {s = c.into_iter-field-iterator.result} (YieldsList-from_first (λ (f : Field). f) fields_ahead fs (rw (into, c.zip-field-items.ensures.first) c.over.ensures.1)) (YieldsList-from_slice vs (rw into c.zip-field-items.ensures.second.0)) in
    let n : length v.yielded ≡ length fs = (YieldsList-end e v.yielded v.field-iterator v.yielded_by c.next.result c.next.new.self c.in-None.is c.next.ensures.steps).1 ∙ zip-len fs vs long in
    let h : length fs ≤ length v.yielded = omega (arith, n) in
    let d : drop (length v.yielded) fs ≡ [] = drop_of_length-le fs h in
    record {
      place = omega (arith, size-done fs (length v.yielded) h, length-octets fs vs, v.invariant.1.0);
      holds = rw d at v.invariant.1.2;
      long = v.invariant.1.1;
      fits = omega (arith, size-done fs (length v.yielded) h, v.invariant.1.0, c.requires);
    }
