-- `message_calls::reader::ranged`: the search is the definition's, over the values read.
use Rattle.std.proofs.Common.{◌≡◌, ◌+◌, arith}
use borrow.Author.Tests.{ne_eqb}
use Rattle.message.specs.Reader.{part_of, ranged_of, read_as}
use Rattle.message.specs.Values.{first_out}
use Rattle.message.proofs.Layouts.{kept-code}
use Rattle.message.proofs.Reading.{none-past}
use Rattle.message_calls.specs.Shape.{shape_rows}
use Rattle.message_calls.proofs.Shapes.{rows-most, rows-by, first-whole}
use Rattle.message_calls.proofs.reader.ranged.Goals as goal

pub overflow_cast-result : goal.overflow_cast-result
overflow_cast-result c = let w = c.in-Some.ensures.1.within in omega (arith, rows-most c.args.shape)

pub returns-in-Some : goal.returns-in-Some
unfolding ranged_of part_of
returns-in-Some c =
    let s = c.args.shape in
    let n : c.in-Some.number ≡ 0 → ⊥ = λ z. omega (arith, z, c.in-Some.ensures.0) in
    let e : c.in-Some.number ≡ first_out (shape_rows s) c.values-values.result = first-whole (shape_rows s) c.values-values.result c.in-Some.ensures.1 (rows-most s) (λ z. absurd (n z)) in
    λ l h. rw (← rows-by s h, ← c.values-values.ensures, ← e, ne_eqb _ _ n)

pub returns : goal.returns
unfolding ranged_of part_of
returns c =
    let s = c.args.shape in
    let e : 0 ≡ first_out (shape_rows s) c.values-values.result =
    first-whole (shape_rows s) c.values-values.result c.in_default.ensures (rows-most s) (λ _ j a b. rw c.values-values.ensures (none-past (shape_rows s) c.args.part.now j a)) in
    λ l h. rw (← rows-by s h, ← c.values-values.ensures, ← e) (λ i. read_as (record { code = kept-code h i; fields = c.fields.ensures.0 i; values = c.values-values.result }))
