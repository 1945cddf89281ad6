-- What is read is what stands there.
use Prim.Native.Nat.{ℕ}
use mathlib.Core.Path.{◌≡◌, ◌∙◌}
use mathlib.Core.List.{List}
use native.Mathlib.Omega.{arith}
use lib.ListN.{drop, get_or-eq_default}
use Rattle.message.specs.declared.layout.Field.{Field}
use Rattle.message.specs.declared.layout.Field.TheVariants.{Octet, Two, Order}
use Rattle.message.specs.Fields.{two_of, value_of}
use Rattle.message.specs.Reader.{part_of, body_in, read_of}
use Rattle.message.specs.Promises.{value_there, ValuesTaken, HoldsInfo, ValuesStand}
use Rattle.message.proofs.Layouts.{rows-most}
use Rattle.message.proofs.Values.{value-one, value-two, value-at, length-values}
use Rattle.message.proofs.Ranges.{placed_at}
use Rattle.message.proofs.Fitting.{length-placed}
use Rattle.message.proofs.Accepted.{Accepted, accepted-in, is-part, code_is, rows_is, read_rows, read_values, read_part}

-- by the field's octets: high octet first
there : (f : Field) (os : List ℕ) (s : ℕ) → value_of (two_of f) (drop s os) ≡ value_there f os s
there (Octet least greatest) os s = value-one os s
there (Two least greatest) os s = value-two os s
there Order os s = value-one os s

pub values-taken : ValuesTaken
values-taken fs os j s f t =
    let e : j ≡ t.place = omega (arith, t.number) in
    rw (e, value-at fs os t.place t.within, t.there, t.start) (there f os s)

part-holds : (info : List ℕ) (h : Accepted info (read_of info)) → HoldsInfo info (read_part info h)
unfolding part_of
part-holds info h =
    let vs = read_values info h in
    record {
      code = code_is info h;
      fields = rw (rows_is info h);
      values = λ j s f t. placed_at vs j ∙ values-taken (read_rows info h) (body_in info) j s f (rw (rows_is info h) at t);
      places = length-placed vs (rw length-values (rows-most _ _ h.right.most));
      past = λ j l. placed_at vs j ∙ get_or-eq_default vs 0 (rw length-values l);
    }

pub values-stand : ValuesStand
values-stand info e = let h = accepted-in info e in rw (is-part info h) (part-holds info h)
