-- `frame_calls::writer::put_twice`: AA is stored as two octets, and any other as one.
use Rattle.std.proofs.Common.{ℕ, [], ◌∷◌, length, refl, ap, rules, arith, add-one, length-set}
use Rattle.std.proofs.lemmas.List.Edits.{sets}
use Rattle.frame.proofs.Laws.{twice-aa, twice-other, twice-some}
use Rattle.frame_calls.proofs.writer.put_twice.Goals as goal

pub bounds-out-at : goal.bounds-out-at
bounds-out-at c = omega (arith, twice-some c.args.b)

pub returns-then-b-ne-AA : goal.returns-then-b-ne-AA
returns-then-b-ne-AA c =
    let t = twice-other _ c.if-b-ne-AA.true in
    rw t (record { place = refl; holds = refl; long = search rules; fits = omega (arith, ap length t) })

pub bounds-out-at-2 : goal.bounds-out-at-2
bounds-out-at-2 c =
    let a = c.args in
    omega (arith, ap length (twice-aa _ c.if-b-ne-AA.false), length-set a.out.now a.at a.b)

pub returns : goal.returns
returns c =
    let t = twice-aa _ c.if-b-ne-AA.false in
    let a = c.args in
    rw t
    (record {
      place = refl;
      holds = rw (add-one a.at) (ap (λ (x : ℕ). sets a.out.now a.at (x ∷ 0xAA ∷ [])) c.if-b-ne-AA.false);
      long = search rules;
      fits = omega (arith, ap length t);
    })
