use Rattle.std.proofs.Common.{◌≡◌, ◌+◌, ◌<◌, ◌∙◌, length, drop, get_or, sym, arith}
use lib.Seq.{drop-length}
use Rattle.octets.proofs.Laws.{sets-append}
use Rattle.frame.specs.Frame.{twice, doubled}
use Rattle.frame.proofs.Laws.{doubled-at, doubled-length-at}
use Rattle.frame_calls.proofs.writer.put_doubled.Goals as goal

pub put_twice-p-requires : goal.put_twice-p-requires
put_twice-p-requires c =
    let s = c.args.info.now in
    let i = c.loop-b.b-index in
    let h : i < length s = omega arith in
    omega (arith, doubled-length-at s i h)

pub loop-b-preserved : goal.loop-b-preserved
loop-b-preserved c =
    let s = c.args.info.now in
    let v = c.loop-b in
    let h : v.b-index < length s = omega arith in
    let e = c.put_twice-p.ensures in (
      omega (arith, doubled-length-at s v.b-index h, e.place),
      e.long ∙ v.invariant.1,
      rw (e.holds, e.place) (sym (sets-append (twice (get_or s v.b-index 0)) (doubled (drop (v.b-index + 1) s)) v.out v.p) ∙ rw (doubled-at s v.b-index h) at v.invariant.2),
    )

pub returns : goal.returns
unfolding doubled
returns c =
    let s = c.args.info.now in
    let v = c.loop-b in
    let e : length s ≡ v.b-index = omega arith in
    let q : v.p + 0 ≡ c.args.at + length (doubled s) = rw (← e, drop-length) at v.invariant.0 in
    record { place = omega arith; holds = rw (← e, drop-length) at v.invariant.2; long = v.invariant.1; fits = omega arith }
