use Rattle.std.proofs.Common.{◌≡◌, ◌+◌, sym, ◌∙◌, length, drop, get_or, arith, rules}
use lib.Seq.{drop-length}
use Rattle.octets.proofs.Laws.{sets-append}
use Rattle.text.specs.Text.{blank_hex2, spaced}
use Rattle.text.proofs.Laws.{blank-length, spaced-length, spaced-at}
use Rattle.text.proofs.store_spaced.Goals as goal

pub store_blank_hex2-p-requires : goal.store_blank_hex2-p-requires
store_blank_hex2-p-requires c = let s = c.args.s.now in omega (arith, spaced-length s, blank-length (get_or s c.loop-b.b-index 0))

pub loop-b-preserved : goal.loop-b-preserved
loop-b-preserved c =
    let s = c.args.s.now in
    let v = c.loop-b in
    let i = v.b-index in
    let e = c.store_blank_hex2-p.ensures in (
      omega (arith, blank-length (get_or s i 0), e.place),
      e.long ∙ v.invariant.1,
      rw (e.holds, e.place) (sym (sets-append (blank_hex2 (get_or s i 0)) (spaced (drop (i + 1) s)) v.out v.p) ∙ rw (spaced-at s i (search rules)) at v.invariant.2),
    )

pub returns : goal.returns
unfolding spaced
returns c =
    let s = c.args.s.now in
    let v = c.loop-b in
    let e : length s ≡ v.b-index = omega arith in
    record { place = omega (arith, spaced-length s); holds = rw (← e, drop-length) at v.invariant.2; long = v.invariant.1; fits = omega (arith, spaced-length s) }
