-- `text::store_octets`: the first octet has no blank before it, and the others are the part after it.
use Rattle.std.proofs.Common.{refl, arith, rules}
use Rattle.octets.proofs.Laws.{put-stored, stored-then}
use Rattle.text.specs.Text.{octets_hex}
use Rattle.text.proofs.Laws.{hex2-length, spaced-length, octets-none, octets-length}
use Rattle.text.proofs.store_octets.Goals as goal

pub returns-in-None : goal.returns-in-None
returns-in-None c = rw (octets-none c.args.s.now (search rules)) (record { place = search rules; holds = refl; long = refl; fits = search rules })

pub store_spaced-requires : goal.store_spaced-requires
store_spaced-requires c =
    let some = c.in-Some in
    let l = octets-length c.args.s.now in
    let m = spaced-length some.rest.now in
    let n = hex2-length some.first.now in
    let h = some.ensures.cases.1 in
    let p = put-stored c.put_hex2-p.ensures (omega arith) in
    omega (arith, p.place, p.long)

pub returns-in-Some : goal.returns-in-Some
unfolding octets_hex
returns-in-Some c =
    let some = c.in-Some in
    let l = octets-length c.args.s.now in
    let n = hex2-length some.first.now in
    let h = some.ensures.cases in
    rw h.0 (stored-then (put-stored c.put_hex2-p.ensures (omega arith)) c.store_spaced.ensures)
