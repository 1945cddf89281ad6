-- `text::store_blank_hex2`: both parts fit, so that each is stored.
use Rattle.std.proofs.Common.{arith}
use Rattle.octets.proofs.Laws.{put-stored, stored-then}
use Rattle.text.specs.Text.{blank_hex2}
use Rattle.text.proofs.Laws.{hex2-length, blank-length}
use Rattle.text.proofs.store_blank_hex2.Goals as goal

pub returns : goal.returns
unfolding blank_hex2
returns c =
    let b = c.args.b in
    let l = blank-length b in
    let p = put-stored c.put-p.ensures (omega arith) in
    let q = put-stored c.put_hex2.ensures (omega (arith, hex2-length b, p.place, p.long)) in
    stored-then p q
