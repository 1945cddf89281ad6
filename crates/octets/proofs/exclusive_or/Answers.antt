-- `octets::exclusive_or`: the library's fold over the octets is the one that is meant.
use Rattle.std.proofs.Common.{◌≡◌, ◌∙◌, rules}
use Rattle.std.specs.Int.Bits.{bit_xor}
use Rattle.std.specs.List.{fold}
use Rattle.octets.proofs.Laws.{exclusive-or-fold}
use Rattle.octets.proofs.exclusive_or.Goals as goal

pub returns : goal.returns
returns c =
    let a = c.args in
    let e : c.fold.result ≡ fold bit_xor a.start a.s.now = search rules in
    e ∙ exclusive-or-fold a.start a.s.now
