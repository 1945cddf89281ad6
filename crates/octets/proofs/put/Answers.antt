-- `octets::put`: where there is room, the part from `at` on holds a copy.
use Rattle.std.proofs.Common.{◌≡◌, ◌+◌, leb, length, true, arith, rules}
use Rattle.octets.proofs.Laws.{copied}
use Rattle.octets.proofs.put.Goals as goal

pub returns : goal.returns
returns c =
    let a = c.args in
    let t : leb (a.at + length a.s.now) (length a.out.now) ≡ true = search rules in
    copied c.copy_from_slice.ensures.after (omega arith) t
