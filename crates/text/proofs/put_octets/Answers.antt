-- `text::put_octets`: the test is whether the text fits, three places for each octet but one for the last.
use Rattle.std.proofs.Common.{arith}
use Rattle.octets.proofs.Laws.{put-none}
use Rattle.text.proofs.Laws.{octets-length}
use Rattle.text.proofs.put_octets.Goals as goal

pub returns-then-out-at-2 : goal.returns-then-out-at-2
returns-then-out-at-2 c = put-none (omega (arith, octets-length c.args.s.now))

pub store_octets-requires : goal.store_octets-requires
store_octets-requires c = omega (arith, octets-length c.args.s.now)
