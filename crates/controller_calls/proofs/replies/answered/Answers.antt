-- `controller_calls::replies::answered` meets its contract: the address decides, and for us the link.
use Rattle.std.proofs.Common.{ap}
use Rattle.controller_calls.specs.Replies.{result_told}
use Rattle.controller_calls.proofs.Sending.{answered-other, answered-ours}
use Rattle.controller_calls.proofs.replies.answered.Goals as goal

pub returns-then-addr-s : goal.returns-then-addr-s
returns-then-addr-s c =
    answered-other c.args.s c.args.addr c.args.event c.args.t c.args.kept.now c.args.out.now c.if-addr-s.true (ap result_told c.unchanged.ensures)

pub returns : goal.returns
returns c =
    rw c.unchanged-2.ensures
    (answered-ours c.args.s c.args.addr c.args.event c.args.t c.args.kept.now c.args.out.now c.if-addr-s.false c.resend-count.ensures)
