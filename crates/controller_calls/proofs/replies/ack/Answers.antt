-- `controller_calls::replies::ack` meets its contract: an ACK is stored where the address is ours.
use Rattle.std.proofs.Common.{rules}
use Rattle.controller_calls.proofs.Written.{stored-ok, ack-none, ack-stored}
use Rattle.controller_calls.proofs.replies.ack.Goals as goal

pub unwrap-requires : goal.unwrap-requires
unwrap-requires c = stored-ok _ (ack-none c.args.own c.args.seq c.args.addr c.args.out.now (search rules) c.write_ack.ensures)

pub returns : goal.returns
returns c = ack-stored c.args.own c.args.seq c.args.addr c.args.out.now c.if-addr-own.false (search rules) (rw c.unwrap.ensures at c.write_ack.ensures)
