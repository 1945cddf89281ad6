-- `controller_calls::replies::nak` meets its contract: a NAK is stored for a message frame with our address.
use Rattle.std.proofs.Common.{rules}
use Rattle.octets.specs.Refusals.{refusal_number}
use Rattle.controller_calls.proofs.Written.{stored-ok, nak-none, nak-stored}
use Rattle.controller_calls.proofs.replies.nak.Goals as goal

pub unwrap-requires : goal.unwrap-requires
unwrap-requires c = stored-ok _ (nak-none c.args.own (refusal_number c.args.why) c.args.seq c.args.out.now (search rules) c.err.ensures c.write_nak.ensures)

pub returns-in-Message : goal.returns-in-Message
returns-in-Message c =
    nak-stored c.args.own (refusal_number c.args.why) c.args.seq c.args.addr c.args.out.now c.in-Message.is c.if-addr-own.false (search rules) c.err.ensures (rw c.unwrap.ensures at c.write_nak.ensures)
