-- `frame_calls::decoder::cks`: an exclusive or over a list goes on over its parts.
use Rattle.frame.specs.Decoder.{front_in}
use Rattle.frame.proofs.Laws.{cks-message, cks-ack, cks-nak}
use Rattle.frame_calls.proofs.decoder.cks.Goals as goal

pub returns-in-Message : goal.returns-in-Message
unfolding front_in
returns-in-Message c =
    rw (c.exclusive_or.ensures, c.exclusive_or-y.ensures, c.first.ensures, c.exclusive_or-x.ensures, c.front-f.ensures, cks-message c.args.h c.args.info.now c.in-Message.is)

pub returns-in-Ack : goal.returns-in-Ack
unfolding front_in
returns-in-Ack c = rw (c.exclusive_or-x.ensures, c.front-f.ensures, cks-ack c.args.h c.args.info.now c.in-Ack.is)

pub returns-in-Nak : goal.returns-in-Nak
unfolding front_in
returns-in-Nak c = rw (c.exclusive_or-in-Nak.ensures, c.exclusive_or-x.ensures, c.front-f.ensures, cks-nak c.args.h c.args.info.now c.in-Nak.is)
