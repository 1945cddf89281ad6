-- `controller_calls::replies::replied` meets its contract: what is written and counted, our SEQ and what is out go by the address.
use Rattle.std.proofs.Common.{[], refl, arith, eq-eqb, ne_eqb}
use lib.Seq.{length-sets}
use Rattle.controller.specs.Reply.{handled_as, reply_of}
use Rattle.controller_calls.proofs.Written.{info-fits, replied-ours, replied-all}
use Rattle.controller_calls.proofs.replies.replied.Goals as goal

pub write_reply-requires : goal.write_reply-requires
write_reply-requires c =
    let p = c.put-len.ensures [] in
    let f = info-fits c.args.s c.args.book.now (reply_of c.args.h.reply) [] c.requires.1 in
    (omega (arith, p.count, f.0), omega (arith, p.count, f.1), rw (p.octets, length-sets) c.requires.0, c.requires.2)

pub returns-then-m-s : goal.returns-then-m-s
returns-then-m-s c = let a = c.args in rw c.unchanged.ensures (replied-all a.s a.book.now a.m.seq a.m.addr (handled_as a.h) a.kept.now a.out.now (ne_eqb _ _ c.if-m-s.true))

pub returns : goal.returns
returns c =
    let a = c.args in
    rw c.unchanged.ensures
    (replied-ours a.s a.book.now a.m.seq a.m.addr (handled_as a.h) a.kept.now a.out.now (eq-eqb _ _ c.if-m-s.false) c.requires.1 c.requires.0 c.put-len.ensures c.write_reply.ensures refl)
