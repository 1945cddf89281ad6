-- `frame_calls::writer::write_ack`: its parts are those of an ACK.
use Rattle.std.proofs.Common.{refl}
use Rattle.frame.specs.Frame.{ack}
use Rattle.frame.proofs.Laws.{ack-parts, write_as}
use Rattle.frame_calls.proofs.writer.write_ack.Goals as goal

pub returns : goal.returns
returns c =
    let a = c.args in
    write_as (ack a.seq a.addr) a.out.now a.at refl (ack-parts a.seq a.addr c.front-f.ensures c.exclusive_or.ensures) c.write_plain.ensures
