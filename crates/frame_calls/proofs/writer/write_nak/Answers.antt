-- `frame_calls::writer::write_nak`: its parts are those of a NAK.
use Rattle.std.proofs.Common.{refl}
use Rattle.frame.specs.Frame.{nak}
use Rattle.frame.proofs.Laws.{nak-parts, write_as}
use Rattle.frame_calls.proofs.writer.write_nak.Goals as goal

pub returns : goal.returns
returns c =
    let a = c.args in
    write_as (nak a.seq a.addr a.err) a.out.now a.at refl
    (nak-parts a.seq a.addr a.err c.front-f.ensures (rw (← c.exclusive_or.ensures) c.exclusive_or-2.ensures)) c.write_plain.ensures
