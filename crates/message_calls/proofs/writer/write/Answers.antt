-- `message_calls::writer::write`: what is not writable is refused, and what is goes out where there is room.
use Rattle.std.proofs.Common.{refl}
use Rattle.message.proofs.Writing.{write-no, write-yes}
use Rattle.message_calls.proofs.Parts.{rows-in}
use Rattle.message_calls.proofs.writer.write.Goals as goal

pub returns-in_default : goal.returns-in_default
returns-in_default c = rw (← write-no c.args.m c.args.at c.args.out.now c.in_default.ensures) (record { answer = refl; out = refl })

pub returns : goal.returns
returns c =
    let w = c.in-Some.ensures in
    rw (← write-yes c.args.m c.args.at c.args.out.now w.0) (rw (rows-in c.args.m c.in-Some.shape w.1 w.2) at c.put_message.ensures)
