-- `controller_calls::frame_out::resend`: the link decides; INFO stands where it was put.
use Rattle.controller_calls.proofs.Sending.{resent-none, resent-stored}
use Rattle.controller_calls.proofs.Written.{stored-ok}
use Rattle.controller_calls.proofs.frame_out.resend.Goals as goal

pub unwrap-requires : goal.unwrap-requires
unwrap-requires c =
    let a = c.args in
    let h = rw c.in-Again.is at c.requires.0 in
    stored-ok _ (resent-none a.s a.kept.now a.out.now h c.requires.1 c.requires.2 c.out_seq.result c.write_message.ensures)

pub returns-in-Again : goal.returns-in-Again
returns-in-Again c =
    let a = c.args in
    let h = rw c.in-Again.is at c.requires.0 in
    rw c.in-Again.is (resent-stored a.s a.kept.now a.out.now h c.requires.1 c.requires.2 c.out_seq.ensures (rw c.unwrap.ensures at c.write_message.ensures))
