-- `frame_calls::receiver::counted`: what was found decides, and an octet that goes on leaves the number.
use Rattle.std.proofs.Common.{sym, rules}
use Rattle.frame.specs.Dropped.{open_in}
use Rattle.frame.proofs.Counting.{number-stays}
use Rattle.frame_calls.proofs.receiver.counted.Goals as goal

pub returns-in-Nothing : goal.returns-in-Nothing
returns-in-Nothing c =
    let a = c.args in
    rw (c.received.ensures, c.in-Nothing.is, number-stays a.r.dropped (open_in a.r.head a.info.now) (search (rules, c.well_formed)) (c.requires.on c.in-Nothing.is (sym c.if-not-waits.ensures)))
