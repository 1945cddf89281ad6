-- `frame_calls::writer::write_message_from`: INFO is judged by the two lengths first, and the parts are those of a message frame.
use Rattle.std.proofs.Common.{◌++◌, refl, sym, length-append}
use Rattle.frame.specs.Frame.{message}
use Rattle.frame.proofs.Laws.{message-parts, write-4, write_as}
use Rattle.frame_calls.proofs.writer.write_message_from.Goals as goal

pub returns-then-not-info_fits : goal.returns-then-not-info_fits
returns-then-not-info_fits c =
    let a = c.args in
    rw (write-4 (message a.seq a.addr (a.head.now ++ a.rest.now)) a.out.now a.at (rw (length-append a.head.now a.rest.now) (sym c.if-not-info_fits.ensures)))
    (record { answer = refl; out = refl })

pub returns : goal.returns
returns c =
    let a = c.args in
    write_as (message a.seq a.addr (a.head.now ++ a.rest.now)) a.out.now a.at (rw (length-append a.head.now a.rest.now) (sym c.if-not-info_fits.ensures))
    (message-parts a.seq a.addr a.head.now a.rest.now c.front-f.ensures
    (rw (← c.exclusive_or.ensures, ← c.exclusive_or-h.ensures, ← c.exclusive_or-x.ensures) c.exclusive_or-2.ensures))
    c.write_parts.ensures
