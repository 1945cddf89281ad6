-- `controller_calls::replies::taken` meets its contract: what the octet brought, and the decoder that it leaves, make the answer.
use Rattle.controller.specs.State.{joined}
use Rattle.controller.proofs.Judging.{parts_last, parts_out, sound-parts}
use Rattle.controller_calls.proofs.Held.{taken-lent, left-enough, found-fits}
use Rattle.controller_calls.proofs.Written.{done-did}
use Rattle.controller_calls.proofs.replies.taken.Goals as goal

pub by_found-w-requires : goal.by_found-w-requires
by_found-w-requires c =
    let a = c.args in
    let r = c.requires in
    let p = sound-parts (joined a.s a.kept.now) r.0 in (
      found-fits a.s a.kept.now a.b r.0 c.octet-t.ensures,
      parts_last a.s.last p.last,
      parts_out a.s.wait a.s.out p.out,
      left-enough a.s a.kept.now a.b r.0 c.octet-t.ensures,
      p.running.checks,
      r.1,
    )

pub returns : goal.returns
returns c =
    let a = c.args in
    rw (← (taken-lent a.s a.kept.now c.requires.0 a.b)) (done-did a.s a.kept.now a.book.now a.out.now c.octet-t.ensures c.by_found-w.ensures)
