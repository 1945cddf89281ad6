-- `checks::phase_stands`: each check tells of one part of the times that fit.
use Rattle.std.proofs.Common.{ℕ, ◌+◌, ap, ◌∙◌}
use Rattle.record.specs.Record.{octet_at, word_at}
use Rattle.checks.proofs.Judging.{told-within, told-agrees, told-times, octet-from}
use Rattle.checks.proofs.phase_stands.Goals as goal

pub returns : goal.returns
returns c =
    let rec = c.args.rec.now in
    let at = c.times_at-at.ensures in
    let maximum = c.word-maximum.ensures ∙ ap (λ (n : ℕ). word_at rec (n + 1)) at in
    told-times rec c.args.i ((told-within (octet-from rec at 3) c.fits.ensures).holds c.if-not-fits.false) (told-within (ap (octet_at rec) at) c.fits-2.ensures)
    (told-within maximum c.passes.ensures) (told-within (octet-from rec at 4) c.fits-3.ensures) (told-within (octet-from rec at 5) c.fits-4.ensures)
    (told-within (octet-from rec at 6) c.fits-5.ensures) (told-agrees _ _ _ (rw (maximum, at) at c.phase_disagrees.ensures.named) c.is_none.ensures)
