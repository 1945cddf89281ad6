-- `checks::plan_stands`: each check tells of one part of the greens that fit, and there is no other.
use Rattle.std.proofs.Common.{ℕ, ◌+◌, ◌*◌, refl, ap, ◌∙◌, arith}
use Rattle.record.specs.Record.{octet_at, word_at, k_of, times_end}
use Rattle.checks.specs.Standing.{plan_disagree}
use Rattle.checks.proofs.Laws.{none-told}
use Rattle.checks.proofs.Stands.{plan-fits}
use Rattle.checks.proofs.Judging.{told-within, told-not, plan-told}
use Rattle.checks.proofs.plan_stands.Goals as goal

pub returns-then-not-fits : goal.returns-then-not-fits
returns-then-not-fits c = told-not (told-within (ap (octet_at c.args.rec.now) c.times_at-at.ensures) c.fits.ensures) c.if-not-fits.true (λ t. (plan-fits c.args.rec.now t).direct)

pub returns-then-not-passes : goal.returns-then-not-passes
returns-then-not-passes c =
    let rec = c.args.rec.now in
    let cycle = c.word.ensures ∙ ap (λ (n : ℕ). word_at rec (n + 2 + 2 * k_of rec)) c.times_at-at.ensures in
    told-not (told-within cycle c.passes.ensures) c.if-not-passes.true
    (λ t. let f = plan-fits rec t in record { least = omega (arith, f.offset); most = f.most })

pub returns : goal.returns
returns c =
    let rec = c.args.rec.now in
    let cycle = c.word.ensures ∙ ap (λ (n : ℕ). word_at rec (n + 2 + 2 * k_of rec)) c.times_at-at.ensures in
    none-told (plan_disagree rec) c.first_disagreement.ensures c.is_none.ensures
    ∙ plan-told rec c.requires.0 (omega (arith, c.type_inv.rec (times_end rec + 1))) c.requires.1
    ((told-within (ap (octet_at rec) c.times_at-at.ensures) c.fits.ensures).holds c.if-not-fits.false)
    ((told-within cycle c.passes.ensures).holds c.if-not-passes.false)
    refl
