use Rattle.std.proofs.Common.{◌<◌, sym, arith}
use Rattle.record.specs.Record.{k_of}
use Rattle.checks.proofs.Stands.{times-fit, fit-times}
use Rattle.checks.proofs.Judging.{told-within, told-not}
use Rattle.checks.proofs.times_stand.Goals as goal

pub returns-then-not-fits : goal.returns-then-not-fits
returns-then-not-fits c = told-not (told-within c.count-k.ensures c.fits.ensures) c.if-not-fits.true (λ t. (times-fit c.args.rec.now t).count)

pub returns-then-not-phase_stands : goal.returns-then-not-phase_stands
returns-then-not-phase_stands c =
    let rec = c.args.rec.now in
    let l : c.loop-i.i < k_of rec = omega (arith, c.count-k.ensures) in
    told-not c.phase_stands.ensures c.if-not-phase_stands.true (λ t. (times-fit rec t).phases c.loop-i.i l)

pub returns : goal.returns
returns c =
    sym
    (fit-times c.args.rec.now c.requires
    (record {
      count = (told-within c.count-k.ensures c.fits.ensures).holds c.if-not-fits.false;
      phases = λ j l. c.loop-i.invariant.1 j (omega (arith, c.count-k.ensures));
    }))
