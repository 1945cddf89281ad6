-- `frame_calls::receiver::octet`: the tests of the state are those of the definition, the step is its own, and an octet of INFO is stored where the step keeps it.
use Rattle.std.proofs.Common.{refl, sym, ap, ◌∙◌, arith, rules}
use lib.Seq.{length-take-le}
use Rattle.frame.specs.declared.decoder.Stepped.{Stepped}
use Rattle.frame.specs.Decoder.{joined_decoder}
use Rattle.frame.proofs.Laws.{keeps-room}
use Rattle.frame.proofs.Counting.{open-then}
use Rattle.frame.proofs.Lent.{leaves-short, leaves-7, leaves_kept, leaves-other}
use Rattle.frame_calls.proofs.receiver.octet.Goals as goal

pub returns-in_default : goal.returns-in_default
returns-in_default c = let a = c.args in rw c.unsound.ensures (leaves-short a.r a.kept.now a.b c.in_default.ensures.cases)

pub returns-then-not-possible : goal.returns-then-not-possible
returns-then-not-possible c =
    let a = c.args in
    rw c.unsound-then-not-possible.ensures (leaves-7 a.r a.kept.now a.b c.in-Some.ensures.cases.enough (sym c.if-not-possible.ensures))

pub bounds-kept-at : goal.bounds-kept-at
bounds-kept-at c =
    let r = keeps-room c.args.r.head _ c.args.b (sym c.if-not-possible.ensures) (sym (ap (λ (u : Stepped). u.keeps) c.step-t.ensures) ∙ c.if-t.true) in
    let l = c.in-Some.ensures.cases.enough in
    let e = c.from-at.ensures in
    omega arith

pub returns-then-t : goal.returns-then-t
returns-then-t c =
    let a = c.args in
    let k = c.in-Some.ensures.cases in
    rw (c.received.ensures, c.from-at.ensures)
    (leaves_kept a.r a.kept.now a.b k.enough (sym c.if-not-possible.ensures) (rw k.same at c.step-t.ensures) (search rules) (search (rules, c.well_formed)) c.if-t.true)

pub counted-requires : goal.counted-requires
counted-requires c =
    let a = c.args in
    let k = c.in-Some.ensures.cases in
    rw k.same
    (open-then (joined_decoder a.r.head a.kept.now) 0 a.b (search rules) (length-take-le 256 a.kept.now k.enough) (sym c.if-not-possible.ensures) (rw k.same at c.step-t.ensures) c.if-t.false)

pub returns : goal.returns
returns c =
    let a = c.args in
    let k = c.in-Some.ensures.cases in
    rw (c.counted.ensures, k.same)
    (leaves-other a.r a.kept.now a.b k.enough (sym c.if-not-possible.ensures) (rw k.same at c.step-t.ensures) (search rules) c.if-t.false refl)
