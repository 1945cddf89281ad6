-- `message_calls::reader::read`: the code and the body of INFO are read as the definition reads them.
use Rattle.std.proofs.Common.{ℕ, ap, ◌∙◌, refl, sym}
use Rattle.message.specs.Layouts.{Layout, number_of, rows_at}
use Rattle.message.specs.Reader.{k_in, ranged_of}
use Rattle.message.specs.Values.{size_of}
use Rattle.message.proofs.Layouts.{kept-fits}
use Rattle.message.proofs.Reading.{read-11, read-body}
use Rattle.message_calls.proofs.Parts.{part-10, part-11-k, part-11-len, part-on}
use Rattle.message_calls.proofs.Shapes.{rows-by}
use Rattle.message_calls.proofs.reader.read.Goals as goal

pub returns-then-info-lt-CODE_LEN : goal.returns-then-info-lt-CODE_LEN
returns-then-info-lt-CODE_LEN c = read-11 c.args.info.now c.if-info-lt-CODE_LEN.true

pub returns-in_default : goal.returns-in_default
returns-in_default c = part-10 _ _ _ c.in_default.ensures ∙ read-body c.args.info.now c.if-info-lt-CODE_LEN.false (ap number_of c.value_at.ensures) refl refl

pub returns-in_default-of : goal.returns-in_default-of
returns-in_default-of c =
    let y = c.in-Some.ensures in
    let os = c.body-body.result.now in
    part-11-k _ _ _ y.0 (sym (kept-fits y.1 c.count_in.result) ∙ c.in_default-of.ensures)
    ∙ read-body c.args.info.now c.if-info-lt-CODE_LEN.false (ap number_of c.value_at.ensures) c.body-body.ensures.octets (c.count_in.ensures ∙ ap (λ (z : Layout). k_in z os) y.1.is)

pub returns-then-body-size : goal.returns-then-body-size
returns-then-body-size c =
    let y = c.in-Some.ensures in
    let z = c.in-Some-of.ensures in
    let os = c.body-body.result.now in
    let l = number_of c.value_at.result in
    let e = rows-by c.in-Some-of.shape {l = l} (rw z.1 y.1) ∙ ap (rows_at l) z.2 in
    part-11-len l c.count_in.result os y.0 (sym (kept-fits y.1 c.count_in.result) ∙ z.0) (λ q. c.if-body-size.true (q ∙ ap size_of (sym e) ∙ sym c.size.ensures.0))
    ∙ read-body c.args.info.now c.if-info-lt-CODE_LEN.false (ap number_of c.value_at.ensures) c.body-body.ensures.octets (c.count_in.ensures ∙ ap (λ (z : Layout). k_in z os) y.1.is)

pub returns : goal.returns
returns c =
    let y = c.in-Some.ensures in
    let z = c.in-Some-of.ensures in
    let os = c.body-body.result.now in
    let l = number_of c.value_at.result in
    let e = rows-by c.in-Some-of.shape {l = l} (rw z.1 y.1) ∙ ap (rows_at l) z.2 in
    c.ranged.ensures l (rw z.1 y.1)
    ∙ ap (λ (k : ℕ). ranged_of l k os) z.2
    ∙ part-on l c.count_in.result os y.0 (sym (kept-fits y.1 c.count_in.result) ∙ z.0) (c.if-body-size.false ∙ c.size.ensures.0 ∙ ap size_of e)
    ∙ read-body c.args.info.now c.if-info-lt-CODE_LEN.false (ap number_of c.value_at.ensures) c.body-body.ensures.octets (c.count_in.ensures ∙ ap (λ (z : Layout). k_in z os) y.1.is)
