-- `controller_calls::stepper::picked`: a requested plan that stands ready is started, else the running one again.
use Rattle.std.proofs.Common.{◌≡◌, length, ◌∙◌, rules}
use Rattle.record.specs.Record.{record_len}
use Rattle.controller_calls.proofs.Laws.{picks, stays, ready-long}
use Rattle.controller_calls.proofs.stepper.picked.Goals as goal

pub unwrap-copy-requires : goal.unwrap-copy-requires
unwrap-copy-requires c =
    let l : length c.record_of-rec.result.now ≡ record_len = ready-long _ (c.state.ensures ∙ c.record_of-rec.ensures.state) c.if-state-eq-READY.true in
    search rules

pub returns-then-state-eq-READY : goal.returns-then-state-eq-READY
returns-then-state-eq-READY c =
    let a = c.args in
    let f = c.record_of-rec.ensures in
    let l : length c.record_of-rec.result.now ≡ record_len = ready-long _ (c.state.ensures ∙ f.state) c.if-state-eq-READY.true in
    let e : c.unwrap-copy.result ≡ c.record_of-rec.result.now = search rules in
    c.started.ensures ∙ picks a.u a.requested a.book.now c.built_in-lent.ensures f (c.state.ensures ∙ f.state) c.if-state-eq-READY.true e

pub returns : goal.returns
returns c =
    let a = c.args in
    let f = c.record_of-rec.ensures in
    c.started-2.ensures ∙ stays a.u a.requested a.book.now c.built_in-lent.ensures f (c.state.ensures ∙ f.state) c.if-state-eq-READY.false
