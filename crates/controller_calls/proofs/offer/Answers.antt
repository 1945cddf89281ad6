-- `controller_calls::offer`: one law for each way; what the writer would refuse is told with nothing written.
use Rattle.std.proofs.Common.{◌≡◌, refl, sym, ◌∙◌, arith, rules}
use Rattle.octets.specs.Refusal as refusal
use Rattle.octets.specs.Refusals.{told_number}
use Rattle.octets.specs.declared.refusal.Refusal.TheVariants.{StateUnsound}
use Rattle.plan_calls.proofs.Read.{refused-some}
use Rattle.controller.specs.State.{joined}
use Rattle.controller.proofs.Laws.{offer-7}
use Rattle.controller_calls.proofs.Held.{sound-joined}
use Rattle.controller_calls.proofs.Sending.{offer-quiet, offer-refused, offer-busy, offer-none, offered-most, offer-sent}
use Rattle.controller_calls.proofs.Written.{stored-ok}
use Rattle.controller_calls.proofs.offer.Goals as goal

pub returns-then-not-stands : goal.returns-then-not-stands
returns-then-not-stands c =
    let a = c.args in
    let h = sym (sound-joined a.s a.kept.now) ∙ sym c.if-not-stands.ensures in
    offer-quiet a.s a.kept.now a.info.now a.out.now StateUnsound (offer-7 (joined a.s a.kept.now) a.info.now a.out.now h) c.quiet.ensures

pub returns-in-Some : goal.returns-in-Some
returns-in-Some c =
    let a = c.args in
    let h = sym (sound-joined a.s a.kept.now) ∙ sym c.if-not-stands.ensures in
    offer-refused a.s a.kept.now a.info.now a.out.now h c.in-Some.ensures refl (refused-some _) c.quiet-in-Some.ensures

pub returns-then-s-ne0 : goal.returns-then-s-ne0
returns-then-s-ne0 c =
    let a = c.args in
    let h = sym (sound-joined a.s a.kept.now) ∙ sym c.if-not-stands.ensures in
    let z : told_number c.refuses_message.result ≡ refusal.none = search rules in
    offer-busy a.s a.kept.now a.info.now a.out.now h c.refuses_message.ensures z c.if-s-ne0.true c.quiet-then-s-ne0.ensures

pub unwrap-count-requires : goal.unwrap-count-requires
unwrap-count-requires c =
    let a = c.args in
    let h = sym (sound-joined a.s a.kept.now) ∙ sym c.if-not-stands.ensures in
    let z : told_number c.refuses_message.result ≡ refusal.none = search rules in
    stored-ok _ (offer-none a.s a.kept.now a.info.now a.out.now h c.refuses_message.ensures z c.write_message.ensures)

pub overflow_cast-result : goal.overflow_cast-result
overflow_cast-result c =
    let a = c.args in
    let h = sym (sound-joined a.s a.kept.now) ∙ sym c.if-not-stands.ensures in
    let z : told_number c.refuses_message.result ≡ refusal.none = search rules in
    omega (arith, offered-most a.s a.kept.now a.info.now a.out.now h c.refuses_message.ensures z)

pub returns : goal.returns
returns c =
    let a = c.args in
    let h = sym (sound-joined a.s a.kept.now) ∙ sym c.if-not-stands.ensures in
    let z : told_number c.refuses_message.result ≡ refusal.none = search rules in
    rw c.tells.ensures
    (offer-sent a.s a.kept.now a.info.now a.out.now h c.refuses_message.ensures z c.if-s-ne0.false c.put.ensures (rw c.unwrap-count.ensures at c.write_message.ensures) refl)
