-- `controller_calls::octet`: one law for each way.
use Rattle.std.proofs.Common.{◌≡◌, sym, ◌∙◌, arith, rules}
use Rattle.octets.specs.declared.refusal.Refusal.TheVariants.{StateUnsound, BookWrong, OutputShort}
use Rattle.controller.specs.State.{joined}
use Rattle.controller.proofs.Laws.{octet-7, octet-8, octet-9, octet-counted}
use Rattle.controller_calls.proofs.Held.{sound-joined, lent-enough, leaves_quiet, leaves-dropped, kept-room, leaves_kept}
use Rattle.controller_calls.proofs.octet.Goals as goal

pub returns-then-not-stands : goal.returns-then-not-stands
returns-then-not-stands c =
    let a = c.args in
    let k = a.kept.now in
    rw (octet-7 (joined a.s k) a.book.now a.out.now a.b (sym (sound-joined a.s k) ∙ sym c.if-not-stands.ensures))
    (leaves_quiet a.s k a.book.now a.out.now StateUnsound c.quiet.ensures)

pub returns-in_default : goal.returns-in_default
returns-in_default c =
    let a = c.args in
    let k = a.kept.now in
    rw (octet-8 (joined a.s k) a.book.now a.out.now a.b (sym (sound-joined a.s k) ∙ sym c.if-not-stands.ensures) (search rules))
    (leaves_quiet a.s k a.book.now a.out.now BookWrong c.quiet-in_default.ensures)

pub returns-then-out-lt-OUTPUT_LEN : goal.returns-then-out-lt-OUTPUT_LEN
returns-then-out-lt-OUTPUT_LEN c =
    let a = c.args in
    let k = a.kept.now in
    let eb : c.in-Some.book.now ≡ a.book.now = search rules in
    rw eb
    (rw (octet-9 (joined a.s k) a.book.now a.out.now a.b (sym (sound-joined a.s k) ∙ sym c.if-not-stands.ensures) (search rules) c.if-out-lt-OUTPUT_LEN.true)
    (leaves_quiet a.s k a.book.now a.out.now OutputShort c.quiet-then-out-lt-OUTPUT_LEN.ensures))

pub returns-then-idle_drops : goal.returns-then-idle_drops
returns-then-idle_drops c =
    let a = c.args in
    let k = a.kept.now in
    let eb : c.in-Some.book.now ≡ a.book.now = search rules in
    rw eb
    (rw (octet-counted (joined a.s k) a.book.now a.out.now a.b (sym (sound-joined a.s k) ∙ sym c.if-not-stands.ensures) (search rules) c.if-out-lt-OUTPUT_LEN.false)
    (leaves-dropped a.s k a.book.now a.out.now a.b (sym c.if-idle_drops.ensures) (rw (c.tells_dropped.ensures, c.one_dropped-receiver.ensures))))

pub info_kept-receiver-requires : goal.info_kept-receiver-requires
info_kept-receiver-requires c =
    let a = c.args in
    let k = a.kept.now in
    let h = sym (sound-joined a.s k) ∙ sym c.if-not-stands.ensures in
    (kept-room a.s k a.b h (sym c.if-info_goes_on.ensures), omega (arith, lent-enough a.s k h))

pub returns-then-info_goes_on : goal.returns-then-info_goes_on
returns-then-info_goes_on c =
    let a = c.args in
    let k = a.kept.now in
    let h = sym (sound-joined a.s k) ∙ sym c.if-not-stands.ensures in
    let eb : c.in-Some.book.now ≡ a.book.now = search rules in
    rw eb
    (rw (octet-counted (joined a.s k) a.book.now a.out.now a.b h (search rules) c.if-out-lt-OUTPUT_LEN.false)
    (leaves_kept a.s k a.b h (sym c.if-info_goes_on.ensures) (search rules) (search (rules, c.well_formed)) a.book.now a.out.now
    (rw (c.tells_dropped-then-info_goes_on.ensures, c.info_kept-receiver.ensures.0)) c.info_kept-receiver.ensures.1))

pub taken-requires : goal.taken-requires
taken-requires c =
    let a = c.args in
    (sym (sound-joined a.s a.kept.now) ∙ sym c.if-not-stands.ensures, c.if-out-lt-OUTPUT_LEN.false)

pub returns : goal.returns
returns c =
    let a = c.args in
    let k = a.kept.now in
    let eb : c.in-Some.book.now ≡ a.book.now = search rules in
    rw (octet-counted (joined a.s k) a.book.now a.out.now a.b (sym (sound-joined a.s k) ∙ sym c.if-not-stands.ensures) (search rules) c.if-out-lt-OUTPUT_LEN.false)
    (rw eb at c.taken.ensures)
