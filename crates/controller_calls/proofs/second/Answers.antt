-- `controller_calls::second`: one law for each way; a sound position is within a cycle of at most 900.
use Rattle.std.proofs.Common.{◌≡◌, refl, sym, ◌∙◌, rules}
use Rattle.controller.specs.State.{joined}
use Rattle.controller.specs.Seconds.{no_second}
use Rattle.controller.proofs.Judging.{parts_out, sound-parts}
use Rattle.controller.proofs.Laws.{second-7, second-8, second-9}
use Rattle.controller_calls.proofs.Held.{sound-joined, lent-enough, sound-position}
use Rattle.controller_calls.proofs.Sending.{second-sends, second-shown}
use Rattle.controller_calls.proofs.second.Goals as goal

pub returns-then-not-stands : goal.returns-then-not-stands
unfolding no_second
returns-then-not-stands c =
    let a = c.args in
    let h = sym (sound-joined a.s a.kept.now) ∙ sym c.if-not-stands.ensures in
    rw c.dark.ensures (sym (second-7 (joined a.s a.kept.now) a.book.now a.out.now h))

pub returns-in_default : goal.returns-in_default
unfolding no_second
returns-in_default c =
    let a = c.args in
    let h = sym (sound-joined a.s a.kept.now) ∙ sym c.if-not-stands.ensures in
    rw c.dark-in_default.ensures (sym (second-8 (joined a.s a.kept.now) a.book.now a.out.now h (search rules)))

pub returns-then-out-lt-OUTPUT_LEN : goal.returns-then-out-lt-OUTPUT_LEN
unfolding no_second
returns-then-out-lt-OUTPUT_LEN c =
    let a = c.args in
    let h = sym (sound-joined a.s a.kept.now) ∙ sym c.if-not-stands.ensures in
    rw c.dark-then-out-lt-OUTPUT_LEN.ensures (sym (second-9 (joined a.s a.kept.now) a.book.now a.out.now h (search rules) c.if-out-lt-OUTPUT_LEN.true))

pub passed-turn-requires : goal.passed-turn-requires
passed-turn-requires c =
    let a = c.args in
    let h = sym (sound-joined a.s a.kept.now) ∙ sym c.if-not-stands.ensures in
    parts_out a.s.wait a.s.out (sound-parts (joined a.s a.kept.now) h).out

pub resend-count-requires : goal.resend-count-requires
resend-count-requires c =
    let a = c.args in
    let h = sym (sound-joined a.s a.kept.now) ∙ sym c.if-not-stands.ensures in
    let f = parts_out a.s.wait a.s.out (sound-parts (joined a.s a.kept.now) h).out in
    (rw c.passed-turn.ensures (second-sends a.s.wait a.s.out f), lent-enough a.s a.kept.now h, c.if-out-lt-OUTPUT_LEN.false)

pub shown-requires : goal.shown-requires
shown-requires c =
    let a = c.args in
    let h = sym (sound-joined a.s a.kept.now) ∙ sym c.if-not-stands.ensures in
    sound-position a.s a.kept.now h

pub returns : goal.returns
returns c =
    let a = c.args in
    let h = sym (sound-joined a.s a.kept.now) ∙ sym c.if-not-stands.ensures in
    let eb : c.in-Some.book.now ≡ a.book.now = search rules in
    rw (c.shown.ensures, eb)
    (second-shown a.s a.kept.now a.book.now a.out.now h (search rules) c.if-out-lt-OUTPUT_LEN.false c.passed-turn.ensures refl refl c.resend-count.ensures)
