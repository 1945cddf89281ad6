use Rattle.std.proofs.Common.{ℕ, ◌+◌, ◌*◌, refl, ap, ◌∙◌, add-one, arith, rules}
use Rattle.diagram.specs.Table.{phases_of}
use Rattle.diagram.proofs.Known.{phases-most}
use Rattle.record.specs.Record.{word_at, order_of}
use Rattle.checks.proofs.Laws.{named-some, named-none}
use Rattle.checks.proofs.Judging.{octet-from}
use Rattle.checks.proofs.Walk.{count-fails, count-holds, green-stops, green-goes, cycle-stops, offset-stops, none-fails}
use Rattle.checks.proofs.first_disagreement.Goals as goal

pub returns-then-k : goal.returns-then-k
returns-then-k c = let rec = c.args.rec.now in named-some (omega arith) (count-fails rec refl (λ e. omega (arith, phases-most (order_of rec))))

pub returns-then-k-phases : goal.returns-then-k-phases
returns-then-k-phases c = named-some (omega arith) (count-fails c.args.rec.now (c.phases-phases.ensures ∙ ap phases_of (octet-from c.args.rec.now c.times_at-at.ensures 1)) c.if-k-phases.true)

pub loop-i-init : goal.loop-i-init
loop-i-init c =
    let rec = c.args.rec.now in
    (search rules, count-holds rec (c.phases-phases.ensures ∙ ap phases_of (octet-from rec c.times_at-at.ensures 1)) c.if-k-phases.false, refl, search rules)

pub returns-then-green_fails : goal.returns-then-green_fails
returns-then-green_fails c =
    let rec = c.args.rec.now in
    let v = c.loop-i in
    let times = c.times_at-times.ensures in
    let green = c.word-green.ensures ∙ ap (λ (n : ℕ). word_at rec (n + 2 + 2 * v.i)) c.times_at-at.ensures in
    let maximum = c.word.ensures ∙ ap (λ (n : ℕ). word_at rec (n + 1)) times in
    named-some (omega arith) (green-stops rec c.if-k-phases.false (search rules) green maximum (rw times at c.green_fails.ensures) v.invariant.1 c.if-green_fails.true)

pub loop-i-preserved : goal.loop-i-preserved
loop-i-preserved c =
    let rec = c.args.rec.now in
    let v = c.loop-i in
    let times = c.times_at-times.ensures in
    let green = c.word-green.ensures ∙ ap (λ (n : ℕ). word_at rec (n + 2 + 2 * v.i)) c.times_at-at.ensures in
    let maximum = c.word.ensures ∙ ap (λ (n : ℕ). word_at rec (n + 1)) times in (
      search rules,
      green-goes rec c.if-k-phases.false (search rules) green maximum (rw times at c.green_fails.ensures) v.invariant.1 c.if-green_fails.false,
      rw (add-one v.i) (omega (arith, green, octet-from rec times 3, octet-from rec times 4)),
      omega arith,
    )

pub returns-then-cycle-sum : goal.returns-then-cycle-sum
returns-then-cycle-sum c =
    let rec = c.args.rec.now in
    let v = c.loop-i in
    let cycle = c.word-cycle.ensures ∙ ap (λ (n : ℕ). word_at rec (n + 2 + 2 * c.phases-phases.result)) c.times_at-at.ensures in
    named-some (omega arith) (cycle-stops rec c.if-k-phases.false (omega arith) c.loop-i-test.false v.invariant.2 cycle v.invariant.1 c.if-cycle-sum.true)

pub returns-then-cycle-word : goal.returns-then-cycle-word
returns-then-cycle-word c =
    let rec = c.args.rec.now in
    let v = c.loop-i in
    let cycle = c.word-cycle.ensures ∙ ap (λ (n : ℕ). word_at rec (n + 2 + 2 * c.phases-phases.result)) c.times_at-at.ensures in
    let offset = c.word-2.ensures ∙ ap (λ (n : ℕ). word_at rec (n + 2 + 2 * c.phases-phases.result + 2)) c.times_at-at.ensures in
    named-some (omega arith) (offset-stops rec c.if-k-phases.false (omega arith) c.loop-i-test.false v.invariant.2 cycle v.invariant.1 c.if-cycle-sum.false offset c.if-cycle-word.true)

pub returns : goal.returns
returns c =
    let rec = c.args.rec.now in
    let v = c.loop-i in
    let cycle = c.word-cycle.ensures ∙ ap (λ (n : ℕ). word_at rec (n + 2 + 2 * c.phases-phases.result)) c.times_at-at.ensures in
    let offset = c.word-2.ensures ∙ ap (λ (n : ℕ). word_at rec (n + 2 + 2 * c.phases-phases.result + 2)) c.times_at-at.ensures in
    named-none (none-fails rec c.if-k-phases.false (omega arith) c.loop-i-test.false v.invariant.2 cycle v.invariant.1 c.if-cycle-sum.false offset c.if-cycle-word.false)
