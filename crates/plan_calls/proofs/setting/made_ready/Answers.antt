-- `plan_calls::setting::made_ready`: there are at most eleven checks, and one law for each way.
use Rattle.std.proofs.Common.{◌≡◌, ◌+◌, ◌-◌, ◌≤◌, ap, ◌∙◌, arith}
use Rattle.message.specs.Names.{plan_count_at}
use Rattle.checks.specs.Standing.{plan_disagree}
use Rattle.checks.proofs.Stands.{plan-first}
use Rattle.plan.specs.Setting.{ready_record, plan_field}
use Rattle.plan.proofs.Sets.{ready-k, ready-unset, ready-count, ready-not, ready-is}
use Rattle.plan_calls.proofs.setting.made_ready.Goals as goal

pub returns-then-standing-eq-EMPTY : goal.returns-then-standing-eq-EMPTY
returns-then-standing-eq-EMPTY c = search ready-unset

pub returns-then-count : goal.returns-then-count
returns-then-count c = rw c.disagree.ensures (search ready-count)

-- the record has the stored count, so it has at most eleven checks
few : (c : goal.Then-n-ne0) → c.plan_disagree-n.result ≤ 11
few c =
    let a = c.args in
    let r = c.requires in
    let e = c.plan_disagree-n.ensures ∙ ap plan_disagree c.ready_record-rec.ensures in
    let n = ready-k a.old.now a.body.now (omega (arith, c.count.ensures, r.2, c.if-count.false, r.1.count.most, r.0)) (omega (arith, r.1.long)) in
    omega (arith, e, (plan-first (ready_record a.old.now a.body.now)).within, n, c.count.ensures, r.2, c.if-count.false, r.1.count.most)

pub overflow_cast-n : goal.overflow_cast-n
overflow_cast-n c = record { fits = omega (arith, few c) }

pub overflow_add-n : goal.overflow_add-n
overflow_add-n c = record { fits = omega (arith, few c) }

pub returns-then-n-ne0 : goal.returns-then-n-ne0
returns-then-n-ne0 c =
    let n = c.plan_disagree-n.result in let f : n + plan_count_at - 1 ≡ plan_field n = omega arith in rw c.disagree-then-n-ne0.ensures (search ready-not)

pub returns : goal.returns
returns c = search ready-is
