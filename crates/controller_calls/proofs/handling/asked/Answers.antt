-- `controller_calls::handling::asked` meets its contract: what the reader refuses is refused, and the second octet picks the law.
use Rattle.std.proofs.Common.{◌≡◌, ℕ, ◌+◌, ◌≤◌, List, get_or, eqb, refl, ap, ◌∙◌, arith, rules}
use Rattle.std.proofs.lemmas.Result.{err_from_is_err_and}
use Rattle.octets.specs.Word.{low_of}
use Rattle.message.specs.declared.Message.{Message}
use Rattle.message.specs.Promises.{OnePlan, fields_of}
use Rattle.message.specs.Reader.{not_read, read_as, code_in, body_in, read_of}
use Rattle.message.proofs.Numbers.{field-numbers}
use Rattle.record.specs.Record.{plans_most, empty}
use Rattle.plan.specs.Setting.{plan_in}
use Rattle.plan_calls.proofs.Read.{plan-asked, refused-some}
use Rattle.controller.specs.Reply.{handled_as}
use Rattle.controller.specs.State.{joined}
use Rattle.controller.specs.Handling.{run_as, query_times_as, query_plan_as}
use Rattle.controller_calls.specs.Handling.{Asks}
use Rattle.controller_calls.proofs.Laws.{asked-unread, asked-run, asked-times, asked-plan, asked-running, asks-running, pick-not}
use Rattle.controller_calls.proofs.handling.asked.Goals as goal

-- the code, by its second octet, and the plan that was read
module _ (info : List ℕ) {code second : ℕ} (r : (code ≡ code_in info) × Asks code second) {j : ℕ} (e : second ≡ j) where
  coded : code_in info ≡ 0x5F00 + j
  coded = omega (arith, r.0, r.1.octets, e)

  planned : {m : Message} {p : ℕ} → read_as m ≡ read_of info → p ≡ low_of (get_or m.values 0 0) → ((k : ℕ) → OnePlan (fields_of (0x5F00 + j) k)) → (p ≡ plan_in (body_in info)) × (p ≤ plans_most)
  planned em ep one = plan-asked info em refl coded one ep

pub returns-in_err-m : goal.returns-in_err-m
unfolding not_read
returns-in_err-m c kept =
    let p = err_from_is_err_and c.from_residual.result c.from_residual.ensures.1 in
    rw (p.1, p.2) (asked-unread (joined c.args.s kept) c.args.book.now c.args.info.now c.requires.0 c.in_err-m.ensures c.requires.1 (refused-some _) refl)

pub standing-ready-requires : goal.standing-ready-requires
standing-ready-requires c = (planned c.args.info.now c.requires c.in-24.is c.in_ok-m.ensures c.low-plan.ensures field-numbers.run).1

pub standing-set-requires : goal.standing-set-requires
standing-set-requires c = (planned c.args.info.now c.requires c.in-68.is c.in_ok-m.ensures c.low-plan.ensures field-numbers.query_times).1

pub standing-ready-requires-in-69 : goal.standing-ready-requires-in-69
standing-ready-requires-in-69 c = (planned c.args.info.now c.requires c.in-69.is c.in_ok-m.ensures c.low-plan.ensures field-numbers.query_plan).1

pub returns-in-24 : goal.returns-in-24
unfolding run_as
returns-in-24 c kept =
    let a = c.args in
    let p = planned a.info.now c.requires c.in-24.is c.in_ok-m.ensures c.low-plan.ensures field-numbers.run in
    asked-run (joined a.s kept) a.book.now a.info.now c.requires.0 c.in_ok-m.ensures refl p.0 (coded a.info.now c.requires c.in-24.is)
    (c.done_if.ensures a.code a.s.requested ∙ rw (c.standing-ready.ensures, c.accepted.ensures))

pub returns-in-68 : goal.returns-in-68
unfolding query_times_as
returns-in-68 c kept =
    let a = c.args in
    let p = planned a.info.now c.requires c.in-68.is c.in_ok-m.ensures c.low-plan.ensures field-numbers.query_times in
    asked-times (joined a.s kept) a.book.now a.info.now c.requires.0 c.in_ok-m.ensures refl p.0 (coded a.info.now c.requires c.in-68.is)
    (c.done_if-in-68.ensures a.code a.s.requested ∙ pick-not (eqb c.standing-set.result empty) _ _ ∙ rw (c.standing-set.ensures, c.accepted-in-68.ensures))

pub returns-in-69 : goal.returns-in-69
unfolding query_plan_as
returns-in-69 c kept =
    let a = c.args in
    let p = planned a.info.now c.requires c.in-69.is c.in_ok-m.ensures c.low-plan.ensures field-numbers.query_plan in
    asked-plan (joined a.s kept) a.book.now a.info.now c.requires.0 c.in_ok-m.ensures refl p.0 (coded a.info.now c.requires c.in-69.is)
    (c.done_if-in-69.ensures a.code a.s.requested ∙ rw (c.standing-ready-in-69.ensures, c.accepted-in-69.ensures))

pub returns-in_default : goal.returns-in_default
returns-in_default c kept =
    let a = c.args in
    let n : a.second ≡ 0x18 → ⊥ = search rules in
    let m : a.second ≡ 0x44 → ⊥ = search rules in
    let o : a.second ≡ 0x45 → ⊥ = search rules in
    asked-running (joined a.s kept) a.book.now a.info.now c.requires.0 c.in_ok-m.ensures refl (coded a.info.now c.requires (asks-running c.requires.1.one n m o))
    (ap handled_as c.accepted-in_default.ensures)
