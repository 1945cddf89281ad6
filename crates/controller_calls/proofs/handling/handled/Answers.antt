-- `controller_calls::handling::handled` meets its contract: the octets of the code pick the law.
use Rattle.std.proofs.Common.{◌≡◌, ℕ, ◌+◌, ◌<◌, refl, sym, ◌∙◌, arith, rules}
use Rattle.std.proofs.lemmas.Result.{err_from_is_err_and}
use Rattle.octets.specs.Word.{high_of}
use Rattle.controller.specs.State.{joined}
use Rattle.controller_calls.proofs.Laws.{code_is, high-other, low-other, set-done, set-refused, handles-times, handles-plan, handles-other}
use Rattle.controller_calls.proofs.handling.handled.Goals as goal

pub returns-in_ok-set_times-in-20 : goal.returns-in_ok-set_times-in-20
returns-in_ok-set_times-in-20 c kept =
    let a = c.args in
    handles-times (joined a.s kept) a.book.now a.info.now c.requires (sym c.requires ∙ code_is (sym c.high.ensures ∙ c.if-high-ne-CODE_HIGH.false) (sym c.low-second.ensures ∙ c.in-20.is)) c.in_ok-set_times-in-20.ensures
    (set-done a.code a.s.requested _ c.accepted-done.ensures)

pub returns-in_err-set_times-in-20 : goal.returns-in_err-set_times-in-20
returns-in_err-set_times-in-20 c kept =
    let a = c.args in
    let p = err_from_is_err_and c.from_residual.result c.from_residual.ensures.1 in
    rw (p.1, p.2)
    (handles-times (joined a.s kept) a.book.now a.info.now c.requires (sym c.requires ∙ code_is (sym c.high.ensures ∙ c.if-high-ne-CODE_HIGH.false) (sym c.low-second.ensures ∙ c.in-20.is)) c.in_err-set_times-in-20.ensures (set-refused a.code a.s.requested _))

pub returns-in_ok-set_plan-in-21 : goal.returns-in_ok-set_plan-in-21
returns-in_ok-set_plan-in-21 c kept =
    let a = c.args in
    handles-plan (joined a.s kept) a.book.now a.info.now c.requires (sym c.requires ∙ code_is (sym c.high.ensures ∙ c.if-high-ne-CODE_HIGH.false) (sym c.low-second.ensures ∙ c.in-21.is)) c.in_ok-set_plan-in-21.ensures
    (set-done a.code a.s.requested _ c.accepted-done.ensures)

pub returns-in_err-set_plan-in-21 : goal.returns-in_err-set_plan-in-21
returns-in_err-set_plan-in-21 c kept =
    let a = c.args in
    let p = err_from_is_err_and c.from_residual-in_err-set_plan-in-21.result c.from_residual-in_err-set_plan-in-21.ensures.1 in
    rw (p.1, p.2)
    (handles-plan (joined a.s kept) a.book.now a.info.now c.requires (sym c.requires ∙ code_is (sym c.high.ensures ∙ c.if-high-ne-CODE_HIGH.false) (sym c.low-second.ensures ∙ c.in-21.is)) c.in_err-set_plan-in-21.ensures (set-refused a.code a.s.requested _))

pub returns-then-high-ne-CODE_HIGH : goal.returns-then-high-ne-CODE_HIGH
returns-then-high-ne-CODE_HIGH c kept =
    let a = c.args in
    let n : high_of a.code ≡ 0x5F → ⊥ = λ e. c.if-high-ne-CODE_HIGH.true (c.high.ensures ∙ e) in
    handles-other (joined a.s kept) a.book.now a.info.now c.requires (high-other {j = 0x14} (omega arith) n) (high-other {j = 0x15} (omega arith) n) (high-other {j = 0x18} (omega arith) n) (high-other {j = 0x44} (omega arith) n) (high-other {j = 0x45} (omega arith) n) (high-other {j = 0x48} (omega arith) n) refl

pub returns-in_default : goal.returns-in_default
returns-in_default c kept =
    let a = c.args in
    let other : (j : ℕ) → j < 256 → (c.low-second.result ≡ j → ⊥) → a.code ≡ 0x5F00 + j → ⊥ = λ j l n. low-other l (λ e. n (c.low-second.ensures ∙ e)) in
    handles-other (joined a.s kept) a.book.now a.info.now c.requires (other 0x14 (omega arith) (search rules)) (other 0x15 (omega arith) (search rules)) (other 0x18 (omega arith) (search rules)) (other 0x44 (omega arith) (search rules)) (other 0x45 (omega arith) (search rules)) (other 0x48 (omega arith) (search rules)) refl

pub returns-in_default-2 : goal.returns-in_default-2
returns-in_default-2 c kept =
    let a = c.args in
    let other : (j : ℕ) → j < 256 → (c.low-second.result ≡ j → ⊥) → a.code ≡ 0x5F00 + j → ⊥ = λ j l n. low-other l (λ e. n (c.low-second.ensures ∙ e)) in
    handles-other (joined a.s kept) a.book.now a.info.now c.requires (other 0x14 (omega arith) (search rules)) (other 0x15 (omega arith) (search rules)) (other 0x18 (omega arith) (search rules)) (other 0x44 (omega arith) (search rules)) (other 0x45 (omega arith) (search rules)) (other 0x48 (omega arith) (search rules)) refl
