-- A plan over 48 has no report: the reader refuses its first field, and then gives no message.
use Prim.Native.Nat.{ℕ, ◌+◌, ◌*◌, ◌<◌}
use mathlib.Core.Path.{◌≡◌, refl, sym, ap, ◌∙◌}
use mathlib.Core.Logic.{inl, inr}
use mathlib.Core.List.{List, ◌∷◌}
use native.Mathlib.Decide.{ℕ_discrete}
use native.Mathlib.Omega.{arith}
use borrow.Author.Tests.{ne_eqb}
use lib.ListN.{length}
use Rattle.octets.specs.First.{first_of}
use Rattle.octets.specs.Refusal as refusal
use Rattle.octets.specs.Word.{high_of, low_of}
use Rattle.octets.proofs.Laws.{word_back}
use Rattle.message.specs.Reader.{Read, no_message, not_read, code_in, body_in, read_of}
use Rattle.message.specs.Layouts.{layouts, layout_at, number_of, rows_at, layout_rows}
use Rattle.message.specs.Values.{zeros, values_of}
use Rattle.message.specs.Promises.{fields_of, RightAt, RightLength, out_of_range}
use Rattle.message.proofs.ReadSo.{parts-read-so}
use Rattle.record.specs.Record.{empty, ready, octet_at, k_of, Within}
use Rattle.checks.specs.Standing.{standing_of}
use Rattle.plan.specs.Reporting.{times_info, plan_info, report_times_of, report_plan_of}
use Rattle.plan.specs.Promises.{NoReport, NoReportOver48}
use Rattle.plan.proofs.Reports.{times_none, times-told, plan-none, plan-other, plan-told}
use Rattle.checks.proofs.Fields.{right-length}
use Rattle.plan.proofs.Ranges.{Counted, PlanReport, report-times, plan-report, of_part}
use Rattle.plan.proofs.Reportable.{times_body, plan_body, times-body, plan-body, no-report}

first_out : {c place once each : ℕ} → Counted c place once each → (info : List ℕ) → code_in info ≡ c
    → (let os = body_in info in
    let fs = fields_of c (octet_at os place) in
    length os ≡ once + each * octet_at os place → Within 1 (octet_at os place) 8 → 0 < length fs → (RightAt fs (values_of fs os) 0 → ⊥) → NoReport (read_of info).message)
unfolding not_read no_message zeros
first_out {c} {place} t info hc e k m w =
    let size = t.size (octet_at (body_in info) place) in
    let long : RightLength (number_of c) (octet_at (body_in info) place) (body_in info) = right-length t.known t.count.fewest t.count.most size e k in
    let j = out_of_range 1 t.known long (record { place = 0; number = refl; within = m; before = λ j l. absurd (omega arith); here = w }) in
    ap (λ (r : Read). r.message)
    (sym (of_part t info hc) ∙ sym ((parts-read-so (number_of c) (octet_at (body_in info) place) (body_in info) (not_read refusal.out_of_range 1)).0 j))
    ∙ no-report

module _ (rec : List ℕ) (p : ℕ) (hp : 48 < p) where
  times-over : Dec (standing_of rec ≡ empty) → NoReport (report_times_of rec p)
  unfolding times_info number_of first_of rows_at layout_rows layout_at layouts
  times-over (yes z) = times_none rec p z ∙ no-report
  times-over (no n) =
      let r = times-body rec 0 (omega arith) n in
      times-told rec p n ∙ first_out report-times (0x5F ∷ 0xC4 ∷ times_body rec p) refl r.long r.count (omega arith) (λ w. omega arith)

  plan-over : {code : ℕ} → PlanReport code → standing_of rec ≡ ready → NoReport (report_plan_of rec p code)
  unfolding plan_info
  plan-over {code} t h =
      let r = plan-body rec 0 (omega arith) (λ z. absurd (omega arith)) h t in
      let e = t.rows (k_of rec) in
      plan-told rec p code h t.reports
      ∙ first_out t.counted (high_of code ∷ low_of code ∷ plan_body rec p) (word_back code) r.long r.count (rw e (omega arith)) (rw e (λ w. omega arith))

  plan-by : (code : ℕ) → Dec (standing_of rec ≡ ready) → Dec (code ≡ 0x5FC5) → Dec (code ≡ 0x5FC8) → NoReport (report_plan_of rec p code)
  plan-by code (no n) d d' = plan-none rec p code n ∙ no-report
  plan-by code (yes h) (yes e) d' = plan-over (plan-report (inl e)) h
  plan-by code (yes h) (no a) (yes e) = plan-over (plan-report (inr e)) h
  plan-by code (yes h) (no a) (no b) = plan-other rec p code h (rw (ne_eqb code 0x5FC5 a, ne_eqb code 0x5FC8 b)) ∙ no-report

pub no-report-over-48 : NoReportOver48
no-report-over-48 rec p code hp =
    (times-over rec p hp (ℕ_discrete (standing_of rec) empty), plan-by rec p hp code (ℕ_discrete (standing_of rec) ready) (ℕ_discrete code 0x5FC5) (ℕ_discrete code 0x5FC8))
