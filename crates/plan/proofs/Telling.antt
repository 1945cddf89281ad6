-- What was set is what is reported: the INFO of the report is that of the set, but for its code.
use Prim.Native.Nat.{ℕ, ◌+◌, ◌-◌, ◌≤◌, ◌<◌}
use mathlib.Core.Path.{◌≡◌, refl, sym, ap, ◌∙◌}
use mathlib.Core.Logic.{◌⊎◌, inl, inr}
use mathlib.Core.List.{List, ◌∷◌}
use native.Mathlib.Omega.{arith}
use lib.ListN.{length, drop, replicate, length-drop}
use lib.Seq.{ext_get_or, take_at, get_or-drop}
use Rattle.octets.specs.First.{first_of}
use Rattle.octets.proofs.Laws.{drop-next}
use Rattle.message.specs.Layouts.{layouts, layout_at, number_of, rows_at, layout_rows}
use Rattle.message.specs.Reader.{part_of, body_in}
use Rattle.record.specs.Record.{record_len, empty, times_set, ready, octet_at, k_of, times_end, greens_at, ready_end, direct_of, order_of}
use Rattle.checks.specs.Standing.{between, standing_of}
use Rattle.plan.specs.BuiltIn.{padded}
use Rattle.plan.specs.Reading.{record_at}
use Rattle.plan.specs.Setting.{plan_in, count_in, times_record, ready_record}
use Rattle.plan.specs.Reporting.{report_times_code, report_plan_code, report_running_code, report_times_of, report_plan_of}
use Rattle.plan.specs.Promises.{Fit14, Fit15, Holds15, Reports, TimesReported, PlanReported}
use Rattle.checks.proofs.Stands.{part-long, part_at, ready-to, times-to}
use Rattle.plan.proofs.Ranges.{PlanReport, set-times, set-plan, plan-report, ranges-as}
use Rattle.plan.proofs.Reportable.{times-part, plan-part}
use Rattle.plan.proofs.Sets.{times-at, ready-rest}
use Rattle.plan.proofs.Storing.{times-holds, fit-read, times-stored}
use Rattle.plan.proofs.Readying.{in-ranges, has-ends, m-holds, plan-stored}

module _ (body : List ℕ) (f : Fit14 body) where
  same_end : times_end (times_record body) ≡ times_end body
  same_end = omega (arith, times-at body 1 (omega arith))

  front-again : between 1 (times_end (times_record body)) (times_record body) ≡ drop 1 body
  unfolding times_record padded
  front-again =
      let n : length (drop 1 body) ≡ times_end (times_record body) - 1 = omega (arith, length-drop 1 body, f.long, same_end) in
      take_at (drop 1 body) (replicate (record_len - length (times_set ∷ drop 1 body)) 0) (times_end (times_record body) - 1) n

  whole : plan_in body ∷ drop 1 body ≡ body
  whole = sym (drop-next body 0 (omega (arith, f.long)))

  some : standing_of (times_record body) ≡ empty → ⊥
  some z = absurd (omega (arith, times-to (times_record body) (times-holds body f).stands))

  reported : report_times_of (times_record body) (plan_in body) ≡ part_of (number_of 0x5FC4) (k_of body) body
  reported =
      times-part (times_record body) (plan_in body) f.plan.most some
      ∙ ap (λ (b : List ℕ). part_of (number_of 0x5FC4) (k_of b) b) (ap (λ (l : List ℕ). plan_in body ∷ l) front-again ∙ whole)

same-values : (k : ℕ) (body : List ℕ) → Reports (part_of (number_of 0x5FC4) k body) report_times_code (part_of (number_of 0x5F14) k body)
unfolding number_of first_of part_of rows_at layout_rows layout_at layouts
same-values k body = record { code = refl; fields = refl; values = refl }

pub times-reported : TimesReported
times-reported book info hb hc f =
    let os = body_in info in
    rw ((times-stored book info hb hc f).here, reported os f, ranges-as set-times info hc (fit-read os f)) (same-values (k_of os) os)

-- 5F C5 and 5F C8

module _ (old body : List ℕ) (f : Fit15 old body) where
  abbrev m : List ℕ
  m = ready_record old body

  abbrev holds : Holds15 old body m
  holds = m-holds old body f.set f.ranges f.count.stored f

  same-k : k_of m ≡ count_in body
  same-k = holds.count ∙ sym f.count.stored

  rest-again : between (greens_at m) (ready_end m) m ≡ drop 4 body
  rest-again = ext_get_or 0 (between (greens_at m) (ready_end m) m) (drop 4 body) (long ∙ sym rest-long) (λ j l. at j (omega (arith, long)))
    where
      rest-long : length (drop 4 body) ≡ ready_end m - greens_at m
      rest-long = omega (arith, length-drop 4 body, f.ranges.long, same-k)

      long : length (between (greens_at m) (ready_end m) m) ≡ ready_end m - greens_at m
      long = part-long (greens_at m) (ready_end m) m (omega arith) (omega (arith, holds.stands.long, holds.stands.times.count.most))

      at : (j : ℕ) → j < ready_end m - greens_at m → octet_at (between (greens_at m) (ready_end m) m) j ≡ octet_at (drop 4 body) j
      at j l =
          let e : greens_at m + j ≡ times_end old + (2 + j) = omega (arith, holds.count) in
          part_at (greens_at m) (ready_end m) m j l
          ∙ (ap (octet_at m) e ∙ (ready-rest old body (has-ends old f.set) (omega (arith, f.ranges.long)) j ∙ sym (get_or-drop 4 body j 0)))

  whole_again : plan_in body ∷ direct_of m ∷ order_of m ∷ k_of m ∷ between (greens_at m) (ready_end m) m ≡ body
  whole_again =
      let l : 4 ≤ length body = omega (arith, f.ranges.long) in
      rw (rest-again, holds.direct, holds.order, same-k)
      (sym (drop-next body 0 (omega arith) ∙ rw (drop-next body 1 (omega arith), drop-next body 2 (omega arith), drop-next body 3 (omega arith))))

  is-ready : standing_of m ≡ ready
  is-ready = ready-to m (omega (arith, holds.order, f.ranges.order.0)) holds.stands

  told : {code : ℕ} → PlanReport code → report_plan_of m (plan_in body) code ≡ part_of (number_of code) (count_in body) body
  told {code} t =
      plan-part m (plan_in body) f.ranges.plan.most (λ z. absurd (omega (arith, is-ready))) is-ready t
      ∙ ap (λ (b : List ℕ). part_of (number_of code) (count_in b) b) whole_again

  same-as-sent : (code : ℕ) → (code ≡ report_plan_code) ⊎ (code ≡ report_running_code)
      → Reports (report_plan_of m (plan_in body) code) code (part_of (number_of 0x5F15) (count_in body) body)
  unfolding number_of first_of part_of rows_at layout_rows layout_at layouts
  same-as-sent code (inl e) = rw (told (plan-report (inl e)), e) (record { code = refl; fields = refl; values = refl })
  same-as-sent code (inr e) = rw (told (plan-report (inr e)), e) (record { code = refl; fields = refl; values = refl })

pub plan-reported : PlanReported
plan-reported book info code hb ob hc f w =
    let os = body_in info in
    rw ((plan-stored book info hb ob hc f).here, ranges-as set-plan info hc ((in-ranges os).1 f.ranges)) (same-as-sent (record_at book (plan_in os)) os f code w)
