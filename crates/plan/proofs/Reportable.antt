-- Every report of a plan is a message: the reader reads its octets, nothing refused, and so the writer writes it.
use Prim.Native.Nat.{ℕ, zero, suc, ◌+◌, ◌*◌, ◌≤◌, ◌<◌}
use mathlib.Core.Path.{◌≡◌, refl, sym, ap, ◌∙◌}
use mathlib.Core.Bool.{true, false}
use mathlib.Core.Logic.{◌⊎◌}
use mathlib.Core.List.{List, [], ◌∷◌, ◌++◌}
use native.Mathlib.Decide.{ℕ_discrete}
use native.Mathlib.Omega.{arith}
use borrow.Author.Tests.{ne_eqb}
use lib.ListN.{length, drop_of_length-le}
use lib.Seq.{take-nil}
use Rattle.octets.specs.First.{first_of}
use Rattle.octets.specs.Refusal as refusal
use Rattle.octets.proofs.Laws.{word_back}
use Rattle.message.specs.declared.layout.Field.{Field}
use Rattle.message.specs.Layouts.{layouts, layout_at, number_of, rows_at, layout_rows, repeated, times, greens, cycle_offset}
use Rattle.message.specs.Reader.{Read, no_message, read_as, part_of, read_of}
use Rattle.message.specs.Values.{size_of, zeros}
use Rattle.message.specs.Writer.{writable}
use Rattle.message.proofs.Accepted.{accepted-in, is-part, again, read_part}
use Rattle.message.proofs.WrittenSo.{in-writable}
use Rattle.message.proofs.Numbers.{stored-parts}
use Rattle.record.specs.Record.{book_len, plans_most, empty, ready, octet_at, k_of, times_end, greens_at, ready_end, direct_of, order_of}
use Rattle.checks.specs.Standing.{head_len, between, standing_of}
use Rattle.plan.specs.Reading.{record_start, record_at}
use Rattle.plan.specs.Reporting.{report_plan_code, report_running_code, times_info, plan_info, report_times_of, reports_plan, report_plan_of}
use Rattle.plan.specs.Promises.{NoReport, ReportsRead}
use Rattle.checks.proofs.Laws.{stands-long}
use Rattle.checks.proofs.Fields.{ranged-same}
use Rattle.checks.proofs.Stands.{part-long, part_at, fit-ranged, plan-places, some-long, some_fit, ready-plan}
use Rattle.plan.proofs.Ranges.{InRanges, PlanReport, report-times, plan-report, ranges-as}
use Rattle.plan.proofs.Reports.{times_none, times-told, plan-none, plan-other, plan-told}

-- The octets after the code

module _ (rec : List ℕ) (p : ℕ) where
  abbrev k : ℕ
  k = k_of rec

  -- 5F C4: the record's, but for the plan, which stands where a record has its state
  abbrev pub times_body : List ℕ
  times_body = p ∷ between 1 (times_end rec) rec

  pub times-at : (j : ℕ) → 1 ≤ j → j < times_end rec → octet_at times_body j ≡ octet_at rec j
  times-at zero h l = absurd (omega arith)
  times-at (suc j) h l =
      let e : 1 + j ≡ suc j = omega arith in
      part_at 1 (times_end rec) rec j (omega arith) ∙ ap (octet_at rec) e

  -- 5F C5 and 5F C8: plan, direct, order and count, and then the record's from its greens on
  abbrev pub plan_body : List ℕ
  plan_body = p ∷ direct_of rec ∷ order_of rec ∷ k ∷ between (greens_at rec) (ready_end rec) rec

  pub plan-at : (j : ℕ) → j < 4 + 2 * k → octet_at plan_body (4 + j) ≡ octet_at rec (greens_at rec + j)
  plan-at j l =
      let e : 4 + j ≡ suc (suc (suc (suc j))) = omega arith in
      rw e (part_at (greens_at rec) (ready_end rec) rec j (omega arith))

-- They are in their ranges

pub some-ends : (rec : List ℕ) → (standing_of rec ≡ empty → ⊥) → ready_end rec ≤ length rec
some-ends rec n = omega (arith, some-long rec n, (some_fit rec n).count.most)

module _ (rec : List ℕ) (p : ℕ) (hp : p ≤ plans_most) (n : standing_of rec ≡ empty → ⊥) where
  pub times-body : InRanges 0x5FC4 1 2 7 (times_body rec p)
  unfolding number_of first_of rows_at layout_rows layout_at layouts
  times-body =
      let fs : List Field = repeated (k_of rec) times ++ [] in
      let e = times-at rec p 1 (omega arith) (omega arith) in
      let s : size_of fs ≡ 7 * k_of rec = (stored-parts (k_of rec)).times_size in
      let g = ranged-same fs rec (times_body rec p) head_len head_len (λ j l. sym (times-at rec p (head_len + j) (omega arith) (omega arith))) (fit-ranged rec (some_fit rec n)) in
      record {
        long = rw e (omega (arith, part-long 1 (times_end rec) rec (omega arith) (omega (arith, some-ends rec n))));
        count = rw e (some_fit rec n).count;
        ranges = rw e (record { least = omega arith; most = hp }, ((some_fit rec n).count, g));
      }

  times-as : read_of (times_info rec p) ≡ read_as (part_of (number_of 0x5FC4) (octet_at (times_body rec p) 1) (times_body rec p))
  unfolding times_info
  times-as = ranges-as report-times (times_info rec p) refl times-body

  pub times-read : ((read_of (times_info rec p)).refusal ≡ refusal.none) × (report_times_of rec p ≡ (read_of (times_info rec p)).message)
  times-read = (ap (λ (r : Read). r.refusal) times-as, times-told rec p n)

  pub times-part : report_times_of rec p ≡ part_of (number_of 0x5FC4) (octet_at (times_body rec p) 1) (times_body rec p)
  times-part = times-read.1 ∙ ap (λ (r : Read). r.message) times-as

  module _ (h : standing_of rec ≡ ready) {code : ℕ} (t : PlanReport code) where
    pub plan-body : InRanges code 3 8 2 (plan_body rec p)
    plan-body =
        let q = plan-places rec (ready-plan rec h) in
        let fs : List Field = repeated (k_of rec) greens ++ cycle_offset in
        let s : size_of fs ≡ 4 + 2 * k_of rec = omega (arith, ap size_of (t.rows (k_of rec)), (t.numbers (k_of rec)).size) in
        let g = ranged-same fs rec (plan_body rec p) (greens_at rec) 4 (λ j l. sym (plan-at rec p j (omega arith))) q.2 in
        record {
          long = omega (arith, part-long (greens_at rec) (ready_end rec) rec (omega arith) (some-ends rec n));
          count = (some_fit rec n).count;
          ranges = rw (t.rows (k_of rec)) (record { least = omega arith; most = hp }, (q.0, (q.1, ((some_fit rec n).count, g))));
        }

    plan-as : read_of (plan_info rec p code) ≡ read_as (part_of (number_of code) (k_of rec) (plan_body rec p))
    unfolding plan_info
    plan-as = ranges-as t.counted (plan_info rec p code) (word_back code) plan-body

    pub plan-read : ((read_of (plan_info rec p code)).refusal ≡ refusal.none) × (report_plan_of rec p code ≡ (read_of (plan_info rec p code)).message)
    plan-read = (ap (λ (r : Read). r.refusal) plan-as, plan-told rec p code h t.reports)

    pub plan-part : report_plan_of rec p code ≡ part_of (number_of code) (k_of rec) (plan_body rec p)
    plan-part = plan-read.1 ∙ ap (λ (r : Read). r.message) plan-as

pub no-report : NoReport no_message
unfolding no_message zeros
no-report = refl

pub reports-read : ReportsRead
reports-read rec p hp =
    record {
      times = times-read rec p hp;
      plan = λ code h w. plan-read rec p hp (λ z. absurd (omega arith)) h (plan-report w);
      no_times = λ z. times_none rec p z ∙ no-report;
      no_plan = λ code n. plan-none rec p code n ∙ no-report;
      other_code = λ code a b. none code (rw (ne_eqb code report_plan_code a, ne_eqb code report_running_code b)) (ℕ_discrete (standing_of rec) ready);
    }
  where
    none : (code : ℕ) → reports_plan code ≡ false → Dec (standing_of rec ≡ ready) → NoReport (report_plan_of rec p code)
    none code t (yes h) = plan-other rec p code h t ∙ no-report
    none code t (no n) = plan-none rec p code n ∙ no-report

-- What was read is written

read-writable : (info : List ℕ) → (read_of info).refusal ≡ refusal.none → writable (read_of info).message ≡ true
read-writable info e = let h = accepted-in info e in rw (is-part info h) (in-writable (read_part info h) (again info h))

pub report-times-writable : (rec : List ℕ) (p : ℕ) → p ≤ plans_most → (standing_of rec ≡ empty → ⊥) → writable (report_times_of rec p) ≡ true
report-times-writable rec p hp n = let r = (reports-read rec p hp).times n in rw r.1 (read-writable (times_info rec p) r.0)

pub report-plan-writable : (rec : List ℕ) (p code : ℕ) → p ≤ plans_most → standing_of rec ≡ ready → (code ≡ report_plan_code) ⊎ (code ≡ report_running_code)
    → writable (report_plan_of rec p code) ≡ true
report-plan-writable rec p code hp h w = let r = (reports-read rec p hp).plan code h w in rw r.1 (read-writable (plan_info rec p code) r.0)

-- What is empty

pub standing-none : standing_of [] ≡ empty
standing-none = sym (stands-long [] (λ z. absurd (omega arith)))

-- past the last plan the book has nothing
pub standing-past : (book : List ℕ) (p : ℕ) → length book ≡ book_len → plans_most < p → standing_of (record_at book p) ≡ empty
standing-past book p hb l =
    let h : length book ≤ record_start p = omega arith in
    rw (drop_of_length-le book h, take-nil) standing-none
