-- A message with a count is read exactly when it is as long as the count says and each of its fields is in its range.
use Prim.Native.Nat.{ℕ, ◌+◌, ◌*◌, ◌-◌, ◌%◌, ◌≤◌, ◌<◌}
use mathlib.Core.Path.{◌≡◌, refl, sym, ap, ◌∙◌}
use mathlib.Core.Bool.{true}
use mathlib.Core.Logic.{◌↔◌, ◌⊎◌, inl, inr}
use mathlib.Core.List.{List, ◌∷◌, ◌++◌}
use native.Mathlib.Nat.{zero-add}
use native.Mathlib.Decide.{dec_lt}
use native.Mathlib.Omega.{arith}
use lib.ListN.{length, get_or, get_or-eq_default}
use Rattle.octets.specs.First.{first_of}
use Rattle.octets.specs.Part.{code_len}
use Rattle.octets.specs.Refusal as refusal
use Rattle.message.specs.declared.layout.Field.{Field}
use Rattle.message.specs.Fields as field
use Rattle.message.specs.Layouts.{layouts, layout_at, number_of, rows_at, layout_rows, repeated, greens, cycle_offset}
use Rattle.message.specs.Values.{size_of}
use Rattle.message.specs.Reader.{read_as, part_of, code_in, body_in, read_part_of, read_of}
use Rattle.message.specs.Writer.{k_of_message}
use Rattle.message.specs.Counts.{CountAt}
use Rattle.message.specs.Promises.{FieldStands, PlanFields, fields_of, value_there, HasLayout}
use Rattle.message.proofs.Accepted.{accepted-in, is-part, rows_is}
use Rattle.message.proofs.Counts.{counts-as-said}
use Rattle.message.proofs.Numbers.{field-numbers}
use Rattle.message.proofs.Places.{values-stand}
use Rattle.message.proofs.Reading.{read-body}
use Rattle.record.specs.Record.{octet_at}
use Rattle.plan.specs.Reporting.{report_plan_code, report_running_code, reports_plan}
use Rattle.checks.proofs.Fields.{StandIn, Reads, reads_as, part-reads}

-- the count of a code stands at this place, and so many octets come once and k times
pub record Counted (c place once each : ℕ) : Type 0 where
  pub known : HasLayout (number_of c)
  pub low : c % 256 ≡ 0 → ⊥
  pub count : CountAt c place
  pub size : (k : ℕ) → size_of (fields_of c k) ≡ once + each * k

counted-by : {c place once each : ℕ} → 1 ≤ number_of c → number_of c < length layouts → (c % 256 ≡ 0 → ⊥) → CountAt c place
    → ((k : ℕ) → size_of (fields_of c k) ≡ once + each * k) → Counted c place once each
counted-by a b n ct es = record { known = record { first = a; last = b }; low = n; count = ct; size = es }

pub set-times : Counted 0x5F14 1 2 7
unfolding number_of first_of layout_at layouts
set-times = counted-by (omega arith) (omega arith) (λ z. omega arith) counts-as-said.set_times (λ k. (field-numbers.set_times k).size)

pub report-times : Counted 0x5FC4 1 2 7
unfolding number_of first_of layout_at layouts
report-times = counted-by (omega arith) (omega arith) (λ z. omega arith) counts-as-said.report_times (λ k. (field-numbers.report_times k).size)

pub set-plan : Counted 0x5F15 3 8 2
unfolding number_of first_of layout_at layouts
set-plan = counted-by (omega arith) (omega arith) (λ z. omega arith) counts-as-said.set_plan (λ k. (field-numbers.set_plan k).size)

-- 5F C5 and 5F C8, which have the same fields
pub record PlanReport (code : ℕ) : Type 0 where
  pub counted : Counted code 3 8 2
  pub rows : (k : ℕ) → fields_of code k ≡ field.plan ∷ field.direct ∷ field.order ∷ field.count ∷ (repeated k greens ++ cycle_offset)
  pub numbers : (k : ℕ) → PlanFields 0 k (fields_of code k)
  pub reports : reports_plan code ≡ true

pub plan-report : {code : ℕ} → (code ≡ report_plan_code) ⊎ (code ≡ report_running_code) → PlanReport code
unfolding number_of first_of rows_at layout_rows layout_at layouts
plan-report (inl e) =
    let t = counted-by (omega arith) (omega arith) (λ z. omega arith) counts-as-said.report_plan (λ k. (field-numbers.report_plan k).size) in
    rw e (record { counted = t; rows = λ k. refl; numbers = field-numbers.report_plan; reports = refl })
plan-report (inr e) =
    let t = counted-by (omega arith) (omega arith) (λ z. omega arith) counts-as-said.report_running (λ k. (field-numbers.report_running k).size) in
    rw e (record { counted = t; rows = λ k. refl; numbers = field-numbers.report_running; reports = refl })

-- the octets after the code: as many as the count says, and each field in its range
abbrev pub InRanges : ℕ → ℕ → ℕ → ℕ → List ℕ → Type 0
InRanges c place once each body = Reads (number_of c) (octet_at body place) (once + each * octet_at body place) body body 0

-- a code whose second octet is not 0 has two
long-enough : (info : List ℕ) (c : ℕ) → code_in info ≡ c → (c % 256 ≡ 0 → ⊥) → code_len ≤ length info
long-enough info c e n = by (dec_lt (length info) code_len)
  where
    by : Dec (length info < code_len) → code_len ≤ length info
    by (yes l) = absurd (n (omega (arith, get_or-eq_default info 0 {n = 1} (omega arith))))
    by (no g) = omega arith

module _ {c place once each : ℕ} (t : Counted c place once each) (info : List ℕ) (hc : code_in info ≡ c) where
  abbrev os : List ℕ
  os = body_in info

  abbrev k : ℕ
  k = octet_at os place

  pub of_part : read_part_of (number_of c) k os ≡ read_of info
  of_part = read-body info (long-enough info c hc t.low) (ap number_of (sym hc)) refl (sym (t.count.octets os))

  stand-in : StandIn os os 0 (once + each * k)
  stand-in j l = ap (octet_at os) (sym (zero-add j))

  pub read-ranges : ((read_of info).refusal ≡ refusal.none) ↔ InRanges c place once each os
  read-ranges = rw (← of_part) (part-reads t.known t.count.fewest t.count.most (t.size k) stand-in)

  pub ranges-as : InRanges c place once each os → read_of info ≡ read_as (part_of (number_of c) k os)
  ranges-as r = sym of_part ∙ reads_as t.known t.count.fewest t.count.most (t.size k) stand-in r

  -- what is read of a field is what stands at its place
  module _ (e : (read_of info).refusal ≡ refusal.none) where
    read-fields : fields_of (read_of info).message.code (k_of_message (read_of info).message) ≡ fields_of c k
    read-fields = let h = accepted-in info e in rw (is-part info h) (rows_is info h ∙ rw (hc, t.count.octets os))

    pub read-value : {n s : ℕ} {f : Field} → FieldStands (fields_of c k) n f s → get_or (read_of info).message.values (n - 1) 0 ≡ value_there f os s
    read-value {n} {s} {f} w =
        let q : n - 1 ≡ w.place = omega (arith, w.number) in
        rw q ((values-stand info e).values w.place s f (rw read-fields (rw w.number at w)))

    pub read-many : (read_of info).message.fields ≡ length (fields_of c k)
    read-many = (values-stand info e).fields ∙ ap length read-fields
