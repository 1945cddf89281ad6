-- A report holds the fields of its record: its octets are the record's own from one place up to another, and the values that the reader
-- finds are those of the octets at the fields' places.
use Prim.Native.Nat.{ℕ, suc, ◌+◌, ◌*◌, ◌-◌, ◌≤◌, ◌<◌}
use mathlib.Core.Path.{◌≡◌, refl, ◌∙◌}
use mathlib.Core.Logic.{inl, inr}
use mathlib.Core.List.{List}
use native.Mathlib.Omega.{arith}
use lib.ListN.{length}
use lib.Seq.{get_or-drop}
use Rattle.octets.specs.Refusal as refusal
use Rattle.octets.proofs.Laws.{word_back}
use Rattle.message.specs.declared.Message.{Message}
use Rattle.message.specs.declared.layout.Field.{Field}
use Rattle.message.specs.Reader.{code_in, body_in, read_of}
use Rattle.message.specs.Promises.{FieldStands, PhaseFields, fields_of, value_there}
use Rattle.message.proofs.Numbers.{field-numbers}
use Rattle.message.proofs.Places.{values-stand}
use Rattle.record.specs.Record.{empty, ready, octet_at, word_at, k_of, times_at, times_end, greens_at, ready_end}
use Rattle.checks.specs.Standing.{standing_of}
use Rattle.checks.proofs.Stands.{part-long, some_fit, stands-as-it-is}
use Rattle.plan.specs.Reporting.{times_info, plan_info}
use Rattle.plan.specs.Reported.{two_at, value_at, PhaseInInfo, PhaseInMessage, TimesInInfo, TimesInMessage, TimesReportedByFields, PlanInInfo, PlanInMessage, PlanReportedByFields}
use Rattle.plan.proofs.Ranges.{Counted, PlanReport, report-times, plan-report, read-value, read-many}
use Rattle.plan.proofs.Readying.{has-stands}
use Rattle.plan.proofs.Reportable.{some-ends, times-at, plan-at, times-read, plan-read}

-- a field's value is that of its octets
module _ {c place once each : ℕ} (t : Counted c place once each) (info : List ℕ) (hc : code_in info ≡ c) (e : (read_of info).refusal ≡ refusal.none) where
  abbrev m : Message
  m = (read_of info).message

  abbrev fs : List Field
  fs = fields_of c (octet_at (body_in info) place)

  one : {n s : ℕ} {f : Field} → FieldStands fs n f s → value_there f (body_in info) s ≡ octet_at (body_in info) s
      → {i at : ℕ} → n ≡ i → 2 + s ≡ at → value_at m i ≡ octet_at info at
  one {s = s} w v en ea = rw (← en, ← ea) (read-value t info hc e w ∙ (v ∙ get_or-drop 2 info s 0))

  two : {n s : ℕ} {f : Field} → FieldStands fs n f s → value_there f (body_in info) s ≡ word_at (body_in info) s
      → {i at : ℕ} → n ≡ i → 2 + s ≡ at → value_at m i ≡ two_at info at
  two {s = s} w v en ea =
      let q : 2 + (s + 1) ≡ 2 + s + 1 = omega arith in
      rw (← en, ← ea) (read-value t info hc e w ∙ (v ∙ rw (get_or-drop 2 info s 0, get_or-drop 2 info (s + 1) 0, q)))

  past : (n : ℕ) → length fs < n → value_at m n ≡ 0
  past n l = (values-stand info e).past (n - 1) (omega (arith, read-many t info hc e))

-- 5F C4
module _ (rec : List ℕ) (p : ℕ) where
  abbrev k : ℕ
  k = k_of rec

  abbrev info : List ℕ
  info = times_info rec p

  info-at : (n j : ℕ) → n ≡ 2 + j → 1 ≤ j → j < times_end rec → octet_at info n ≡ octet_at rec j
  unfolding times_info
  info-at n j e h l = let e' : n ≡ suc (suc j) = omega arith in rw e' (times-at rec p j h l)

  phase-in-info : (i : ℕ) → i < k → PhaseInInfo rec info i
  phase-in-info i l =
      record {
        minimum = info-at (4 + 7 * i) (times_at i) (omega arith) (omega arith) (omega arith);
        maximum =
            let low = info-at (5 + 7 * i + 1) (times_at i + 1 + 1) (omega arith) (omega arith) (omega arith) in
            rw (info-at (5 + 7 * i) (times_at i + 1) (omega arith) (omega arith) (omega arith), low);
        yellow = info-at (7 + 7 * i) (times_at i + 3) (omega arith) (omega arith) (omega arith);
        all_red = info-at (8 + 7 * i) (times_at i + 4) (omega arith) (omega arith) (omega arith);
        walk_flash = info-at (9 + 7 * i) (times_at i + 5) (omega arith) (omega arith) (omega arith);
        red_man = info-at (10 + 7 * i) (times_at i + 6) (omega arith) (omega arith) (omega arith);
      }

  times-in-info : times_end rec ≤ length rec → 1 ≤ k → TimesInInfo rec p info
  unfolding times_info
  times-in-info h k1 =
      record {
        long = omega (arith, part-long 1 (times_end rec) rec (omega arith) h);
        code = (refl, refl);
        plan = refl;
        count = info-at 3 1 (omega arith) (omega arith) (omega arith);
        phase = phase-in-info;
      }

  module _ (e : (read_of info).refusal ≡ refusal.none) (q : TimesInInfo rec p info) (hc : code_in info ≡ 0x5FC4) where
    phase-in-message : (i : ℕ) → PhaseFields (fields_of 0x5FC4 (octet_at (body_in info) 1)) (3 + 6 * i) (2 + 7 * i) → PhaseInInfo rec info i
        → PhaseInMessage rec (read_of info).message i
    phase-in-message i w q =
        record {
          minimum = one report-times info hc e w.minimum refl refl (omega arith) ∙ q.minimum;
          maximum = two report-times info hc e w.maximum refl (omega arith) (omega arith) ∙ q.maximum;
          yellow = one report-times info hc e w.yellow refl (omega arith) (omega arith) ∙ q.yellow;
          all_red = one report-times info hc e w.all_red refl (omega arith) (omega arith) ∙ q.all_red;
          walk_flash = one report-times info hc e w.walk_flash refl (omega arith) (omega arith) ∙ q.walk_flash;
          red_man = one report-times info hc e w.red_man refl (omega arith) (omega arith) ∙ q.red_man;
        }

    times-in-message : TimesInMessage rec p (read_of info).message
    times-in-message =
        let w = field-numbers.report_times (octet_at (body_in info) 1) in
        let ek : octet_at (body_in info) 1 ≡ k = get_or-drop 2 info 1 0 ∙ q.count in
        record {
          code = (values-stand info e).code ∙ hc;
          many = omega (arith, read-many report-times info hc e, w.many, ek);
          plan = one report-times info hc e w.planned refl refl refl ∙ q.plan;
          count = one report-times info hc e w.count refl refl refl ∙ q.count;
          phase = λ i l. phase-in-message i (w.phase i (omega (arith, ek))) (q.phase i l);
          rest = λ n l. past report-times info hc e n (omega (arith, w.many, ek));
        }

-- 5F C5 and 5F C8
module _ (rec : List ℕ) (p : ℕ) {code : ℕ} (t : PlanReport code) where
  abbrev plan : List ℕ
  plan = plan_info rec p code

  plan-word : (n j at : ℕ) → n ≡ 6 + j → j < 3 + 2 * k_of rec → greens_at rec + j ≡ at → two_at plan n ≡ word_at rec at
  unfolding plan_info
  plan-word n j at e l ea =
      let a : n ≡ suc (suc (4 + j)) = omega arith in
      let b : n + 1 ≡ suc (suc (4 + (j + 1))) = omega arith in
      let c : greens_at rec + (j + 1) ≡ greens_at rec + j + 1 = omega arith in
      rw (b, a, ← ea, plan-at rec p j (omega arith), plan-at rec p (j + 1) (omega arith), c)

  plan-in-info : (low : ℕ) → ready_end rec ≤ length rec → code ≡ 0x5F00 + low → low < 256 → PlanInInfo rec p low plan
  unfolding plan_info
  plan-in-info low h e l =
      record {
        long = omega (arith, part-long (greens_at rec) (ready_end rec) rec (omega arith) h);
        code = (omega arith, omega arith);
        plan = refl;
        direct = refl;
        order = refl;
        count = refl;
        green = λ i l. plan-word (6 + 2 * i) (2 * i) (greens_at rec + 2 * i) refl (omega arith) refl;
        cycle = plan-word (6 + 2 * k_of rec) (2 * k_of rec) (greens_at rec + 2 * k_of rec) refl (omega arith) refl;
        offset = plan-word (8 + 2 * k_of rec) (2 * k_of rec + 2) (greens_at rec + 2 * k_of rec + 2) (omega arith) (omega arith) (omega arith);
      }

  plan-in-message : {low : ℕ} → (read_of plan).refusal ≡ refusal.none → PlanInInfo rec p low plan → PlanInMessage rec p code (read_of plan).message
  unfolding plan_info
  plan-in-message e q =
      let w = t.numbers (k_of rec) in
      let hc = word_back code in
      let c = t.counted in
      record {
        code = (values-stand plan e).code ∙ hc;
        many = read-many c plan hc e ∙ w.many;
        plan = one c plan hc e w.planned refl refl refl ∙ q.plan;
        direct = one c plan hc e w.direct refl refl refl ∙ q.direct;
        order = one c plan hc e w.order refl refl refl ∙ q.order;
        count = one c plan hc e w.count refl refl refl ∙ q.count;
        green = λ i h. two c plan hc e (w.greens.green i h) refl {at = 6 + 2 * i} refl (omega arith) ∙ q.green i h;
        cycle = two c plan hc e w.greens.cycle refl {at = 6 + 2 * k_of rec} refl (omega arith) ∙ q.cycle;
        offset = two c plan hc e w.greens.offset refl {at = 8 + 2 * k_of rec} (omega arith) (omega arith) ∙ q.offset;
        rest = λ n h. past c plan hc e n (omega (arith, w.many));
      }

pub times-reported-by-fields : TimesReportedByFields
unfolding times_info
times-reported-by-fields rec p o h hp =
    let n = has-stands rec o h in
    let q = times-in-info rec p (omega (arith, some-ends rec n)) (some_fit rec n).count.least in
    let r = times-read rec p hp n in
    record { octets = q; fields = rw r.1 (times-in-message rec p r.0 q refl) }

pub plan-reported-by-fields : PlanReportedByFields
plan-reported-by-fields rec p o h hp =
    let s : standing_of rec ≡ ready = (stands-as-it-is rec o).ready_to h in
    let n : standing_of rec ≡ empty → ⊥ = λ z. absurd (omega arith) in
    let a = plan-report (inl refl) in
    let b = plan-report (inr refl) in
    let q = plan-in-info rec p a 0xC5 (some-ends rec n) refl (omega arith) in
    let r = plan-in-info rec p b 0xC8 (some-ends rec n) refl (omega arith) in
    let f = plan-read rec p hp n s a in
    let g = plan-read rec p hp n s b in
    record {
      octets = q;
      fields = rw f.1 (plan-in-message rec p a f.0 q);
      running_octets = r;
      running_fields = rw g.1 (plan-in-message rec p b g.0 r);
    }
