-- A 5F 14 is stored exactly when its checks pass.
use Prim.Native.Nat.{ℕ, ◌+◌, ◌*◌, ◌-◌, ◌/◌, ◌%◌, ◌≤◌, ◌<◌}
use mathlib.Core.Path.{◌≡◌, refl, sym, ap, subst, ◌∙◌}
use mathlib.Core.List.{List, ◌∷◌, ◌++◌, append_assoc}
use native.Mathlib.Decide.{dec_lt, ℕ_discrete}
use native.Mathlib.Omega.{arith}
use borrow.Author.Tests.{ltb-true, leb-true}
use lib.ListN.{length, take, drop, replicate, length-drop, length-append, take-append-drop}
use lib.Seq.{sets, sets-eq, length-sets, drop-drop, drop_at, take_at, drop-append-le, take-append-le, drop-append-add, length-take-le}
use Rattle.octets.specs.First.{First, first_of}
use Rattle.octets.specs.Refusal as refusal
use Rattle.message.specs.Layouts.{layouts, layout_at, number_of, rows_at, layout_rows, times}
use Rattle.message.specs.Names.{plan_at}
use Rattle.message.specs.Reader.{code_in, body_in, read_of}
use Rattle.plan.specs.Setting.{NewRecord, plan_in, Setting, answered, made, not_made, times_record, times_field, times_made, kept_as, set_front, set_of, set_times_code, set_times_of}
use Rattle.record.specs.Record.{record_len, book_len, plans_most, times_set, octet_at, k_of, times_at, times_end, minimum_of, maximum_of, walk_flash_of, red_man_of, TimesFit}
use Rattle.checks.specs.Standing.{times_fail, times_checks, times_disagree}
use Rattle.plan.specs.BuiltIn.{padded}
use Rattle.plan.specs.Reading.{record_start, record_at}
use Rattle.plan.specs.Promises.{Fit14, PhaseAgrees, Disagrees14, maximum, red_man, RecordStored, SameTimes, Holds14, TimesStoredExactlyWhen}
use Rattle.checks.proofs.Fields.{ranged-same, phase-in, phase-out}
use Rattle.checks.proofs.Stands.{times-first, check-maximum, check-redman, ordered-by, walk-by, agree-times, ranged-fit, fit-ranged}
use Rattle.plan.proofs.Ranges.{InRanges, set-times, read-ranges}
use Rattle.plan.proofs.Sets.{front_read, same_code, read-times, padded-at, padded-long, padded-rest, times-at, field-maximum, field-redman, times-not, times-is, set_is, set-goes}

-- A record in the book

module _ (book : List ℕ) (p : ℕ) (rec : List ℕ) (hb : length book ≡ book_len) (hp : 1 ≤ p) (hm : p ≤ plans_most) (hr : length rec ≡ record_len) where
  abbrev before : List ℕ
  before = take (record_start p) book

  abbrev rest : List ℕ
  rest = drop (record_start p + record_len) book

  before-long : length before ≡ record_start p
  before-long = length-take-le (record_start p) book (omega arith)

  split : sets book (record_start p) rec ≡ before ++ rec ++ rest
  split = sets-eq rec book (record_start p) (omega arith) ∙ ap (λ (n : ℕ). before ++ rec ++ drop (record_start p + n) book) hr

  here : record_at (sets book (record_start p) rec) p ≡ rec
  here = rw (split, append_assoc before rec rest, drop_at before (rec ++ rest) (record_start p) before-long) (take_at rec rest record_len hr)

  module _ (q : ℕ) (hq : 1 ≤ q) where
    lower : q < p → record_at (sets book (record_start p) rec) q ≡ record_at book q
    lower l =
        let n : record_start q ≤ length before = omega (arith, before-long) in
        let m : record_len ≤ length (drop (record_start q) before) = simp length-drop (omega (arith, before-long)) in
        rw (split, append_assoc before rec rest, drop-append-le (record_start q) before (rec ++ rest) n, take-append-le record_len (drop (record_start q) before) (rec ++ rest) m)
        (sym
        (ap (λ (l : List ℕ). record_at l q) (sym (take-append-drop (record_start p) book))
        ∙ rw (drop-append-le (record_start q) before (drop (record_start p) book) n, take-append-le record_len (drop (record_start q) before) (drop (record_start p) book) m)))

    higher : p < q → record_at (sets book (record_start p) rec) q ≡ record_at book q
    higher l =
        let a : ℕ = record_start q - (record_start p + record_len) in
        let n : record_start q ≡ length (before ++ rec) + a = omega (arith, length-append before rec, before-long) in
        let m : record_start p + record_len + a ≡ record_start q = omega arith in
        rw (split, n, drop-append-add (before ++ rec) rest a, ← n, drop-drop a (record_start p + record_len) book, m)

  pub stored_here : RecordStored book p rec (sets book (record_start p) rec)
  stored_here =
      record { long = length-sets book (record_start p) rec ∙ hb; here = here; others = λ q hq l n. by q hq n (dec_lt q p) }
    where
      by : (q : ℕ) → 1 ≤ q → (q ≡ p → ⊥) → Dec (q < p) → record_at (sets book (record_start p) rec) q ≡ record_at book q
      by q hq n (yes l) = lower q hq l
      by q hq n (no g) = higher q hq (omega arith)

-- What comes of a set

-- what its message makes, way by way: its plan has not what it needs, a check fails and is named, or all pass
pub data Makes (rec : List ℕ) (Fit Has : Type 0) (Fails : ℕ → Type 0) : NewRecord → Type 0 where
  unset : (Has → ⊥) → Makes rec Fit Has Fails (not_made refusal.not_ready plan_at)
  refused : (f : ℕ) → Has → Fails f → Makes rec Fit Has Fails (not_made refusal.disagree f)
  fits : Has → Fit → Makes rec Fit Has Fails (made rec)

-- what the set says then, where the book and the code are right
pub record Judged (book info : List ℕ) (Fit Has : Type 0) (Fails : ℕ → Type 0) (w : Setting) : Type 0 where
  pub only : w.answer.refusal ≡ refusal.none → Fit
  pub kept : (w.answer.refusal ≡ refusal.none → ⊥) → w.book ≡ book
  pub unread : ((read_of info).refusal ≡ refusal.none → ⊥) → (w.answer.refusal ≡ (read_of info).refusal) × (w.answer.field ≡ (read_of info).field)
  pub unset : (read_of info).refusal ≡ refusal.none → (Has → ⊥) → (w.answer.refusal ≡ refusal.not_ready) × (w.answer.field ≡ plan_at)
  pub named : (read_of info).refusal ≡ refusal.none → Has → (w.answer.refusal ≡ refusal.none → ⊥)
      → (w.answer.refusal ≡ refusal.disagree) × Fails w.answer.field

module _ (code : ℕ) (m : NewRecord) (book info : List ℕ) (hb : length book ≡ book_len) (hc : code_in info ≡ code) where
  abbrev p : ℕ
  p = plan_in (body_in info)

  front : answered (read_of info).refusal (read_of info).field ≡ set_front (length book) code info
  front = front_read (length book) code info hb (same_code (length book) code info hc) refl refl

  pub set-made : (read_of info).refusal ≡ refusal.none → {rec : List ℕ} → made rec ≡ m
      → set_of code m book info ≡ record { answer = answered refusal.none 0; book = sets book (record_start p) rec }
  unfolding kept_as
  set-made e q = set-goes code m book info front e ∙ rw (← q)

  module _ {rec : List ℕ} {Fit Has : Type 0} {Fails : ℕ → Type 0} where
    by_way : (read_of info).refusal ≡ refusal.none → {m : NewRecord} → Makes rec Fit Has Fails m → Judged book info Fit Has Fails (kept_as p m book)
    unfolding kept_as not_made
    by_way e (unset n) = record { only = λ z. absurd (omega arith); kept = λ z. refl; unread = λ r. absurd (r e); unset = λ _ _. (refl, refl); named = λ _ h. absurd (n h) }
    by_way e (refused f h d) = record { only = λ z. absurd (omega arith); kept = λ z. refl; unread = λ r. absurd (r e); unset = λ _ n. absurd (n h); named = λ _ _ _. (refl, d) }
    by_way e (fits h f) = record { only = λ z. f; kept = λ z. absurd (z refl); unread = λ r. absurd (r e); unset = λ _ n. absurd (n h); named = λ _ _ z. absurd (z refl) }

    pub judged : ((read_of info).refusal ≡ refusal.none → Makes rec Fit Has Fails m) → Judged book info Fit Has Fails (set_of code m book info)
    judged makes = by (ℕ_discrete (read_of info).refusal refusal.none)
      where
        by : Dec ((read_of info).refusal ≡ refusal.none) → Judged book info Fit Has Fails (set_of code m book info)
        by (yes e) = rw (set-goes code m book info front e) (by_way e (makes e))
        by (no n) =
            rw (set_is code m book info front n)
            (record { only = λ e. absurd (n e); kept = λ z. refl; unread = λ _. (refl, refl); unset = λ e. absurd (n e); named = λ e. absurd (n e) })

-- The checks of a 5F 14

module _ (body : List ℕ) where
  fit-from : InRanges 0x5F14 1 2 7 body → times_disagree body ≡ 0 → Fit14 body
  unfolding number_of first_of rows_at layout_rows layout_at layouts
  fit-from r e = record { long = r.long; plan = r.ranges.0; times = ranged-fit body r.count r.ranges.1.1 e }

  pub fit-read : Fit14 body → InRanges 0x5F14 1 2 7 body
  unfolding number_of first_of rows_at layout_rows layout_at layouts
  fit-read f = record { long = f.long; count = f.times.count; ranges = (f.plan, (f.times.count, fit-ranged body f.times)) }

  -- of the first check that fails
  agrees-before : (n : ℕ) → First (times_fail body) (times_checks body) n → (i : ℕ) → 2 * i < n → (j : ℕ) → j < i → PhaseAgrees body j
  agrees-before n f i h j l =
      record { ordered = ordered-by body j (f.before (2 * j) (omega arith)); walk = walk-by body j (f.before (2 * j + 1) (omega arith)) }

  disagrees : (times_disagree body ≡ 0 → ⊥) → Disagrees14 body (times_field (times_disagree body))
  disagrees h = by (times_disagree body) (times-first body) h (ℕ_discrete ((times_disagree body - 1) % 2) 0)
    where
      by : (n : ℕ) → First (times_fail body) (times_checks body) n → (n ≡ 0 → ⊥) → Dec ((n - 1) % 2 ≡ 0) → Disagrees14 body (times_field n)
      by n f h (yes e) =
          let i : ℕ = (n - 1) / 2 in
          let q : 2 * i + 1 ≡ n = omega arith in
          let number : 4 + 6 * i ≡ times_field n = omega (arith, field-maximum n i refl e) in
          subst (Disagrees14 body) number
          (maximum i (omega (arith, f.within)) (agrees-before n f i (omega arith))
          (ltb-true (maximum_of body i) (minimum_of body i) (sym (check-maximum body i) ∙ f.here (2 * i) q)))
      by n f h (no ne) =
          let i : ℕ = (n - 1) / 2 in
          let q : 2 * i + 1 + 1 ≡ n = omega arith in
          let number : 8 + 6 * i ≡ times_field n = omega (arith, field-redman n i refl ne) in
          subst (Disagrees14 body) number
          (red_man i (omega (arith, f.within)) (agrees-before n f i (omega arith))
          (ordered-by body i (f.before (2 * i) (omega arith)))
          (leb-true (minimum_of body i) (walk_flash_of body i + red_man_of body i) (sym (check-redman body i) ∙ f.here (2 * i + 1) q)))

-- The record of a 5F 14

module _ (rec os : List ℕ) (i : ℕ) (s : (j : ℕ) → times_at i ≤ j → j < times_at i + 7 → octet_at rec j ≡ octet_at os j) where
  pub same-times : SameTimes rec os i
  same-times =
      record {
        minimum = s (times_at i) (omega arith) (omega arith);
        maximum = rw (s (times_at i + 1) (omega arith) (omega arith), s (times_at i + 1 + 1) (omega arith) (omega arith));
        yellow = s (times_at i + 3) (omega arith) (omega arith);
        all_red = s (times_at i + 4) (omega arith) (omega arith);
        walk_flash = s (times_at i + 5) (omega arith) (omega arith);
        red_man = s (times_at i + 6) (omega arith) (omega arith);
      }

  pub same-fit : TimesFit os i → TimesFit rec i
  same-fit f =
      let t = same-times in
      phase-in rec i (ranged-same times os rec (times_at i) (times_at i) (λ j l. sym (s (times_at i + j) (omega arith) (omega arith))) (phase-out os i f))
      (rw (t.minimum, t.maximum) f.ordered)
      (rw (t.walk_flash, t.red_man, t.minimum) f.walk)

module _ (body : List ℕ) (f : Fit14 body) where
  abbrev rec : List ℕ
  rec = times_record body

  same-k : k_of rec ≡ k_of body
  same-k = times-at body 1 (omega arith)

  same-octets : (i j : ℕ) → times_at i ≤ j → j < times_at i + 7 → octet_at rec j ≡ octet_at body j
  same-octets i j h l = times-at body j (omega arith)

  pub record-long : length rec ≡ record_len
  unfolding times_record
  record-long = padded-long (times_set ∷ drop 1 body) (omega (arith, length-drop 1 body, f.long, f.times.count.most))

  record-octets : rec ≡ 0x01 ∷ (drop 1 body ++ replicate (78 - 7 * k_of body) 0)
  unfolding times_record padded
  record-octets =
      let e : record_len - length (times_set ∷ drop 1 body) ≡ 78 - 7 * k_of body = omega (arith, length-drop 1 body, f.long) in
      ap (λ (n : ℕ). 0x01 ∷ (drop 1 body ++ replicate n 0)) e

  pub times-holds : Holds14 body rec
  unfolding times_record
  times-holds =
      record {
        octets = record-octets;
        stands =
            record {
              long = record-long;
              state = padded-at (times_set ∷ drop 1 body) 0;
              times = record { count = rw same-k f.times.count; phases = λ i l. same-fit rec body i (same-octets i) (f.times.phases i (omega (arith, same-k))) };
              rest = padded-rest (times_set ∷ drop 1 body) (times_end rec) (omega (arith, length-drop 1 body, f.long, same-k));
            };
        count = same-k;
        times = λ i l. same-times rec body i (same-octets i);
      }

-- Stored exactly when

module _ (book info : List ℕ) (hb : length book ≡ book_len) (hc : code_in info ≡ set_times_code) where
  abbrev os : List ℕ
  os = body_in info

  module _ (f : Fit14 os) where
    fit-set : set_times_of book info ≡ record { answer = answered refusal.none 0; book = sets book (record_start (plan_in os)) (times_record os) }
    fit-set = set-made set_times_code (times_made os) book info hb hc ((read-ranges set-times info hc).1 (fit-read os f)) (times-is os refl (agree-times os f.times) refl)

    pub times-stored : RecordStored book (plan_in os) (times_record os) (set_times_of book info).book
    times-stored = rw fit-set (stored_here book (plan_in os) (times_record os) hb f.plan.least f.plan.most (record-long os f))

  makes : (read_of info).refusal ≡ refusal.none → Makes (times_record os) (Fit14 os) Unit (Disagrees14 os) (times_made os)
  makes e = by (ℕ_discrete (times_disagree os) 0)
    where
      by : Dec (times_disagree os ≡ 0) → Makes (times_record os) (Fit14 os) Unit (Disagrees14 os) (times_made os)
      by (no n) = rw (← times-not os refl n refl) (refused (times_field (times_disagree os)) tt (disagrees os n))
      by (yes z) = rw (← times-is os refl z refl) (fits tt (fit-from os (read-times info e hc) z))

pub times-stored-exactly-when : TimesStoredExactlyWhen
times-stored-exactly-when book info hb hc =
    let j = judged set_times_code (times_made (body_in info)) book info hb hc (makes book info hb hc) in
    record {
      rec = times_record (body_in info);
      stored = times-stored book info hb hc;
      holds = times-holds (body_in info);
      accepted = λ f. ap (λ (w : Setting). w.answer.refusal) (fit-set book info hb hc f);
      none_named = λ f. ap (λ (w : Setting). w.answer.field) (fit-set book info hb hc f);
      only = j.only;
      kept = j.kept;
      unread = j.unread;
      named = λ e. j.named e tt;
    }
