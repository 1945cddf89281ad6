-- The layouts hold what 01's table lists, each field under its number and at its place.
use Prim.Native.Nat.{ℕ, zero, suc, ◌+◌, ◌*◌, ◌<◌}
use mathlib.Core.Path.{◌≡◌, refl, ◌∙◌}
use mathlib.Core.List.{List, [], ◌∷◌, ◌++◌, append_assoc}
use native.Mathlib.Nat.{zero-mul, suc-mul}
use native.Mathlib.Omega.{arith}
use lib.Dec.{eqb}
use lib.ListN.{length, get_or, take, length-append, get_or-append}
use lib.Seq.{get_or-append-add, take-append-add, take-append-le}
use Rattle.octets.specs.First.{first_of}
use Rattle.octets.proofs.Search.{search-first}
use Rattle.message.specs.declared.layout.Field.{Field}
use Rattle.message.specs.declared.layout.Field.TheVariants.{Octet}
use Rattle.message.specs.Fields as field
use Rattle.message.specs.Fields.{no_field}
use Rattle.message.specs.Layouts.{layouts, layout_at, number_of, rows_at, layout_rows, repeated, times, greens, cycle_offset}
use Rattle.message.specs.Values.{size_of, field_start}
use Rattle.message.specs.Promises.{listed, CodesListed, FieldStands, AnswerFields, RefusalFields, PhaseFields, GreenFields, TimesFields, PlanFields, OnePlan, FieldNumbers, NamesAsSaid, StoredParts}
use Rattle.message.proofs.Layouts.{length-repeated, rows-length, rows-octets}
use Rattle.message.proofs.Values.{size-append, size-repeated}

pub codes-listed : CodesListed
unfolding number_of first_of layout_at layouts
codes-listed c = search-first (λ j. eqb (get_or listed j 0) c) (length listed)

-- a field of a list stands in it, and with others behind it and before it
stands : (fs : List Field) (j : ℕ) → j < length fs → FieldStands fs (j + 1) (get_or fs j no_field) (field_start fs j)
stands fs j l = record { place = j; number = refl; within = l; there = refl; start = refl }

module _ {fs : List Field} {n s : ℕ} {f : Field} (w : FieldStands fs n f s) where
  before : (gs : List Field) → FieldStands (fs ++ gs) n f s
  before gs =
      record {
        place = w.place;
        number = w.number;
        within = omega (arith, length-append fs gs, w.within);
        there = get_or-append fs gs no_field w.place w.within ∙ w.there;
        start = rw (take-append-le w.place fs gs (omega (arith, w.within))) w.start;
      }

  behind : (hs : List Field) {m u : ℕ} → m ≡ length hs + n → u ≡ size_of hs + s → FieldStands (hs ++ fs) m f u
  behind hs em eu =
      record {
        place = length hs + w.place;
        number = omega (arith, w.number);
        within = omega (arith, length-append hs fs, w.within);
        there = get_or-append-add hs fs w.place no_field ∙ w.there;
        start = rw (take-append-add hs fs w.place) (size-append hs (take w.place fs) ∙ omega (arith, w.start));
      }

-- the i-th time of k
among : {g : List Field} {n s : ℕ} {f : Field} → FieldStands g n f s → (k i : ℕ) (t : List Field) → i < k → {m u : ℕ} → m ≡ i * length g + n → u ≡ i * size_of g + s
    → FieldStands (repeated k g ++ t) m f u
among w zero i t h em eu = absurd (omega arith)
among {g} w (suc k) zero t h em eu = rw append_assoc (behind (before w (repeated k g ++ t)) [] (omega (arith, zero-mul (length g))) (omega (arith, zero-mul (size_of g))))
among {g} w (suc k) (suc i) t h em eu =
    rw append_assoc (behind (among w k i t (omega arith) refl refl) g (omega (arith, suc-mul i (length g))) (omega (arith, suc-mul i (size_of g))))

-- a field of the head, of the group and of the tail of a layout
module _ (hs g t : List Field) (k : ℕ) where
  abbrev rows : List Field
  rows = hs ++ (repeated k g ++ t)

  in_head : (j : ℕ) → j < length hs → FieldStands rows (j + 1) (get_or hs j no_field) (field_start hs j)
  in_head j l = before (stands hs j l) (repeated k g ++ t)

  in_group : (i : ℕ) → i < k → (j : ℕ) → j < length g → {n s : ℕ} → n ≡ length hs + (i * length g + j) + 1 → s ≡ size_of hs + (i * size_of g + field_start g j)
      → FieldStands rows n (get_or g j no_field) s
  in_group i h j l en es = behind (among (stands g j l) k i t h refl refl) hs (omega arith) es

  in_tail : (j : ℕ) → j < length t → {n s : ℕ} → n ≡ length hs + (k * length g + j) + 1 → s ≡ size_of hs + (k * size_of g + field_start t j) → FieldStands rows n (get_or t j no_field) s
  in_tail j l en es = behind (behind (stands t j l) (repeated k g) refl refl) hs (omega (arith, length-repeated k g)) (omega (arith, size-repeated g k))

-- the fields of a phase, and the greens, the cycle and the offset, after any head
module _ (hs : List Field) (k : ℕ) where
  phase : (i : ℕ) → i < k → {n s : ℕ} → n ≡ length hs + 6 * i + 1 → s ≡ size_of hs + 7 * i → PhaseFields (hs ++ (repeated k times ++ [])) n s
  phase i h en es =
      record {
        minimum = in_group hs times [] k i h 0 (omega arith) (omega arith) (omega arith);
        maximum = in_group hs times [] k i h 1 (omega arith) (omega arith) (omega arith);
        yellow = in_group hs times [] k i h 2 (omega arith) (omega arith) (omega arith);
        all_red = in_group hs times [] k i h 3 (omega arith) (omega arith) (omega arith);
        walk_flash = in_group hs times [] k i h 4 (omega arith) (omega arith) (omega arith);
        red_man = in_group hs times [] k i h 5 (omega arith) (omega arith) (omega arith);
      }

  green : {n s : ℕ} → n ≡ length hs + 1 → s ≡ size_of hs → GreenFields k (hs ++ (repeated k greens ++ cycle_offset)) n s
  green en es =
      record {
        green = λ i h. in_group hs greens cycle_offset k i h 0 (omega arith) (omega arith) (omega arith);
        cycle = in_tail hs greens cycle_offset k 0 (omega arith) (omega arith) (omega arith);
        offset = in_tail hs greens cycle_offset k 1 (omega arith) (omega arith) (omega arith);
      }

module _ (least k : ℕ) where
  times-fields : TimesFields least k (Octet least 48 ∷ field.count ∷ (repeated k times ++ []))
  times-fields =
      let hs = Octet least 48 ∷ field.count ∷ [] in
      record {
        many = omega (arith, rows-length hs times [] k);
        size = omega (arith, rows-octets hs times [] k);
        planned = in_head hs times [] k 0 (omega arith);
        count = in_head hs times [] k 1 (omega arith);
        phase = λ i h. phase hs k i h (omega arith) (omega arith);
      }

  plan-fields : PlanFields least k (Octet least 48 ∷ field.direct ∷ field.order ∷ field.count ∷ (repeated k greens ++ cycle_offset))
  plan-fields =
      let hs = Octet least 48 ∷ field.direct ∷ field.order ∷ field.count ∷ [] in
      record {
        many = omega (arith, rows-length hs greens cycle_offset k);
        size = omega (arith, rows-octets hs greens cycle_offset k);
        planned = in_head hs greens cycle_offset k 0 (omega arith);
        direct = in_head hs greens cycle_offset k 1 (omega arith);
        order = in_head hs greens cycle_offset k 2 (omega arith);
        count = in_head hs greens cycle_offset k 3 (omega arith);
        greens = green hs k refl refl;
      }

-- the layouts with no repeated field: nothing comes k times, whatever k is
none-repeated : (k : ℕ) → repeated k [] ++ [] ≡ []
none-repeated zero = refl
none-repeated (suc k) = none-repeated k

module _ (k : ℕ) where
  answer-fields : AnswerFields (field.code ∷ (repeated k [] ++ []))
  answer-fields = rw (none-repeated k) (record { many = refl; size = refl; answered = stands _ 0 (omega arith) })

  refusal-fields : RefusalFields (field.code ∷ field.error_number ∷ field.parameter_number ∷ (repeated k [] ++ []))
  refusal-fields =
      rw (none-repeated k)
      (record { many = refl; size = refl; answered = stands _ 0 (omega arith); error = stands _ 1 (omega arith); parameter = stands _ 2 (omega arith) })

  one-plan : OnePlan (field.plan ∷ (repeated k [] ++ []))
  one-plan = rw (none-repeated k) (record { many = refl; size = refl; planned = stands _ 0 (omega arith) })

pub field-numbers : FieldNumbers
unfolding number_of first_of layouts layout_at rows_at layout_rows
field-numbers =
    record {
      carried_out = answer-fields;
      refused = refusal-fields;
      set_times = λ k. times-fields 1 k;
      report_times = λ k. times-fields 0 k;
      set_plan = λ k. plan-fields 1 k;
      report_plan = λ k. plan-fields 0 k;
      report_running = λ k. plan-fields 0 k;
      run = one-plan;
      query_times = one-plan;
      query_plan = one-plan;
      query_running = none-repeated;
    }

pub names-as-said : NamesAsSaid
names-as-said =
    record {
      code = λ info. refl;
      body = λ info. refl;
      answered = refl;
      error = refl;
      parameter = refl;
      plan = refl;
      times_count = refl;
      minimum = λ i. refl;
      maximum = λ i. omega arith;
      red_man = λ i. omega arith;
      direct = refl;
      order = refl;
      plan_count = refl;
      green = λ i. refl;
      cycle = λ k. refl;
      offset = λ k. omega arith;
    }

pub stored-parts : StoredParts
unfolding number_of first_of layouts layout_at rows_at layout_rows
stored-parts k =
    let hs = field.direct ∷ field.order ∷ [] in
    record {
      times = refl;
      times_size = omega (arith, rows-octets [] times [] k);
      phase = λ i h. phase [] k i h (omega arith) (omega arith);
      plan = refl;
      plan_size = omega (arith, rows-octets hs greens cycle_offset k);
      direct = in_head hs greens cycle_offset k 0 (omega arith);
      order = in_head hs greens cycle_offset k 1 (omega arith);
      greens = green hs k refl refl;
    }
