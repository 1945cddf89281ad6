-- What a set read: what is refused of it, and the values of the fields, each of which is what stands at its place.
use Prim.Native.Nat.{ℕ, ◌+◌, ◌≤◌, ◌<◌}
use mathlib.Core.Path.{◌≡◌, refl, sym, ap, subst, ◌∙◌}
use mathlib.Core.Bool.{Bool, true, false, not}
use mathlib.Core.List.{List}
use native.Mathlib.Omega.{arith}
use Rattle.std.specs.Prelude.{Some, None, Err}
use lib.Dec.{eqb}
use lib.ListN.{length, get_or}
use Rattle.octets.specs.Choice.{pick}
use Rattle.octets.specs.declared.refusal.Refusal.{Refusal}
use Rattle.octets.specs.Refusal as refusal
use Rattle.octets.specs.Refusals.{refusal_number}
use Rattle.octets.proofs.Refusals.{told-apart}
use Rattle.octets.specs.Word.{low_of}
use Rattle.message.specs.Reader.{Read, not_read, read_as, reading_of, k_in, code_in, body_in, read_of}
use Rattle.message.specs.declared.Message.{Message}
use Rattle.message.specs.declared.Fault.{Fault}
use Rattle.message.specs.declared.layout.Field.{Field}
use Rattle.message.specs.declared.layout.Field.TheVariants.{Octet}
use Rattle.message.specs.Layouts.{layout_at, number_of}
use Rattle.message.specs.Values.{values_of}
use Rattle.message.specs.Writer.{k_of_message}
use Rattle.message.specs.Promises.{FieldStands, OnePlan, fields_of, value_there, InRange}
use Rattle.message.proofs.Numbers.{field-numbers}
use Rattle.message.proofs.Accepted.{accepted-in}
use Rattle.message.proofs.Places.{values-taken, values-stand}
use Rattle.record.specs.Record.{plans_most, book_len, octet_at}
use Rattle.plan.specs.Setting.{Answered, NewRecord, Times14, Plan15, plan_in, count_in, answered, set_answer, other_code, times_made, ready_made, SetLeaves, kept_as, set_front, set_of, set_times_code, set_plan_code}
use Rattle.plan.specs.Reading.{record_at}
use Rattle.plan.proofs.Sets.{front-sound, read-times, read-plan, times-body, plan-body, set_is, set-goes}
use Rattle.plan_calls.specs.Setting.{set_read}

-- where nothing is refused, the value of a field is what stands at its place
value_read : (info : List ℕ) → (read_of info).refusal ≡ refusal.none → {c : ℕ} → code_in info ≡ c → (j : ℕ) {s : ℕ} {f : Field}
    → ((k : ℕ) → FieldStands (fields_of c k) (j + 1) f s) → get_or (read_of info).message.values j 0 ≡ value_there f (body_in info) s
value_read info e ec j {s} {f} st =
    let m = (read_of info).message in
    let h = values-stand info e in
    h.values j s f (subst (λ (c : ℕ). FieldStands (fields_of c (k_of_message m)) (j + 1) f s) (sym (h.code ∙ ec)) (st (k_of_message m)))

-- and in the field's range
range-read : (info : List ℕ) → (read_of info).refusal ≡ refusal.none → {c : ℕ} → code_in info ≡ c → (j : ℕ) {s : ℕ} {f : Field}
    → ((k : ℕ) → FieldStands (fields_of c k) (j + 1) f s) → InRange f (value_there f (body_in info) s)
range-read info e ec j {s} {f} st =
    let a = accepted-in info e in
    let k = k_in (layout_at (number_of (code_in info))) (body_in info) in
    let fs = fields_of (code_in info) k in
    let t : FieldStands fs (j + 1) f s = subst (λ (c : ℕ). FieldStands (fields_of c k) (j + 1) f s) (sym ec) (st k) in
    let p : t.place ≡ j = omega (arith, t.number) in
    let r : InRange f (get_or (values_of fs (body_in info)) j 0) = rw (t.there, p) at (a.ranges t.place t.within) in
    rw (values-taken fs (body_in info) j s f t) at r

-- a field of one octet
octet-read : (info : List ℕ) → (read_of info).refusal ≡ refusal.none → {c : ℕ} → code_in info ≡ c → (j : ℕ) {s l g : ℕ}
    → ((k : ℕ) → FieldStands (fields_of c k) (j + 1) (Octet l g) s) → g < 256 → {v : ℕ} → v ≡ low_of (get_or (read_of info).message.values j 0)
    → (v ≡ octet_at (body_in info) s) × (l ≤ v) × (v ≤ g)
octet-read info e ec j st b ev =
    let v = value_read info e ec j st in
    let w = range-read info e ec j st in
    (omega (arith, ev, v, w), omega (arith, ev, v, w), omega (arith, ev, v, w))

-- the plan that a message names whose one field it is
pub plan-asked : (info : List ℕ) {m : Read} → m ≡ read_of info → m.refusal ≡ refusal.none → {c : ℕ} → code_in info ≡ c → ((k : ℕ) → OnePlan (fields_of c k))
    → {p : ℕ} → p ≡ low_of (get_or m.message.values 0 0) → (p ≡ plan_in (body_in info)) × (p ≤ plans_most)
plan-asked info em z ec one ep =
    let e = ep ∙ ap (λ (r : Read). low_of (get_or r.message.values 0 0)) em in
    let r = octet-read info (ap (λ (r : Read). r.refusal) (sym em) ∙ z) ec 0 (λ k. (one k).planned) (omega arith) e in
    (r.0, r.2)

-- each refusal has a number
pub refused-some : (r : Refusal) → refusal_number r ≡ refusal.none → ⊥
refused-some r e = let z = told-apart (Some r) None e in cc

module _ (n code : ℕ) (info : List ℕ) where
  by-setting : (P : Read → Answered → Type 0) → P (not_read refusal.book_wrong 0) (answered refusal.book_wrong 0)
      → P (not_read refusal.code_not_handled 0) (answered refusal.code_not_handled 0)
      → P (read_of info) (answered (read_of info).refusal (read_of info).field) → P (set_read n code info) (set_front n code info)
  unfolding set_read set_front
  by-setting P a b c = by (eqb n book_len) (other_code code info)
    where
      by : (t u : Bool) → P (pick (not t) (not_read refusal.book_wrong 0) (pick u (not_read refusal.code_not_handled 0) (read_of info)))
          (pick (not t) (answered refusal.book_wrong 0) (pick u (answered refusal.code_not_handled 0) (answered (read_of info).refusal (read_of info).field)))
      by false u = a
      by true true = b
      by true false = c

  front-is : answered (set_read n code info).refusal (set_read n code info).field ≡ set_front n code info
  unfolding not_read
  front-is = by-setting (λ r a. answered r.refusal r.field ≡ a) refl refl refl

  read_is : (set_read n code info).refusal ≡ refusal.none → set_read n code info ≡ read_of info
  unfolding not_read
  read_is = by-setting (λ r a. r.refusal ≡ refusal.none → r ≡ read_of info) (λ e. absurd (omega arith)) (λ e. absurd (omega arith)) (λ e. refl)

module _ (book info : List ℕ) (code : ℕ) where
  told : {r : Read} → r ≡ set_read (length book) code info → answered r.refusal r.field ≡ set_front (length book) code info
  told er = ap (λ (r : Read). answered r.refusal r.field) er ∙ front-is (length book) code info

  pub set-refused : (m : NewRecord) (e : Fault) → reading_of (Err e) ≡ set_read (length book) code info → SetLeaves (set_of code m book info) (set_answer (Err e)) book
  unfolding not_read
  set-refused m e er = rw (set_is code m book info (told er) (refused-some e.refusal)) (record { answer = refl; book = refl })

  module _ {m : Message} (er : read_as m ≡ set_read (length book) code info) where
    sound : (length book ≡ book_len) × ((read_of info).refusal ≡ refusal.none) × (code_in info ≡ code)
    sound = front-sound (length book) code info (ap (λ (a : Answered). a.refusal) (sym (told er)))

    field_is : (j : ℕ) {s l g : ℕ} → ((k : ℕ) → FieldStands (fields_of code k) (j + 1) (Octet l g) s) → g < 256 → {v : ℕ} → v ≡ low_of (get_or m.values j 0)
        → (v ≡ octet_at (body_in info) s) × (l ≤ v) × (v ≤ g)
    field_is j st b ev =
        let e = er ∙ read_is (length book) code info (ap (λ (x : Read). x.refusal) (sym er)) in
        octet-read info sound.1 sound.2 j st b (ev ∙ ap (λ (x : Read). low_of (get_or x.message.values j 0)) e)

    set_on : (w : NewRecord) → set_of code w book info ≡ kept_as (plan_in (body_in info)) w book
    set_on w = set-goes code w book info (told er) refl

    pub book-long : length book ≡ book_len
    book-long = sound.0

-- the plan and the count that the sets read, and what they keep
module _ (book info : List ℕ) {m : Message} where
  module _ (er : read_as m ≡ set_read (length book) set_times_code info) where
    pub times-read : {os : List ℕ} → os ≡ body_in info → Times14 os
    times-read eo = let s = sound book info set_times_code er in rw eo (times-body (body_in info) (read-times info s.1 s.2))

    module _ {p : ℕ} (ep : p ≡ low_of (get_or m.values 0 0)) where
      times-plan : (p ≡ plan_in (body_in info)) × (1 ≤ p) × (p ≤ plans_most)
      times-plan = field_is book info set_times_code er 0 (λ k. (field-numbers.set_times k).planned) (omega arith) ep

      pub times-least : 1 ≤ p
      times-least = times-plan.1

      pub times-most : p ≤ plans_most
      times-most = times-plan.2

      pub times-kept : {os : List ℕ} → os ≡ body_in info → {w : NewRecord} → w ≡ times_made os → {a : Answered} {l : List ℕ} → SetLeaves (kept_as p w book) a l
          → SetLeaves (set_of set_times_code (times_made (body_in info)) book info) a l
      times-kept eo ew d = rw (set_on book info set_times_code er (times_made (body_in info))) (rw (times-plan.0, ew, eo) at d)

  module _ (er : read_as m ≡ set_read (length book) set_plan_code info) where
    pub plan-read : {os : List ℕ} → os ≡ body_in info → Plan15 os
    plan-read eo = let s = sound book info set_plan_code er in rw eo (plan-body (body_in info) (read-plan info s.1 s.2))

    pub plan-count : {os : List ℕ} → os ≡ body_in info → {k : ℕ} → k ≡ low_of (get_or m.values 3 0) → k ≡ count_in os
    plan-count eo e = rw eo (field_is book info set_plan_code er 3 (λ k. (field-numbers.set_plan k).count) (omega arith) e).0

    module _ {p : ℕ} (ep : p ≡ low_of (get_or m.values 0 0)) where
      plan-plan : (p ≡ plan_in (body_in info)) × (1 ≤ p) × (p ≤ plans_most)
      plan-plan = field_is book info set_plan_code er 0 (λ k. (field-numbers.set_plan k).planned) (omega arith) ep

      pub plan-least : 1 ≤ p
      plan-least = plan-plan.1

      pub plan-most : p ≤ plans_most
      plan-most = plan-plan.2

      pub plan-kept : {os old : List ℕ} → os ≡ body_in info → old ≡ record_at book p → {w : NewRecord} → w ≡ ready_made old os
          → {a : Answered} {l : List ℕ} → SetLeaves (kept_as p w book) a l
          → SetLeaves (set_of set_plan_code (ready_made (record_at book (plan_in (body_in info))) (body_in info)) book info) a l
      plan-kept eo eq ew d =
          rw (set_on book info set_plan_code er (ready_made (record_at book (plan_in (body_in info))) (body_in info))) (rw (ew, eq, plan-plan.0, eo) at d)
