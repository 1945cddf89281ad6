-- A set refuses what is not its own, leaves every other plan as it was, and a well-formed book well formed.
use Prim.Native.Nat.{ℕ, ◌≤◌, ◌<◌}
use mathlib.Core.Path.{◌≡◌, refl, sym, ap, subst, ◌∙◌}
use mathlib.Core.Logic.{inl, inr}
use mathlib.Core.List.{List}
use native.Mathlib.Decide.{dec_lt, ℕ_discrete}
use native.Mathlib.Omega.{arith}
use borrow.Author.Tests.{eq-eqb, ne_eqb, lt-leb}
use lib.ListN.{length}
use Rattle.octets.specs.Octet.{Octets}
use Rattle.octets.specs.Part.{code_len}
use Rattle.octets.specs.Refusal as refusal
use Rattle.message.specs.Reader.{Read, code_in, body_in, not_read, read_of}
use Rattle.message.proofs.Reading.{read-11}
use Rattle.plan.specs.Setting.{NewRecord, plan_in, answered, set_front, set_of, times_made, ready_made, set_times_code, set_plan_code, set_times_of, set_plan_of}
use Rattle.record.specs.Record.{book_len, plans_most}
use Rattle.plan.specs.Reading.{record_at, read_refusal}
use Rattle.plan.specs.Promises.{SetRefused, SetsRefuse, RecordStored, OthersRead, SetsLeaveOthers, WellFormed, BookWellFormed, SetsKeepForm}
use Rattle.plan.proofs.Sets.{front-book, front-code, front_read, other-code, no_code_lem, front-sound, set_is}
use Rattle.plan.proofs.Storing.{times-stored-exactly-when}
use Rattle.plan.proofs.Readying.{plan-stored-exactly-when}

module _ (code : ℕ) (m : NewRecord) (book info : List ℕ) where
  short : length info < code_len → answered refusal.info_length_wrong 0 ≡ answered (read_of info).refusal (read_of info).field
  unfolding not_read
  short l = ap (λ (r : Read). answered r.refusal r.field) (read-11 info l)

  set-refuses : SetRefused code book info (set_of code m book info)
  set-refuses =
      record {
        wrong_book = λ n. set_is code m book info (front-book (length book) code info n) (λ z. absurd (omega arith));
        other_code = λ hb l n. set_is code m book info (front-code (length book) code info hb (other-code (length book) code info l n) refl) (λ z. absurd (omega arith));
        no_code = λ hb l. set_is code m book info (short l ∙ front_read (length book) code info hb (no_code_lem (length book) code info l) refl refl) (λ z. absurd (omega arith));
      }

pub sets-refuse : SetsRefuse
sets-refuse book info = (
  set-refuses set_times_code (times_made (body_in info)) book info,
  set-refuses set_plan_code (ready_made (record_at book (plan_in (body_in info))) (body_in info)) book info,
)

-- a set leaves the book as it was, or stores a record that stands
pub data Left (book : List ℕ) (p : ℕ) : List ℕ → Type 0 where
  same : Left book p book
  put : (rec book' : List ℕ) → RecordStored book p rec book' → WellFormed rec → Left book p book'

pub set_other : (code : ℕ) (m : NewRecord) (book info : List ℕ) → (code_in info ≡ code → ⊥) → (set_of code m book info).book ≡ book
unfolding set_of
set_other code m book info n = rw (ne_eqb (set_front (length book) code info).refusal refusal.none (λ e. n (front-sound (length book) code info e).2))

module _ (book info : List ℕ) (hb : length book ≡ book_len) where
  abbrev p : ℕ
  p = plan_in (body_in info)

  -- refused it leaves the book, and otherwise it stores its record
  left_by : (code : ℕ) (m : NewRecord)
      → (let w = set_of code m book info in
      (code_in info ≡ code → (w.answer.refusal ≡ refusal.none → ⊥) → w.book ≡ book)
      → (code_in info ≡ code → w.answer.refusal ≡ refusal.none → Left book p w.book) → Left book p w.book)
  left_by code m kept stored = by (ℕ_discrete (code_in info) code) (ℕ_discrete (set_of code m book info).answer.refusal refusal.none)
    where
      left_as : {l : List ℕ} → l ≡ book → Left book p l
      left_as e = subst (Left book p) (sym e) same

      by : Dec (code_in info ≡ code) → Dec ((set_of code m book info).answer.refusal ≡ refusal.none) → Left book p (set_of code m book info).book
      by (no n) d = left_as (set_other code m book info n)
      by (yes e) (no n) = left_as (kept e n)
      by (yes e) (yes a) = stored e a

  pub times-left : Left book p (set_times_of book info).book
  times-left =
      let judged = times-stored-exactly-when book info hb in
      left_by set_times_code (times_made (body_in info)) (λ e. (judged e).kept)
      (λ e a. let j = judged e in put j.rec (set_times_of book info).book (j.stored (j.only a)) (inr (inl (j.holds (j.only a)).stands)))

  pub plan-left : Octets book → Left book p (set_plan_of book info).book
  plan-left o =
      let judged = plan-stored-exactly-when book info hb o in
      left_by set_plan_code (ready_made (record_at book p) (body_in info)) (λ e. (judged e).kept)
      (λ e a. let j = judged e in put j.rec (set_plan_of book info).book (j.stored (j.only a)) (inr (inr (j.holds (j.only a)).stands)))

-- a plan whose record is the same reads the same
reads_same : (book book' copy : List ℕ) (q : ℕ) → length book' ≡ length book → (1 ≤ q → q ≤ plans_most → record_at book' q ≡ record_at book q)
    → read_refusal book' copy q ≡ read_refusal book copy q
unfolding read_refusal
reads_same book book' copy q e h = by (ℕ_discrete q 0) (dec_lt plans_most q)
  where
    by : Dec (q ≡ 0) → Dec (plans_most < q) → read_refusal book' copy q ≡ read_refusal book copy q
    by (yes z) d = rw (e, eq-eqb q 0 z)
    by (no n) (yes l) = rw (e, lt-leb q plans_most l)
    by (no n) (no g) = rw (e, h (omega arith) (omega arith))

others-read : (book : List ℕ) (p : ℕ) → length book ≡ book_len → {book' : List ℕ} → Left book p book' → OthersRead book book' p
others-read book p hb same = record { refusal = λ copy q n. refl; octets = λ q a b n. refl }
others-read book p hb (put rec book' s w) =
    record { refusal = λ copy q n. reads_same book book' copy q (s.long ∙ sym hb) (λ a b. s.others q a b n); octets = s.others }

well-formed : (book : List ℕ) (p : ℕ) → BookWellFormed book → {book' : List ℕ} → Left book p book' → BookWellFormed book'
well-formed book p f same = f
well-formed book p f (put rec book' s w) = record { long = s.long; each = λ q a b. by q a b (ℕ_discrete q p) }
  where
    by : (q : ℕ) → 1 ≤ q → q ≤ plans_most → Dec (q ≡ p) → WellFormed (record_at book' q)
    by q a b (yes e) = rw e (rw s.here w)
    by q a b (no n) = rw (s.others q a b n) (f.each q a b)

pub sets-leave-others : SetsLeaveOthers
sets-leave-others book info hb o =
    (others-read book (plan_in (body_in info)) hb (times-left book info hb), others-read book (plan_in (body_in info)) hb (plan-left book info hb o))

pub sets-keep-form : SetsKeepForm
sets-keep-form book info o f =
    (well-formed book (plan_in (body_in info)) f (times-left book info f.long), well-formed book (plan_in (body_in info)) f (plan-left book info f.long o))
