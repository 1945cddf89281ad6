-- What 01 demands of the plan book, stated from outside.
use Rattle.std.specs.Prelude.{ℕ, zero, suc, ◌+◌, ◌*◌, ◌-◌, ◌≤◌, ◌<◌, ◌≡◌, true, ◌⊎◌, ⊤, Result, Ok, Err, List, [], ◌∷◌, ◌++◌, length, take, drop, replicate}
use Rattle.std.specs.Borrow.{Bor}
use Rattle.octets.specs.Octet.{Octets}
use Rattle.octets.specs.Refusals.{refusal_number}
use Rattle.octets.specs.Same.{same}
use Rattle.diagram.specs.Table.{phases_of}
use Rattle.message.specs.declared.Fault.{Fault}
use Rattle.message.specs.declared.Message.{Message}
use Rattle.message.specs.Reader.{code_in, body_in, read_of}
use Rattle.record.specs.Record.{octet_at, word_at, k_of, minimum_of, maximum_of, yellow_of, all_red_of, walk_flash_of, red_man_of, direct_of, order_of, green_of, cycle_of, offset_of, Within, AllTimesFit, Empty, TimesSet, Ready}
use Rattle.checks.specs.Standing.{standing_of}
use Rattle.plan.specs.declared.Which.{Which}
use Rattle.plan.specs.declared.Which.TheVariants.{New, Old}
use Rattle.plan.specs.BuiltIn.{built_in}
use Rattle.plan.specs.Reading.{record_at, read_refusal, PlanRead}
use Rattle.plan.specs.Reporting.{times_info, plan_info, report_times_of, report_plan_of}
use Rattle.plan.specs.Setting.{Answered, plan_in, count_in, Setting, SetLeaves, making_of, set_answer, set_times_of, set_plan_of}

-- The checks of a message

-- 5F 14: the ranges of its fields, and phase by phase "maximum at least minimum", "walk flash plus red man less than minimum"
pub record Fit14 (body : List ℕ) : Type 0 where
  pub long : length body ≡ 2 + 7 * k_of body
  pub plan : Within 1 (plan_in body) 48
  pub times : AllTimesFit body

-- the phase's times agree
pub record PhaseAgrees (body : List ℕ) (i : ℕ) : Type 0 where
  pub ordered : minimum_of body i ≤ maximum_of body i
  pub walk : walk_flash_of body i + red_man_of body i < minimum_of body i

-- the first check that fails, and the number of the field that it names, counted after the code with two octets as one: a phase has six
-- fields from 3 on; all earlier checks pass
pub data Disagrees14 (body : List ℕ) : ℕ → Type 0 where
  -- "(names maximum)"
  maximum : (i : ℕ) → i < k_of body → ((j : ℕ) → j < i → PhaseAgrees body j) → maximum_of body i < minimum_of body i → Disagrees14 body (4 + 6 * i)
  -- "(names red man)"
  red_man : (i : ℕ) → i < k_of body → ((j : ℕ) → j < i → PhaseAgrees body j) → minimum_of body i ≤ maximum_of body i
      → minimum_of body i ≤ walk_flash_of body i + red_man_of body i
      → Disagrees14 body (8 + 6 * i)

-- 5F 15: where its fields stand after the code
abbrev pub direct_in : List ℕ → ℕ
direct_in body = octet_at body 1

abbrev pub order_in : List ℕ → ℕ
order_in body = octet_at body 2

abbrev pub green_in : List ℕ → ℕ → ℕ
green_in body i = word_at body (4 + 2 * i)

abbrev pub cycle_in : List ℕ → ℕ
cycle_in body = word_at body (4 + 2 * count_in body)

abbrev pub offset_in : List ℕ → ℕ
offset_in body = word_at body (4 + 2 * count_in body + 2)

-- "the sum of green, yellow and all-red": the greens of the message, the rest as stored
abbrev pub sum_in : List ℕ → List ℕ → ℕ → ℕ
sum_in rec body zero = 0
sum_in rec body (suc n) = sum_in rec body n + (green_in body n + yellow_of rec n + all_red_of rec n)

-- the ranges of its fields
pub record Ranges15 (body : List ℕ) : Type 0 where
  pub long : length body ≡ 8 + 2 * count_in body
  pub plan : Within 1 (plan_in body) 48
  pub direct : Within 0 (direct_in body) 7
  pub order : (order_in body ≤ 255) × (1 ≤ phases_of (order_in body))
  pub count : Within 1 (count_in body) 8
  pub green : (i : ℕ) → i < count_in body → Within 1 (green_in body i) 900
  pub cycle : Within 1 (cycle_in body) 900
  pub offset : Within 0 (offset_in body) 899

-- "refusal 13 if the plan has no 5F 14"
abbrev pub HasTimes : List ℕ → Type 0
HasTimes rec = TimesSet rec ⊎ Ready rec

-- "count equal to the stored count and to the diagram's"
pub record CountAgrees (rec body : List ℕ) : Type 0 where
  pub stored : count_in body ≡ k_of rec
  pub diagram : count_in body ≡ phases_of (order_in body)

-- "each green within its phase's bounds"
abbrev pub GreenAgrees : List ℕ → List ℕ → ℕ → Type 0
GreenAgrees rec body i = Within (minimum_of rec i) (green_in body i) (maximum_of rec i)

pub record Fit15 (rec body : List ℕ) : Type 0 where
  pub ranges : Ranges15 body
  pub set : HasTimes rec
  pub count : CountAgrees rec body
  pub green : (i : ℕ) → i < count_in body → GreenAgrees rec body i
  pub cycle : cycle_in body ≡ sum_in rec body (count_in body)
  pub offset : offset_in body < cycle_in body

-- the first check that fails, "each naming its own field", count 4, greens from 5 on, cycle, offset: all earlier ones pass
pub data Disagrees15 (rec body : List ℕ) : ℕ → Type 0 where
  count : (CountAgrees rec body → ⊥) → Disagrees15 rec body 4
  green : (i : ℕ) → i < count_in body → CountAgrees rec body → ((j : ℕ) → j < i → GreenAgrees rec body j) → (GreenAgrees rec body i → ⊥)
      → Disagrees15 rec body (5 + i)
  cycle : CountAgrees rec body → ((i : ℕ) → i < count_in body → GreenAgrees rec body i) → (cycle_in body ≡ sum_in rec body (count_in body) → ⊥)
      → Disagrees15 rec body (5 + count_in body)
  offset : CountAgrees rec body → ((i : ℕ) → i < count_in body → GreenAgrees rec body i) → cycle_in body ≡ sum_in rec body (count_in body)
      → cycle_in body ≤ offset_in body
      → Disagrees15 rec body (6 + count_in body)

-- What is stored

-- the record of plan p is rec, and "No other record changes"
pub record RecordStored (book : List ℕ) (p : ℕ) (rec book' : List ℕ) : Type 0 where
  pub long : length book' ≡ 3840
  pub here : record_at book' p ≡ rec
  pub others : (q : ℕ) → 1 ≤ q → q ≤ 48 → (q ≡ p → ⊥) → record_at book' q ≡ record_at book q

-- the times of a phase in one are those in the other
pub record SameTimes (rec body : List ℕ) (i : ℕ) : Type 0 where
  pub minimum : minimum_of rec i ≡ minimum_of body i
  pub maximum : maximum_of rec i ≡ maximum_of body i
  pub yellow : yellow_of rec i ≡ yellow_of body i
  pub all_red : all_red_of rec i ≡ all_red_of body i
  pub walk_flash : walk_flash_of rec i ≡ walk_flash_of body i
  pub red_man : red_man_of rec i ≡ red_man_of body i

-- "An accepted 5F 14 writes state 01 and drops the greens": the record has the fields of the message and nothing else. Its octets: "state ..
-- 01 times set .., k, the 7k octets of 5F 14 ..; the rest zero"
pub record Holds14 (body rec : List ℕ) : Type 0 where
  pub octets : rec ≡ 0x01 ∷ (drop 1 body ++ replicate (78 - 7 * k_of body) 0)
  pub stands : TimesSet rec
  pub count : k_of rec ≡ k_of body
  pub times : (i : ℕ) → i < k_of body → SameTimes rec body i

-- "an accepted 5F 15 makes the plan ready": the record has the times that were stored and the fields of the message. Its octets: "02 ready ..,
-- k, the 7k octets of 5F 14, .. direct, order, 2k green octets, cycle, offset; the rest zero"
pub record Holds15 (old body rec : List ℕ) : Type 0 where
  pub octets : rec ≡ 0x02 ∷ (take (1 + 7 * k_of old) (drop 1 old) ++ (take 2 (drop 1 body) ++ (drop 4 body ++ replicate (72 - 9 * k_of old) 0)))
  pub stands : Ready rec
  pub count : k_of rec ≡ k_of old
  pub times : (i : ℕ) → i < k_of old → SameTimes rec old i
  pub direct : direct_of rec ≡ direct_in body
  pub order : order_of rec ≡ order_in body
  pub green : (i : ℕ) → i < count_in body → green_of rec i ≡ green_in body i
  pub cycle : cycle_of rec ≡ cycle_in body
  pub offset : offset_of rec ≡ offset_in body

-- What the contract of a set says: the call answers what is due, and leaves the book that is due.
abbrev pub SetsLeaveSo : Type 0
SetsLeaveSo = (w : Setting) (r : Answered) (b : List ℕ) → SetLeaves w r b → (r ≡ w.answer) × (b ≡ w.book)

-- A set's answer in 01's numbers: nothing refused, or the refusal and the field that it names. So is what a message makes: the record, or
-- none, 80 octets of 0.
pub record SetAnswers : Type 0 where
  pub done : set_answer (Ok tt) ≡ record { refusal = 0; field = 0 }
  pub refused : (e : Fault) → set_answer (Err e) ≡ record { refusal = refusal_number e.refusal; field = e.field }
  pub made : (rec : List ℕ) → making_of (Ok rec) ≡ record { refusal = 0; field = 0; rec = rec }
  pub none_made : (e : Fault) → making_of (Err e) ≡ record { refusal = refusal_number e.refusal; field = e.field; rec = replicate 80 0 }
  -- and from the numbers the answer is known
  pub apart : (r s : Result ⊤ Fault) → set_answer r ≡ set_answer s → r ≡ s

abbrev pub SetsAnswerSo : Type 0
SetsAnswerSo = SetAnswers

-- What every set refuses

-- "plan book is not 3,840 octets"; then "code not handled", of a message of another code, and 11 "for under two octets": no field is
-- named, and the book stays
pub record SetRefused (code : ℕ) (book info : List ℕ) (w : Setting) : Type 0 where
  pub wrong_book : (length book ≡ 3840 → ⊥) → w ≡ record { answer = record { refusal = 8; field = 0 }; book = book }
  pub other_code : length book ≡ 3840 → 2 ≤ length info → (code_in info ≡ code → ⊥) → w ≡ record { answer = record { refusal = 10; field = 0 }; book = book }
  pub no_code : length book ≡ 3840 → length info < 2 → w ≡ record { answer = record { refusal = 11; field = 0 }; book = book }

abbrev pub SetsRefuse : Type 0
SetsRefuse = (book info : List ℕ) → SetRefused 0x5F14 book info (set_times_of book info) × SetRefused 0x5F15 book info (set_plan_of book info)

-- Stored exactly when

-- of a book of the right length and a message 5F 14
pub record TimesJudged (book info : List ℕ) : Type 0 where
  -- all checks pass: its record is the message's fields
  pub rec : List ℕ
  pub stored : Fit14 (body_in info) → RecordStored book (plan_in (body_in info)) rec (set_times_of book info).book
  pub holds : Fit14 (body_in info) → Holds14 (body_in info) rec
  pub accepted : Fit14 (body_in info) → (set_times_of book info).answer.refusal ≡ 0
  pub none_named : Fit14 (body_in info) → (set_times_of book info).answer.field ≡ 0
  -- and only then
  pub only : (set_times_of book info).answer.refusal ≡ 0 → Fit14 (body_in info)
  -- otherwise the book is as it was, and the first failed check is named: by the message layer, or here
  pub kept : ((set_times_of book info).answer.refusal ≡ 0 → ⊥) → (set_times_of book info).book ≡ book
  pub unread : ((read_of info).refusal ≡ 0 → ⊥)
      → ((set_times_of book info).answer.refusal ≡ (read_of info).refusal) × ((set_times_of book info).answer.field ≡ (read_of info).field)
  pub named : (read_of info).refusal ≡ 0 → ((set_times_of book info).answer.refusal ≡ 0 → ⊥)
      → ((set_times_of book info).answer.refusal ≡ 14) × Disagrees14 (body_in info) (set_times_of book info).answer.field

abbrev pub TimesStoredExactlyWhen : Type 0
TimesStoredExactlyWhen = (book info : List ℕ) → length book ≡ 3840 → code_in info ≡ 0x5F14 → TimesJudged book info

-- of a book of the right length and a message 5F 15; `old` is what its plan has
pub record PlanJudged (book info old : List ℕ) : Type 0 where
  -- all checks pass: its record is what was stored and the message's fields
  pub rec : List ℕ
  pub stored : Fit15 old (body_in info) → RecordStored book (plan_in (body_in info)) rec (set_plan_of book info).book
  pub holds : Fit15 old (body_in info) → Holds15 old (body_in info) rec
  pub accepted : Fit15 old (body_in info) → (set_plan_of book info).answer.refusal ≡ 0
  pub none_named : Fit15 old (body_in info) → (set_plan_of book info).answer.field ≡ 0
  -- and only then
  pub only : (set_plan_of book info).answer.refusal ≡ 0 → Fit15 old (body_in info)
  -- otherwise the book is as it was, and the first failed check is named: by the message layer, or 13, or here
  pub kept : ((set_plan_of book info).answer.refusal ≡ 0 → ⊥) → (set_plan_of book info).book ≡ book
  pub unread : ((read_of info).refusal ≡ 0 → ⊥)
      → ((set_plan_of book info).answer.refusal ≡ (read_of info).refusal) × ((set_plan_of book info).answer.field ≡ (read_of info).field)
  pub unset : (read_of info).refusal ≡ 0 → (HasTimes old → ⊥)
      → ((set_plan_of book info).answer.refusal ≡ 13) × ((set_plan_of book info).answer.field ≡ 1)
  pub named : (read_of info).refusal ≡ 0 → HasTimes old → ((set_plan_of book info).answer.refusal ≡ 0 → ⊥)
      → ((set_plan_of book info).answer.refusal ≡ 14) × Disagrees15 old (body_in info) (set_plan_of book info).answer.field

abbrev pub PlanStoredExactlyWhen : Type 0
PlanStoredExactlyWhen =
    (book info : List ℕ) → length book ≡ 3840 → Octets book → code_in info ≡ 0x5F15 → PlanJudged book info (record_at book (plan_in (body_in info)))

-- Other plans

-- "No other record changes": a set of one plan leaves every other plan's reading as it was, plan 0's too
pub record OthersRead (book book' : List ℕ) (p : ℕ) : Type 0 where
  pub refusal : (copy : List ℕ) (q : ℕ) → (q ≡ p → ⊥) → read_refusal book' copy q ≡ read_refusal book copy q
  pub octets : (q : ℕ) → 1 ≤ q → q ≤ 48 → (q ≡ p → ⊥) → record_at book' q ≡ record_at book q

abbrev pub SetsLeaveOthers : Type 0
SetsLeaveOthers =
    (book info : List ℕ) → length book ≡ 3840 → Octets book
    → OthersRead book (set_times_of book info).book (plan_in (body_in info)) × OthersRead book (set_plan_of book info).book (plan_in (body_in info))

-- A well-formed book stays well formed.
abbrev pub WellFormed : List ℕ → Type 0
WellFormed rec = Empty rec ⊎ (TimesSet rec ⊎ Ready rec)

pub record BookWellFormed (book : List ℕ) : Type 0 where
  pub long : length book ≡ 3840
  pub each : (q : ℕ) → 1 ≤ q → q ≤ 48 → WellFormed (record_at book q)

abbrev pub SetsKeepForm : Type 0
SetsKeepForm =
    (book info : List ℕ) → Octets book → BookWellFormed book
    → BookWellFormed (set_times_of book info).book × BookWellFormed (set_plan_of book info).book

-- Reports

-- the report m has its code and the fields of the message that was sent
pub record Reports (m : Message) (c : ℕ) (sent : Message) : Type 0 where
  pub code : m.code ≡ c
  pub fields : m.fields ≡ sent.fields
  pub values : m.values ≡ sent.values

-- What was set is what is reported: 5F C4 after a 5F 14, 5F C5 and 5F C8 after a 5F 15
abbrev pub TimesReported : Type 0
TimesReported =
    (book info : List ℕ) → length book ≡ 3840 → code_in info ≡ 0x5F14 → Fit14 (body_in info)
    → Reports (report_times_of (record_at (set_times_of book info).book (plan_in (body_in info))) (plan_in (body_in info))) 0x5FC4 (read_of info).message

abbrev pub PlanReported : Type 0
PlanReported =
    (book info : List ℕ) (code : ℕ) → length book ≡ 3840 → Octets book → code_in info ≡ 0x5F15 → Fit15 (record_at book (plan_in (body_in info))) (body_in info)
    → (code ≡ 0x5FC5) ⊎ (code ≡ 0x5FC8)
    → Reports (report_plan_of (record_at (set_plan_of book info).book (plan_in (body_in info))) (plan_in (body_in info)) code) code (read_of info).message

-- no message: code 0, no fields, and 0 in every place
abbrev pub NoReport : Message → Type 0
NoReport m = m ≡ record { code = 0; fields = 0; values = replicate 50 0 }

-- the reader reads the report's octets, nothing refused, and the report is the message that it reads; a plan that is empty (00) has none of
-- its times, and one that is not ready (02) none of the rest
pub record ReportRead (rec : List ℕ) (p : ℕ) : Type 0 where
  pub times : (standing_of rec ≡ 0 → ⊥) → ((read_of (times_info rec p)).refusal ≡ 0) × (report_times_of rec p ≡ (read_of (times_info rec p)).message)
  pub plan : (code : ℕ) → standing_of rec ≡ 2 → (code ≡ 0x5FC5) ⊎ (code ≡ 0x5FC8)
      → ((read_of (plan_info rec p code)).refusal ≡ 0) × (report_plan_of rec p code ≡ (read_of (plan_info rec p code)).message)
  -- "Octets that are not such a record, checks included, read as empty."
  pub no_times : standing_of rec ≡ 0 → NoReport (report_times_of rec p)
  pub no_plan : (code : ℕ) → (standing_of rec ≡ 2 → ⊥) → NoReport (report_plan_of rec p code)
  pub other_code : (code : ℕ) → (code ≡ 0x5FC5 → ⊥) → (code ≡ 0x5FC8 → ⊥) → NoReport (report_plan_of rec p code)

-- Every plan that is not empty has a 5F C4, every ready one a 5F C5 and a 5F C8, and no other octets have: the report's octets are read as
-- a message, nothing refused.
abbrev pub ReportsRead : Type 0
ReportsRead = (rec : List ℕ) (p : ℕ) → p ≤ 48 → ReportRead rec p

-- "Plan is .. 0 to 48 elsewhere": a plan over 48 has no report.
abbrev pub NoReportOver48 : Type 0
NoReportOver48 = (rec : List ℕ) (p code : ℕ) → 48 < p → NoReport (report_times_of rec p) × NoReport (report_plan_of rec p code)

-- Octets pass as one of the built-in records exactly when they are its 80 octets, whatever their length.
abbrev pub BuiltInKnown : Type 0
BuiltInKnown = (which : Which) (rec : List ℕ) → (same rec (built_in which) ≡ true → rec ≡ built_in which) × (rec ≡ built_in which → same rec (built_in which) ≡ true)

-- Reading a plan: what comes of it, and why. "8 if either length is wrong, then 12 for a plan over 48, then 13 for an empty plan,
-- or for plan 0 where the copy differs from the built-in record." 02, E1: "reading a plan takes a copy of either"
pub data ReadingJudged (book copy : List ℕ) (p : ℕ) : ℕ → Type 0 where
  wrong_length : (length book ≡ 3840 → length copy ≡ 80 → ⊥) → ReadingJudged book copy p 8
  over_range : length book ≡ 3840 → length copy ≡ 80 → 48 < p → ReadingJudged book copy p 12
  unlike : length book ≡ 3840 → length copy ≡ 80 → p ≡ 0 → (copy ≡ built_in New → ⊥) → (copy ≡ built_in Old → ⊥) → ReadingJudged book copy p 13
  empty_plan : length book ≡ 3840 → length copy ≡ 80 → 1 ≤ p → p ≤ 48 → (HasTimes (record_at book p) → ⊥) → ReadingJudged book copy p 13
  built_in_read : (which : Which) → length book ≡ 3840 → p ≡ 0 → copy ≡ built_in which → ReadingJudged book copy p 0
  book_read : length book ≡ 3840 → length copy ≡ 80 → 1 ≤ p → p ≤ 48 → HasTimes (record_at book p) → ReadingJudged book copy p 0

-- "When, and only then": refusals 8, 12 and 13 of reading a plan.
abbrev pub PlansReadSo : Type 0
PlansReadSo =
    (book copy : List ℕ) (p n : ℕ) → Octets book
    → (ReadingJudged book copy p n → n ≡ read_refusal book copy p) × (n ≡ read_refusal book copy p → ReadingJudged book copy p n)

-- What reading gives back, beside the refusal: "gives back a part of the plan book or of the built-in record. It refuses with an empty part".
-- `why` is the refusal, and r the part, by its octets and by the place where it stands.
pub record PartGiven (book copy : Bor (List ℕ)) (p : ℕ) (r : Bor (List ℕ)) (why : ℕ) : Type 0 where
  -- 8, 12 or 13, and 0 for none: when, and only then
  pub judged : ReadingJudged book.now copy.now p why
  pub refused : (why ≡ 0 → ⊥) → r.now ≡ []
  -- plan 0: all of the copy that was lent, which then is one of the built-in records
  pub built_in_all : why ≡ 0 → p ≡ 0 → (r.ref_ptr ≡ copy.ref_ptr) × (r.now ≡ copy.now) × ((which : Which) × (copy.now ≡ built_in which))
  -- "Plan p, 1 to 48, has 80 octets from 80(p-1)"
  pub of_book : why ≡ 0 → 1 ≤ p → (r.ref_ptr ≡ (book.ref_ptr.0, 80 * (p - 1) + book.ref_ptr.1)) × (r.now ≡ take 80 (drop (80 * (p - 1)) book.now))

abbrev pub PartsGivenSo : Type 0
PartsGivenSo = (book copy r : Bor (List ℕ)) (p why : ℕ) → Octets book.now → PlanRead book copy p r why → PartGiven book copy p r why
