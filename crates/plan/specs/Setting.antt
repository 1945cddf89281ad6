-- 01, "Messages" and "Plan book": what is stored.
--
-- "An accepted 5F 14 writes state 01 and drops the greens; an accepted 5F 15 makes the plan ready. No other record changes."
use Rattle.std.specs.Prelude.{ℕ, ◌+◌, ◌*◌, ◌-◌, ◌/◌, ◌%◌, ◌≡◌, Bool, not, List, ◌∷◌, ◌++◌, Result, Ok, Err, ⊤, eqb, leb, length, drop, replicate}
use Rattle.std.proofs.lemmas.List.Edits.{sets}
use Rattle.octets.specs.Choice.{pick, both}
use Rattle.octets.specs.Part.{code_len}
use Rattle.octets.specs.Refusal as refusal
use Rattle.octets.specs.Refusals.{refusal_number}
use Rattle.message.specs.declared.Fault.{Fault}
use Rattle.message.specs.Names.{plan_at, maximum_at, red_man_at, plan_count_at}
use Rattle.message.specs.Reader.{code_in, body_in, read_of}
use Rattle.record.specs.Record.{record_len, book_len, plans_most, empty, times_set, ready, octet_at, k_of, times_end, Within}
use Rattle.checks.specs.Standing.{between, times_disagree, plan_disagree, standing_of}
use Rattle.plan.specs.BuiltIn.{padded}
use Rattle.plan.specs.Reading.{record_start, record_at}

-- The octets after the code

-- 5F 14: "plan, count k, then k times: minimum green, maximum green(2), yellow, all-red, walk flash, red man". The count and the
-- times stand where a record has them, the plan where it has its state.
abbrev pub plan_in : List ℕ → ℕ
plan_in body = octet_at body 0

pub record Times14 (body : List ℕ) : Type 0 where
  pub long : length body ≡ times_end body
  pub plan : Within 1 (plan_in body) plans_most
  pub count : Within 1 (k_of body) 8

-- 5F 15: "plan, direct, phase order, count k, k greens(2), cycle(2), offset(2)"
abbrev pub count_in : List ℕ → ℕ
count_in body = octet_at body 3

pub record Plan15 (body : List ℕ) : Type 0 where
  pub long : length body ≡ 8 + 2 * count_in body
  pub plan : Within 1 (plan_in body) plans_most
  pub count : Within 1 (count_in body) 8

-- The records

-- "state .. 01 times set .., k, the 7k octets of 5F 14 ..; the rest zero"
unfoldable pub times_record : List ℕ → List ℕ
times_record body = padded (times_set ∷ drop 1 body)

-- "02 ready .., k, the 7k octets of 5F 14, and if ready direct, order, 2k green octets, cycle, offset; the rest zero"
unfoldable pub ready_record : List ℕ → List ℕ → List ℕ
ready_record rec body = padded ((ready ∷ between 1 (times_end rec) rec) ++ (between 1 3 body ++ drop 4 body))

-- What a message makes: the record, or the refusal and the number of the field that it names.
pub record NewRecord : Type 0 where
  pub refusal : ℕ
  pub field : ℕ
  pub rec : List ℕ

abbrev pub made : List ℕ → NewRecord
made rec = record { refusal = refusal.none; field = 0; rec = rec }

unfoldable pub not_made : ℕ → ℕ → NewRecord
not_made n field = record { refusal = n; field = field; rec = replicate record_len 0 }

-- what the code makes: the record, or why there is none
abbrev pub making_of : Result (List ℕ) Fault → NewRecord
making_of (Ok rec) = made rec
making_of (Err e) = not_made (refusal_number e.refusal) e.field

-- the field that the check of this number, from 1, names: "(names maximum)", "(names red man)"
unfoldable pub times_field : ℕ → ℕ
times_field n = pick (eqb ((n - 1) % 2) 0) (maximum_at ((n - 1) / 2)) (red_man_at ((n - 1) / 2))

-- "each naming its own field": the checks are the fields' from the count on
abbrev pub plan_field : ℕ → ℕ
plan_field n = n + (plan_count_at - 1)

-- "Agreement, 5F 14, phase by phase"
unfoldable pub times_made : List ℕ → NewRecord
times_made body = pick (eqb (times_disagree body) 0) (made (times_record body)) (not_made refusal.disagree (times_field (times_disagree body)))

-- "5F 15: refusal 13 if the plan has no 5F 14; then .. count equal to the stored count", and the checks of the record that it makes
unfoldable pub ready_made : List ℕ → List ℕ → NewRecord
ready_made rec body =
    pick (eqb (standing_of rec) empty) (not_made refusal.not_ready plan_at)
    (pick (eqb (count_in body) (k_of rec))
    (pick (eqb (plan_disagree (ready_record rec body)) 0) (made (ready_record rec body))
    (not_made refusal.disagree (plan_field (plan_disagree (ready_record rec body)))))
    (not_made refusal.disagree plan_count_at))

-- The calls

-- What a set answers: the refusal, and the number of the field that it names.
pub record Answered : Type 0 where
  pub refusal : ℕ
  pub field : ℕ

pub record Setting : Type 0 where
  pub answer : Answered
  pub book : List ℕ

-- the call answered r and left b in the book, as it should
pub record SetLeaves (w : Setting) (r : Answered) (b : List ℕ) : Type 0 where
  pub answer : r ≡ w.answer
  pub book : b ≡ w.book

abbrev pub answered : ℕ → ℕ → Answered
answered n field = record { refusal = n; field = field }

-- what the code answers: done, or why it is refused
abbrev pub set_answer : Result ⊤ Fault → Answered
set_answer (Ok d) = answered refusal.none 0
set_answer (Err e) = answered (refusal_number e.refusal) e.field

-- what is made is the record of plan p, and the rest of the book stays; where nothing is made, all of it stays
unfoldable pub kept_as : ℕ → NewRecord → List ℕ → Setting
kept_as p m book =
    pick (eqb m.refusal refusal.none) (record { answer = answered refusal.none 0; book = sets book (record_start p) m.rec })
    (record { answer = answered m.refusal m.field; book = book })

abbrev pub set_times_code : ℕ
set_times_code = 0x5F14

abbrev pub set_plan_code : ℕ
set_plan_code = 0x5F15

-- the code is there and is another: under two octets there is none
abbrev pub other_code : ℕ → List ℕ → Bool
other_code code info = both (leb code_len (length info)) (not (eqb (code_in info) code))

-- "plan book is not 3,840 octets"; then "code not handled", of any other; then what the message reader refuses: "10 to 14 in a message"
unfoldable pub set_front : ℕ → ℕ → List ℕ → Answered
set_front n code info =
    pick (not (eqb n book_len)) (answered refusal.book_wrong 0)
    (pick (other_code code info) (answered refusal.code_not_handled 0)
    (answered (read_of info).refusal (read_of info).field))

-- then the agreement
unfoldable pub set_of : ℕ → NewRecord → List ℕ → List ℕ → Setting
set_of code m book info =
    pick (eqb (set_front (length book) code info).refusal refusal.none) (kept_as (plan_in (body_in info)) m book)
    (record { answer = set_front (length book) code info; book = book })

abbrev pub set_times_of : List ℕ → List ℕ → Setting
set_times_of book info = set_of set_times_code (times_made (body_in info)) book info

abbrev pub set_plan_of : List ℕ → List ℕ → Setting
set_plan_of book info = set_of set_plan_code (ready_made (record_at book (plan_in (body_in info))) (body_in info)) book info
