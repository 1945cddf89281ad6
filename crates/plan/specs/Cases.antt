-- 01, "Cases": those of the plan book, and some more beside them, computed.
use Rattle.std.specs.Prelude.{ℕ, ◌-◌, ◌≡◌, List, [], ◌∷◌, ◌++◌, length, replicate}
use Rattle.message.specs.Reader.{body_in}
use Rattle.plan.specs.Setting.{Answered, times_record, ready_record, set_times_of, set_plan_of}
use Rattle.record.specs.Record.{empty_book}
use Rattle.checks.specs.Standing.{standing_of}

-- a phase's times: this minimum, maximum 90, yellow 3, all-red 2, walk flash 15, red man 6
abbrev phase : ℕ → List ℕ
phase least = least ∷ 0 ∷ 90 ∷ 3 ∷ 2 ∷ 15 ∷ 6 ∷ []

-- a 5F 14 of plan 1 with two such phases
abbrev info14 : ℕ → List ℕ
info14 least = (0x5F ∷ 0x14 ∷ 1 ∷ 2 ∷ phase least) ++ phase least

-- a 5F 15 of plan 1 with this phase order: greens 25, cycle 60, this offset; with one phase, another count than stored; with three
abbrev info15 : ℕ → ℕ → List ℕ
info15 order offset = 0x5F ∷ 0x15 ∷ 1 ∷ 0 ∷ order ∷ 2 ∷ 0 ∷ 25 ∷ 0 ∷ 25 ∷ 0 ∷ 60 ∷ 0 ∷ offset ∷ []

abbrev one_phase : List ℕ
one_phase = 0x5F ∷ 0x15 ∷ 1 ∷ 0 ∷ 0 ∷ 1 ∷ 0 ∷ 25 ∷ 0 ∷ 30 ∷ 0 ∷ 0 ∷ []

abbrev three_phases : ℕ → List ℕ
three_phases order = 0x5F ∷ 0x15 ∷ 1 ∷ 0 ∷ order ∷ 3 ∷ 0 ∷ 25 ∷ 0 ∷ 25 ∷ 0 ∷ 25 ∷ 0 ∷ 90 ∷ 0 ∷ 0 ∷ []

-- a book of 3,840 octets with this record so many octets from its beginning, and nothing else
abbrev book_with : ℕ → List ℕ → List ℕ
book_with before rec = replicate before 0 ++ (rec ++ replicate (3840 - before - length rec) 0)

-- what a 5F 14 stores of two such phases (`books_left` below), and of three
abbrev two_stored : List ℕ
two_stored = (0x01 ∷ 2 ∷ phase 22) ++ phase 23

abbrev three_stored : List ℕ
three_stored = (0x01 ∷ 3 ∷ phase 22) ++ phase 22 ++ phase 22

unfoldable pub set_answers : List Answered
set_answers =
    (set_times_of empty_book (info14 21)).answer  -- "Minimum 21 with flash 15 and red man 6: refused 14."
    ∷ (set_times_of empty_book (info14 22)).answer  -- "Minimum 22: stored."
    ∷ (set_plan_of empty_book (info15 0x00 59)).answer  -- no 5F 14
    ∷ (set_plan_of (book_with 0 two_stored) one_phase).answer
    ∷ (set_plan_of (book_with 0 two_stored) (info15 0x00 60)).answer  -- "Offset equal to a cycle under 900 is 14."
    ∷ (set_plan_of (book_with 0 two_stored) (info15 0x00 59)).answer
    ∷ (set_plan_of (book_with 0 two_stored) (info15 0x22 59)).answer  -- "Diagram number 22 used as a phase order"
    ∷ (set_plan_of (book_with 0 two_stored) (info15 0x20 59)).answer  -- 02, E2: "A plan's count must equal its diagram's."
    ∷ (set_plan_of (book_with 0 three_stored) (info15 0x20 59)).answer
    ∷ (set_plan_of (book_with 0 three_stored) (three_phases 0x20)).answer
    ∷ []

unfoldable pub due_set_answers : List Answered
due_set_answers =
    record { refusal = 14; field = 8 }
    ∷ record { refusal = 0; field = 0 }
    ∷ record { refusal = 13; field = 1 }
    ∷ record { refusal = 14; field = 4 }
    ∷ record { refusal = 14; field = 8 }
    ∷ record { refusal = 0; field = 0 }
    ∷ record { refusal = 12; field = 3 }
    ∷ record { refusal = 14; field = 4 }
    ∷ record { refusal = 14; field = 4 }
    ∷ record { refusal = 0; field = 0 }
    ∷ []

-- how the records that the two make stand
unfoldable pub stands : List ℕ
stands = standing_of (times_record (body_in (info14 22))) ∷ standing_of (ready_record (times_record (body_in (info14 22))) (body_in (info15 0x00 59))) ∷ []

unfoldable pub due_stands : List ℕ
due_stands = 0x01 ∷ 0x02 ∷ []

abbrev pub PlanCases : Type 0
PlanCases = (set_answers ≡ due_set_answers) × (stands ≡ due_stands)

-- Beside 01's own: the book's octets, and checks that fail.

-- a 5F 14 of this plan whose phases have these minimums
abbrev times14 : ℕ → ℕ → ℕ → List ℕ
times14 p a b = (0x5F ∷ 0x14 ∷ p ∷ 2 ∷ phase a) ++ phase b

-- a 5F 15 of this plan with these greens and this cycle
abbrev greens15 : ℕ → ℕ → ℕ → ℕ → List ℕ
greens15 p a b cycle = 0x5F ∷ 0x15 ∷ p ∷ 7 ∷ 0 ∷ 2 ∷ 0 ∷ a ∷ 0 ∷ b ∷ 0 ∷ cycle ∷ 0 ∷ 59 ∷ []

-- the book after a 5F 14 of plan 1, and of plan 2; and after a 5F 15 then
unfoldable pub books_left : List (List ℕ)
books_left =
    (set_times_of empty_book (times14 1 22 23)).book
    ∷ (set_times_of empty_book (times14 2 22 23)).book
    ∷ (set_plan_of (book_with 0 two_stored) (greens15 1 25 25 60)).book
    ∷ (set_plan_of (book_with 80 two_stored) (greens15 2 25 25 60)).book
    ∷ []

abbrev two_ready : List ℕ
two_ready = (0x02 ∷ 2 ∷ phase 22) ++ phase 23 ++ (7 ∷ 0 ∷ 0 ∷ 25 ∷ 0 ∷ 25 ∷ 0 ∷ 60 ∷ 0 ∷ 59 ∷ [])

unfoldable pub due_books_left : List (List ℕ)
due_books_left = book_with 0 two_stored ∷ book_with 80 two_stored ∷ book_with 0 two_ready ∷ book_with 80 two_ready ∷ []

-- 5F 14: the first phase's maximum 90 below its minimum, the second's; walk flash plus red man not less than the second's minimum
unfoldable pub failed_times : List Answered
failed_times =
    (set_times_of empty_book (times14 1 91 22)).answer ∷ (set_times_of empty_book (times14 1 22 91)).answer ∷ (set_times_of empty_book (times14 1 22 21)).answer ∷ []

unfoldable pub due_failed_times : List Answered
due_failed_times = record { refusal = 14; field = 4 } ∷ record { refusal = 14; field = 10 } ∷ record { refusal = 14; field = 14 } ∷ []

-- 5F 15: a green below its phase's minimum, and one above its maximum; a cycle that is not the sum; the plan beside the one that has its times
unfoldable pub failed_plans : List Answered
failed_plans =
    let b = book_with 80 two_stored in
    (set_plan_of b (greens15 2 21 25 60)).answer
    ∷ (set_plan_of b (greens15 2 25 91 60)).answer
    ∷ (set_plan_of b (greens15 2 25 25 61)).answer
    ∷ (set_plan_of b (greens15 1 25 25 60)).answer
    ∷ []

unfoldable pub due_failed_plans : List Answered
due_failed_plans =
    record { refusal = 14; field = 5 } ∷ record { refusal = 14; field = 6 } ∷ record { refusal = 14; field = 7 } ∷ record { refusal = 13; field = 1 } ∷ []

abbrev pub SetCases : Type 0
SetCases = (books_left ≡ due_books_left) × (failed_times ≡ due_failed_times) × (failed_plans ≡ due_failed_plans)
