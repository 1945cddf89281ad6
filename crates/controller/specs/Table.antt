-- 01, "Lamps and seconds" and "Cases, own address 0001": the ten step rows and P1 to P5, one table.
--
-- 02, E1: "Step 1 then starts at 28 .. P3's report (greens 00 23, cycle 00 50, CKS AB)": the new start's rows, and beside them the old one's.
use Rattle.std.specs.Prelude.{ℕ, ◌≡◌, List, [], ◌∷◌, ◌++◌, take, replicate}
use Rattle.diagram.specs.Table.{steady_of, flashing_of}
use Rattle.record.specs.Record.{empty_book}
use Rattle.plan.specs.declared.Which.{Which}
use Rattle.plan.specs.declared.Which.TheVariants.{New, Old}
use Rattle.plan.specs.BuiltIn.{built_in}
use Rattle.lamps.specs.Rows.{seconds_of}
use Rattle.controller.specs.State.{State, output_len, fresh_of}
use Rattle.controller.specs.Replies.{Call, octet_of}

-- octets go in one by one, each with an empty book and an output of zeros; what comes out of each call, one after another
abbrev pub empty_out : List ℕ
empty_out = replicate output_len 0

abbrev pub written_by : Call → List ℕ
written_by w = take w.answer.told.count w.out

unfoldable pub came_out : State → List ℕ → List ℕ
came_out s [] = []
came_out s (b ∷ bs) = let w = octet_of s empty_book empty_out b in written_by w ++ came_out w.answer.state bs

unfoldable pub state_after : State → List ℕ → State
state_after s [] = s
state_after s (b ∷ bs) = state_after (octet_of s empty_book empty_out b).answer.state bs

-- "P1 fresh"; 02, E6: "P3 is acknowledged before P4"; "P4 next, run empty plan 3"
abbrev pub p1 : List ℕ
p1 = 0xAA ∷ 0xBB ∷ 0x07 ∷ 0x00 ∷ 0x01 ∷ 0x00 ∷ 0x0C ∷ 0x5F ∷ 0x48 ∷ 0xAA ∷ 0xCC ∷ 0x6A ∷ []

abbrev pub ack_of_p3 : List ℕ
ack_of_p3 = 0xAA ∷ 0xDD ∷ 0x00 ∷ 0x00 ∷ 0x01 ∷ 0x00 ∷ 0x08 ∷ 0x7E ∷ []

abbrev pub p4 : List ℕ
p4 = 0xAA ∷ 0xBB ∷ 0x08 ∷ 0x00 ∷ 0x01 ∷ 0x00 ∷ 0x0D ∷ 0x5F ∷ 0x18 ∷ 0x03 ∷ 0xAA ∷ 0xCC ∷ 0x37 ∷ []

-- a step's row: "Steady, flashing", and its seconds with plan 0
abbrev pub step_row : Which → ℕ → List ℕ
step_row which step = steady_of 0 step ∷ flashing_of 0 step ∷ seconds_of (built_in which) step ∷ []

-- a fresh start, with T = 10 as the listing has it
abbrev pub start_at1 : Which → State
start_at1 which = fresh_of which 0x0001 10 (replicate 768 0)

-- the ten step rows, then what comes out when P1 goes in after this start, when the ACK of P3 goes in next, and then P4
abbrev pub rows_of_start : Which → List (List ℕ)
rows_of_start which =
    let step = step_row which in
    step 1 ∷ step 2 ∷ step 3 ∷ step 4 ∷ step 5 ∷ step 6 ∷ step 7 ∷ step 8 ∷ step 9 ∷ step 10
    ∷ came_out (start_at1 which) p1
    ∷ came_out (state_after (start_at1 which) p1) ack_of_p3
    ∷ came_out (state_after (state_after (start_at1 which) p1) ack_of_p3) p4
    ∷ []

unfoldable pub rows : List (List ℕ)
rows = rows_of_start New ++ rows_of_start Old

-- "| Step | Steady, flashing | Seconds |", where steps 1 and 6 have so many; "P2 its ACK", then P3; nothing for the ACK of P3; the ACK of P4, "P5 its
-- message"
abbrev pub due_with : ℕ → List ℕ → List (List ℕ)
due_with first report =
    (0x41418888 ∷ 0 ∷ first ∷ [])
    ∷ (0x41410808 ∷ 0x8080 ∷ 5 ∷ [])
    ∷ (0x41414848 ∷ 0 ∷ 2 ∷ [])
    ∷ (0x41414242 ∷ 0 ∷ 3 ∷ [])
    ∷ (0x41414141 ∷ 0 ∷ 2 ∷ [])
    ∷ (0x88884141 ∷ 0 ∷ first ∷ [])
    ∷ (0x08084141 ∷ 0x80800000 ∷ 5 ∷ [])
    ∷ (0x48484141 ∷ 0 ∷ 2 ∷ [])
    ∷ (0x42424141 ∷ 0 ∷ 3 ∷ [])
    ∷ (0x41414141 ∷ 0 ∷ 2 ∷ [])
    ∷ ((0xAA ∷ 0xDD ∷ 0x07 ∷ 0x00 ∷ 0x01 ∷ 0x00 ∷ 0x08 ∷ 0x79 ∷ []) ++ report)
    ∷ []
    ∷ ((0xAA ∷ 0xDD ∷ 0x08 ∷ 0x00 ∷ 0x01 ∷ 0x00 ∷ 0x08 ∷ 0x76 ∷ [])
    ++ (0xAA ∷ 0xBB ∷ 0x01 ∷ 0x00 ∷ 0x01 ∷ 0x00 ∷ 0x10 ∷ 0x0F ∷ 0x81 ∷ 0x5F ∷ 0x18 ∷ 0x0D ∷ 0x01 ∷ 0xAA ∷ 0xCC ∷ 0xA2 ∷ []))
    ∷ []

-- "P3 its report": "(greens 00 23, cycle 00 50, CKS AB)", and the old one
abbrev pub p3 : List ℕ
p3 =
    0xAA ∷ 0xBB ∷ 0x00 ∷ 0x00 ∷ 0x01 ∷ 0x00 ∷ 0x18 ∷ 0x5F ∷ 0xC8 ∷ 0x00 ∷ 0x00 ∷ 0x00 ∷ 0x02 ∷ 0x00 ∷ 0x23 ∷ 0x00 ∷ 0x23 ∷ 0x00 ∷ 0x50 ∷ 0x00 ∷ 0x00 ∷ 0xAA ∷ 0xCC ∷ 0xAB ∷ []

abbrev pub old_p3 : List ℕ
old_p3 =
    0xAA ∷ 0xBB ∷ 0x00 ∷ 0x00 ∷ 0x01 ∷ 0x00 ∷ 0x18 ∷ 0x5F ∷ 0xC8 ∷ 0x00 ∷ 0x00 ∷ 0x00 ∷ 0x02 ∷ 0x00 ∷ 0x19 ∷ 0x00 ∷ 0x19 ∷ 0x00 ∷ 0x3C ∷ 0x00 ∷ 0x00 ∷ 0xAA ∷ 0xCC ∷ 0xC7 ∷ []

-- "Step 1 then starts at 28"; with the old one at 18
unfoldable pub due : List (List ℕ)
due = due_with 28 p3 ++ due_with 18 old_p3

abbrev pub OneTable : Type 0
OneTable = rows ≡ due
