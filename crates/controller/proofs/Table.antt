-- The one table, by computation. A call in a sound state is not refused 7 and leaves a sound one, so that soundness is not computed again at each octet.
use Prim.Native.Nat.{ℕ}
use mathlib.Core.Path.{◌≡◌, refl, ◌∙◌}
use mathlib.Core.Bool.{true}
use mathlib.Core.List.{List, [], ◌∷◌, ◌++◌}
use native.Mathlib.Omega.{arith}
use lib.ListN.{replicate, length-replicate}
use Rattle.octets.specs.ExclusiveOr.{xor, exclusive_or}
use Rattle.octets.specs.First.{first_of}
use Rattle.octets.specs.Octet.{Octets}
use Rattle.octets.specs.Same.{same}
use Rattle.diagram.specs.Rows as table
use Rattle.diagram.specs.Table as diagram
use Rattle.frame.specs.Frame.{front_of, body_of, sent_of, cks_of, twice, doubled, written}
use Rattle.frame.specs.Decoder.{fresh_head, possible_of, front_in, cks_in, step_of, taken_of}
use Rattle.message.specs.Layouts.{layouts, layout_at, known, number_of, rows_at, layout_rows}
use Rattle.message.specs.Values.{zeros, placed, first_out}
use Rattle.message.specs.Reader.{no_message, not_read, part_of, ranged_of, read_part_of, read_of}
use Rattle.record.specs.Record.{book_len, empty_book}
use Rattle.checks.specs.Standing.{times_disagree, plan_disagree, ranged, times_stand, plan_stands, ready_stands, all_zero, standing_of}
use Rattle.plan.specs.declared.Which.{Which}
use Rattle.plan.specs.declared.Which.TheVariants.{New, Old}
use Rattle.plan.specs.BuiltIn.{padded, built_in}
use Rattle.plan.specs.Reporting.{plan_info}
use Rattle.lamps.specs.Rows.{phase_table, seconds_of}
use Rattle.controller.specs.Memory.{is_repeat, remembering}
use Rattle.controller.specs.Sender.{sending, ack_turn}
use Rattle.controller.specs.State.{State, output_len, fresh_of, sound_of}
use Rattle.controller.specs.Handling.{reply_info, run_as, handling_of}
use Rattle.controller.specs.Replies.{replied_of, accepted_of, met_with_silence, message_of, answered_of, memory_of, done_of, octet_of}
use Rattle.controller.specs.Table.{empty_out, written_by, came_out, state_after, p1, ack_of_p3, p4, step_row, start_at1, rows, due, OneTable}
use Rattle.controller.proofs.Laws.{takes, octet-done}
use Rattle.controller.proofs.Keeping.{sound-kept, fresh-sound}

-- what calls that are not refused make of octets: what they write, and the state then
unfoldable done_with : State → List ℕ → List ℕ × State
done_with s [] = ([], s)
done_with s (b ∷ bs) =
    let w = done_of s (takes s b) empty_book empty_out in
    let rest = done_with w.answer.state bs in
    (written_by w ++ rest.0, rest.1)

-- no call is refused
record AllDone (s : State) (bs : List ℕ) : Type 0 where
  pub out : came_out s bs ≡ (done_with s bs).0
  pub state : state_after s bs ≡ (done_with s bs).1
  pub sound : sound_of (state_after s bs) ≡ true

all_done : (s : State) (bs : List ℕ) → Octets bs → sound_of s ≡ true → AllDone s bs
unfolding came_out state_after done_with
all_done s [] o h = record { out = refl; state = refl; sound = h }
all_done s (b ∷ bs) o h =
    let e = octet-done s empty_book empty_out b h (length-replicate {A = ℕ} book_len 0) (omega (arith, length-replicate {A = ℕ} output_len 0)) in
    let r = all_done (octet_of s empty_book empty_out b).answer.state bs o.1 ((sound-kept s).octet empty_book empty_out b o.0 h) in
    record { out = rw (r.out, e); state = r.state ∙ rw e; sound = r.sound }

module _ (which : Which) where
  abbrev start : State
  start = start_at1 which

  after-p1 : AllDone start p1
  after-p1 = all_done start p1 (omega arith) (fresh-sound which 0x0001 10 (replicate 768 0) (λ e. omega arith) (omega arith) (omega arith) (omega (arith, length-replicate {A = ℕ} 768 0)))

  after-ack : AllDone (state_after start p1) ack_of_p3
  after-ack = all_done (state_after start p1) ack_of_p3 (omega arith) after-p1.sound

  after-p4 : AllDone (state_after (state_after start p1) ack_of_p3) p4
  after-p4 = all_done (state_after (state_after start p1) ack_of_p3) p4 (omega arith) after-ack.sound

  ack-out : came_out (state_after start p1) ack_of_p3 ≡ (done_with (done_with start p1).1 ack_of_p3).0
  ack-out = after-ack.out ∙ rw after-p1.state

  p4-out : came_out (state_after (state_after start p1) ack_of_p3) p4 ≡ (done_with (done_with (done_with start p1).1 ack_of_p3).1 p4).0
  p4-out = after-p4.out ∙ rw (after-ack.state, after-p1.state)

-- the rows as such calls have them
abbrev rows_done : Which → List (List ℕ)
rows_done which =
    let step = step_row which in
    step 1 ∷ step 2 ∷ step 3 ∷ step 4 ∷ step 5 ∷ step 6 ∷ step 7 ∷ step 8 ∷ step 9 ∷ step 10
    ∷ (done_with (start which) p1).0
    ∷ (done_with (done_with (start which) p1).1 ack_of_p3).0
    ∷ (done_with (done_with (done_with (start which) p1).1 ack_of_p3).1 p4).0
    ∷ []

computed : rows_done New ++ rows_done Old ≡ due
unfolding xor exclusive_or first_of same is_repeat remembering diagram.find table.directory diagram.diagram_of table.lamp_rows diagram.row_number diagram.lamp_row_of front_of body_of sent_of cks_of twice doubled written fresh_head possible_of front_in cks_in step_of taken_of layouts layout_at known number_of rows_at layout_rows zeros placed first_out no_message not_read part_of ranged_of read_part_of read_of times_disagree plan_disagree ranged times_stand plan_stands ready_stands all_zero standing_of padded built_in plan_info phase_table seconds_of fresh_of reply_info run_as handling_of sending ack_turn replied_of accepted_of met_with_silence message_of answered_of memory_of done_of done_with due
computed = refl

pub one_table : OneTable
unfolding rows
one_table = rw ((after-p1 New).out, ack-out New, p4-out New, (after-p1 Old).out, ack-out Old, p4-out Old) computed
