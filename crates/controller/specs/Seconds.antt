-- 01, "Lamps and seconds": the fresh start, and what a second call answers and leaves in the state.
use Rattle.std.specs.Prelude.{ℕ, ◌+◌, ◌≡◌, not, List, eqb, ltb, leb, length}
use Rattle.std.proofs.lemmas.List.Edits.{sets}
use Rattle.octets.specs.Choice.{pick}
use Rattle.octets.specs.Refusal as refusal
use Rattle.record.specs.Record.{book_len, cycle_of}
use Rattle.plan.specs.declared.Which.{Which}
use Rattle.plan.specs.declared.Which.TheVariants.{New, Old}
use Rattle.lamps.specs.declared.Row.{Row}
use Rattle.lamps.specs.Rows.{row_at, no_row}
use Rattle.controller.specs.declared.Running.{Running}
use Rattle.controller.specs.declared.Event.TheVariants as event
use Rattle.controller.specs.declared.Link.TheVariants as link
use Rattle.controller.specs.Told.{ToldInNumbers, told_of}
use Rattle.controller.specs.declared.HeldAnswer.{HeldAnswer}
use Rattle.controller.specs.declared.HeldShown.{HeldShown}
use Rattle.controller.specs.Replies.{Answer, answer_with, sent, resent}
use Rattle.controller.specs.Sender.{wait_fits, second_turn}
use Rattle.controller.specs.State.{State, joined, output_len, all, fresh_of, sound_of, started_at, plan_record, ready_in, with_second}

-- The fresh start, with the new plan 0 or the old: "fresh start with address FFFF": "a fresh state but for own address FFFF, so unsound"; 02, E6: "17 (T
-- outside 1 to 60), at the start only, after 6; the state holds that T and is unsound"

-- a call that tells its refusal alone
abbrev pub tells : ℕ → ToldInNumbers
tells n = record { refusal = n; parameter = 0; event = event.Nothing; count = 0; dropped = 0; link = link.Still }

unfoldable pub started_of : Which → ℕ → ℕ → List ℕ → Answer
started_of which own wait kept =
    record {
      state = fresh_of which own wait kept;
      told = tells (pick (eqb own all) refusal.start_wrong (pick (not (wait_fits wait)) refusal.wait_wrong refusal.none));
    }

-- 02, E1: "the plain start takes the new one"; "A start call that names the old built-in plan stays"
abbrev pub plain_start_of : ℕ → ℕ → List ℕ → Answer
plain_start_of own wait kept = started_of New own wait kept

abbrev pub old_start_of : ℕ → ℕ → List ℕ → Answer
old_start_of own wait kept = started_of Old own wait kept

-- a start is lent no octets: it answers so with whatever octets are kept
abbrev pub StartsWith : (List ℕ → Answer) → HeldAnswer → Type 0
StartsWith w r = (kept : List ℕ) → answer_with r kept ≡ w kept

-- The second call

-- what it answers: the state, what it tells, the plan and its row; and the output that it leaves
pub record Shown : Type 0 where
  pub state : State
  pub told : ToldInNumbers
  pub plan : ℕ
  pub row : Row
  pub out : List ℕ

-- "the requested one if it is plan 0 or ready in the book; if not, the running plan repeats"
unfoldable pub picked_of : Running → ℕ → List ℕ → Running
picked_of u requested book =
    pick (ready_in u.which book requested) (started_at u.which requested (plan_record u.which book requested))
    (started_at u.which u.plan u.copy)

-- "then moves on. The call that answers a cycle's last second also picks the next plan"
unfoldable pub moved_on : Running → ℕ → List ℕ → Running
moved_on u requested book =
    pick (ltb (u.position + 1) (cycle_of u.copy)) (record { which = u.which; plan = u.plan; position = u.position + 1; copy = u.copy })
    (picked_of u requested book)

unfoldable pub no_second : State → ℕ → List ℕ → Shown
no_second s n out = record { state = s; told = tells n; plan = 0; row = no_row; out = out }

-- "A second call answers the current plan, step, seconds left in the step (this one counted) and both words"; 02, E6: and then the frame out goes again,
-- or ends as down, where its T seconds are over
abbrev pub second_shown : State → List ℕ → List ℕ → Shown
second_shown s book out =
    let u = s.running in
    let t = second_turn s.wait s.sender.out in
    let fs = resent s t.link in
    record {
      state = with_second s (moved_on u s.requested book) t.out;
      told = record { refusal = refusal.none; parameter = 0; event = event.Nothing; count = length (sent fs); dropped = 0; link = t.link };
      plan = u.plan;
      row = row_at u.copy u.position;
      out = sets out 0 (sent fs);
    }

-- 02, E6: "7, 8, then 9 under 544, frame out or not"
unfoldable pub second_of : State → List ℕ → List ℕ → Shown
second_of s book out =
    pick (not (sound_of s)) (no_second s refusal.state_unsound out)
    (pick (not (eqb (length book) book_len)) (no_second s refusal.book_wrong out)
    (pick (not (leb output_len (length out))) (no_second s refusal.output_short out)
    (second_shown s book out)))

-- the answer of the code, with the octets that are kept, which stay, and the output that is left
abbrev pub shown_with : HeldShown → List ℕ → List ℕ → Shown
shown_with r kept out = record { state = joined r.state kept; told = told_of r.told; plan = r.plan; row = r.row; out = out }
