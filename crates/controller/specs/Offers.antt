-- 02, E6: the offer call, by which the host hands its own message to the sender: "A frame offered while one is out is refused and the one out is
-- untouched."; "15 (sender busy), after 9".
use Rattle.std.specs.Prelude.{ℕ, ◌+◌, ◌%◌, ◌≡◌, not, List, [], ◌∷◌, leb, length, drop}
use Rattle.std.proofs.lemmas.List.Edits.{sets}
use Rattle.octets.specs.Choice.{pick}
use Rattle.octets.specs.Refusal as refusal
use Rattle.frame.specs.Frame.{Frame, message, info_fits, written}
use Rattle.controller.specs.declared.Event.TheVariants as event
use Rattle.controller.specs.declared.HeldAnswer.{HeldAnswer}
use Rattle.controller.specs.declared.Link.TheVariants as link
use Rattle.controller.specs.Replies.{Answer, answer_with, answer_of, quiet, sent}
use Rattle.controller.specs.Sender.{is_out, sending}
use Rattle.controller.specs.State.{State, kept_len, sound_of}

-- what an offer leaves: its answer and the output
pub record Offer : Type 0 where
  pub answer : Answer
  pub out : List ℕ

-- the code answered r and left k of the octets lent and o in the output, as it should; of more octets than are wanted those beyond stay
pub record OfferLeaves (w : Offer) (lent : List ℕ) (r : HeldAnswer) (k o : List ℕ) : Type 0 where
  pub answer : answer_with r k ≡ w.answer
  pub beyond : drop kept_len k ≡ drop kept_len lent
  pub out : o ≡ w.out

abbrev pub refused_offer : State → ℕ → List ℕ → Offer
refused_offer s n out = record { answer = quiet s n 0; out = out }

-- the state after a frame of our own went out: our next SEQ, and what is then out
abbrev pub with_sent : State → List ℕ → State
with_sent s info =
    record {
      own = s.own;
      seq = (s.seq + 1) % 256;
      requested = s.requested;
      wait = s.wait;
      decoder = s.decoder;
      dropped = s.dropped;
      memory = s.memory;
      sender = sending s.sender info;
      running = s.running;
    }

-- the message frame with this INFO, "with our next SEQ"
abbrev pub offered_frame : State → List ℕ → Frame
offered_frame s info = message s.seq s.own info

abbrev pub offer_done : State → List ℕ → List ℕ → Offer
offer_done s info out =
    let fs = offered_frame s info ∷ [] in
    record { answer = answer_of (with_sent s info) refusal.none 0 event.Nothing fs 0 link.Still; out = sets out 0 (sent fs) }

-- 7, then 4 ("INFO not 2 to 256 long"), then 9 (the frame does not fit), then 15
unfoldable pub offer_of : State → List ℕ → List ℕ → Offer
offer_of s info out =
    let f = offered_frame s info in
    pick (not (sound_of s)) (refused_offer s refusal.state_unsound out)
    (pick (not (info_fits f)) (refused_offer s refusal.info_wrong out)
    (pick (not (leb (length (written f)) (length out))) (refused_offer s refusal.output_short out)
    (pick (is_out s.sender.out) (refused_offer s refusal.sender_busy out)
    (offer_done s info out))))
