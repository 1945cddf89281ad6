-- 02, E6: "source document 004's stop and wait, five tries, for our message frames: one out at a time": what is kept of the frame out, and what becomes
-- of it.
use Rattle.std.specs.Prelude.{ℕ, ◌+◌, ◌*◌, ◌%◌, Bool, true, not, List, eqb, ltb, leb, length, take, drop}
use Rattle.std.proofs.lemmas.List.Edits.{sets}
use Rattle.octets.specs.Choice.{pick, both}
use Rattle.frame.specs.Frame.{info_least, info_most}
use Rattle.controller.specs.declared.Link.TheVariants as link
use Rattle.controller.specs.declared.Out.{Out}
use Rattle.controller.specs.declared.Turn.{Turn}

-- What is kept

-- how often the frame out was sent, the accepted seconds since it was sent last and the length of its INFO, and the 256 octets in which INFO is kept
pub record Sender : Type 0 where
  pub out : Out
  pub info : List ℕ

-- they stand behind those of the decoder and of the last frame accepted
abbrev pub out_start : ℕ
out_start = 2 * info_most

abbrev pub joined_sender : Out → List ℕ → Sender
joined_sender o kept = record { out = o; info = take info_most (drop out_start kept) }

-- none is out: a length of 0
abbrev pub none_out : Out
none_out = record { sends = 0; waited = 0; len = 0 }

abbrev pub is_out : Out → Bool
is_out o = not (eqb o.len 0)

-- "T seconds (1 to 60, given at the start)"
abbrev pub wait_least : ℕ
wait_least = 1

abbrev pub wait_most : ℕ
wait_most = 60

abbrev pub wait_fits : ℕ → Bool
wait_fits t = both (leb wait_least t) (leb t wait_most)

-- "five tries"
abbrev pub sends_most : ℕ
sends_most = 5

-- "While a frame is out, sends outside 1 to 5, seconds waited at T or over, or an INFO not 2 to 256 long are unsound too"
unfoldable pub out_fits : ℕ → Out → Bool
out_fits t o =
    pick (eqb o.len 0) true
    (both (leb 1 o.sends)
    (both (leb o.sends sends_most)
    (both (ltb o.waited t)
    (both (leb info_least o.len) (leb o.len info_most)))))

-- its SEQ, "our SEQ less one", and its INFO
abbrev pub out_seq : ℕ → ℕ
out_seq ours = (ours + 255) % 256

abbrev pub out_info : Sender → List ℕ
out_info q = take q.out.len q.info

-- What becomes of it

-- a frame with this INFO is sent for the first time; of the octets kept those beyond INFO stay
unfoldable pub sending : Sender → List ℕ → Sender
sending q info = record { out = record { sends = 1; waited = 0; len = length info }; info = sets q.info 0 info }

abbrev pub stays : Out → Turn
stays o = record { out = o; link = link.Still }

-- "the same frame goes again; after five sends without an ACK, the link is reported down"
unfoldable pub again_turn : Out → Turn
again_turn o =
    pick (ltb o.sends sends_most) (record { out = record { sends = o.sends + 1; waited = 0; len = o.len }; link = link.Again })
    (record { out = none_out; link = link.Down })

-- does an ACK or NAK with SEQ n answer the frame out? "An ACK or NAK with another SEQ is ignored"
abbrev pub answers_out : ℕ → Out → ℕ → Bool
answers_out ours o n = both (is_out o) (eqb n (out_seq ours))

unfoldable pub ack_turn : ℕ → Out → ℕ → Turn
ack_turn ours o n = pick (answers_out ours o n) (record { out = none_out; link = link.Heard }) (stays o)

-- "on a NAK .. the same frame goes again", and the wait starts anew; "a NAK of the fifth send ends it as down"
unfoldable pub nak_turn : ℕ → Out → ℕ → Turn
nak_turn ours o n = pick (answers_out ours o n) (again_turn o) (stays o)

-- "or when T seconds .. pass unanswered": an accepted second
unfoldable pub second_turn : ℕ → Out → Turn
second_turn t o =
    pick (is_out o) (pick (ltb (o.waited + 1) t) (stays (record { sends = o.sends; waited = o.waited + 1; len = o.len })) (again_turn o))
    (stays o)
