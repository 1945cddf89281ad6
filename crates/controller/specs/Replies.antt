-- 01, "Replies": what an octet call and a line-idle call answer, and what they leave in the state, the book and the output.
use Rattle.std.specs.Prelude.{ℕ, ◌+◌, ◌%◌, ◌≤◌, ◌≡◌, Bool, true, not, List, [], ◌∷◌, ◌++◌, eqb, leb, length, drop}
use Rattle.std.proofs.lemmas.List.Edits.{sets}
use Rattle.octets.specs.Choice.{pick, both}
use Rattle.octets.specs.Part.{code_len}
use Rattle.octets.specs.Refusal as refusal
use Rattle.octets.specs.Refusals.{refusal_number}
use Rattle.frame.specs.declared.Kind.{Kind}
use Rattle.frame.specs.declared.Kind.TheVariants.{Message, Ack, Nak}
use Rattle.frame.specs.declared.decoder.Found.{Found}
use Rattle.frame.specs.declared.decoder.Found.TheVariants as found
use Rattle.frame.specs.Frame.{Frame, message, ack, nak, info_most, written}
use Rattle.frame.specs.Dropped.{Counted, counted_of, idle_counted}
use Rattle.frame.specs.Run.{Outcome, nothing, refused, sound, outcome_of}
use Rattle.message.specs.Reader.{code_in}
use Rattle.record.specs.Record.{book_len}
use Rattle.controller.specs.declared.Event.{Event}
use Rattle.controller.specs.declared.Event.TheVariants as event
use Rattle.controller.specs.Told.{ToldInNumbers, told_of}
use Rattle.controller.specs.declared.HeldAnswer.{HeldAnswer}
use Rattle.controller.specs.Reply.{HandledInNumbers}
use Rattle.controller.specs.declared.Link.{Link}
use Rattle.controller.specs.declared.Link.TheVariants as link
use Rattle.controller.specs.declared.Turn.{Turn}
use Rattle.controller.specs.Memory.{Memory, is_repeat, remembering}
use Rattle.controller.specs.Sender.{Sender, is_out, out_seq, out_info, sending, ack_turn, nak_turn}
use Rattle.controller.specs.State.{State, joined, kept_len, all, output_len, sound_of, with_decoder}
use Rattle.controller.specs.Handling.{Handling, carried_out_code, refused_code, reply_info, handling_of}

-- The octet call

-- what a call answers: the state, and what it tells
pub record Answer : Type 0 where
  pub state : State
  pub told : ToldInNumbers

-- what a call leaves: its answer, the book and the output
pub record Call : Type 0 where
  pub answer : Answer
  pub book : List ℕ
  pub out : List ℕ

-- the answer of the code, with the octets that are then kept
abbrev pub answer_with : HeldAnswer → List ℕ → Answer
answer_with r kept = record { state = joined r.state kept; told = told_of r.told }

-- the call answered r and left k of the octets lent, b in the book and o in the output, as it should; of more octets than are
-- wanted those beyond stay
pub record CallLeaves (w : Call) (lent : List ℕ) (r : HeldAnswer) (k b o : List ℕ) : Type 0 where
  pub answer : answer_with r k ≡ w.answer
  pub beyond : drop kept_len k ≡ drop kept_len lent
  pub book : b ≡ w.book
  pub out : o ≡ w.out

-- the octets of frames, one after another
abbrev pub sent : List Frame → List ℕ
sent [] = []
sent (f ∷ fs) = written f ++ sent fs

-- the answer of a call that leaves the state s, names refusal n and its parameter, hands e to the host, writes the frames fs, tells `dropped` octets
-- and that the link stands as l
abbrev pub answer_of : State → ℕ → ℕ → Event → List Frame → ℕ → Link → Answer
answer_of s n parameter e fs dropped l = record { state = s; told = record { refusal = n; parameter = parameter; event = e; count = length (sent fs); dropped = dropped; link = l } }

abbrev pub call_of : State → ℕ → ℕ → Event → List Frame → ℕ → Link → List ℕ → List ℕ → Call
call_of s n parameter e fs dropped l book out = record { answer = answer_of s n parameter e fs dropped l; book = book; out = sets out 0 (sent fs) }

-- a call that writes nothing: "same state, nothing written", "Other numbers in a refused call's result are 0."; or one that has only counted
abbrev pub quiet : State → ℕ → ℕ → Answer
quiet s n dropped = answer_of s n 0 event.Nothing [] dropped link.Still

abbrev pub refused_call : State → ℕ → List ℕ → List ℕ → Call
refused_call s n book out = call_of s n 0 event.Nothing [] 0 link.Still book out

-- "NAK, ERR 01", "NAK, ERR 02", "NAK, ERR 04"
abbrev pub err_of : ℕ → ℕ
err_of n = pick (eqb n refusal.len_wrong) 4 n

-- "Refusals 1 to 3 of a message frame write one NAK with the received SEQ, if the received ADDR is ours .. Faulty ACK and NAK
-- frames are never replied to."
abbrev pub naks : Kind → ℕ → ℕ → ℕ → ℕ → List Frame
naks Message own n seq addr = pick (eqb addr own) (nak seq own (err_of n) ∷ []) []
naks Ack own n seq addr = []
naks Nak own n seq addr = []

-- "A sound message frame for us writes an ACK with the received SEQ"; "FFFF is for all: carried out, never replied to."
abbrev pub acks : ℕ → ℕ → ℕ → List Frame
acks own seq addr = pick (eqb addr own) (ack seq own ∷ []) []

-- is a frame with this address for us, or for all?
abbrev pub for_us : ℕ → ℕ → Bool
for_us own addr = pick (eqb addr own) true (eqb addr all)

-- "A received 0F 80 or 0F 81 of any length gets the ACK only (nothing for FFFF) and is no refusal."
abbrev pub is_answer : ℕ → Bool
is_answer code = pick (eqb code carried_out_code) true (eqb code refused_code)

-- "A sound message frame for us writes an ACK with the received SEQ, then one message frame with our next SEQ."
abbrev pub replies_of : ℕ → ℕ → ℕ → List ℕ → List Frame
replies_of seq ours own info = ack seq own ∷ message ours own info ∷ []

-- what the decoder can find: a frame is refused 1 to 3, and a message frame has INFO of 2 to 256 octets
abbrev pub CanFind : Found → Type 0
CanFind found.Nothing = Unit
CanFind (found.Refused r k seq addr) = refusal_number r ≤ refusal.len_wrong
CanFind (found.Message seq addr n) = (code_len ≤ n) × (n ≤ info_most)
CanFind (found.Ack seq addr) = Unit
CanFind (found.Nak seq addr err) = Unit

-- what an octet brings: the refusal that the result names and its parameter, the event, the frames written, the SEQ, the request and the sender that
-- the state then has, and how the link stands
pub record Result : Type 0 where
  pub refusal : ℕ
  pub parameter : ℕ
  pub event : Event
  pub frames : List Frame
  pub seq : ℕ
  pub requested : ℕ
  pub sender : Sender
  pub link : Link

-- and the book then
pub record ResultAndBook : Type 0 where
  pub result : Result
  pub book : List ℕ

-- where no message is handled there is no parameter; SEQ, request, sender and book stay
abbrev pub unchanged : State → ℕ → Event → List Frame → Result
unchanged s n e fs = record { refusal = n; parameter = 0; event = e; frames = fs; seq = s.seq; requested = s.requested; sender = s.sender; link = link.Still }

abbrev pub leaves : List ℕ → Result → ResultAndBook
leaves book w = record { result = w; book = book }

-- "Our SEQ .. grows by one per message frame written, and after 255 comes 0."; 02, E6: "The octet call hands its reply to this sender, which writes it
-- in that call"
unfoldable pub replied_of : State → List ℕ → ℕ → ℕ → HandledInNumbers → Result
replied_of s book seq addr h =
    record {
      refusal = h.refusal;
      parameter = h.parameter;
      event = event.Nothing;
      frames = pick (eqb addr s.own) (replies_of seq s.seq s.own (reply_info s book h.reply)) [];
      seq = pick (eqb addr s.own) ((s.seq + 1) % 256) s.seq;
      requested = h.requested;
      sender = pick (eqb addr s.own) (sending s.sender (reply_info s book h.reply)) s.sender;
      link = link.Still;
    }

-- a message carried out and replied to
abbrev pub handled_of : State → List ℕ → ℕ → ℕ → Handling → ResultAndBook
handled_of s book seq addr h = record { result = replied_of s book seq addr h.handled; book = h.book }

-- the ACK, none for FFFF, and nothing else
abbrev pub acked_of : State → ℕ → ℕ → List ℕ → ResultAndBook
acked_of s seq addr book = leaves book (unchanged s refusal.none event.Nothing (acks s.own seq addr))

-- a message frame that is accepted
unfoldable pub accepted_of : State → ℕ → ℕ → List ℕ → List ℕ → ResultAndBook
accepted_of s seq addr info book = pick (is_answer (code_in info)) (acked_of s seq addr book) (handled_of s book seq addr (handling_of s book info))

-- nothing but the octet is taken
abbrev pub passed_over : State → List ℕ → ResultAndBook
passed_over s book = leaves book (unchanged s refusal.none event.Nothing [])

-- 02, E6: "while one is out, a new message that calls for a reply is met with silence"; "0F 80, 0F 81 and messages to FFFF go on as before"
unfoldable pub met_with_silence : State → ℕ → List ℕ → Bool
met_with_silence s addr info = both (is_out s.sender.out) (both (eqb addr s.own) (not (is_answer (code_in info))))

-- a sound message frame; "A sound frame for another address is dropped silently."; 02, E4: a repeat "gets the ACK (none for FFFF) and nothing else"
unfoldable pub message_of : State → ℕ → ℕ → List ℕ → List ℕ → ResultAndBook
message_of s seq addr info book =
    pick (for_us s.own addr)
    (pick (is_repeat s.memory seq info) (acked_of s seq addr book)
    (pick (met_with_silence s addr info) (passed_over s book) (accepted_of s seq addr info book)))
    (passed_over s book)

-- the frame out, where it is sent again: SEQ and octets are those that it had
abbrev pub resent : State → Link → List Frame
resent s link.Still = []
resent s link.Again = message (out_seq s.seq) s.own (out_info s.sender) ∷ []
resent s link.Heard = []
resent s link.Down = []

-- "A sound ACK or NAK for us is handed to the host as an event"; 02, E6: and to the sender; "one to FFFF is dropped."
abbrev pub turned : State → Event → Turn → Result
turned s e t =
    record {
      refusal = refusal.none;
      parameter = 0;
      event = e;
      frames = resent s t.link;
      seq = s.seq;
      requested = s.requested;
      sender = record { out = t.out; info = s.sender.info };
      link = t.link;
    }

unfoldable pub answered_of : State → ℕ → Event → Turn → List ℕ → ResultAndBook
answered_of s addr e t book = pick (eqb addr s.own) (leaves book (turned s e t)) (passed_over s book)

-- by what the octet ended
abbrev pub brought_of : Outcome → State → List ℕ → ResultAndBook
brought_of nothing s book = passed_over s book
brought_of (refused n k seq addr) s book = leaves book (unchanged s n event.Nothing (naks k s.own n seq addr))
brought_of (sound (message seq addr info)) s book = message_of s seq addr info book
brought_of (sound (ack seq addr)) s book = answered_of s addr (event.Ack seq) (ack_turn s.seq s.sender.out seq) book
brought_of (sound (nak seq addr err)) s book = answered_of s addr (event.Nak seq err) (nak_turn s.seq s.sender.out seq) book

-- 02, E4: what is then remembered: a message frame "(for us or FFFF, refused 10 to 14 or not)" that is no repeat; all else leaves the memory; E6: so
-- does a message that is "met with silence, not carried out and not remembered"
unfoldable pub memory_of : State → ℕ → ℕ → List ℕ → Memory
memory_of s seq addr info =
    pick (for_us s.own addr)
    (pick (is_repeat s.memory seq info) s.memory
    (pick (met_with_silence s addr info) s.memory (remembering s.memory seq info)))
    s.memory

abbrev pub memory_then : Outcome → State → Memory
memory_then nothing s = s.memory
memory_then (refused n k seq addr) s = s.memory
memory_then (sound (message seq addr info)) s = memory_of s seq addr info
memory_then (sound (ack seq addr)) s = s.memory
memory_then (sound (nak seq addr err)) s = s.memory

-- the call that the state s makes of it, c being what the octet does to the decoder and to the number of octets dropped, m what is then remembered
abbrev pub made_of : State → Counted → Memory → ResultAndBook → List ℕ → Call
made_of s c m w out =
    let r = w.result in
    let t : State = record { own = s.own; seq = r.seq; requested = r.requested; wait = s.wait; decoder = c.taken.decoder; dropped = c.kept; memory = m; sender = r.sender; running = s.running } in
    call_of t r.refusal r.parameter r.event r.frames c.told r.link w.book out

unfoldable pub done_of : State → Counted → List ℕ → List ℕ → Call
done_of s c book out = let o = outcome_of c.taken in made_of s c (memory_then o s) (brought_of o s book) out

-- "Order: 7, 8, 9 in a call"
unfoldable pub octet_of : State → List ℕ → List ℕ → ℕ → Call
octet_of s book out b =
    pick (not (sound_of s)) (refused_call s refusal.state_unsound book out)
    (pick (not (eqb (length book) book_len)) (refused_call s refusal.book_wrong book out)
    (pick (not (leb output_len (length out))) (refused_call s refusal.output_short book out)
    (done_of s (counted_of s.decoder s.dropped b) book out)))

-- The line-idle call: "returns the decoder to idle and changes nothing else"; 02, E5: "Line-idle counts the frame or AA it abandons."

abbrev pub idled_as : State → Counted → Answer
idled_as s c = quiet (with_decoder s c.taken.decoder c.kept) refusal.none c.told

unfoldable pub line_idle_of : State → Answer
line_idle_of s = pick (not (sound_of s)) (quiet s refusal.state_unsound 0) (idled_as s (idle_counted s.decoder s.dropped))
