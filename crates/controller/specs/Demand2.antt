-- Demand 2: "Frames and messages are read and written as document 01 says .. A plan is stored exactly when it passes the listed
-- checks; otherwise the first failed check is named. Lamps follow the step diagram." What an octet brings, in frames received and
-- frames written; what a message does; what a second shows.
use Rattle.std.specs.Prelude.{ℕ, ◌+◌, ◌%◌, ◌≤◌, ◌<◌, ◌≡◌, true, ◌⊎◌, List, [], ◌∷◌, ◌++◌, length, take, drop}
use Rattle.octets.specs.Octet.{Octets}
use Rattle.octets.specs.Word.{high_of, low_of}
use Rattle.frame.specs.declared.Kind.{Kind}
use Rattle.frame.specs.declared.Kind.TheVariants.{Message}
use Rattle.frame.specs.Frame.{Frame, message, ack, nak, written}
use Rattle.frame.specs.Decoder.{taken_of}
use Rattle.frame.specs.Run.{Outcome, nothing, refused, sound, outcome_of}
use Rattle.message.specs.Reader.{code_in, body_in, read_of}
use Rattle.message.specs.Writer.{write_message}
use Rattle.record.specs.Record.{order_of, Ready}
use Rattle.plan.specs.declared.Which.{Which}
use Rattle.plan.specs.BuiltIn.{built_in}
use Rattle.plan.specs.Promises.{HasTimes, Fit14, Fit15}
use Rattle.plan.specs.Reading.{record_at}
use Rattle.plan.specs.Setting.{set_times_of, set_plan_of, plan_in}
use Rattle.plan.specs.Reporting.{times_info, plan_info}
use Rattle.lamps.specs.Rows.{seconds_of, steps_of_plan}
use Rattle.lamps.specs.Promises.{Due}
use Rattle.controller.specs.declared.Event.{Event}
use Rattle.controller.specs.declared.Event.TheVariants as event
use Rattle.controller.specs.declared.Link.{Link}
use Rattle.controller.specs.declared.Link.TheVariants as link
use Rattle.controller.specs.declared.Out.{Out}
use Rattle.controller.specs.Memory.{Memory}
use Rattle.controller.specs.Sender.{Sender}
use Rattle.controller.specs.Offers.{Offer, offer_of}
use Rattle.controller.specs.Demand1.{OfferDone}
use Rattle.controller.specs.State.{State, sound_of}
use Rattle.controller.specs.Replies.{Call, octet_of}
use Rattle.controller.specs.Seconds.{Shown, second_of}

-- What is written

-- the octets of frames, one after another
abbrev pub on_line : List Frame → List ℕ
on_line [] = []
on_line (f ∷ fs) = written f ++ on_line fs

-- a call wrote these frames, and counts them
pub record Writes (n : ℕ) (out : List ℕ) (fs : List Frame) : Type 0 where
  pub count : n ≡ length (on_line fs)
  pub octets : take n out ≡ on_line fs

abbrev pub Wrote : Call → List Frame → Type 0
Wrote w fs = Writes w.answer.told.count w.out fs

-- "NAK, ERR 01", "NAK, ERR 02", "NAK, ERR 04": the ERR that answers a refusal
pub data Err : ℕ → ℕ → Type 0 where
  cks : Err 1 0x01
  closing : Err 2 0x02
  len : Err 3 0x04

-- "0F 80 or 0F 81"
abbrev pub IsAnswer : List ℕ → Type 0
IsAnswer info = (code_in info ≡ 0x0F80) ⊎ (code_in info ≡ 0x0F81)

-- 02, E4: "A sound message frame whose SEQ and INFO both equal those of the last one accepted .. is a repeat": m is the memory of one with SEQ
-- n, whose INFO is as long and has the same octets
pub record Repeats (m : Memory) (n : ℕ) (info : List ℕ) : Type 0 where
  pub seq : m.last.seq ≡ n
  pub long : m.last.len ≡ length info
  pub octets : take (length info) m.info ≡ info

-- nothing but the decoder, and the octets that are counted, has changed; m is remembered, and q is out: the book is as it came, and no parameter is named
pub record TakenWith (s : State) (m : Memory) (q : Sender) (before : List ℕ) (b : ℕ) (w : Call) : Type 0 where
  pub state : w.answer.state
      ≡ record { own = s.own; seq = s.seq; requested = s.requested; wait = s.wait; decoder = (taken_of s.decoder b).decoder; dropped = w.answer.state.dropped; memory = m; sender = q; running = s.running }
  pub book : w.book ≡ before
  pub parameter : w.answer.told.parameter ≡ 0

-- and what is out is as it was
abbrev pub OnlyTaken : State → Memory → List ℕ → ℕ → Call → Type 0
OnlyTaken s m before b w = TakenWith s m s.sender before b w

-- 02, E6: the frame out, and how the link stands then; nothing else has changed
abbrev pub OnlySender : State → Out → Link → List ℕ → ℕ → Call → Type 0
OnlySender s o l before b w = TakenWith s s.memory (record { out = o; info = s.sender.info }) before b w × (w.answer.told.link ≡ l)

abbrev pub nothing_out : Out
nothing_out = record { sends = 0; waited = 0; len = 0 }

-- it is sent once more, and waits anew
abbrev pub once_more : Out → Out
once_more o = record { sends = o.sends + 1; waited = 0; len = o.len }

-- "An ACK or NAK with another SEQ is ignored": this one has the SEQ of the frame out, "our SEQ less one"
pub record AnswersOut (s : State) (n : ℕ) : Type 0 where
  pub out : s.sender.out.len ≡ 0 → ⊥
  pub seq : n ≡ (s.seq + 255) % 256

-- a frame with this INFO is out, sent once, a moment ago; of the octets that its INFO is kept in those beyond stay
pub record Sent (before : Sender) (octets : List ℕ) (after : Sender) : Type 0 where
  pub out : after.out ≡ record { sends = 1; waited = 0; len = length octets }
  pub info : take (length octets) after.info ≡ octets
  pub beyond : drop (length octets) after.info ≡ drop (length octets) before.info

-- "calls for a reply": a message for us that is no answer; 02, E4: and no repeat
pub record CallsForReply (m : Memory) (seq : ℕ) (info : List ℕ) : Type 0 where
  pub no_answer : IsAnswer info → ⊥
  pub new : Repeats m seq info → ⊥

-- "while one is out, a new message that calls for a reply is met with silence": this one is not
abbrev pub NoSilence : State → ℕ → ℕ → List ℕ → Type 0
NoSilence s seq addr info = (addr ≡ 0xFFFF) ⊎ ((s.sender.out.len ≡ 0) ⊎ (CallsForReply s.memory seq info → ⊥))

-- the frames that an event hands to the host: none, or one
abbrev pub event_frames : ℕ → Event → List Frame
event_frames own event.Nothing = []
event_frames own (event.Ack seq) = ack seq own ∷ []
event_frames own (event.Nak seq err) = nak seq own err ∷ []

-- the call hands these frames to the host as its event
abbrev pub Hands : State → List Frame → Call → Type 0
Hands s fs w = event_frames s.own w.answer.told.event ≡ fs

-- an octet call that is done, by what the octet brought, `o`
pub record RepliesSo (s : State) (book : List ℕ) (b : ℕ) (o : Outcome) (w : Call) : Type 0 where
  pub quiet : o ≡ nothing → Wrote w [] × (w.answer.told.refusal ≡ 0) × OnlyTaken s s.memory book b w × Hands s [] w
  -- "Refusals 1 to 3 of a message frame write one NAK with the received SEQ, if the received ADDR is ours"
  pub nak_for_us : (n err seq : ℕ) → Err n err → o ≡ refused n Message seq s.own → Wrote w (nak seq s.own err ∷ [])
  -- "Faulty ACK and NAK frames are never replied to."
  pub no_nak : (n : ℕ) (k : Kind) (seq addr : ℕ) → o ≡ refused n k seq addr → ((k ≡ Message → ⊥) ⊎ (addr ≡ s.own → ⊥)) → Wrote w []
  -- "the result names the refusal for any address"
  pub named : (n : ℕ) (k : Kind) (seq addr : ℕ) → o ≡ refused n k seq addr → (w.answer.told.refusal ≡ n) × OnlyTaken s s.memory book b w × Hands s [] w
  -- "A received 0F 80 or 0F 81 of any length gets the ACK only (nothing for FFFF) and is no refusal."
  pub ack_only : (seq : ℕ) (info : List ℕ) → o ≡ sound (message seq s.own info) → IsAnswer info
      → Wrote w (ack seq s.own ∷ []) × (w.answer.told.refusal ≡ 0) × OnlyTaken s w.answer.state.memory book b w
  -- "A sound message frame for us writes an ACK with the received SEQ, then one message frame with our next SEQ .. grows by one per
  -- message frame written, and after 255 comes 0."; 02, E4: unless it is a repeat; E6: "The octet call hands its reply to this sender, which writes it in
  -- that call", where none is out
  pub replied : (seq : ℕ) (info : List ℕ) → o ≡ sound (message seq s.own info) → CallsForReply s.memory seq info → s.sender.out.len ≡ 0
      → (reply : List ℕ) × Wrote w (ack seq s.own ∷ message s.seq s.own reply ∷ []) × (w.answer.state.seq ≡ (s.seq + 1) % 256)
      × Sent s.sender reply w.answer.state.sender
  -- "so while one is out, a new message that calls for a reply is met with silence, not carried out and not remembered"
  pub silent : (seq : ℕ) (info : List ℕ) → o ≡ sound (message seq s.own info) → CallsForReply s.memory seq info → (s.sender.out.len ≡ 0 → ⊥)
      → Wrote w [] × (w.answer.told.refusal ≡ 0) × OnlyTaken s s.memory book b w
  -- "FFFF is for all: carried out, never replied to."
  pub for_all : (seq : ℕ) (info : List ℕ) → o ≡ sound (message seq 0xFFFF info) → Wrote w [] × (w.answer.state.seq ≡ s.seq) × (w.answer.state.sender ≡ s.sender)
  -- of 0F 80 and 0F 81: "(nothing for FFFF) and is no refusal"
  pub answer_for_all : (seq : ℕ) (info : List ℕ) → o ≡ sound (message seq 0xFFFF info) → IsAnswer info → (w.answer.told.refusal ≡ 0) × OnlyTaken s w.answer.state.memory book b w
  -- "A sound frame for another address is dropped silently."; "Address is judged after CKS."
  pub dropped : (seq addr : ℕ) (info : List ℕ) → o ≡ sound (message seq addr info) → (addr ≡ s.own → ⊥) → (addr ≡ 0xFFFF → ⊥)
      → Wrote w [] × (w.answer.told.refusal ≡ 0) × OnlyTaken s s.memory book b w
  -- a repeat "gets the ACK (none for FFFF) and nothing else"
  pub repeated : (seq : ℕ) (info : List ℕ) → o ≡ sound (message seq s.own info) → Repeats s.memory seq info
      → Wrote w (ack seq s.own ∷ []) × (w.answer.told.refusal ≡ 0) × OnlyTaken s s.memory book b w
  pub repeated_for_all : (seq : ℕ) (info : List ℕ) → o ≡ sound (message seq 0xFFFF info) → Repeats s.memory seq info
      → Wrote w [] × (w.answer.told.refusal ≡ 0) × OnlyTaken s s.memory book b w
  -- "the last one accepted (for us or FFFF, refused 10 to 14 or not)", whatever was answered: sent again it is a repeat, unless it was met with silence
  pub remembered : (seq addr : ℕ) (info : List ℕ) → o ≡ sound (message seq addr info) → (addr ≡ s.own) ⊎ (addr ≡ 0xFFFF) → NoSilence s seq addr info
      → Repeats w.answer.state.memory seq info
  -- of the octets that INFO is kept in those beyond it stay
  pub beyond : (seq addr : ℕ) (info : List ℕ) → o ≡ sound (message seq addr info)
      → drop (length info) w.answer.state.memory.info ≡ drop (length info) s.memory.info
  -- no message is an event
  pub no_event : (seq addr : ℕ) (info : List ℕ) → o ≡ sound (message seq addr info) → Hands s [] w
  -- "A sound ACK or NAK for us is handed to the host as an event and changes nothing; one to FFFF is dropped."
  pub ack_event : (seq : ℕ) → o ≡ sound (ack seq s.own) → Hands s (ack seq s.own ∷ []) w
  pub nak_event : (seq err : ℕ) → o ≡ sound (nak seq s.own err) → Hands s (nak seq s.own err ∷ []) w
  -- 02, E6: unless it answers the frame out
  pub ack_quiet : (seq addr : ℕ) → o ≡ sound (ack seq addr) → ((addr ≡ s.own) × AnswersOut s seq → ⊥)
      → Wrote w [] × (w.answer.told.refusal ≡ 0) × OnlyTaken s s.memory book b w
  pub nak_quiet : (seq addr err : ℕ) → o ≡ sound (nak seq addr err) → ((addr ≡ s.own) × AnswersOut s seq → ⊥)
      → Wrote w [] × (w.answer.told.refusal ≡ 0) × OnlyTaken s s.memory book b w
  pub ack_other : (seq addr : ℕ) → o ≡ sound (ack seq addr) → (addr ≡ s.own → ⊥) → Hands s [] w
  pub nak_other : (seq addr err : ℕ) → o ≡ sound (nak seq addr err) → (addr ≡ s.own → ⊥) → Hands s [] w
  -- an ACK ends the frame out as heard
  pub heard : (seq : ℕ) → o ≡ sound (ack seq s.own) → AnswersOut s seq → Wrote w [] × (w.answer.told.refusal ≡ 0) × OnlySender s nothing_out link.Heard book b w
  -- "on a NAK .. the same frame goes again", with the SEQ and the octets that it had; "a NAK of the fifth send ends it as down"
  pub again : (seq err : ℕ) → o ≡ sound (nak seq s.own err) → AnswersOut s seq → s.sender.out.sends < 5
      → Wrote w (message ((s.seq + 255) % 256) s.own (take s.sender.out.len s.sender.info) ∷ []) × (w.answer.told.refusal ≡ 0)
      × OnlySender s (once_more s.sender.out) link.Again book b w
  pub down : (seq err : ℕ) → o ≡ sound (nak seq s.own err) → AnswersOut s seq → 5 ≤ s.sender.out.sends
      → Wrote w [] × (w.answer.told.refusal ≡ 0) × OnlySender s nothing_out link.Down book b w
  -- nothing else is told of the link
  pub no_link : (w.answer.told.link ≡ link.Still) ⊎ ((seq : ℕ) × AnswersOut s seq × ((o ≡ sound (ack seq s.own)) ⊎ ((err : ℕ) × (o ≡ sound (nak seq s.own err)))))
  -- whatever it brought: the octet is taken, and own address, T and running plan stay
  pub rest : w.answer.state
      ≡ record { own = s.own; seq = w.answer.state.seq; requested = w.answer.state.requested; wait = s.wait; decoder = (taken_of s.decoder b).decoder; dropped = w.answer.state.dropped; memory = w.answer.state.memory; sender = w.answer.state.sender; running = s.running }

abbrev pub Replies : Type 0
Replies =
    (s : State) (book out : List ℕ) (b : ℕ) → sound_of s ≡ true → length book ≡ 3840 → 544 ≤ length out
    → RepliesSo s book b (outcome_of (taken_of s.decoder b)) (octet_of s book out b)

-- What a message does

-- the INFO of the replies 0F 80 and 0F 81
abbrev pub info80 : ℕ → List ℕ
info80 code = 0x0F ∷ 0x80 ∷ high_of code ∷ low_of code ∷ []

abbrev pub info81 : ℕ → ℕ → ℕ → List ℕ
info81 code n parameter = 0x0F ∷ 0x81 ∷ high_of code ∷ low_of code ∷ n ∷ parameter ∷ []

-- The call names refusal n and its parameter, and where the message was for us its reply is this INFO.
pub record Answers (s : State) (seq addr n m : ℕ) (info : List ℕ) (w : Call) : Type 0 where
  pub names : w.answer.told.refusal ≡ n
  pub parameter : w.answer.told.parameter ≡ m
  pub reply : addr ≡ s.own → Wrote w (ack seq s.own ∷ message s.seq s.own info ∷ [])

-- "carried out": 0F 80, the plan p then requested, and the book then so
pub record CarriedOut (s : State) (seq addr p : ℕ) (after info : List ℕ) (w : Call) : Type 0 where
  pub answers : Answers s seq addr 0 0 (info80 (code_in info)) w
  pub book : w.book ≡ after
  pub requested : w.answer.state.requested ≡ p

-- a query answered with this INFO; book and request are as they came
pub record Reported (s : State) (seq addr : ℕ) (before info : List ℕ) (w : Call) : Type 0 where
  pub answers : Answers s seq addr 0 0 info w
  pub book : w.book ≡ before
  pub requested : w.answer.state.requested ≡ s.requested

-- "0F 81": the refusal, and its parameter; the book is as it came
pub record Refused (s : State) (seq addr n m : ℕ) (before info : List ℕ) (w : Call) : Type 0 where
  pub answers : Answers s seq addr n m (info81 (code_in info) n m) w
  pub book : w.book ≡ before
  pub requested : w.answer.state.requested ≡ s.requested

-- rec is the record of plan p: "Plan 0 is built in", the one that is kept (02, E1: "plan 0 means that one throughout"); every other plan has
-- its own in the book
pub data RecordOfPlan (which : Which) (book : List ℕ) : ℕ → List ℕ → Type 0 where
  zero : RecordOfPlan which book 0 (built_in which)
  other : (p : ℕ) → (p ≡ 0 → ⊥) → RecordOfPlan which book p (record_at book p)

-- a sound message frame for us or for all that is no repeat and not met with silence, in an octet call that is done
pub record HandledSo (s : State) (seq addr : ℕ) (book info : List ℕ) (w : Call) : Type 0 where
  -- 5F 14: stored and replied to with 0F 80 exactly when the listed checks pass; else refused by the first that fails
  pub times : code_in info ≡ 0x5F14 → Fit14 (body_in info) → CarriedOut s seq addr s.requested (set_times_of book info).book info w
  pub no_times : code_in info ≡ 0x5F14 → (Fit14 (body_in info) → ⊥)
      → Refused s seq addr (set_times_of book info).answer.refusal (set_times_of book info).answer.field book info w
  -- 5F 15
  pub plan : code_in info ≡ 0x5F15 → Fit15 (record_at book (plan_in (body_in info))) (body_in info) → CarriedOut s seq addr s.requested (set_plan_of book info).book info w
  pub no_plan : code_in info ≡ 0x5F15 → (Fit15 (record_at book (plan_in (body_in info))) (body_in info) → ⊥)
      → Refused s seq addr (set_plan_of book info).answer.refusal (set_plan_of book info).answer.field book info w
  -- what the message reader refuses of the others
  pub unread : (code_in info ≡ 0x5F18) ⊎ ((code_in info ≡ 0x5F44) ⊎ ((code_in info ≡ 0x5F45) ⊎ (code_in info ≡ 0x5F48)))
      → ((read_of info).refusal ≡ 0 → ⊥) → Refused s seq addr (read_of info).refusal (read_of info).field book info w
  -- 5F 18: "notes the requested plan", 13 for one not ready
  pub run : (rec : List ℕ) → code_in info ≡ 0x5F18 → (read_of info).refusal ≡ 0 → RecordOfPlan s.running.which book (plan_in (body_in info)) rec → Ready rec
      → CarriedOut s seq addr (plan_in (body_in info)) book info w
  pub no_run : (rec : List ℕ) → code_in info ≡ 0x5F18 → (read_of info).refusal ≡ 0 → RecordOfPlan s.running.which book (plan_in (body_in info)) rec → (Ready rec → ⊥)
      → Refused s seq addr 13 1 book info w
  -- 5F 44: the report 5F C4, 13 for an empty plan
  pub query_times : (rec : List ℕ) → code_in info ≡ 0x5F44 → (read_of info).refusal ≡ 0 → RecordOfPlan s.running.which book (plan_in (body_in info)) rec → HasTimes rec
      → Reported s seq addr book (times_info rec (plan_in (body_in info))) w
  pub no_times_yet : (rec : List ℕ) → code_in info ≡ 0x5F44 → (read_of info).refusal ≡ 0 → RecordOfPlan s.running.which book (plan_in (body_in info)) rec → (HasTimes rec → ⊥)
      → Refused s seq addr 13 1 book info w
  -- 5F 45: the report 5F C5, 13 for one not ready
  pub query_plan : (rec : List ℕ) → code_in info ≡ 0x5F45 → (read_of info).refusal ≡ 0 → RecordOfPlan s.running.which book (plan_in (body_in info)) rec → Ready rec
      → Reported s seq addr book (plan_info rec (plan_in (body_in info)) 0x5FC5) w
  pub no_plan_yet : (rec : List ℕ) → code_in info ≡ 0x5F45 → (read_of info).refusal ≡ 0 → RecordOfPlan s.running.which book (plan_in (body_in info)) rec → (Ready rec → ⊥)
      → Refused s seq addr 13 1 book info w
  -- 5F 48: the report 5F C8 of the running copy
  pub query_running : code_in info ≡ 0x5F48 → (read_of info).refusal ≡ 0 → Reported s seq addr book (plan_info s.running.copy s.running.plan 0x5FC8) w
  -- "code not handled": 10, parameter 0; "a report sent to it is refusal 10"
  pub unknown : (code_in info ≡ 0x5F14 → ⊥) → (code_in info ≡ 0x5F15 → ⊥) → (code_in info ≡ 0x5F18 → ⊥) → (code_in info ≡ 0x5F44 → ⊥)
      → (code_in info ≡ 0x5F45 → ⊥) → (code_in info ≡ 0x5F48 → ⊥) → Refused s seq addr 10 0 book info w

abbrev pub Handles : Type 0
Handles =
    (s : State) (book out : List ℕ) (b seq addr : ℕ) (info : List ℕ) → sound_of s ≡ true → length book ≡ 3840 → 544 ≤ length out
    → Octets book → Octets s.running.copy
    → outcome_of (taken_of s.decoder b) ≡ sound (message seq addr info) → ((addr ≡ s.own) × (s.sender.out.len ≡ 0)) ⊎ (addr ≡ 0xFFFF)
    → (IsAnswer info → ⊥) → (Repeats s.memory seq info → ⊥)
    → HandledSo s seq addr book info (octet_of s book out b)

-- 02, E3: "Write the octets straight into the output. Every octet and refusal stays the same." No message value is made of a reply, and yet
-- its INFO is what the message writer would have written.

-- the reader reads INFO, nothing refused, and wherever there is room the writer writes what was read as the same octets
pub record AsWritten (info : List ℕ) : Type 0 where
  pub read : (read_of info).refusal ≡ 0
  pub written : (at : ℕ) (out : List ℕ) → at + length info ≤ length out
      → write_message (read_of info).message at out
      ≡ record { answer = record { refusal = 0; count = length info }; out = take at out ++ (info ++ drop (at + length info) out) }

abbrev pub RepliesAsWritten : Type 0
RepliesAsWritten =
    (s : State) (book out : List ℕ) (b seq : ℕ) (info : List ℕ) → sound_of s ≡ true → length book ≡ 3840 → 544 ≤ length out
    → Octets book → Octets s.running.copy → Octets info
    → outcome_of (taken_of s.decoder b) ≡ sound (message seq s.own info) → CallsForReply s.memory seq info → s.sender.out.len ≡ 0
    → (reply : List ℕ) × Wrote (octet_of s book out b) (ack seq s.own ∷ message s.seq s.own reply ∷ []) × AsWritten reply

-- What a second shows

-- "A second call answers the current plan, step, seconds left in the step (this one counted) and both words", by the step table
-- of the running copy; nothing but the running plan and the frame out moves
pub record ShowsStep (s : State) (book out : List ℕ) : Type 0 where
  pub plan : (second_of s book out).plan ≡ s.running.plan
  pub row : Due (seconds_of s.running.copy) (order_of s.running.copy) (steps_of_plan s.running.copy) s.running.position (second_of s book out).row
  pub rest : (second_of s book out).state
      ≡ record { own = s.own; seq = s.seq; requested = s.requested; wait = s.wait; decoder = s.decoder; dropped = s.dropped; memory = s.memory; sender = record { out = (second_of s book out).state.sender.out; info = s.sender.info }; running = (second_of s book out).state.running }

abbrev pub SecondsShow : Type 0
SecondsShow =
    (s : State) (book out : List ℕ) → sound_of s ≡ true → length book ≡ 3840 → 544 ≤ length out → Octets s.running.copy → ShowsStep s book out

-- 02, E6: what a second does with the frame out; it tells how the link stands and what it writes, which is counted, and nothing else
pub record SecondTells (w : Shown) (o : Out) (l : Link) (fs : List Frame) : Type 0 where
  pub out : w.state.sender.out ≡ o
  pub told : w.told ≡ record { refusal = 0; parameter = 0; event = event.Nothing; count = w.told.count; dropped = 0; link = l }
  pub wrote : Writes w.told.count w.out fs

pub record SecondSends (s : State) (w : Shown) : Type 0 where
  pub none : s.sender.out.len ≡ 0 → SecondTells w s.sender.out link.Still []
  -- T seconds have not passed
  pub waits : (s.sender.out.len ≡ 0 → ⊥) → s.sender.out.waited + 1 < s.wait
      → SecondTells w (record { sends = s.sender.out.sends; waited = s.sender.out.waited + 1; len = s.sender.out.len }) link.Still []
  -- "when T seconds .. pass unanswered, the same frame goes again", with the SEQ and the octets that it had
  pub again : (s.sender.out.len ≡ 0 → ⊥) → s.wait ≤ s.sender.out.waited + 1 → s.sender.out.sends < 5
      → SecondTells w (once_more s.sender.out) link.Again (message ((s.seq + 255) % 256) s.own (take s.sender.out.len s.sender.info) ∷ [])
  -- "after five sends without an ACK, the link is reported down"
  pub down : (s.sender.out.len ≡ 0 → ⊥) → s.wait ≤ s.sender.out.waited + 1 → 5 ≤ s.sender.out.sends → SecondTells w nothing_out link.Down []

abbrev pub SecondsSend : Type 0
SecondsSend = (s : State) (book out : List ℕ) → sound_of s ≡ true → length book ≡ 3840 → 544 ≤ length out → SecondSends s (second_of s book out)

-- Lamps never wait: a second shows, and leaves running, what it would with nothing out
abbrev pub LampsNeverWait : Type 0
LampsNeverWait =
    (s : State) (book out : List ℕ) → sound_of s ≡ true → length book ≡ 3840 → 544 ≤ length out
    → (let w = second_of s book out in
    let t : State = record { own = s.own; seq = s.seq; requested = s.requested; wait = s.wait; decoder = s.decoder; dropped = s.dropped; memory = s.memory; sender = record { out = nothing_out; info = s.sender.info }; running = s.running } in
    let v = second_of t book out in
    (w.plan ≡ v.plan) × (w.row ≡ v.row) × (w.state.running ≡ v.state.running))

-- 02, E6: what an offer does

-- the frame is written with our next SEQ, and is then out; "decoder, E5's number, memory, request and running plan stay"
pub record OffersSo (s : State) (octets : List ℕ) (w : Offer) : Type 0 where
  pub wrote : Writes w.answer.told.count w.out (message s.seq s.own octets ∷ [])
  pub sent : Sent s.sender octets w.answer.state.sender
  pub state : w.answer.state
      ≡ record { own = s.own; seq = (s.seq + 1) % 256; requested = s.requested; wait = s.wait; decoder = s.decoder; dropped = s.dropped; memory = s.memory; sender = w.answer.state.sender; running = s.running }
  pub told : w.answer.told ≡ record { refusal = 0; parameter = 0; event = event.Nothing; count = w.answer.told.count; dropped = 0; link = link.Still }

abbrev pub OffersSend : Type 0
OffersSend = (s : State) (info out : List ℕ) → OfferDone s info out → OffersSo s info (offer_of s info out)
