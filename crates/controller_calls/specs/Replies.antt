-- What an octet brought, as the functions tell it: its frames are written and counted.
use Rattle.std.specs.Prelude.{◌≡◌, ℕ, Bool, List, length, take, drop, Option}
use Rattle.std.proofs.lemmas.List.Edits.{sets}
use Rattle.octets.specs.declared.refusal.Refusal.{Refusal}
use Rattle.octets.specs.Refusals.{told_number}
use Rattle.frame.specs.Frame.{info_most}
use Rattle.frame.specs.Run.{Outcome}
use Rattle.controller.specs.declared.Event.{Event}
use Rattle.controller.specs.declared.Held.{Held}
use Rattle.controller.specs.declared.Last.{Last}
use Rattle.controller.specs.declared.Link.{Link}
use Rattle.controller.specs.declared.Link.TheVariants as link
use Rattle.controller.specs.declared.Out.{Out}
use Rattle.controller.specs.declared.Turn.{Turn}
use Rattle.controller.specs.Reply.{HandledInNumbers, ReplyInNumbers}
use Rattle.controller.specs.Memory.{Memory, joined_memory}
use Rattle.controller.specs.Sender.{out_start, joined_sender}
use Rattle.controller.specs.State.{joined, kept_len}
use Rattle.controller.specs.Handling.{reply_info}
use Rattle.controller.specs.Replies.{sent, Result, ResultAndBook, replied_of, accepted_of, met_with_silence, answered_of, brought_of, memory_then}
use Rattle.controller_calls.specs.Sender.{InfoPut, KeptFor}
use Rattle.controller_calls.specs.declared.replies.ResultCounted as code_result
use Rattle.controller_calls.specs.declared.replies.Brought as code_brought

-- what is told, in 01's numbers: the refusal and its parameter, the event, the octets written, the SEQ, the request and the frame out that the state then
-- has, and how the link stands
pub record ResultInNumbers : Type 0 where
  pub refusal : ℕ
  pub parameter : ℕ
  pub event : Event
  pub count : ℕ
  pub seq : ℕ
  pub requested : ℕ
  pub out : Out
  pub link : Link

-- and what is remembered then
pub record BroughtInNumbers : Type 0 where
  pub result : ResultInNumbers
  pub last : Last

-- what the code's answers tell
abbrev pub result_told : code_result.ResultCounted → ResultInNumbers
result_told r = record { refusal = told_number r.refusal; parameter = r.parameter; event = r.event; count = r.count; seq = r.seq; requested = r.requested; out = r.out; link = r.link }

abbrev pub brought_as : code_brought.Brought → BroughtInNumbers
brought_as r = record { result = result_told r.result; last = r.last }

-- what is told of it: its frames are counted
abbrev pub result_counted : Result → ResultInNumbers
result_counted w =
    record {
      refusal = w.refusal;
      parameter = w.parameter;
      event = w.event;
      count = length (sent w.frames);
      seq = w.seq;
      requested = w.requested;
      out = w.sender.out;
      link = w.link;
    }

-- r tells the result w, and the output is so before and after
pub record ResultWritten (w : Result) (before : List ℕ) (r : ResultInNumbers) (after : List ℕ) : Type 0 where
  pub told : r ≡ result_counted w
  pub out : after ≡ sets before 0 (sent w.frames)

-- and b is left in the book, as it should
pub record ResultAndBookLeft (w : ResultAndBook) (before : List ℕ) (r : ResultInNumbers) (b after : List ℕ) : Type 0 where
  pub tells : ResultWritten w.result before r after
  pub book : b ≡ w.book

-- where no message is handled there is no parameter; SEQ, request and what is out stay
abbrev pub unchanged_as : Held → ℕ → Event → ℕ → ResultInNumbers
unchanged_as s n e count = record { refusal = n; parameter = 0; event = e; count = count; seq = s.seq; requested = s.requested; out = s.out; link = link.Still }

abbrev pub held_unchanged : Held → Option Refusal → Event → ℕ → code_result.ResultCounted
held_unchanged s why e count = record { refusal = why; parameter = 0; event = e; count = count; seq = s.seq; requested = s.requested; out = s.out; link = link.Still }

-- and no message frame was accepted: what is remembered stays
abbrev pub brought_still : Held → ResultInNumbers → BroughtInNumbers
brought_still s r = record { result = r; last = s.last }

abbrev pub held_still : Held → code_result.ResultCounted → code_brought.Brought
held_still s r = record { result = r; last = s.last }

-- The INFO of a reply is the same whatever octets are kept.
abbrev pub ReplyPut : Held → List ℕ → ReplyInNumbers → List ℕ → ℕ → List ℕ → Type 0
ReplyPut s book reply before n after = (kept : List ℕ) → InfoPut (reply_info (joined s kept) book reply) before n after

-- What a message that is accepted brings. `lent` are the octets as they are when it is carried out, and before the decoder's own call they were any that
-- agree with these in what is kept of the frame out.
pub record RepliedLeft (w : Result) (lent before : List ℕ) (r : ResultInNumbers) (k after : List ℕ) : Type 0 where
  pub tells : ResultWritten w before r after
  pub kept : KeptFor w.sender lent k

abbrev pub RepliedWith : Held → List ℕ → ℕ → ℕ → HandledInNumbers → List ℕ → List ℕ → ResultInNumbers → List ℕ → List ℕ → Type 0
RepliedWith s book seq addr h lent before r k after =
    (came : List ℕ) → drop out_start came ≡ drop out_start lent → RepliedLeft (replied_of (joined s came) book seq addr h) lent before r k after

pub record AcceptedLeft (w : ResultAndBook) (lent before : List ℕ) (r : ResultInNumbers) (k b after : List ℕ) : Type 0 where
  pub replied : RepliedLeft w.result lent before r k after
  pub book : b ≡ w.book

abbrev pub AcceptedWith : Held → ℕ → ℕ → List ℕ → List ℕ → List ℕ → List ℕ → ResultInNumbers → List ℕ → List ℕ → List ℕ → Type 0
AcceptedWith s seq addr info lent book before r k b after =
    (came : List ℕ) → drop out_start came ≡ drop out_start lent → AcceptedLeft (accepted_of (joined s came) seq addr info book) lent before r k b after

-- is the message met with silence? What the octets kept hold does not matter
abbrev pub SilenceWith : Held → ℕ → List ℕ → Bool → Type 0
SilenceWith s addr info r = (kept : List ℕ) → r ≡ met_with_silence (joined s kept) addr info

-- An ACK or a NAK: the octets stay
abbrev pub AnsweredWith : Held → ℕ → Event → Turn → List ℕ → List ℕ → ResultInNumbers → List ℕ → Type 0
AnsweredWith s addr e t lent before r after =
    (came book : List ℕ) → drop out_start came ≡ drop out_start lent → ResultWritten (answered_of (joined s came) addr e t book).result before r after

-- r tells the result w and what m has of SEQ and length; of the octets `lent` k are left, the decoder's and those beyond as they came, those between with
-- the INFO that m has and the INFO of the frame out
pub record BroughtLeft (w : ResultAndBook) (m : Memory) (lent before : List ℕ) (r : BroughtInNumbers) (k b after : List ℕ) : Type 0 where
  pub result : ResultAndBookLeft w before r.result b after
  pub memory : joined_memory r.last k ≡ m
  pub sender : joined_sender r.result.out k ≡ w.result.sender
  pub info : take info_most k ≡ take info_most lent
  pub beyond : drop kept_len k ≡ drop kept_len lent

-- What an octet brings. `lent` are the octets as the decoder's own call has left them, and before it they were any that agree with these beyond the
-- decoder's.
abbrev pub BroughtWith : Outcome → Held → List ℕ → List ℕ → List ℕ → BroughtInNumbers → List ℕ → List ℕ → List ℕ → Type 0
BroughtWith o s lent book before r k b after =
    (came : List ℕ) → drop info_most came ≡ drop info_most lent → BroughtLeft (brought_of o (joined s came) book) (memory_then o (joined s came)) lent before r k b after
