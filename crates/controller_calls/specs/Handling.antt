-- What handling a message leaves, and that there is what its reply reports.
use Rattle.std.specs.Prelude.{◌≡◌, ℕ, ◌+◌, ◌⊎◌, Bool, List, Some, None, Result, Ok, Err}
use Rattle.octets.specs.Choice.{pick}
use Rattle.octets.specs.Refusal as refusal
use Rattle.message.specs.declared.Fault.{Fault}
use Rattle.message.specs.Names.{plan_at}
use Rattle.record.specs.Record.{empty, ready}
use Rattle.checks.specs.Standing.{standing_of}
use Rattle.controller.specs.declared.Handled as code_handled
use Rattle.controller.specs.declared.Held.{Held}
use Rattle.controller.specs.declared.Reply as code_reply
use Rattle.controller.specs.declared.Reply.TheVariants as code
use Rattle.controller.specs.Reply.{HandledInNumbers, ReplyInNumbers, handled_as}
use Rattle.controller.specs.Reply as reply
use Rattle.controller.specs.State.{joined, plan_record}
use Rattle.controller.specs.Handling.{Handling, refused_with, handling_of}

-- the message was handled as it should, and b is left in the book
pub record HandlingLeaves (w : Handling) (h : HandledInNumbers) (b : List ℕ) : Type 0 where
  pub handled : h ≡ w.handled
  pub book : b ≡ w.book

-- the same by the code's struct: what octets are lent with it does not matter, since those of the message are handed on
abbrev pub HandledWith : Held → List ℕ → List ℕ → HandledInNumbers → List ℕ → Type 0
HandledWith s book info h b = (kept : List ℕ) → HandlingLeaves (handling_of (joined s kept) book info) h b

-- a message that is carried out, as the code tells it
abbrev pub done_for : ℕ → code_reply.Reply → code_handled.Handled
done_for requested reply = record { refusal = None; parameter = 0; requested = requested; reply = reply }

-- what a fault refuses, of a message with this code
abbrev pub refused_for : ℕ → ℕ → Fault → code_handled.Handled
refused_for n requested e = record { refusal = Some e.refusal; parameter = e.field; requested = requested; reply = code.Refused n e.refusal e.field }

-- what the code makes of a message: it is handled, or there is a fault
abbrev pub handled_by : ℕ → ℕ → Result code_handled.Handled Fault → HandledInNumbers
handled_by code requested (Ok h) = handled_as h
handled_by code requested (Err e) = handled_as (refused_for code requested e)

-- h, or that the plan is not ready
abbrev pub DoneIf : Bool → HandledInNumbers → Result code_handled.Handled Fault → Type 0
DoneIf stands h r = (code requested : ℕ) → handled_by code requested r ≡ pick stands h (refused_with code requested refusal.not_ready plan_at)

-- what a reply reports is there
abbrev pub Reportable : Held → List ℕ → ReplyInNumbers → Type 0
Reportable s book (reply.CarriedOut code) = Unit
Reportable s book (reply.Refused code n parameter) = Unit
Reportable s book (reply.Times p) = standing_of (plan_record s.running.which book p) ≡ empty → ⊥
Reportable s book (reply.Plan p) = standing_of (plan_record s.running.which book p) ≡ ready
Reportable s book reply.Running = standing_of s.running.copy ≡ ready

-- the code, whose second octet is this, is one of those that leave the book: 5F 18, 5F 44, 5F 45 and 5F 48
pub record Asks (code second : ℕ) : Type 0 where
  pub octets : code ≡ 0x5F00 + second
  pub one : (second ≡ 0x18) ⊎ ((second ≡ 0x44) ⊎ ((second ≡ 0x45) ⊎ (second ≡ 0x48)))
