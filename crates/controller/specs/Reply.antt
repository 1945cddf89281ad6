-- 01, "Messages": which reply a message gets, and what handling it brings, in 01's numbers; and what the code's names of them mean.
use Rattle.std.specs.Prelude.{ℕ}
use Rattle.octets.specs.Refusals.{refusal_number, told_number}
use Rattle.controller.specs.declared.Handled as code_handled
use Rattle.controller.specs.declared.Reply as code_reply
use Rattle.controller.specs.declared.Reply.TheVariants as code

-- 0F 80, of a message with this code; 0F 81: the code, the error number and the parameter number; 5F C4 and 5F C5 of a plan; 5F C8
pub data ReplyInNumbers : Type 0 where
  CarriedOut : (code : ℕ) → ReplyInNumbers
  Refused : (code number parameter : ℕ) → ReplyInNumbers
  Times : (plan : ℕ) → ReplyInNumbers
  Plan : (plan : ℕ) → ReplyInNumbers
  Running : ReplyInNumbers

-- the refusal and its parameter, the plan then requested, and which reply
pub record HandledInNumbers : Type 0 where
  pub refusal : ℕ
  pub parameter : ℕ
  pub requested : ℕ
  pub reply : ReplyInNumbers

abbrev pub reply_of : code_reply.Reply → ReplyInNumbers
reply_of (code.CarriedOut c) = CarriedOut c
reply_of (code.Refused c r parameter) = Refused c (refusal_number r) parameter
reply_of (code.Times p) = Times p
reply_of (code.Plan p) = Plan p
reply_of code.Running = Running

abbrev pub handled_as : code_handled.Handled → HandledInNumbers
handled_as h = record { refusal = told_number h.refusal; parameter = h.parameter; requested = h.requested; reply = reply_of h.reply }
