-- 01, "Replies": what every call tells, in 01's numbers, and what the code's answer tells.
use Rattle.std.specs.Prelude.{ℕ}
use Rattle.octets.specs.Refusals.{told_number}
use Rattle.controller.specs.declared.Event.{Event}
use Rattle.controller.specs.declared.Link.{Link}
use Rattle.controller.specs.declared.Told as code

-- the refusal, 0 for none, and its parameter; the event; how many octets are written, and how many were dropped; and how the link stands
pub record ToldInNumbers : Type 0 where
  pub refusal : ℕ
  pub parameter : ℕ
  pub event : Event
  pub count : ℕ
  pub dropped : ℕ
  pub link : Link

abbrev pub told_of : code.Told → ToldInNumbers
told_of t = record { refusal = told_number t.refusal; parameter = t.parameter; event = t.event; count = t.count; dropped = t.dropped; link = t.link }
