-- 01, "Messages" and "Plan book": what the controller does with a message, which reply it gets, and the octets of that reply.
--
-- "The controller handles 14, 15, 18, 44, 45, 48, 0F 80 and 0F 81; a report sent to it is refusal 10. Sets and 18 are replied to
-- with 0F 80, queries with C4, C5, C8."
use Rattle.std.specs.Prelude.{ℕ, List, [], ◌∷◌, eqb}
use Rattle.octets.specs.Choice.{pick}
use Rattle.octets.specs.Refusal as refusal
use Rattle.octets.specs.Word.{high_of, low_of}
use Rattle.message.specs.Names.{plan_at}
use Rattle.message.specs.Reader.{code_in, body_in, read_of}
use Rattle.plan.specs.declared.Which.{Which}
use Rattle.plan.specs.Setting.{Answered}
use Rattle.record.specs.Record.{empty}
use Rattle.checks.specs.Standing.{standing_of}
use Rattle.plan.specs.Setting.{Setting, set_times_code, set_plan_code, set_times_of, set_plan_of, plan_in}
use Rattle.plan.specs.Reporting.{report_plan_code, report_running_code, times_info, plan_info}
use Rattle.controller.specs.Reply.{ReplyInNumbers}
use Rattle.controller.specs.Reply as reply
use Rattle.controller.specs.Reply.{HandledInNumbers}
use Rattle.controller.specs.State.{State, plan_record, ready_in}

abbrev pub carried_out_code : ℕ
carried_out_code = 0x0F80

abbrev pub refused_code : ℕ
refused_code = 0x0F81

abbrev pub run_code : ℕ
run_code = 0x5F18

abbrev pub query_times_code : ℕ
query_times_code = 0x5F44

abbrev pub query_plan_code : ℕ
query_plan_code = 0x5F45

abbrev pub query_running_code : ℕ
query_running_code = 0x5F48

-- "0F 80 | code(2)", "0F 81 | code(2), error number, parameter number": its own code, the code that it answers, and the numbers
abbrev pub answer_info : ℕ → ℕ → List ℕ → List ℕ
answer_info answer code numbers = high_of answer ∷ low_of answer ∷ high_of code ∷ low_of code ∷ numbers

-- The INFO octets that each reply stands for. A report is of its plan's record in the book as it came, and 5F C8 of the copy that runs.
unfoldable pub reply_info : State → List ℕ → ReplyInNumbers → List ℕ
reply_info s book (reply.CarriedOut code) = answer_info carried_out_code code []
reply_info s book (reply.Refused code n parameter) = answer_info refused_code code (n ∷ parameter ∷ [])
reply_info s book (reply.Times p) = times_info (plan_record s.running.which book p) p
reply_info s book (reply.Plan p) = plan_info (plan_record s.running.which book p) p report_plan_code
reply_info s book reply.Running = plan_info s.running.copy s.running.plan report_running_code

-- What a message brings: the refusal and its parameter, the plan then requested, which reply, and the book

pub record Handling : Type 0 where
  pub handled : HandledInNumbers
  pub book : List ℕ

abbrev pub accepted : ℕ → ReplyInNumbers → HandledInNumbers
accepted requested reply = record { refusal = refusal.none; parameter = 0; requested = requested; reply = reply }

abbrev pub refused_with : ℕ → ℕ → ℕ → ℕ → HandledInNumbers
refused_with code requested n parameter = record { refusal = n; parameter = parameter; requested = requested; reply = reply.Refused code n parameter }

-- 5F 14 and 5F 15: what the set answered
unfoldable pub set_as : ℕ → ℕ → Answered → HandledInNumbers
set_as code requested a =
    pick (eqb a.refusal refusal.none) (accepted requested (reply.CarriedOut code))
    (refused_with code requested a.refusal a.field)

-- what the message reader refuses is refused so; else h
abbrev pub unless_unread : ℕ → ℕ → List ℕ → HandledInNumbers → HandledInNumbers
unless_unread code requested info h =
    pick (eqb (read_of info).refusal refusal.none) h
    (refused_with code requested (read_of info).refusal (read_of info).field)

-- "5F 18 notes the requested plan. Refused 13: .. 5F 18 of one not ready."
unfoldable pub run_as : Which → ℕ → ℕ → List ℕ → ℕ → HandledInNumbers
run_as which code requested book p =
    pick (ready_in which book p) (accepted p (reply.CarriedOut code))
    (refused_with code requested refusal.not_ready plan_at)

-- "Refused 13: 5F 44 of an empty plan"
unfoldable pub query_times_as : Which → ℕ → ℕ → List ℕ → ℕ → HandledInNumbers
query_times_as which code requested book p =
    pick (eqb (standing_of (plan_record which book p)) empty) (refused_with code requested refusal.not_ready plan_at)
    (accepted requested (reply.Times p))

-- "5F 45 .. of one not ready"
unfoldable pub query_plan_as : Which → ℕ → ℕ → List ℕ → ℕ → HandledInNumbers
query_plan_as which code requested book p =
    pick (ready_in which book p) (accepted requested (reply.Plan p))
    (refused_with code requested refusal.not_ready plan_at)

-- "5F 48 query running plan": the copy that runs
abbrev pub query_running_as : ℕ → HandledInNumbers
query_running_as requested = accepted requested reply.Running

-- a message that leaves the book, one of these that is read first, and a set
abbrev pub reads : HandledInNumbers → List ℕ → Handling
reads h book = record { handled = h; book = book }

abbrev pub asks : ℕ → ℕ → List ℕ → List ℕ → HandledInNumbers → Handling
asks code requested book info h = reads (unless_unread code requested info h) book

abbrev pub set_handled : ℕ → ℕ → Setting → Handling
set_handled code requested w = record { handled = set_as code requested w.answer; book = w.book }

-- by the code; "code not handled" is refusal 10; plan 0 is the one that is kept beside the running plan
unfoldable pub handling_of : State → List ℕ → List ℕ → Handling
handling_of s book info =
    let which = s.running.which in
    let requested = s.requested in
    let code = code_in info in
    let p = plan_in (body_in info) in
    pick (eqb code set_times_code) (set_handled code requested (set_times_of book info))
    (pick (eqb code set_plan_code) (set_handled code requested (set_plan_of book info))
    (pick (eqb code run_code) (asks code requested book info (run_as which code requested book p))
    (pick (eqb code query_times_code) (asks code requested book info (query_times_as which code requested book p))
    (pick (eqb code query_plan_code) (asks code requested book info (query_plan_as which code requested book p))
    (pick (eqb code query_running_code) (asks code requested book info (query_running_as requested))
    (reads (refused_with code requested refusal.code_not_handled 0) book))))))
