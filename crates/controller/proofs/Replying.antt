-- What an octet call writes: the INFO of every reply fits a frame, and the frames fit the output.
use Prim.Native.Nat.{ℕ, ◌*◌, ◌≤◌, ◌<◌}
use mathlib.Core.Path.{◌≡◌, refl}
use mathlib.Core.Bool.{true}
use mathlib.Core.List.{List, [], ◌∷◌}
use native.Mathlib.Decide.{dec_lt}
use native.Mathlib.Omega.{arith}
use borrow.Author.Tests.{ne_eqb, eqb-true, eqb-false}
use lib.Dec.{eqb}
use lib.ListN.{length, length-append}
use Rattle.octets.specs.Refusal as refusal
use Rattle.octets.proofs.Laws.{pick-by}
use Rattle.frame.specs.Frame.{message, ack, nak, info_least, info_most, front_of, sent_of, twice, doubled, written}
use Rattle.frame.specs.Decoder.{Decoder, possible_of, taken_of}
use Rattle.frame.proofs.Finding.{finds}
use Rattle.message.specs.Names.{plan_at}
use Rattle.message.specs.Reader.{code_in, body_in, read_of}
use Rattle.plan.specs.declared.Which.{Which}
use Rattle.plan.specs.Setting.{Answered}
use Rattle.record.specs.Record.{book_len, plans_most, empty, ready}
use Rattle.checks.specs.Standing.{standing_of}
use Rattle.plan.specs.Setting.{Setting, set_times_code, set_plan_code, set_times_of, set_plan_of, plan_in}
use Rattle.plan.specs.Reporting.{report_plan_code, report_running_code, times_info, plan_info}
use Rattle.plan.proofs.Reports.{times-most, plan-most}
use Rattle.plan.proofs.Reportable.{standing-past}
use Rattle.controller.specs.Reply.{HandledInNumbers}
use Rattle.controller.specs.Reply.{ReplyInNumbers}
use Rattle.controller.specs.Reply as reply
use Rattle.controller.specs.State.{State, output_len, plan_record, ready_in}
use Rattle.controller.specs.Handling.{Handling, reply_info, accepted, reads, asks, set_handled, run_code, query_times_code, query_plan_code, query_running_code, refused_with, set_as, unless_unread, run_as, query_times_as, query_plan_as, query_running_as, handling_of}
use Rattle.controller.specs.Replies.{sent, replies_of, CanFind}

-- What the decoder finds

pub can-find : (d : Decoder) (b : ℕ) → possible_of d.head ≡ true → CanFind (taken_of d b).found
can-find =
    finds {P = CanFind}
    (record {
      nothing = tt;
      refused = λ n k seq addr h. h;
      message = λ seq addr n least most. (least, most);
      ack = λ seq addr. tt;
      nak = λ seq addr err. tt;
    })

-- A plan that is reported

-- a plan with more than an empty record is one of the book, or plan 0
pub plan-in-book : (which : Which) (book : List ℕ) (p : ℕ) → length book ≡ book_len → (standing_of (plan_record which book p) ≡ empty → ⊥) → p ≤ plans_most
plan-in-book which book p hb n = by (dec_lt plans_most p)
  where
    by : Dec (plans_most < p) → p ≤ plans_most
    by (yes l) = absurd (n (rw (ne_eqb p 0 (λ z. absurd (omega arith))) (standing-past book p hb l)))
    by (no g) = omega arith

-- Every reply

-- what holds of each way to handle a message holds of what its code brings
pub handling-by : (P : Handling → Type 0) (s : State) (book info : List ℕ)
    → (code_in info ≡ set_times_code → P (set_handled (code_in info) s.requested (set_times_of book info)))
    → (code_in info ≡ set_plan_code → P (set_handled (code_in info) s.requested (set_plan_of book info)))
    → P (asks (code_in info) s.requested book info (run_as s.running.which (code_in info) s.requested book (plan_in (body_in info))))
    → P (asks (code_in info) s.requested book info (query_times_as s.running.which (code_in info) s.requested book (plan_in (body_in info))))
    → P (asks (code_in info) s.requested book info (query_plan_as s.running.which (code_in info) s.requested book (plan_in (body_in info))))
    → P (asks (code_in info) s.requested book info (query_running_as s.requested))
    → P (reads (refused_with (code_in info) s.requested refusal.code_not_handled 0) book) → P (handling_of s book info)
unfolding handling_of
handling-by P s book info times plan run query_times query_plan query_running unknown =
    let code = code_in info in
    pick-by P (eqb code set_times_code) (λ e. times (eqb-true code set_times_code e))
    (λ _. pick-by P (eqb code set_plan_code) (λ e. plan (eqb-true code set_plan_code e))
    (λ _. pick-by P (eqb code run_code) (λ _. run)
    (λ _. pick-by P (eqb code query_times_code) (λ _. query_times)
    (λ _. pick-by P (eqb code query_plan_code) (λ _. query_plan)
    (λ _. pick-by P (eqb code query_running_code) (λ _. query_running) (λ _. unknown))))))

-- what holds of every 0F 80, of every 0F 81 and of every report of what is there holds of what is handled
module _ (s : State) (book info : List ℕ) where
  abbrev code : ℕ
  code = code_in info

  abbrev p : ℕ
  p = plan_in (body_in info)

  -- the record of the plan that the message names
  abbrev named : List ℕ
  named = plan_record s.running.which book p

  module _ (P : HandledInNumbers → Type 0) (carried : (q : ℕ) → P (accepted q (reply.CarriedOut code))) (refused : (n m : ℕ) → P (refused_with code s.requested n m))
      (times : (standing_of named ≡ empty → ⊥) → P (accepted s.requested (reply.Times p))) (plan : standing_of named ≡ ready → P (accepted s.requested (reply.Plan p)))
      (running : P (accepted s.requested reply.Running)) where
    by_read : (h : HandledInNumbers) → P h → P (unless_unread code s.requested info h)
    by_read h w = pick-by P (eqb (read_of info).refusal refusal.none) (λ _. w) (λ _. refused (read_of info).refusal (read_of info).field)

    by-set : (a : Answered) → P (set_as code s.requested a)
    unfolding set_as
    by-set a = pick-by P (eqb a.refusal refusal.none) (λ _. carried s.requested) (λ _. refused a.refusal a.field)

    by-run : P (run_as s.running.which code s.requested book p)
    unfolding run_as
    by-run = pick-by P (ready_in s.running.which book p) (λ _. carried p) (λ _. refused refusal.not_ready plan_at)

    by-query-times : P (query_times_as s.running.which code s.requested book p)
    unfolding query_times_as
    by-query-times = pick-by P (eqb (standing_of named) empty) (λ _. refused refusal.not_ready plan_at) (λ e. times (eqb-false (standing_of named) empty e))

    by-query-plan : P (query_plan_as s.running.which code s.requested book p)
    unfolding query_plan_as
    by-query-plan = pick-by P (ready_in s.running.which book p) (λ e. plan (eqb-true (standing_of named) ready e)) (λ _. refused refusal.not_ready plan_at)

    pub by-reply : P (handling_of s book info).handled
    by-reply =
        handling-by (λ h. P h.handled) s book info (λ _. by-set (set_times_of book info).answer) (λ _. by-set (set_plan_of book info).answer)
        (by_read _ by-run) (by_read _ by-query-times) (by_read _ by-query-plan) (by_read _ running)
        (refused refusal.code_not_handled 0)

  -- its INFO fits a frame, whatever it names
  pub reply-fits : standing_of s.running.copy ≡ ready → length (reply_info s book (handling_of s book info).handled.reply) ≤ info_most
  unfolding reply_info
  reply-fits r =
      by-reply (λ h. length (reply_info s book h.reply) ≤ info_most) (λ q. omega arith) (λ n m. omega arith) (λ n. omega (arith, times-most named n p))
      (λ e. omega (arith, plan-most named e p report_plan_code)) (omega (arith, plan-most s.running.copy r s.running.plan report_running_code))

  pub reply-least : standing_of s.running.copy ≡ ready → info_least ≤ length (reply_info s book (handling_of s book info).handled.reply)
  unfolding reply_info times_info plan_info
  reply-least r =
      by-reply (λ h. info_least ≤ length (reply_info s book h.reply)) (λ q. omega arith) (λ n m. omega arith) (λ n. omega arith)
      (λ e. omega arith) (omega arith)

  -- A report is of the book as it came, since a message that has one leaves the book: what holds of the reply and that book, and of every 0F 80
  -- and 0F 81 and any book, holds of the reply and the book that is left
  module _ (P : List ℕ → ReplyInNumbers → Type 0) (carried : (b : List ℕ) → P b (reply.CarriedOut code)) (refused : (b : List ℕ) (n m : ℕ) → P b (reply.Refused code n m)) where
    set-left : (w : Setting) → P w.book (set_as code s.requested w.answer).reply
    unfolding set_as
    set-left w =
        pick-by (λ (h : HandledInNumbers). P w.book h.reply) (eqb w.answer.refusal refusal.none) (λ _. carried w.book)
        (λ _. refused w.book w.answer.refusal w.answer.field)

    pub by_left : P book (handling_of s book info).handled.reply → P (handling_of s book info).book (handling_of s book info).handled.reply
    by_left =
        handling-by (λ h. P book h.handled.reply → P h.book h.handled.reply) s book info (λ _ _. set-left (set_times_of book info)) (λ _ _. set-left (set_plan_of book info))
        (λ w. w) (λ w. w) (λ w. w) (λ w. w) (λ w. w)

  pub reply-as-came : reply_info s (handling_of s book info).book (handling_of s book info).handled.reply ≡ reply_info s book (handling_of s book info).handled.reply
  unfolding reply_info
  reply-as-came = by_left (λ b r. reply_info s b r ≡ reply_info s book r) (λ b. refl) (λ b n m. refl) refl

-- The frames fit

twice_most : (x : ℕ) → length (twice x) ≤ 2
unfolding twice
twice_most x = pick-by (λ (l : List ℕ). length l ≤ 2) (eqb x 0xAA) (λ _. omega arith) (λ _. omega arith)

doubled-most : (i : List ℕ) → length (doubled i) ≤ 2 * length i
unfolding doubled
doubled-most [] = omega arith
doubled-most (x ∷ xs) = omega (arith, length-append (twice x) (doubled xs), twice_most x, doubled-most xs)

pub nak-fits : (seq own err : ℕ) → length (sent (nak seq own err ∷ [])) ≤ output_len
unfolding written front_of sent_of
nak-fits seq own err = omega arith

pub ack-fits : (seq own : ℕ) → length (sent (ack seq own ∷ [])) ≤ output_len
unfolding written front_of sent_of
ack-fits seq own = omega arith

-- a message frame alone
pub message-most : (seq own : ℕ) (info : List ℕ) → length info ≤ info_most → length (sent (message seq own info ∷ [])) ≤ output_len
unfolding written front_of sent_of
message-most seq own info h = simp length-append (omega (arith, doubled-most info))

-- an ACK and a message frame
pub sent-most : (seq ours own : ℕ) (info : List ℕ) → length info ≤ info_most → length (sent (replies_of seq ours own info)) ≤ output_len
unfolding written front_of sent_of
sent-most seq ours own info h = simp length-append (omega (arith, doubled-most info))
