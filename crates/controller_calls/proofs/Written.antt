-- What the frame and message writers leave in an output that is long enough, and what is told of it.
use Rattle.std.specs.Prelude.{Result, Ok, Err, IsOk}
use Rattle.std.proofs.Common.{◌≡◌, ℕ, ◌+◌, ◌%◌, ◌≤◌, true, false, eqb, List, [], ◌∷◌, length, take, drop, sym, refl, ap, ◌∙◌, subst, append-nil, arith, length-append, drop-drop, eq-eqb, le-leb}
use lib.Seq.{sets, length-sets}
use Rattle.octets.specs.Put.{Stored}
use Rattle.octets.specs.Refusal as refusal
use Rattle.octets.specs.declared.refusal.Refusal.{Refusal}
use Rattle.octets.specs.Refusals.{told_number}
use Rattle.octets.specs.Writing.{Written, written_of, Writing, WriterLeaves, written_as}
use Rattle.octets.proofs.Laws.{pick-by, stored-then}
use Rattle.frame.specs.declared.Kind.{Kind}
use Rattle.frame.specs.declared.Kind.TheVariants.{Message}
use Rattle.frame.specs.Frame.{Frame, message, ack, nak, info_fits, info_least, info_most, written}
use Rattle.frame.specs.declared.decoder.Found.{Found}
use Rattle.frame.specs.declared.decoder.Found.TheVariants as found
use Rattle.frame.specs.declared.decoder.Received.{Received}
use Rattle.frame.specs.Run.{found_means, outcome_of}
use Rattle.frame.specs.Writer as frame
use Rattle.frame.specs.Dropped.{Counted, received_with, ReceivedLeaves}
use Rattle.record.specs.Record.{ready}
use Rattle.checks.specs.Standing.{standing_of}
use Rattle.plan.specs.Reporting.{report_plan_code, report_running_code, times_info, plan_info}
use Rattle.plan_calls.proofs.Read.{refused-some}
use Rattle.plan.proofs.Reports.{times-most, plan-most}
use Rattle.controller.specs.declared.Event.{Event}
use Rattle.controller.specs.declared.Event.TheVariants as event
use Rattle.controller.specs.declared.Held.{Held}
use Rattle.controller.specs.declared.HeldAnswer.{HeldAnswer}
use Rattle.controller.specs.Reply.{HandledInNumbers, ReplyInNumbers}
use Rattle.controller.specs.Reply as reply
use Rattle.controller.specs.declared.Link.TheVariants as link
use Rattle.controller.specs.declared.Out.{Out}
use Rattle.controller.specs.declared.Turn.{Turn}
use Rattle.controller.specs.Memory.{Memory, joined_memory}
use Rattle.controller.specs.Sender.{Sender, out_start, sending}
use Rattle.controller.specs.State.{State, joined, kept_len, output_len, plan_record}
use Rattle.controller.specs.Handling.{Handling, reply_info, handling_of}
use Rattle.controller.specs.Replies.{Answer, CallLeaves, CanFind, sent, naks, acks, err_of, replies_of, ResultAndBook, leaves, unchanged, replied_of, handled_of, answered_of, done_of}
use Rattle.controller.proofs.Replying.{by-reply, by_left, reply-as-came, ack-fits, nak-fits, sent-most}
use Rattle.controller_calls.specs.declared.replies.Brought as code_brought
use Rattle.controller_calls.specs.Handling.{HandlingLeaves, Reportable}
use Rattle.controller_calls.specs.Replies.{ResultInNumbers, BroughtInNumbers, brought_as, ResultWritten, unchanged_as, brought_still, ReplyPut, RepliedWith, AcceptedLeft, AnsweredWith, BroughtLeft, BroughtWith}
use Rattle.controller_calls.proofs.Putting.{sent_once, info-put, put-kept, kept-as-was}

-- What the decoder finds

-- INFO of a message that is found is of a length that INFO can have
pub can-take : {f : Found} {seq addr n : ℕ} → f ≡ found.Message seq addr n → CanFind f → (info_least ≤ n) × (n ≤ info_most)
can-take e c = subst CanFind e c

-- Frames

-- where nothing is refused the writer answers how many octets it stored
pub stored-ok : (r : Result ℕ Refusal) → (written_of r).refusal ≡ refusal.none → IsOk r
stored-ok (Ok n) e = refl
stored-ok (Err x) e = absurd (refused-some x e)

abbrev stored-as : List ℕ → ℕ → List ℕ → Writing
stored-as vs at out = record { answer = record { refusal = refusal.none; count = length vs }; out = sets out at vs }

-- a writing that fits is the octets stored
written-fits : (vs : List ℕ) (at : ℕ) (out : List ℕ) → at + length vs ≤ length out → written_as vs at out ≡ stored-as vs at out
unfolding written_as
written-fits vs at out h = rw (le-leb (at + length vs) (length out) h)

frame-fits : (f : Frame) (at : ℕ) (out : List ℕ) → info_fits f ≡ true → at + length (written f) ≤ length out → frame.write_frame f at out ≡ stored-as (written f) at out
unfolding frame.write_frame
frame-fits f at out i h = rw i (written-fits (written f) at out h)

module _ (f : Frame) (at : ℕ) (out : List ℕ) {r : Written} {o : List ℕ} (i : info_fits f ≡ true) (h : at + length (written f) ≤ length out) (w : WriterLeaves (frame.write_frame f at out) r o) where
  pub frame-count : r.count ≡ length (written f)
  frame-count = ap (λ (x : Written). x.count) (w.answer ∙ ap (λ (x : Writing). x.answer) (frame-fits f at out i h))

  pub frame-none : r.refusal ≡ refusal.none
  frame-none = ap (λ (x : Written). x.refusal) (w.answer ∙ ap (λ (x : Writing). x.answer) (frame-fits f at out i h))

  pub frame-stored : {n : ℕ} → n ≡ at + r.count → Stored (written f) at out n o
  frame-stored e =
      let s : o ≡ sets out at (written f) = w.out ∙ ap (λ (x : Writing). x.out) (frame-fits f at out i h) in
      record { place = e ∙ ap (λ (k : ℕ). at + k) frame-count; holds = s; long = ap length s ∙ length-sets out at (written f); fits = omega (arith, e, frame-count, h) }

pub sent-one : (f : Frame) {out o : List ℕ} {n : ℕ} → Stored (written f) 0 out n o → Stored (sent (f ∷ [])) 0 out n o
sent-one f s = rw (append-nil (written f)) s

pub sent-two : (f g : Frame) {out p o : List ℕ} {n m : ℕ} → Stored (written f) 0 out n p → Stored (written g) n p m o → Stored (sent (f ∷ g ∷ [])) 0 out m o
sent-two f g s t = rw (append-nil (written g)) (stored-then s t)

-- INFO of a length that INFO can have
pub info-right : (seq own : ℕ) (info : List ℕ) → info_least ≤ length info → length info ≤ info_most → info_fits (message seq own info) ≡ true
info-right seq own info least most = rw (le-leb info_least (length info) least, le-leb (length info) info_most most)

-- a message frame alone
pub message-stored : (seq own : ℕ) (info out : List ℕ) → info_fits (message seq own info) ≡ true → length (written (message seq own info)) ≤ length out
    → {w : Written} {o : List ℕ} → WriterLeaves (frame.write_frame (message seq own info) 0 out) w o → Stored (sent (message seq own info ∷ [])) 0 out w.count o
message-stored seq own info out i l w = sent-one (message seq own info) (frame-stored (message seq own info) 0 out i (omega arith) w (omega arith))

pub message-none : (seq own : ℕ) (info out : List ℕ) → info_fits (message seq own info) ≡ true → length (written (message seq own info)) ≤ length out
    → {w : Written} {o : List ℕ} → WriterLeaves (frame.write_frame (message seq own info) 0 out) w o → w.refusal ≡ refusal.none
message-none seq own info out i l w = frame-none (message seq own info) 0 out i (omega arith) w

pub sent-none : {out : List ℕ} → Stored (sent []) 0 out 0 out
sent-none {out} = record { place = refl; holds = refl; long = refl; fits = omega arith }

-- What is told

-- what is stored from the start on is counted
pub stored-count : {A : Type 0} {vs out o : List ℕ} {count : ℕ} → Stored vs 0 out count o → (f : ℕ → A) → f count ≡ f (length vs)
stored-count p f = ap f (p.place ∙ omega arith)

module _ (s : Held) (n : ℕ) (e : Event) (fs : List Frame) {out o : List ℕ} {count : ℕ} {r : ResultInNumbers} where
  pub stored-tells : Stored (sent fs) 0 out count o → r ≡ unchanged_as s n e count → (kept : List ℕ) → ResultWritten (unchanged (joined s kept) n e fs) out r o
  stored-tells p h kept = record { told = h ∙ stored-count p (λ k. unchanged_as s n e k); out = p.holds }

-- what the call answers of it, t being what the decoder's own call answered
abbrev held_by : Held → Received → code_brought.Brought → HeldAnswer
held_by s t w =
    let r = w.result in
    record {
      state = record { own = s.own; seq = r.seq; requested = r.requested; wait = s.wait; last = w.last; out = r.out; receiver = t.receiver; running = s.running };
      told = record { refusal = r.refusal; parameter = r.parameter; event = r.event; count = r.count; dropped = t.dropped; link = r.link };
    }

abbrev answered_by : State → Counted → Memory → Sender → ResultInNumbers → Answer
answered_by s c m q r =
    record {
      state = record { own = s.own; seq = r.seq; requested = r.requested; wait = s.wait; decoder = c.taken.decoder; dropped = c.kept; memory = m; sender = q; running = s.running };
      told = record { refusal = r.refusal; parameter = r.parameter; event = r.event; count = r.count; dropped = c.told; link = r.link };
    }

-- the decoder has what its own octets are
received-info : (t : Received) (k l : List ℕ) → take info_most k ≡ take info_most l → received_with t k ≡ received_with t l
received-info t k l e i =
    record {
      taken = record { refusal = told_number t.refusal; decoder = record { head = t.receiver.head; info = e i }; found = t.found };
      told = t.dropped;
      kept = t.receiver.dropped;
    }

-- what agrees beyond the decoder's octets agrees beyond any others
pub beyond-more : (n : ℕ) (k l : List ℕ) → drop info_most k ≡ drop info_most l → drop (info_most + n) k ≡ drop (info_most + n) l
beyond-more n k l e = sym (drop-drop n info_most k) ∙ ap (λ (m : List ℕ). drop n m) e ∙ drop-drop n info_most l

-- a call tells of the state what was brought; t is what the decoder took, k the octets that it left, and k' those that are left then
pub done-did : (s : Held) (lent book out : List ℕ) {w : Counted} {t : Received} {k k' : List ℕ} {r : code_brought.Brought} {b o : List ℕ}
    → ReceivedLeaves w lent t k → BroughtWith (found_means t.found (take info_most k)) s k book out (brought_as r) k' b o
    → CallLeaves (done_of (joined s lent) w book out) lent (held_by s t r) k' b o
unfolding done_of
done-did s lent book out {w} {t} {k} {k'} {r} h f =
    let e : outcome_of w.taken ≡ found_means t.found (take info_most k) = ap (λ (c : Counted). outcome_of c.taken) (sym h.answer) in
    let g = rw (← e) at (f lent (sym h.beyond)) in
    let c : received_with t k' ≡ w = received-info t k' k g.info ∙ h.answer in
    record {
      answer = (λ i. answered_by (joined s lent) (c i) (g.memory i) (g.sender i) (g.result.tells.told i));
      beyond = g.beyond ∙ beyond-more out_start k lent h.beyond;
      book = g.result.book;
      out = g.result.tells.out;
    }

-- What is brought

-- what is remembered, and what is out, was so before the decoder's own call
module _ (s : Held) (came lent : List ℕ) (e : drop info_most came ≡ drop info_most lent) where
  pub memory-came : joined_memory s.last came ≡ joined_memory s.last lent
  memory-came i = record { last = s.last; info = take info_most (e i) }

  pub out-came : drop out_start came ≡ drop out_start lent
  out-came = beyond-more info_most came lent e

  -- no message frame is accepted: an octet that leaves SEQ, request and what is out
  pub brought-unchanged : (n : ℕ) (v : Event) (fs : List Frame) (book : List ℕ) {out o : List ℕ} {count : ℕ} {r : ResultInNumbers} {q : BroughtInNumbers} → Stored (sent fs) 0 out count o
      → r ≡ unchanged_as s n v count → q ≡ brought_still s r → BroughtLeft (leaves book (unchanged (joined s came) n v fs)) (joined s came).memory lent out q lent book o
  brought-unchanged n v fs book p u g =
      rw (g, u)
      (record {
        result = record { tells = stored-tells s n v fs p refl came; book = refl };
        memory = sym memory-came;
        sender = (λ i. record { out = s.out; info = take info_most (sym out-came i) });
        info = refl;
        beyond = refl;
      })

  -- an ACK or a NAK
  answered-leaves : (addr : ℕ) (v : Event) (t : Turn) (book : List ℕ)
      → (let w = answered_of (joined s came) addr v t book in (take info_most (drop out_start lent) ≡ w.result.sender.info) × (book ≡ w.book))
  unfolding answered_of
  answered-leaves addr v t book =
      let o : take info_most (drop out_start lent) ≡ take info_most (drop out_start came) = ap (λ (l : List ℕ). take info_most l) (sym out-came) in
      pick-by (λ (w : ResultAndBook). (take info_most (drop out_start lent) ≡ w.result.sender.info) × (book ≡ w.book)) (eqb addr s.own) (λ _. (o, refl)) (λ _. (o, refl))

  pub brought-answered : (addr : ℕ) (v : Event) (t : Turn) (book : List ℕ) {out o : List ℕ} {r : ResultInNumbers} {q : BroughtInNumbers} → AnsweredWith s addr v t lent out r o
      → q ≡ brought_still s r → BroughtLeft (answered_of (joined s came) addr v t book) (joined s came).memory lent out q lent book o
  brought-answered addr v t book w g =
      let h = w came book out-came in
      let l = answered-leaves addr v t book in
      rw g
      (record {
        result = record { tells = h; book = l.1 };
        memory = sym memory-came;
        sender = (λ i. record { out = (h.told i).out; info = l.0 i });
        info = refl;
        beyond = refl;
      })

-- ACK and NAK

module _ (own seq addr : ℕ) (out : List ℕ) where
  pub ack-none : output_len ≤ length out → {w : Written} {o : List ℕ} → WriterLeaves (frame.write_frame (ack seq own) 0 out) w o → w.refusal ≡ refusal.none
  ack-none h w =
      let f : 0 + length (written (ack seq own)) ≤ length out = omega (arith, h, ack-fits seq own, ap length (append-nil (written (ack seq own)))) in
      frame-none (ack seq own) 0 out refl f w

  pub ack-stored : addr ≡ own → output_len ≤ length out → {w : Written} {o : List ℕ} → WriterLeaves (frame.write_frame (ack seq own) 0 out) w o
      → Stored (sent (acks own seq addr)) 0 out w.count o
  ack-stored e h w =
      let f : 0 + length (written (ack seq own)) ≤ length out = omega (arith, h, ack-fits seq own, ap length (append-nil (written (ack seq own)))) in
      rw (eq-eqb addr own e) (sent-one (ack seq own) (frame-stored (ack seq own) 0 out refl f w (omega arith)))

pub nak-none : (own n seq : ℕ) (out : List ℕ) → output_len ≤ length out → {e : ℕ} → e ≡ err_of n → {w : Written} {o : List ℕ} → WriterLeaves (frame.write_frame (nak seq own e) 0 out) w o
    → w.refusal ≡ refusal.none
nak-none own n seq out h {e} ee w =
    let f : 0 + length (written (nak seq own e)) ≤ length out = omega (arith, h, nak-fits seq own e, ap length (append-nil (written (nak seq own e)))) in
    frame-none (nak seq own e) 0 out refl f w

module _ {kind : Kind} (own n seq addr : ℕ) (out : List ℕ) where
  pub nak-stored : kind ≡ Message → addr ≡ own → output_len ≤ length out → {e : ℕ} → e ≡ err_of n → {w : Written} {o : List ℕ} → WriterLeaves (frame.write_frame (nak seq own e) 0 out) w o
      → Stored (sent (naks kind own n seq addr)) 0 out w.count o
  nak-stored k a h {e} ee w =
      let f : 0 + length (written (nak seq own e)) ≤ length out = omega (arith, h, nak-fits seq own e, ap length (append-nil (written (nak seq own e)))) in
      rw (k, eq-eqb addr own a, ← ee) (sent-one (nak seq own e) (frame-stored (nak seq own e) 0 out refl f w (omega arith)))

-- The reply

-- what is there to be reported fits a frame
pub info-fits : (s : Held) (book : List ℕ) (r : ReplyInNumbers) (kept : List ℕ) → Reportable s book r
    → (let i = reply_info (joined s kept) book r in (info_least ≤ length i) × (length i ≤ info_most))
unfolding reply_info times_info plan_info
info-fits s book (reply.CarriedOut code) kept g = (omega arith, omega arith)
info-fits s book (reply.Refused code n m) kept g = (omega arith, omega arith)
info-fits s book (reply.Times p) kept g = (omega arith, times-most (plan_record s.running.which book p) g p)
info-fits s book (reply.Plan p) kept g = (omega arith, plan-most (plan_record s.running.which book p) g p report_plan_code)
info-fits s book reply.Running kept g = (omega arith, plan-most s.running.copy g s.running.plan report_running_code)

module _ (s : Held) (seq : ℕ) (info out : List ℕ) (least : info_least ≤ length info) (most : length info ≤ info_most) (l : output_len ≤ length out)
    {a : Written} {p : List ℕ} (wa : WriterLeaves (frame.write_frame (ack seq s.own) 0 out) a p) where
  abbrev first : Frame
  first = ack seq s.own

  abbrev second : Frame
  second = message s.seq s.own info

  frames-most : length (written first) + length (written second) ≤ output_len
  frames-most =
      let e : length (sent (first ∷ second ∷ [])) ≡ length (written first) + length (written second) = rw (append-nil (written second)) (length-append (written first) (written second)) in
      omega (arith, e, sent-most seq s.seq s.own info most)

  pub reply-ack-none : a.refusal ≡ refusal.none
  reply-ack-none = frame-none first 0 out refl (omega (arith, frames-most, l)) wa

  ack-in : Stored (written first) 0 out a.count p
  ack-in = frame-stored first 0 out refl (omega (arith, frames-most, l)) wa (omega arith)

  module _ {w : Written} {o : List ℕ} (wm : WriterLeaves (frame.write_frame second a.count p) w o) where
    message-room : a.count + length (written second) ≤ length p
    message-room = omega (arith, frames-most, l, ack-in.place, ack-in.long)

    pub reply-none : w.refusal ≡ refusal.none
    reply-none = frame-none second a.count p (info-right s.seq s.own info least most) message-room wm

    pub reply-count : a.count + w.count ≤ output_len
    reply-count = omega (arith, frame-count second a.count p (info-right s.seq s.own info least most) message-room wm, frames-most, ack-in.place)

    pub reply-stored : Stored (sent (replies_of seq s.seq s.own info)) 0 out (a.count + w.count) o
    reply-stored = sent-two first second ack-in (frame-stored second a.count p (info-right s.seq s.own info least most) message-room wm refl)

module _ (s : Held) (book : List ℕ) (seq addr : ℕ) (h : HandledInNumbers) (lent out : List ℕ) where
  abbrev reply_as : ℕ → ℕ → Out → ResultInNumbers
  reply_as count q o = record { refusal = h.refusal; parameter = h.parameter; event = event.Nothing; count = count; seq = q; requested = h.requested; out = o; link = link.Still }

  pub replied-ours : eqb addr s.own ≡ true → Reportable s book h.reply → kept_len ≤ length lent → {n : ℕ} {k : List ℕ} → ReplyPut s book h.reply lent n k
      → {count q : ℕ} {o : List ℕ} → Stored (sent (replies_of seq s.seq s.own (take n (drop out_start k)))) 0 out count o → q ≡ (s.seq + 1) % 256
      → RepliedWith s book seq addr h lent out (reply_as count q (sent_once n)) k o
  unfolding replied_of sending
  replied-ours e g l w p eq came d =
      let i = w came in
      let f = info-fits s book h.reply came g in
      let p' = rw (info-put i f.1 l) at p in
      rw e
      (record {
        tells = record { told = rw (eq, i.count) (stored-count p' (λ k. reply_as k ((s.seq + 1) % 256) (sent_once (length (reply_info (joined s came) book h.reply))))); out = p'.holds };
        kept = put-kept s.out i f.1 came d;
      })

  pub replied-all : eqb addr s.own ≡ false → RepliedWith s book seq addr h lent out (reply_as 0 s.seq s.out) lent out
  unfolding replied_of
  replied-all e came d = rw e (record { tells = record { told = refl; out = refl }; kept = kept-as-was s.out lent came d })

-- A message carried out

module _ (s : Held) (book info came : List ℕ) where
  abbrev due : Handling
  due = handling_of (joined s came) book info

  -- what its reply reports is there, in the book that is left
  pub handled-there : standing_of s.running.copy ≡ ready → {h : HandledInNumbers} {b : List ℕ} → HandlingLeaves due h b → Reportable s b h.reply
  handled-there r e =
      rw (e.handled, e.book)
      (by_left (joined s came) book info (Reportable s) (λ b. tt) (λ b n m. tt)
      (by-reply (joined s came) book info (λ h. Reportable s book h.reply) (λ q. tt) (λ n m. tt) (λ n. n) (λ e. e) r))

  pub handled-brings : (seq addr : ℕ) {h : HandledInNumbers} {lent out : List ℕ} {r : ResultInNumbers} {k b o : List ℕ} → RepliedWith s b seq addr h lent out r k o → HandlingLeaves due h b
      → drop out_start came ≡ drop out_start lent → AcceptedLeft (handled_of (joined s came) book seq addr due) lent out r k b o
  unfolding replied_of
  handled-brings seq addr t e d = record { replied = rw (e.handled, e.book, reply-as-came (joined s came) book info) at (t came d); book = e.book }
