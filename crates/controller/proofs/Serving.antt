-- Demand 2: what an octet brings, in frames received and frames written; what a message does; what a second shows.
use Prim.Native.Nat.{ℕ, ◌+◌, ◌%◌, ◌≤◌, ◌<◌}
use mathlib.Core.Path.{◌≡◌, refl, sym, ap, subst, ◌∙◌}
use mathlib.Core.Bool.{Bool, true, false, not}
use mathlib.Core.Logic.{◌⊎◌, inl, inr}
use mathlib.Core.List.{List, [], ◌∷◌, append-nil}
use native.Mathlib.Decide.{ℕ_discrete}
use native.Mathlib.Omega.{arith}
use borrow.Author.Tests.{eq-eqb, ne_eqb, eqb-true}
use lib.Dec.{eqb}
use lib.ListN.{length, take, drop, length-take}
use lib.Seq.{sets}
use Rattle.octets.specs.Octet.{Octets}
use Rattle.octets.specs.Refusal as refusal
use Rattle.octets.proofs.Laws.{pick-by, both_left, both_right, clash, take-sets, drop-sets}
use Rattle.frame.specs.declared.Kind.{Kind}
use Rattle.frame.specs.declared.Kind.TheVariants.{Message, Ack, Nak}
use Rattle.frame.specs.Frame.{Frame, message, ack, nak, info_least, info_most, written}
use Rattle.frame.specs.Decoder.{taken_of}
use Rattle.frame.specs.Dropped.{Counted}
use Rattle.frame.specs.Run.{Outcome, nothing, refused, sound, outcome_of}
use Rattle.message.specs.Names.{plan_at}
use Rattle.message.specs.Reader.{code_in, body_in, read_of}
use Rattle.record.specs.Record.{book_len, empty, ready, Ready}
use Rattle.checks.specs.Standing.{standing_of, Stands}
use Rattle.plan.specs.declared.Which.{Which}
use Rattle.plan.specs.Setting.{Setting, set_times_code, set_plan_code, plan_in, set_times_of, set_plan_of}
use Rattle.plan.specs.Reporting.{times_info, plan_info}
use Rattle.plan.specs.Promises.{HasTimes}
use Rattle.checks.proofs.Stands.{stands-as-it-is}
use Rattle.plan.proofs.Storing.{times-stored-exactly-when}
use Rattle.plan.proofs.Readying.{stands-has, has-stands, plan-stored-exactly-when}
use Rattle.lamps.proofs.Second.{lamps-of-step}
use Rattle.lamps.proofs.Cycle.{cycle-long}
use Rattle.controller.specs.declared.Event.TheVariants as event
use Rattle.controller.specs.Reply.{ReplyInNumbers}
use Rattle.controller.specs.Reply as reply
use Rattle.controller.specs.declared.Link.{Link}
use Rattle.controller.specs.declared.Link.TheVariants as link
use Rattle.controller.specs.declared.Out.{Out}
use Rattle.controller.specs.Memory.{Memory, is_repeat, remembering}
use Rattle.controller.specs.Sender.{Sender, out_seq, out_info, sending, answers_out, ack_turn, nak_turn, second_turn}
use Rattle.controller.specs.Offers.{offered_frame}
use Rattle.controller.specs.Seconds.{second_of}
use Rattle.controller.specs.State.{State, all, output_len, plan_record, sound_of}
use Rattle.controller.specs.Handling as handling
use Rattle.controller.specs.Handling.{Handling, carried_out_code, refused_code, run_code, query_times_code, query_plan_code, query_running_code, reply_info, set_as, run_as, query_times_as, query_plan_as, handling_of}
use Rattle.controller.specs.Replies.{Call, sent, err_of, naks, for_us, is_answer, replies_of, ResultAndBook, leaves, met_with_silence, replied_of, handled_of, acked_of, accepted_of, message_of, resent, turned, brought_of, memory_of, memory_then, made_of, octet_of}
use Rattle.controller.specs.Demand2.{Repeats, Writes, Wrote, OnlyTaken, OnlySender, nothing_out, once_more, AnswersOut, Sent, NoSilence, Err, IsAnswer, RecordOfPlan, RepliesSo, Replies, Answers, CarriedOut, Reported, Refused, HandledSo, Handles, SecondsShow, SecondTells, SecondSends, SecondsSend, LampsNeverWait, OffersSend}
use Rattle.controller.proofs.Judging.{sound-parts, parts-sound, record-octets}
use Rattle.controller.proofs.Answering.{offer-is-done}
use Rattle.controller.proofs.Keeping.{second-left}
use Rattle.controller.proofs.Laws.{takes, octet-brings, message-other, message-repeat, message-silent, message-new, message-answer, accepted-handled, memory-other, memory-repeat, memory-silent, memory-new, silence-none, silence-other, silence-answer, silence-met, answered-ours, answered-other, again-more, again-down, ack-heard, ack-ignored, nak-again, nak-ignored, second_none, second-waits, second-over, second-done}
use Rattle.controller.proofs.Remembering.{OutcomeFits, outcome_fits, is-repeat, repeat-is, no-repeat, remembers}
use Rattle.controller.proofs.Replying.{reply-fits, nak-fits, ack-fits, message-most, sent-most}

-- Whom a message is for

module _ (own addr : ℕ) where
  for-us : (addr ≡ own) ⊎ (addr ≡ all) → for_us own addr ≡ true
  for-us (inl e) = rw (eq-eqb addr own e)
  for-us (inr e) = pick-by (λ (t : Bool). t ≡ true) (eqb addr own) (λ _. refl) (λ _. eq-eqb addr all e)

  for-another : (addr ≡ own → ⊥) → (addr ≡ all → ⊥) → for_us own addr ≡ false
  for-another n m = rw (ne_eqb addr own n, ne_eqb addr all m)

-- whatever a message does, it is no event
pub message-event : (s : State) (seq addr : ℕ) (info book : List ℕ)
    → (message_of s seq addr info book).result.event ≡ event.Nothing
unfolding message_of accepted_of replied_of
message-event s seq addr info book =
    let P : ResultAndBook → Type 0 = λ w. w.result.event ≡ event.Nothing in
    pick-by P (for_us s.own addr)
    (λ _. pick-by P (is_repeat s.memory seq info) (λ _. refl)
    (λ _. pick-by P (met_with_silence s addr info) (λ _. refl) (λ _. pick-by P (is_answer (code_in info)) (λ _. refl) (λ _. refl))))
    (λ _. refl)

-- nor does the link stand otherwise
message-link : (s : State) (seq addr : ℕ) (info book : List ℕ) → (message_of s seq addr info book).result.link ≡ link.Still
unfolding message_of accepted_of replied_of
message-link s seq addr info book =
    let P : ResultAndBook → Type 0 = λ w. w.result.link ≡ link.Still in
    pick-by P (for_us s.own addr)
    (λ _. pick-by P (is_repeat s.memory seq info) (λ _. refl)
    (λ _. pick-by P (met_with_silence s addr info) (λ _. refl) (λ _. pick-by P (is_answer (code_in info)) (λ _. refl) (λ _. refl))))
    (λ _. refl)

-- 0F 80 and 0F 81
is-answer : (info : List ℕ) → IsAnswer info → is_answer (code_in info) ≡ true
is-answer info (inl e) = rw e
is-answer info (inr e) = rw e

pub no_answer_lem : (info : List ℕ) → (IsAnswer info → ⊥) → is_answer (code_in info) ≡ false
no_answer_lem info n = rw (ne_eqb (code_in info) carried_out_code (λ e. n (inl e)), ne_eqb (code_in info) refused_code (λ e. n (inr e)))

err-so : {n err : ℕ} → Err n err → err_of n ≡ err
err-so Err.cks = refl
err-so Err.closing = refl
err-so Err.len = refl

-- What is written

wrote : {n : ℕ} {o : List ℕ} (out : List ℕ) (fs : List Frame) → length (sent fs) ≤ length out → n ≡ length (sent fs) → o ≡ sets out 0 (sent fs) → Writes n o fs
wrote out fs h c e = record { count = c; octets = rw (c, e) (take-sets (sent fs) out h) }

wrote_none : {n : ℕ} {o : List ℕ} → n ≡ 0 → Writes n o []
wrote_none c = record { count = c; octets = rw c }

-- a frame with this INFO is out
sent-so : (q : Sender) (info : List ℕ) → length info ≤ length q.info → Sent q info (sending q info)
unfolding sending
sent-so q info h = record { out = refl; info = take-sets info q.info h; beyond = drop-sets info q.info h }

-- a message handled, and its reply where it was for us, with our address and SEQ
pub record Served (s : State) (before : List ℕ) (seq addr : ℕ) (h : Handling) (w : Call) : Type 0 where
  pub names : w.answer.told.refusal ≡ h.handled.refusal
  pub parameter : w.answer.told.parameter ≡ h.handled.parameter
  pub requested : w.answer.state.requested ≡ h.handled.requested
  pub book : w.book ≡ h.book
  pub reply : addr ≡ s.own → Wrote w (replies_of seq s.seq s.own (reply_info s before h.handled.reply)) × (w.answer.state.seq ≡ (s.seq + 1) % 256)
      × Sent s.sender (reply_info s before h.handled.reply) w.answer.state.sender
  pub silent : (addr ≡ s.own → ⊥) → Wrote w [] × (w.answer.state.seq ≡ s.seq) × (w.answer.state.sender ≡ s.sender)

module _ (s : State) (c : Counted) (m : Memory) (before : List ℕ) (seq addr : ℕ) (h : Handling) (out : List ℕ) (ho : output_len ≤ length out) where
  abbrev made : Call
  made = made_of s c m (handled_of s before seq addr h) out

  served : length (reply_info s before h.handled.reply) ≤ info_most → length s.sender.info ≡ info_most → Served s before seq addr h made
  unfolding replied_of
  served f l =
      record {
        names = refl;
        parameter = refl;
        requested = refl;
        book = refl;
        reply = λ e.
            rw (eq-eqb addr s.own e)
            (wrote out (replies_of seq s.seq s.own info) (omega (arith, sent-most seq s.seq s.own info f, ho)) refl refl, refl, sent-so s.sender info (omega (arith, f, l)));
        silent = λ n. rw (ne_eqb addr s.own n) (wrote_none refl, refl, refl);
      }
    where
      info : List ℕ
      info = reply_info s before h.handled.reply

-- the octets beyond the INFO that is remembered
beyond-stays : (s : State) (seq addr : ℕ) (info : List ℕ) → length info ≤ length s.memory.info → drop (length info) (memory_of s seq addr info).info ≡ drop (length info) s.memory.info
unfolding memory_of remembering
beyond-stays s seq addr info l =
    let P : Memory → Type 0 = λ m. drop (length info) m.info ≡ drop (length info) s.memory.info in
    pick-by P (for_us s.own addr)
    (λ _. pick-by P (is_repeat s.memory seq info) (λ _. refl) (λ _. pick-by P (met_with_silence s addr info) (λ _. refl) (λ _. drop-sets info s.memory.info l)))
    (λ _. refl)

-- Which ACK or NAK answers the frame out

module _ (s : State) (n : ℕ) where
  abbrev o : Out
  o = s.sender.out

  answers-to : AnswersOut s n → answers_out s.seq o n ≡ true
  answers-to a = rw (ne_eqb o.len 0 a.out, eq-eqb n (out_seq s.seq) a.seq)

  answers-from : answers_out s.seq o n ≡ true → AnswersOut s n
  answers-from h =
      let z = not (eqb o.len 0) in
      let q = eqb n (out_seq s.seq) in
      record { out = λ e. clash (ap not (eq-eqb o.len 0 e)) (both_left z q h); seq = eqb-true n (out_seq s.seq) (both_right z q h) }

  ignores : (AnswersOut s n → ⊥) → answers_out s.seq o n ≡ false
  ignores g = by (answers_out s.seq o n) refl
    where
      by : (t : Bool) → answers_out s.seq o n ≡ t → t ≡ false
      by true e = absurd (g (answers-from e))
      by false e = refl

module _ (s : State) (book out : List ℕ) (b : ℕ) (h : sound_of s ≡ true) (hb : length book ≡ book_len) (ho : output_len ≤ length out) where
  abbrev w : Call
  w = octet_of s book out b

  abbrev t : Counted
  t = takes s b

  abbrev Ends : Outcome → Type 0
  Ends o = outcome_of (taken_of s.decoder b) ≡ o

  brings : {o : Outcome} → Ends o → w ≡ made_of s t (memory_then o s) (brought_of o s book) out
  brings e = octet-brings s book out b h hb ho e

  other : all ≡ s.own → ⊥
  other e = (sound-parts s h).own (sym e)

  -- INFO of the frame is of a length that INFO can have
  long-enough : {seq addr : ℕ} {info : List ℕ} → Ends (sound (message seq addr info)) → (info_least ≤ length info) × (length info ≤ info_most)
  long-enough e = subst OutcomeFits e (outcome_fits s b h)

  pub new : {seq : ℕ} {info : List ℕ} → (Repeats s.memory seq info → ⊥) → is_repeat s.memory seq info ≡ false
  new {seq} {info} n = let p = sound-parts s h in no-repeat s.memory seq info p.last_info p.last n

  pub message-served : (seq addr : ℕ) (info : List ℕ) → Ends (sound (message seq addr info)) → (addr ≡ s.own) ⊎ (addr ≡ all)
      → is_repeat s.memory seq info ≡ false → met_with_silence s addr info ≡ false → is_answer (code_in info) ≡ false → Served s book seq addr (handling_of s book info) w
  message-served seq addr info e a r q n =
      let p = sound-parts s h in
      rw (brings e, message-new s seq addr info book (for-us s.own addr a) r q, accepted-handled s seq addr info book n)
      (served s t (memory_of s seq addr info) book seq addr (handling_of s book info) out ho (reply-fits s book info p.running.checks) p.out_info)

  -- silence is for us alone, and only while one is out
  pub no-silence-all : (addr : ℕ) (info : List ℕ) → addr ≡ all → met_with_silence s addr info ≡ false
  no-silence-all addr info e = silence-other s 0 addr info [] (ne_eqb addr s.own (λ g. other (sym e ∙ g)))

  pub no-silence-free : (addr : ℕ) (info : List ℕ) → s.sender.out.len ≡ 0 → met_with_silence s addr info ≡ false
  no-silence-free addr info e = silence-none s 0 addr info [] (eq-eqb s.sender.out.len 0 e)

  -- a repeat, and what is remembered after it
  repeat-acked : {seq addr : ℕ} {info : List ℕ} → Ends (sound (message seq addr info)) → (addr ≡ s.own) ⊎ (addr ≡ all) → is_repeat s.memory seq info ≡ true
      → w ≡ made_of s t s.memory (acked_of s seq addr book) out
  repeat-acked {seq} {addr} {info} e a r =
      let f = for-us s.own addr a in
      brings e ∙ rw (message-repeat s seq addr info book f r, memory-repeat s seq addr info book f r)

  -- a frame for us or for all is remembered then, unless it is met with silence
  not-silent : (seq addr : ℕ) (info : List ℕ) → info_least ≤ length info → NoSilence s seq addr info → is_repeat s.memory seq info ≡ false → met_with_silence s addr info ≡ false
  not-silent seq addr info l (inl e) r = no-silence-all addr info e
  not-silent seq addr info l (inr (inl e)) r = no-silence-free addr info e
  not-silent seq addr info l (inr (inr g)) r = silence-answer s 0 addr info [] (by (is_answer (code_in info)) refl)
    where
      answer-of : is_answer (code_in info) ≡ false → IsAnswer info → ⊥
      answer-of f a = clash f (is-answer info a)

      by : (t : Bool) → is_answer (code_in info) ≡ t → t ≡ true
      by true e = refl
      by false e = absurd (g (record { no_answer = answer-of e; new = λ q. clash r (is-repeat s.memory seq info l q) }))

  frame-remembered : (seq addr : ℕ) (info : List ℕ) → Ends (sound (message seq addr info)) → (addr ≡ s.own) ⊎ (addr ≡ all) → NoSilence s seq addr info
      → Repeats w.answer.state.memory seq info
  frame-remembered seq addr info e a q = rw (brings e) (by (is_repeat s.memory seq info) refl)
    where
      by : (x : Bool) → is_repeat s.memory seq info ≡ x → Repeats (memory_of s seq addr info) seq info
      by true r =
          let p = sound-parts s h in
          rw (memory-repeat s seq addr info book (for-us s.own addr a) r) (repeat-is s.memory seq info p.last_info p.last r)
      by false r =
          let l = long-enough e in
          rw (memory-new s seq addr info book (for-us s.own addr a) r (not-silent seq addr info l.0 q r)) (remembers s.memory seq info (sound-parts s h).last_info l.0 l.1)

  no-naks : (n : ℕ) (k : Kind) (seq addr : ℕ) → (k ≡ Message → ⊥) ⊎ (addr ≡ s.own → ⊥) → naks k s.own n seq addr ≡ []
  no-naks n Message seq addr (inl g) = absurd (g refl)
  no-naks n Message seq addr (inr g) = rw (ne_eqb addr s.own g)
  no-naks n Ack seq addr g = refl
  no-naks n Nak seq addr g = refl

  for-all : (seq : ℕ) (info : List ℕ) → Ends (sound (message seq all info)) → (r t : Bool) → is_repeat s.memory seq info ≡ r → is_answer (code_in info) ≡ t
      → Wrote w [] × (w.answer.state.seq ≡ s.seq) × (w.answer.state.sender ≡ s.sender)
  for-all seq info e true t r a = rw (repeat-acked e (inr refl) r, ne_eqb all s.own other) (wrote_none refl, refl, refl)
  for-all seq info e false true r a = rw (brings e, message-answer s seq all info book (for-us s.own all (inr refl)) a, ne_eqb all s.own other) (wrote_none refl, refl, refl)
  for-all seq info e false false r a = (message-served seq all info e (inr refl) r (no-silence-all all info refl) a).silent other

  -- an ACK or a NAK that does not answer the frame out changes nothing
  ack-quiet : (seq addr : ℕ) → Ends (sound (ack seq addr)) → ((addr ≡ s.own) × AnswersOut s seq → ⊥)
      → Wrote w [] × (w.answer.told.refusal ≡ 0) × OnlyTaken s s.memory book b w
  ack-quiet seq addr e g =
      elim (ℕ_discrete addr s.own) [
        | yes a ↦ rw (brings e, answered-ours s addr (event.Ack seq) (ack_turn s.seq s.sender.out seq) book (eq-eqb addr s.own a), ack-ignored s.sender.out s.seq seq (ignores s seq (λ q. g (a, q))))
            (wrote_none refl, refl, record { state = refl; book = refl; parameter = refl })
        | no n ↦ rw (brings e, answered-other s addr (event.Ack seq) (ack_turn s.seq s.sender.out seq) book (ne_eqb addr s.own n))
            (wrote_none refl, refl, record { state = refl; book = refl; parameter = refl })
      ]

  nak-quiet : (seq addr err : ℕ) → Ends (sound (nak seq addr err)) → ((addr ≡ s.own) × AnswersOut s seq → ⊥)
      → Wrote w [] × (w.answer.told.refusal ≡ 0) × OnlyTaken s s.memory book b w
  nak-quiet seq addr err e g =
      elim (ℕ_discrete addr s.own) [
        | yes a ↦ rw (brings e, answered-ours s addr (event.Nak seq err) (nak_turn s.seq s.sender.out seq) book (eq-eqb addr s.own a), nak-ignored s.sender.out s.seq seq (ignores s seq (λ q. g (a, q))))
            (wrote_none refl, refl, record { state = refl; book = refl; parameter = refl })
        | no n ↦ rw (brings e, answered-other s addr (event.Nak seq err) (nak_turn s.seq s.sender.out seq) book (ne_eqb addr s.own n))
            (wrote_none refl, refl, record { state = refl; book = refl; parameter = refl })
      ]

  -- what an ACK or a NAK for us makes of the frame out
  ack-ours : {seq : ℕ} → Ends (sound (ack seq s.own)) → w ≡ made_of s t s.memory (leaves book (turned s (event.Ack seq) (ack_turn s.seq s.sender.out seq))) out
  ack-ours {seq} e = brings e ∙ rw (answered-ours s s.own (event.Ack seq) (ack_turn s.seq s.sender.out seq) book (eq-eqb s.own s.own refl))

  nak-ours : {seq err : ℕ} → Ends (sound (nak seq s.own err)) → w ≡ made_of s t s.memory (leaves book (turned s (event.Nak seq err) (nak_turn s.seq s.sender.out seq))) out
  nak-ours {seq} {err} e = brings e ∙ rw (answered-ours s s.own (event.Nak seq err) (nak_turn s.seq s.sender.out seq) book (eq-eqb s.own s.own refl))

  -- the frame out fits the output
  out-room : length (sent (message (out_seq s.seq) s.own (out_info s.sender) ∷ [])) ≤ length out
  out-room =
      omega (
        arith,
        message-most (out_seq s.seq) s.own (out_info s.sender) (omega (arith, length-take s.sender.out.len s.sender.info, (sound-parts s h).out_info)),
        ho,
      )

  nak-resends : (seq err : ℕ) → Ends (sound (nak seq s.own err)) → AnswersOut s seq → s.sender.out.sends < 5
      → Wrote w (message ((s.seq + 255) % 256) s.own (take s.sender.out.len s.sender.info) ∷ []) × (w.answer.told.refusal ≡ 0)
      × OnlySender s (once_more s.sender.out) link.Again book b w
  nak-resends seq err e a l =
      rw (nak-ours e, nak-again s.sender.out s.seq seq (answers-to s seq a), again-more s.sender.out l)
      (wrote out _ out-room refl refl, refl, (record { state = refl; book = refl; parameter = refl }, refl))

  -- how the link stands, by what the octet ended
  abbrev LinkIs : Outcome → Type 0
  LinkIs o = (w.answer.told.link ≡ link.Still) ⊎ ((seq : ℕ) × AnswersOut s seq × ((o ≡ sound (ack seq s.own)) ⊎ ((err : ℕ) × (o ≡ sound (nak seq s.own err)))))

  ack-link : (seq addr : ℕ) → Ends (sound (ack seq addr)) → LinkIs (sound (ack seq addr))
  ack-link seq addr e = by (ℕ_discrete addr s.own) (answers_out s.seq s.sender.out seq) refl
    where
      by : Dec (addr ≡ s.own) → (x : Bool) → answers_out s.seq s.sender.out seq ≡ x → LinkIs (sound (ack seq addr))
      by (no n) x q = inl (rw (brings e, answered-other s addr (event.Ack seq) (ack_turn s.seq s.sender.out seq) book (ne_eqb addr s.own n)))
      by (yes a) true q = inr (seq, answers-from s seq q, inl (ap (λ (k : ℕ). sound (ack seq k)) a))
      by (yes a) false q =
          inl (rw (brings e, answered-ours s addr (event.Ack seq) (ack_turn s.seq s.sender.out seq) book (eq-eqb addr s.own a), ack-ignored s.sender.out s.seq seq q))

  nak-link : (seq addr err : ℕ) → Ends (sound (nak seq addr err)) → LinkIs (sound (nak seq addr err))
  nak-link seq addr err e = by (ℕ_discrete addr s.own) (answers_out s.seq s.sender.out seq) refl
    where
      by : Dec (addr ≡ s.own) → (x : Bool) → answers_out s.seq s.sender.out seq ≡ x → LinkIs (sound (nak seq addr err))
      by (no n) x q = inl (rw (brings e, answered-other s addr (event.Nak seq err) (nak_turn s.seq s.sender.out seq) book (ne_eqb addr s.own n)))
      by (yes a) true q = inr (seq, answers-from s seq q, inr (err, ap (λ (k : ℕ). sound (nak seq k err)) a))
      by (yes a) false q =
          inl (rw (brings e, answered-ours s addr (event.Nak seq err) (nak_turn s.seq s.sender.out seq) book (eq-eqb addr s.own a), nak-ignored s.sender.out s.seq seq q))

  link-is : (o : Outcome) → Ends o → LinkIs o
  link-is nothing e = inl (rw (brings e))
  link-is (refused n k seq addr) e = inl (rw (brings e))
  link-is (sound (message seq addr info)) e = inl (rw (brings e) (message-link s seq addr info book))
  link-is (sound (ack seq addr)) e = ack-link seq addr e
  link-is (sound (nak seq addr err)) e = nak-link seq addr err e

  octet-replies : RepliesSo s book b (outcome_of (taken_of s.decoder b)) w
  octet-replies =
      record {
        quiet = λ e. rw (brings e) (wrote_none refl, refl, record { state = refl; book = refl; parameter = refl }, refl);
        nak_for_us = λ n err seq g e. rw (brings e, eq-eqb s.own s.own refl, err-so g) (wrote out (nak seq s.own err ∷ []) (omega (arith, nak-fits seq s.own err, ho)) refl refl);
        no_nak = λ n k seq addr e g. rw (brings e, no-naks n k seq addr g) (wrote_none refl);
        named = λ n k seq addr e. rw (brings e) (refl, record { state = refl; book = refl; parameter = refl }, refl);
        ack_only = λ seq info e a.
            rw (brings e, message-answer s seq s.own info book (for-us s.own s.own (inl refl)) (is-answer info a), eq-eqb s.own s.own refl)
            (wrote out (ack seq s.own ∷ []) (omega (arith, ack-fits seq s.own, ho)) refl refl, refl, record { state = refl; book = refl; parameter = refl });
        replied = λ seq info e c z.
            let v = (message-served seq s.own info e (inl refl) (new c.new) (no-silence-free s.own info z) (no_answer_lem info c.no_answer)).reply refl in
            (reply_info s book (handling_of s book info).handled.reply, v.0, v.1, v.2);
        silent = λ seq info e c z.
            let f = for-us s.own s.own (inl refl) in
            let q = silence-met s seq s.own info book (ne_eqb s.sender.out.len 0 z) (eq-eqb s.own s.own refl) (no_answer_lem info c.no_answer) in
            rw (brings e, message-silent s seq s.own info book f (new c.new) q, memory-silent s seq s.own info book f (new c.new) q)
            (wrote_none refl, refl, record { state = refl; book = refl; parameter = refl });
        for_all = λ seq info e. for-all seq info e (is_repeat s.memory seq info) (is_answer (code_in info)) refl refl;
        answer_for_all = λ seq info e a. rw (brings e, message-answer s seq all info book (for-us s.own all (inr refl)) (is-answer info a)) (refl, record { state = refl; book = refl; parameter = refl });
        dropped = λ seq addr info e n m.
            let f = for-another s.own addr n m in
            rw (brings e, message-other s seq addr info book f, memory-other s seq addr info book f) (wrote_none refl, refl, record { state = refl; book = refl; parameter = refl });
        repeated = λ seq info e r.
            rw (repeat-acked e (inl refl) (is-repeat s.memory seq info (long-enough e).0 r), eq-eqb s.own s.own refl)
            (wrote out (ack seq s.own ∷ []) (omega (arith, ack-fits seq s.own, ho)) refl refl, refl, record { state = refl; book = refl; parameter = refl });
        repeated_for_all = λ seq info e r.
            rw (repeat-acked e (inr refl) (is-repeat s.memory seq info (long-enough e).0 r), ne_eqb all s.own other)
            (wrote_none refl, refl, record { state = refl; book = refl; parameter = refl });
        remembered = frame-remembered;
        beyond = λ seq addr info e. rw (brings e) (beyond-stays s seq addr info (omega (arith, (long-enough e).1, (sound-parts s h).last_info)));
        no_event = λ seq addr info e. rw (brings e, message-event s seq addr info book);
        ack_event = λ seq e. rw (ack-ours e);
        nak_event = λ seq err e. rw (nak-ours e);
        ack_quiet = ack-quiet;
        nak_quiet = nak-quiet;
        ack_other = λ seq addr e n. rw (brings e, answered-other s addr (event.Ack seq) (ack_turn s.seq s.sender.out seq) book (ne_eqb addr s.own n));
        nak_other = λ seq addr err e n. rw (brings e, answered-other s addr (event.Nak seq err) (nak_turn s.seq s.sender.out seq) book (ne_eqb addr s.own n));
        heard = λ seq e a.
            rw (ack-ours e, ack-heard s.sender.out s.seq seq (answers-to s seq a))
            (wrote_none refl, refl, (record { state = refl; book = refl; parameter = refl }, refl));
        again = nak-resends;
        down = λ seq err e a l.
            rw (nak-ours e, nak-again s.sender.out s.seq seq (answers-to s seq a), again-down s.sender.out l)
            (wrote_none refl, refl, (record { state = refl; book = refl; parameter = refl }, refl));
        no_link = link-is (outcome_of (taken_of s.decoder b)) refl;
        rest = rw (brings refl);
      }

pub replies : Replies
replies s book out b h hb ho = octet-replies s book out b h hb ho

-- What a second shows

pub seconds-show : SecondsShow
seconds-show s book out h hb ho o =
    let u = (sound-parts s h).running in
    let c = cycle-long s.running.copy ((stands-as-it-is s.running.copy o).ready_from u.checks) in
    record {
      plan = rw (second-done s book out h hb ho);
      row = rw (second-done s book out h hb ho) (lamps-of-step s.running.copy s.running.position (omega (arith, u.position, c.rows)));
      rest = second-left s book out;
    }

-- by what becomes of the frame out
module _ (s : State) (book out : List ℕ) (h : sound_of s ≡ true) (hb : length book ≡ book_len) (ho : output_len ≤ length out) where
  quiet-second : {o : Out} {l : Link} → second_turn s.wait s.sender.out ≡ record { out = o; link = l } → resent s l ≡ [] → SecondTells (second_of s book out) o l []
  quiet-second e f = rw (second-done s book out h hb ho, e) (record { out = refl; told = refl; wrote = rw f (wrote_none refl) })

  pub second-sends : SecondSends s (second_of s book out)
  second-sends =
      record {
        none = λ e. quiet-second (second_none s.sender.out s.wait e) refl;
        waits = λ n l. quiet-second (second-waits s.sender.out s.wait n l) refl;
        again = λ n l m.
            rw (second-done s book out h hb ho, second-over s.sender.out s.wait n l ∙ again-more s.sender.out m)
            (record { out = refl; told = refl; wrote = wrote out _ (out-room s book out 0 h hb ho) refl refl });
        down = λ n l m. quiet-second (second-over s.sender.out s.wait n l ∙ again-down s.sender.out m) refl;
      }

pub seconds-send : SecondsSend
seconds-send s book out h hb ho = second-sends s book out h hb ho

-- Lamps never wait

none-sound : (s : State) → sound_of s ≡ true
    → sound_of (record { own = s.own; seq = s.seq; requested = s.requested; wait = s.wait; decoder = s.decoder; dropped = s.dropped; memory = s.memory; sender = record { out = nothing_out; info = s.sender.info }; running = s.running }) ≡ true
none-sound s h =
    let p = sound-parts s h in
    parts-sound _ (record {
      own = p.own;
      requested = p.requested;
      info = p.info;
      last_info = p.last_info;
      out_info = p.out_info;
      last = p.last;
      wait = p.wait;
      out = inl refl;
      decoder = p.decoder;
      running = p.running;
    })

pub lamps-never-wait : LampsNeverWait
lamps-never-wait s book out h hb ho = rw (second-done s book out h hb ho, second-done _ book out (none-sound s h) hb ho) (refl, refl, refl)

-- What an offer does

pub offers-send : OffersSend
offers-send s info out d =
    let f = offered_frame s info in
    rw (offer-is-done s info out d)
    (record {
      wrote = wrote out (f ∷ []) (omega (arith, d.room, ap length (append-nil (written f)))) refl refl;
      sent = sent-so s.sender info (omega (arith, d.most, (sound-parts s d.sound).out_info));
      state = refl;
      told = refl;
    })

-- What each code does

module _ (s : State) (book info : List ℕ) where
  abbrev c : ℕ
  c = code_in info

  abbrev p : ℕ
  p = plan_in (body_in info)

  -- the record of the plan that the message names
  abbrev named : List ℕ
  named = plan_record s.running.which book p

  abbrev H : Handling
  H = handling_of s book info

  abbrev carried : ℕ → List ℕ → Handling
  carried q l = handling.reads (handling.accepted q (reply.CarriedOut c)) l

  abbrev declined : ℕ → ℕ → List ℕ → Handling
  declined n m l = handling.reads (handling.refused_with c s.requested n m) l

  set-carried : (w : Setting) → w.answer.refusal ≡ refusal.none → handling.set_handled c s.requested w ≡ carried s.requested w.book
  unfolding set_as
  set-carried w e = rw (eq-eqb w.answer.refusal refusal.none e)

  set-declined : (w : Setting) → (w.answer.refusal ≡ refusal.none → ⊥) → handling.set_handled c s.requested w ≡ declined w.answer.refusal w.answer.field w.book
  unfolding set_as
  set-declined w n = rw (ne_eqb w.answer.refusal refusal.none n)

  at-times : c ≡ set_times_code → H ≡ handling.set_handled c s.requested (set_times_of book info)
  unfolding handling_of
  at-times e = rw e

  at-plan : c ≡ set_plan_code → H ≡ handling.set_handled c s.requested (set_plan_of book info)
  unfolding handling_of
  at-plan e = rw e

  at-unread : (c ≡ run_code) ⊎ ((c ≡ query_times_code) ⊎ ((c ≡ query_plan_code) ⊎ (c ≡ query_running_code))) → ((read_of info).refusal ≡ refusal.none → ⊥)
      → H ≡ declined (read_of info).refusal (read_of info).field book
  unfolding handling_of run_as query_times_as query_plan_as
  at-unread (inl e) n = rw (e, ne_eqb (read_of info).refusal refusal.none n)
  at-unread (inr (inl e)) n = rw (e, ne_eqb (read_of info).refusal refusal.none n)
  at-unread (inr (inr (inl e))) n = rw (e, ne_eqb (read_of info).refusal refusal.none n)
  at-unread (inr (inr (inr e))) n = rw (e, ne_eqb (read_of info).refusal refusal.none n)

  at-unknown : (c ≡ set_times_code → ⊥) → (c ≡ set_plan_code → ⊥) → (c ≡ run_code → ⊥) → (c ≡ query_times_code → ⊥) → (c ≡ query_plan_code → ⊥) → (c ≡ query_running_code → ⊥)
      → H ≡ declined refusal.code_not_handled 0 book
  unfolding handling_of
  at-unknown a b d e f g =
      rw (ne_eqb c set_times_code a, ne_eqb c set_plan_code b, ne_eqb c run_code d, ne_eqb c query_times_code e, ne_eqb c query_plan_code f, ne_eqb c query_running_code g)

  module _ (r : (read_of info).refusal ≡ refusal.none) where
    at-run : c ≡ run_code → standing_of named ≡ ready → H ≡ carried p book
    unfolding handling_of run_as
    at-run e h = rw (e, eq-eqb (read_of info).refusal refusal.none r, eq-eqb (standing_of named) ready h)

    at-no-run : c ≡ run_code → (standing_of named ≡ ready → ⊥) → H ≡ declined refusal.not_ready plan_at book
    unfolding handling_of run_as
    at-no-run e n = rw (e, eq-eqb (read_of info).refusal refusal.none r, ne_eqb (standing_of named) ready n)

    at-query-times : c ≡ query_times_code → (standing_of named ≡ empty → ⊥) → H ≡ handling.reads (handling.accepted s.requested (reply.Times p)) book
    unfolding handling_of query_times_as
    at-query-times e n = rw (e, eq-eqb (read_of info).refusal refusal.none r, ne_eqb (standing_of named) empty n)

    at-no-times : c ≡ query_times_code → standing_of named ≡ empty → H ≡ declined refusal.not_ready plan_at book
    unfolding handling_of query_times_as
    at-no-times e h = rw (e, eq-eqb (read_of info).refusal refusal.none r, eq-eqb (standing_of named) empty h)

    at-query-plan : c ≡ query_plan_code → standing_of named ≡ ready → H ≡ handling.reads (handling.accepted s.requested (reply.Plan p)) book
    unfolding handling_of query_plan_as
    at-query-plan e h = rw (e, eq-eqb (read_of info).refusal refusal.none r, eq-eqb (standing_of named) ready h)

    at-no-plan : c ≡ query_plan_code → (standing_of named ≡ ready → ⊥) → H ≡ declined refusal.not_ready plan_at book
    unfolding handling_of query_plan_as
    at-no-plan e n = rw (e, eq-eqb (read_of info).refusal refusal.none r, ne_eqb (standing_of named) ready n)

    at-query-running : c ≡ query_running_code → H ≡ handling.reads (handling.accepted s.requested reply.Running) book
    unfolding handling_of
    at-query-running e = rw (e, eq-eqb (read_of info).refusal refusal.none r)

-- what holds of the record that the calls read holds of the plan's
of-plan : {which : Which} {book : List ℕ} {p : ℕ} {q : List ℕ} (P : List ℕ → Type 0) → RecordOfPlan which book p q → P (plan_record which book p) → P q
of-plan P RecordOfPlan.zero x = x
of-plan P (RecordOfPlan.other p n) x = rw (ne_eqb p 0 n) at x

-- What a message does

module _ (s : State) (seq addr : ℕ) (book info : List ℕ) (w : Call) where
  abbrev By : Handling → Type 0
  By h = Served s book seq addr h w

  answers : {h : Handling} → By h → Answers s seq addr h.handled.refusal h.handled.parameter (reply_info s book h.handled.reply) w
  answers v = record { names = v.names; parameter = v.parameter; reply = λ a. (v.reply a).0 }

  carried-out : {q : ℕ} {l : List ℕ} → By (carried s book info q l) → CarriedOut s seq addr q l info w
  unfolding reply_info
  carried-out v = record { answers = answers v; book = v.book; requested = v.requested }

  reported : {r : ReplyInNumbers} → By (handling.reads (handling.accepted s.requested r) book) → Reported s seq addr book (reply_info s book r) w
  reported v = record { answers = answers v; book = v.book; requested = v.requested }

  refused_as : {n m : ℕ} {l : List ℕ} → By (declined s book info n m l) → l ≡ book → Refused s seq addr n m book info w
  unfolding reply_info
  refused_as v e = record { answers = answers v; book = v.book ∙ e; requested = v.requested }

  module _ (hb : length book ≡ book_len) (ob : Octets book) (v : By (handling_of s book info)) where
    by : {h : Handling} → handling_of s book info ≡ h → By h
    by e = subst By e v

    abbrev rec : List ℕ
    rec = plan_record s.running.which book (plan_in (body_in info))

    ro : Octets rec
    ro = record-octets s.running.which book (plan_in (body_in info)) ob

    stands : Stands rec
    stands = stands-as-it-is rec ro

    not-ready : (Ready rec → ⊥) → standing_of rec ≡ ready → ⊥
    not-ready n e = n (stands.ready_from e)

    no-times : (HasTimes rec → ⊥) → standing_of rec ≡ empty
    no-times n = go (ℕ_discrete (standing_of rec) empty)
      where
        go : Dec (standing_of rec ≡ empty) → standing_of rec ≡ empty
        go (yes e) = e
        go (no g) = absurd (n (stands-has rec ro g))

    handled-so : HandledSo s seq addr book info w
    unfolding reply_info
    handled-so =
        record {
          times = λ c f.
              let j = times-stored-exactly-when book info hb c in
              let x = by (at-times s book info c ∙ set-carried s book info (set_times_of book info) (j.accepted f)) in
              carried-out x;
          no_times = λ c n.
              let j = times-stored-exactly-when book info hb c in
              let m : (set_times_of book info).answer.refusal ≡ refusal.none → ⊥ = λ e. n (j.only e) in
              let x = by (at-times s book info c ∙ set-declined s book info (set_times_of book info) m) in
              refused_as x (j.kept m);
          plan = λ c f.
              let j = plan-stored-exactly-when book info hb ob c in
              let x = by (at-plan s book info c ∙ set-carried s book info (set_plan_of book info) (j.accepted f)) in
              carried-out x;
          no_plan = λ c n.
              let j = plan-stored-exactly-when book info hb ob c in
              let m : (set_plan_of book info).answer.refusal ≡ refusal.none → ⊥ = λ e. n (j.only e) in
              let x = by (at-plan s book info c ∙ set-declined s book info (set_plan_of book info) m) in
              refused_as x (j.kept m);
          unread = λ c n. refused_as (by (at-unread s book info c n)) refl;
          run = λ q c r k. of-plan (λ q. Ready q → CarriedOut s seq addr (plan_in (body_in info)) book info w) k (λ h. carried-out (by (at-run s book info r c (stands.ready_to h))));
          no_run = λ q c r k.
              of-plan (λ q. (Ready q → ⊥) → Refused s seq addr 13 1 book info w) k (λ n. refused_as (by (at-no-run s book info r c (not-ready n))) refl);
          query_times = λ q c r k.
              of-plan (λ q. HasTimes q → Reported s seq addr book (times_info q (plan_in (body_in info))) w) k (λ h.
              reported (by (at-query-times s book info r c (has-stands rec ro h))));
          no_times_yet = λ q c r k.
              of-plan (λ q. (HasTimes q → ⊥) → Refused s seq addr 13 1 book info w) k (λ n. refused_as (by (at-no-times s book info r c (no-times n))) refl);
          query_plan = λ q c r k.
              of-plan (λ q. Ready q → Reported s seq addr book (plan_info q (plan_in (body_in info)) 0x5FC5) w) k (λ h.
              reported (by (at-query-plan s book info r c (stands.ready_to h))));
          no_plan_yet = λ q c r k.
              of-plan (λ q. (Ready q → ⊥) → Refused s seq addr 13 1 book info w) k (λ n. refused_as (by (at-no-plan s book info r c (not-ready n))) refl);
          query_running = λ c r. reported (by (at-query-running s book info r c));
          unknown = λ a b c d e f. refused_as (by (at-unknown s book info a b c d e f)) refl;
        }

pub handles : Handles
handles s book out b seq addr info h hb ho ob oc e a n r =
    handled-so s seq addr book info (octet_of s book out b) hb ob
    (message-served s book out b h hb ho seq addr info e (for-whom a) (new s book out b h hb ho r) (silence a) (no_answer_lem info n))
  where
    for-whom : ((addr ≡ s.own) × (s.sender.out.len ≡ 0)) ⊎ (addr ≡ all) → (addr ≡ s.own) ⊎ (addr ≡ all)
    for-whom (inl g) = inl g.0
    for-whom (inr g) = inr g

    silence : ((addr ≡ s.own) × (s.sender.out.len ≡ 0)) ⊎ (addr ≡ all) → met_with_silence s addr info ≡ false
    silence (inl g) = no-silence-free s book out b h hb ho addr info g.1
    silence (inr g) = no-silence-all s book out b h hb ho addr info g
