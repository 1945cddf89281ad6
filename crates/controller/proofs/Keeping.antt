-- What each call leaves of the state, and that a sound state stays sound.
use Prim.Native.Nat.{ℕ, ◌+◌, ◌≤◌, ◌<◌}
use mathlib.Core.Path.{◌≡◌, refl, sym, ◌∙◌}
use mathlib.Core.Bool.{Bool, true, false, not}
use mathlib.Core.Logic.{inl}
use mathlib.Core.List.{List, [], ◌∷◌}
use mathlib.Core.Option.{Option}
use native.Mathlib.Decide.{dec_lt, ℕ_discrete}
use native.Mathlib.Omega.{arith}
use borrow.Author.Tests.{eq-eqb, ne_eqb, lt-ltb, eqb-true, eqb-false, leb-true}
use lib.Dec.{eqb, ltb, leb}
use lib.ListN.{length, drop, length-drop}
use lib.Seq.{length-take-le}
use Rattle.octets.specs.Choice.{pick, both}
use Rattle.octets.specs.Refusal as refusal
use Rattle.octets.proofs.Laws.{pick-by, both_left, both_right, clash}
use Rattle.frame.specs.Frame.{Frame, message, ack, nak, info_least, info_most, info_fits, front_of, sent_of, written}
use Rattle.frame.specs.Decoder.{Decoder, taken_of, idled_of}
use Rattle.frame.specs.Dropped.{Counted}
use Rattle.frame.specs.Run.{Outcome, nothing, refused, sound, outcome_of}
use Rattle.frame.proofs.Possible.{possible-kept}
use Rattle.frame.proofs.Lent.{taken-long, idled-long}
use Rattle.message.specs.Reader.{code_in, body_in, read_of}
use Rattle.plan.specs.Setting.{Answered}
use Rattle.record.specs.Record.{plans_most, book_len, empty, ready, cycle_of}
use Rattle.checks.specs.Standing.{standing_of}
use Rattle.plan.specs.declared.Which.{Which}
use Rattle.plan.specs.BuiltIn.{built_in}
use Rattle.plan.specs.Reading.{record_at}
use Rattle.plan.specs.Setting.{set_times_code, set_plan_code, plan_in}
use Rattle.checks.proofs.Stands.{plan-fits, ready-plan}
use Rattle.plan.proofs.Cases.{built-in-stands}
use Rattle.plan.proofs.Reportable.{standing-past}
use Rattle.controller.specs.declared.Running.{Running}
use Rattle.controller.specs.Reply.{HandledInNumbers}
use Rattle.controller.specs.Memory.{Memory, is_repeat}
use Rattle.controller.specs.declared.Event.{Event}
use Rattle.controller.specs.declared.Event.TheVariants as event
use Rattle.controller.specs.declared.Turn.{Turn}
use Rattle.controller.specs.Sender.{Sender, out_start, is_out, wait_least, wait_most, second_turn}
use Rattle.controller.specs.State.{State, kept_len, all, output_len, fresh_of, sound_of, ready_in, plan_record, started_at, with_decoder, with_second}
use Rattle.controller.specs.Offers.{Offer, refused_offer, with_sent, offered_frame, offer_done, offer_of}
use Rattle.controller.specs.Handling.{Handling, reply_info, unless_unread, run_code, query_times_code, query_plan_code, query_running_code, set_as, run_as, query_times_as, query_plan_as, query_running_as, handling_of}
use Rattle.controller.specs.Replies.{Answer, refused_call, sent, for_us, is_answer, ResultAndBook, met_with_silence, replied_of, accepted_of, message_of, answered_of, brought_of, memory_then, done_of, octet_of, line_idle_of}
use Rattle.controller.specs.Seconds.{Shown, picked_of, moved_on, second_shown, no_second, second_of}
use Rattle.controller.specs.Demand1.{SoundKept}
use Rattle.controller.specs.Demand3.{Accepted, accepts, may_run, run_in, latest_after}
use Rattle.controller.proofs.Judging.{four, RunningParts, sound-parts, parts-sound}
use Rattle.controller.proofs.Remembering.{outcome_fits, last_in, ToldWrote, accepts-is, memory-fits}
use Rattle.controller.proofs.Sending.{second_fits, sending-fits, brought-fits}
use Rattle.controller.proofs.Laws.{takes, counted-takes, message-silent, message-new, idles, idle-done, moved-within, moved_ends, second-8, second-9, second-done}

-- The octet call

-- a state with this own address, T and running plan, where the decoder, the memory, the sender and the requested plan are so
pub record Left (address w : ℕ) (u : Running) (d : Decoder) (m : Memory) (q : Sender) (p : ℕ) (t : State) : Type 0 where
  pub own : t.own ≡ address
  pub wait : t.wait ≡ w
  pub sender : t.sender ≡ q
  pub running : t.running ≡ u
  pub decoder : t.decoder ≡ d
  pub memory : t.memory ≡ m
  pub requested : t.requested ≡ p

-- what a message leaves requested: the plan of a 5F 18 that is not refused, else what was
module _ (s : State) (book info : List ℕ) where
  abbrev code : ℕ
  code = code_in info

  abbrev asked : ℕ
  asked = plan_in (body_in info)

  abbrev runs : Bool
  runs = both (eqb code run_code) (both (eqb (read_of info).refusal refusal.none) (ready_in s.running.which book asked))

  abbrev Leaves : HandledInNumbers → Type 0
  Leaves h = h.requested ≡ pick runs asked s.requested

  other-leaves : {p : ℕ} → p ≡ s.requested → (code ≡ run_code → ⊥) → p ≡ pick runs asked s.requested
  other-leaves e n = rw (ne_eqb code run_code n) e

  is-other : (n : ℕ) → eqb code n ≡ true → (n ≡ run_code → ⊥) → code ≡ run_code → ⊥
  is-other n t d e = d (sym (eqb-true code n t) ∙ e)

  set-leaves : (a : Answered) → (set_as code s.requested a).requested ≡ s.requested
  unfolding set_as
  set-leaves a = pick-by (λ (h : HandledInNumbers). h.requested ≡ s.requested) (eqb a.refusal refusal.none) (λ _. refl) (λ _. refl)

  run-leaves : eqb code run_code ≡ true → Leaves (unless_unread code s.requested info (run_as s.running.which code s.requested book asked))
  unfolding run_as
  run-leaves t =
      pick-by Leaves (eqb (read_of info).refusal refusal.none)
      (λ r. pick-by Leaves (ready_in s.running.which book asked) (λ q. rw (t, r, q)) (λ q. rw (t, r, q)))
      (λ r. rw (t, r))

  read-leaves : (h : HandledInNumbers) → h.requested ≡ s.requested → (unless_unread code s.requested info h).requested ≡ s.requested
  read-leaves h e = pick-by (λ (h : HandledInNumbers). h.requested ≡ s.requested) (eqb (read_of info).refusal refusal.none) (λ _. e) (λ _. refl)

  times-leaves : (unless_unread code s.requested info (query_times_as s.running.which code s.requested book asked)).requested ≡ s.requested
  unfolding query_times_as
  times-leaves = read-leaves _ (pick-by (λ (h : HandledInNumbers). h.requested ≡ s.requested) (eqb (standing_of (plan_record s.running.which book asked)) empty) (λ _. refl) (λ _. refl))

  plan-leaves : (unless_unread code s.requested info (query_plan_as s.running.which code s.requested book asked)).requested ≡ s.requested
  unfolding query_plan_as
  plan-leaves = read-leaves _ (pick-by (λ (h : HandledInNumbers). h.requested ≡ s.requested) (ready_in s.running.which book asked) (λ _. refl) (λ _. refl))

  running-leaves : (unless_unread code s.requested info (query_running_as s.requested)).requested ≡ s.requested
  running-leaves = read-leaves _ refl

  pub handled-leaves : Leaves (handling_of s book info).handled
  unfolding handling_of
  handled-leaves =
      let P : Handling → Type 0 = λ w. Leaves w.handled in
      pick-by P (eqb code set_times_code) (λ t. other-leaves (set-leaves _) (is-other set_times_code t (λ e. omega arith)))
      (λ _. pick-by P (eqb code set_plan_code) (λ t. other-leaves (set-leaves _) (is-other set_plan_code t (λ e. omega arith)))
      (λ _. pick-by P (eqb code run_code) run-leaves
      (λ n. let d = eqb-false code run_code n in
      pick-by P (eqb code query_times_code) (λ _. other-leaves times-leaves d)
      (λ _. pick-by P (eqb code query_plan_code) (λ _. other-leaves plan-leaves d)
      (λ _. pick-by P (eqb code query_running_code) (λ _. other-leaves running-leaves d) (λ _. other-leaves refl d))))))

-- a plan that may run is ready, and the other way round: "Plan 0 is ready"
pub may-run : (which : Which) (book : List ℕ) (p : ℕ) → may_run book p ≡ ready_in which book p
may-run which book p = by (eqb p 0)
  where
    by : (t : Bool) → pick t true (eqb (standing_of (record_at book p)) 2) ≡ eqb (standing_of (pick t (built_in which) (record_at book p))) ready
    by true = sym (eq-eqb (standing_of (built_in which)) ready (built-in-stands which))
    by false = refl

module _ (s : State) (book : List ℕ) where
  -- the plan of the latest run message carried out, after what the octet ended
  abbrev latest_then : Bool → Outcome → ℕ
  latest_then wrote o = latest_after s.own wrote book (last_in s.memory) s.requested o

  message-asks : (wrote : Bool) (seq addr : ℕ) (info : List ℕ) → ToldWrote s wrote (sound (message seq addr info))
      → (message_of s seq addr info book).result.requested ≡ latest_then wrote (sound (message seq addr info))
  unfolding message_of accepted_of replied_of
  message-asks wrote seq addr info w =
      let P : ResultAndBook → Type 0 = λ w. w.result.requested ≡ latest_then wrote (sound (message seq addr info)) in
      let a = accepts-is s seq addr info wrote w in
      pick-by P (for_us s.own addr)
      (λ f. pick-by P (is_repeat s.memory seq info)
      (λ r. rw (a, f, r))
      (λ r. pick-by P (met_with_silence s addr info)
      (λ q. rw (a, f, r, q))
      (λ q. pick-by P (is_answer (code_in info))
      (λ x. rw (a, f, r, q, ne_eqb (code_in info) run_code (answers x)))
      (λ _. rw (a, f, r, q, may-run s.running.which book (plan_in (body_in info))) (handled-leaves s book info)))))
      (λ f. rw (a, f))
    where
      answers : is_answer (code_in info) ≡ true → code_in info ≡ run_code → ⊥
      answers a e = clash refl (rw e at a)

  answered-asks : (addr : ℕ) (e : Event) (t : Turn) → (answered_of s addr e t book).result.requested ≡ s.requested
  unfolding answered_of
  answered-asks addr e t = pick-by (λ (w : ResultAndBook). w.result.requested ≡ s.requested) (eqb addr s.own) (λ _. refl) (λ _. refl)

  -- what an octet brings requests the latest run message carried out
  brought-asks : (wrote : Bool) (o : Outcome) → ToldWrote s wrote o → (brought_of o s book).result.requested ≡ latest_then wrote o
  brought-asks wrote nothing w = refl
  brought-asks wrote (refused n k seq addr) w = refl
  brought-asks wrote (sound (message seq addr info)) w = message-asks wrote seq addr info w
  brought-asks wrote (sound (ack seq addr)) w = answered-asks addr (event.Ack seq) _
  brought-asks wrote (sound (nak seq addr err)) w = answered-asks addr (event.Nak seq err) _

  -- the call told whether a message was met with silence, by writing or not
  some_written : (seq own : ℕ) (fs : List Frame) → ltb 0 (length (sent (ack seq own ∷ fs))) ≡ true
  unfolding written front_of sent_of
  some_written seq own fs = lt-ltb 0 (length (sent (ack seq own ∷ fs))) (omega arith)

  message-wrote : (seq addr : ℕ) (info : List ℕ) → eqb addr s.own ≡ true → is_repeat s.memory seq info ≡ false
      → ltb 0 (length (sent (message_of s seq addr info book).result.frames)) ≡ not (met_with_silence s addr info)
  unfolding accepted_of replied_of
  message-wrote seq addr info e r = by (met_with_silence s addr info) refl
    where
      f : for_us s.own addr ≡ true
      f = rw e

      by : (q : Bool) → met_with_silence s addr info ≡ q → ltb 0 (length (sent (message_of s seq addr info book).result.frames)) ≡ not q
      by true q = rw (message-silent s seq addr info book f r q)
      by false q =
          rw (message-new s seq addr info book f r q, e)
          (pick-by (λ (w : ResultAndBook). ltb 0 (length (sent w.result.frames)) ≡ true) (is_answer (code_in info))
          (λ _. some_written seq s.own []) (λ _. some_written seq s.own (message s.seq s.own (reply_info s book (handling_of s book info).handled.reply) ∷ [])))

  pub told_wrote : (o : Outcome) → ToldWrote s (ltb 0 (length (sent (brought_of o s book).result.frames))) o
  told_wrote nothing = tt
  told_wrote (refused n k seq addr) = tt
  told_wrote (sound (message seq addr info)) = message-wrote seq addr info
  told_wrote (sound (ack seq addr)) = tt
  told_wrote (sound (nak seq addr err)) = tt

-- a call that is done: the decoder has taken the octet, a frame accepted is remembered, and the latest run message carried out is requested
pub done-left : (s : State) (c : Counted) (book out : List ℕ)
    → (let o = outcome_of c.taken in
    let w = (done_of s c book out).answer in
    Left s.own s.wait s.running c.taken.decoder (memory_then o s) (brought_of o s book).result.sender (latest_then s book (ltb 0 w.told.count) o) w.state)
unfolding done_of
done-left s c book out =
    let o = outcome_of c.taken in
    record { own = refl; wait = refl; sender = refl; running = refl; decoder = refl; memory = refl; requested = brought-asks s book _ o (told_wrote s book o) }

pub done-wrote : (s : State) (c : Counted) (book out : List ℕ) → ToldWrote s (ltb 0 (done_of s c book out).answer.told.count) (outcome_of c.taken)
unfolding done_of
done-wrote s c book out = told_wrote s book (outcome_of c.taken)

module _ (s : State) (book out : List ℕ) (b : ℕ) where
  -- was the octet taken? Where not, the state is as it was
  abbrev is_taken : Bool
  is_taken = both (sound_of s) (both (eqb (length book) book_len) (leb output_len (length out)))

  pub by-octet : (P : Bool → State → Type 0) → P false s
      → (sound_of s ≡ true → length book ≡ book_len → output_len ≤ length out → P true (done_of s (takes s b) book out).answer.state)
      → P is_taken (octet_of s book out b).answer.state
  unfolding octet_of
  by-octet P same done = rw (counted-takes s b) (by (sound_of s) refl (eqb (length book) book_len) refl (leb output_len (length out)) refl)
    where
      by : (h : Bool) → sound_of s ≡ h → (n : Bool) → eqb (length book) book_len ≡ n → (l : Bool) → leb output_len (length out) ≡ l
          → P (both h (both n l)) (pick (not h) (refused_call s refusal.state_unsound book out) (pick (not n) (refused_call s refusal.book_wrong book out)
          (pick (not l) (refused_call s refusal.output_short book out) (done_of s (takes s b) book out)))).answer.state
      by true h true n true l = done h (eqb-true (length book) book_len n) (leb-true output_len (length out) l)
      by true h true n false l = same
      by true h false n l _ = same
      by false h n _ l _ = same

  pub octet-own : (octet_of s book out b).answer.state.own ≡ s.own
  octet-own = by-octet (λ _ t. t.own ≡ s.own) refl (λ _ _ _. (done-left s (takes s b) book out).own)

  pub octet-running : (octet_of s book out b).answer.state.running ≡ s.running
  octet-running = by-octet (λ _ t. t.running ≡ s.running) refl (λ _ _ _. (done-left s (takes s b) book out).running)

-- a plan that may run is plan 0 or one of the book's
may-run-most : (book : List ℕ) (p : ℕ) → length book ≡ book_len → may_run book p ≡ true → p ≤ plans_most
may-run-most book p n h =
    elim (dec_lt plans_most p) [
      | yes l ↦ let z : p ≡ 0 → ⊥ = λ e. omega arith in
          absurd (omega (arith, standing-past book p n l, eqb-true (standing_of (record_at book p)) ready (rw (ne_eqb p 0 z) at h)))
      | no l ↦ omega arith
    ]

pub latest-most : (own : ℕ) (wrote : Bool) (book : List ℕ) (last : Option Accepted) (latest : ℕ) (o : Outcome) → length book ≡ book_len → latest ≤ plans_most
    → latest_after own wrote book last latest o ≤ plans_most
latest-most own wrote book last latest nothing n h = h
latest-most own wrote book last latest (refused r k seq addr) n h = h
latest-most own wrote book last latest (sound (message seq addr info)) n h =
    let p = plan_in (body_in info) in
    pick-by (λ (q : ℕ). q ≤ plans_most) (run_in own wrote book last seq addr info)
    (λ t. may-run-most book p n (four (accepts own wrote last seq addr info) (eqb (code_in info) run_code) (eqb (read_of info).refusal refusal.none) (may_run book p) t).3)
    (λ _. h)
latest-most own wrote book last latest (sound (ack seq addr)) n h = h
latest-most own wrote book last latest (sound (nak seq addr err)) n h = h

octet-sound : (s : State) (book out : List ℕ) (b : ℕ) → b < 256 → sound_of s ≡ true → sound_of (octet_of s book out b).answer.state ≡ true
octet-sound s book out b l h =
    let g = sound-parts s h in
    let t = taken_of s.decoder b in
    let w = (done_of s (takes s b) book out).answer.state in
    by-octet s book out b (λ _ t. sound_of t ≡ true) h (λ _ n _.
    let k = done-left s (takes s b) book out in
    let m = memory-fits s g (outcome_of t) (outcome_fits s b h) in
    let q = brought-fits s g book (outcome_of t) in
    parts-sound w (record {
      own = rw k.own g.own;
      requested = rw k.requested (latest-most s.own _ book (last_in s.memory) s.requested (outcome_of t) n g.requested);
      out_info = rw k.sender q.0;
      wait = rw k.wait g.wait;
      out = rw (k.wait, k.sender) q.1;
      info = rw k.decoder (taken-long s.decoder g.info b);
      last_info = rw k.memory m.0;
      last = rw k.memory m.1;
      decoder = rw k.decoder ((possible-kept.1 s.decoder).octet b l g.decoder);
      running = rw k.running g.running;
    }))

-- The line-idle call

module _ (s : State) where
  -- all but the decoder and the number of octets dropped is as it was
  pub idle-left : (line_idle_of s).state ≡ with_decoder s (line_idle_of s).state.decoder (line_idle_of s).state.dropped
  unfolding line_idle_of
  idle-left = pick-by (λ (a : Answer). a.state ≡ with_decoder s a.state.decoder a.state.dropped) (not (sound_of s)) (λ _. refl) (λ _. refl)

  idle-sound : sound_of s ≡ true → sound_of (line_idle_of s).state ≡ true
  idle-sound h =
      let g = sound-parts s h in
      rw (idle-done s h)
      (parts-sound (with_decoder s (idled_of s.decoder).decoder (idles s).kept) (record {
        own = g.own;
        requested = g.requested;
        info = idled-long s.decoder g.info;
        last_info = g.last_info;
        out_info = g.out_info;
        last = g.last;
        wait = g.wait;
        out = g.out;
        decoder = (possible-kept.1 s.decoder).line_idle g.decoder;
        running = g.running;
      }))

-- The second call

pub ready-cycle : (rec : List ℕ) → standing_of rec ≡ ready → 0 < cycle_of rec
ready-cycle rec h = omega (arith, (plan-fits rec (ready-plan rec h)).offset)

module _ (u : Running) (p : ℕ) (book : List ℕ) where
  -- by the two ways of the pick
  pub by-picked : (P : Running → Type 0) → (ready_in u.which book p ≡ true → P (started_at u.which p (plan_record u.which book p)))
      → (ready_in u.which book p ≡ false → P (started_at u.which u.plan u.copy)) → P (picked_of u p book)
  unfolding picked_of
  by-picked P r k = pick-by P (ready_in u.which book p) r k

  -- which built-in plan is kept
  moved-which : (moved_on u p book).which ≡ u.which
  unfolding moved_on
  moved-which =
      pick-by (λ (v : Running). v.which ≡ u.which) (ltb (u.position + 1) (cycle_of u.copy)) (λ _. refl)
      (λ _. by-picked (λ v. v.which ≡ u.which) (λ _. refl) (λ _. refl))

  module _ (most : p ≤ plans_most) (g : RunningParts u) where
    pub picked-sound : RunningParts (picked_of u p book)
    picked-sound =
        by-picked RunningParts
        (λ r. let e = eqb-true (standing_of (plan_record u.which book p)) ready r in
        let c = ready-cycle (plan_record u.which book p) e in
        record { position = c; plan = most; checks = e; zero = λ z. rw (eq-eqb p 0 z) })
        (λ _. record { position = ready-cycle u.copy g.checks; plan = g.plan; checks = g.checks; zero = g.zero })

    pub moved-sound : RunningParts (moved_on u p book)
    moved-sound =
        elim (dec_lt (u.position + 1) (cycle_of u.copy)) [
          | yes l ↦ rw (moved-within u p book l) (record { position = l; plan = g.plan; checks = g.checks; zero = g.zero })
          | no l ↦ rw (moved_ends u p book (omega arith)) picked-sound
        ]

module _ (s : State) (book out : List ℕ) where
  -- by the ways of a second: refused, or done
  pub second-ways : (P : Shown → Type 0) → ((n : ℕ) → P (no_second s n out)) → P (second_shown s book out) → P (second_of s book out)
  unfolding second_of
  second-ways P none done =
      pick-by P (not (sound_of s)) (λ _. none refusal.state_unsound)
      (λ _. pick-by P (not (eqb (length book) book_len)) (λ _. none refusal.book_wrong)
      (λ _. pick-by P (not (leb output_len (length out))) (λ _. none refusal.output_short) (λ _. done)))

  -- all but the running plan and what is out is as it was
  pub second-left : (second_of s book out).state ≡ with_second s (second_of s book out).state.running (second_of s book out).state.sender.out
  unfolding no_second
  second-left = second-ways (λ a. a.state ≡ with_second s a.state.running a.state.sender.out) (λ n. refl) refl

  pub second-which : (second_of s book out).state.running.which ≡ s.running.which
  unfolding no_second
  second-which = second-ways (λ a. a.state.running.which ≡ s.running.which) (λ n. refl) (moved-which s.running _ book)

  -- in a sound state
  pub by-second : sound_of s ≡ true → (P : Shown → Type 0) → (length book ≡ book_len → output_len ≤ length out → P (second_shown s book out)) → ((n : ℕ) → P (no_second s n out))
      → P (second_of s book out)
  by-second h P done none =
      elim (ℕ_discrete (length book) book_len) [
        | yes n ↦ elim (dec_lt (length out) output_len) [
          | yes l ↦ rw (second-9 s book out h n l) (none refusal.output_short)
          | no l ↦ rw (second-done s book out h n (omega arith)) (done n (omega arith))
        ]
        | no n ↦ rw (second-8 s book out h n) (none refusal.book_wrong)
      ]

  second-sound : sound_of s ≡ true → sound_of (second_of s book out).state ≡ true
  unfolding no_second
  second-sound h =
      let g = sound-parts s h in
      let u = moved_on s.running s.requested book in
      let t = second_turn s.wait s.sender.out in
      by-second h (λ a. sound_of a.state ≡ true)
      (λ _ _. parts-sound (with_second s u t.out) (record {
        own = g.own;
        requested = g.requested;
        info = g.info;
        last_info = g.last_info;
        out_info = g.out_info;
        last = g.last;
        wait = g.wait;
        out = second_fits s.wait s.sender.out g.wait.0 g.out;
        decoder = g.decoder;
        running = moved-sound s.running s.requested book g.requested g.running;
      }))
      (λ n. h)

-- The offer

module _ (s : State) (info out : List ℕ) where
  abbrev offered : Frame
  offered = offered_frame s info

  -- by the ways of an offer: refused, or done
  pub offer-ways : (P : Offer → Type 0) → ((n : ℕ) → P (refused_offer s n out))
      → (info_least ≤ length info → length info ≤ info_most → length (written offered) ≤ length out → P (offer_done s info out)) → P (offer_of s info out)
  unfolding offer_of
  offer-ways P none done =
      pick-by P (not (sound_of s)) (λ _. none refusal.state_unsound)
      (λ _. by (info_fits offered) refl (leb (length (written offered)) (length out)) refl)
    where
      fits : info_fits offered ≡ true → (info_least ≤ length info) × (length info ≤ info_most)
      fits i =
          let a = leb info_least (length info) in
          let b = leb (length info) info_most in
          (leb-true info_least (length info) (both_left a b i), leb-true (length info) info_most (both_right a b i))

      by : (i : Bool) → info_fits offered ≡ i → (l : Bool) → leb (length (written offered)) (length out) ≡ l
          → P (pick (not i) (refused_offer s refusal.info_wrong out) (pick (not l) (refused_offer s refusal.output_short out)
          (pick (is_out s.sender.out) (refused_offer s refusal.sender_busy out) (offer_done s info out))))
      by false i l e = none refusal.info_wrong
      by true i false e = none refusal.output_short
      by true i true e =
          let f = fits i in
          pick-by P (is_out s.sender.out) (λ _. none refusal.sender_busy) (λ _. done f.0 f.1 (leb-true (length (written offered)) (length out) e))

  -- all but our SEQ and what is out is as it was
  pub offer-left : (let t = (offer_of s info out).answer.state in t
      ≡ record { own = s.own; seq = t.seq; requested = s.requested; wait = s.wait; decoder = s.decoder; dropped = s.dropped; memory = s.memory; sender = t.sender; running = s.running })
  offer-left =
      offer-ways (λ w. w.answer.state
      ≡ record { own = s.own; seq = w.answer.state.seq; requested = s.requested; wait = s.wait; decoder = s.decoder; dropped = s.dropped; memory = s.memory; sender = w.answer.state.sender; running = s.running })
      (λ n. refl) (λ _ _ _. refl)

  offer-sound : sound_of s ≡ true → sound_of (offer_of s info out).answer.state ≡ true
  offer-sound h =
      let g = sound-parts s h in
      offer-ways (λ w. sound_of w.answer.state ≡ true) (λ n. h)
      (λ least most _.
      let q = sending-fits s.wait s.sender info g.wait.0 g.out_info least most in
      parts-sound (with_sent s info) (record {
        own = g.own;
        requested = g.requested;
        info = g.info;
        last_info = g.last_info;
        out_info = q.0;
        last = g.last;
        wait = g.wait;
        out = q.1;
        decoder = g.decoder;
        running = g.running;
      }))

pub sound-kept : SoundKept
sound-kept s = record { octet = octet-sound s; line_idle = idle-sound s; second = second-sound s; offer = offer-sound s }

-- The fresh start

pub fresh-sound : (which : Which) (own wait : ℕ) (kept : List ℕ) → (own ≡ all → ⊥) → wait_least ≤ wait → wait ≤ wait_most → kept_len ≤ length kept
    → sound_of (fresh_of which own wait kept) ≡ true
unfolding fresh_of
fresh-sound which own wait kept n least most long =
    parts-sound (fresh_of which own wait kept) (record {
      own = n;
      requested = omega arith;
      info = length-take-le info_most kept (omega arith);
      last_info = length-take-le info_most (drop info_most kept) (omega (arith, length-drop info_most kept));
      out_info = length-take-le info_most (drop out_start kept) (omega (arith, length-drop out_start kept));
      last = inl refl;
      wait = (least, most);
      out = inl refl;
      decoder = possible-kept.0;
      running = record { position = ready-cycle (built_in which) (built-in-stands which); plan = omega arith; checks = built-in-stands which; zero = λ _. refl };
    })
