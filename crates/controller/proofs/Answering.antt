-- Demand 1, but that soundness is kept: which states are sound, what each call refuses, and what is left alone.
use Prim.Native.Nat.{ℕ, ◌≤◌, ◌<◌}
use mathlib.Core.Path.{◌≡◌, refl, sym, ap, subst, ◌∙◌}
use mathlib.Core.Bool.{Bool, true, false}
use mathlib.Core.Logic.{◌⊎◌, inl, inr}
use mathlib.Core.List.{List, [], ◌∷◌, ◌++◌, append-nil}
use native.Mathlib.Decide.{dec_lt, ℕ_discrete}
use native.Mathlib.Omega.{arith}
use borrow.Author.Tests.{eq-eqb, ne_eqb, le-leb, lt-leb}
use lib.Dec.{eqb, leb}
use lib.ListN.{length, take, drop, length-take, length-drop, take-append-drop}
use lib.Seq.{sets, length-sets, drop-drop}
use Rattle.octets.specs.Choice.{pick}
use Rattle.octets.specs.Refusal as refusal
use Rattle.octets.specs.Refusals.{refusal_number}
use Rattle.octets.proofs.Refusals.{told-apart}
use Rattle.octets.proofs.Laws.{drop-sets, pick-by, clash}
use Rattle.frame.specs.declared.Kind.{Kind}
use Rattle.frame.specs.declared.Kind.TheVariants.{Message, Ack, Nak}
use Rattle.frame.specs.declared.decoder.Found.{Found}
use Rattle.frame.specs.declared.decoder.Found.TheVariants as found
use Rattle.frame.specs.Frame.{Frame, message, info_least, info_most, info_fits, written}
use Rattle.frame.specs.Decoder.{fresh_head, taken_of}
use Rattle.frame.specs.Run.{found_means, outcome_of}
use Rattle.frame.proofs.Laws.{idled-done}
use Rattle.message.specs.Reader.{Read}
use Rattle.message.specs.Reader as reader
use Rattle.message.specs.Names.{plan_at}
use Rattle.message.specs.Reader.{code_in, body_in, read_of}
use Rattle.message.specs.Promises.{Judged, short, body, unknown, wrong_length, out_of_range, accepted}
use Rattle.message.proofs.ReadSo.{read-so}
use Rattle.plan.specs.declared.Which.{Which}
use Rattle.plan.specs.declared.Which.TheVariants.{New, Old}
use Rattle.plan.specs.Setting.{Answered}
use Rattle.record.specs.Record.{book_len, empty, k_of}
use Rattle.checks.specs.Standing.{times_disagree, plan_disagree, standing_of, Stands}
use Rattle.plan.specs.Reading.{record_at}
use Rattle.plan.specs.Setting.{Setting, set_times_code, set_plan_code, plan_in, count_in, not_made, ready_record, times_made, ready_made, kept_as, other_code, set_front, set_of, set_times_of, set_plan_of}
use Rattle.checks.proofs.Stands.{stands-as-it-is}
use Rattle.controller.specs.declared.Event.{Event}
use Rattle.controller.specs.declared.Event.TheVariants as event
use Rattle.controller.specs.Reply.{HandledInNumbers}
use Rattle.controller.specs.declared.Held.{Held}
use Rattle.controller.specs.declared.HeldAnswer.{HeldAnswer}
use Rattle.controller.specs.declared.Told as declared
use Rattle.controller.specs.Told.{told_of}
use Rattle.controller.specs.declared.HeldShown.{HeldShown}
use Rattle.controller.specs.declared.Link.{Link}
use Rattle.controller.specs.declared.Link.TheVariants as link
use Rattle.controller.specs.declared.Turn.{Turn}
use Rattle.controller.specs.Memory.{Memory, is_repeat}
use Rattle.controller.specs.Sender.{out_start, wait_least, wait_most, wait_fits, out_seq, out_info, ack_turn, nak_turn, second_turn}
use Rattle.controller.specs.State.{State, joined, kept_len, all, output_len, plan_record, ready_in, fresh_of, sound_of}
use Rattle.controller.specs.Offers.{Offer, refused_offer, offered_frame, offer_done, offer_of}
use Rattle.controller.specs.Handling as handling
use Rattle.controller.specs.Handling.{reply_info, set_as, unless_unread, run_as, query_times_as, query_plan_as, handling_of}
use Rattle.controller.specs.Replies.{Answer, Call, answer_with, sent, refused_call, err_of, naks, acks, for_us, is_answer, replies_of, CanFind, ResultAndBook, unchanged, leaves, passed_over, met_with_silence, replied_of, acked_of, accepted_of, message_of, resent, answered_of, brought_of, memory_then, made_of, octet_of}
use Rattle.controller.specs.Seconds.{Shown, shown_with, started_of, second_of, no_second}
use Rattle.controller.specs.Demand1.{OutSound, Sound, SoundAsItIs, OctetRefused, CallRefused, InDone, OctetsAnswered, SecondRefused, ShownRefused, SecondsAnswered, OfferRefused, OfferDone, OffersAnswered, IdlesAnswered, StartAnswered, StartsAnswered, RefusedLeavesBook, OutLeft, OutputsLeft, NumbersAsSaid, JoinedSo, AnswersSo, CallsLeaveSo, RefusedAsCame, OfferRefusedAsCame, FewerRefused}
use Rattle.controller.proofs.Laws.{both_false, takes, octet-7, octet-8, octet-9, octet-brings, idle-7, idle-done, second-7, second-8, second-9, second-done, offer-7, offer-4, offer-9, offer-15, offer-done}
use Rattle.controller.proofs.Judging.{RunningParts, OutFits, SoundParts, sound-parts, parts-sound}
use Rattle.controller.proofs.Keeping.{offer-ways, fresh-sound}
use Rattle.controller.proofs.Replying.{can-find, handling-by, reply-fits, nak-fits, ack-fits, message-most, sent-most}
use Rattle.controller.proofs.Sending.{SenderFits}

-- Which states are sound

pub sound-as-it-is : SoundAsItIs
sound-as-it-is s o = record { from = λ h. from (sound-parts s h); to = λ h. parts-sound s (to h) }
  where
    stands : Stands s.running.copy
    stands = stands-as-it-is s.running.copy o

    out-from : OutFits s.wait s.sender.out → (s.sender.out.len ≡ 0) ⊎ OutSound s.wait s.sender.out
    out-from (inl e) = inl e
    out-from (inr p) = inr (record { sends = (p.least, p.most); waited = p.waited; len = (p.long, p.short) })

    out-to : (s.sender.out.len ≡ 0) ⊎ OutSound s.wait s.sender.out → OutFits s.wait s.sender.out
    out-to (inl e) = inl e
    out-to (inr p) = inr (record { least = p.sends.0; most = p.sends.1; waited = p.waited; long = p.len.0; short = p.len.1 })

    from : SoundParts s → Sound s
    from p =
        let u = p.running in
        record {
          own = p.own;
          requested = p.requested;
          decoder = p.decoder;
          info = p.info;
          last = p.last;
          last_info = p.last_info;
          wait = p.wait;
          out = out-from p.out;
          out_info = p.out_info;
          running = record { position = u.position; plan = u.plan; checks = stands.ready_from u.checks; zero = u.zero };
        }

    to : Sound s → SoundParts s
    to p =
        let u = p.running in
        record {
          own = p.own;
          requested = p.requested;
          decoder = p.decoder;
          info = p.info;
          last = p.last;
          last_info = p.last_info;
          wait = p.wait;
          out = out-to p.out;
          out_info = p.out_info;
          running = record { position = u.position; plan = u.plan; checks = stands.ready_to u.checks; zero = u.zero };
        }

-- The fresh start

-- "T outside 1 to 60"
wait-wrong : (wait : ℕ) → (wait < wait_least) ⊎ (wait_most < wait) → wait_fits wait ≡ false
wait-wrong wait (inl h) = rw (lt-leb wait_least wait h)
wait-wrong wait (inr h) = rw (lt-leb wait wait_most h) (both_false (leb wait_least wait))

wait-right : (wait : ℕ) → wait_least ≤ wait → wait ≤ wait_most → wait_fits wait ≡ true
wait-right wait least most = rw (le-leb wait_least wait least, le-leb wait wait_most most)

-- a state with such a T is unsound, whatever else it is
wait-unsound : (s : State) → wait_fits s.wait ≡ false → sound_of s ≡ false
wait-unsound s h = by (sound_of s) refl
  where
    by : (t : Bool) → sound_of s ≡ t → sound_of s ≡ false
    by true e = let p = (sound-parts s e).wait in absurd (clash h (wait-right s.wait p.0 p.1))
    by false e = e

own-unsound : (which : Which) (own wait : ℕ) (kept : List ℕ) → own ≡ all → sound_of (fresh_of which own wait kept) ≡ false
unfolding sound_of fresh_of
own-unsound which own wait kept e = rw (eq-eqb own all e)

start-answered : (which : Which) (own wait : ℕ) (kept : List ℕ) → StartAnswered which own wait kept (started_of which own wait kept)
unfolding started_of fresh_of fresh_head
start-answered which own wait kept =
    record {
      state = refl;
      others = refl;
      refused = λ e. (rw (eq-eqb own all e), own-unsound which own wait kept e);
      wrong = λ n w. (rw (ne_eqb own all n, wait-wrong wait w), wait-unsound (fresh_of which own wait kept) (wait-wrong wait w));
      done = λ n least most. (rw (ne_eqb own all n, wait-right wait least most), fresh-sound which own wait kept n least most);
      fresh = refl;
      started = refl;
    }

pub starts-answered : StartsAnswered
starts-answered own wait kept = (start-answered New own wait kept, start-answered Old own wait kept)

-- The line-idle call

pub idles-answered : IdlesAnswered
idles-answered s =
    record {
      refused = λ h. rw (idle-7 s h);
      done = λ h.
          rw (idle-done s h, idled-done s.decoder (sound-parts s h).decoder)
          (record { state = refl; others = refl });
    }

-- The second call

pub seconds-answered : SecondsAnswered
unfolding no_second
seconds-answered s book out =
    record {
      refused = λ n r. refused r;
      done = λ h n l. rw (second-done s book out h n l);
      either = by (sound_of s) refl (ℕ_discrete (length book) book_len) (dec_lt (length out) output_len);
    }
  where
    dark : {n : ℕ} → ShownRefused s out n (no_second s n out)
    dark = refl

    refused : {n : ℕ} → SecondRefused s book out n → ShownRefused s out n (second_of s book out)
    refused (SecondRefused.unsound h) = rw (second-7 s book out h) dark
    refused (SecondRefused.book h n) = rw (second-8 s book out h n) dark
    refused (SecondRefused.output h n l) = rw (second-9 s book out h n l) dark

    by : (t : Bool) → sound_of s ≡ t → Dec (length book ≡ book_len) → Dec (length out < output_len)
        → ((n : ℕ) × SecondRefused s book out n) ⊎ ((sound_of s ≡ true) × (length book ≡ book_len) × (output_len ≤ length out))
    by false h d d' = inl (refusal.state_unsound, SecondRefused.unsound h)
    by true h (no n) d' = inl (refusal.book_wrong, SecondRefused.book h n)
    by true h (yes e) (yes l) = inl (refusal.output_short, SecondRefused.output h e l)
    by true h (yes e) (no g) = inr (h, e, omega arith)

-- The offer

module _ (s : State) (info out : List ℕ) where
  -- the frame that is offered
  abbrev offered : Frame
  offered = message s.seq s.own info

  pub info-fits : info_least ≤ length info → length info ≤ info_most → info_fits offered ≡ true
  info-fits least most = rw (le-leb info_least (length info) least, le-leb (length info) info_most most)

  info-unfit : (length info < info_least) ⊎ (info_most < length info) → info_fits offered ≡ false
  info-unfit (inl h) = rw (lt-leb info_least (length info) h)
  info-unfit (inr h) = rw (lt-leb (length info) info_most h) (both_false (leb info_least (length info)))

  pub offer-refused : {n : ℕ} → OfferRefused s info out n → offer_of s info out ≡ refused_offer s n out
  offer-refused (OfferRefused.unsound h) = offer-7 s info out h
  offer-refused (OfferRefused.info h i) = offer-4 s info out h (info-unfit i)
  offer-refused (OfferRefused.output h a b l) = offer-9 s info out h (info-fits a b) l
  offer-refused (OfferRefused.busy h a b l n) = offer-15 s info out h (info-fits a b) l n

  pub offer-is-done : OfferDone s info out → offer_of s info out ≡ offer_done s info out
  offer-is-done d = offer-done s info out d.sound (info-fits d.least d.most) d.room d.free

pub offers-answered : OffersAnswered
offers-answered s info out =
    record {
      refused = λ n r. rw (offer-refused s info out r) (record { answer = refl; out = refl });
      done = λ d. rw (offer-is-done s info out d);
      either = by (sound_of s) refl (dec_lt (length info) info_least) (dec_lt info_most (length info)) (dec_lt (length out) (length (written (offered s info out)))) (ℕ_discrete s.sender.out.len 0);
    }
  where
    by : (t : Bool) → sound_of s ≡ t → Dec (length info < info_least) → Dec (info_most < length info) → Dec (length out < length (written (offered s info out))) → Dec (s.sender.out.len ≡ 0)
        → ((n : ℕ) × OfferRefused s info out n) ⊎ OfferDone s info out
    by false h a b c d = inl (refusal.state_unsound, OfferRefused.unsound h)
    by true h (yes a) b c d = inl (refusal.info_wrong, OfferRefused.info h (inl a))
    by true h (no a) (yes b) c d = inl (refusal.info_wrong, OfferRefused.info h (inr b))
    by true h (no a) (no b) (yes c) d = inl (refusal.output_short, OfferRefused.output h (omega arith) (omega arith) c)
    by true h (no a) (no b) (no c) (no d) = inl (refusal.sender_busy, OfferRefused.busy h (omega arith) (omega arith) (omega arith) d)
    by true h (no a) (no b) (no c) (yes d) = inr (record { sound = h; least = omega arith; most = omega arith; room = omega arith; free = d })

-- What a message may be refused by

pub read-in-done : (info : List ℕ) → InDone (read_of info).refusal
unfolding reader.not_read
read-in-done info = by ((read-so info (read_of info)).1 refl)
  where
    by : {r : Read} → Judged info r → InDone r.refusal
    by (short h) = inr (omega arith, omega arith)
    by (body h (unknown n)) = inr (omega arith, omega arith)
    by (body h (wrong_length kn n)) = inr (omega arith, omega arith)
    by (body h (out_of_range n kn r w)) = inr (omega arith, omega arith)
    by (body h (accepted kn r a)) = inl (omega arith)

-- a set answers by its front, or by what is made, and one that is refused leaves the book
module _ (code : ℕ) (m : _) (book info : List ℕ) {w : Setting} (e : w ≡ set_of code m book info) where
  set-in-done : length book ≡ book_len → InDone m.refusal → InDone w.answer.refusal
  unfolding set_of set_front kept_as
  set-in-done hb h =
      rw e
      (pick-by (λ (w : Setting). InDone w.answer.refusal) (eqb (set_front (length book) code info).refusal refusal.none)
      (λ _. pick-by (λ (w : Setting). InDone w.answer.refusal) (eqb m.refusal refusal.none) (λ _. inl (omega arith)) (λ _. h))
      (λ _. rw (eq-eqb (length book) book_len hb)
      (pick-by (λ (a : Answered). InDone a.refusal) (other_code code info) (λ _. inr (omega arith, omega arith)) (λ _. read-in-done info))))

  set-refused-leaves : (w.answer.refusal ≡ refusal.none → ⊥) → w.book ≡ book
  unfolding set_of kept_as
  set-refused-leaves =
      let P : Setting → Type 0 = λ w. (w.answer.refusal ≡ refusal.none → ⊥) → w.book ≡ book in
      subst P (sym e)
      (pick-by P (eqb (set_front (length book) code info).refusal refusal.none)
      (λ _. pick-by P (eqb m.refusal refusal.none) (λ _ n. absurd (n refl)) (λ _ _. refl))
      (λ _ _. refl))

times-in-done : (os : List ℕ) → InDone (times_made os).refusal
unfolding times_made not_made
times-in-done os = by (eqb (times_disagree os) 0) refl
  where
    by : (t : Bool) → eqb (times_disagree os) 0 ≡ t → InDone (times_made os).refusal
    by true e = rw e (inl (omega arith))
    by false e = rw e (inr (omega arith, omega arith))

ready-in-done : (old os : List ℕ) → InDone (ready_made old os).refusal
unfolding ready_made not_made
ready-in-done old os = by (eqb (standing_of old) empty) refl (eqb (count_in os) (k_of old)) refl (eqb (plan_disagree (ready_record old os)) 0) refl
  where
    by : (a : Bool) → eqb (standing_of old) empty ≡ a → (b : Bool) → eqb (count_in os) (k_of old) ≡ b → (c : Bool) → eqb (plan_disagree (ready_record old os)) 0 ≡ c
        → InDone (ready_made old os).refusal
    by true e b f c g = rw e (inr (omega arith, omega arith))
    by false e false f c g = rw (e, f) (inr (omega arith, omega arith))
    by false e true f false g = rw (e, f, g) (inr (omega arith, omega arith))
    by false e true f true g = rw (e, f, g) (inl (omega arith))

module _ (s : State) (book info : List ℕ) where
  abbrev code : ℕ
  code = code_in info

  abbrev p : ℕ
  p = plan_in (body_in info)

  as-in-done : (a : Answered) → InDone a.refusal → InDone (set_as code s.requested a).refusal
  unfolding set_as
  as-in-done a h = pick-by (λ (h : HandledInNumbers). InDone h.refusal) (eqb a.refusal refusal.none) (λ _. inl (omega arith)) (λ _. h)

  as-leaves : (a : Answered) → ((set_as code s.requested a).refusal ≡ refusal.none → ⊥) → a.refusal ≡ refusal.none → ⊥
  unfolding set_as
  as-leaves a n e = n (rw (eq-eqb a.refusal refusal.none e))

  read-or-done : (h : HandledInNumbers) → InDone h.refusal → InDone (unless_unread code s.requested info h).refusal
  read-or-done h d = pick-by (λ (h : HandledInNumbers). InDone h.refusal) (eqb (read_of info).refusal refusal.none) (λ _. d) (λ _. read-in-done info)

  -- of what holds or is refused 13
  or-not-ready : (t : Bool) (h : HandledInNumbers) → InDone h.refusal → InDone (pick t h (handling.refused_with code s.requested refusal.not_ready plan_at)).refusal
  or-not-ready true h d = d
  or-not-ready false h d = inr (omega arith, omega arith)

  pub handled-in-done : length book ≡ book_len → InDone (handling_of s book info).handled.refusal
  unfolding run_as query_times_as query_plan_as
  handled-in-done hb =
      handling-by (λ h. InDone h.handled.refusal) s book info
      (λ _. as-in-done (set_times_of book info).answer (set-in-done set_times_code (times_made (body_in info)) book info refl hb (times-in-done (body_in info))))
      (λ _. as-in-done (set_plan_of book info).answer (set-in-done set_plan_code (ready_made (record_at book p) (body_in info)) book info refl hb (ready-in-done (record_at book p) (body_in info))))
      (read-or-done _ (or-not-ready (ready_in s.running.which book p) _ (inl (omega arith))))
      (read-or-done _
      (pick-by (λ (h : HandledInNumbers). InDone h.refusal) (eqb (standing_of (plan_record s.running.which book p)) empty) (λ _. inr (omega arith, omega arith)) (λ _. inl (omega arith))))
      (read-or-done _ (or-not-ready (ready_in s.running.which book p) _ (inl (omega arith))))
      (read-or-done _ (inl (omega arith)))
      (inr (omega arith, omega arith))

  pub handled-leaves : ((handling_of s book info).handled.refusal ≡ refusal.none → ⊥) → (handling_of s book info).book ≡ book
  handled-leaves =
      handling-by (λ h. (h.handled.refusal ≡ refusal.none → ⊥) → h.book ≡ book) s book info
      (λ _ n. set-refused-leaves set_times_code (times_made (body_in info)) book info refl (as-leaves (set_times_of book info).answer n))
      (λ _ n. set-refused-leaves set_plan_code (ready_made (record_at book p) (body_in info)) book info refl (as-leaves (set_plan_of book info).answer n))
      (λ _. refl) (λ _. refl) (λ _. refl) (λ _. refl) (λ _. refl)

-- The octet call

abbrev pub FramesFit : List Frame → Type 0
FramesFit fs = length (sent fs) ≤ output_len

none-fit : FramesFit []
none-fit = omega arith

naks-fit : (k : Kind) (own n seq addr : ℕ) → FramesFit (naks k own n seq addr)
naks-fit Message own n seq addr = pick-by FramesFit (eqb addr own) (λ _. nak-fits seq own (err_of n)) (λ _. none-fit)
naks-fit Ack own n seq addr = none-fit
naks-fit Nak own n seq addr = none-fit

-- whatever the link says, since INFO is kept in 256 octets
pub resent-fits : (s : State) → SenderFits s.wait s.sender → (l : Link) → FramesFit (resent s l)
resent-fits s q link.Still = none-fit
resent-fits s q link.Again = message-most (out_seq s.seq) s.own (out_info s.sender) (omega (arith, length-take s.sender.out.len s.sender.info, q.0))
resent-fits s q link.Heard = none-fit
resent-fits s q link.Down = none-fit

acks-fit : (own seq addr : ℕ) → FramesFit (acks own seq addr)
acks-fit own seq addr = pick-by FramesFit (eqb addr own) (λ _. ack-fits seq own) (λ _. none-fit)

-- what is brought names a refusal that a call that is done may name, leaves the book where it names one, and writes what fits
pub record Right (book : List ℕ) (w : ResultAndBook) : Type 0 where
  pub names : InDone w.result.refusal
  pub leaves : (w.result.refusal ≡ refusal.none → ⊥) → w.book ≡ book
  pub fits : FramesFit w.result.frames

module _ (s : State) (book : List ℕ) where
  -- a frame refused or dropped, an ACK, an event
  unchanged-right : (n : ℕ) (e : Event) (fs : List Frame) → n ≤ refusal.len_wrong → FramesFit fs → Right book (leaves book (unchanged s n e fs))
  unchanged-right n e fs l f = record { names = inl l; leaves = λ _. refl; fits = f }

  -- an ACK or a NAK: what is sent again is a frame
  answered-right : (addr : ℕ) (e : Event) (t : Turn) → FramesFit (resent s t.link) → Right book (answered_of s addr e t book)
  unfolding answered_of
  answered-right addr e t f = pick-by (Right book) (eqb addr s.own) (λ _. record { names = inl (omega arith); leaves = λ _. refl; fits = f }) (λ _. unchanged-right refusal.none event.Nothing [] (omega arith) none-fit)

  module _ (p : RunningParts s.running) (q : SenderFits s.wait s.sender) (hb : length book ≡ book_len) where
    message-right : (seq addr : ℕ) (info : List ℕ) → Right book (message_of s seq addr info book)
    unfolding message_of accepted_of replied_of
    message-right seq addr info =
        pick-by (Right book) (for_us s.own addr)
        (λ _. pick-by (Right book) (is_repeat s.memory seq info) (λ _. acked)
        (λ _. pick-by (Right book) (met_with_silence s addr info) (λ _. over)
        (λ _. pick-by (Right book) (is_answer (code_in info)) (λ _. acked)
        (λ _. record { names = handled-in-done s book info hb; leaves = handled-leaves s book info; fits = frames }))))
        (λ _. over)
      where
        over : Right book (passed_over s book)
        over = unchanged-right refusal.none event.Nothing [] (omega arith) none-fit

        acked : Right book (acked_of s seq addr book)
        acked = unchanged-right refusal.none event.Nothing (acks s.own seq addr) (omega arith) (acks-fit s.own seq addr)

        reply : List ℕ
        reply = reply_info s book (handling_of s book info).handled.reply

        frames : FramesFit (pick (eqb addr s.own) (replies_of seq s.seq s.own reply) [])
        frames = pick-by FramesFit (eqb addr s.own) (λ _. sent-most seq s.seq s.own reply (reply-fits s book info p.checks)) (λ _. none-fit)

    brought-right : (f : Found) (kept : List ℕ) → CanFind f → Right book (brought_of (found_means f kept) s book)
    brought-right found.Nothing kept c = unchanged-right refusal.none event.Nothing [] (omega arith) none-fit
    brought-right (found.Refused r k seq addr) kept c = let n = refusal_number r in unchanged-right n event.Nothing (naks k s.own n seq addr) c (naks-fit k s.own n seq addr)
    brought-right (found.Message seq addr n) kept c = message-right seq addr (take n kept)
    brought-right (found.Ack seq addr) kept c = answered-right addr (event.Ack seq) _ (resent-fits s q (ack_turn s.seq s.sender.out seq).link)
    brought-right (found.Nak seq addr err) kept c = answered-right addr (event.Nak seq err) _ (resent-fits s q (nak_turn s.seq s.sender.out seq).link)

module _ (s : State) (book out : List ℕ) (b : ℕ) where
  abbrev pub brought : ResultAndBook
  brought = brought_of (outcome_of (taken_of s.decoder b)) s book

  pub octet-right : sound_of s ≡ true → length book ≡ book_len → Right book brought
  octet-right h hb =
      let p = sound-parts s h in
      let t = taken_of s.decoder b in
      brought-right s book p.running (p.out_info, p.out) hb t.found t.decoder.info (can-find s.decoder b p.decoder)

pub octet-refused : (s : State) (book out : List ℕ) (b : ℕ) {n : ℕ} → OctetRefused s book out n → octet_of s book out b ≡ refused_call s n book out
octet-refused s book out b (OctetRefused.unsound h) = octet-7 s book out b h
octet-refused s book out b (OctetRefused.book h n) = octet-8 s book out b h n
octet-refused s book out b (OctetRefused.output h e l) = octet-9 s book out b h e l

pub octets-answered : OctetsAnswered
octets-answered s book out b =
    record {
      refused = λ n r. refused r;
      done = λ h hb ho. rw (octet-brings s book out b h hb ho refl) (octet-right s book out b h hb).names;
      either = by (sound_of s) refl (ℕ_discrete (length book) book_len) (dec_lt (length out) output_len);
    }
  where
    refused : {n : ℕ} → OctetRefused s book out n → CallRefused s book out n (octet_of s book out b)
    refused r = rw (octet-refused s book out b r) (record { answer = refl; book = refl; out = refl })

    by : (t : Bool) → sound_of s ≡ t → Dec (length book ≡ book_len) → Dec (length out < output_len)
        → ((n : ℕ) × OctetRefused s book out n) ⊎ ((sound_of s ≡ true) × (length book ≡ book_len) × (output_len ≤ length out))
    by false h d d' = inl (refusal.state_unsound, OctetRefused.unsound h)
    by true h (no n) d' = inl (refusal.book_wrong, OctetRefused.book h n)
    by true h (yes e) (yes l) = inl (refusal.output_short, OctetRefused.output h e l)
    by true h (yes e) (no g) = inr (h, e, omega arith)

-- what holds of every refused call, and of every call that is done with what is right, holds of every octet call
octet-by : (P : Call → Type 0) (s : State) (book out : List ℕ) (b : ℕ) → ((n : ℕ) → P (refused_call s n book out))
    → (output_len ≤ length out → (m : Memory) (w : ResultAndBook) → Right book w → P (made_of s (takes s b) m w out)) → P (octet_of s book out b)
octet-by P s book out b r d = by (octets-answered s book out b).either
  where
    by : ((n : ℕ) × OctetRefused s book out n) ⊎ ((sound_of s ≡ true) × (length book ≡ book_len) × (output_len ≤ length out)) → P (octet_of s book out b)
    by (inl x) = rw (octet-refused s book out b x.1) (r x.0)
    by (inr x) = rw (octet-brings s book out b x.0 x.1 x.2 refl) (d x.2 (memory_then (outcome_of (taken_of s.decoder b)) s) (brought s book out b) (octet-right s book out b x.0 x.1))

-- What is left alone

pub refused-leaves-book : RefusedLeavesBook
refused-leaves-book s book out b = octet-by (λ w. (w.answer.told.refusal ≡ refusal.none → ⊥) → w.book ≡ book) s book out b (λ n _. refl) (λ _ m w r. r.leaves)

-- nothing is written, or frames that fit
none_left : (out : List ℕ) → OutLeft out 0 out
none_left out = record { beyond = refl; long = refl; within = omega arith; most = omega arith }

some_left : (out : List ℕ) (fs : List Frame) → length (sent fs) ≤ length out → FramesFit fs → OutLeft out (length (sent fs)) (sets out 0 (sent fs))
some_left out fs h f = record { beyond = drop-sets (sent fs) out h; long = length-sets out 0 (sent fs); within = h; most = f }

octet-leaves : (s : State) (book out : List ℕ) (b : ℕ) → OutLeft out (octet_of s book out b).answer.told.count (octet_of s book out b).out
octet-leaves s book out b =
    octet-by (λ w. OutLeft out w.answer.told.count w.out) s book out b (λ n. none_left out)
    (λ ho m w r. let f = r.fits in some_left out w.result.frames (omega arith) f)

second-leaves : (s : State) (book out : List ℕ) → OutLeft out (second_of s book out).told.count (second_of s book out).out
unfolding no_second
second-leaves s book out = by (seconds-answered s book out).either
  where
    fs : List Frame
    fs = resent s (second_turn s.wait s.sender.out).link

    by : ((n : ℕ) × SecondRefused s book out n) ⊎ ((sound_of s ≡ true) × (length book ≡ book_len) × (output_len ≤ length out))
        → OutLeft out (second_of s book out).told.count (second_of s book out).out
    by (inl x) = rw ((seconds-answered s book out).refused x.0 x.1) (none_left out)
    by (inr x) =
        let p = sound-parts s x.0 in
        let f = resent-fits s (p.out_info, p.out) (second_turn s.wait s.sender.out).link in
        rw (second-done s book out x.0 x.1 x.2) (some_left out fs (omega (arith, f, x.2)) f)

offer-leaves : (s : State) (info out : List ℕ) → OutLeft out (offer_of s info out).answer.told.count (offer_of s info out).out
offer-leaves s info out =
    offer-ways s info out (λ w. OutLeft out w.answer.told.count w.out) (λ n. none_left out)
    (λ least most room.
    let f = message-most s.seq s.own info most in
    some_left out (offered_frame s info ∷ []) (omega (arith, room, ap length (append-nil (written (offered_frame s info))))) f)

pub outputs-left : OutputsLeft
outputs-left =
    (λ s book out b. let l = octet-leaves s book out b in record { beyond = l.beyond; long = l.long; within = l.within; most = l.most }, second-leaves, offer-leaves)

pub numbers-as-said : NumbersAsSaid
numbers-as-said = (refl, refl, refl, refl, refl, refl, refl, refl, refl, refl)

-- The state by parts

pub joined-so : JoinedSo
joined-so =
    record {
      state = λ s kept. refl;
      answer = λ r kept. refl;
      told = λ t. refl;
      start = λ w r f kept. (ap (λ (a : Answer). a.state) (f kept), ap (λ (a : Answer). a.told) (f kept));
      second = λ r kept out w e.
          (ap (λ (a : Shown). a.state) e, ap (λ (a : Shown). a.told) e, ap (λ (a : Shown). a.plan) e, ap (λ (a : Shown). a.row) e, ap (λ (a : Shown). a.out) e);
    }

-- octets lent are the decoder's of INFO, those of the last frame accepted, those of the frame out, and those beyond
pub in_four : (k : List ℕ) → take info_most k ++ (take info_most (drop info_most k) ++ (take info_most (drop out_start k) ++ drop kept_len k)) ≡ k
in_four k =
    ap (λ (l : List ℕ). take info_most k ++ (take info_most (drop info_most k) ++ (take info_most (drop out_start k) ++ l))) (sym (drop-drop info_most out_start k))
    ∙ ap (λ (l : List ℕ). take info_most k ++ (take info_most (drop info_most k) ++ l)) (take-append-drop info_most (drop out_start k))
    ∙ ap (λ (l : List ℕ). take info_most k ++ (take info_most (drop info_most k) ++ l)) (sym (drop-drop info_most info_most k))
    ∙ ap (λ (l : List ℕ). take info_most k ++ l) (take-append-drop info_most (drop info_most k)) ∙ take-append-drop info_most k

answers-so : (a : Answer) (lent : List ℕ) (r : HeldAnswer) (k : List ℕ) → answer_with r k ≡ a → drop kept_len k ≡ drop kept_len lent → AnswersSo a lent r k
answers-so a lent r k e beyond =
    record {
      own = ap (λ (a : Answer). a.state.own) e;
      seq = ap (λ (a : Answer). a.state.seq) e;
      requested = ap (λ (a : Answer). a.state.requested) e;
      wait = ap (λ (a : Answer). a.state.wait) e;
      head = ap (λ (a : Answer). a.state.decoder.head) e;
      dropped = ap (λ (a : Answer). a.state.dropped) e;
      last = ap (λ (a : Answer). a.state.memory.last) e;
      out = ap (λ (a : Answer). a.state.sender.out) e;
      running = ap (λ (a : Answer). a.state.running) e;
      told = ap (λ (a : Answer). a.told) e;
      info = sym (in_four k) ∙ (λ i. (e i).state.decoder.info ++ ((e i).state.memory.info ++ ((e i).state.sender.info ++ beyond i)));
    }

pub calls-leave-so : CallsLeaveSo
calls-leave-so =
    (λ w lent r k b o l. (answers-so w.answer lent r k l.answer l.beyond, l.book, l.out), λ w lent r k o l. (answers-so w.answer lent r k l.answer l.beyond, l.out))

-- the struct in a state: that of `joined s kept` is s
abbrev pub held : State → Held
held s =
    record {
      own = s.own;
      seq = s.seq;
      requested = s.requested;
      wait = s.wait;
      receiver = record { head = s.decoder.head; dropped = s.dropped };
      last = s.memory.last;
      out = s.sender.out;
      running = s.running;
    }

-- the octets that a state has, and those beyond
pub record OctetsOf (s : State) (k : List ℕ) : Type 0 where
  pub decoder : s.decoder.info ≡ take info_most k
  pub memory : s.memory.info ≡ take info_most (drop info_most k)
  pub sender : s.sender.info ≡ take info_most (drop out_start k)

octets-back : (s t : State) (k l : List ℕ) → s ≡ t → OctetsOf s k → OctetsOf t l → drop kept_len k ≡ drop kept_len l → k ≡ l
octets-back s t k l e a c g =
    let i = sym a.decoder ∙ ap (λ (s : State). s.decoder.info) e ∙ c.decoder in
    let m = sym a.memory ∙ ap (λ (s : State). s.memory.info) e ∙ c.memory in
    let o = sym a.sender ∙ ap (λ (s : State). s.sender.info) e ∙ c.sender in
    sym (in_four k) ∙ (λ j. i j ++ (m j ++ (o j ++ g j))) ∙ in_four l

pub one-to-one : (s t : Held) (k l : List ℕ) → joined s k ≡ joined t l → drop kept_len k ≡ drop kept_len l → (s ≡ t) × (k ≡ l)
one-to-one s t k l e d =
    (ap held e, octets-back (joined s k) (joined t l) k l e (record { decoder = refl; memory = refl; sender = refl }) (record { decoder = refl; memory = refl; sender = refl }) d)

-- from 01's numbers the answer is known
told-one : (t u : declared.Told) → told_of t ≡ told_of u → t ≡ u
told-one t u e i =
    let w = e i in
    record { refusal = told-apart t.refusal u.refusal (λ j. (e j).refusal) i; parameter = w.parameter; event = w.event; count = w.count; dropped = w.dropped; link = w.link }

pub answer-one-to-one : (r q : HeldAnswer) (k l : List ℕ) → answer_with r k ≡ answer_with q l → drop kept_len k ≡ drop kept_len l → (r ≡ q) × (k ≡ l)
answer-one-to-one r q k l e d = ((λ i. record { state = held (e i).state; told = told-one r.told q.told (λ j. (e j).told) i }), (one-to-one r.state q.state k l (ap (λ (a : Answer). a.state) e) d).1)

pub shown-one : (r q : HeldShown) (k o p : List ℕ) → shown_with r k o ≡ shown_with q k p → (r ≡ q) × (o ≡ p)
shown-one r q k o p e = ((λ i. record { state = held (e i).state; told = told-one r.told q.told (λ j. (e j).told) i; plan = (e i).plan; row = (e i).row }), ap (λ (w : Shown). w.out) e)

pub refused-as-came : RefusedAsCame
refused-as-came s lent book out b n x r k b' o l =
    let e = octet-refused (joined s lent) book out b x in
    let j = one-to-one r.state s k lent (ap (λ (a : Answer). a.state) (l.answer ∙ ap (λ (w : Call). w.answer) e)) l.beyond in
    record { state = j.0; octets = j.1; plans = l.book ∙ ap (λ (w : Call). w.book) e; output = l.out ∙ ap (λ (w : Call). w.out) e }

pub offer-refused-as-came : OfferRefusedAsCame
offer-refused-as-came s lent info out n x r k o l =
    let e = offer-refused (joined s lent) info out x in
    let j = one-to-one r.state s k lent (ap (λ (a : Answer). a.state) (l.answer ∙ ap (λ (w : Offer). w.answer) e)) l.beyond in
    record { state = j.0; octets = j.1; output = l.out ∙ ap (λ (w : Offer). w.out) e }

-- a sound state has all of its octets
pub fewer-refused : FewerRefused
fewer-refused s kept l = by (sound_of (joined s kept)) refl
  where
    by : (t : Bool) → sound_of (joined s kept) ≡ t → sound_of (joined s kept) ≡ false
    by true e = absurd (omega (arith, (sound-parts (joined s kept) e).out_info, length-take info_most (drop out_start kept), length-drop out_start kept, l))
    by false e = e
