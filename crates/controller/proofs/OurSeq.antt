-- Our SEQ over any run: each call that is done writes at most one message frame, with the SEQ that the state has, and leaves the
-- next; what it writes is octets, so whoever listens from rest reads the frames back.
use Prim.Native.Nat.{ℕ, zero, suc, ◌+◌, ◌-◌, ◌%◌, ◌≤◌, ◌<◌}
use mathlib.Core.Path.{◌≡◌, refl, sym, ap, subst, ◌∙◌}
use mathlib.Core.Bool.{Bool, true, false}
use mathlib.Core.Logic.{◌⊎◌, inl, inr}
use mathlib.Core.List.{List, [], ◌∷◌, ◌++◌, append_assoc, append-nil}
use native.Mathlib.Omega.{arith}
use lib.Dec.{eqb}
use lib.ListN.{length, take, replicate, length-replicate}
use lib.Seq.{sets, length-take-le}
use Rattle.octets.specs.Choice.{pick}
use Rattle.octets.specs.Octet.{Octets}
use Rattle.octets.specs.Refusals.{refusal_number}
use Rattle.octets.proofs.Laws.{pick-by, octets-take, octets-part, octets-sets, take-sets}
use Rattle.frame.specs.declared.Kind.{Kind}
use Rattle.frame.specs.declared.Kind.TheVariants.{Message, Ack, Nak}
use Rattle.frame.specs.declared.decoder.Found.{Found}
use Rattle.frame.specs.declared.decoder.Found.TheVariants as found
use Rattle.frame.specs.Frame.{Frame, message, ack, written}
use Rattle.frame.specs.Promises.{InOctets, InfoFits}
use Rattle.frame.specs.Decoder.{Decoder, fresh_head, fresh_decoder, taken_of}
use Rattle.frame.specs.Run.{Outcome, nothing, refused, sound, found_means, outcome_of, outcomes, decoder_after, AtRest}
use Rattle.frame.proofs.Reading.{reading-undoes-writing}
use Rattle.frame.proofs.Possible.{fresh-at-rest}
use Rattle.frame.proofs.Held.{HoldsOctets, OutcomeOctets, taken-octets, idled-octets}
use Rattle.message.specs.Reader.{code_in}
use Rattle.record.specs.Record.{book_len}
use Rattle.controller.specs.declared.Event.{Event}
use Rattle.controller.specs.declared.Event.TheVariants as event
use Rattle.controller.specs.declared.Link.{Link}
use Rattle.controller.specs.declared.Link.TheVariants as link
use Rattle.controller.specs.declared.Turn.{Turn}
use Rattle.controller.specs.Memory.{is_repeat}
use Rattle.controller.specs.Sender.{Sender, sending, again_turn, ack_turn, nak_turn, second_turn}
use Rattle.controller.specs.State.{State, output_len, fresh_of, sound_of}
use Rattle.controller.specs.Handling.{reply_info, handling_of}
use Rattle.controller.specs.Offers.{Offer, offered_frame, offer_of}
use Rattle.controller.specs.Replies.{Answer, Call, CanFind, ResultAndBook, sent, err_of, naks, acks, for_us, is_answer, passed_over, met_with_silence, replied_of, handled_of, accepted_of, message_of, resent, answered_of, brought_of, octet_of}
use Rattle.controller.specs.Seconds.{Shown, started_of, second_of}
use Rattle.controller.specs.Demand1.{OctetRefused, SecondRefused, OfferRefused, OfferDone}
use Rattle.controller.specs.Demand2.{on_line}
use Rattle.controller.specs.Demand3.{HostCall, octet, line_idle, second, offer, next, Start, Starts, start_of, Heard, hears, heard_first}
use Rattle.controller.specs.OurSeq.{writes, tells_link, writes_on, frames_heard, heard_from, frames_on, first_sends, first_on, CountsFrom, OurSeqCounts}
use Rattle.controller.proofs.Laws.{takes, octet-brings, again_by, ack-by, nak-by, second-by, idle-done, second-done}
use Rattle.controller.proofs.Judging.{OutParts, SoundParts, sound-parts}
use Rattle.controller.proofs.Replying.{can-find}
use Rattle.controller.proofs.AsWritten.{GoodInfo, reply-good}
use Rattle.controller.proofs.Answering.{octets-answered, octet-refused, octet-right, resent-fits, seconds-answered, offers-answered, offer-refused, offer-is-done}
use Rattle.controller.proofs.Sending.{answers-out, out-is}
use Rattle.controller.proofs.Keeping.{done-left, by-octet, second-left, offer-left}
use Rattle.controller.proofs.Latest.{Kept, kept_next, start-kept}

-- Frames that are read back

abbrev pub Readable : Frame → Type 0
Readable f = InOctets f × InfoFits f

abbrev pub AllReadable : List Frame → Type 0
AllReadable [] = Unit
AllReadable (f ∷ fs) = Readable f × AllReadable fs

outcomes-append : (d : Decoder) (xs ys : List ℕ) → outcomes d (xs ++ ys) ≡ outcomes d xs ++ outcomes (decoder_after d xs) ys
unfolding outcomes decoder_after
outcomes-append d [] ys = refl
outcomes-append d (x ∷ xs) ys = ap (λ (l : List Outcome). outcome_of (taken_of d x) ∷ l) (outcomes-append (taken_of d x).decoder xs ys)

heard-append : (os ps : List Outcome) → frames_heard (os ++ ps) ≡ frames_heard os ++ frames_heard ps
heard-append [] ps = refl
heard-append (nothing ∷ os) ps = heard-append os ps
heard-append (refused n k s a ∷ os) ps = heard-append os ps
heard-append (sound f ∷ os) ps = ap (λ (l : List Frame). f ∷ l) (heard-append os ps)

heard-last : (n : ℕ) (f : Frame) → frames_heard (replicate n nothing ++ (sound f ∷ [])) ≡ f ∷ []
heard-last zero f = refl
heard-last (suc n) f = heard-last n f

all-heard : (fs : List Frame) → AllReadable fs → (d : Decoder) → AtRest d → frames_heard (outcomes d (on_line fs)) ≡ fs
unfolding outcomes
all-heard [] r d a = refl
all-heard (f ∷ fs) r d a =
    let q = reading-undoes-writing d f a r.0.0 r.0.1 in
    ap frames_heard (outcomes-append d (written f) (on_line fs)) ∙ heard-append (outcomes d (written f)) (outcomes (decoder_after d (written f)) (on_line fs))
    ∙ ap (λ (l : List Frame). l ++ frames_heard (outcomes (decoder_after d (written f)) (on_line fs))) (ap frames_heard q.outcome ∙ heard-last (length (written f) - 1) f)
    ∙ ap (λ (l : List Frame). f ∷ l) (all-heard fs r.1 (decoder_after d (written f)) q.rest)

line-append : (fs gs : List Frame) → on_line (fs ++ gs) ≡ on_line fs ++ on_line gs
line-append [] gs = refl
line-append (f ∷ fs) gs = ap (λ (l : List ℕ). written f ++ l) (line-append fs gs) ∙ sym (append_assoc (written f) (on_line fs) (on_line gs))

readable-append : (fs gs : List Frame) → AllReadable fs → AllReadable gs → AllReadable (fs ++ gs)
readable-append [] gs r q = q
readable-append (f ∷ fs) gs r q = (r.0, readable-append fs gs r.1 q)

sent-line : (fs : List Frame) → sent fs ≡ on_line fs
sent-line [] = refl
sent-line (f ∷ fs) = ap (λ (l : List ℕ). written f ++ l) (sent-line fs)

-- whoever listens to one call alone hears the same
heard-call : (fs : List Frame) {octets : List ℕ} → AllReadable fs → octets ≡ on_line fs → heard_from octets ≡ fs
heard-call fs r e = ap heard_from e ∙ all-heard fs r (fresh_decoder (replicate 256 0)) (fresh-at-rest.1 (replicate 256 0) (length-replicate {A = ℕ} 256 0)).0

-- What a call writes

-- of n message frames before it these are the next, where the link stands as l; then the state has this SEQ, and `more` frames are written
pub record Sends (n : ℕ) (l : Link) (fs : List Frame) (seq : ℕ) : Type 0 where
  pub more : ℕ
  pub readable : AllReadable fs
  pub next : seq ≡ more % 256
  pub then : (gs : List Frame) → CountsFrom more gs → CountsFrom n (first_sends l fs ++ gs)

module _ (n : ℕ) (s : State) (hw : s.own < 65535) (e : s.seq ≡ n % 256) where
  none-sent : (l : Link) → Sends n l [] s.seq
  none-sent link.Still = record { more = n; readable = tt; next = e; then = λ gs c. c }
  none-sent link.Again = record { more = n; readable = tt; next = e; then = λ gs c. c }
  none-sent link.Heard = record { more = n; readable = tt; next = e; then = λ gs c. c }
  none-sent link.Down = record { more = n; readable = tt; next = e; then = λ gs c. c }

  ack-sent : (seq addr : ℕ) → seq < 256 → Sends n link.Still (acks s.own seq addr) s.seq
  ack-sent seq addr h =
      pick-by (λ (fs : List Frame). Sends n link.Still fs s.seq) (eqb addr s.own)
      (λ _. record { more = n; readable = (((h, omega arith), tt), tt); next = e; then = λ gs c. c }) (λ _. none-sent link.Still)

  nak-sent : (k : Kind) (m seq addr : ℕ) → m ≤ 3 → seq < 256 → Sends n link.Still (naks k s.own m seq addr) s.seq
  nak-sent Message m seq addr l h =
      let err : err_of m < 256 = pick-by (λ (x : ℕ). x < 256) (eqb m 3) (λ _. omega arith) (λ _. omega arith) in
      pick-by (λ (fs : List Frame). Sends n link.Still fs s.seq) (eqb addr s.own)
      (λ _. record { more = n; readable = (((h, omega arith, err), tt), tt); next = e; then = λ gs c. c }) (λ _. none-sent link.Still)
  nak-sent Ack m seq addr l h = none-sent link.Still
  nak-sent Nak m seq addr l h = none-sent link.Still

  -- the ACK and the message frame with our SEQ, where they are due
  reply-sent : (t : Bool) (seq : ℕ) (i : List ℕ) → seq < 256 → GoodInfo i
      → Sends n link.Still (pick t (ack seq s.own ∷ message s.seq s.own i ∷ []) []) (pick t ((s.seq + 1) % 256) s.seq)
  reply-sent true seq i h g =
      record {
        more = n + 1;
        readable = (((h, omega arith), tt), (((omega arith, omega arith, g.octets), (g.least, g.most)), tt));
        next = omega arith;
        then = λ gs c. (e, c);
      }
  reply-sent false seq i h g = none-sent link.Still

  -- a message frame that is offered
  offer-sent : (i : List ℕ) → Octets i → 2 ≤ length i → length i ≤ 256 → Sends n link.Still (message s.seq s.own i ∷ []) ((s.seq + 1) % 256)
  offer-sent i o least most = record { more = n + 1; readable = (((omega arith, omega arith, o), (least, most)), tt); next = omega arith; then = λ gs c. (e, c) }

  -- the frame out, where it is sent again
  module _ (p : SoundParts s) (oi : Octets s.sender.info) where
    again-sent : OutParts s.wait s.sender.out → Sends n link.Again (resent s link.Again) s.seq
    again-sent q =
        let long = length-take-le s.sender.out.len s.sender.info (omega (arith, q.short, p.out_info)) in
        record {
          more = n;
          readable =
              (((omega arith, omega arith, octets-take s.sender.out.len s.sender.info oi), (omega (arith, long, q.long), omega (arith, long, q.short))), tt);
          next = e;
          then = λ gs c. c;
        }

    abbrev TurnSent : Turn → Type 0
    TurnSent t = Sends n t.link (resent s t.link) s.seq

    turn-sent : (s.sender.out.len ≡ 0 → ⊥) → TurnSent (again_turn s.sender.out)
    turn-sent z =
        again_by s.sender.out TurnSent (λ _. again-sent (out-is s.wait s.sender.out p.wait.0 p.out z)) (λ _. none-sent link.Down)

    ack-turn-sent : (m : ℕ) → TurnSent (ack_turn s.seq s.sender.out m)
    ack-turn-sent m = ack-by s.sender.out TurnSent s.seq m (λ _. none-sent link.Heard) (λ _. none-sent link.Still)

    nak-turn-sent : (m : ℕ) → TurnSent (nak_turn s.seq s.sender.out m)
    nak-turn-sent m =
        nak-by s.sender.out TurnSent s.seq m (λ h. turn-sent (answers-out s.seq s.sender.out m h)) (λ _. none-sent link.Still)

    second-turn-sent : TurnSent (second_turn s.wait s.sender.out)
    second-turn-sent = second-by s.sender.out s.wait TurnSent (λ _. none-sent link.Still) (λ _ _. none-sent link.Still) (λ z _. turn-sent z)

    -- what an octet brings; the octets kept of the frame out are octets still
    module _ (oc : Octets s.running.copy) (book : List ℕ) (hb : length book ≡ book_len) (ob : Octets book) where
      abbrev Sent : ResultAndBook → Type 0
      Sent w = Sends n w.result.link w.result.frames w.result.seq × Octets w.result.sender.info

      over-sent : Sent (passed_over s book)
      over-sent = (none-sent link.Still, oi)

      replied-sent : (seq addr : ℕ) (info : List ℕ) → seq < 256 → Octets info → Sent (handled_of s book seq addr (handling_of s book info))
      unfolding replied_of sending
      replied-sent seq addr info h o =
          let i = reply_info s book (handling_of s book info).handled.reply in
          let g = reply-good s book info hb ob oc p.running.checks p.running.plan o in
          (reply-sent (eqb addr s.own) seq i h g, pick-by (λ (q : Sender). Octets q.info) (eqb addr s.own) (λ _. octets-sets s.sender.info 0 i oi g.octets) (λ _. oi))

      message-sent : (seq addr : ℕ) (info : List ℕ) → seq < 256 → Octets info → Sent (message_of s seq addr info book)
      unfolding message_of accepted_of
      message-sent seq addr info h o =
          pick-by Sent (for_us s.own addr)
          (λ _. pick-by Sent (is_repeat s.memory seq info) (λ _. (ack-sent seq addr h, oi))
          (λ _. pick-by Sent (met_with_silence s addr info) (λ _. over-sent)
          (λ _. pick-by Sent (is_answer (code_in info)) (λ _. (ack-sent seq addr h, oi)) (λ _. replied-sent seq addr info h o))))
          (λ _. over-sent)

      answered-sent : (addr : ℕ) (v : Event) (t : Turn) → TurnSent t → Sent (answered_of s addr v t book)
      unfolding answered_of
      answered-sent addr v t x = pick-by Sent (eqb addr s.own) (λ _. (x, oi)) (λ _. over-sent)

      brought-sent : (f : Found) (kept : List ℕ) → CanFind f → OutcomeOctets (found_means f kept) → Sent (brought_of (found_means f kept) s book)
      brought-sent found.Nothing kept c o = over-sent
      brought-sent (found.Refused r k seq addr) kept c o = (nak-sent k (refusal_number r) seq addr c o, oi)
      brought-sent (found.Message seq addr m) kept c o = message-sent seq addr (take m kept) o.0 o.1
      brought-sent (found.Ack seq addr) kept c o = answered-sent addr (event.Ack seq) (ack_turn s.seq s.sender.out seq) (ack-turn-sent seq)
      brought-sent (found.Nak seq addr err) kept c o = answered-sent addr (event.Nak seq err) (nak_turn s.seq s.sender.out seq) (nak-turn-sent seq)

-- the call writes these frames, which count on from n; the octets kept of the frame out are octets
pub record CallSends (n : ℕ) (s : State) (e : HostCall) (fs : List Frame) : Type 0 where
  pub written : writes s e ≡ on_line fs
  pub sends : Sends n (tells_link s e) fs (next s e).seq
  pub out : Octets (next s e).sender.info

module _ (own : ℕ) (hw : own < 65535) where
  -- the state of a controller at this address that has written n message frames, those that were sent again left out
  pub record Able (n : ℕ) (s : State) : Type 0 where
    pub heard : Heard
    pub kept : Kept own s heard
    pub octets : HoldsOctets s.decoder
    pub out : Octets s.sender.info
    pub seq : s.seq ≡ n % 256

  module _ (n : ℕ) (s : State) (a : Able n s) where
    own-fits : s.own < 65535
    own-fits = rw a.kept.own hw

    nothing-sent : Sends n link.Still [] s.seq
    nothing-sent = none-sent n s own-fits a.seq link.Still

    -- by what the call is
    octet-as : (b : ℕ) (l : b < 256) (book out : List ℕ) (o : Octets book) {w : Call} (fs : List Frame) → octet_of s book out b ≡ w
        → take w.answer.told.count w.out ≡ on_line fs → Sends n w.answer.told.link fs w.answer.state.seq → Octets w.answer.state.sender.info
        → CallSends n s (octet b l book out o) fs
    octet-as b l book out o fs q e v i =
        record {
          written = ap (λ (w : Call). take w.answer.told.count w.out) q ∙ e;
          sends = subst (λ (w : Call). Sends n w.answer.told.link fs w.answer.state.seq) (sym q) v;
          out = subst (λ (w : Call). Octets w.answer.state.sender.info) (sym q) i;
        }

    second-as : (book out : List ℕ) (o : Octets book) {w : Shown} (fs : List Frame) → second_of s book out ≡ w
        → take w.told.count w.out ≡ on_line fs → Sends n w.told.link fs w.state.seq → Octets w.state.sender.info → CallSends n s (second book out o) fs
    second-as book out o fs q e v i =
        record {
          written = ap (λ (w : Shown). take w.told.count w.out) q ∙ e;
          sends = subst (λ (w : Shown). Sends n w.told.link fs w.state.seq) (sym q) v;
          out = subst (λ (w : Shown). Octets w.state.sender.info) (sym q) i;
        }

    offer-as : (info out : List ℕ) (o : Octets info) {w : Offer} (fs : List Frame) → offer_of s info out ≡ w
        → take w.answer.told.count w.out ≡ on_line fs → Sends n w.answer.told.link fs w.answer.state.seq → Octets w.answer.state.sender.info
        → CallSends n s (offer info out o) fs
    offer-as info out o fs q e v i =
        record {
          written = ap (λ (w : Offer). take w.answer.told.count w.out) q ∙ e;
          sends = subst (λ (w : Offer). Sends n w.answer.told.link fs w.answer.state.seq) (sym q) v;
          out = subst (λ (w : Offer). Octets w.answer.state.sender.info) (sym q) i;
        }

    -- frames that fit are written as they are
    stored : (fs : List Frame) (out : List ℕ) → length (sent fs) ≤ length out → take (length (sent fs)) (sets out 0 (sent fs)) ≡ on_line fs
    stored fs out h = take-sets (sent fs) out h ∙ sent-line fs

    pub octet-sends : (b : ℕ) (l : b < 256) (book out : List ℕ) (o : Octets book) → sound_of s ≡ true → length book ≡ book_len → output_len ≤ length out
        → CallSends n s (octet b l book out o) (brought_of (outcome_of (taken_of s.decoder b)) s book).result.frames
    octet-sends b l book out o h hb ho =
        let t = taken_of s.decoder b in
        let p = sound-parts s h in
        let fs = (brought_of (outcome_of t) s book).result.frames in
        let v =
        brought-sent n s own-fits a.seq p a.out a.kept.octets book hb o t.found t.decoder.info
        (can-find s.decoder b p.decoder) (taken-octets s.decoder b l a.octets).1 in
        octet-as b l book out o fs (octet-brings s book out b h hb ho refl) (stored fs out (omega (arith, (octet-right s book out b h hb).fits, ho))) v.0 v.1

    pub second-sends : (book out : List ℕ) (o : Octets book) → sound_of s ≡ true → length book ≡ book_len → output_len ≤ length out
        → CallSends n s (second book out o) (resent s (second_turn s.wait s.sender.out).link)
    second-sends book out o h hb ho =
        let l = (second_turn s.wait s.sender.out).link in
        let p = sound-parts s h in
        second-as book out o (resent s l) (second-done s book out h hb ho) (stored (resent s l) out (omega (arith, resent-fits s (p.out_info, p.out) l, ho)))
        (second-turn-sent n s own-fits a.seq p a.out) a.out

    pub offer-sends : (info out : List ℕ) (o : Octets info) → OfferDone s info out → CallSends n s (offer info out o) (offered_frame s info ∷ [])
    unfolding sending
    offer-sends info out o d =
        let fs = offered_frame s info ∷ [] in
        offer-as info out o fs (offer-is-done s info out d) (stored fs out (omega (arith, d.room, ap length (append-nil (written (offered_frame s info))))))
        (offer-sent n s own-fits a.seq info o d.least d.most) (octets-sets s.sender.info 0 info a.out o)

    -- a call that is refused writes none, nor does a line-idle call
    pub octet-none : (b : ℕ) (l : b < 256) (book out : List ℕ) (o : Octets book) {m : ℕ} → OctetRefused s book out m → CallSends n s (octet b l book out o) []
    octet-none b l book out o x = octet-as b l book out o [] (octet-refused s book out b x) refl nothing-sent a.out

    pub second_none : (book out : List ℕ) (o : Octets book) (m : ℕ) → SecondRefused s book out m → CallSends n s (second book out o) []
    second_none book out o m x = second-as book out o [] ((seconds-answered s book out).refused m x) refl nothing-sent a.out

    pub offer-none : (info out : List ℕ) (o : Octets info) {m : ℕ} → OfferRefused s info out m → CallSends n s (offer info out o) []
    offer-none info out o x = offer-as info out o [] (offer-refused s info out x) refl nothing-sent a.out

    pub idle-none : CallSends n s line_idle []
    idle-none =
        let q = sym (idle-done s a.kept.sound) in
        record {
          written = refl;
          sends = subst (λ (w : Answer). Sends n w.told.link [] w.state.seq) q nothing-sent;
          out = subst (λ (w : Answer). Octets w.state.sender.info) q a.out;
        }

    pub call-sends : (e : HostCall) → (fs : List Frame) × CallSends n s e fs
    call-sends (octet b l book out o) = by (octets-answered s book out b).either
      where
        by : ((m : ℕ) × OctetRefused s book out m) ⊎ ((sound_of s ≡ true) × (length book ≡ book_len) × (output_len ≤ length out)) → (fs : List Frame) × CallSends n s (octet b l book out o) fs
        by (inl x) = ([], octet-none b l book out o x.1)
        by (inr x) = ((brought_of (outcome_of (taken_of s.decoder b)) s book).result.frames, octet-sends b l book out o x.0 x.1 x.2)
    call-sends line_idle = ([], idle-none)
    call-sends (second book out o) = by (seconds-answered s book out).either
      where
        by : ((m : ℕ) × SecondRefused s book out m) ⊎ ((sound_of s ≡ true) × (length book ≡ book_len) × (output_len ≤ length out)) → (fs : List Frame) × CallSends n s (second book out o) fs
        by (inl x) = ([], second_none book out o x.0 x.1)
        by (inr x) = (resent s (second_turn s.wait s.sender.out).link, second-sends book out o x.0 x.1 x.2)
    call-sends (offer info out o) = by (offers-answered s info out).either
      where
        by : ((m : ℕ) × OfferRefused s info out m) ⊎ OfferDone s info out → (fs : List Frame) × CallSends n s (offer info out o) fs
        by (inl x) = ([], offer-none info out o x.1)
        by (inr d) = (offered_frame s info ∷ [], offer-sends info out o d)

    holds-next : (e : HostCall) → HoldsOctets (next s e).decoder
    holds-next (octet b l book out o) =
        by-octet s book out b (λ _ t. HoldsOctets t.decoder) a.octets
        (λ _ _ _. rw (done-left s (takes s b) book out).decoder (taken-octets s.decoder b l a.octets).0)
    holds-next line_idle = subst HoldsOctets (sym (ap (λ (w : Answer). w.state.decoder) (idle-done s a.kept.sound))) (idled-octets s.decoder a.octets)
    holds-next (second book out o) = rw (ap (λ (t : State). t.decoder) (second-left s book out)) a.octets
    holds-next (offer info out o) = rw (ap (λ (t : State). t.decoder) (offer-left s info out)) a.octets

    pub able-next : (e : HostCall) → Able (call-sends e).1.sends.more (next s e)
    able-next e =
        let c = (call-sends e).1 in
        record { heard = hears own s a.heard e; kept = kept_next own s a.heard e a.kept; octets = holds-next e; out = c.out; seq = c.sends.next }

  -- what a listener hears of the call
  pub call-heard : {n : ℕ} {s : State} {e : HostCall} {fs : List Frame} → CallSends n s e fs → heard_from (writes s e) ≡ fs
  call-heard {n} {s} {e} {fs} c = heard-call fs c.sends.readable c.written

  record RunSends (n : ℕ) (s : State) (es : List HostCall) : Type 0 where
    written : writes_on s es ≡ on_line (frames_on s es)
    readable : AllReadable (frames_on s es)
    counts : CountsFrom n (first_on s es)

  run-sends : (n : ℕ) (s : State) (es : List HostCall) → Able n s → RunSends n s es
  run-sends n s [] a = record { written = refl; readable = tt; counts = tt }
  run-sends n s (e ∷ es) a =
      let fs = (call-sends n s a e).0 in
      let c = (call-sends n s a e).1 in
      let r = run-sends c.sends.more (next s e) es (able-next n s a e) in
      let h = sym (call-heard c) in
      let rest = frames_on (next s e) es in
      record {
        written =
            ap (λ (os : List ℕ). os ++ writes_on (next s e) es) c.written ∙ ap (λ (os : List ℕ). on_line fs ++ os) r.written ∙ sym (line-append fs rest)
            ∙ ap (λ (gs : List Frame). on_line (gs ++ rest)) h;
        readable = subst (λ (gs : List Frame). AllReadable (gs ++ rest)) h (readable-append fs rest c.sends.readable r.readable);
        counts = subst (λ (gs : List Frame). CountsFrom n (first_sends (tells_link s e) gs ++ first_on (next s e) es)) h (c.sends.then (first_on (next s e) es) r.counts);
      }

pub able-start : (a : Start) → Starts a → (hw : a.own < 65535) → Octets a.kept → Able a.own hw 0 (start_of a)
unfolding started_of fresh_of fresh_head
able-start a g hw each =
    record {
      heard = heard_first a;
      kept = start-kept a g;
      octets = record { seq = omega arith; info = octets-take 256 a.kept each };
      out = octets-part 256 512 a.kept each;
      seq = refl;
    }

pub our-seq-counts : OurSeqCounts
our-seq-counts a g hw each es =
    let r = run-sends a.own hw 0 (start_of a) es (able-start a g hw each) in
    record {
      octets = r.written;
      heard = λ d q. rw r.written (all-heard (frames_on (start_of a) es) r.readable d q);
      counts = r.counts;
    }
