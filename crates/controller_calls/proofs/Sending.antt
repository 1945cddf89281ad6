-- The frame out, as the code sends it and sends it again.
use Rattle.std.specs.Prelude.{None}
use Rattle.std.proofs.Common.{◌≡◌, ℕ, ◌+◌, ◌-◌, ◌%◌, ◌<◌, ◌≤◌, Bool, true, false, List, [], length, take, drop, sym, refl, ap, ◌∙◌, ⊎_elim, append-nil, arith, take-take, eq-eqb, ne_eqb, le-leb}
use native.Mathlib.Decide.{dec_lt}
use borrow.Author.Tests.{lt-leb}
use Rattle.octets.specs.Put.{Put, Stored}
use Rattle.octets.specs.Refusal as refusal
use Rattle.octets.specs.declared.refusal.Refusal.{Refusal}
use Rattle.octets.specs.declared.refusal.Refusal.TheVariants.{SenderBusy}
use Rattle.octets.specs.Refusals.{refusal_number}
use Rattle.octets.specs.Writing.{Written}
use Rattle.octets.specs.Writing.{WriterLeaves, written_as}
use Rattle.octets.proofs.Laws.{put-stored}
use Rattle.frame.specs.Frame.{Frame, message, info_fits, info_least, info_most, written}
use Rattle.frame.specs.Writer.{write_frame, RefusesMessage}
use Rattle.frame.proofs.Laws.{info-most}
use Rattle.record.specs.Record.{book_len}
use Rattle.lamps.specs.declared.Row.{Row}
use Rattle.lamps.specs.Rows.{row_at}
use Rattle.controller.specs.declared.Event.{Event}
use Rattle.controller.specs.declared.Event.TheVariants as event
use Rattle.controller.specs.declared.Held.{Held}
use Rattle.controller.specs.declared.HeldAnswer.{HeldAnswer}
use Rattle.controller.specs.declared.Link.{Link}
use Rattle.controller.specs.declared.Link.TheVariants as link
use Rattle.controller.specs.declared.Out.{Out}
use Rattle.controller.specs.declared.Running.{Running}
use Rattle.controller.specs.declared.Turn.{Turn}
use Rattle.controller.specs.Offers.{OfferLeaves, refused_offer, offered_frame, offer_of}
use Rattle.controller.specs.Replies.{sent, resent}
use Rattle.controller.specs.Seconds.{moved_on, second_of, shown_with}
use Rattle.controller.specs.Sender.{out_start, out_fits, out_seq, again_turn, ack_turn, nak_turn, second_turn, sending}
use Rattle.controller.specs.State.{joined, kept_len, output_len, sound_of}
use Rattle.controller.proofs.Judging.{OutParts, out-parts}
use Rattle.controller.proofs.Laws.{again_by, ack-by, nak-by, second-by, second-done, offer-4, offer-9, offer-15, offer-done}
use Rattle.controller.proofs.Sending.{answers-out}
use Rattle.controller.proofs.Laws as laws
use Rattle.controller.proofs.Replying.{message-most}
use Rattle.controller_calls.specs.Held.{held_quiet}
use Rattle.controller_calls.specs.Replies.{ResultInNumbers, unchanged_as, AnsweredWith}
use Rattle.controller_calls.specs.Sender.{InfoPut, Sendable}
use Rattle.controller_calls.proofs.Held.{lent-enough}
use Rattle.controller_calls.proofs.Putting.{sent_once, out-part, out-part-long, put-kept}
use Rattle.controller_calls.proofs.Written.{info-right, message-none, message-stored, sent-none, stored-count, stored-tells}

-- What is sent again is of a length that INFO can have

module _ (t : ℕ) (o : Out) (f : out_fits t o ≡ true) where
  pub out-is : (o.len ≡ 0 → ⊥) → OutParts t o
  out-is n = ⊎_elim (λ e. absurd (n e)) (λ p. p) (out-parts t o f)

  abbrev Sends : Turn → Type 0
  Sends r = Sendable o r.link

  again-sends : (o.len ≡ 0 → ⊥) → Sends (again_turn o)
  again-sends n = let p = out-is n in again_by o Sends (λ _. (p.long, p.short)) (λ _. tt)

  pub ack-sends : (ours n : ℕ) → Sends (ack_turn ours o n)
  ack-sends ours n = ack-by o Sends ours n (λ _. tt) (λ _. tt)

  pub nak-sends : (ours n : ℕ) → Sends (nak_turn ours o n)
  nak-sends ours n = nak-by o Sends ours n (λ e. again-sends (answers-out ours o n e)) (λ _. tt)

  pub second-sends : Sends (second_turn t o)
  second-sends = second-by o t Sends (λ _. tt) (λ _ _. tt) (λ n _. again-sends n)

-- The frame goes again

module _ (s : Held) (kept out : List ℕ) (h : (info_least ≤ s.out.len) × (s.out.len ≤ info_most)) (long : kept_len ≤ length kept) (room : output_len ≤ length out) where
  pub resent-stored : {q : ℕ} → q ≡ out_seq s.seq → {w : Written} {o : List ℕ}
      → WriterLeaves (write_frame (message q s.own (take ((out_start + s.out.len) - out_start) (drop out_start kept))) 0 out) w o
      → Stored (sent (resent (joined s kept) link.Again)) 0 out w.count o
  resent-stored {q} e w =
      let i = take s.out.len (drop out_start kept) in
      let l : length i ≡ s.out.len = out-part-long s.out.len kept h.1 long in
      let m = message-most q s.own i (omega (arith, l, h.1)) in
      rw (← e, take-take s.out.len info_most (drop out_start kept) h.1)
      (message-stored q s.own i out (info-right q s.own i (omega (arith, l, h.0)) (omega (arith, l, h.1))) (omega (arith, m, room, ap length (append-nil (written (message q s.own i)))))
      (rw (out-part s.out.len kept) at w))

  pub resent-none : (q : ℕ) {w : Written} {o : List ℕ}
      → WriterLeaves (write_frame (message q s.own (take ((out_start + s.out.len) - out_start) (drop out_start kept))) 0 out) w o → w.refusal ≡ refusal.none
  resent-none q w =
      let i = take s.out.len (drop out_start kept) in
      let l : length i ≡ s.out.len = out-part-long s.out.len kept h.1 long in
      let m = message-most q s.own i (omega (arith, l, h.1)) in
      message-none q s.own i out (info-right q s.own i (omega (arith, l, h.0)) (omega (arith, l, h.1))) (omega (arith, m, room, ap length (append-nil (written (message q s.own i)))))
      (rw (out-part s.out.len kept) at w)

-- INFO of the frame out was so before the decoder's own call
resent-came : (s : Held) (came lent : List ℕ) → drop out_start came ≡ drop out_start lent → (l : Link) → resent (joined s lent) l ≡ resent (joined s came) l
resent-came s came lent d link.Still = refl
resent-came s came lent d link.Again = rw d
resent-came s came lent d link.Heard = refl
resent-came s came lent d link.Down = refl

-- An ACK or a NAK

module _ (s : Held) (addr : ℕ) (v : Event) (t : Turn) (lent out : List ℕ) where
  abbrev turned_as : ℕ → ResultInNumbers
  turned_as count = record { refusal = refusal.none; parameter = 0; event = v; count = count; seq = s.seq; requested = s.requested; out = t.out; link = t.link }

  pub answered-ours : addr ≡ s.own → {count : ℕ} {o : List ℕ} → Stored (sent (resent (joined s lent) t.link)) 0 out count o → AnsweredWith s addr v t lent out (turned_as count) o
  answered-ours e p came book d =
      let q = rw (resent-came s came lent d t.link) at p in
      rw (laws.answered-ours (joined s came) addr v t book (eq-eqb addr s.own e)) (record { told = stored-count q turned_as; out = q.holds })

  pub answered-other : (addr ≡ s.own → ⊥) → {r : ResultInNumbers} → r ≡ unchanged_as s refusal.none event.Nothing 0 → AnsweredWith s addr v t lent out r out
  answered-other n u came book d =
      rw (laws.answered-other (joined s came) addr v t book (ne_eqb addr s.own n)) (stored-tells s refusal.none event.Nothing [] sent-none u came)

-- A second

module _ (s : Held) (kept book out : List ℕ) where
  pub second-shown : sound_of (joined s kept) ≡ true → length book ≡ book_len → output_len ≤ length out
      → {t : Turn} → t ≡ second_turn s.wait s.out → {u : Running} → u ≡ moved_on s.running s.requested book → {row : Row} → row ≡ row_at s.running.copy s.running.position
      → {count : ℕ} {o : List ℕ} → Stored (sent (resent (joined s kept) t.link)) 0 out count o
      → shown_with
      (record {
        state = record { own = s.own; seq = s.seq; requested = s.requested; wait = s.wait; last = s.last; out = t.out; receiver = s.receiver; running = u };
        told = record { refusal = None; parameter = 0; event = event.Nothing; count = count; dropped = 0; link = t.link };
        plan = s.running.plan;
        row = row;
      })
      kept o
      ≡ second_of (joined s kept) book out
  second-shown h b l e m r p =
      let q = rw e at p in
      let n = stored-count q (λ k. k) in
      rw (e, m, r, n, q.holds) (sym (second-done (joined s kept) book out h b l))

-- An offer

module _ (s : Held) (lent info out : List ℕ) where
  abbrev f : Frame
  f = offered_frame (joined s lent) info

  abbrev Leaves : HeldAnswer → List ℕ → List ℕ → Type 0
  Leaves r k o = OfferLeaves (offer_of (joined s lent) info out) lent r k o

  pub offer-quiet : (why : Refusal) → offer_of (joined s lent) info out ≡ refused_offer (joined s lent) (refusal_number why) out → {r : HeldAnswer} → r ≡ held_quiet s why → Leaves r lent out
  offer-quiet why h e = rw (h, e) (record { answer = refl; beyond = refl; out = refl })

  module _ (h : sound_of (joined s lent) ≡ true) {n : ℕ} (w : RefusesMessage info 0 out n) where
    -- the frame fits where nothing is refused of it, and only there
    fitting : info_fits f ≡ true → length (written f) ≤ length out → n ≡ refusal.none
    unfolding write_frame written_as
    fitting i l = w s.seq s.own ∙ rw (i, le-leb (0 + length (written f)) (length out) (omega arith))

    unfit : info_fits f ≡ false → n ≡ refusal.info_wrong
    unfolding write_frame
    unfit i = w s.seq s.own ∙ rw i

    too_long : info_fits f ≡ true → length out < length (written f) → n ≡ refusal.output_short
    unfolding write_frame written_as
    too_long i l = w s.seq s.own ∙ rw (i, lt-leb (0 + length (written f)) (length out) (omega arith))

    pub offer-refused : {why : Refusal} → n ≡ refusal_number why → (n ≡ refusal.none → ⊥) → {r : HeldAnswer} → r ≡ held_quiet s why → Leaves r lent out
    offer-refused {why} en g e = offer-quiet why (by (info_fits f) refl ∙ ap (λ (k : ℕ). refused_offer (joined s lent) k out) en) e
      where
        by : (t : Bool) → info_fits f ≡ t → offer_of (joined s lent) info out ≡ refused_offer (joined s lent) n out
        by false i = rw (unfit i) (offer-4 (joined s lent) info out h i)
        by true i =
            elim (dec_lt (length out) (length (written f))) [
              | yes l ↦ rw (too_long i l) (offer-9 (joined s lent) info out h i l)
              | no l ↦ absurd (g (fitting i (omega arith)))
            ]

    module _ (z : n ≡ refusal.none) where
      fits : (info_fits f ≡ true) × (length (written f) ≤ length out)
      fits = by (info_fits f) refl
        where
          by : (t : Bool) → info_fits f ≡ t → (info_fits f ≡ true) × (length (written f) ≤ length out)
          by false i = absurd (omega (arith, z, unfit i))
          by true i = (i, elim (dec_lt (length out) (length (written f))) [ yes l ↦ absurd (omega (arith, z, too_long i l)) | no l ↦ omega arith ])

      pub offered-most : length info ≤ info_most
      offered-most = info-most (length info) fits.0

      pub offer-none : {r : Written} {o : List ℕ} → WriterLeaves (write_frame f 0 out) r o → r.refusal ≡ refusal.none
      offer-none w = message-none s.seq s.own info out fits.0 fits.1 w

      pub offer-busy : (s.out.len ≡ 0 → ⊥) → {r : HeldAnswer} → r ≡ held_quiet s SenderBusy → Leaves r lent out
      offer-busy g e = offer-quiet SenderBusy (offer-15 (joined s lent) info out h fits.0 fits.1 g) e

      abbrev offered_as : ℕ → ℕ → HeldAnswer
      offered_as q count =
          record {
            state = record { own = s.own; seq = q; requested = s.requested; wait = s.wait; last = s.last; out = sent_once (length info); receiver = s.receiver; running = s.running };
            told = record { refusal = None; parameter = 0; event = event.Nothing; count = count; dropped = 0; link = link.Still };
          }

      pub offer-sent : s.out.len ≡ 0 → {p : ℕ} {k : List ℕ} → Put info out_start lent p k → {r : Written} {o : List ℕ} → WriterLeaves (write_frame f 0 out) r o
          → {q : ℕ} → q ≡ (s.seq + 1) % 256 → Leaves (offered_as q r.count) k o
      unfolding sending
      offer-sent g p wr eq =
          let l = lent-enough s lent h in
          let i : InfoPut info lent (length info) _ = record { count = refl; octets = (put-stored p (omega (arith, offered-most))).holds } in
          let d = put-kept s.out i offered-most lent refl in
          let m = message-stored s.seq s.own info out fits.0 fits.1 wr in
          let e = stored-count m (λ k. k) in
          rw (offer-done (joined s lent) info out h fits.0 fits.1 g)
          (record {
            answer = (λ j. record {
              state = record {
                own = s.own;
                seq = eq j;
                requested = s.requested;
                wait = s.wait;
                decoder = record { head = s.receiver.head; info = d.decoder j };
                dropped = s.receiver.dropped;
                memory = record { last = s.last; info = d.memory j };
                sender = record { out = sent_once (length info); info = d.out j };
                running = s.running;
              };
              told = record { refusal = refusal.none; parameter = 0; event = event.Nothing; count = e j; dropped = 0; link = link.Still };
            });
            beyond = d.beyond;
            out = m.holds;
          })
