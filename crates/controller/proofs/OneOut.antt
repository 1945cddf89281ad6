-- The controller sends as the machine of the crate `sender` does: each call brings the frame out where that machine brings it, and shows what is seen
-- of it. So what holds of every run of the machine holds of every run of the controller.
use Prim.Native.Nat.{ℕ, ◌+◌, ◌%◌, ◌≤◌, ◌<◌}
use mathlib.Core.Path.{◌≡◌, refl, sym, ap, subst, ◌∙◌}
use mathlib.Core.Bool.{Bool, true, false}
use mathlib.Core.Logic.{◌⊎◌, inl, inr}
use mathlib.Core.List.{List, [], ◌∷◌, ◌++◌, map, append-nil}
use mathlib.Core.Option.{none}
use native.Mathlib.Decide.{dec_lt, ℕ_discrete}
use native.Mathlib.Omega.{arith}
use borrow.Author.Tests.{eq-eqb, ne_eqb, le-leb, lt-leb, eqb-true, eqb-false}
use lib.Dec.{eqb}
use lib.ListN.{length}
use Rattle.octets.specs.Choice.{pick}
use Rattle.octets.specs.Octet.{Octets}
use Rattle.octets.proofs.Laws.{pick-by, clash, take-sets}
use Rattle.frame.specs.declared.Kind.{Kind}
use Rattle.frame.specs.declared.Kind.TheVariants.{Message, Ack, Nak}
use Rattle.frame.specs.Frame.{Frame, message, ack, nak, written}
use Rattle.frame.specs.Decoder.{taken_of}
use Rattle.frame.specs.Run.{Outcome, nothing, refused, sound, outcome_of, outcomes}
use Rattle.message.specs.Reader.{code_in}
use Rattle.record.specs.Record.{book_len}
use Rattle.sender.specs.Machine.{Ours, Outgoing, free, LinkEvent, Happening, LinkStep, link_step_of, link_seen_of, link_after}
use Rattle.sender.specs.Machine as sender
use Rattle.sender.specs.Promises.{OutSo, Goes}
use Rattle.sender.proofs.Run as machine
use Rattle.controller.specs.declared.Event.TheVariants as event
use Rattle.controller.specs.declared.Out.{Out}
use Rattle.controller.specs.declared.Turn.{Turn}
use Rattle.controller.specs.Memory.{is_repeat}
use Rattle.controller.specs.Sender.{Sender, is_out, sends_most, out_seq, out_info, sending, again_turn, answers_out, ack_turn, nak_turn, second_turn}
use Rattle.controller.specs.State.{State, output_len, fresh_of, sound_of}
use Rattle.controller.specs.Handling.{reply_info, handling_of}
use Rattle.controller.specs.Replies.{Answer, Call, naks, for_us, is_answer, ResultAndBook, met_with_silence, replied_of, handled_of, acked_of, accepted_of, message_of, resent, answered_of, brought_of, octet_of}
use Rattle.controller.specs.Offers.{Offer, offer_of}
use Rattle.controller.specs.Seconds.{Shown, started_of, second_of}
use Rattle.controller.specs.Demand1.{OctetRefused, SecondRefused, OfferRefused, OfferDone}
use Rattle.controller.specs.Demand3.{HostCall, octet, line_idle, second, offer, next, start_of}
use Rattle.controller.specs.OurSeq.{writes, heard_from}
use Rattle.controller.specs.OneOut.{ours_in, ours_of, link_seen, seen_in, seen_on, brings, events_in, events_on, SendsAsSaid, OneOut}
use Rattle.controller.proofs.Judging.{SoundParts, sound-parts}
use Rattle.controller.proofs.Laws.{takes, octet-brings, silence-met, answered-ours, answered-other, again-more, again-down, ack-heard, ack-ignored, nak-again, nak-ignored, idle-done, second-done}
use Rattle.controller.proofs.Laws as laws
use Rattle.controller.proofs.Answering.{octets-answered, octet-refused, seconds-answered, offers-answered, offer-refused, offer-is-done}
use Rattle.controller.proofs.Replying.{reply-fits, reply-least}
use Rattle.controller.proofs.Keeping.{done-left, by-octet, idle-left, second-left, offer-left}
use Rattle.controller.proofs.OurSeq.{Able, octet-sends, second-sends, offer-sends, octet-none, second_none, offer-none, able-next, call-sends, call-heard, able-start}

-- The line of a state

-- the frame out, with our address, and our next SEQ
abbrev frame_in : ℕ → ℕ → Sender → Ours
frame_in own seq q = record { seq = out_seq seq; octets = written (message (out_seq seq) own (out_info q)) }

abbrev line_in : ℕ → ℕ → Sender → Outgoing
line_in own seq q = pick (is_out q.out) (sender.out (frame_in own seq q) q.out.sends q.out.waited) free

abbrev line_of : State → Outgoing
line_of s = line_in s.own s.seq s.sender

-- a frame with this INFO has gone out
sent-out : (own seq : ℕ) (q : Sender) (i : List ℕ) → seq < 256 → 2 ≤ length i → length i ≤ length q.info
    → line_in own ((seq + 1) % 256) (sending q i) ≡ sender.out (record { seq = seq; octets = written (message seq own i) }) 1 0
unfolding sending
sent-out own seq q i h least most =
    let e : ((seq + 1) % 256 + 255) % 256 ≡ seq = omega arith in
    rw (ne_eqb (length i) 0 (λ z. omega arith), e, take-sets i q.info most)

-- these events bring the line from l to m, and this is seen of them
record Follows (t : ℕ) (l : Outgoing) (es : List LinkEvent) (hs : List Happening) (m : Outgoing) : Type 0 where
  seen : link_seen_of t l es ≡ hs
  after : link_after t l es ≡ m

still : {t : ℕ} {l : Outgoing} → Follows t l [] [] l
still = record { seen = refl; after = refl }

one : {t : ℕ} {l : Outgoing} {e : LinkEvent} {hs : List Happening} {m : Outgoing} → link_step_of t l e ≡ record { outgoing = m; seen = hs } → Follows t l (e ∷ []) hs m
one {t} {l} {e} {hs} {m} h = record { seen = ap (λ (s : LinkStep). s.seen ++ []) h ∙ append-nil hs; after = ap (λ (s : LinkStep). s.outgoing) h }

-- What becomes of the frame out

module _ (s : State) where
  abbrev o : Out
  o = s.sender.out

  abbrev f : Ours
  f = frame_in s.own s.seq s.sender

  -- the machine's word on it
  said : OutSo s.wait f o.sends o.waited
  said = machine.out-said s.wait f o.sends o.waited

  -- what is seen of a turn, behind `before`, and where it brings the line
  abbrev Turned : List LinkEvent → List Happening → Turn → Type 0
  Turned es before t =
      Follows s.wait (line_of s) es (before ++ (map sender.sends (ours_in (resent s t.link)) ++ link_seen t.link))
      (line_in s.own s.seq (record { out = t.out; info = s.sender.info }))

  answers-none : o.len ≡ 0 → (m : ℕ) → answers_out s.seq o m ≡ false
  answers-none e m = rw (eq-eqb o.len 0 e)

  answers-is : (o.len ≡ 0 → ⊥) → (m : ℕ) {x : Bool} → eqb m (out_seq s.seq) ≡ x → answers_out s.seq o m ≡ x
  answers-is n m q = rw (ne_eqb o.len 0 n) q

  ack-turned : (m : ℕ) → Turned (sender.ack m ∷ []) [] (ack_turn s.seq o m)
  ack-turned m =
      elim (ℕ_discrete o.len 0) [
        | yes e ↦ rw (ack-ignored o s.seq m (answers-none e m), eq-eqb o.len 0 e) (one ((machine.free-said s.wait).acked m))
        | no n ↦ by n (eqb m (out_seq s.seq)) refl
      ]
    where
      by : (o.len ≡ 0 → ⊥) → (x : Bool) → eqb m (out_seq s.seq) ≡ x → Turned (sender.ack m ∷ []) [] (ack_turn s.seq o m)
      by n true q =
          rw (ack-heard o s.seq m (answers-is n m q), ne_eqb o.len 0 n)
          (one (subst (λ (k : ℕ). link_step_of s.wait (sender.out f o.sends o.waited) (sender.ack k) ≡ record { outgoing = free; seen = sender.heard ∷ [] }) (sym (eqb-true m (out_seq s.seq) q)) said.acked))
      by n false q = rw (ack-ignored o s.seq m (answers-is n m q), ne_eqb o.len 0 n) (one (said.other_ack m (eqb-false m (out_seq s.seq) q)))

  nak-turned : (m : ℕ) → Turned (sender.nak m ∷ []) [] (nak_turn s.seq o m)
  nak-turned m =
      elim (ℕ_discrete o.len 0) [
        | yes e ↦ rw (nak-ignored o s.seq m (answers-none e m), eq-eqb o.len 0 e) (one ((machine.free-said s.wait).naked m))
        | no n ↦ by n (eqb m (out_seq s.seq)) refl
      ]
    where
      again : (o.len ≡ 0 → ⊥) → Turned (sender.nak (out_seq s.seq) ∷ []) [] (again_turn o)
      again n =
          elim (dec_lt o.sends sends_most) [
            | yes l ↦ rw (again-more o l, ne_eqb o.len 0 n) (one (said.naked l))
            | no l ↦ rw (again-down o (omega arith), ne_eqb o.len 0 n) (one (said.naked_last (omega arith)))
          ]

      by : (o.len ≡ 0 → ⊥) → (x : Bool) → eqb m (out_seq s.seq) ≡ x → Turned (sender.nak m ∷ []) [] (nak_turn s.seq o m)
      by n true q =
          rw (nak-again o s.seq m (answers-is n m q))
          (subst (λ (k : ℕ). Turned (sender.nak k ∷ []) [] (again_turn o)) (sym (eqb-true m (out_seq s.seq) q)) (again n))
      by n false q = rw (nak-ignored o s.seq m (answers-is n m q), ne_eqb o.len 0 n) (one (said.other_nak m (eqb-false m (out_seq s.seq) q)))

  second-turned : Turned (sender.second ∷ []) (sender.passes ∷ []) (second_turn s.wait o)
  second-turned =
      elim (ℕ_discrete o.len 0) [
        | yes e ↦ rw (laws.second_none o s.wait e, eq-eqb o.len 0 e) (one (machine.free-said s.wait).passes)
        | no n ↦ elim (dec_lt (o.waited + 1) s.wait) [
          | yes l ↦ rw (laws.second-waits o s.wait n l, ne_eqb o.len 0 n) (one (said.waits l))
          | no l ↦ rw (laws.second-over o s.wait n (omega arith)) (over n (omega arith))
        ]
      ]
    where
      over : (o.len ≡ 0 → ⊥) → s.wait ≤ o.waited + 1 → Turned (sender.second ∷ []) (sender.passes ∷ []) (again_turn o)
      over n l =
          elim (dec_lt o.sends sends_most) [
            | yes k ↦ rw (again-more o k, ne_eqb o.len 0 n) (one (said.over l k))
            | no k ↦ rw (again-down o (omega arith), ne_eqb o.len 0 n) (one (said.over_last l (omega arith)))
          ]

  -- a frame goes out where none is
  offer-goes : (i : List ℕ) → o.len ≡ 0 → s.seq < 256 → 2 ≤ length i → length i ≤ length s.sender.info
      → (let g : Ours = record { seq = s.seq; octets = written (message s.seq s.own i) } in
      Follows s.wait (line_of s) (sender.offer g ∷ []) (sender.sends g ∷ []) (line_in s.own ((s.seq + 1) % 256) (sending s.sender i)))
  offer-goes i e h least most =
      rw (sent-out s.own s.seq s.sender i h least most, eq-eqb o.len 0 e)
      (one ((machine.free-said s.wait).offered (record { seq = s.seq; octets = written (message s.seq s.own i) })))

-- What an octet brings

module _ (s : State) (p : SoundParts s) (h : s.seq < 256) (book : List ℕ) where
  abbrev Brings : Outcome → ResultAndBook → Type 0
  Brings x w =
      Follows s.wait (line_of s) (brings s (ours_in w.result.frames) x) (map sender.sends (ours_in w.result.frames) ++ link_seen w.result.link)
      (line_in s.own w.result.seq w.result.sender)

  naks-bring : (k : Kind) (n seq addr : ℕ)
      → Follows s.wait (line_of s) (map sender.offer (ours_in (naks k s.own n seq addr))) (map sender.sends (ours_in (naks k s.own n seq addr)) ++ []) (line_of s)
  naks-bring Message n seq addr =
      pick-by (λ (fs : List Frame). Follows s.wait (line_of s) (map sender.offer (ours_in fs)) (map sender.sends (ours_in fs) ++ []) (line_of s)) (eqb addr s.own) (λ _. still) (λ _. still)
  naks-bring Ack n seq addr = still
  naks-bring Nak n seq addr = still

  acks-bring : (seq addr : ℕ) (info : List ℕ) → Brings (sound (message seq addr info)) (acked_of s seq addr book)
  acks-bring seq addr info =
      pick-by (λ (fs : List Frame). Follows s.wait (line_of s) (map sender.offer (ours_in fs)) (map sender.sends (ours_in fs) ++ []) (line_of s)) (eqb addr s.own) (λ _. still) (λ _. still)

  -- a reply goes out only where none is
  none_out : (addr : ℕ) (info : List ℕ) → met_with_silence s addr info ≡ false → eqb addr s.own ≡ true → is_answer (code_in info) ≡ false → s.sender.out.len ≡ 0
  none_out addr info q e a = by (eqb s.sender.out.len 0) refl
    where
      by : (x : Bool) → eqb s.sender.out.len 0 ≡ x → s.sender.out.len ≡ 0
      by true z = eqb-true s.sender.out.len 0 z
      by false z = absurd (clash q (silence-met s 0 addr info [] z e a))

  replied-brings : (seq addr : ℕ) (info : List ℕ) → met_with_silence s addr info ≡ false → is_answer (code_in info) ≡ false
      → Brings (sound (message seq addr info)) (handled_of s book seq addr (handling_of s book info))
  unfolding replied_of
  replied-brings seq addr info q a = by (eqb addr s.own) refl
    where
      by : (x : Bool) → eqb addr s.own ≡ x → Brings (sound (message seq addr info)) (handled_of s book seq addr (handling_of s book info))
      by true e =
          let i = reply_info s book (handling_of s book info).handled.reply in
          rw e (offer-goes s i (none_out addr info q e a) h (reply-least s book info p.running.checks) (omega (arith, reply-fits s book info p.running.checks, p.out_info)))
      by false e = rw e still

  message-brings : (seq addr : ℕ) (info : List ℕ) → Brings (sound (message seq addr info)) (message_of s seq addr info book)
  unfolding message_of accepted_of
  message-brings seq addr info =
      let P = Brings (sound (message seq addr info)) in
      pick-by P (for_us s.own addr)
      (λ _. pick-by P (is_repeat s.memory seq info) (λ _. acks-bring seq addr info)
      (λ _. pick-by P (met_with_silence s addr info) (λ _. still)
      (λ q. pick-by P (is_answer (code_in info)) (λ _. acks-bring seq addr info) (λ a. replied-brings seq addr info q a))))
      (λ _. still)

  outcome-brings : (x : Outcome) → Brings x (brought_of x s book)
  outcome-brings nothing = still
  outcome-brings (refused n k seq addr) = naks-bring k n seq addr
  outcome-brings (sound (message seq addr info)) = message-brings seq addr info
  outcome-brings (sound (ack seq addr)) = by (eqb addr s.own) refl
    where
      t : Turn
      t = ack_turn s.seq s.sender.out seq

      by : (x : Bool) → eqb addr s.own ≡ x → Brings (sound (ack seq addr)) (answered_of s addr (event.Ack seq) t book)
      by true e = rw (answered-ours s addr (event.Ack seq) t book e, e) (ack-turned s seq)
      by false e = rw (answered-other s addr (event.Ack seq) t book e, e) still
  outcome-brings (sound (nak seq addr err)) = by (eqb addr s.own) refl
    where
      t : Turn
      t = nak_turn s.seq s.sender.out seq

      by : (x : Bool) → eqb addr s.own ≡ x → Brings (sound (nak seq addr err)) (answered_of s addr (event.Nak seq err) t book)
      by true e = rw (answered-ours s addr (event.Nak seq err) t book e, e) (nak-turned s seq)
      by false e = rw (answered-other s addr (event.Nak seq err) t book e, e) still

-- Each call

module _ (own : ℕ) (hw : own < 65535) (n : ℕ) (s : State) (a : Able own hw n s) where
  abbrev Told : HostCall → Type 0
  Told e = Follows s.wait (line_of s) (events_in s e) (seen_in s e) (line_of (next s e))

  seq-octet : s.seq < 256
  seq-octet = omega (arith, a.seq)

  stands : sound_of s ≡ true
  stands = a.kept.sound

  octet-told : (b : ℕ) (l : b < 256) (book out : List ℕ) (oc : Octets book) → Told (octet b l book out oc)
  octet-told b l book out oc = by (octets-answered s book out b).either
    where
      e : HostCall
      e = octet b l book out oc

      -- the state, and what is told, are those of w
      told-as : {w : Call} → octet_of s book out b ≡ w → {es : List LinkEvent} → events_in s e ≡ es
          → Follows s.wait (line_of s) es (map sender.sends (ours_of s e) ++ link_seen w.answer.told.link) (line_of w.answer.state) → Told e
      told-as q {es} r v =
          rw r (subst (λ (w : Call). Follows s.wait (line_of s) es (map sender.sends (ours_of s e) ++ link_seen w.answer.told.link) (line_of w.answer.state)) (sym q) v)

      none : {m : ℕ} → OctetRefused s book out m → events_in s e ≡ [] → Told e
      none x r =
          told-as (octet-refused s book out b x) r
          (subst (λ (fs : List Frame). Follows s.wait (line_of s) [] (map sender.sends (ours_in fs) ++ []) (line_of s)) (sym (call-heard own hw (octet-none own hw n s a b l book out oc x))) still)

      refused-by : {m : ℕ} → OctetRefused s book out m → Told e
      refused-by (OctetRefused.unsound h) = absurd (clash h stands)
      refused-by (OctetRefused.book h d) = none (OctetRefused.book h d) (rw (ne_eqb (length book) book_len d))
      refused-by (OctetRefused.output h d k) = none (OctetRefused.output h d k) (rw (eq-eqb (length book) book_len d, lt-leb output_len (length out) k))

      by : ((m : ℕ) × OctetRefused s book out m) ⊎ ((sound_of s ≡ true) × (length book ≡ book_len) × (output_len ≤ length out)) → Told e
      by (inl x) = refused-by x.1
      by (inr x) =
          let t = outcome_of (taken_of s.decoder b) in
          let c = sym (call-heard own hw (octet-sends own hw n s a b l book out oc x.0 x.1 x.2)) in
          told-as (octet-brings s book out b x.0 x.1 x.2 refl) (rw (eq-eqb (length book) book_len x.1, le-leb output_len (length out) x.2))
          (subst (λ (fs : List Frame). Follows s.wait (line_of s) (brings s (ours_in fs) t) (map sender.sends (ours_in fs) ++ link_seen (brought_of t s book).result.link)
          (line_in s.own (brought_of t s book).result.seq (brought_of t s book).result.sender)) c (outcome-brings s (sound-parts s x.0) seq-octet book t))

  second-told : (book out : List ℕ) (oc : Octets book) → Told (second book out oc)
  second-told book out oc = by (seconds-answered s book out).either
    where
      e : HostCall
      e = second book out oc

      -- the same of a second, which is accepted or not
      told-as : {w : Shown} → second_of s book out ≡ w → {fs : List Frame} → heard_from (writes s e) ≡ fs
          → Follows s.wait (line_of s) (pick (eqb w.told.refusal 0) (sender.second ∷ []) [])
          (pick (eqb w.told.refusal 0) (sender.passes ∷ []) [] ++ (map sender.sends (ours_in fs) ++ link_seen w.told.link)) (line_of w.state) → Told e
      told-as q r v =
          subst (λ (w : Shown). Follows s.wait (line_of s) (pick (eqb w.told.refusal 0) (sender.second ∷ []) [])
          (pick (eqb w.told.refusal 0) (sender.passes ∷ []) [] ++ (map sender.sends (ours_of s e) ++ link_seen w.told.link)) (line_of w.state)) (sym q)
          (rw r v)

      refused-by : (m : ℕ) → SecondRefused s book out m → (m ≡ 0 → ⊥) → Told e
      refused-by m x z =
          told-as ((seconds-answered s book out).refused m x) (call-heard own hw (second_none own hw n s a book out oc m x)) (rw (ne_eqb m 0 z) still)

      by : ((m : ℕ) × SecondRefused s book out m) ⊎ ((sound_of s ≡ true) × (length book ≡ book_len) × (output_len ≤ length out)) → Told e
      by (inl (m, SecondRefused.unsound h)) = refused-by m (SecondRefused.unsound h) (λ z. omega arith)
      by (inl (m, SecondRefused.book h d)) = refused-by m (SecondRefused.book h d) (λ z. omega arith)
      by (inl (m, SecondRefused.output h d k)) = refused-by m (SecondRefused.output h d k) (λ z. omega arith)
      by (inr x) =
          told-as (second-done s book out x.0 x.1 x.2) (call-heard own hw (second-sends own hw n s a book out oc x.0 x.1 x.2)) (second-turned s)

  offer-told : (info out : List ℕ) (oc : Octets info) → Told (offer info out oc)
  offer-told info out oc = by (offers-answered s info out).either
    where
      e : HostCall
      e = offer info out oc

      told-as : {w : Offer} → offer_of s info out ≡ w → {fs : List Frame} → heard_from (writes s e) ≡ fs
          → Follows s.wait (line_of s) (map sender.offer (ours_in fs)) (map sender.sends (ours_in fs) ++ link_seen w.answer.told.link) (line_of w.answer.state) → Told e
      told-as q r v =
          subst (λ (w : Offer). Follows s.wait (line_of s) (map sender.offer (ours_of s e)) (map sender.sends (ours_of s e) ++ link_seen w.answer.told.link) (line_of w.answer.state)) (sym q)
          (rw r v)

      by : ((m : ℕ) × OfferRefused s info out m) ⊎ OfferDone s info out → Told e
      by (inl x) = told-as (offer-refused s info out x.1) (call-heard own hw (offer-none own hw n s a info out oc x.1)) still
      by (inr d) =
          told-as (offer-is-done s info out d) (call-heard own hw (offer-sends own hw n s a info out oc d))
          (offer-goes s info d.free seq-octet d.least (omega (arith, d.most, (sound-parts s d.sound).out_info)))

  call-told : (e : HostCall) → Told e
  unfolding outcomes
  call-told (octet b l book out oc) = octet-told b l book out oc
  call-told line_idle =
      subst (λ (w : Answer). Follows s.wait (line_of s) [] (link_seen w.told.link) (line_of w.state)) (sym (idle-done s stands)) still
  call-told (second book out oc) = second-told book out oc
  call-told (offer info out oc) = offer-told info out oc

-- Any run

-- T stays
wait-kept : (s : State) (e : HostCall) → (next s e).wait ≡ s.wait
wait-kept s (octet b l book out o) = by-octet s book out b (λ _ t. t.wait ≡ s.wait) refl (λ _ _ _. (done-left s (takes s b) book out).wait)
wait-kept s line_idle = ap (λ (t : State). t.wait) (idle-left s)
wait-kept s (second book out o) = ap (λ (t : State). t.wait) (second-left s book out)
wait-kept s (offer info out o) = ap (λ (t : State). t.wait) (offer-left s info out)

module _ (own : ℕ) (hw : own < 65535) where
  run-follows : (n : ℕ) (s : State) (es : List HostCall) → Able own hw n s → seen_on s es ≡ link_seen_of s.wait (line_of s) (events_on s es)
  run-follows n s [] a = refl
  run-follows n s (e ∷ es) a =
      let c = call-told own hw n s a e in
      let r = run-follows (call-sends own hw n s a e).1.sends.more (next s e) es (able-next own hw n s a e) in
      let v = sym c.seen in
      (λ i. v i ++ r i)
      ∙ ap (λ (t : ℕ). link_seen_of s.wait (line_of s) (events_in s e) ++ link_seen_of t (line_of (next s e)) (events_on (next s e) es)) (wait-kept s e)
      ∙ ap (λ (l : Outgoing). link_seen_of s.wait (line_of s) (events_in s e) ++ link_seen_of s.wait l (events_on (next s e) es)) (sym c.after)
      ∙ sym (machine.seen-append s.wait (line_of s) (events_in s e) (events_on (next s e) es))

pub sends-as-said : SendsAsSaid
unfolding started_of fresh_of
sends-as-said a g hw each es = run-follows a.own hw 0 (start_of a) es (able-start a g hw each)

pub one_out : OneOut
one_out a g hw each es =
    subst (λ (hs : List Happening). Goes a.wait none hs) (sym (sends-as-said a g hw each es)) (machine.ends-heard-or-down a.wait g.least (events_on (start_of a) es))
