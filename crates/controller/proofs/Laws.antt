-- What follows from the definitions of specs/: one law for each way through.
use Prim.Native.Nat.{ℕ, ◌+◌, ◌≤◌, ◌<◌}
use mathlib.Core.Path.{◌≡◌, refl, ap, ◌∙◌}
use mathlib.Core.Bool.{Bool, true, false, not}
use mathlib.Core.List.{List}
use native.Mathlib.Decide.{dec_lt, ℕ_discrete}
use native.Mathlib.Omega.{arith}
use borrow.Author.Tests.{eq-eqb, ne_eqb, lt-ltb, le-ltb, le-leb, lt-leb}
use lib.Dec.{eqb}
use lib.ListN.{length}
use Rattle.octets.specs.Choice.{both}
use Rattle.octets.specs.Refusal as refusal
use Rattle.octets.proofs.Laws.{pick-by}
use Rattle.frame.specs.Frame.{Frame, info_fits, written}
use Rattle.frame.specs.Decoder.{Taken, taken_of, idled_of}
use Rattle.frame.specs.Dropped.{Counted, counted_of, idle_counted}
use Rattle.frame.specs.Run.{Outcome, outcome_of}
use Rattle.message.specs.Reader.{code_in}
use Rattle.record.specs.Record.{book_len, cycle_of}
use Rattle.controller.specs.declared.Running.{Running}
use Rattle.controller.specs.State.{State, output_len, sound_of, ready_in, plan_record, started_at}
use Rattle.controller.specs.Handling.{handling_of}
use Rattle.controller.specs.Memory.{is_repeat, remembering}
use Rattle.controller.specs.declared.Event.{Event}
use Rattle.controller.specs.declared.Link.TheVariants as link
use Rattle.controller.specs.declared.Out.{Out}
use Rattle.controller.specs.declared.Turn.{Turn}
use Rattle.controller.specs.Sender.{none_out, sends_most, stays, again_turn, answers_out, ack_turn, nak_turn, second_turn}
use Rattle.controller.specs.Replies.{refused_call, quiet, for_us, is_answer, ResultAndBook, leaves, passed_over, met_with_silence, handled_of, acked_of, accepted_of, message_of, turned, answered_of, brought_of, memory_of, memory_then, made_of, done_of, octet_of, idled_as, line_idle_of}
use Rattle.controller.specs.Offers.{refused_offer, offered_frame, offer_done, offer_of}
use Rattle.frame.proofs.Counting.{counted-taken, idle-taken}
use Rattle.controller.specs.Seconds.{picked_of, moved_on, no_second, second_shown, second_of}

pub both_false : (t : Bool) → both t false ≡ false
both_false true = refl
both_false false = refl

-- The octet call

-- what an octet does to the decoder, by the decoder's own definition, and to the number of octets dropped
abbrev pub takes : State → ℕ → Counted
takes s b = let c = counted_of s.decoder s.dropped b in record { taken = taken_of s.decoder b; told = c.told; kept = c.kept }

pub counted-takes : (s : State) (b : ℕ) → counted_of s.decoder s.dropped b ≡ takes s b
counted-takes s b =
    let c = counted_of s.decoder s.dropped b in
    ap (λ (t : Taken). record { taken = t; told = c.told; kept = c.kept }) (counted-taken s.decoder s.dropped b)

-- and a line-idle call
abbrev pub idles : State → Counted
idles s = let c = idle_counted s.decoder s.dropped in record { taken = idled_of s.decoder; told = c.told; kept = c.kept }

pub counted-idles : (s : State) → idle_counted s.decoder s.dropped ≡ idles s
counted-idles s =
    let c = idle_counted s.decoder s.dropped in
    ap (λ (t : Taken). record { taken = t; told = c.told; kept = c.kept }) (idle-taken s.decoder s.dropped)

module _ (s : State) (book out : List ℕ) (b : ℕ) where
  pub octet-7 : sound_of s ≡ false → octet_of s book out b ≡ refused_call s refusal.state_unsound book out
  unfolding octet_of
  octet-7 h = rw h

  pub octet-8 : sound_of s ≡ true → (length book ≡ book_len → ⊥) → octet_of s book out b ≡ refused_call s refusal.book_wrong book out
  unfolding octet_of
  octet-8 h n = rw (h, ne_eqb (length book) book_len n)

  pub octet-9 : sound_of s ≡ true → length book ≡ book_len → length out < output_len → octet_of s book out b ≡ refused_call s refusal.output_short book out
  unfolding octet_of
  octet-9 h n l = rw (h, eq-eqb (length book) book_len n, lt-leb output_len (length out) l)

  pub octet-counted : sound_of s ≡ true → length book ≡ book_len → output_len ≤ length out → octet_of s book out b ≡ done_of s (counted_of s.decoder s.dropped b) book out
  unfolding octet_of
  octet-counted h n l = rw (h, eq-eqb (length book) book_len n, le-leb output_len (length out) l)

  pub octet-done : sound_of s ≡ true → length book ≡ book_len → output_len ≤ length out → octet_of s book out b ≡ done_of s (takes s b) book out
  octet-done h n l = octet-counted h n l ∙ rw (counted-takes s b)

  -- what the octet ended decides what the call makes of the state
  pub octet-brings : sound_of s ≡ true → length book ≡ book_len → output_len ≤ length out → {o : Outcome} → outcome_of (taken_of s.decoder b) ≡ o
      → octet_of s book out b ≡ made_of s (takes s b) (memory_then o s) (brought_of o s book) out
  unfolding done_of
  octet-brings h n l e = octet-done h n l ∙ rw e

-- A message frame

module _ (s : State) (seq addr : ℕ) (info book : List ℕ) where
  pub message-other : for_us s.own addr ≡ false → message_of s seq addr info book ≡ passed_over s book
  unfolding message_of
  message-other f = rw f

  pub memory-other : for_us s.own addr ≡ false → memory_of s seq addr info ≡ s.memory
  unfolding memory_of
  memory-other f = rw f

  -- 02, E6: a message for us that is no answer is met with silence while one is out, and no other
  pub silence-none : eqb s.sender.out.len 0 ≡ true → met_with_silence s addr info ≡ false
  unfolding met_with_silence
  silence-none n = rw n

  pub silence-other : eqb addr s.own ≡ false → met_with_silence s addr info ≡ false
  unfolding met_with_silence
  silence-other n = rw n (both_false (not (eqb s.sender.out.len 0)))

  pub silence-answer : is_answer (code_in info) ≡ true → met_with_silence s addr info ≡ false
  unfolding met_with_silence
  silence-answer a = rw (a, both_false (eqb addr s.own), both_false (not (eqb s.sender.out.len 0)))

  pub silence-met : eqb s.sender.out.len 0 ≡ false → eqb addr s.own ≡ true → is_answer (code_in info) ≡ false → met_with_silence s addr info ≡ true
  unfolding met_with_silence
  silence-met n o a = rw (n, o, a)

  pub accepted-answer : is_answer (code_in info) ≡ true → accepted_of s seq addr info book ≡ acked_of s seq addr book
  unfolding accepted_of
  accepted-answer a = rw a

  pub accepted-handled : is_answer (code_in info) ≡ false → accepted_of s seq addr info book ≡ handled_of s book seq addr (handling_of s book info)
  unfolding accepted_of
  accepted-handled a = rw a

  module _ (f : for_us s.own addr ≡ true) where
    pub message-repeat : is_repeat s.memory seq info ≡ true → message_of s seq addr info book ≡ acked_of s seq addr book
    unfolding message_of
    message-repeat r = rw (f, r)

    pub memory-repeat : is_repeat s.memory seq info ≡ true → memory_of s seq addr info ≡ s.memory
    unfolding memory_of
    memory-repeat r = rw (f, r)

    pub message-silent : is_repeat s.memory seq info ≡ false → met_with_silence s addr info ≡ true → message_of s seq addr info book ≡ passed_over s book
    unfolding message_of
    message-silent r q = rw (f, r, q)

    pub memory-silent : is_repeat s.memory seq info ≡ false → met_with_silence s addr info ≡ true → memory_of s seq addr info ≡ s.memory
    unfolding memory_of
    memory-silent r q = rw (f, r, q)

    pub message-new : is_repeat s.memory seq info ≡ false → met_with_silence s addr info ≡ false → message_of s seq addr info book ≡ accepted_of s seq addr info book
    unfolding message_of
    message-new r q = rw (f, r, q)

    pub memory-new : is_repeat s.memory seq info ≡ false → met_with_silence s addr info ≡ false → memory_of s seq addr info ≡ remembering s.memory seq info
    unfolding memory_of
    memory-new r q = rw (f, r, q)

    -- 0F 80 and 0F 81 get the ACK, sent again or not, and a frame out or not
    pub message-answer : is_answer (code_in info) ≡ true → message_of s seq addr info book ≡ acked_of s seq addr book
    unfolding message_of accepted_of
    message-answer a = rw (f, silence-answer a, a) (pick-by (λ (w : ResultAndBook). w ≡ acked_of s seq addr book) (is_repeat s.memory seq info) (λ _. refl) (λ _. refl))

-- An ACK or a NAK

module _ (s : State) (addr : ℕ) (e : Event) (t : Turn) (book : List ℕ) where
  pub answered-ours : eqb addr s.own ≡ true → answered_of s addr e t book ≡ leaves book (turned s e t)
  unfolding answered_of
  answered-ours h = rw h

  pub answered-other : eqb addr s.own ≡ false → answered_of s addr e t book ≡ passed_over s book
  unfolding answered_of
  answered-other h = rw h

-- The frame out

module _ (o : Out) where
  pub again-more : o.sends < sends_most → again_turn o ≡ record { out = record { sends = o.sends + 1; waited = 0; len = o.len }; link = link.Again }
  unfolding again_turn
  again-more h = rw (lt-ltb o.sends sends_most h)

  pub again-down : sends_most ≤ o.sends → again_turn o ≡ record { out = none_out; link = link.Down }
  unfolding again_turn
  again-down h = rw (le-ltb o.sends sends_most h)

  module _ (ours n : ℕ) where
    pub ack-heard : answers_out ours o n ≡ true → ack_turn ours o n ≡ record { out = none_out; link = link.Heard }
    unfolding ack_turn
    ack-heard h = rw h

    pub ack-ignored : answers_out ours o n ≡ false → ack_turn ours o n ≡ stays o
    unfolding ack_turn
    ack-ignored h = rw h

    pub nak-again : answers_out ours o n ≡ true → nak_turn ours o n ≡ again_turn o
    unfolding nak_turn
    nak-again h = rw h

    pub nak-ignored : answers_out ours o n ≡ false → nak_turn ours o n ≡ stays o
    unfolding nak_turn
    nak-ignored h = rw h

  -- by the ways of a turn
  module _ (P : Turn → Type 0) where
    pub again_by : (o.sends < sends_most → P (record { out = record { sends = o.sends + 1; waited = 0; len = o.len }; link = link.Again }))
        → (sends_most ≤ o.sends → P (record { out = none_out; link = link.Down })) → P (again_turn o)
    again_by more down = elim (dec_lt o.sends sends_most) [ yes l ↦ rw (again-more l) (more l) | no l ↦ rw (again-down (omega arith)) (down (omega arith)) ]

    pub ack-by : (ours n : ℕ) → (answers_out ours o n ≡ true → P (record { out = none_out; link = link.Heard })) → (answers_out ours o n ≡ false → P (stays o))
        → P (ack_turn ours o n)
    unfolding ack_turn
    ack-by ours n heard ignored = pick-by P (answers_out ours o n) heard ignored

    pub nak-by : (ours n : ℕ) → (answers_out ours o n ≡ true → P (again_turn o)) → (answers_out ours o n ≡ false → P (stays o)) → P (nak_turn ours o n)
    unfolding nak_turn
    nak-by ours n again ignored = pick-by P (answers_out ours o n) again ignored

  module _ (t : ℕ) where
    pub second_none : o.len ≡ 0 → second_turn t o ≡ stays o
    unfolding second_turn
    second_none h = rw (eq-eqb o.len 0 h)

    pub second-waits : (o.len ≡ 0 → ⊥) → o.waited + 1 < t → second_turn t o ≡ stays (record { sends = o.sends; waited = o.waited + 1; len = o.len })
    unfolding second_turn
    second-waits h l = rw (ne_eqb o.len 0 h, lt-ltb (o.waited + 1) t l)

    pub second-over : (o.len ≡ 0 → ⊥) → t ≤ o.waited + 1 → second_turn t o ≡ again_turn o
    unfolding second_turn
    second-over h l = rw (ne_eqb o.len 0 h, le-ltb (o.waited + 1) t l)

    pub second-by : (P : Turn → Type 0) → (o.len ≡ 0 → P (stays o))
        → ((o.len ≡ 0 → ⊥) → o.waited + 1 < t → P (stays (record { sends = o.sends; waited = o.waited + 1; len = o.len })))
        → ((o.len ≡ 0 → ⊥) → t ≤ o.waited + 1 → P (again_turn o)) → P (second_turn t o)
    second-by P none waits over =
        elim (ℕ_discrete o.len 0) [
          | yes e ↦ rw (second_none e) (none e)
          | no n ↦ elim (dec_lt (o.waited + 1) t) [ yes l ↦ rw (second-waits n l) (waits n l) | no l ↦ rw (second-over n (omega arith)) (over n (omega arith)) ]
        ]

-- The line-idle call

module _ (s : State) where
  pub idle-7 : sound_of s ≡ false → line_idle_of s ≡ quiet s refusal.state_unsound 0
  unfolding line_idle_of
  idle-7 h = rw h

  pub idle-done : sound_of s ≡ true → line_idle_of s ≡ idled_as s (idles s)
  unfolding line_idle_of
  idle-done h = rw (h, counted-idles s)

-- The second call

module _ (u : Running) (requested : ℕ) (book : List ℕ) where
  pub picked-ready : ready_in u.which book requested ≡ true → picked_of u requested book ≡ started_at u.which requested (plan_record u.which book requested)
  unfolding picked_of
  picked-ready h = rw h

  pub picked-stays : ready_in u.which book requested ≡ false → picked_of u requested book ≡ started_at u.which u.plan u.copy
  unfolding picked_of
  picked-stays h = rw h

  pub moved-within : u.position + 1 < cycle_of u.copy → moved_on u requested book ≡ record { which = u.which; plan = u.plan; position = u.position + 1; copy = u.copy }
  unfolding moved_on
  moved-within h = rw (lt-ltb (u.position + 1) (cycle_of u.copy) h)

  pub moved_ends : cycle_of u.copy ≤ u.position + 1 → moved_on u requested book ≡ picked_of u requested book
  unfolding moved_on
  moved_ends h = rw (le-ltb (u.position + 1) (cycle_of u.copy) h)

module _ (s : State) (book out : List ℕ) where
  pub second-7 : sound_of s ≡ false → second_of s book out ≡ no_second s refusal.state_unsound out
  unfolding second_of
  second-7 h = rw h

  pub second-8 : sound_of s ≡ true → (length book ≡ book_len → ⊥) → second_of s book out ≡ no_second s refusal.book_wrong out
  unfolding second_of
  second-8 h n = rw (h, ne_eqb (length book) book_len n)

  pub second-9 : sound_of s ≡ true → length book ≡ book_len → length out < output_len → second_of s book out ≡ no_second s refusal.output_short out
  unfolding second_of
  second-9 h n l = rw (h, eq-eqb (length book) book_len n, lt-leb output_len (length out) l)

  pub second-done : sound_of s ≡ true → length book ≡ book_len → output_len ≤ length out → second_of s book out ≡ second_shown s book out
  unfolding second_of
  second-done h n l = rw (h, eq-eqb (length book) book_len n, le-leb output_len (length out) l)

-- The offer

module _ (s : State) (info out : List ℕ) where
  abbrev f : Frame
  f = offered_frame s info

  pub offer-7 : sound_of s ≡ false → offer_of s info out ≡ refused_offer s refusal.state_unsound out
  unfolding offer_of
  offer-7 h = rw h

  pub offer-4 : sound_of s ≡ true → info_fits f ≡ false → offer_of s info out ≡ refused_offer s refusal.info_wrong out
  unfolding offer_of
  offer-4 h i = rw (h, i)

  module _ (h : sound_of s ≡ true) (i : info_fits f ≡ true) where
    pub offer-9 : length out < length (written f) → offer_of s info out ≡ refused_offer s refusal.output_short out
    unfolding offer_of
    offer-9 l = rw (h, i, lt-leb (length (written f)) (length out) l)

    module _ (l : length (written f) ≤ length out) where
      pub offer-15 : (s.sender.out.len ≡ 0 → ⊥) → offer_of s info out ≡ refused_offer s refusal.sender_busy out
      unfolding offer_of
      offer-15 n = rw (h, i, le-leb (length (written f)) (length out) l, ne_eqb s.sender.out.len 0 n)

      pub offer-done : s.sender.out.len ≡ 0 → offer_of s info out ≡ offer_done s info out
      unfolding offer_of
      offer-done n = rw (h, i, le-leb (length (written f)) (length out) l, eq-eqb s.sender.out.len 0 n)
