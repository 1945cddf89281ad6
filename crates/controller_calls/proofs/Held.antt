-- The code's struct and the octets lent are the state: what is said of the struct is so of the state.
use Rattle.std.proofs.Common.{◌≡◌, ℕ, ◌+◌, ◌<◌, ◌≤◌, Bool, true, false, not, eqb, leb, List, length, take, drop, set, sym, refl, ap, ◌∙◌, subst, arith, length-drop, drop-set-lt, le-leb}
use native.Mathlib.Decide.{dec_lt}
use borrow.Author.Tests.{lt-leb}
use lib.Seq.{take-set-lt}
use Rattle.octets.specs.declared.refusal.Refusal.{Refusal}
use Rattle.octets.specs.Refusals.{refusal_number}
use Rattle.octets.specs.Choice.{both}
use Rattle.frame.specs.Frame.{info_most}
use Rattle.frame.specs.declared.decoder.Head.{Head}
use Rattle.frame.specs.declared.decoder.Received.{Received}
use Rattle.frame.specs.Decoder.{Decoder, Taken, idle_drops, info_goes_on, possible_of, taken_of, joined_decoder}
use Rattle.frame.specs.Dropped.{Counted, counted_of, octet_lent, idle_lent, received_with, ReceivedLeaves}
use Rattle.frame.proofs.Laws.{room-info}
use Rattle.frame.proofs.Counting.{counted-dropped, counted-taken}
use Rattle.frame.proofs.Lent.{take_short, enough, short, octets-lent, info-goes-on, counted-goes}
use Rattle.record.specs.Record.{plans_most}
use Rattle.checks.proofs.Stands.{plan-fits, ready-plan}
use Rattle.controller.specs.declared.Held.{Held}
use Rattle.controller.specs.declared.HeldAnswer.{HeldAnswer}
use Rattle.controller.specs.Memory.{last_fits}
use Rattle.controller.specs.Sender.{wait_fits, out_start, out_fits}
use Rattle.controller.specs.State.{joined, kept_len, all, running_sound, sound_of}
use Rattle.controller.specs.Replies.{CanFind, CallLeaves, answer_with, refused_call, done_of, idled_as, line_idle_of}
use Rattle.controller.proofs.Judging.{sound-parts}
use Rattle.controller.proofs.Laws.{both_false, counted-idles, idle-done}
use Rattle.controller.proofs.Replying.{can-find}
use Rattle.controller_calls.specs.Held.{held_sound, held_quiet, held_counted, with_receiver, one_dropped, one_kept, held_received}

-- It is the state's

-- as many octets are lent as the state wants
module _ (h : Head) (kept : List ℕ) where
  abbrev all_long : Bool → Bool
  all_long t =
      both (eqb (length (take info_most kept)) info_most)
      (both (eqb (length (take info_most (drop info_most kept))) info_most)
      (both (eqb (length (take info_most (drop out_start kept))) info_most) t))

  enough-at : (n : ℕ) → n + info_most ≤ length kept → eqb (length (take info_most (drop n kept))) info_most ≡ true
  enough-at n l = enough h (drop n kept) (omega (arith, length-drop n kept))

  short-at : (n : ℕ) → length kept < n + info_most → eqb (length (take info_most (drop n kept))) info_most ≡ false
  short-at n l = short h (drop n kept) (omega (arith, length-drop n kept))

  long-all : kept_len ≤ length kept → (t : Bool) → all_long t ≡ t
  long-all l t = rw (enough h kept (omega arith), enough-at info_most (omega arith), enough-at out_start (omega arith))

  short-all : length kept < kept_len → (t : Bool) → all_long t ≡ false
  short-all l t =
      rw (short-at out_start (omega arith), both_false (eqb (length (take info_most (drop info_most kept))) info_most)) (both_false (eqb (length (take info_most kept)) info_most))

  enough-lent : (t : Bool) → both (leb kept_len (length kept)) t ≡ all_long t
  enough-lent t =
      elim (dec_lt (length kept) kept_len) [
        | yes l ↦ rw (lt-leb kept_len (length kept) l) (sym (short-all l t))
        | no l ↦ rw (le-leb kept_len (length kept) (omega arith)) (sym (long-all (omega arith) t))
      ]

module _ (s : Held) (kept : List ℕ) where
  abbrev rest : Bool
  rest = both (last_fits s.last) (both (wait_fits s.wait) (both (out_fits s.wait s.out) (both (possible_of s.receiver.head) (running_sound s.running))))

  pub sound-joined : held_sound s (length kept) ≡ sound_of (joined s kept)
  unfolding held_sound sound_of
  sound-joined = ap (λ (t : Bool). both (not (eqb s.own all)) (both (leb s.requested plans_most) t)) (enough-lent s.receiver.head kept rest)

  pub lent-enough : sound_of (joined s kept) ≡ true → kept_len ≤ length kept
  lent-enough h = omega (arith, (sound-parts (joined s kept) h).out_info, take_short info_most (drop out_start kept), length-drop out_start kept)

-- What the code does, it did

module _ (s : Held) (lent book out : List ℕ) where
  pub leaves_quiet : (why : Refusal) {r : HeldAnswer} → r ≡ held_quiet s why → CallLeaves (refused_call (joined s lent) (refusal_number why) book out) lent r lent book out
  leaves_quiet why e = rw e (record { answer = refl; beyond = refl; book = refl; out = refl })

  -- an octet that is dropped is counted, and else leaves everything as it is
  pub leaves-dropped : (b : ℕ) → idle_drops s.receiver.head.place b ≡ true → {r : HeldAnswer} → r ≡ held_received s (one_dropped s.receiver)
      → CallLeaves (done_of (joined s lent) (counted_of (joined_decoder s.receiver.head lent) s.receiver.dropped b) book out) lent r lent book out
  unfolding done_of
  leaves-dropped b h e = rw (e, counted-dropped (joined_decoder s.receiver.head lent) s.receiver.dropped b h) (record { answer = refl; beyond = refl; book = refl; out = refl })

module _ (s : Held) (lent : List ℕ) where
  abbrev h₀ : Head
  h₀ = s.receiver.head

  abbrev n : ℕ
  n = s.receiver.dropped

  abbrev d : Decoder
  d = joined_decoder s.receiver.head lent

  pub taken-lent : sound_of (joined s lent) ≡ true → (b : ℕ) → octet_lent d n b ≡ counted_of d n b
  taken-lent h b = (octets-lent.0 h₀ lent).octet_enough n b (omega (arith, lent-enough s lent h))

  -- the decoder's call leaves as many octets as the state wants, and finds what it can find
  module _ (b : ℕ) {t : Received} {k : List ℕ} (h : sound_of (joined s lent) ≡ true) (l : ReceivedLeaves (octet_lent d n b) lent t k) where
    taken-so : (received_with t k).taken ≡ taken_of d b
    taken-so = ap (λ (c : Counted). c.taken) (l.answer ∙ taken-lent h b) ∙ counted-taken d n b

    pub left-enough : kept_len ≤ length k
    left-enough = omega (arith, ap length l.beyond, length-drop info_most k, length-drop info_most lent, lent-enough s lent h)

    pub found-fits : CanFind t.found
    found-fits = subst (λ (w : Taken). CanFind w.found) (sym taken-so) (can-find d b (sound-parts (joined s lent) h).decoder)

  -- an octet of INFO behind which others come has its place in the octets lent, and is kept there
  module _ (b : ℕ) (h : sound_of (joined s lent) ≡ true) (g : info_goes_on h₀.place h₀.len h₀.filled b ≡ true) where
    pub kept-room : h₀.filled < info_most
    kept-room = room-info h₀ ((info-goes-on d b).said_only g).0 (sound-parts (joined s lent) h).decoder

    pub leaves_kept : b < 256 → n < 65536 → (book out : List ℕ) {r : HeldAnswer} {k : List ℕ} → r ≡ held_received s (one_kept s.receiver) → k ≡ set lent h₀.filled b
        → CallLeaves (done_of (joined s lent) (counted_of d n b) book out) lent r k book out
    unfolding done_of
    leaves_kept o l book out e f =
        let p = sound-parts (joined s lent) h in
        rw (counted-goes d n b o l p.info p.decoder g, (info-goes-on d b).kept p.decoder g, e, f)
        (record {
          answer = rw (take-set-lt info_most lent h₀.filled b kept-room, drop-set-lt info_most lent h₀.filled b kept-room, drop-set-lt out_start lent h₀.filled b (omega (arith, kept-room)));
          beyond = drop-set-lt kept_len lent h₀.filled b (omega (arith, kept-room));
          book = refl;
          out = refl;
        })

  pub idle-answered : (t : Received) → sound_of (joined s lent) ≡ true → received_with t lent ≡ idle_lent d n
      → answer_with (held_counted (with_receiver s t.receiver) t.dropped) lent ≡ line_idle_of (joined s lent)
  idle-answered t h e =
      let f = e ∙ (octets-lent.0 h₀ lent).idle_enough n (omega (arith, lent-enough s lent h)) ∙ counted-idles (joined s lent) in
      ap (idled_as (joined s lent)) f ∙ sym (idle-done (joined s lent) h)

-- The next second

-- a sound position is within a cycle of at most 900 seconds, so the next one is a number of two octets
pub sound-position : (s : Held) (kept : List ℕ) → sound_of (joined s kept) ≡ true → s.running.position < 65535
sound-position s kept h =
    let p = (sound-parts (joined s kept) h).running in
    omega (arith, p.position, (plan-fits s.running.copy (ready-plan s.running.copy p.checks)).most)
