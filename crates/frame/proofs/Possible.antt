-- A possible decoder stays possible, place by place; an impossible one is refused.
use Prim.Native.Nat.{ℕ, ◌+◌, ◌-◌, ◌<◌}
use mathlib.Core.Path.{◌≡◌, refl}
use mathlib.Core.Bool.{true}
use mathlib.Core.List.{List}
use native.Mathlib.Omega.{arith}
use borrow.Author.Tests.{eq-eqb, lt-ltb, ltb-true, ltb-false}
use lib.Dec.{eqb, ltb}
use Rattle.octets.specs.declared.refusal.Refusal.TheVariants as why
use Rattle.octets.specs.Word.{low_of, word_of}
use Rattle.octets.proofs.Laws.{pick-by, both_left, both_right}
use Rattle.frame.specs.declared.Kind.{Kind}
use Rattle.frame.specs.declared.Kind.TheVariants.{Message, Ack, Nak}
use Rattle.frame.specs.declared.decoder.Place.{Place}
use Rattle.frame.specs.declared.decoder.Place.TheVariants.{Idle, LoneAa, Seq, AddrHigh, AddrLow, LenHigh, LenLow, Info, InfoAa, CloseAa, CloseCc, Err, Cks}
use Rattle.frame.specs.declared.decoder.Head.{Head}
use Rattle.frame.specs.declared.decoder.Found.{Found}
use Rattle.frame.specs.declared.decoder.Found.TheVariants as found
use Rattle.frame.specs.declared.decoder.Stepped.{Stepped}
use Rattle.frame.specs.Frame.{len_fits, message_len}
use Rattle.frame.specs.Decoder.{Decoder, head_of, possible_at, possible_of, fresh_head, info_due, info_whole, err_due, cks_due, after_len, after_aa, kept, step_at, step_of, cks_in}
use Rattle.frame.specs.Promises.{CallsAnswered, FreshAtRest, PossibleKept}
use Rattle.frame.proofs.Laws.{message-len, taken-7, taken-done, idled-7, idled-done}

-- a decoder with all its fields given
abbrev pub at : Place → Kind → ℕ → ℕ → ℕ → ℕ → ℕ → List ℕ → Decoder
at p k s e a n g l = record { head = head_of p k s e a n g; info = l }

abbrev Possible : Stepped → Type 0
Possible t = possible_of t.head ≡ true

-- after a lone AA any octet leaves a possible decoder
after-aa : (h : Head) (b : ℕ) (f : Found) → Possible (after_aa h b f)
unfolding possible_of
after-aa h b f =
    pick-by Possible (eqb b 0xAA) (λ _. refl)
    (λ _. pick-by Possible (eqb b 0xBB) (λ _. refl)
    (λ _. pick-by Possible (eqb b 0xDD) (λ _. refl)
    (λ _. pick-by Possible (eqb b 0xEE) (λ _. refl) (λ _. refl))))

after-len : (k : Kind) (a n : ℕ) → len_fits k n ≡ true → possible_at (after_len k) k a n 0 ≡ true
after-len Message a n h = rw (h, lt-ltb 0 (n - message_len) (omega (arith, message-len n h)))
after-len Ack a n h = h
after-len Nak a n h = h

module _ (s e a n g : ℕ) (l : List ℕ) (b : ℕ) (octet : b < 256) where
  after_kept : (p : Place) (k : Kind) → info_due k n g ≡ true → Possible (kept (head_of p k s e a n g))
  unfolding possible_of
  after_kept p Message h =
      let f : len_fits Message n ≡ true = both_left (len_fits Message n) (ltb g (n - message_len)) h in
      let q : g < n - message_len = ltb-true g (n - message_len) (both_right (len_fits Message n) (ltb g (n - message_len)) h) in
      pick-by (λ (q : Place). possible_at q Message a n (g + 1) ≡ true) (ltb (message_len + (g + 1)) n)
      (λ t. rw (f, lt-ltb (g + 1) (n - message_len) (omega (arith, ltb-true (message_len + (g + 1)) n t))))
      (λ t. rw (f, eq-eqb (g + 1) (n - message_len) (omega (arith, ltb-false (message_len + (g + 1)) n t))))
  after_kept p Ack h = cc
  after_kept p Nak h = cc

  err-then-cks : (k : Kind) → err_due k n ≡ true → cks_due k n g ≡ true
  err-then-cks Message h = cc
  err-then-cks Ack h = cc
  err-then-cks Nak h = h

  close-then-cks : (k : Kind) → info_whole k n g ≡ true → cks_due k n g ≡ true
  close-then-cks Message h = h
  close-then-cks Ack h = cc
  close-then-cks Nak h = cc

  step-at-place : (p : Place) (k : Kind) → possible_of (head_of p k s e a n g) ≡ true → Possible (step_at p (head_of p k s e a n g) l b)
  unfolding possible_of
  step-at-place Idle k h = pick-by Possible (eqb b 0xAA) (λ _. refl) (λ _. refl)
  step-at-place LoneAa k h = after-aa (head_of LoneAa k s e a n g) b found.Nothing
  step-at-place Seq k h = refl
  step-at-place AddrHigh k h = lt-ltb b 256 octet
  step-at-place AddrLow k h = refl
  step-at-place LenHigh k h = lt-ltb b 256 octet
  step-at-place LenLow k h =
      pick-by Possible (len_fits k (word_of (low_of n) b)) (λ t. after-len k a (word_of (low_of n) b) t) (λ _. refl)
  step-at-place Info k h = pick-by Possible (eqb b 0xAA) (λ _. h) (λ _. after_kept Info k h)
  step-at-place InfoAa k h = pick-by Possible (eqb b 0xAA) (λ _. after_kept InfoAa k h) (λ _. after-aa (head_of InfoAa k s e a n g) b (found.Refused why.ClosingWrong k s a))
  step-at-place CloseAa k h = pick-by Possible (eqb b 0xAA) (λ _. h) (λ _. refl)
  step-at-place CloseCc k h = pick-by Possible (eqb b 0xCC) (λ _. close-then-cks k h) (λ _. after-aa (head_of CloseCc k s e a n g) b (found.Refused why.ClosingWrong k s a))
  step-at-place Err k h = err-then-cks k h
  step-at-place Cks k h = pick-by Possible (eqb (cks_in (head_of Cks k s e a n g) l) b) (λ _. refl) (λ _. refl)

pub step-possible : (d : Decoder) (b : ℕ) → b < 256 → possible_of d.head ≡ true → possible_of (step_of d b).decoder.head ≡ true
unfolding step_of
step-possible d b o h =
    let q = d.head in step-at-place q.seq q.err q.addr q.len q.filled d.info b o q.place q.kind h

pub calls-answered : CallsAnswered
unfolding step_of
calls-answered d =
    record {
      octet_refused = taken-7 d;
      octet_done = λ b h. rw (taken-done d b h);
      idle_refused = idled-7 d;
      idle_done = idled-done d;
    }

pub fresh-at-rest : FreshAtRest
unfolding fresh_head
fresh-at-rest = (refl, λ info long. (record { idle = refl; long = long }, refl))

pub possible-kept : PossibleKept
unfolding possible_of fresh_head
possible-kept = (
  refl,
  λ d. record {
    octet = λ b o h. rw (taken-done d b h) (step-possible d b o h);
    line_idle = λ h. rw (idled-done d h);
  },
)
