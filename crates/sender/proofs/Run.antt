-- Each test of a step is decided by what is assumed of its numbers. Each frame ends within 5T: with `more` sends to come, the seconds so far, T for
-- each of these sends and what is left of this wait are at most 5T; a send takes one from `more`, and a second goes from the wait to the seconds so far.
use Prim.Native.Nat.{ℕ, zero, suc, ◌+◌, ◌*◌, ◌-◌, ◌≤◌, ◌<◌}
use native.Mathlib.Omega.{arith}
use native.Mathlib.Nat.{zero-add, suc-add, suc-mul}
use mathlib.Core.Path.{◌≡◌, refl, ap, ◌∙◌}
use mathlib.Core.Bool.{Bool, true, false}
use mathlib.Core.List.{List, [], ◌∷◌, ◌++◌, append_assoc}
use mathlib.Core.Option.{none}
use borrow.Author.Tests.{eq-eqb, ne_eqb, lt-ltb, le-ltb, ltb-true}
use lib.Dec.{eqb, ltb}
use Rattle.octets.specs.Choice.{pick}
use Rattle.octets.proofs.Laws.{pick-by}
use Rattle.sender.specs.Machine.{Ours, Outgoing, free, out, LinkEvent, offer, ack, nak, second, Happening, passes, sends, down, LinkStep, passed, again_of, link_step_of, link_seen_of, link_after}
use Rattle.sender.specs.Promises.{Goes, rest, idle, first, unfinished, waits, again, hears, downs, talk, EndsHeardOrDown, link_seconds, wait, SentAtEachT, OutSaid, FreeSaid}

-- One step

when : {t : Bool} → t ≡ true → (a b : LinkStep) → pick t a b ≡ a
when h a b = ap (λ (t : Bool). pick t a b) h

unless : {t : Bool} → t ≡ false → (a b : LinkStep) → pick t a b ≡ b
unless h a b = ap (λ (t : Bool). pick t a b) h

-- a frame goes again, or is given up
pub goes-again : (f : Ours) (n : ℕ) → n < 5 → again_of f n ≡ record { outgoing = out f (n + 1) 0; seen = sends f ∷ [] }
unfolding again_of
goes-again f n h = when (lt-ltb n 5 h) _ _

pub given-up : (f : Ours) (n : ℕ) → 5 ≤ n → again_of f n ≡ record { outgoing = free; seen = down ∷ [] }
unfolding again_of
given-up f n h = unless (le-ltb n 5 h) _ _

-- which of the two happens at a NAK with its SEQ, and at the last second of a wait
pub at-nak : (t : ℕ) (f : Ours) (n w : ℕ) → link_step_of t (out f n w) (nak f.seq) ≡ again_of f n
unfolding link_step_of
at-nak t f n w = when (eq-eqb f.seq f.seq refl) _ _

pub at_last : (t : ℕ) (f : Ours) (n w : ℕ) → t ≤ w + 1 → link_step_of t (out f n w) second ≡ passed (again_of f n)
unfolding link_step_of
at_last t f n w h = ap passed (unless (le-ltb (w + 1) t h) _ _)

pub out-said : OutSaid
unfolding link_step_of
out-said t f n w =
    record {
      offered = λ g. refl;
      other_ack = λ m h. unless (ne_eqb m f.seq h) _ _;
      other_nak = λ m h. unless (ne_eqb m f.seq h) _ _;
      acked = when (eq-eqb f.seq f.seq refl) _ _;
      naked = λ h. at-nak t f n w ∙ goes-again f n h;
      naked_last = λ h. at-nak t f n w ∙ given-up f n h;
      waits = λ h. ap passed (when (lt-ltb (w + 1) t h) _ _);
      over = λ h l. at_last t f n w h ∙ ap passed (goes-again f n l);
      over_last = λ h l. at_last t f n w h ∙ ap passed (given-up f n l);
    }

pub free-said : FreeSaid
unfolding link_step_of
free-said t = record { offered = λ f. refl; acked = λ m. refl; naked = λ m. refl; passes = refl }

-- A run in two parts

pub link-append : (t : ℕ) (l : Outgoing) (xs ys : List LinkEvent) → link_after t l (xs ++ ys) ≡ link_after t (link_after t l xs) ys
link-append t l [] ys = refl
link-append t l (e ∷ xs) ys = link-append t (link_step_of t l e).outgoing xs ys

pub seen-append : (t : ℕ) (l : Outgoing) (xs ys : List LinkEvent) → link_seen_of t l (xs ++ ys) ≡ link_seen_of t l xs ++ link_seen_of t (link_after t l xs) ys
seen-append t l [] ys = refl
seen-append t l (e ∷ xs) ys = rw (seen-append t (link_step_of t l e).outgoing xs ys, append_assoc)

-- Any run

-- what is seen of a step and of the run after it
abbrev seen_from : ℕ → List LinkEvent → LinkStep → List Happening
seen_from t es s = s.seen ++ link_seen_of t s.outgoing es

module _ (t : ℕ) where
  -- a frame that goes again or is given up, where the run after either goes as it may
  goes_on : (es : List LinkEvent) (f : Ours) (n k more : ℕ) → n + more ≡ 5 → k + more * t ≤ 5 * t
      → Goes t none (link_seen_of t free es)
      → ((less : ℕ) → n + 1 + less ≡ 5 → k + less * t + t ≤ 5 * t → Goes t (talk f (n + 1) k) (link_seen_of t (out f (n + 1) 0) es))
      → Goes t (talk f n k) (seen_from t es (again_of f n))
  goes_on es f n k zero h b ended sent =
      let last : n ≡ 5 = omega arith in
      rw (given-up f n (omega arith), last) (downs ended)
  goes_on es f n k (suc less) h b ended sent =
      rw (goes-again f n (omega arith)) (again {n = n} (omega arith) (sent less (omega arith) (omega (arith, suc-mul less t))))

  mutual
    unfolding link_step_of

    at_rest : (es : List LinkEvent) → 1 ≤ t → Goes t none (link_seen_of t free es)
    at_rest [] p = rest
    at_rest (offer f ∷ es) p = first f (while-out es f 1 0 0 4 refl p (omega arith))
    at_rest (ack m ∷ es) p = at_rest es p
    at_rest (nak m ∷ es) p = at_rest es p
    at_rest (second ∷ es) p = idle (at_rest es p)

    while-out : (es : List LinkEvent) (f : Ours) (n w k more : ℕ) → n + more ≡ 5 → w < t → k + more * t + (t - w) ≤ 5 * t
        → Goes t (talk f n k) (link_seen_of t (out f n w) es)
    while-out [] f n w k more h l b = unfinished {k = k} (omega arith)
    while-out (offer g ∷ es) f n w k more h l b = while-out es f n w k more h l b
    while-out (ack m ∷ es) f n w k more h l b =
        pick-by (λ (s : LinkStep). Goes t (talk f n k) (seen_from t es s)) (eqb m f.seq)
        (λ _. hears (at_rest es (omega arith)))
        (λ _. while-out es f n w k more h l b)
    while-out (nak m ∷ es) f n w k more h l b =
        pick-by (λ (s : LinkStep). Goes t (talk f n k) (seen_from t es s)) (eqb m f.seq)
        (λ _. goes_on es f n k more h (omega arith) (at_rest es (omega arith))
        (λ less i j. while-out es f (n + 1) 0 k less i (omega arith) (omega arith)))
        (λ _. while-out es f n w k more h l b)
    while-out (second ∷ es) f n w k more h l b =
        waits {k = k} (omega arith)
        (pick-by (λ (s : LinkStep). Goes t (talk f n (k + 1)) (seen_from t es s)) (ltb (w + 1) t)
        (λ e. let i = ltb-true (w + 1) t e in while-out es f n (w + 1) (k + 1) more h i (omega arith))
        (λ _. goes_on es f n (k + 1) more h (omega arith) (at_rest es (omega arith))
        (λ less i j. while-out es f (n + 1) 0 (k + 1) less i (omega arith) (omega arith))))

pub ends-heard-or-down : EndsHeardOrDown
ends-heard-or-down t p es = at_rest t es p

-- A run of seconds

seconds-add : (m n : ℕ) → link_seconds (m + n) ≡ link_seconds m ++ link_seconds n
seconds-add zero n = ap link_seconds (zero-add n)
seconds-add (suc m) n = ap link_seconds (suc-add m n) ∙ ap (◌∷◌ second) (seconds-add m n)

module _ (t : ℕ) (f : Ours) where
  -- what is left of a wait, and then a run
  waits-out : (es : List LinkEvent) (n left w : ℕ) → 1 ≤ left → w + left ≡ t
      → link_seen_of t (out f n w) (link_seconds left ++ es) ≡ wait left ++ seen_from t es (again_of f n)
  waits-out es n zero w p h = absurd (omega arith)
  waits-out es n (suc zero) w p h = ap (seen_from t es) (at_last t f n w (omega arith))
  waits-out es n (suc (suc left)) w p h =
      ap (seen_from t (link_seconds (suc left) ++ es)) ((out-said t f n w).waits (omega arith))
      ∙ ap (◌∷◌ passes) (waits-out es n (suc left) (w + 1) (omega arith) (omega arith))

  whole-wait : (n m : ℕ) (s : LinkStep) → 1 ≤ t → again_of f n ≡ s → link_seen_of t (out f n 0) (link_seconds (t + m)) ≡ wait t ++ seen_from t (link_seconds m) s
  whole-wait n m s p e =
      ap (link_seen_of t (out f n 0)) (seconds-add t m) ∙ waits-out (link_seconds m) n t 0 p (omega arith) ∙ ap (λ (s : LinkStep). wait t ++ seen_from t (link_seconds m) s) e

  sends-next : (n m : ℕ) {hs : List Happening} → 1 ≤ t → n < 5 → link_seen_of t (out f (n + 1) 0) (link_seconds m) ≡ hs
      → link_seen_of t (out f n 0) (link_seconds (t + m)) ≡ wait t ++ (sends f ∷ hs)
  sends-next n m p l e = whole-wait n m _ p (goes-again f n l) ∙ ap (λ (hs : List Happening). wait t ++ (sends f ∷ hs)) e

pub sent-at-each-t : SentAtEachT
sent-at-each-t t f p =
    let five : 5 * t ≡ t + (t + (t + (t + (t + 0)))) = omega arith in
    ap (seen_from t (link_seconds (5 * t))) ((free-said t).offered f)
    ∙ ap (λ (k : ℕ). sends f ∷ link_seen_of t (out f 1 0) (link_seconds k)) five
    ∙ ap (◌∷◌ (sends f)) (sends-next t f 1 _ p (omega arith)
    (sends-next t f 2 _ p (omega arith)
    (sends-next t f 3 _ p (omega arith)
    (sends-next t f 4 _ p (omega arith) (whole-wait t f 5 0 _ p (given-up f 5 (omega arith)))))))
