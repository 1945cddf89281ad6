-- Any 2b - 1 answers in a row hold a whole cycle: at most b - 1 of them come before one starts, and at most b are its rows.
use Prim.Native.Nat.{ℕ, zero, suc, ◌+◌, ◌*◌, ◌-◌, ◌≤◌, ◌<◌}
use native.Mathlib.Omega.{arith}
use native.Mathlib.Decide.{dec_lt}
use mathlib.Core.Path.{◌≡◌, sym, ap, ◌∙◌}
use mathlib.Core.List.{List, [], ◌∷◌, ◌++◌, append_assoc, append-nil}
use lib.ListN.{length, length-append}
use Rattle.cycles.specs.Machine.{Machine, after, answers}
use Rattle.cycles.specs.Cycles.{Whole, Altered, Unfinished, Cycles, unfinished, whole, altered, HoldsCycle}
use Rattle.cycles.specs.Ways.{Ways, NoLonger}
use Rattle.cycles.specs.Promises.{Window}
use Rattle.cycles.proofs.Laws.{after-append, answers-append}
use Rattle.cycles.proofs.Run.{whole-cycles, sound-after}

module _ (M : Machine) where
  open M use {State, Event, Row, next, left, Start}

  -- the answers of a run, by its first stretch
  pub unfinished-rows : {s : State} {es : List Event} → Unfinished M s es → length (answers M s es) < length (left s)
  unfinished-rows {s} {es} u = omega (arith, ap length u.rows, length-append (answers M s es) u.rest, u.more)

  pub whole-rows : {s : State} {xs : List Event} {e : Event} → Whole M s xs e → (ys : List Event)
      → answers M s (xs ++ e ∷ ys) ≡ left s ++ answers M (next (after M s xs) e) ys
  whole-rows {s} {xs} {e} w ys = answers-append M s xs (e ∷ ys) ∙ rw (w.answered, ← w.rows, append_assoc)

  pub altered-rows : {s : State} {xs : List Event} {e : Event} → Altered M s xs e → (ys : List Event)
      → answers M s (xs ++ e ∷ ys) ≡ answers M (next (after M s xs) e) ys
  altered-rows {s} {xs} {e} a ys = answers-append M s xs (e ∷ ys) ∙ rw (a.answered, a.rows)

  -- the cycle with which a run begins
  here : {s : State} {xs : List Event} {e : Event} → Whole M s xs e → Start s → (es : List Event) (k m : ℕ)
      → 0 < k → length (left s) ≤ m → HoldsCycle M s (xs ++ e ∷ es) 0 k m
  here {s} {xs} {e} w z es k m i j =
      let all : answers M s (xs ++ e ∷ []) ≡ left s = whole-rows w [] ∙ append-nil (left s) in
      record {
        before = [];
        during = xs ++ e ∷ [];
        later = es;
        run = sym (append_assoc xs (e ∷ []) es);
        start = z;
        whole = all;
        from = omega arith;
        soon = omega arith;
        within = rw all (omega arith);
      }

  -- a stretch put before a run, `r` being what it answers
  module _ (s : State) (xs : List Event) (e : Event) (r : List Row)
      (rows : (ys : List Event) → answers M s (xs ++ e ∷ ys) ≡ r ++ answers M (next (after M s xs) e) ys) where
    count : (ys : List Event) → length (answers M s (xs ++ e ∷ ys)) ≡ length r + length (answers M (next (after M s xs) e) ys)
    count ys = ap length (rows ys) ∙ length-append r (answers M (next (after M s xs) e) ys)

    shift : {ys : List Event} {n k m : ℕ} (n' k' m' : ℕ) → HoldsCycle M (next (after M s xs) e) ys n k m
        → n' ≤ length r + n → length r + n + k ≤ n' + k' → length r + n + m ≤ n' + m' → HoldsCycle M s (xs ++ e ∷ ys) n' k' m'
    shift n' k' m' h i j l =
        let u = after-append M s xs (e ∷ h.before) in
        let v = count h.before in
        record {
          before = xs ++ e ∷ h.before;
          during = h.during;
          later = h.later;
          run = ap (λ (ys : List Event). xs ++ e ∷ ys) h.run ∙ simp append_assoc;
          start = rw u h.start;
          whole = rw u h.whole;
          from = omega (arith, h.from);
          soon = omega (arith, h.soon);
          within = rw append_assoc (omega (arith, h.within, count (h.before ++ h.during)));
        }

module _ (M : Machine) (Sound : M.State → Type 0) (ways : Ways M Sound) (b : ℕ) (long : NoLonger M Sound b) where
  open M use {State, Event, next, left, Start}

  sound-past : {s : State} → Sound s → (xs : List Event) (e : Event) → Sound (next (after M s xs) e)
  sound-past {s} h xs e = ways.keeps (after M s xs) e (sound-after M Sound ways s h xs)

  -- b answers from a cycle's start on hold that cycle
  first : {s : State} {es : List Event} → Cycles M s es → Sound s → Start s → b ≤ length (answers M s es) → HoldsCycle M s es 0 1 b
  first {s} (unfinished u) h z t = absurd (omega (arith, unfinished-rows M u, long s h))
  first {s} (whole {es} w c) h z t = here M w z es 1 b (omega arith) (long s h)
  first {s} (altered {before = xs} {event = e} {es} a c) h z t =
      let v = count M s xs e [] (altered-rows M a) es in
      shift M s xs e [] (altered-rows M a) 0 1 b
      (first c (sound-past h xs e) a.again (omega arith))
      (omega arith) (omega arith) (omega arith)

  hold : {s : State} {es : List Event} → Cycles M s es → Sound s → Start s → (n m : ℕ) → 2 * b ≤ m + 1
      → n + m ≤ length (answers M s es) → HoldsCycle M s es n b m
  hold {s} (unfinished u) h z n m g t = absurd (omega (arith, unfinished-rows M u, long s h))
  hold {s} (whole {es} w c) h z zero m g t =
      let i = ways.more s h in
      let l = long s h in
      here M w z es b m (omega arith) (omega arith)
  hold {s} (whole {before = xs} {second = e} {es} w c) h z (suc n) m g t =
      let v = count M s xs e (left s) (whole-rows M w) es in
      let l = long s h in
      elim (dec_lt (length (left s)) (suc n)) [
        | yes p ↦ shift M s xs e (left s) (whole-rows M w) (suc n) b m
            (hold c (sound-past h xs e) w.start (suc n - length (left s)) m g (omega arith))
            (omega arith) (omega arith) (omega arith)
        | no p ↦ shift M s xs e (left s) (whole-rows M w) (suc n) b m
            (first c (sound-past h xs e) w.start (omega arith))
            (omega arith) (omega arith) (omega arith)
      ]
  hold {s} (altered {before = xs} {event = e} {es} a c) h z n m g t =
      let v = count M s xs e [] (altered-rows M a) es in
      shift M s xs e [] (altered-rows M a) n b m
      (hold c (sound-past h xs e) a.again n m g (omega arith))
      (omega arith) (omega arith) (omega arith)

pub window : Window
window b M Sound ways long s h z es n = hold M Sound ways b long (whole-cycles M Sound ways s h es) h z n _ (omega arith)
