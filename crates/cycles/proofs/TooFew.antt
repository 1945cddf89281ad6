-- Fewer than 2b - 1 answers need not hold a whole cycle: of a machine that runs one cycle of b rows for ever, those from
-- number 1 on miss the first row of the first cycle and end before the last of the second.
use Prim.Native.Nat.{ℕ, zero, suc, ◌+◌, ◌*◌, ◌-◌, ◌≤◌, ◌<◌}
use native.Mathlib.Omega.{arith}
use mathlib.Core.Path.{◌≡◌, refl, ap}
use mathlib.Core.Option.{some}
use mathlib.Core.List.{List, [], ◌∷◌, ◌++◌}
use lib.ListN.{length, length-append, replicate, length-replicate}
use Rattle.cycles.specs.Machine.{Machine, after, answers}
use Rattle.cycles.specs.Cycles.{HoldsCycle}
use Rattle.cycles.specs.Ways.{Way, goes_on, ends, Ways, NoLonger}
use Rattle.cycles.specs.Promises.{NoFewer}

data Second : Type 0 where
  second : Second

-- a row is the number of those that follow it in its cycle, and a state is the row that the next second answers
abbrev rows : ℕ → List ℕ
rows zero = 0 ∷ []
rows (suc s) = suc s ∷ rows s

abbrev next : ℕ → ℕ → Second → ℕ
next b zero e = b - 1
next b (suc s) e = s

abbrev round : ℕ → Machine
round b = record {
  State = ℕ;
  Event = Second;
  Row = ℕ;
  next = next b;
  says = λ s e. some s;
  left = rows;
  Start = λ s. s + 1 ≡ b;
  Picks = λ s e t. t + 1 ≡ b;
  Alters = λ s e t. ⊥;
}

rows-length : (s : ℕ) → length (rows s) ≡ s + 1
rows-length zero = refl
rows-length (suc s) = omega (arith, rows-length s)

module _ (b : ℕ) where
  way : (s : ℕ) (e : Second) → s < b → Way (round b) s e
  way zero e h = ends 0 refl refl (omega arith) (omega arith)
  way (suc s) e h = goes_on (suc s) refl refl (λ z. omega arith)

  keeps : (s : ℕ) (e : Second) → s < b → next b s e < b
  keeps zero e h = omega arith
  keeps (suc s) e h = omega arith

  ways : Ways (round b) (λ s. s < b)
  ways = record { way = way; keeps = keeps; more = λ s h. omega (arith, rows-length s) }

  long : NoLonger (round b) (λ s. s < b) b
  long s h = omega (arith, rows-length s)

  all-answer : (s : ℕ) (es : List Second) → length (answers (round b) s es) ≡ length es
  all-answer s [] = refl
  all-answer s (e ∷ es) = ap suc (all-answer (next b s e) es)

  falls : (s : ℕ) (es : List Second) → length es ≤ s → after (round b) s es + length es ≡ s
  falls s [] h = omega arith
  falls zero (e ∷ es) h = absurd (omega arith)
  falls (suc s) (e ∷ es) h = omega (arith, falls s es (omega arith))

  -- after number 0 no cycle begins before number b
  none-whole : (es : List Second) (k m : ℕ) → m < 2 * b - 1 → HoldsCycle (round b) (b - 1) es 1 k m → ⊥
  none-whole es k m l h =
      let s = after (round b) (b - 1) h.before in
      let first : 1 ≤ length h.before = omega (arith, h.from, all-answer (b - 1) h.before) in
      let own : length h.during ≡ b = omega (arith, h.start, ap length h.whole, all-answer s h.during, rows-length s) in
      let last : length h.before + b ≤ 1 + m =
      omega (arith, h.within, all-answer (b - 1) (h.before ++ h.during), length-append h.before h.during) in
      omega (arith, h.start, falls (b - 1) h.before (omega arith))

pub no-fewer : NoFewer
no-fewer b k m l any =
    let es = replicate (1 + m) second in
    let enough : 1 + m ≤ length (answers (round b) (b - 1) es) = omega (arith, all-answer b (b - 1) es, length-replicate (1 + m) second) in
    none-whole b es k m (omega arith) (any (round b) (λ s. s < b) (ways b) (long b) (b - 1) (omega arith) (omega arith) es 1 enough)
