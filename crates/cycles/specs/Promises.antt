-- Demand 3 of every machine whose events go by the four ways.
use Rattle.std.specs.Prelude.{ℕ, ◌+◌, ◌*◌, ◌-◌, ◌≤◌, ◌<◌, List, length}
use Rattle.cycles.specs.Machine.{Machine, answers}
use Rattle.cycles.specs.Cycles.{Cycles, HoldsCycle}
use Rattle.cycles.specs.Ways.{Ways, NoLonger}

-- "the accepted seconds are whole cycles one after another, the last perhaps unfinished"
abbrev pub WholeCycles : Type 1
WholeCycles =
    (M : Machine) (Sound : M.State → Type 0) → Ways M Sound
    → (s : M.State) → Sound s → (es : List M.Event)
    → Cycles M s es

-- where no cycle has more than b rows, any m answers in a row hold a whole cycle, which begins within the first k of them
abbrev pub AnyHold : ℕ → ℕ → ℕ → Type 1
AnyHold b k m =
    (M : Machine) (Sound : M.State → Type 0) → Ways M Sound → NoLonger M Sound b
    → (s : M.State) → Sound s → M.Start s → (es : List M.Event) (n : ℕ) → n + m ≤ length (answers M s es)
    → HoldsCycle M s es n k m

-- "any 1,799 accepted seconds in a row hold a whole cycle": b is 900, and the cycle begins within the first 900
abbrev pub Window : Type 1
Window = (b : ℕ) → AnyHold b b (2 * b - 1)

-- with fewer this fails, whatever b is: 1,798 are not enough where b is 900
abbrev pub NoFewer : Type 1
NoFewer = (b k m : ℕ) → m < 2 * b - 1 → AnyHold b k m → ⊥
