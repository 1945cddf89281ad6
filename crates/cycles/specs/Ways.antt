-- What a machine has to show for demand 3: an event goes by one of four ways.
use Rattle.std.specs.Prelude.{ℕ, ◌≤◌, ◌<◌, ◌≡◌, [], ◌∷◌, length}
use Rattle.std.proofs.Math.Option.{none, some}
use Rattle.cycles.specs.Machine.{Machine}

module _ (M : Machine) where
  open M use {State, Event, Row, next, says, left, Start, Picks, Alters}

  pub data Way (s : State) (e : Event) : Type 0 where
    -- it answers nothing, leaves what is left as it was, and brings no cycle back to its start
    quiet : says s e ≡ none → left (next s e) ≡ left s → (Start (next s e) → Start s) → Way s e
    -- it answers the first row of what is left, and the cycle goes on, no longer at its start
    goes_on : (row : Row) → says s e ≡ some row → left s ≡ row ∷ left (next s e) → (Start (next s e) → ⊥) → Way s e
    -- it answers the last row and picks the next cycle, which is at its start
    ends : (row : Row) → says s e ≡ some row → left s ≡ row ∷ [] → Picks s e (next s e) → Start (next s e) → Way s e
    -- it answers nothing and alters the cycle, which is at its start before and after
    alters : says s e ≡ none → Start s → Alters s e (next s e) → Start (next s e) → Way s e

  -- So it does at every sound state; what it leaves is sound, and a sound state has a row still to come.
  pub record Ways (Sound : State → Type 0) : Type 0 where
    pub way : (s : State) (e : Event) → Sound s → Way s e
    pub keeps : (s : State) (e : Event) → Sound s → Sound (next s e)
    pub more : (s : State) → Sound s → 0 < length (left s)

  -- No cycle has more than b rows.
  abbrev pub NoLonger : (State → Type 0) → ℕ → Type 0
  NoLonger Sound b = (s : State) → Sound s → length (left s) ≤ b
