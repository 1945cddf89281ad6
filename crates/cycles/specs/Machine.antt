-- A machine that answers seconds: what demand 3 speaks of, whatever the states, the events and the rows are.
use Rattle.std.proofs.Math.Option.{Option, none, some}
use Rattle.std.specs.Prelude.{List, [], ◌∷◌}

pub record Machine : Type 1 where
  pub State : Type 0
  -- a call, with all that is lent to it: an octet, a second or another
  pub Event : Type 0
  -- what an accepted second shows
  pub Row : Type 0
  -- the state that an event leaves
  pub next : State → Event → State
  -- the row that an event answers, if it is an accepted second
  pub says : State → Event → Option Row
  -- what is left of the running cycle, the next second's row first
  pub left : State → List Row
  -- the running cycle is at its start: no second of it has been answered
  pub Start : State → Type 0
  -- the rule by which the next cycle is picked: the state before, the event that answers the last second, the state after
  pub Picks : State → Event → State → Type 0
  -- the rule by which an event alters a cycle before its first second, `λ s e t. ⊥` where no event does
  pub Alters : State → Event → State → Type 0

-- the row that was answered, if one was, before the others
abbrev pub row_then {ℓ} : {Row : Type ℓ} → Option Row → List Row → List Row
row_then none rows = rows
row_then (some row) rows = row ∷ rows

module _ (M : Machine) where
  open M use {State, Event, Row, next, says}

  -- the state after a run of events
  abbrev pub after : State → List Event → State
  after s [] = s
  after s (e ∷ es) = after (next s e) es

  -- the rows of the accepted seconds of a run
  abbrev pub answers : State → List Event → List Row
  answers s [] = []
  answers s (e ∷ es) = row_then (says s e) (answers (next s e) es)
