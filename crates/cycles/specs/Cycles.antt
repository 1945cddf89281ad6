-- Demand 3: "the accepted seconds are whole cycles one after another, the last perhaps unfinished"; "each later one is
-- chosen as the last second of the cycle before it is answered"; "any 1,799 accepted seconds in a row hold a whole cycle".
use Rattle.std.specs.Prelude.{ℕ, ◌+◌, ◌≤◌, ◌<◌, ◌≡◌, List, [], ◌∷◌, ◌++◌, length}
use Rattle.std.proofs.Math.Option.{none, some}
use Rattle.cycles.specs.Machine.{Machine, after, answers}

module _ (M : Machine) where
  open M use {State, Event, Row, next, says, left, Start, Picks, Alters}

  -- A stretch of the run, the events `before` and then `second`, answers all that is left of the running cycle, `second` its
  -- last row; at `second` the rule picks the next cycle, which is at its start.
  pub record Whole (s : State) (before : List Event) (second : Event) : Type 0 where
    pub last : Row
    pub rows : answers M s before ++ (last ∷ []) ≡ left s
    pub answered : says (after M s before) second ≡ some last
    pub picks : Picks (after M s before) second (next (after M s before) second)
    pub start : Start (next (after M s before) second)

  -- A stretch that answers nothing of a cycle at its start, and at whose end `event` alters the cycle.
  pub record Altered (s : State) (before : List Event) (event : Event) : Type 0 where
    pub start : Start s
    pub rows : answers M s before ≡ []
    pub answered : says (after M s before) event ≡ none
    pub alters : Alters (after M s before) event (next (after M s before) event)
    pub again : Start (next (after M s before) event)

  -- A stretch after which some rows of the running cycle are still to come.
  pub record Unfinished (s : State) (es : List Event) : Type 0 where
    pub rest : List Row
    pub rows : answers M s es ++ rest ≡ left s
    pub more : 0 < length rest

  -- The run `es` from s falls into such stretches: what is left of the running cycle, then whole cycles one after another,
  -- the last perhaps unfinished. Where s is at a cycle's start, the first is whole too.
  pub data Cycles : State → List Event → Type 0 where
    unfinished : {s : State} {es : List Event} → Unfinished s es → Cycles s es
    whole : {s : State} {before : List Event} {second : Event} {es : List Event} → Whole s before second
        → Cycles (next (after M s before) second) es → Cycles s (before ++ second ∷ es)
    altered : {s : State} {before : List Event} {event : Event} {es : List Event} → Altered s before event
        → Cycles (next (after M s before) event) es → Cycles s (before ++ event ∷ es)

  -- Of the answers of the run `es` from s, counted from 0, those from number n on hold a whole cycle: it begins within the
  -- first k of them and ends within the first m.
  pub record HoldsCycle (s : State) (es : List Event) (n k m : ℕ) : Type 0 where
    pub before : List Event
    pub during : List Event
    pub later : List Event
    pub run : es ≡ before ++ during ++ later
    pub start : Start (after M s before)
    pub whole : answers M (after M s before) during ≡ left (after M s before)
    pub from : n ≤ length (answers M s before)
    pub soon : length (answers M s before) < n + k
    pub within : length (answers M s (before ++ during)) ≤ n + m
