-- Whole cycles one after another: by induction on the run, an event put before it.
use mathlib.Core.Path.{◌≡◌, refl, ap, ◌∙◌}
use mathlib.Core.List.{List, [], ◌∷◌}
use Rattle.cycles.specs.Machine.{Machine, row_then, after}
use Rattle.cycles.specs.Cycles.{Altered, Cycles, unfinished, whole, altered}
use Rattle.cycles.specs.Ways.{Way, quiet, goes_on, ends, alters, Ways}
use Rattle.cycles.specs.Promises.{WholeCycles}
use Rattle.cycles.proofs.Laws.{told-append}

module _ (M : Machine) where
  open M use {State, Event, next, says, left}

  -- an event that does not end the cycle: what it answers comes off what is left
  put-before : {s : State} (e : Event) {es : List Event} → row_then (says s e) (left (next s e)) ≡ left s
      → ((xs : List Event) (x : Event) → Altered M (next s e) xs x → Altered M s (e ∷ xs) x)
      → Cycles M (next s e) es → Cycles M s (e ∷ es)
  put-before {s} e {es} l a (unfinished u) =
      unfinished {s = s} {es = e ∷ es} (record {
        rest = u.rest;
        rows = told-append (says s e) _ _ ∙ ap (row_then (says s e)) u.rows ∙ l;
        more = u.more;
      })
  put-before {s} e l a (whole {before} w c) =
      whole {s = s} {before = e ∷ before} (record {
        last = w.last;
        rows = told-append (says s e) _ _ ∙ ap (row_then (says s e)) w.rows ∙ l;
        answered = w.answered;
        picks = w.picks;
        start = w.start;
      }) c
  put-before e l a (altered {before} x c) = altered {before = e ∷ before} (a _ _ x) c

  by_way : {s : State} {e : Event} {es : List Event} → Way M s e → Cycles M (next s e) es → Cycles M s (e ∷ es)
  by_way {s} {e} (quiet q l b) =
      put-before e (rw q l) (λ xs x a. record {
        start = b a.start;
        rows = rw q a.rows;
        answered = a.answered;
        alters = a.alters;
        again = a.again;
      })
  by_way {s} {e} (goes_on row q l b) = put-before e (rw (q, l)) (λ xs x a. absurd (b a.start))
  by_way {s} {e} (ends row q l p b) = whole {s = s} {before = []} (record { last = row; rows = rw l; answered = q; picks = p; start = b })
  by_way {s} {e} (alters q z p b) = altered {s = s} {before = []} (record { start = z; rows = refl; answered = q; alters = p; again = b })

pub whole-cycles : WholeCycles
whole-cycles M Sound ways s h [] = unfinished (record { rest = M.left s; rows = refl; more = ways.more s h })
whole-cycles M Sound ways s h (e ∷ es) = by_way M (ways.way s e h) (whole-cycles M Sound ways (M.next s e) (ways.keeps s e h) es)

-- every state of a run is sound
pub sound-after : (M : Machine) (Sound : M.State → Type 0) → Ways M Sound → (s : M.State) → Sound s → (es : List M.Event) → Sound (after M s es)
sound-after M Sound ways s h [] = h
sound-after M Sound ways s h (e ∷ es) = sound-after M Sound ways (M.next s e) (ways.keeps s e h) es
