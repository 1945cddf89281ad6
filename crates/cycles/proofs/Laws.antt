-- A run in two parts.
use mathlib.Core.Path.{◌≡◌, refl, sym, ap, ◌∙◌}
use mathlib.Core.Option.{Option, none, some}
use mathlib.Core.List.{List, [], ◌∷◌, ◌++◌}
use Rattle.cycles.specs.Machine.{Machine, row_then, after, answers}

pub told-append {ℓ} : {Row : Type ℓ} (o : Option Row) (xs ys : List Row) → row_then o xs ++ ys ≡ row_then o (xs ++ ys)
told-append none xs ys = refl
told-append (some x) xs ys = refl

module _ (M : Machine) where
  open M use {State, Event, next, says}

  pub after-append : (s : State) (xs ys : List Event) → after M s (xs ++ ys) ≡ after M (after M s xs) ys
  after-append s [] ys = refl
  after-append s (e ∷ xs) ys = after-append (next s e) xs ys

  pub answers-append : (s : State) (xs ys : List Event) → answers M s (xs ++ ys) ≡ answers M s xs ++ answers M (after M s xs) ys
  answers-append s [] ys = refl
  answers-append s (e ∷ xs) ys = ap (row_then (says s e)) (answers-append (next s e) xs ys) ∙ sym (told-append (says s e) _ _)
