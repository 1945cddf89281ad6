-- What specs/Named.antt promises, by computed tests over the rows of each diagram; the witnesses are searched for.
use Prim.Native.Nat.{ℕ, zero, suc, ◌+◌, ◌*◌, ◌-◌, ◌%◌, ◌≤◌, ◌<◌}
use mathlib.Core.Path.{◌≡◌, refl, sym, ap, subst, ◌∙◌}
use mathlib.Core.Bool.{Bool, true, false, not, ◌||◌}
use mathlib.Core.List.{List, [], ◌∷◌}
use native.Mathlib.Decide.{dec_lt}
use native.Mathlib.Omega.{arith}
use borrow.Author.Tests.{eq-eqb, ne_eqb, eqb-true, le-leb, lt-ltb, ltb-true, not-true}
use lib.Dec.{eqb, leb, ltb}
use lib.ListN.{get_or}
use Rattle.octets.specs.Choice.{pick, both}
use Rattle.octets.proofs.Laws.{both_left, both_right, clash}
use Rattle.octets.proofs.Every.{every, all, all-at, below, below_at}
use Rattle.diagram.specs.declared.LampRow.{LampRow}
use Rattle.diagram.specs.Row.{Diagram}
use Rattle.diagram.specs.Rows.{lamp_rows, directory}
use Rattle.diagram.specs.Table.{diagram_of, steps_aphase, steps_in, lamp_row_of, flashing_of}
use Rattle.diagram.specs.Known.{Step}
use Rattle.diagram.specs.Lamps.{bit, lit, lamp_in, green_man_of, red_lit, yellow_lit, green_lit, round_lit, straight_lit, green_man_lit}
use Rattle.diagram.specs.Named.{place_of, PlacesAsSaid, SomeApproach, VehiclesAlike, AsNamed, StepsAsNamed, Follows, StepsFollow, EndsRed, EachServed}
use Rattle.diagram.proofs.Laws.{approaches_in_word, lamps_an_approach, vehicle_lamps, last_lamp, green_place, walk_flash_place, red_man_place, yellow_place, row-there}
use Rattle.diagram.proofs.Known.{found-passes}
use Rattle.diagram.proofs.Rule.{row_in}
use Rattle.diagram.proofs.Words.{flashing-fits, bit_past}

-- where the first holds, the second does
abbrev pub implies : Bool → Bool → Bool
implies true y = y
implies false y = true

pub implied : (x y : Bool) → implies x y ≡ true → x ≡ true → y ≡ true
implied true y t e = t
implied false y t e = absurd (clash refl e)

same : Bool → Bool → Bool
same true y = y
same false y = not y

same-eq : (x y : Bool) → same x y ≡ true → x ≡ y
unfolding same
same-eq true y t = sym t
same-eq false y t = sym (not-true y t)

-- the greatest number below n that passes, or 0
search-below : (ℕ → Bool) → ℕ → ℕ
search-below test zero = 0
search-below test (suc n) = pick (test n) n (search-below test n)

-- The tests of a row, its diagram's number i from 0

abbrev place : ℕ → ℕ
place i = i % steps_aphase + 1

flash_fits : LampRow → ℕ → Bool
flash_fits r j = implies (bit r.flashing j) (eqb ((j + 1) % lamps_an_approach) 0)

quiet_fits : LampRow → ℕ → Bool
quiet_fits r i = implies (not (eqb (place i) walk_flash_place)) (eqb r.flashing 0)

man_fits : LampRow → ℕ → ℕ → Bool
man_fits r i a = implies (leb red_man_place (place i)) (not (green_man_lit r a))

yellow_fits : LampRow → ℕ → ℕ → Bool
yellow_fits r i a = implies (yellow_lit r a) (eqb (place i) yellow_place)

module _ (lamp : LampRow → ℕ → Bool) (at : ℕ) (r : LampRow) where
  -- an approach that shows it
  shower : ℕ
  shower = search-below (lamp r) approaches_in_word

  shown_fits : ℕ → Bool
  shown_fits i = implies (eqb (place i) at) (both (ltb shower approaches_in_word) (lamp r shower))

-- of a row and its next, number n

abbrev alike : LampRow → LampRow → ℕ → ℕ → Bool
alike r s a j = same (lit r (lamps_an_approach * a + (j + 1))) (lit s (lamps_an_approach * a + (j + 1)))

follow_tests : LampRow → LampRow → ℕ → ℕ → List Bool
follow_tests r s n a =
    implies (green_lit r a) (green_lit s a || yellow_lit s a) ∷ implies (yellow_lit r a) (red_lit s a) ∷ implies (yellow_lit s a) (green_lit r a)
    ∷ implies (both (leb walk_flash_place (place n)) (leb (place n) red_man_place)) (below (alike r s a) vehicle_lamps)
    ∷ implies (eqb (place n) walk_flash_place) (same (lamp_in s.flashing (green_man_of a)) (green_man_lit r a))
    ∷ []

follows : LampRow → LampRow → ℕ → ℕ → Bool
follows r s n a = all (follow_tests r s n a)

row_tests : Diagram → ℕ → List Bool
row_tests d i =
    let r = row_in d i in
    below (flash_fits r) last_lamp ∷ below (man_fits r i) approaches_in_word ∷ below (yellow_fits r i) approaches_in_word ∷ shown_fits yellow_lit yellow_place r i
    ∷ implies (ltb (i + 1) (steps_in d)) (below (follows r (row_in d (i + 1)) (i + 1)) approaches_in_word)
    ∷ quiet_fits r i
    ∷ shown_fits green_lit green_place r i
    ∷ []

straight : LampRow → ℕ → Bool
straight r a = round_lit r a || straight_lit r a

-- the row that lets the approach go straight on
goes : Diagram → ℕ → ℕ
goes d a = search-below (λ i. both (eqb (place i) green_place) (straight (row_in d i) a)) (steps_in d)

abbrev last_in : Diagram → ℕ
last_in d = steps_in d - 1

ends_red : Diagram → ℕ → Bool
ends_red d a = implies (bit d.approaches a) (both (ltb 0 (steps_in d)) (red_lit (row_in d (last_in d)) a))

served_tests : Diagram → ℕ → List Bool
served_tests d a = ltb (goes d a) (steps_in d) ∷ eqb (place (goes d a)) green_place ∷ straight (row_in d (goes d a)) a ∷ []

served : Diagram → ℕ → Bool
served d a = implies (bit d.approaches a) (all (served_tests d a))

diagram_tests : Diagram → List Bool
diagram_tests d = below (λ i. all (row_tests d i)) (steps_in d) ∷ below (ends_red d) approaches_in_word ∷ below (served d) approaches_in_word ∷ []

diagrams-pass : every (λ d. all (diagram_tests d)) directory ≡ true
unfolding every below all same search-below diagram_tests row_tests flash_fits quiet_fits man_fits yellow_fits shower shown_fits follow_tests follows ends_red straight goes served_tests served lit green_lit directory lamp_rows
diagrams-pass = refl

diagram-passes : (order k : ℕ) → get_or (diagram_tests (diagram_of order)) k true ≡ true
unfolding every all diagram_tests below ends_red served
diagram-passes order k = all-at (diagram_tests (diagram_of order)) k (found-passes (λ d. all (diagram_tests d)) diagrams-pass (λ _. refl) order)

-- the row of the step after i steps
row-after : (order i : ℕ) → i < steps_in (diagram_of order) → lamp_row_of order (i + 1) ≡ row_in (diagram_of order) i
row-after order i h =
    let e : i + 1 - 1 ≡ i = omega arith in
    row-there order (i + 1) (omega arith) (omega arith) ∙ ap (row_in (diagram_of order)) e

-- The promises

module _ (order step : ℕ) (s : Step order step) where
  abbrev d : Diagram
  d = diagram_of order

  abbrev i : ℕ
  i = step - 1

  abbrev r : LampRow
  r = row_in d i

  there : lamp_row_of order step ≡ r
  there = row-there order step s.first s.last

  passes : (k : ℕ) → get_or (row_tests d i) k true ≡ true
  unfolding diagram_tests
  passes k = all-at (row_tests d i) k (below_at (λ n. all (row_tests d n)) (steps_in d) i (diagram-passes order 0) (omega (arith, s.first, s.last)))

  flashing-at : (m : ℕ) → lamp_in r.flashing m ≡ true → m - 1 < last_lamp → m % lamps_an_approach ≡ 0
  unfolding row_tests flash_fits
  flashing-at m t l =
      let b = implied (bit r.flashing (m - 1)) (eqb ((m - 1 + 1) % lamps_an_approach) 0) (below_at (flash_fits r) last_lamp (m - 1) (passes 0) l) t in
      omega (arith, eqb-true ((m - 1 + 1) % lamps_an_approach) 0 b)

  flashes : (m : ℕ) → lamp_in r.flashing m ≡ true → m % lamps_an_approach ≡ 0
  flashes m t = by (dec_lt (m - 1) last_lamp)
    where
      past : (last_lamp ≤ m - 1) → lamp_in (flashing_of order step) m ≡ false
      past h = bit_past (flashing_of order step) last_lamp (m - 1) (flashing-fits order step) h

      by : Dec (m - 1 < last_lamp) → m % lamps_an_approach ≡ 0
      by (yes l) = flashing-at m t l
      by (no g) = absurd (clash (subst (λ (w : LampRow). lamp_in w.flashing m ≡ false) there (past (omega arith))) t)

  quiet : (place_of step ≡ walk_flash_place → ⊥) → r.flashing ≡ 0
  unfolding row_tests quiet_fits
  quiet ne =
      let t = implied (not (eqb (place_of step) walk_flash_place)) (eqb r.flashing 0) (passes 5) (ap not (ne_eqb (place_of step) walk_flash_place ne)) in
      eqb-true r.flashing 0 t

  men : (a : ℕ) → a < approaches_in_word → red_man_place ≤ place_of step → green_man_lit r a ≡ false
  unfolding row_tests man_fits
  men a h l =
      let t = below_at (man_fits r i) approaches_in_word a (passes 1) h in
      not-true (green_man_lit r a) (implied (leb red_man_place (place_of step)) (not (green_man_lit r a)) t (le-leb red_man_place (place_of step) l))

  yellows : (a : ℕ) → a < approaches_in_word → yellow_lit r a ≡ true → place_of step ≡ yellow_place
  unfolding row_tests yellow_fits
  yellows a h y =
      let t = below_at (yellow_fits r i) approaches_in_word a (passes 2) h in
      eqb-true (place_of step) yellow_place (implied (yellow_lit r a) (eqb (place_of step) yellow_place) t y)

  shown : (lamp : LampRow → ℕ → Bool) (at : ℕ) → shown_fits lamp at r i ≡ true → place_of step ≡ at → SomeApproach lamp order step
  unfolding shown_fits
  shown lamp at t e =
      let a = shower lamp at r in
      let b = implied (eqb (place_of step) at) (both (ltb a approaches_in_word) (lamp r a)) t (eq-eqb (place_of step) at e) in
      record {
        approach = a;
        within = ltb-true a approaches_in_word (both_left (ltb a approaches_in_word) (lamp r a) b);
        lights = rw there (both_right (ltb a approaches_in_word) (lamp r a) b);
      }

  pub as-named : AsNamed order step
  unfolding row_tests
  as-named = record {
    greens = shown green_lit green_place (passes 6);
    flashes = rw (there, flashing_of) flashes;
    quiet = rw (there, flashing_of) quiet;
    men = rw there men;
    yellows = rw there yellows;
    some = shown yellow_lit yellow_place (passes 3);
  }

  module _ (a : ℕ) (n : Step order (step + 1)) (h : a < approaches_in_word) where
    abbrev next : LampRow
    next = row_in d step

    next-there : lamp_row_of order (step + 1) ≡ next
    next-there = row-after order step (omega (arith, n.last))

    follow : (k : ℕ) → get_or (follow_tests r next step a) k true ≡ true
    unfolding row_tests follows
    follow k =
        let e : step - 1 + 1 ≡ step = omega (arith, s.first) in
        let t = implied (ltb (i + 1) (steps_in d)) (below (follows r (row_in d (i + 1)) (i + 1)) approaches_in_word) (passes 4) (lt-ltb (i + 1) (steps_in d) (omega (arith, s.first, n.last))) in
        all-at (follow_tests r next step a) k (subst (λ (m : ℕ). follows r (row_in d m) m a ≡ true) e (below_at (follows r (row_in d (i + 1)) (i + 1)) approaches_in_word a t h))

    -- the next step's place, as the tests have it
    placed : place_of (step + 1) ≡ place step
    placed = omega arith

    keep : walk_flash_place ≤ place_of (step + 1) → place_of (step + 1) ≤ red_man_place → VehiclesAlike r next a
    unfolding follow_tests
    keep f g j l =
        let p = both (leb walk_flash_place (place step)) (leb (place step) red_man_place) in
        let t : p ≡ true = rw (le-leb walk_flash_place (place step) (omega (arith, f, placed)), le-leb (place step) red_man_place (omega (arith, g, placed))) in
        same-eq (lit r (lamps_an_approach * a + (j + 1))) (lit next (lamps_an_approach * a + (j + 1)))
        (below_at (alike r next a) vehicle_lamps j (implied p (below (alike r next a) vehicle_lamps) (follow 3) t) l)

    walks : place_of (step + 1) ≡ walk_flash_place → lamp_in next.flashing (green_man_of a) ≡ green_man_lit r a
    unfolding follow_tests
    walks e =
        let man = lamp_in next.flashing (green_man_of a) in
        same-eq man (green_man_lit r a) (implied (eqb (place step) walk_flash_place) (same man (green_man_lit r a)) (follow 4) (eq-eqb (place step) walk_flash_place (sym placed ∙ e)))

    pub followed : Follows order step a
    unfolding follow_tests
    followed = record {
      green = rw (there, next-there) (implied (green_lit r a) (green_lit next a || yellow_lit next a) (follow 0));
      yellow = rw (there, next-there) (implied (yellow_lit r a) (red_lit next a) (follow 1));
      after = rw (there, next-there) (implied (yellow_lit next a) (green_lit r a) (follow 2));
      kept = rw (there, next-there) keep;
      walk = rw (there, next-there, flashing_of) walks;
    }

pub places-as-said : PlacesAsSaid
places-as-said i j h l = omega arith

pub steps-as-named : StepsAsNamed
steps-as-named order step s = as-named order step s

pub steps-follow : StepsFollow
steps-follow order step a s n h = followed order step s a n h

pub ends-red : EndsRed
unfolding diagram_tests ends_red
ends-red order a h u =
    let d = diagram_of order in
    let some = ltb 0 (steps_in d) in
    let red = red_lit (row_in d (last_in d)) a in
    let b = implied (bit d.approaches a) (both some red) (below_at (ends_red d) approaches_in_word a (diagram-passes order 1) h) u in
    rw (row-there order (steps_in d) (ltb-true 0 (steps_in d) (both_left some red b)) (omega arith)) (both_right some red b)

pub each-served : EachServed
unfolding diagram_tests served served_tests straight
each-served order a h u =
    let d = diagram_of order in
    let i = goes d a in
    let t = implied (bit d.approaches a) (all (served_tests d a)) (below_at (served d) approaches_in_word a (diagram-passes order 2) h) u in
    let b : (k : ℕ) → get_or (served_tests d a) k true ≡ true = λ k. all-at (served_tests d a) k t in
    let l = ltb-true i (steps_in d) (b 0) in
    record {
      step = i + 1;
      has = record { first = omega arith; last = omega (arith, l) };
      place = omega (arith, eqb-true (place i) green_place (b 1));
      green = rw (row-after order i l) (b 2);
    }
