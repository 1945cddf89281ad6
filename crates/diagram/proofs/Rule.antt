-- The lamp rule: one computed test over the whole table, and the law that turns it into the rule at each row.
use Prim.Native.Nat.{ℕ, ◌+◌, ◌*◌, ◌-◌, ◌≤◌}
use mathlib.Core.Path.{◌≡◌, refl}
use mathlib.Core.Bool.{Bool, true, false, not, ◌||◌}
use mathlib.Core.List.{List, [], ◌∷◌}
use mathlib.Core.Logic.{inl, inr}
use native.Mathlib.Omega.{arith}
use borrow.Author.Tests.{not-true}
use lib.ListN.{get_or}
use Rattle.octets.specs.Choice.{both}
use Rattle.octets.proofs.Laws.{both_left, both_right, clash}
use Rattle.octets.proofs.Every.{every, every-at, below, below_at}
use Rattle.diagram.specs.declared.LampRow.{LampRow}
use Rattle.diagram.specs.Row.{Diagram}
use Rattle.diagram.specs.Rows.{lamp_rows, directory}
use Rattle.diagram.specs.Table.{dark_row, diagram_of, steps_in}
use Rattle.diagram.specs.Lamps.{bit, lit, red_lit, yellow_lit, green_lit, red_man_lit, green_man_lit, bit_lit, LampsNumbered, Shows, Dark, LampRule}
use Rattle.diagram.proofs.Laws.{approaches_in_word, lamps_an_approach, row-there}
use Rattle.diagram.proofs.Known.{found-passes}

-- The lamps' numbers

-- the bit of an approach's lamp
bit-of : (n m : ℕ) → 1 ≤ m → lamps_an_approach * n + m - 1 ≡ lamps_an_approach * n + (m - 1)
bit-of n m h = omega arith

four-greens : (r : LampRow) (n : ℕ)
    → (lit r (lamps_an_approach * n + 3) || (lit r (lamps_an_approach * n + 4) || (lit r (lamps_an_approach * n + 5) || lit r (lamps_an_approach * n + 6))))
    ≡ (bit_lit r (lamps_an_approach * n + 2) || (bit_lit r (lamps_an_approach * n + 3) || (bit_lit r (lamps_an_approach * n + 4) || bit_lit r (lamps_an_approach * n + 5))))
unfolding lit
four-greens r n = rw (bit-of n 3 (omega arith), bit-of n 4 (omega arith), bit-of n 5 (omega arith), bit-of n 6 (omega arith))

pub lamps-numbered : LampsNumbered
unfolding lit green_lit
lamps-numbered r = record {
  a = refl;
  b = refl;
  c = refl;
  d = refl;
  e = refl;
  f = refl;
  g = refl;
  h = refl;
  word = λ w m. refl;
  lamp = λ m. refl;
  green = four-greens r;
  green_man = λ n. refl;
}

-- The test

-- exactly one
abbrev one_of2 : Bool → Bool → Bool
one_of2 true y = not y
one_of2 false y = y

abbrev one_of3 : Bool → Bool → Bool → Bool
one_of3 true y z = both (not y) (not z)
one_of3 false y z = one_of2 y z

module _ (r : LampRow) (a : ℕ) where
  abbrev lamps : List Bool
  lamps = red_lit r a ∷ yellow_lit r a ∷ green_lit r a ∷ red_man_lit r a ∷ green_man_lit r a ∷ []

  -- an approach that is used, or not
  fits : Bool → Bool
  fits true = both (one_of3 (red_lit r a) (yellow_lit r a) (green_lit r a)) (one_of2 (red_man_lit r a) (green_man_lit r a))
  fits false = every not lamps

abbrev row_fits : Diagram → LampRow → Bool
row_fits d r = below (λ a. fits r a (bit d.approaches a)) approaches_in_word

abbrev pub row_in : Diagram → ℕ → LampRow
row_in d i = get_or lamp_rows (d.first + i) dark_row

diagram_fits : Diagram → Bool
diagram_fits d = below (λ i. row_fits d (row_in d i)) (steps_in d)

table_fits : every diagram_fits directory ≡ true
unfolding every below diagram_fits fits lit green_lit directory lamp_rows
table_fits = refl

-- The law

two : {P : Type 0} (x y : Bool) → one_of2 x y ≡ true → (x ≡ true → y ≡ false → P) → (x ≡ false → y ≡ true → P) → P
two true y t f g = f refl (not-true y t)
two false y t f g = g refl t

three : {P : Type 0} (x y z : Bool) → one_of3 x y z ≡ true → (x ≡ true → y ≡ false → z ≡ false → P) → (x ≡ false → y ≡ true → z ≡ false → P)
    → (x ≡ false → y ≡ false → z ≡ true → P) → P
three true y z t f g h = f refl (not-true y (both_left (not y) (not z) t)) (not-true z (both_right (not y) (not z) t))
three false y z t f g h = two y z t (g refl) (h refl)

module _ (r : LampRow) (a : ℕ) where
  shows : fits r a true ≡ true → Shows r a
  unfolding fits
  shows t =
      let vehicles = one_of3 (red_lit r a) (yellow_lit r a) (green_lit r a) in
      let men = one_of2 (red_man_lit r a) (green_man_lit r a) in
      record {
        vehicles =
            three (red_lit r a) (yellow_lit r a) (green_lit r a) (both_left vehicles men t)
            (λ p q s. inl (record { red = p; yellow = q; green = s }))
            (λ p q s. inr (inl (record { red = p; yellow = q; green = s })))
            (λ p q s. inr (inr (record { red = p; yellow = q; green = s })));
        men =
            two (red_man_lit r a) (green_man_lit r a) (both_right vehicles men t)
            (λ p q. inl (record { red_man = p; green_man = q }))
            (λ p q. inr (record { red_man = p; green_man = q }));
      }

  dark : fits r a false ≡ true → Dark r a
  unfolding fits
  dark t =
      let off : (i : ℕ) → get_or (lamps r a) i false ≡ false = λ i. not-true (get_or (lamps r a) i false) (every-at not (lamps r a) i false t (λ _. refl)) in
      record { red = off 0; yellow = off 1; green = off 2; red_man = off 3; green_man = off 4 }

  judged : (used : Bool) → fits r a used ≡ true → (used ≡ true → Shows r a) × (used ≡ false → Dark r a)
  judged true t = (λ _. shows t, λ e. absurd (clash e refl))
  judged false t = (λ e. absurd (clash refl e), λ _. dark t)

diagram-fits : (order : ℕ) → diagram_fits (diagram_of order) ≡ true
unfolding diagram_fits below
diagram-fits order = found-passes diagram_fits table_fits (λ _. refl) order

pub lamp-rule : LampRule
unfolding diagram_fits
lamp-rule order step a s h =
    let d = diagram_of order in
    let r = row_in d (step - 1) in
    let t = below_at (λ i. row_fits d (row_in d i)) (steps_in d) (step - 1) (diagram-fits order) (omega (arith, s.first, s.last)) in
    let ok = judged r a (bit d.approaches a) (below_at (λ b. fits r b (bit d.approaches b)) approaches_in_word a t h) in
    let e = row-there order step s.first s.last in
    record { used = rw e ok.0; unused = rw e ok.1 }
