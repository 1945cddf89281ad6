-- What specs/Shown.antt promises: the search finds each order's line, and the laws of the rows say the rest.
use Prim.Native.Nat.{ℕ, ◌+◌, ◌*◌, ◌-◌, ◌≤◌}
use mathlib.Core.Path.{◌≡◌, refl, ap, ◌∙◌}
use mathlib.Core.Bool.{true}
use native.Mathlib.Omega.{arith}
use Rattle.octets.proofs.Every.{below, below_at}
use Rattle.diagram.specs.declared.LampRow.{LampRow}
use Rattle.diagram.specs.Row.{Diagram, diagram}
use Rattle.diagram.specs.Rows.{lamp_rows, directory}
use Rattle.diagram.specs.Table.{steps_aphase, find, diagram_of, approaches_of, steps_of}
use Rattle.diagram.specs.Lamps.{bit}
use Rattle.diagram.specs.Shown.{table_row, StepShown, OrderShown, WordsShown}
use Rattle.diagram.proofs.Laws.{number-there, row-there}
use Rattle.diagram.proofs.Words.{bit_past}

-- approaches A to D, as a line has them, and how many they are
abbrev four_approaches : ℕ
four_approaches = 0x0f

abbrev approaches : ℕ
approaches = 4

used-pass : below (bit four_approaches) approaches ≡ true
unfolding below
used-pass = refl

module _ (order first phases : ℕ) (found : diagram_of order ≡ diagram order first phases four_approaches) where
  begins : (diagram_of order).first ≡ first
  begins = ap (λ (d : Diagram). d.first) found

  long : (diagram_of order).phases ≡ phases
  long = ap (λ (d : Diagram). d.phases) found

  uses-four : approaches_of order ≡ four_approaches
  uses-four = ap (λ (d : Diagram). d.approaches) found

  step-shown : (step : ℕ) → 1 ≤ step → step ≤ steps_aphase * phases → StepShown order step (first + (step - 1))
  step-shown step h l =
      let last : step ≤ steps_of order = omega (arith, l, long) in
      let r = row-there order step h last ∙ ap (λ (n : ℕ). table_row (n + (step - 1))) begins in
      record {
        has = record { first = h; last = last };
        number = number-there order step h last ∙ ap (λ (n : ℕ). n + (step - 1)) begins;
        words = r;
        steady = ap (λ (w : LampRow). w.steady) r;
        flashing = ap (λ (w : LampRow). w.flashing) r;
      }

  order-shown : OrderShown order first phases
  order-shown = record {
    phases = long;
    steps = step-shown;
    used = λ a h. rw uses-four (below_at (bit four_approaches) approaches a used-pass h);
    unused = λ a h. rw uses-four (bit_past four_approaches approaches a (omega arith) h);
  }

pub words-shown : WordsShown
unfolding directory find diagram_of lamp_rows
words-shown = record {
  d00_a = order-shown 0x00 0 2 refl;
  d07_a = order-shown 0x20 10 3 refl;
  d14_a = order-shown 0x38 25 3 refl;
  d19_a = order-shown 0x50 40 4 refl;
  d19_b = order-shown 0x51 60 4 refl;
  d20_a = order-shown 0x52 80 4 refl;
  d20_b = order-shown 0x53 100 4 refl;
  d20_c = order-shown 0x54 120 4 refl;
  d20_d = order-shown 0x55 140 4 refl;
  d21_a = order-shown 0x56 160 4 refl;
  d21_b = order-shown 0x57 180 4 refl;
  d22_a = order-shown 0x60 200 4 refl;
  d22_b = order-shown 0x61 220 4 refl;
  d23_a = order-shown 0x62 240 4 refl;
  d23_b = order-shown 0x63 260 4 refl;
  d24_a = order-shown 0x64 280 4 refl;
  d24_b = order-shown 0x65 300 4 refl;
  d25_a = order-shown 0x66 320 4 refl;
  d25_b = order-shown 0x67 340 4 refl;
  d26_a = order-shown 0x68 360 4 refl;
  d26_b = order-shown 0x69 380 4 refl;
  d27_a = order-shown 0x6a 400 4 refl;
  d27_b = order-shown 0x6b 420 4 refl;
  d28_a = order-shown 0x6c 440 4 refl;
  d28_b = order-shown 0x6d 460 4 refl;
  rows = refl;
  steady = λ s f. refl;
  flashing = λ s f. refl;
}
