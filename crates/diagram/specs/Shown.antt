-- 02, E2: "All steps stand in one table of lamp words." Which of its rows each phase order shows, step by step, and with which approaches.
use Rattle.std.specs.Prelude.{ℕ, ◌+◌, ◌*◌, ◌-◌, ◌≤◌, ◌<◌, ◌≡◌, true, false, length, get_or}
use Rattle.diagram.specs.declared.LampRow.{LampRow}
use Rattle.diagram.specs.Row.{row}
use Rattle.diagram.specs.Rows.{lamp_rows}
use Rattle.diagram.specs.Table.{phases_of, row_number, lamp_row_of, steady_of, flashing_of}
use Rattle.diagram.specs.Known.{Step}
use Rattle.diagram.specs.Lamps.{uses}

-- row n of the table, from 0
abbrev pub table_row : ℕ → LampRow
table_row n = get_or lamp_rows n (row 0 0)

-- The order has the step, and shows the two words of row n.
pub record StepShown (order step n : ℕ) : Type 0 where
  pub has : Step order step
  pub number : row_number order step ≡ n
  pub words : lamp_row_of order step ≡ table_row n
  pub steady : steady_of order step ≡ (table_row n).steady
  pub flashing : flashing_of order step ≡ (table_row n).flashing

-- The order has k phases, the rows of their "five steps to each" stand one after another from row `first` on, and it uses approaches A to D alone.
pub record OrderShown (order first k : ℕ) : Type 0 where
  pub phases : phases_of order ≡ k
  pub steps : (step : ℕ) → 1 ≤ step → step ≤ 5 * k → StepShown order step (first + (step - 1))
  pub used : (a : ℕ) → a < 4 → uses order a ≡ true
  pub unused : (a : ℕ) → 4 ≤ a → uses order a ≡ false

-- "The phase order is the type code of Appendix 1, as 60 and 61 for number 22 (A) and (B)": each diagram's code, first row and phases.
pub record OrdersShown : Type 0 where
  pub d00_a : OrderShown 0x00 0 2
  pub d07_a : OrderShown 0x20 10 3
  pub d14_a : OrderShown 0x38 25 3
  pub d19_a : OrderShown 0x50 40 4
  pub d19_b : OrderShown 0x51 60 4
  pub d20_a : OrderShown 0x52 80 4
  pub d20_b : OrderShown 0x53 100 4
  pub d20_c : OrderShown 0x54 120 4
  pub d20_d : OrderShown 0x55 140 4
  pub d21_a : OrderShown 0x56 160 4
  pub d21_b : OrderShown 0x57 180 4
  pub d22_a : OrderShown 0x60 200 4
  pub d22_b : OrderShown 0x61 220 4
  pub d23_a : OrderShown 0x62 240 4
  pub d23_b : OrderShown 0x63 260 4
  pub d24_a : OrderShown 0x64 280 4
  pub d24_b : OrderShown 0x65 300 4
  pub d25_a : OrderShown 0x66 320 4
  pub d25_b : OrderShown 0x67 340 4
  pub d26_a : OrderShown 0x68 360 4
  pub d26_b : OrderShown 0x69 380 4
  pub d27_a : OrderShown 0x6a 400 4
  pub d27_b : OrderShown 0x6b 420 4
  pub d28_a : OrderShown 0x6c 440 4
  pub d28_b : OrderShown 0x6d 460 4
  -- and the table ends there
  pub rows : length lamp_rows ≡ 480
  -- a row has the words with which it is written, the steady one first
  pub steady : (s f : ℕ) → (row s f).steady ≡ s
  pub flashing : (s f : ℕ) → (row s f).flashing ≡ f

abbrev pub WordsShown : Type 0
WordsShown = OrdersShown
