-- The words of the table, by one computed test over its rows; a row that is not there is dark, and passes it too.
use Prim.Native.Nat.{ℕ, ◌-◌, ◌^◌, ◌≤◌, ◌<◌}
use mathlib.Core.Path.{◌≡◌, refl}
use mathlib.Core.Bool.{Bool, true, false, not}
use mathlib.Core.List.{List, [], ◌∷◌}
use native.Mathlib.Decide.{dec_lt}
use native.Mathlib.Nat.{div-eq_of_lt, lt_of_lt_of_le, pow-le-pow_right}
use native.Mathlib.Omega.{arith}
use borrow.Author.Tests.{not-true, ltb-true}
use lib.Dec.{ltb}
use lib.ListN.{get_or}
use Rattle.octets.specs.Choice.{both}
use Rattle.octets.proofs.Laws.{clash}
use Rattle.octets.proofs.Every.{every, every-at, all, all-at, below, below_at}
use Rattle.diagram.specs.declared.LampRow.{LampRow}
use Rattle.diagram.specs.Rows.{lamp_rows}
use Rattle.diagram.specs.Table.{dark_row, row_number, lamp_row_of, steady_of, flashing_of}
use Rattle.diagram.specs.Lamps.{bit, lamp_in, SteadyOrFlashing, WordsFit}
use Rattle.diagram.proofs.Laws.{last_lamp}

abbrev not_both : LampRow → ℕ → Bool
not_both r i = not (both (bit r.steady i) (bit r.flashing i))

word_tests : LampRow → List Bool
word_tests r = ltb r.steady (2 ^ last_lamp) ∷ ltb r.flashing (2 ^ last_lamp) ∷ below (not_both r) last_lamp ∷ []

rows_pass : every (λ r. all (word_tests r)) lamp_rows ≡ true
unfolding every all below word_tests lamp_rows
rows_pass = refl

row-passes : (order step k : ℕ) → get_or (word_tests (lamp_row_of order step)) k true ≡ true
unfolding lamp_row_of every all below word_tests
row-passes order step k = all-at (word_tests (lamp_row_of order step)) k (every-at (λ r. all (word_tests r)) lamp_rows (row_number order step) dark_row rows_pass (λ _. refl))

pub steady-fits : (order step : ℕ) → steady_of order step < 2 ^ last_lamp
unfolding word_tests
steady-fits order step = ltb-true (steady_of order step) (2 ^ last_lamp) (row-passes order step 0)

pub flashing-fits : (order step : ℕ) → flashing_of order step < 2 ^ last_lamp
unfolding word_tests
flashing-fits order step = ltb-true (flashing_of order step) (2 ^ last_lamp) (row-passes order step 1)

pub words-fit : WordsFit
words-fit order step = (steady-fits order step, flashing-fits order step)

-- a word has no lamp past its length
pub bit_past : (w n i : ℕ) → w < 2 ^ n → n ≤ i → bit w i ≡ false
bit_past w n i h l = rw (div-eq_of_lt (lt_of_lt_of_le h (pow-le-pow_right (omega arith) l)))

apart : (x y : Bool) → not (both x y) ≡ true → x ≡ true → y ≡ false
apart true y t e = not-true y t
apart false y t e = absurd (clash refl e)

pub steady-or-flashing : SteadyOrFlashing
unfolding word_tests
steady-or-flashing order step m t = by (dec_lt (m - 1) last_lamp)
  where
    by : Dec (m - 1 < last_lamp) → lamp_in (flashing_of order step) m ≡ false
    by (yes l) =
        let s = below_at (not_both (lamp_row_of order step)) last_lamp (m - 1) (row-passes order step 2) l in
        apart (lamp_in (steady_of order step) m) (lamp_in (flashing_of order step) m) s t
    by (no g) = bit_past (flashing_of order step) last_lamp (m - 1) (flashing-fits order step) (omega arith)
