-- A row of the table of lamp words, and a line of its directory.
use Rattle.std.specs.Prelude.{ℕ}
use Rattle.diagram.specs.declared.LampRow.{LampRow}

-- "a 64-bit steady word and a flashing word"
abbrev pub row : ℕ → ℕ → LampRow
row s f = record { steady = s; flashing = f }

-- a phase order, its first row (from 0), its phases, and the approaches it uses (bit 0 for A, on to bit 7 for H)
pub record Diagram : Type 0 where
  pub order : ℕ
  pub first : ℕ
  pub phases : ℕ
  pub approaches : ℕ

abbrev pub diagram : ℕ → ℕ → ℕ → ℕ → Diagram
diagram o f p a = record { order = o; first = f; phases = p; approaches = a }
