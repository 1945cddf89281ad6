-- How the code walks over the fields of a message, "left to right": the rows of the table of fields that it has still to come to.
use Rattle.std.specs.Prelude.{ℕ, zero, suc, ◌-◌, ◌≤◌, ◌<◌, List, ◌++◌}
use Rattle.message.specs.declared.layout.Field.{Field}
use Rattle.message.specs.Table.{table_len, cut}
use Rattle.message_calls.specs.declared.walk.Walk.{Walk}

-- from a row on: straight to the end, or, where the repeated rows come again so many times, up to the row after them and then from the first of them
unfoldable pub fields_from : ℕ → ℕ → ℕ → ℕ → ℕ → List Field
fields_from first after end row zero = cut row (end - row)
fields_from first after end row (suc again) = cut row (after - row) ++ fields_from first after end first again

abbrev pub fields_ahead : Walk → List Field
fields_ahead w = fields_from w.first w.after w.end w.row (w.rounds - 1)

-- a walk that has its place in the table
pub record Walking (w : Walk) : Type 0 where
  pub ends : w.after ≤ w.end
  pub inside : w.end ≤ table_len
  -- what comes again is some rows, and the walk has not come past them
  pub again : 1 < w.rounds → (w.row < w.after) × (w.first < w.after)
