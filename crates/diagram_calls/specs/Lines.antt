-- The table of lamp words as the code holds it: word after word, in lines of forty.
use Rattle.std.specs.Prelude.{ℕ, ◌+◌, ◌*◌, List, [], ◌∷◌, get_or, take, drop}
use Rattle.diagram.specs.declared.LampRow.{LampRow}
use Rattle.diagram.specs.Row.{row}
use Rattle.diagram.specs.Rows.{lamp_rows}

-- the steady and the flashing word of each row
unfoldable pub words_of : List LampRow → List ℕ
words_of [] = []
words_of (r ∷ rs) = r.steady ∷ r.flashing ∷ words_of rs

abbrev pub words : List ℕ
words = words_of lamp_rows

abbrev pub rows_aline : ℕ
rows_aline = 20

abbrev pub line_len : ℕ
line_len = 2 * rows_aline

-- line p, from 0
unfoldable pub line_words : ℕ → List ℕ
line_words p = take line_len (drop (line_len * p) words)

-- the two words that stand in a line from a place on
abbrev pub pair_at : List ℕ → ℕ → LampRow
pair_at line at = row (get_or line at 0) (get_or line (at + 1) 0)
