-- What the functions rest on: where the words of a row stand in the code's lines, and the first row of each order.
use Prim.Native.Nat.{ℕ, zero, suc, ◌+◌, ◌*◌, ◌-◌, ◌/◌, ◌%◌, ◌≤◌, ◌<◌}
use mathlib.Core.Path.{◌≡◌, refl, ap, ◌∙◌}
use mathlib.Core.Bool.{true}
use mathlib.Core.List.{List, [], ◌∷◌}
use native.Mathlib.Omega.{arith}
use borrow.Author.Tests.{eqb-true}
use lib.Dec.{eqb, leb}
use lib.ListN.{get_or, drop}
use lib.Seq.{get_or-take, get_or-drop}
use Rattle.octets.specs.Choice.{pick}
use Rattle.octets.proofs.Every.{every, every-at}
use Rattle.diagram.specs.declared.LampRow.{LampRow}
use Rattle.diagram.specs.Rows.{lamp_rows, directory}
use Rattle.diagram.specs.Table.{diagram_of, phases_of, dark_row}
use Rattle.diagram.specs.Known.{no_line, line_at}
use Rattle.diagram.proofs.Known.{phases-known, each-found}
use Rattle.diagram_calls.specs.Lines.{words_of, words, rows_aline, line_len, line_words, pair_at}

-- Words

-- a word, by the line that it stands in
word_in : (p at n : ℕ) → at < line_len → line_len * p + at ≡ n → get_or (line_words p) at 0 ≡ get_or words n 0
unfolding line_words
word_in p at n h e = get_or-take line_len (drop (line_len * p) words) at 0 h ∙ get_or-drop (line_len * p) words at 0 ∙ ap (λ (m : ℕ). get_or words m 0) e

-- the two words of a row
words-at : (rs : List LampRow) (n : ℕ) → (get_or (words_of rs) (2 * n) 0 ≡ (get_or rs n dark_row).steady) × (get_or (words_of rs) (2 * n + 1) 0 ≡ (get_or rs n dark_row).flashing)
unfolding words_of
words-at [] n = (refl, refl)
words-at (r ∷ rs) zero = (refl, refl)
words-at (r ∷ rs) (suc n) =
    let e : 2 * suc n ≡ suc (suc (2 * n)) = omega arith in
    let o : 2 * suc n + 1 ≡ suc (suc (2 * n + 1)) = omega arith in
    rw (o, e) (words-at rs n)

-- a row, by the line that its words stand in
pub pair_row : (n p : ℕ) → n / rows_aline ≡ p → pair_at (line_words p) (2 * (n % rows_aline)) ≡ get_or lamp_rows n dark_row
pair_row n p e =
    let at = 2 * (n % rows_aline) in
    rw (word_in p at (2 * n) (omega arith) (omega arith), word_in p (at + 1) (2 * n + 1) (omega arith) (omega arith), (words-at lamp_rows n).0, (words-at lamp_rows n).1)

-- First rows

-- the first row of each code, as the code asks for it
unfoldable pub first_due : ℕ → ℕ
first_due order =
    pick (leb 0x60 order) (200 + 20 * (order - 0x60))
    (pick (leb 0x50 order) (40 + 20 * (order - 0x50))
    (pick (eqb order 0x20) 10
    (pick (eqb order 0x38) 25 0)))

firsts-pass : every (λ d. eqb d.first (first_due d.order)) directory ≡ true
unfolding every directory first_due
firsts-pass = refl

pub first-due : (order : ℕ) → 1 ≤ phases_of order → (diagram_of order).first ≡ first_due order
first-due order h =
    let k = phases-known order h in
    let l = line_at k.line in
    let t = every-at (λ d. eqb d.first (first_due d.order)) directory k.line no_line firsts-pass (λ g. absurd (omega (arith, g, k.within))) in
    rw (← k.there, each-found k.line k.within) (eqb-true l.first (first_due l.order) t)
