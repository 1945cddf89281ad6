-- The ways through the reader's definition of a part, and through the test of what may be written.
use Prim.Native.Nat.{ℕ}
use mathlib.Core.Path.{◌≡◌, sym, ap, ◌∙◌}
use mathlib.Core.Bool.{true, false}
use mathlib.Core.List.{List}
use borrow.Author.Tests.{eq-eqb, ne_eqb}
use lib.ListN.{length}
use Rattle.octets.specs.Refusal as refusal
use Rattle.message.specs.declared.Message.{Message}
use Rattle.message.specs.Layouts.{layout_at, known, k_fits, rows_at}
use Rattle.message.specs.Reader.{not_read, ranged_of, read_part_of}
use Rattle.message.specs.Table.{Kept}
use Rattle.message.specs.Values.{size_of, first_out}
use Rattle.message.specs.Writer.{number_in, k_of_message, writable_as, writable}
use Rattle.message_calls.specs.declared.shape.Shape.{Shape}
use Rattle.message_calls.specs.Shape.{shape_rows}
use Rattle.message_calls.proofs.Shapes.{rows-by}

module _ (l k : ℕ) (os : List ℕ) where
  pub part-10 : known l ≡ false → not_read refusal.code_not_handled 0 ≡ read_part_of l k os
  unfolding read_part_of
  part-10 h = rw h

  module _ (h : known l ≡ true) where
    pub part-11-k : k_fits (layout_at l) k ≡ false → not_read refusal.info_length_wrong 0 ≡ read_part_of l k os
    unfolding read_part_of
    part-11-k f = rw (h, f)

    module _ (f : k_fits (layout_at l) k ≡ true) where
      pub part-11-len : (length os ≡ size_of (rows_at l k) → ⊥) → not_read refusal.info_length_wrong 0 ≡ read_part_of l k os
      unfolding read_part_of
      part-11-len n = rw (h, f) (rw (ne_eqb (length os) (size_of (rows_at l k)) n))

      pub part-on : length os ≡ size_of (rows_at l k) → ranged_of l k os ≡ read_part_of l k os
      unfolding read_part_of
      part-on e = rw (h, f) (rw (eq-eqb (length os) (size_of (rows_at l k)) e))

module _ (m : Message) where
  pub writable-10 : known (number_in m) ≡ false → writable m ≡ false
  unfolding writable_as
  writable-10 h = rw h

  module _ (s : Shape) (kept : Kept (number_in m) s.line) (ek : s.k ≡ k_of_message m) where
    pub rows-in : shape_rows s ≡ rows_at (number_in m) (k_of_message m)
    rows-in = rows-by s kept ∙ ap (rows_at (number_in m)) ek

  module _ (h : known (number_in m) ≡ true) where
    pub writable-k : k_fits (layout_at (number_in m)) (k_of_message m) ≡ false → writable m ≡ false
    unfolding writable_as
    writable-k f = rw (h, f)

    module _ (s : Shape) (kept : Kept (number_in m) s.line) (ek : s.k ≡ k_of_message m) where
      there : shape_rows s ≡ rows_at (number_in m) (k_of_message m)
      there = rows-in s kept ek

      module _ (f : k_fits (layout_at (number_in m)) (k_of_message m) ≡ true) where
        pub wrong-fields : (m.fields ≡ length (shape_rows s) → ⊥) → writable m ≡ false
        unfolding writable_as
        wrong-fields n = rw (h, f) (rw (ne_eqb m.fields (length (rows_at (number_in m) (k_of_message m))) (λ e. n (e ∙ ap length (sym there)))))

        module _ (e : m.fields ≡ length (shape_rows s)) where
          same-fields : m.fields ≡ length (rows_at (number_in m) (k_of_message m))
          same-fields = e ∙ ap length there

          pub wrong-value : (first_out (shape_rows s) m.values ≡ 0 → ⊥) → writable m ≡ false
          unfolding writable_as
          wrong-value n = rw (h, f, eq-eqb m.fields (length (rows_at (number_in m) (k_of_message m))) same-fields) (rw (← there) (ne_eqb (first_out (shape_rows s) m.values) 0 n))

          pub right-values : first_out (shape_rows s) m.values ≡ 0 → writable m ≡ true
          unfolding writable_as
          right-values z = rw (h, f, eq-eqb m.fields (length (rows_at (number_in m) (k_of_message m))) same-fields) (rw (← there) (eq-eqb (first_out (shape_rows s) m.values) 0 z))
