-- A walk over the fields of a layout has the layout's rows ahead at first, and from each row one less.
use Prim.Native.Nat.{ℕ, zero, suc, ◌+◌, ◌-◌, ◌≤◌, ◌<◌}
use mathlib.Core.Path.{◌≡◌, refl, sym, ap}
use mathlib.Core.List.{List, [], ◌∷◌, ◌++◌, append_assoc}
use native.Mathlib.Decide.{dec_lt}
use native.Mathlib.Numerals.{add-one}
use native.Mathlib.Omega.{arith}
use lib.ListN.{get_or}
use lib.Seq.{drop-cons, drop-drop, take-add}
use Rattle.message.specs.declared.layout.Field.{Field}
use Rattle.message.specs.declared.layout.LayoutLine.{LayoutLine}
use Rattle.message.specs.Fields.{no_field}
use Rattle.message.specs.Layouts.{layout_rows, repeated}
use Rattle.message.specs.Table.{table, table_len, cut, kept_by}
use Rattle.message_calls.specs.declared.shape.Shape.{Shape}
use Rattle.message_calls.specs.Shape.{shape_rows}
use Rattle.message_calls.specs.declared.walk.Walk.{Walk}
use Rattle.message_calls.specs.Walk.{fields_from, fields_ahead, Walking}

-- Rows of the table, from one on

cut-next : (row e : ℕ) → row < e → e ≤ table_len → cut row (e - row) ≡ get_or table row no_field ∷ cut (row + 1) (e - (row + 1))
unfolding table cut
cut-next row e h t = let s : e - row ≡ suc (e - (row + 1)) = omega arith in rw (s, drop-cons table row no_field (omega arith), add-one)

cut-done : (row e : ℕ) → e ≤ row → cut row (e - row) ≡ []
unfolding cut
cut-done row e h = let s : e - row ≡ 0 = omega arith in rw s

cut_on : (a m n b c : ℕ) → a + m ≡ b → m + n ≡ c → cut a m ++ cut b n ≡ cut a c
unfolding cut
cut_on a m n b c e f = rw (← e, ← f, take-add, drop-drop)

-- From a layout's first row on

module _ (y : LayoutLine) where
  abbrev first : ℕ
  first = y.from + y.head

  abbrev after : ℕ
  after = first + y.group

  abbrev end : ℕ
  end = after + y.tail

  rounds-ahead : (again row : ℕ) → row ≤ after
      → cut row (after - row) ++ (repeated again (cut first y.group) ++ cut after y.tail) ≡ fields_from first after end row again
  unfolding fields_from
  rounds-ahead zero row h = cut_on row (after - row) y.tail after (end - row) (omega arith) (omega arith)
  rounds-ahead (suc again) row h =
      let g : after - first ≡ y.group = omega arith in
      rw append_assoc (ap (λ (fs : List Field). cut row (after - row) ++ fs) (rw g at (rounds-ahead again first (omega arith))))

  layout-ahead : (k : ℕ) → (k ≡ 0 → y.group ≡ 0) → layout_rows (kept_by y) k ≡ fields_from first after end y.from (k - 1)
  unfolding layout_rows fields_from
  layout-ahead zero h = cut_on y.from y.head y.tail after (end - y.from) (omega (arith, h refl)) (omega (arith, h refl))
  layout-ahead (suc again) h =
      let e : suc again - 1 ≡ again = omega arith in
      rw (e, ← rounds-ahead again y.from (omega arith), ← cut_on y.from y.head y.group first (after - y.from) refl (omega arith)) (simp append_assoc)

-- the walk from a layout's first row on, for k
pub over-stands : (s : Shape) → (let y = s.line in let w : Walk = record { row = y.from; rounds = s.k; first = first y; after = after y; end = end y } in Walking w × (fields_ahead w ≡ shape_rows s))
over-stands s =
    let y = s.line in (
      record { ends = omega arith; inside = s.inside; again = λ p. (omega (arith, s.group_where_k), omega (arith, s.group_where_k)) },
      sym (layout-ahead y s.k (λ e. omega (arith, s.k_where_group))),
    )

-- A step

module _ (w : Walk) (h : Walking w) where
  pub ahead-done : w.end ≤ w.row → fields_ahead w ≡ []
  unfolding fields_from
  ahead-done d =
      let q : 1 < w.rounds → ⊥ = λ p. omega (arith, (h.again p).0, h.ends) in
      let s : w.rounds - 1 ≡ 0 = omega arith in
      rw s (cut-done w.row w.end d)

  pub ahead-next : w.row < w.end → fields_ahead w ≡ get_or table w.row no_field ∷ fields_from w.first w.after w.end (w.row + 1) (w.rounds - 1)
  unfolding fields_from
  ahead-next l = by (dec_lt 1 w.rounds)
    where
      by : Dec (1 < w.rounds) → fields_ahead w ≡ get_or table w.row no_field ∷ fields_from w.first w.after w.end (w.row + 1) (w.rounds - 1)
      by (yes p) =
          let s : w.rounds - 1 ≡ suc (w.rounds - 2) = omega arith in
          rw (s, cut-next w.row w.after (h.again p).0 (omega (arith, h.ends, h.inside)))
      by (no q) = let s : w.rounds - 1 ≡ 0 = omega arith in rw (s, cut-next w.row w.end l h.inside)

  module _ (l : w.row < w.end) where
    -- the walk after the field of its row
    abbrev On : Walk → Type 0
    On t = Walking t × (fields_ahead w ≡ get_or table w.row no_field ∷ fields_ahead t)

    pub on-stands : (1 < w.rounds → w.row + 1 ≡ w.after → ⊥) → On (record { row = w.row + 1; rounds = w.rounds; first = w.first; after = w.after; end = w.end })
    on-stands n = (record { ends = h.ends; inside = h.inside; again = λ p. (omega (arith, (h.again p).0, n p), (h.again p).1) }, ahead-next l)

    pub again-stands : w.row + 1 ≡ w.after → 1 < w.rounds → On (record { row = w.first; rounds = w.rounds - 1; first = w.first; after = w.after; end = w.end })
    unfolding fields_from
    again-stands e p =
        let s : w.rounds - 1 ≡ suc (w.rounds - 2) = omega arith in
        let t : w.rounds - 1 - 1 ≡ w.rounds - 2 = omega arith in (
          record { ends = h.ends; inside = h.inside; again = λ q. ((h.again p).1, (h.again p).1) },
          rw (ahead-next l, t, s, cut-done (w.row + 1) w.after (omega arith)),
        )
