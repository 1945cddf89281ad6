-- The rows of a layout, and how the code's table keeps them.
use Prim.Native.Nat.{ℕ, zero, suc, ◌+◌, ◌*◌, ◌≤◌, ◌<◌}
use mathlib.Core.Path.{◌≡◌, refl, sym, ap, ◌∙◌}
use mathlib.Core.List.{List, ◌++◌}
use native.Mathlib.Nat.{mul-le-mul_right, zero-mul, suc-mul}
use native.Mathlib.Omega.{arith}
use lib.Dec.{leb}
use lib.ListN.{length, get_or, drop, length-append, length-drop, get_or-eq_default}
use lib.Seq.{get_or-take, get_or-drop, length-take-le}
use Rattle.octets.specs.Choice.{both}
use Rattle.octets.proofs.Every.{every, every-at}
use Rattle.message.specs.declared.layout.Field.{Field}
use Rattle.message.specs.declared.layout.LayoutLine.{LayoutLine}
use Rattle.message.specs.Fields.{no_field}
use Rattle.message.specs.Layouts as specified
use Rattle.message.specs.Layouts.{layouts, layout_at, no_layout, most_at, layout_rows, rows_at, k_fits, repeated}
use Rattle.message.specs.Values.{fields_most, size_of}
use Rattle.message.specs.Table.{table, table_len, cut, kept_by, Kept}
use Rattle.message.proofs.Ranges.{both-le}
use Rattle.message.proofs.Values.{size-append, size-repeated, size-most}

pub length-repeated : (k : ℕ) (g : List Field) → length (repeated k g) ≡ k * length g
length-repeated zero g = sym (zero-mul (length g))
length-repeated (suc k) g = omega (arith, length-append g (repeated k g), length-repeated k g, suc-mul k (length g))

module _ (hs g t : List Field) (k : ℕ) where
  pub rows-length : length (hs ++ (repeated k g ++ t)) ≡ length hs + k * length g + length t
  rows-length = simp (length-append, length-repeated) (omega arith)

  pub rows-octets : size_of (hs ++ (repeated k g ++ t)) ≡ size_of hs + k * size_of g + size_of t
  rows-octets = rw (size-append, size-append, size-repeated) (omega arith)

-- the rows of a layout, as the code's table keeps them
module _ (from n : ℕ) (h : from + n ≤ table_len) where
  pub length_cut : length (cut from n) ≡ n
  unfolding cut table
  length_cut = length-take-le n (drop from table) (simp length-drop (omega arith))

  pub cut_at : (i : ℕ) → i < n → get_or (cut from n) i no_field ≡ get_or table (from + i) no_field
  unfolding cut
  cut_at i l = rw (get_or-take, get_or-drop)

-- The code's lines

-- a line that cuts out the layout of a number keeps it
module _ {y : LayoutLine} (inside : y.from + y.head + y.group + y.tail ≤ table_len) where
  pub kept_at : {l : ℕ} (n : ℕ) → l ≡ n → kept_by y ≡ layout_at n → Kept l y
  kept_at n e is = rw e (record { is = is; inside = inside })

  pub kept-none : {l : ℕ} → length layouts ≤ l → kept_by y ≡ no_layout → Kept l y
  unfolding layout_at
  kept-none {l} h is = record { is = is ∙ sym (get_or-eq_default layouts no_layout h); inside = inside }

pub kept-code : {l : ℕ} {y : LayoutLine} → Kept l y → y.code ≡ (layout_at l).code
kept-code h = ap (λ (l : specified.Layout). l.code) h.is

pub kept-count : {l : ℕ} {y : LayoutLine} → Kept l y → y.count ≡ (layout_at l).count
kept-count h = ap (λ (l : specified.Layout). l.count) h.is

module _ {l : ℕ} {y : LayoutLine} (h : Kept l y) (k : ℕ) where
  pub kept-fits : both (leb y.fewest k) (leb k y.most) ≡ k_fits (layout_at l) k
  kept-fits = rw (← h.is)

  pub kept-len : y.head + k * y.group + y.tail ≡ length (rows_at l k)
  unfolding rows_at layout_rows
  kept-len =
      let a = length_cut y.from y.head (omega (arith, h.inside)) in
      let b = length_cut (y.from + y.head) y.group (omega (arith, h.inside)) in
      let c = length_cut (y.from + y.head + y.group) y.tail (omega (arith, h.inside)) in
      rw (← h.is, rows-length, a, b, c)

  pub kept-size : size_of (cut y.from y.head) + size_of (cut (y.from + y.head + y.group) y.tail) + k * size_of (cut (y.from + y.head) y.group) ≡ size_of (rows_at l k)
  unfolding rows_at layout_rows
  kept-size = rw (← h.is, rows-octets) (omega arith)

-- What holds of every layout

pub fitting-at : (l : ℕ) → (let y = layout_at l in (length y.head + y.most * length y.group + length y.tail ≤ fields_most) × (y.count ≤ length y.head))
unfolding layouts layout_at every
fitting-at l =
    both-le _ _ _ _
    (every-at (λ (y : specified.Layout). both (leb (length y.head + y.most * length y.group + length y.tail) fields_most) (leb y.count (length y.head)))
    layouts l no_layout refl (λ _. refl))

pub rows-most : (l k : ℕ) → k ≤ most_at l → length (rows_at l k) ≤ fields_most
unfolding rows_at layout_rows
rows-most l k h = let y = layout_at l in omega (arith, (fitting-at l).0, rows-length y.head y.group y.tail k, mul-le-mul_right (length y.group) h)

pub rows-size : (l k : ℕ) → k ≤ most_at l → size_of (rows_at l k) ≤ 2 * fields_most
rows-size l k h = omega (arith, size-most (rows_at l k), rows-most l k h)
