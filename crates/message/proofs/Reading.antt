-- What follows from the reader's definitions: one law for each way through.
use Prim.Native.Nat.{ℕ, zero, suc, ◌-◌, ◌≤◌, ◌<◌}
use mathlib.Core.Path.{◌≡◌, refl, sym, ◌∙◌}
use mathlib.Core.Bool.{Bool, true, false, not}
use mathlib.Core.List.{List, [], ◌∷◌, ◌++◌, append_assoc}
use native.Mathlib.Omega.{arith}
use borrow.Author.Tests.{eqb-true, lt-ltb, le-ltb, le-leb, not-true}
use lib.Dec.{eqb, leb}
use lib.ListN.{length, get_or, drop, get_or-append, get_or-eq_default}
use lib.Seq.{drop-drop}
use Rattle.octets.specs.Choice.{pick, both}
use Rattle.octets.specs.Refusal as refusal
use Rattle.octets.specs.Part.{code_len}
use Rattle.octets.specs.Word.{word_of}
use Rattle.octets.proofs.Laws.{both_left, both_right}
use Rattle.octets.proofs.Every.{every, every-at}
use Rattle.octets.proofs.Search.{search-first}
use Rattle.message.specs.declared.layout.Field.{Field}
use Rattle.message.specs.Fields.{two_of, width_of, value_of, no_field}
use Rattle.message.specs.Layouts.{Layout, layouts, no_layout, layout_at, number_of, rows_at, layout_rows, k_fits}
use Rattle.message.specs.Values.{fields_most, size_of, field_start, values_of, placed, numbered, first_out, out_at}
use Rattle.message.specs.Reader.{not_read, k_in, read_part_of, read_of}
use Rattle.message.proofs.Layouts.{fitting-at}
use Rattle.message.proofs.Ranges.{both-le, placed_at}
use Rattle.message.proofs.Values.{numbered-one, value-at, length-values}

pub first-out-most : (fs : List Field) (vs : List ℕ) → first_out fs vs ≤ fields_most
unfolding first_out
first-out-most fs vs = (search-first (out_at fs vs) fields_most).within

-- past the last field there is none, and no value: nothing to be out of range
pub none-past : (fs : List Field) (os : List ℕ) (j : ℕ) → length fs ≤ j → out_at fs (placed (values_of fs os)) j ≡ false
none-past fs os j h =
    rw (get_or-eq_default fs no_field h, placed_at (values_of fs os) j, get_or-eq_default (values_of fs os) 0 {n = j} (omega (arith, length-values fs os)))

pub values-append : (fs gs : List Field) (os : List ℕ) → values_of (fs ++ gs) os ≡ values_of fs os ++ values_of gs (drop (size_of fs) os)
values-append [] gs os = refl
values-append (f ∷ fs) gs os = rw (values-append fs gs (drop (width_of (two_of f)) os), drop-drop)

numbered-append : (xs ys : List ℕ) (n : ℕ) → n ≤ length xs → numbered (xs ++ ys) n ≡ numbered xs n
numbered-append xs ys zero h = refl
numbered-append xs ys (suc n) h = get_or-append xs ys 0 n h

-- the count stands in the head, so it does not depend on k
pub k-placed : (l k : ℕ) (os : List ℕ) → numbered (placed (values_of (rows_at l k) os)) (layout_at l).count ≡ k_in (layout_at l) os
unfolding placed rows_at layout_rows
k-placed l k os =
    let y = layout_at l in
    rw (values-append y.head _ os, append_assoc) (numbered-append (values_of y.head os) _ y.count (rw length-values (fitting-at l).1))

-- the fields up to the count have one octet each
abbrev count_octet : Layout → Bool
count_octet y =
    pick (leb 1 y.count) (both (not (two_of (get_or y.head (y.count - 1) no_field))) (eqb (field_start y.head (y.count - 1)) (y.count - 1))) true

count-octet : (l : ℕ) → count_octet (layout_at l) ≡ true
unfolding layouts layout_at every
count-octet l = every-at count_octet layouts l no_layout refl (λ _. refl)

pub k-octet : (l : ℕ) (os : List ℕ) → 1 ≤ (layout_at l).count → value_of false (drop ((layout_at l).count - 1) os) ≡ k_in (layout_at l) os
k-octet l os h =
    let y = layout_at l in
    let i = y.count - 1 in
    let t = two_of (get_or y.head i no_field) in
    let s = field_start y.head i in
    let r : both (not t) (eqb s i) ≡ true = rw (le-leb 1 y.count h) at (count-octet l) in
    let one : t ≡ false = not-true t (both_left (not t) (eqb s i) r) in
    let there : s ≡ i = eqb-true s i (both_right (not t) (eqb s i) r) in
    sym (numbered-one (values_of y.head os) y.count h ∙ value-at y.head os i (omega (arith, (fitting-at l).1)) ∙ rw (one, there))

module _ (info : List ℕ) where
  pub read-11 : length info < code_len → not_read refusal.info_length_wrong 0 ≡ read_of info
  unfolding read_of
  read-11 h = rw (lt-ltb (length info) code_len h)

  pub read-body : code_len ≤ length info → {l k : ℕ} {os : List ℕ} → l ≡ number_of (word_of (get_or info 0 0) (get_or info 1 0)) → os ≡ drop code_len info
      → k ≡ k_in (layout_at l) os → read_part_of l k os ≡ read_of info
  unfolding read_of
  read-body h el eo ek = rw (le-ltb (length info) code_len h, ek, eo, el)

pub most-fits : (l k : ℕ) → k_fits (layout_at l) k ≡ true → k ≤ (layout_at l).most
most-fits l k h = (both-le (layout_at l).fewest k k (layout_at l).most h).1
