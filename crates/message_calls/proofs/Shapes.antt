-- A layout with its count k: what holds of every layout holds of its rows.
use Prim.Native.Nat.{ℕ, zero, suc, ◌+◌, ◌-◌, ◌*◌, ◌≤◌, ◌<◌}
use mathlib.Core.Path.{◌≡◌, refl, sym, ap, ◌∙◌}
use mathlib.Core.Bool.{Bool, true, false, not, ◌&&◌}
use mathlib.Core.List.{List, [], ◌∷◌}
use native.Mathlib.Decide.{dec_lt}
use native.Mathlib.Nat.{mul-le-mul_right}
use native.Mathlib.Omega.{arith}
use lib.Dec.{eqb, leb}
use lib.ListN.{length, get_or, take, drop, get_or-eq_default, length-drop}
use lib.Seq.{get_or-drop, drop-drop, take_all}
use borrow.Author.Tests.{eqb-true, eq-eqb}
use Rattle.octets.specs.Choice.{both}
use Rattle.octets.specs.First.{First}
use Rattle.octets.proofs.Every.{every, every-at}
use Rattle.octets.proofs.Laws.{clash, first_one, first-none, first_found}
use Rattle.octets.proofs.Search.{search-first}
use Rattle.message.specs.declared.layout.Field.{Field}
use Rattle.message.specs.declared.layout.LayoutLine.{LayoutLine}
use Rattle.message.specs.Fields.{k_most, no_field, passes}
use Rattle.message.specs.Layouts.{Layout, layouts, no_layout, layout_at, layout_rows, rows_at}
use Rattle.message.specs.Table.{cut, Kept}
use Rattle.message.specs.Values.{fields_most, size_of, out_at, first_out}
use Rattle.message.proofs.Layouts.{length_cut, rows-length, rows-octets, fitting-at}
use Rattle.message.proofs.Ranges.{both-le}
use Rattle.message.proofs.Values.{size-most}
use Rattle.message_calls.specs.declared.shape.Shape.{Shape}
use Rattle.message_calls.specs.Shape.{IsListed, NumberOut, shape_rows}
use Rattle.std.proofs.lemmas.Slice.Zip.{get_or-zip}
use Rattle.std.specs.Prelude.{Option, Some, None}
use Rattle.std.proofs.lemmas.List.FromFn.{length-enumerate_from, get_or-enumerate_from}
use Rattle.std.specs.Option.{is_some}
use Rattle.std.specs.List.{list_all, zip, enumerate_from, AllWithin, HoldsAt}
use Rattle.std.specs.Option.{MatchOption}

-- The layouts

-- rows come k times just where k may be more than 0
repeating-at : (l : ℕ) → (let y = layout_at l in (length y.group ≤ fields_most * y.fewest) × (y.most ≤ k_most * length y.group))
unfolding layouts layout_at every
repeating-at l =
    both-le _ _ _ _
    (every-at (λ (y : Layout). both (leb (length y.group) (fields_most * y.fewest)) (leb y.most (k_most * length y.group))) layouts l no_layout refl (λ _. refl))

module _ {y : LayoutLine} (h : IsListed y) where
  head-len : length (cut y.from y.head) ≡ y.head
  head-len = length_cut y.from y.head (omega (arith, h.kept.inside))

  group-len : length (cut (y.from + y.head) y.group) ≡ y.group
  group-len = length_cut (y.from + y.head) y.group (omega (arith, h.kept.inside))

  tail-len : length (cut (y.from + y.head + y.group) y.tail) ≡ y.tail
  tail-len = length_cut (y.from + y.head + y.group) y.tail (omega (arith, h.kept.inside))

  pub listed-most : {k : ℕ} → k ≤ y.most → y.head + k * y.group + y.tail ≤ fields_most
  listed-most g =
      let f = rw (← h.kept.is, head-len, group-len, tail-len) at (fitting-at h.number) in
      omega (arith, f.0, mul-le-mul_right y.group g)

  pub listed-count : y.count ≤ y.head
  listed-count = (rw (← h.kept.is, head-len, group-len, tail-len) at (fitting-at h.number)).1

  pub listed-group : (y.group ≤ fields_most * y.fewest) × (y.most ≤ k_most * y.group)
  listed-group = rw (← h.kept.is, group-len) at (repeating-at h.number)

-- The rows

module _ (s : Shape) where
  abbrev y : LayoutLine
  y = s.line

  pub rows-len : y.head + s.k * y.group + y.tail ≡ length (shape_rows s)
  unfolding layout_rows
  rows-len =
      let a = length_cut y.from y.head (omega (arith, s.inside)) in
      let b = length_cut (y.from + y.head) y.group (omega (arith, s.inside)) in
      let c = length_cut (y.from + y.head + y.group) y.tail (omega (arith, s.inside)) in
      rw (rows-length, a, b, c)

  pub rows-most : length (shape_rows s) ≤ fields_most
  rows-most = omega (arith, rows-len, s.most)

  pub rows-size : size_of (cut y.from y.head) + size_of (cut (y.from + y.head + y.group) y.tail) + s.k * size_of (cut (y.from + y.head) y.group) ≡ size_of (shape_rows s)
  unfolding layout_rows
  rows-size = rw rows-octets (omega arith)

  pub size-within : size_of (shape_rows s) ≤ 2 * fields_most
  size-within = omega (arith, size-most (shape_rows s), rows-most)

  pub rows-by : {l : ℕ} → Kept l y → shape_rows s ≡ rows_at l s.k
  unfolding rows_at
  rows-by h = ap (λ (z : Layout). layout_rows z s.k) h.is

-- The search: where it finds nothing among the fields, and nothing past the last fails either, it is over
pub first-whole : (fs : List Field) (vs : List ℕ) {r : ℕ} → First (out_at fs vs) (length fs) r → length fs ≤ fields_most
    → (r ≡ 0 → (j : ℕ) → length fs ≤ j → j < fields_most → out_at fs vs j ≡ false) → r ≡ first_out fs vs
unfolding first_out
first-whole fs vs {r} h m past =
    first_one
    (record {
      within = omega (arith, h.within);
      before = h.before;
      here = h.here;
      none = λ z j l. by z j l (dec_lt j (length fs));
    })
    (search-first (out_at fs vs) fields_most)
  where
    by : r ≡ 0 → (j : ℕ) → j < fields_most → Dec (j < length fs) → out_at fs vs j ≡ false
    by z j l (yes p) = h.none z j p
    by z j l (no q) = past z j (omega arith) l

-- A list beside a longer one

pub zip-len : {A B : Type 0} (xs : List A) (ys : List B) → length xs ≤ length ys → length (zip xs ys) ≡ length xs
zip-len [] ys h = refl
zip-len (x ∷ xs) [] h = absurd (omega arith)
zip-len (x ∷ xs) (y ∷ ys) h = ap suc (zip-len xs ys (omega arith))

pub at-any : {A : Type 0} (xs : List A) (i : ℕ) (d e : A) → i < length xs → get_or xs i d ≡ get_or xs i e
at-any [] i d e h = absurd (omega arith)
at-any (x ∷ xs) zero d e h = refl
at-any (x ∷ xs) (suc i) d e h = at-any xs i d e (omega arith)

-- A turn of a loop over the fields

-- the field that is next, where those ahead are all from place n on
module _ (fs : List Field) (n : ℕ) {f : Field} {gs : List Field} (e : f ∷ gs ≡ drop n fs) where
  pub next-there : n < length fs
  next-there = omega (arith, ap length e, length-drop n fs)

  pub next_field : f ≡ get_or fs n no_field
  next_field = let z : n + 0 ≡ n = omega arith in rw z at (ap (λ (hs : List Field). get_or hs 0 no_field) e ∙ get_or-drop n fs 0 no_field)

  pub next_ahead : gs ≡ drop (n + 1) fs
  next_ahead = ap (drop 1) e ∙ drop-drop 1 n fs

pub all-past : (fs : List Field) (n : ℕ) → [] ≡ drop n fs → length fs ≤ n
all-past fs n e = omega (arith, ap length e, length-drop n fs)

module _ (fs : List Field) (n : ℕ) (f : Field) where
  pub numbered-turn : (i : ℕ) → (n < length (enumerate_from 0 fs)) × ((i, f) ≡ get_or (enumerate_from 0 fs) n (i, f)) → (n < length fs) × (i ≡ n) × (f ≡ get_or fs n no_field)
  numbered-turn i t =
      let p : ℕ × Field = (i, f) in
      let l : n < length fs = omega (arith, length-enumerate_from 0 fs, t.0) in
      let e = t.1 ∙ get_or-enumerate_from 0 fs n p l in
      (l, omega (arith, ap (λ (q : ℕ × Field). q.0) e), ap (λ (q : ℕ × Field). q.1) e ∙ at-any fs n f no_field l)

  pub paired-turn : (vs : List ℕ) (v : ℕ) → length fs ≤ length vs → (n < length (zip fs vs)) × ((f, v) ≡ get_or (zip fs vs) n (f, v)) → (n < length fs) × (f ≡ get_or fs n no_field) × (v ≡ get_or vs n 0)
  paired-turn vs v h t =
      let p : Field × ℕ = (f, v) in
      let l : n < length fs = omega (arith, zip-len fs vs h, t.0) in
      let e = t.1 ∙ get_or-zip fs vs n p l (omega arith) in
      (l, ap (λ (q : Field × ℕ). q.0) e ∙ at-any fs n f no_field l, ap (λ (q : Field × ℕ). q.1) e ∙ at-any vs n v 0 (omega arith))

-- What the writer's search says of all the values

zero-each : (a b : Bool) → (a && b) ≡ true → (a ≡ true) × (b ≡ true)
zero-each true b h = (refl, h)
zero-each false b h = absurd (clash refl h)

zero-all : (vs : List ℕ) → list_all (λ v. eqb v 0) vs ≡ true → (j : ℕ) → get_or vs j 0 ≡ 0
zero-all [] h j = refl
zero-all (v ∷ vs) h zero = eqb-true v 0 (zero-each (eqb v 0) (list_all (λ v. eqb v 0) vs) h).0
zero-all (v ∷ vs) h (suc j) = zero-all vs (zero-each (eqb v 0) (list_all (λ v. eqb v 0) vs) h).1 j

all-zero : (vs : List ℕ) → ((j : ℕ) → j < length vs → get_or vs j 0 ≡ 0) → list_all (λ v. eqb v 0) vs ≡ true
all-zero [] h = refl
all-zero (v ∷ vs) h = rw (eq-eqb v 0 (h zero (omega arith))) (all-zero vs (λ j l. h (suc j) (omega arith)))

not-false : (b : Bool) → not b ≡ false → b ≡ true
not-false true h = refl
not-false false h = absurd (clash h refl)

zero-passes : (v : ℕ) → not (passes no_field v) ≡ false → v ≡ 0
zero-passes v h = omega (arith, (both-le 0 v v 0 (not-false (passes no_field v) h)).1)

module _ (fs : List Field) (vs : List ℕ) (m : length fs ≤ fields_most) where
  pub found-out : (r : Option ℕ) → true ≡ is_some r → NumberOut (out_at fs vs) (length fs) r → first_out fs vs ≡ 0 → ⊥
  found-out None q h z = clash q refl
  found-out (Some n) q h z = omega (arith, z, h.0, first-whole fs vs h.1 m (λ w. absurd (omega (arith, w, h.0))))

  module _ {n : ℕ} (e : n ≡ length fs) (l : length vs ≡ fields_most) where
    rest : take (fields_most - n) (drop n vs) ≡ drop n vs
    rest = take_all (fields_most - n) (drop n vs) (omega (arith, length-drop n vs))

    pub unclear-out : list_all (λ v. eqb v 0) (take (fields_most - n) (drop n vs)) ≡ false → first_out fs vs ≡ 0 → ⊥
    unfolding first_out
    unclear-out h z =
        clash (rw rest at h)
        (all-zero (drop n vs) (λ j k.
        let o = (search-first (out_at fs vs) fields_most).none z (n + j) (omega (arith, length-drop n vs)) in
        get_or-drop n vs j 0 ∙ zero-passes (get_or vs (n + j) 0) (rw (get_or-eq_default fs no_field {n = n + j} (omega (arith, e))) at o)))

    pub clear-in : (r : Option ℕ) → false ≡ is_some r → NumberOut (out_at fs vs) (length fs) r → list_all (λ v. eqb v 0) (take (fields_most - n) (drop n vs)) ≡ true → first_out fs vs ≡ 0
    clear-in (Some i) q h c = absurd (clash (sym q) refl)
    clear-in None q h c =
        sym
        (first-whole fs vs h m (λ z j a b.
        let d : n + (j - n) ≡ j = omega (arith, e) in
        rw (get_or-eq_default fs no_field a, rw d at (sym (get_or-drop n vs (j - n) 0) ∙ zero-all (drop n vs) (rw rest at c) (j - n)))))
