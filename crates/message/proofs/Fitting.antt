-- Octets give back the values they are of, and values the octets they are from, over any fields that are wide enough.
use Prim.Native.Nat.{ℕ, zero, suc, ◌+◌, ◌≤◌, ◌<◌}
use mathlib.Core.Path.{◌≡◌, refl, sym, ◌∙◌}
use mathlib.Core.Bool.{Bool, true, false}
use mathlib.Core.List.{List, [], ◌∷◌, ◌++◌}
use native.Mathlib.Decide.{dec_lt}
use native.Mathlib.Omega.{arith}
use borrow.Author.Tests.{leb-true}
use lib.Dec.{leb}
use lib.ListN.{length, get_or, take, drop, length-drop, get_or-eq_default}
use lib.Seq.{ext_get_or, get_or-take, get_or-drop, length-take-le}
use Rattle.octets.specs.Octet.{Octets}
use Rattle.octets.specs.Word.{low_of}
use Rattle.octets.proofs.Laws.{both_left, both_right, octets-append, octets-drop, word_back, high_word, low_word}
use Rattle.octets.proofs.Every.{every, every-at}
use Rattle.message.specs.declared.layout.Field.{Field}
use Rattle.message.specs.declared.layout.Field.TheVariants.{Octet, Two, Order}
use Rattle.message.specs.Fields.{two_of, width_of, value_of, field_octets, no_field}
use Rattle.message.specs.Layouts.{Layout, layouts, layout_at, no_layout, layout_rows, rows_at, repeated}
use Rattle.message.specs.Values.{fields_most, size_of, values_of, octets_of, placed}
use Rattle.message.specs.Promises.{InRange, RightAt}
use Rattle.message.proofs.Values.{filled-long}
use Rattle.message.proofs.Ranges.{both_true, placed_at}

-- Each field is wide enough for its range

abbrev narrow : Field → Bool
narrow (Octet least greatest) = leb greatest 255
narrow (Two least greatest) = leb greatest 65535
narrow Order = true

abbrev limit : Bool → ℕ
limit false = 256
limit true = 65536

narrow-fits : (f : Field) (v : ℕ) → narrow f ≡ true → InRange f v → v < limit (two_of f)
narrow-fits (Octet least greatest) v h r = omega (arith, leb-true greatest 255 h, r.1)
narrow-fits (Two least greatest) v h r = omega (arith, leb-true greatest 65535 h, r.1)
narrow-fits Order v h r = omega (arith, r.0)

every_append : (fs gs : List Field) → every narrow fs ≡ true → every narrow gs ≡ true → every narrow (fs ++ gs) ≡ true
unfolding every
every_append [] gs p q = q
every_append (f ∷ fs) gs p q = both_true (both_left (narrow f) (every narrow fs) p) (every_append fs gs (both_right (narrow f) (every narrow fs) p) q)

every-repeated : (k : ℕ) (g : List Field) → every narrow g ≡ true → every narrow (repeated k g) ≡ true
unfolding every
every-repeated zero g h = refl
every-repeated (suc k) g h = every_append g (repeated k g) h (every-repeated k g h)

narrow-part : (part : Layout → List Field) (l : ℕ) → every (λ y. every narrow (part y)) layouts ≡ true → every narrow (part no_layout) ≡ true
    → every narrow (part (layout_at l)) ≡ true
unfolding layout_at
narrow-part part l t n = every-at (λ y. every narrow (part y)) layouts l no_layout t (λ _. n)

narrow-rows : (l k : ℕ) → every narrow (rows_at l k) ≡ true
unfolding rows_at layout_rows layouts every
narrow-rows l k =
    every_append (layout_at l).head _ (narrow-part (λ y. y.head) l refl refl)
    (every_append (repeated k (layout_at l).group) _ (every-repeated k (layout_at l).group (narrow-part (λ y. y.group) l refl refl)) (narrow-part (λ y. y.tail) l refl refl))

-- a value in range fits its field's octets
pub Fits : List Field → List ℕ → Type 0
Fits fs vs = (j : ℕ) → j < length fs → get_or vs j 0 < limit (two_of (get_or fs j no_field))

pub right-fits : (l k : ℕ) (vs : List ℕ) → ((j : ℕ) → j < length (rows_at l k) → RightAt (rows_at l k) vs j) → Fits (rows_at l k) vs
unfolding Fits
right-fits l k vs r j h =
    narrow-fits (get_or (rows_at l k) j no_field) (get_or vs j 0) (every-at narrow (rows_at l k) j no_field (narrow-rows l k) (λ _. refl)) (r j h)

-- Values to octets and back

value-front : (t : Bool) (v : ℕ) (os : List ℕ) → v < limit t → value_of t (field_octets t v ++ os) ≡ v
value-front false v os h = omega arith
value-front true v os h = word_back v

drop-front : (t : Bool) (v : ℕ) (os : List ℕ) → drop (width_of t) (field_octets t v ++ os) ≡ os
drop-front false v os = refl
drop-front true v os = refl

pub values-back : (fs : List Field) (vs : List ℕ) → length fs ≤ length vs → Fits fs vs → values_of fs (octets_of fs vs) ≡ take (length fs) vs
unfolding Fits
values-back [] vs h f = refl
values-back (g ∷ fs) [] h f = absurd (omega arith)
values-back (g ∷ fs) (v ∷ vs) h f =
    rw (value-front (two_of g) v (octets_of fs vs) (f 0 (omega arith)), drop-front (two_of g) v (octets_of fs vs), values-back fs vs (omega arith) (λ j l. f (suc j) (omega arith)))

-- and its octets are octets
field-octets : (t : Bool) (v : ℕ) → v < limit t → Octets (field_octets t v)
field-octets false v h = (omega arith, tt)
field-octets true v h = (omega arith, (omega arith, tt))

pub fits-octets : (fs : List Field) (vs : List ℕ) → Fits fs vs → Octets (octets_of fs vs)
unfolding Fits
fits-octets [] vs f = tt
fits-octets (g ∷ fs) vs f =
    octets-append (field_octets (two_of g) (get_or vs 0 0)) (octets_of fs (drop 1 vs)) (field-octets (two_of g) (get_or vs 0 0) (f 0 (omega arith)))
    (fits-octets fs (drop 1 vs) (λ j l. let e : 1 + j ≡ suc j = omega arith in rw (get_or-drop, e) (f (suc j) (omega arith))))

-- the fields' values, with 0 past the last, are all of a message's values
pub length-placed : (vs : List ℕ) → length vs ≤ fields_most → length (placed vs) ≡ fields_most
unfolding placed
length-placed vs h = filled-long fields_most vs h

pub placed-back : (n : ℕ) (vs : List ℕ) → length vs ≡ fields_most → n ≤ fields_most → ((j : ℕ) → n ≤ j → j < fields_most → get_or vs j 0 ≡ 0) → placed (take n vs) ≡ vs
placed-back n vs e h z = ext_get_or 0 (placed (take n vs)) vs (long ∙ sym e) (λ j l. placed_at (take n vs) j ∙ by j (omega (arith, long)) (dec_lt j n))
  where
    n-long : length (take n vs) ≡ n
    n-long = length-take-le n vs (omega arith)

    long : length (placed (take n vs)) ≡ fields_most
    long = length-placed (take n vs) (omega (arith, n-long))

    by : (j : ℕ) → j < fields_most → Dec (j < n) → get_or (take n vs) j 0 ≡ get_or vs j 0
    by j l (yes p) = get_or-take n vs j 0 p
    by j l (no g) = get_or-eq_default (take n vs) 0 (omega (arith, n-long)) ∙ sym (z j (omega arith) l)

-- Octets to values and back

octets-front : (t : Bool) (os : List ℕ) → width_of t ≤ length os → Octets os → field_octets t (value_of t os) ++ drop (width_of t) os ≡ os
octets-front false [] h o = absurd (omega arith)
octets-front true [] h o = absurd (omega arith)
octets-front true (a ∷ []) h o = absurd (omega arith)
octets-front false (a ∷ os) h o = let e : low_of a ≡ a = omega (arith, o.0) in rw e
octets-front true (a ∷ b ∷ os) h o = rw (high_word a b o.1.0, low_word a b o.1.0)

pub octets-back : (fs : List Field) (os : List ℕ) → length os ≡ size_of fs → Octets os → octets_of fs (values_of fs os) ≡ os
octets-back [] [] e o = refl
octets-back [] (a ∷ os) e o = absurd (omega arith)
octets-back (f ∷ fs) os e o =
    let w = width_of (two_of f) in
    rw (octets-back fs (drop w os) (simp length-drop (omega arith)) (octets-drop w os o)) (octets-front (two_of f) os (omega arith) o)

-- lists of values that agree at each place have the same octets
pub octets-same : (fs : List Field) (vs ws : List ℕ) → ((j : ℕ) → get_or vs j 0 ≡ get_or ws j 0) → octets_of fs vs ≡ octets_of fs ws
octets-same [] vs ws h = refl
octets-same (f ∷ fs) vs ws h =
    rw (h 0, octets-same fs (drop 1 vs) (drop 1 ws) (λ j. get_or-drop 1 vs j 0 ∙ h (1 + j) ∙ sym (get_or-drop 1 ws j 0)))
