-- What follows from the definitions of specs/, for every crate above.
use Prim.Native.Nat.{ℕ, zero, suc, ◌+◌, ◌-◌, ◌≤◌, ◌<◌}
use mathlib.Core.Path.{◌≡◌, refl, sym, ap, subst, ◌∙◌}
use mathlib.Core.Bool.{Bool, true, false, not, ◌&&◌}
use mathlib.Core.List.{List, [], ◌∷◌, ◌++◌}
use native.Mathlib.Decide.{dec_lt}
use native.Mathlib.Nat.{add-zero, zero-add, add-suc, suc-add}
use native.Mathlib.Numerals.{add-one}
use native.Mathlib.Omega.{arith}
use borrow.Author.Tests.{eq-eqb, ne_eqb, le-leb, lt-leb, leb-true, eqb-true}
use lib.Bits.{xor_self, xor_lt}
use lib.Dec.{T, eqb, leb}
use lib.ListN.{length, set, take, drop, get_or, replicate, length-append, length-drop, take-append-drop, drop_of_length-le}
use lib.Seq.{sets, drop-cons, length-sets, sets-eq, take_all, take_at, drop_at, take-set-le, take-set-lt, drop-set-lt, drop-set-add}
use borrow.Rule.Slice.PartMut.{put_mid}
use Rattle.std.specs.Cmp.Lexicographic.{pointwise}
use Rattle.std.specs.Int.Bits.{bit_xor}
use Rattle.std.specs.List.{fold}
use Rattle.std.proofs.lemmas.List.{drop_more}
use Rattle.std.proofs.lemmas.Slice.{put_mid-paste}
use Rattle.octets.specs.Choice.{pick, both}
use Rattle.octets.specs.Octet.{Octets}
use Rattle.octets.specs.Word.{high_of, low_of, word_of}
use Rattle.octets.specs.ExclusiveOr.{xor, exclusive_or}
use Rattle.octets.specs.Put.{Stored, Put}
use Rattle.octets.specs.Refusal.{output_short}
use Rattle.octets.specs.Writing.{WriterLeaves, nothing_written, written_as}
use Rattle.octets.specs.First.{First}
use Rattle.octets.specs.Same.{same}

-- Lists

-- a list is its first n and those beyond
pub parted : (n : ℕ) (k l : List ℕ) → take n k ≡ take n l → drop n k ≡ drop n l → k ≡ l
parted n k l e d = sym (take-append-drop n k) ∙ (λ i. e i ++ d i) ∙ take-append-drop n l

-- Choice

-- what holds of both choices, each under its test, holds of the chosen
pub pick-by : {A : Type 0} (P : A → Type 0) (t : Bool) {a b : A} → (t ≡ true → P a) → (t ≡ false → P b) → P (pick t a b)
pick-by P true f g = f refl
pick-by P false f g = g refl

pub both_left : (a b : Bool) → both a b ≡ true → a ≡ true
both_left true b h = refl
both_left false b h = h

pub both_right : (a b : Bool) → both a b ≡ true → b ≡ true
both_right true b h = h
both_right false b h = cc

pub clash : {b : Bool} → b ≡ false → b ≡ true → ⊥
clash p q = let z : false ≡ true = cc in absurd (subst (λ (b : Bool). T (not b)) z tt)

-- Word

pub word_back : (x : ℕ) → word_of (high_of x) (low_of x) ≡ x
word_back x = omega arith

pub high_word : (h l : ℕ) → l < 256 → high_of (word_of h l) ≡ h
high_word h l p = omega arith

pub low_word : (h l : ℕ) → l < 256 → low_of (word_of h l) ≡ l
low_word h l p = omega arith

-- ExclusiveOr

pub exclusive-or-append : (a : ℕ) (xs ys : List ℕ) → exclusive_or a (xs ++ ys) ≡ exclusive_or (exclusive_or a xs) ys
unfolding exclusive_or
exclusive-or-append a [] ys = refl
exclusive-or-append a (x ∷ xs) ys = exclusive-or-append (xor a x) xs ys

-- with its own exclusive or behind it a list gives 0
pub exclusive-or-closed : (xs : List ℕ) → exclusive_or 0 (xs ++ (exclusive_or 0 xs ∷ [])) ≡ 0
unfolding exclusive_or xor
exclusive-or-closed xs = exclusive-or-append 0 xs (exclusive_or 0 xs ∷ []) ∙ xor_self (exclusive_or 0 xs)

pub exclusive-or-octet : (a : ℕ) (xs : List ℕ) → a < 256 → Octets xs → exclusive_or a xs < 256
unfolding exclusive_or xor
exclusive-or-octet a [] h o = h
exclusive-or-octet a (x ∷ xs) h o = exclusive-or-octet (xor a x) xs (xor_lt 8 a x h o.0) o.1

-- the library's fold, with its exclusive or
pub exclusive-or-fold : (a : ℕ) (xs : List ℕ) → fold bit_xor a xs ≡ exclusive_or a xs
unfolding exclusive_or xor
exclusive-or-fold a [] = refl
exclusive-or-fold a (x ∷ xs) = exclusive-or-fold (xor a x) xs

-- Octet

pub octets-append : (xs ys : List ℕ) → Octets xs → Octets ys → Octets (xs ++ ys)
octets-append [] ys o q = q
octets-append (x ∷ xs) ys o q = (o.0, octets-append xs ys o.1 q)

pub octets-left : (xs ys : List ℕ) → Octets (xs ++ ys) → Octets xs
octets-left [] ys o = tt
octets-left (x ∷ xs) ys o = (o.0, octets-left xs ys o.1)

pub octets-right : (xs ys : List ℕ) → Octets (xs ++ ys) → Octets ys
octets-right [] ys o = o
octets-right (x ∷ xs) ys o = octets-right xs ys o.1

pub octets-take : (n : ℕ) (xs : List ℕ) → Octets xs → Octets (take n xs)
octets-take zero xs o = tt
octets-take (suc n) [] o = tt
octets-take (suc n) (x ∷ xs) o = (o.0, octets-take n xs o.1)

pub octets-drop : (n : ℕ) (xs : List ℕ) → Octets xs → Octets (drop n xs)
octets-drop zero xs o = o
octets-drop (suc n) [] o = tt
octets-drop (suc n) (x ∷ xs) o = octets-drop n xs o.1

pub octets-part : (n m : ℕ) (xs : List ℕ) → Octets xs → Octets (take n (drop m xs))
octets-part n m xs o = octets-take n (drop m xs) (octets-drop m xs o)

pub octets-set : (xs : List ℕ) (i v : ℕ) → v < 256 → Octets xs → Octets (set xs i v)
octets-set [] i v h o = tt
octets-set (x ∷ xs) zero v h o = (h, o.1)
octets-set (x ∷ xs) (suc i) v h o = (o.0, octets-set xs i v h o.1)

pub octets-sets : (xs : List ℕ) (i : ℕ) (vs : List ℕ) → Octets xs → Octets vs → Octets (sets xs i vs)
octets-sets xs i [] o q = o
octets-sets xs i (v ∷ vs) o q = octets-sets (set xs i v) (suc i) vs (octets-set xs i v q.0 o) q.1

pub octets-zero : (n : ℕ) → Octets (replicate n 0)
octets-zero zero = tt
octets-zero (suc n) = (omega arith, octets-zero n)

-- Lists

-- the code's next place in a list
pub drop-next : (s : List ℕ) (i : ℕ) → i < length s → drop i s ≡ get_or s i 0 ∷ drop (i + 1) s
drop-next s i h = rw (add-one, drop-cons s i 0)

pub sets-append : (xs ys l : List ℕ) (i : ℕ) → sets l i (xs ++ ys) ≡ sets (sets l i xs) (i + length xs) ys
sets-append [] ys l i = rw (add-zero i)
sets-append (x ∷ xs) ys l i = rw (add-suc i (length xs), ← suc-add i (length xs)) (sets-append xs ys (set l i x) (suc i))

-- a run of octets stored before a place, and from a place on
pub take-sets-past : (n : ℕ) (l : List ℕ) (i : ℕ) (vs : List ℕ) → n ≤ i → take n (sets l i vs) ≡ take n l
take-sets-past n l i [] h = refl
take-sets-past n l i (v ∷ vs) h = take-sets-past n (set l i v) (suc i) vs (omega arith) ∙ take-set-le n l i v h

pub take-sets-within : (n : ℕ) (l : List ℕ) (i : ℕ) (vs : List ℕ) → i + length vs ≤ n → take n (sets l i vs) ≡ sets (take n l) i vs
take-sets-within n l i [] h = refl
take-sets-within n l i (v ∷ vs) h =
    take-sets-within n (set l i v) (suc i) vs (omega arith) ∙ ap (λ (m : List ℕ). sets m (suc i) vs) (take-set-lt n l i v (omega arith))

pub drop-sets-within : (n : ℕ) (l : List ℕ) (i : ℕ) (vs : List ℕ) → i + length vs ≤ n → drop n (sets l i vs) ≡ drop n l
drop-sets-within n l i [] h = refl
drop-sets-within n l i (v ∷ vs) h = drop-sets-within n (set l i v) (suc i) vs (omega arith) ∙ drop-set-lt n l i v (omega arith)

pub drop-sets-past : (n : ℕ) (l : List ℕ) (i : ℕ) (vs : List ℕ) → drop n (sets l (n + i) vs) ≡ sets (drop n l) i vs
drop-sets-past n l i [] = refl
drop-sets-past n l i (v ∷ vs) =
    rw (← add-suc n i) (drop-sets-past n (set l (n + i) v) (suc i) vs ∙ ap (λ (m : List ℕ). sets m (suc i) vs) (drop-set-add n l i v))

-- a run of octets stored from the start on stands there, and the rest stays
module _ (vs l : List ℕ) (h : length vs ≤ length l) where
  sets-front : sets l 0 vs ≡ vs ++ drop (length vs) l
  sets-front = sets-eq vs l 0 (omega arith) ∙ ap (λ (n : ℕ). vs ++ drop n l) (zero-add (length vs))

  pub take-sets : take (length vs) (sets l 0 vs) ≡ vs
  take-sets = rw sets-front (take_at vs (drop (length vs) l) (length vs) refl)

  pub drop-sets : drop (length vs) (sets l 0 vs) ≡ drop (length vs) l
  drop-sets = rw sets-front (drop_at vs (drop (length vs) l) (length vs) refl)

-- Part

-- the part that reaches to the end is what is left from its start on
pub part_to_end : (s : List ℕ) (a : ℕ) → take (length s - a) (drop a s) ≡ drop a s
part_to_end s a = take_all (length s - a) (drop a s) (simp length-drop (omega arith))

-- Put

-- one run of octets after another
pub stored-then : {xs ys l m m' : List ℕ} {i r r' : ℕ} → Stored xs i l r m → Stored ys r m r' m' → Stored (xs ++ ys) i l r' m'
stored-then {xs} {ys} {l} {m} {m'} {i} {r} {r'} p q =
    record {
      place = omega (arith, p.place, q.place, length-append xs ys);
      holds = q.holds ∙ rw (p.holds, p.place) (sym (sets-append xs ys l i));
      long = q.long ∙ p.long;
      fits = omega (arith, q.fits, p.long);
    }

module _ {vs l l' : List ℕ} {i r : ℕ} where
  pub put-stored : Put vs i l r l' → i + length vs ≤ length l → Stored vs i l r l'
  put-stored p h =
      let t = le-leb (i + length vs) (length l) h in
      let e : r ≡ i + length vs = p.place ∙ rw t in
      let o : l' ≡ sets l i vs = p.holds ∙ rw t in
      record { place = e; holds = o; long = ap length o ∙ length-sets l i vs; fits = omega (arith, e) }

  pub stored-put : Stored vs i l r l' → Put vs i l r l'
  stored-put p =
      let h : i + length vs ≤ length l = omega (arith, p.place, p.fits) in
      record { place = rw (le-leb (i + length vs) (length l) h) p.place; holds = rw (le-leb (i + length vs) (length l) h) p.holds }

pub put-none : {vs l : List ℕ} {i : ℕ} → length l < i + length vs → Put vs i l i l
put-none {vs} {l} {i} h = record { place = rw (lt-leb (i + length vs) (length l) h); holds = rw (lt-leb (i + length vs) (length l) h) }

-- a copy in the part that starts at i
pub copied : {vs l ys : List ℕ} {i k : ℕ} → ys ≡ vs → k ≡ length vs → leb (i + length vs) (length l) ≡ true → Put vs i l (i + length vs) (put_mid i k l ys)
copied {vs} {l} {ys} {i} {k} e p t =
    let o : put_mid i k l ys ≡ sets l i vs = put_mid-paste i k l ys vs (length vs) e (sym p) refl ∙ rw (take_all (length vs) vs (omega arith)) (sym (sets-eq vs l i (leb-true (i + length vs) (length l) t))) in
    record { place = rw t; holds = rw t o }

-- Writing

module _ (vs out : List ℕ) (at : ℕ) where
  pub written-9 : {n : ℕ} → n ≡ length vs → leb (at + n) (length out) ≡ false → written_as vs at out ≡ nothing_written output_short out
  unfolding written_as
  written-9 e h = rw (← e, h)

  pub written-done : {n r : ℕ} {o : List ℕ} → n ≡ length vs → Stored vs at out r o → WriterLeaves (written_as vs at out) (record { refusal = 0; count = n }) o
  unfolding written_as
  written-done e p =
      rw (le-leb (at + length vs) (length out) (omega (arith, p.place, p.fits))) (record { answer = ap (λ (k : ℕ). record { refusal = 0; count = k }) e; out = p.holds })

-- First

module _ {t : ℕ → Bool} {n : ℕ} where
  pub first-none : ((j : ℕ) → j < n → t j ≡ false) → First t n 0
  first-none h = record { within = omega arith; before = λ j p. absurd (omega arith); here = λ j p. absurd (omega arith); none = λ _. h }

  pub first_found : {i : ℕ} → i < n → ((j : ℕ) → j < i → t j ≡ false) → t i ≡ true → First t n (i + 1)
  first_found {i} l h e =
      record {
        within = omega arith;
        before = λ j p. h j (omega arith);
        here = λ j p. let q : j ≡ i = omega arith in rw q e;
        none = λ z. absurd (omega arith);
      }

  -- there is only one such number
  pub first_one : {r s : ℕ} → First t n r → First t n s → r ≡ s
  first_one {r} {s} p q = by (dec_lt r s) (dec_lt s r)
    where
      less : {r s : ℕ} → First t n r → First t n s → r < s → ⊥
      less {r = zero} {s = zero} p q l = elim l [ ]
      less {r = zero} {s = suc s} p q l = clash (p.none refl s q.within) (q.here s (add-one s))
      less {r = suc r} {s = s} p q l = clash (q.before r (omega arith)) (p.here r (add-one r))

      by : Dec (r < s) → Dec (s < r) → r ≡ s
      by (yes l) d = absurd (less p q l)
      by (no g) (yes l) = absurd (less q p l)
      by (no g) (no g') = omega arith

-- Same

-- the next octet of two lists
module _ (xs ys : List ℕ) (i : ℕ) (hx : i < length xs) (hy : i < length ys) where
  pub same-stops : (get_or xs i 0 ≡ get_or ys i 0 → ⊥) → false ≡ same (drop i xs) (drop i ys)
  unfolding same
  same-stops n = rw (drop_more xs i 0 hx, drop_more ys i 0 hy, ne_eqb (get_or xs i 0) (get_or ys i 0) n)

  pub same-goes : get_or xs i 0 ≡ get_or ys i 0 → same (drop (i + 1) xs) (drop (i + 1) ys) ≡ same (drop i xs) (drop i ys)
  unfolding same
  same-goes e = rw (drop_more xs i 0 hx, drop_more ys i 0 hy, eq-eqb (get_or xs i 0) (get_or ys i 0) e)

pub same_ends : (xs ys : List ℕ) (i : ℕ) → length xs ≤ i → length ys ≤ i → true ≡ same (drop i xs) (drop i ys)
unfolding same
same_ends xs ys i hx hy = rw (drop_of_length-le xs hx, drop_of_length-le ys hy)

-- octets are the same exactly where they are equal
pub same-is : (xs ys : List ℕ) → same xs ys ≡ true → xs ≡ ys
unfolding same
same-is [] [] h = refl
same-is [] (y ∷ ys) h = absurd (clash refl h)
same-is (x ∷ xs) [] h = absurd (clash refl h)
same-is (x ∷ xs) (y ∷ ys) h =
    ap (λ (z : ℕ). z ∷ xs) (eqb-true x y (both_left (eqb x y) (same xs ys) h)) ∙ ap (λ (zs : List ℕ). y ∷ zs) (same-is xs ys (both_right (eqb x y) (same xs ys) h))

-- the library's `==` at octets
pub pointwise-same : (xs ys : List ℕ) → pointwise eqb xs ys ≡ same xs ys
unfolding same
pointwise-same [] [] = refl
pointwise-same [] (y ∷ ys) = refl
pointwise-same (x ∷ xs) [] = refl
pointwise-same (x ∷ xs) (y ∷ ys) = rw (pointwise-same xs ys) (elim (eqb x y) as (λ b. (b && same xs ys) ≡ both b (same xs ys)) [ true ↦ refl | false ↦ refl ])

pub is_same : (xs : List ℕ) → same xs xs ≡ true
unfolding same
is_same [] = refl
is_same (x ∷ xs) = rw (eq-eqb x x refl) (is_same xs)

pub same_not : (xs ys : List ℕ) → (length xs ≡ length ys → ⊥) → false ≡ same xs ys
same_not xs ys n = by (same xs ys) refl
  where
    by : (t : Bool) → same xs ys ≡ t → false ≡ t
    by true e = absurd (n (ap length (same-is xs ys e)))
    by false e = refl
