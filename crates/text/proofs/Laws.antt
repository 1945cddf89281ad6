-- What follows from the definitions of specs/Text.antt.
use Prim.Native.Nat.{ℕ, zero, suc, ◌+◌, ◌*◌, ◌-◌, ◌/◌, ◌%◌, ◌^◌, ◌≤◌, ◌<◌}
use mathlib.Core.Path.{◌≡◌, refl, ap, ◌∙◌}
use mathlib.Core.List.{List, [], ◌∷◌, ◌++◌}
use native.Mathlib.Decide.{dec_lt}
use native.Mathlib.Nat.{pow-suc}
use native.Mathlib.Omega.{arith}
use borrow.Author.Tests.{lt-ltb, le-ltb}
use lib.ListN.{length, set, take, drop, get_or, length-append}
use lib.Seq.{sets, set_comm, sets-eq, take_at}
use Rattle.std.proofs.lemmas.List.{drop_more}
use Rattle.text.specs.Text.{digit, digits, hex2, hex16, places_within, places, digits_most, decimal, blank_hex2, spaced, octets_hex}

-- Digits

pub digits-length : (b k n : ℕ) → length (digits b k n) ≡ k
unfolding digits
digits-length b zero n = refl
digits-length b (suc k) n = omega (arith, length-append (digits b k (n / b)) (digit (n % b) ∷ []), digits-length b k (n / b))

pub hex2-length : (x : ℕ) → length (hex2 x) ≡ 2
hex2-length x = digits-length 16 2 x

pub hex16-length : (x : ℕ) → length (hex16 x) ≡ 16
hex16-length x = digits-length 16 16 x

-- the last of k digits, and those before it
digits_last : (b k n : ℕ) → 0 < k → digits b k n ≡ digits b (k - 1) (n / b) ++ (digit (n % b) ∷ [])
unfolding digits
digits_last b zero n h = absurd (omega arith)
digits_last b (suc k) n h = let e : k ≡ suc k - 1 = omega arith in rw (← e)

-- the last of a run may be stored first
sets_last : (xs l : List ℕ) (i j x : ℕ) → j ≡ i + length xs → sets (set l j x) i xs ≡ sets l i (xs ++ (x ∷ []))
sets_last [] l i j x e = let z : j ≡ i = omega arith in rw z
sets_last (y ∷ ys) l i j x e = rw (set_comm l j i x y (λ z. absurd (omega arith))) (sets_last ys (set l i y) (suc i) j x (omega arith))

pub digits-stored : (b k n : ℕ) (l : List ℕ) → 0 < k → sets (set l (k - 1) (digit (n % b))) 0 (digits b (k - 1) (n / b)) ≡ sets l 0 (digits b k n)
digits-stored b k n l h =
    rw (digits_last b k n h) (sets_last (digits b (k - 1) (n / b)) l 0 (k - 1) (digit (n % b)) (omega (arith, digits-length b (k - 1) (n / b))))

pub digits-taken : (b k n : ℕ) (l : List ℕ) → k ≤ length l → take k (sets l 0 (digits b k n)) ≡ digits b k n
digits-taken b k n l h =
    let d = digits-length b k n in
    rw (sets-eq (digits b k n) l 0 (omega arith)) (take_at (digits b k n) (drop (0 + length (digits b k n)) l) k d)

-- Decimal

within-small : (f n : ℕ) → n < 10 → places_within f n ≡ 1
unfolding places_within
within-small zero n h = refl
within-small (suc f) n h = rw (places_within, lt-ltb n 10 h)

within-large : (f n : ℕ) → 10 ≤ n → places_within (suc f) n ≡ 1 + places_within f (n / 10)
unfolding places_within
within-large f n h = rw (places_within, le-ltb n 10 h)

-- divisions beyond those that are needed count nothing
within-enough : (f g n : ℕ) → n ≤ f → n ≤ g → places_within f n ≡ places_within g n
within-enough zero g n p q = rw (within-small zero n (omega arith), within-small g n (omega arith))
within-enough (suc f) zero n p q = rw (within-small (suc f) n (omega arith), within-small zero n (omega arith))
within-enough (suc f) (suc g) n p q =
    elim (dec_lt n 10) [
      | yes h ↦ rw (within-small (suc f) n h, within-small (suc g) n h)
      | no h ↦ rw (within-large f n (omega arith), within-large g n (omega arith), within-enough f g (n / 10) (omega arith) (omega arith))
    ]

pub places-one : (n : ℕ) → n < 10 → places n ≡ 1
unfolding places
places-one n h = within-small n n h

pub places-more : (n : ℕ) → 10 ≤ n → places n ≡ 1 + places (n / 10)
unfolding places
places-more zero h = absurd (omega arith)
places-more (suc n) h = within-large n (suc n) h ∙ ap (λ (k : ℕ). 1 + k) (within-enough n (suc n / 10) (suc n / 10) (omega arith) (omega arith))

pub places-some : (n : ℕ) → 0 < places n
places-some n = elim (dec_lt n 10) [ yes h ↦ omega (arith, places-one n h) | no h ↦ omega (arith, places-more n (omega arith)) ]

pub places-most : (k n : ℕ) → n < 10 ^ suc k → places n ≤ suc k
places-most zero n h = omega (arith, places-one n h)
places-most (suc k) n h =
    elim (dec_lt n 10) [
      | yes l ↦ omega (arith, places-one n l)
      | no g ↦ omega (arith, places-more n (omega arith), places-most k (n / 10) (omega (arith, pow-suc 10 (suc k))))
    ]

-- a number of 64 bits has at most 20
pub places-64 : (n : ℕ) → n < 2 ^ 64 → places n ≤ digits_most
places-64 n h = places-most 19 n (omega arith)

pub decimal-digits : (n : ℕ) → decimal n ≡ digits 10 (places n) n
unfolding decimal
decimal-digits n = refl

pub decimal-one : (n : ℕ) → n < 10 → decimal n ≡ digit n ∷ []
unfolding digits
decimal-one n h = let e : n % 10 ≡ n = omega arith in rw (decimal-digits n, places-one n h, e)

pub decimal-more : (n : ℕ) → 10 ≤ n → decimal n ≡ decimal (n / 10) ++ (digit (n % 10) ∷ [])
unfolding digits
decimal-more n h = let e : places n ≡ suc (places (n / 10)) = omega (arith, places-more n h) in rw (decimal-digits n, e, decimal-digits (n / 10))

pub decimal-length : (n : ℕ) → length (decimal n) ≡ places n
decimal-length n = rw (decimal-digits n) (digits-length 10 (places n) n)

pub decimal-64 : (n : ℕ) → n < 2 ^ 64 → length (decimal n) ≤ digits_most
decimal-64 n h = omega (arith, decimal-length n, places-64 n h)

-- Octets

pub blank-length : (x : ℕ) → length (blank_hex2 x) ≡ 3
unfolding blank_hex2
blank-length x = omega (arith, hex2-length x)

pub spaced-length : (xs : List ℕ) → length (spaced xs) ≡ 3 * length xs
unfolding spaced
spaced-length [] = refl
spaced-length (x ∷ xs) = omega (arith, length-append (blank_hex2 x) (spaced xs), blank-length x, spaced-length xs)

pub spaced-at : (xs : List ℕ) (i : ℕ) → i < length xs → spaced (drop i xs) ≡ blank_hex2 (get_or xs i 0) ++ spaced (drop (i + 1) xs)
unfolding spaced
spaced-at xs i h = rw (drop_more xs i 0 h)

pub octets-none : (xs : List ℕ) → length xs ≡ 0 → octets_hex xs ≡ []
unfolding octets_hex
octets-none [] h = refl
octets-none (x ∷ xs) h = absurd (omega arith)

pub octets-length : (xs : List ℕ) → length (octets_hex xs) ≡ 3 * length xs - 1
unfolding octets_hex
octets-length [] = refl
octets-length (x ∷ xs) = omega (arith, length-append (hex2 x) (spaced xs), hex2-length x, spaced-length xs)
