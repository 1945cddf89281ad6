-- The texts mean what they should.
use Prim.Native.Nat.{ℕ, zero, suc, ◌+◌, ◌*◌, ◌-◌, ◌/◌, ◌%◌, ◌^◌, ◌≤◌, ◌<◌}
use mathlib.Core.Path.{◌≡◌, refl, sym, ◌∙◌}
use mathlib.Core.Logic.{inl, inr}
use mathlib.Core.List.{List, [], ◌∷◌, ◌++◌}
use native.Mathlib.Decide.{dec_lt}
use native.Mathlib.Nat.{div-add-mod', pow-zero, pow-suc, mod-lt, div-lt_iff_lt-mul}
use native.Mathlib.Omega.{arith}
use borrow.Author.Tests.{lt-ltb, le-ltb}
use lib.ListN.{length, take, drop, get_or, get_or-append}
use lib.Seq.{drop-nil, drop-drop, get_or-drop}
use Rattle.std.proofs.lemmas.List.{drop_more}
use Rattle.text.specs.Text.{digit, digits, hex2, places, decimal, blank_hex2, spaced, octets_hex}
use Rattle.text.specs.Promises.{worth, IsDigit, AllDigits, read_from, Means, HexMeans, HexAsPrinted, DecimalMeans, OctetsParted, AsciiAsSaid}
use Rattle.text.proofs.Laws.{digits-length, places-one, places-more, places-some, decimal-digits, decimal-one, decimal-more, decimal-length, octets-length}

digit-worth : (d : ℕ) → d < 16 → worth (digit d) ≡ d
digit-worth d h = by (dec_lt d 10)
  where
    by : Dec (d < 10) → worth (digit d) ≡ d
    by (yes l) = rw (lt-ltb d 10 l, lt-ltb (0x30 + d) 0x41 (omega arith)) (omega arith)
    by (no g) = rw (le-ltb d 10 (omega arith), le-ltb (0x41 + (d - 10)) 0x41 (omega arith)) (omega arith)

digit-is : (b d : ℕ) → b ≤ 16 → d < b → IsDigit b (digit d)
digit-is b d m h = by (dec_lt d 10)
  where
    by : Dec (d < 10) → IsDigit b (digit d)
    by (yes l) = record { glyph = rw (lt-ltb d 10 l) (inl (omega arith, omega arith)); below = rw (digit-worth d (omega arith)) h }
    by (no g) = record { glyph = rw (le-ltb d 10 (omega arith)) (inr (omega arith, omega arith)); below = rw (digit-worth d (omega arith)) h }

-- a digit more at the end

all-last : (b c : ℕ) (cs : List ℕ) → AllDigits b cs → IsDigit b c → AllDigits b (cs ++ (c ∷ []))
all-last b c [] o h = (h, tt)
all-last b c (x ∷ xs) o h = (o.0, all-last b c xs o.1 h)

read-last : (b a c : ℕ) (cs : List ℕ) → read_from b a (cs ++ (c ∷ [])) ≡ read_from b a cs * b + worth c
unfolding read_from
read-last b a c [] = refl
read-last b a c (x ∷ xs) = read-last b (a * b + worth x) c xs

module _ (b : ℕ) (some : 0 < b) (most : b ≤ 16) where
  right : (k n : ℕ) → AllDigits b (digits b k n)
  unfolding digits
  right zero n = tt
  right (suc k) n = all-last b (digit (n % b)) (digits b k (n / b)) (right k (n / b)) (digit-is b (n % b) most (mod-lt n some))

  value : (k n : ℕ) → n < b ^ k → read_from b 0 (digits b k n) ≡ n
  unfolding digits read_from
  value zero n h = omega (arith, pow-zero b)
  value (suc k) n h =
      let l : n / b < b ^ k = (div-lt_iff_lt-mul some).1 (rw (pow-suc b k) at h) in
      read-last b 0 (digit (n % b)) (digits b k (n / b))
      ∙ rw (value k (n / b) l, digit-worth (n % b) (omega (arith, mod-lt n some))) (div-add-mod' n b)

  digits-mean : (k n : ℕ) → n < b ^ k → Means b k n (digits b k n)
  digits-mean k n h = record { long = digits-length b k n; right = right k n; value = value k n h }

pub hex-means : HexMeans
hex-means = digits-mean 16 (omega arith) (omega arith)

pub hex-as-printed : HexAsPrinted
hex-as-printed = (λ x h. hex-means 2 x (omega arith), λ x h. hex-means 16 x (omega arith))

-- a number has as many digits as hold it
places-hold : (f n : ℕ) → n ≤ f → n < 10 ^ places n
places-hold zero n h = rw (places-one n (omega arith)) (omega arith)
places-hold (suc f) n h =
    elim (dec_lt n 10) [
      | yes l ↦ rw (places-one n l) l
      | no g ↦
          let e : places n ≡ suc (places (n / 10)) = omega (arith, places-more n (omega arith)) in
          rw (e, pow-suc 10 (places (n / 10))) (omega (arith, places-hold f (n / 10) (omega arith)))
    ]

first : (f n : ℕ) → n ≤ f → get_or (decimal n) 0 0 ≡ 0x30 → n ≡ 0
first zero n h e = omega arith
first (suc f) n h e =
    elim (dec_lt n 10) [
      | yes l ↦ omega (arith, rw (decimal-one n l, lt-ltb n 10 l) at e)
      | no g ↦
          let s : 0 < length (decimal (n / 10)) = omega (arith, decimal-length (n / 10), places-some (n / 10)) in
          let z = first f (n / 10) (omega arith) (rw (decimal-more n (omega arith), get_or-append (decimal (n / 10)) (digit (n % 10) ∷ []) 0 0 s) at e) in
          absurd (omega arith)
    ]

means : (n : ℕ) → Means 10 (length (decimal n)) n (decimal n)
means n = rw (decimal-length n, decimal-digits n) (digits-mean 10 (omega arith) (omega arith) (places n) n (places-hold n n (omega arith)))

pub decimal-means : DecimalMeans
decimal-means = (λ n. record { means = means n; first = first n n (omega arith) }, decimal-one 0 (omega arith))

-- Octets

spaced-drop : (xs : List ℕ) (i : ℕ) → drop (3 * i) (spaced xs) ≡ spaced (drop i xs)
unfolding digits blank_hex2 spaced
spaced-drop xs zero = refl
spaced-drop [] (suc i) = drop-nil (3 * suc i)
spaced-drop (x ∷ xs) (suc i) = let e : 3 * suc i ≡ suc (suc (suc (3 * i))) = omega arith in rw e (spaced-drop xs i)

octets-spaced : (xs : List ℕ) → octets_hex xs ≡ drop 1 (spaced xs)
unfolding blank_hex2 spaced octets_hex
octets-spaced [] = refl
octets-spaced (x ∷ xs) = refl

octets-drop : (xs : List ℕ) (i : ℕ) → drop (3 * i) (octets_hex xs) ≡ octets_hex (drop i xs)
octets-drop xs i =
    let e : 1 + 3 * i ≡ 3 * i + 1 = omega arith in
    rw (octets-spaced xs, drop-drop (3 * i) 1 (spaced xs), e, ← drop-drop 1 (3 * i) (spaced xs), spaced-drop xs i) (sym (octets-spaced (drop i xs)))

module _ (xs : List ℕ) (i : ℕ) where
  digits-at : i < length xs → take 2 (drop (3 * i) (octets_hex xs)) ≡ hex2 (get_or xs i 0)
  unfolding digits octets_hex
  digits-at h = rw (octets-drop xs i, drop_more xs i 0 h)

  blank-at : i + 1 < length xs → get_or (octets_hex xs) (3 * i + 2) 0 ≡ 0x20
  unfolding digits blank_hex2 spaced octets_hex
  blank-at h = rw (← get_or-drop (3 * i) (octets_hex xs) 2 0, octets-drop xs i, drop_more xs i 0 (omega arith), drop_more xs (i + 1) 0 h)

pub octets-parted : OctetsParted
octets-parted xs = (octets-length xs, λ i h. record { digits = digits-at xs i h; means = λ l. rw (digits-at xs i h) (hex-means 2 (get_or xs i 0) (omega arith)); blank = blank-at xs i })

pub ascii-as-said : AsciiAsSaid
ascii-as-said = record { none = refl; next = λ c s. refl; header = refl; reply = refl; bad = refl }
