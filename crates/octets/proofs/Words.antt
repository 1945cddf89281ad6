-- Octets, words and exclusive or are as 01 says: by arithmetic, and by the library's laws of bits.
use Prim.Native.Nat.{ℕ, zero, suc, ◌+◌, ◌/◌, ◌%◌, ◌^◌, ◌<◌}
use mathlib.Core.Path.{◌≡◌, refl}
use mathlib.Core.List.{List, [], ◌∷◌}
use native.Mathlib.Omega.{arith}
use lib.Bits.{xor_add_and, xor_shr}
use lib.ListN.{length, get_or}
use Rattle.octets.specs.ExclusiveOr.{xor, exclusive_or}
use Rattle.octets.specs.Octet.{Octets}
use Rattle.octets.specs.Promises.{OctetsAsSaid}

all-octets : (xs : List ℕ) → ((i : ℕ) → i < length xs → get_or xs i 0 < 256) → Octets xs
all-octets [] h = tt
all-octets (x ∷ xs) h = (h 0 (omega arith), all-octets xs (λ i l. h (suc i) (omega arith)))

octets-below : (xs : List ℕ) → Octets xs → (i : ℕ) → i < length xs → get_or xs i 0 < 256
octets-below [] o i h = absurd (omega arith)
octets-below (x ∷ xs) o zero h = o.0
octets-below (x ∷ xs) o (suc i) h = octets-below xs o.1 i (omega arith)

-- a sum is the exclusive or with the common bits twice, so the two have the same lowest bit
xor-bit : (a b n : ℕ) → xor a b / 2 ^ n % 2 ≡ (a / 2 ^ n + b / 2 ^ n) % 2
unfolding xor
xor-bit a b n = rw (xor_shr a b n) (omega (arith, xor_add_and (a / 2 ^ n) (b / 2 ^ n)))

pub octets-as-said : OctetsAsSaid
unfolding exclusive_or
octets-as-said =
    record {
      octets = all-octets;
      below = octets-below;
      word = λ high low. omega arith;
      parted = λ x. omega arith;
      low = λ x. omega arith;
      bit = xor-bit;
      start = λ a. refl;
      next = λ a x xs. refl;
      code = refl;
    }
