-- The definitions' tests of INFO and LEN are the ones of 01's table.
use Prim.Native.Nat.{ℕ, ◌≤◌}
use mathlib.Core.Path.{◌≡◌, refl}
use mathlib.Core.Bool.{Bool, true, false}
use borrow.Author.Tests.{leb-true, le-leb}
use lib.Dec.{leb}
use lib.ListN.{length}
use Rattle.octets.proofs.Laws.{both_left, both_right}
use Rattle.frame.specs.declared.Kind.TheVariants.{Message}
use Rattle.frame.specs.Frame.{Frame, message, ack, nak, len_fits, info_fits}
use Rattle.frame.specs.Promises.{InfoFits}

pub fits_in : (f : Frame) → info_fits f ≡ true → InfoFits f
fits_in (message s a i) h = let n = length i in (leb-true 2 n (both_left (leb 2 n) (leb n 256) h), leb-true n 256 (both_right (leb 2 n) (leb n 256) h))
fits_in (ack s a) h = tt
fits_in (nak s a e) h = tt

pub in-fits : (f : Frame) → InfoFits f → info_fits f ≡ true
in-fits (message s a i) h = rw (le-leb 2 (length i) h.0, le-leb (length i) 256 h.1)
in-fits (ack s a) h = refl
in-fits (nak s a e) h = refl

pub not_in : (f : Frame) → (InfoFits f → ⊥) → info_fits f ≡ false
not_in f n = by (info_fits f) refl
  where
    by : (b : Bool) → info_fits f ≡ b → b ≡ false
    by true e = absurd (n (fits_in f e))
    by false e = refl

pub len-message : (n : ℕ) → 12 ≤ n → n ≤ 266 → len_fits Message n ≡ true
len-message n p q = rw (le-leb 12 n p, le-leb n 266 q)

pub len-not-message : (n : ℕ) → (12 ≤ n → n ≤ 266 → ⊥) → len_fits Message n ≡ false
len-not-message n z = by (len_fits Message n) refl
  where
    by : (b : Bool) → len_fits Message n ≡ b → b ≡ false
    by true e = absurd (z (leb-true 12 n (both_left (leb 12 n) (leb n 266) e)) (leb-true n 266 (both_right (leb 12 n) (leb n 266) e)))
    by false e = refl
