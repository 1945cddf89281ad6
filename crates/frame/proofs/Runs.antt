-- What is meant by outcomes, one after another: each by its definition, which unfolds to it.
use Prim.Native.Nat.{ℕ}
use mathlib.Core.Path.{◌≡◌, refl}
use mathlib.Core.Bool.{false}
use mathlib.Core.Logic.{◌⊎◌, inl, inr}
use borrow.Author.Tests.{eq-eqb, ne_eqb}
use Rattle.frame.specs.declared.decoder.Place.{Place}
use Rattle.frame.specs.declared.decoder.Place.TheVariants.{Idle, LoneAa, Seq, AddrHigh, AddrLow, LenHigh, LenLow, Info, InfoAa, CloseAa, CloseCc, Err, Cks}
use Rattle.frame.specs.Run.{outcomes, decoder_after, drops, NothingDropped}
use Rattle.frame.specs.Promises.{FoundFits, DropsSo, RunsAsSaid}
use Rattle.frame.proofs.Finding.{finds}

drops-so : (b : ℕ) → DropsSo b
drops-so b =
    record {
      idle = λ n. rw (ne_eqb b 0xAA n);
      idle_not = λ e. rw (eq-eqb b 0xAA e);
      lone = λ n m k. rw (ne_eqb b 0xBB n, ne_eqb b 0xDD m, ne_eqb b 0xEE k);
      lone_not = opens;
      nowhere = nowhere;
    }
  where
    opens : (b ≡ 0xBB) ⊎ ((b ≡ 0xDD) ⊎ (b ≡ 0xEE)) → drops LoneAa b ≡ false
    opens (inl e) = rw e
    opens (inr (inl e)) = rw e
    opens (inr (inr e)) = rw e

    nowhere : (p : Place) → (p ≡ Idle → ⊥) → (p ≡ LoneAa → ⊥) → drops p b ≡ false
    nowhere Idle n m = absurd (n refl)
    nowhere LoneAa n m = absurd (m refl)
    nowhere Seq n m = refl
    nowhere AddrHigh n m = refl
    nowhere AddrLow n m = refl
    nowhere LenHigh n m = refl
    nowhere LenLow n m = refl
    nowhere Info n m = refl
    nowhere InfoAa n m = refl
    nowhere CloseAa n m = refl
    nowhere CloseCc n m = refl
    nowhere Err n m = refl
    nowhere Cks n m = refl

pub runs-as-said : RunsAsSaid
unfolding outcomes decoder_after NothingDropped
runs-as-said =
    record {
      none = λ i. refl;
      refusal = λ n k s a i. refl;
      message = λ s a n i. refl;
      ack = λ s a i. refl;
      nak = λ s a e i. refl;
      found = finds {P = FoundFits} (record { nothing = tt; refused = λ n k s a h. h; message = λ s a n l h. (l, h); ack = λ s a. tt; nak = λ s a e. tt });
      outcome = λ t. refl;
      no_octet = λ d. (refl, refl);
      octet_more = λ d x xs. (refl, refl);
      rest = λ d. (λ r. (r.idle, r.long), λ p l. record { idle = p; long = l });
      dropped = drops-so;
      nothing_yet = λ d. tt;
      nothing_more = λ d x xs. (λ n. n, λ n. n);
    }
