-- A decoder is possible exactly when octets lead to it from rest: its own fields tell the octets that do.
use Prim.Native.Nat.{ℕ, ◌-◌, ◌≤◌, ◌<◌}
use mathlib.Core.Path.{◌≡◌, refl, sym, ap, subst, ◌∙◌}
use mathlib.Core.Bool.{true}
use mathlib.Core.List.{List, [], ◌∷◌, ◌++◌, append-nil}
use native.Mathlib.Omega.{arith}
use borrow.Author.Tests.{eqb-true, ltb-true}
use lib.Dec.{eqb, ltb}
use lib.ListN.{length, take}
use lib.Seq.{sets, length-take-le}
use Rattle.octets.specs.Octet.{Octets}
use Rattle.octets.proofs.Laws.{both_left, both_right, clash, octets-append, octets-take}
use Rattle.frame.specs.declared.Kind.{Kind}
use Rattle.frame.specs.declared.Kind.TheVariants.{Message, Ack, Nak}
use Rattle.frame.specs.declared.decoder.Place.{Place}
use Rattle.frame.specs.declared.decoder.Place.TheVariants.{Idle, LoneAa, Seq, AddrHigh, AddrLow, LenHigh, LenLow, Info, InfoAa, CloseAa, CloseCc, Err, Cks}
use Rattle.frame.specs.Frame.{message_len, info_most, ack_len, nak_len, len_fits, front, doubled}
use Rattle.frame.specs.Decoder.{Decoder, head_of, possible_of, info_due, info_whole, step_of, taken_of}
use Rattle.frame.specs.Run.{decoder_after, AtRest, NothingDropped}
use Rattle.frame.specs.Promises.{parts_of, FieldsHold, LedTo, PossibleExactly}
use Rattle.frame.proofs.Laws.{info-len, possible-at}
use Rattle.frame.proofs.Possible.{at, possible-kept}
use Rattle.frame.proofs.Agreeing.{alike}
use Rattle.frame.proofs.Reading.{Quiet, done, once, quiet_then, quiet-after, quiet-undropped, lone-run, opened-run, seq-run, addr-high-run, addr-run, len-high-run, front-run, stored-info, opener-octet, front-octets, doubled-octets}
use Rattle.frame.proofs.Refusing.{open-run, closed_run}

-- Octets lead to every possible decoder

-- and none of them is dropped
abbrev Led : Decoder → Decoder → Type 0
Led r d = (w : LedTo r d) × NothingDropped r w.octets

module _ (k₀ : Kind) (s₀ e₀ a₀ n₀ g₀ : ℕ) (l₀ : List ℕ) (hl₀ : length l₀ ≡ info_most) where
  abbrev rest : Decoder
  rest = at Idle k₀ s₀ e₀ a₀ n₀ g₀ l₀

  led-by : {t : Decoder} (d : Decoder) {xs : List ℕ} → Quiet rest xs t → Octets xs → t.head.place ≡ d.head.place → parts_of t ≡ parts_of d → Led rest d
  unfolding decoder_after possible_of
  led-by {t} d {xs} q o p e =
      let w : decoder_after rest xs ≡ t = rw append-nil at (quiet-after [] q refl o).0 in
      (record { octets = xs; each = o; place = ap (λ (u : Decoder). u.head.place) w ∙ p; parts = ap (λ (u : Decoder). parts_of u) w ∙ e }, quiet-undropped q refl o)

  module _ (s e a n g : ℕ) (l : List ℕ) (hs : s < 256) (he : e < 256) (ha : a < 65536) (hi : Octets l) (hl : length l ≡ 256) where
    abbrev i : List ℕ
    i = take g l

    -- INFO that is in
    info-kept : g ≤ 256 → (length i ≡ g) × (take (length i) (sets l₀ 0 i) ≡ i)
    info-kept h = let n : length i ≡ g = length-take-le g l (omega arith) in (n, stored-info i l₀ (omega arith))

    info-octets : n < 65536 → Octets (front Message s a n ++ doubled i)
    info-octets hn = octets-append (front Message s a n) (doubled i) (front-octets Message s a n hs ha hn) (doubled-octets i (octets-take g l hi))

    aa : Octets (0xAA ∷ [])
    aa = (omega arith, tt)

    led-info : info_due Message n g ≡ true → Led rest (at Info Message s e a n g l) × Led rest (at InfoAa Message s e a n g l)
    unfolding step_of
    led-info h =
        let f = both_left (len_fits Message n) (ltb g (n - message_len)) h in
        let m = info-len Message n f in
        let r = ltb-true g (n - message_len) (both_right (len_fits Message n) (ltb g (n - message_len)) h) in
        let w = info-kept (omega arith) in
        let wl : length i ≡ g = w.0 in
        let wi : take (length i) (sets l₀ 0 i) ≡ i = w.1 in
        let q = open-run k₀ s₀ e₀ a₀ n₀ g₀ l₀ hl₀ s a n i ha f (omega arith) in
        let o = info-octets (omega arith) in
        let q₁ : Quiet (at Info Message s e₀ a n (length i) (sets l₀ 0 i)) (0xAA ∷ []) (at InfoAa Message s e₀ a n (length i) (sets l₀ 0 i)) = once refl refl in (
          led-by (at Info Message s e a n g l) q o refl (cc),
          led-by (at InfoAa Message s e a n g l) (quiet_then q q₁) (octets-append (front Message s a n ++ doubled i) (0xAA ∷ []) o aa) refl (cc),
        )

    led-close : info_whole Message n g ≡ true → Led rest (at CloseAa Message s e a n g l) × Led rest (at CloseCc Message s e a n g l) × Led rest (at Cks Message s e a n g l)
    unfolding step_of
    led-close h =
        let f = both_left (len_fits Message n) (eqb g (n - message_len)) h in
        let m = info-len Message n f in
        let r = eqb-true g (n - message_len) (both_right (len_fits Message n) (eqb g (n - message_len)) h) in
        let w = info-kept (omega arith) in
        let wl : length i ≡ g = w.0 in
        let wi : take (length i) (sets l₀ 0 i) ≡ i = w.1 in
        let q = closed_run k₀ s₀ e₀ a₀ n₀ g₀ l₀ hl₀ s a n i ha f (omega arith) in
        let o = info-octets (omega arith) in
        let q₁ : Quiet (at CloseAa Message s e₀ a n (length i) (sets l₀ 0 i)) (0xAA ∷ []) (at CloseCc Message s e₀ a n (length i) (sets l₀ 0 i)) = once refl refl in
        let q₂ : Quiet (at CloseCc Message s e₀ a n (length i) (sets l₀ 0 i)) (0xCC ∷ []) (at Cks Message s e₀ a n (length i) (sets l₀ 0 i)) = once refl refl in
        let o₁ = octets-append (front Message s a n ++ doubled i) (0xAA ∷ []) o aa in (
          led-by (at CloseAa Message s e a n g l) q o refl (cc),
          led-by (at CloseCc Message s e a n g l) (quiet_then q q₁) o₁ refl (cc),
          led-by (at Cks Message s e a n g l) (quiet_then (quiet_then q q₁) q₂) (octets-append ((front Message s a n ++ doubled i) ++ (0xAA ∷ [])) (0xCC ∷ []) o₁ (omega arith, tt)) refl (cc),
        )

    led-err : len_fits Nak n ≡ true → Led rest (at Err Nak s e a n g l) × Led rest (at Cks Nak s e a n g l)
    unfolding step_of
    led-err h =
        let r = eqb-true n nak_len h in
        let q = front-run k₀ s₀ e₀ a₀ n₀ g₀ Nak s a n l₀ ha (omega arith) h in
        let o = front-octets Nak s a n hs ha (omega arith) in
        let q₁ : Quiet (at Err Nak s e₀ a n 0 l₀) (e ∷ []) (at Cks Nak s e a n 0 l₀) = once refl refl in
        (led-by (at Err Nak s e a n g l) q o refl refl, led-by (at Cks Nak s e a n g l) (quiet_then q q₁) (octets-append (front Nak s a n) (e ∷ []) o (he, tt)) refl refl)

    led-at : (p : Place) (k : Kind) → possible_of (head_of p k s e a n g) ≡ true → Led rest (at p k s e a n g l)
    unfolding possible_of
    led-at Idle k h = led-by (at Idle k s e a n g l) done tt refl refl
    led-at LoneAa k h = led-by (at LoneAa k s e a n g l) (lone-run k₀ s₀ e₀ a₀ n₀ g₀ k s l₀) aa refl refl
    led-at Seq k h = led-by (at Seq k s e a n g l) (opened-run k₀ s₀ e₀ a₀ n₀ g₀ k s l₀) (omega arith, (opener-octet k, tt)) refl refl
    led-at AddrHigh k h = led-by (at AddrHigh k s e a n g l) (seq-run k₀ s₀ e₀ a₀ n₀ g₀ k s l₀) (omega arith, (opener-octet k, (hs, tt))) refl refl
    led-at AddrLow k h = led-by (at AddrLow k s e a n g l) (addr-high-run k₀ s₀ e₀ a₀ n₀ g₀ k s l₀ a) (omega arith, (opener-octet k, (hs, (ltb-true a 256 h, tt)))) refl refl
    led-at LenHigh k h = led-by (at LenHigh k s e a n g l) (addr-run k₀ s₀ e₀ a₀ n₀ g₀ k s l₀ a ha) (omega arith, (opener-octet k, (hs, (omega arith, (omega arith, tt))))) refl refl
    led-at LenLow k h = led-by (at LenLow k s e a n g l) (len-high-run k₀ s₀ e₀ a₀ n₀ g₀ k s l₀ a ha n) (omega arith, (opener-octet k, (hs, (omega arith, (omega arith, (ltb-true n 256 h, tt)))))) refl refl
    led-at Info Message h = (led-info h).0
    led-at Info Ack h = absurd (clash refl h)
    led-at Info Nak h = absurd (clash refl h)
    led-at InfoAa Message h = (led-info h).1
    led-at InfoAa Ack h = absurd (clash refl h)
    led-at InfoAa Nak h = absurd (clash refl h)
    led-at CloseAa Message h = (led-close h).0
    led-at CloseAa Ack h = absurd (clash refl h)
    led-at CloseAa Nak h = absurd (clash refl h)
    led-at CloseCc Message h = (led-close h).1
    led-at CloseCc Ack h = absurd (clash refl h)
    led-at CloseCc Nak h = absurd (clash refl h)
    led-at Err Message h = absurd (clash refl h)
    led-at Err Ack h = absurd (clash refl h)
    led-at Err Nak h = (led-err h).0
    led-at Cks Message h = (led-close h).2
    led-at Cks Ack h = led-by (at Cks Ack s e a n g l) (front-run k₀ s₀ e₀ a₀ n₀ g₀ Ack s a n l₀ ha (omega (arith, eqb-true n ack_len h)) h) (front-octets Ack s a n hs ha (omega (arith, eqb-true n ack_len h))) refl refl
    led-at Cks Nak h = (led-err h).1

-- What octets lead to is possible, and so is what agrees with it

possible-after : (d : Decoder) (xs : List ℕ) → Octets xs → possible_of d.head ≡ true → possible_of (decoder_after d xs).head ≡ true
unfolding decoder_after
possible-after d [] o p = p
possible-after d (x ∷ xs) o p = possible-after (taken_of d x).decoder xs o.1 ((possible-kept.1 d).octet x o.0 p)

pub led-clean : (r d : Decoder) → AtRest r → possible_of d.head ≡ true → FieldsHold d → Led r d
led-clean r d a p f =
    let s = r.head in
    let h = d.head in
    subst (λ (q : Place). Led (at q s.kind s.seq s.err s.addr s.len s.filled r.info) d) (sym a.idle)
    (led-at s.kind s.seq s.err s.addr s.len s.filled r.info a.long
    h.seq h.err h.addr h.len h.filled d.info f.seq f.err f.addr f.info f.long h.place h.kind p)

pub possible-exactly : PossibleExactly
possible-exactly r d a =
    let s = r.head in
    record {
      led = λ p f. (led-clean r d a p f).0;
      only = λ w. alike (decoder_after r w.octets) d w.place w.parts (possible-after r w.octets w.each (possible-at s a.idle));
    }
