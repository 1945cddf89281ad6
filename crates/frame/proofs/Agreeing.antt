-- Two decoders that agree in the place and in the fields that matter there are both possible or neither, and go on alike.
use Prim.Native.Nat.{ℕ, ◌+◌, ◌-◌, ◌<◌}
use mathlib.Core.Path.{◌≡◌, refl, sym, ap, subst, ◌∙◌}
use mathlib.Core.Bool.{Bool, true}
use mathlib.Core.List.{List, ◌∷◌}
use native.Mathlib.Numerals.{add-one}
use native.Mathlib.Omega.{arith}
use borrow.Author.Tests.{ltb-true}
use lib.Dec.{eqb, ltb}
use lib.ListN.{length, take, drop, set, get_or}
use lib.Seq.{take-suc-set}
use Rattle.octets.specs.declared.refusal.Refusal.TheVariants as why
use Rattle.octets.specs.Word.{low_of, word_of}
use Rattle.octets.proofs.Laws.{pick-by, both_left, both_right, clash}
use Rattle.frame.specs.declared.Kind.{Kind}
use Rattle.frame.specs.declared.Kind.TheVariants.{Message, Ack, Nak}
use Rattle.frame.specs.declared.decoder.Place.{Place}
use Rattle.frame.specs.declared.decoder.Place.TheVariants.{Idle, LoneAa, Seq, AddrHigh, AddrLow, LenHigh, LenLow, Info, InfoAa, CloseAa, CloseCc, Err, Cks}
use Rattle.frame.specs.declared.decoder.Head.{Head}
use Rattle.frame.specs.declared.decoder.Found.{Found}
use Rattle.frame.specs.declared.decoder.Found.TheVariants as found
use Rattle.frame.specs.declared.decoder.Stepped.{Stepped}
use Rattle.frame.specs.Frame.{message, len_fits, info_most, message_len}
use Rattle.frame.specs.Decoder.{Decoder, Taken, head_of, possible_at, possible_of, has_info, info_due, info_whole, err_due, cks_due, after_len, after_aa, kept, cks_in, front_in, step_at, step_of, taken, taken_as}
use Rattle.frame.specs.Run.{sound, found_means, outcome_of}
use Rattle.frame.specs.Promises.{kind_octet, parts_at, parts_of, SameFrom, PartsDecide}
use Rattle.frame.proofs.Laws.{info-len, possible-at, taken-done}
use Rattle.frame.proofs.Possible.{at}
use Rattle.frame.proofs.Resuming.{pick_two}

one-kind : (k k' : Kind) → kind_octet k ≡ kind_octet k' → k ≡ k'
one-kind Message Message h = refl
one-kind Message Ack h = absurd (omega arith)
one-kind Message Nak h = absurd (omega arith)
one-kind Ack Message h = absurd (omega arith)
one-kind Ack Ack h = refl
one-kind Ack Nak h = absurd (omega arith)
one-kind Nak Message h = absurd (omega arith)
one-kind Nak Ack h = absurd (omega arith)
one-kind Nak Nak h = refl

-- each part is the same
pub part : (j : ℕ) {u v : List ℕ} → u ≡ v → get_or u j 0 ≡ get_or v j 0
part j q = ap (λ (l : List ℕ). get_or l j 0) q

-- at CKS too the kind stands first
first_part : (k : Kind) (h : Head) (i : List ℕ) → get_or (parts_at Cks k h i) 0 0 ≡ kind_octet k
first_part Message h i = refl
first_part Ack h i = refl
first_part Nak h i = refl

cks-kind : (k₁ k₂ : Kind) (h₁ h₂ : Head) (i₁ i₂ : List ℕ) → parts_at Cks k₁ h₁ i₁ ≡ parts_at Cks k₂ h₂ i₂ → k₁ ≡ k₂
cks-kind k₁ k₂ h₁ h₂ i₁ i₂ q = one-kind k₁ k₂ (sym (first_part k₁ h₁ i₁) ∙ part 0 q ∙ first_part k₂ h₂ i₂)

-- two lists of the same parts: the kind, LEN and the count of INFO are the same
same_parts : (P : Kind → ℕ → ℕ → Bool) {k₁ k₂ : Kind} {s₁ s₂ a₁ a₂ n₁ n₂ g₁ g₂ : ℕ} {i₁ i₂ : List ℕ}
    → ◌≡◌ {A = List ℕ} (kind_octet k₁ ∷ s₁ ∷ a₁ ∷ n₁ ∷ g₁ ∷ i₁) (kind_octet k₂ ∷ s₂ ∷ a₂ ∷ n₂ ∷ g₂ ∷ i₂) → P k₁ n₁ g₁ ≡ true → P k₂ n₂ g₂ ≡ true
same_parts P {k₁} {k₂} {n₁ = n₁} {n₂ = n₂} {g₁ = g₁} {g₂ = g₂} q h =
    let k = one-kind k₁ k₂ (part 0 q) in
    let n : n₁ ≡ n₂ = part 3 q in
    let g : g₁ ≡ g₂ = part 4 q in
    rw (← k, ← n, ← g) h

module _ (e d : Decoder) where
  abbrev h₁ : Head
  h₁ = e.head

  abbrev h₂ : Head
  h₂ = d.head

  alike_at : (p : Place) (k₁ k₂ : Kind) → parts_at p k₁ h₁ e.info ≡ parts_at p k₂ h₂ d.info
      → possible_at p k₁ h₁.addr h₁.len h₁.filled ≡ true → possible_at p k₂ h₂.addr h₂.len h₂.filled ≡ true
  alike_at Idle k₁ k₂ q h = refl
  alike_at LoneAa k₁ k₂ q h = refl
  alike_at Seq k₁ k₂ q h = refl
  alike_at AddrHigh k₁ k₂ q h = refl
  alike_at AddrLow k₁ k₂ q h = let a : h₁.addr ≡ h₂.addr = part 2 q in rw (← a) h
  alike_at LenHigh k₁ k₂ q h = refl
  alike_at LenLow k₁ k₂ q h = let n : h₁.len ≡ h₂.len = part 3 q in rw (← n) h
  alike_at Info k₁ k₂ q h = same_parts info_due {k₁ = k₁} {k₂ = k₂} q h
  alike_at InfoAa k₁ k₂ q h = same_parts info_due {k₁ = k₁} {k₂ = k₂} q h
  alike_at CloseAa k₁ k₂ q h = same_parts info_whole {k₁ = k₁} {k₂ = k₂} q h
  alike_at CloseCc k₁ k₂ q h = same_parts info_whole {k₁ = k₁} {k₂ = k₂} q h
  alike_at Err k₁ k₂ q h =
      let k = one-kind k₁ k₂ (part 0 q) in
      let n : h₁.len ≡ h₂.len = part 3 q in
      rw (← k, ← n) h
  alike_at Cks k₁ k₂ q h = cks-at k₂ (rw (cks-kind k₁ k₂ h₁ h₂ e.info d.info q) at q) (rw (cks-kind k₁ k₂ h₁ h₂ e.info d.info q) at h)
    where
      cks-at : (k : Kind) → parts_at Cks k h₁ e.info ≡ parts_at Cks k h₂ d.info → cks_due k h₁.len h₁.filled ≡ true → cks_due k h₂.len h₂.filled ≡ true
      cks-at Message q h = same_parts info_whole {k₁ = Message} {k₂ = Message} q h
      cks-at Ack q h = let n : h₁.len ≡ h₂.len = part 3 q in rw (← n) h
      cks-at Nak q h = let n : h₁.len ≡ h₂.len = part 3 q in rw (← n) h

  pub alike : h₁.place ≡ h₂.place → parts_of e ≡ parts_of d → possible_of h₁ ≡ true → possible_of h₂ ≡ true
  unfolding possible_of
  alike p q h =
      alike_at h₂.place h₁.kind h₂.kind (subst (λ (u : Place). parts_at u h₁.kind h₁ e.info ≡ parts_of d) p q) (sym (possible-at h₁ p) ∙ h)

-- What an octet brings and leaves

record SameTaken (t u : Taken) : Type 0 where
  pub outcome : outcome_of t ≡ outcome_of u
  pub place : t.decoder.head.place ≡ u.decoder.head.place
  pub parts : parts_of t.decoder ≡ parts_of u.decoder

-- after an AA only what was found before it matters
aa-same : (d e : Decoder) (b : ℕ) (f₁ f₂ : Found) → found_means f₁ d.info ≡ found_means f₂ e.info → SameTaken (taken_as d b (after_aa d.head b f₁)) (taken_as e b (after_aa e.head b f₂))
aa-same d e b f₁ f₂ m =
    let R : Stepped → Stepped → Type 0 = λ t u. SameTaken (taken_as d b t) (taken_as e b u) in
    pick_two R (eqb b 0xAA) (record { outcome = m; place = refl; parts = refl })
    (pick_two R (eqb b 0xBB) (record { outcome = m; place = refl; parts = refl })
    (pick_two R (eqb b 0xDD) (record { outcome = m; place = refl; parts = refl })
    (pick_two R (eqb b 0xEE) (record { outcome = m; place = refl; parts = refl }) (record { outcome = m; place = refl; parts = refl }))))

-- the octet b at place p, to two decoders whose fields that matter are the same, or may not be
module _ (b e₁ e₂ : ℕ) (l₁ l₂ : List ℕ) where
  abbrev Goes : Place → Kind → Kind → ℕ → ℕ → ℕ → ℕ → ℕ → ℕ → ℕ → ℕ → Type 0
  Goes p k₁ k₂ s₁ s₂ a₁ a₂ n₁ n₂ g₁ g₂ =
      SameTaken (taken_as (at p k₁ s₁ e₁ a₁ n₁ g₁ l₁) b (step_at p (head_of p k₁ s₁ e₁ a₁ n₁ g₁) l₁ b))
      (taken_as (at p k₂ s₂ e₂ a₂ n₂ g₂ l₂) b (step_at p (head_of p k₂ s₂ e₂ a₂ n₂ g₂) l₂ b))

  len-same : (k : Kind) (s a n g₁ g₂ : ℕ) → Goes LenLow k k s s a a n n g₁ g₂
  len-same k s a n g₁ g₂ =
      pick_two (λ (t u : Stepped). SameTaken (taken_as (at LenLow k s e₁ a n g₁ l₁) b t) (taken_as (at LenLow k s e₂ a n g₂ l₂) b u)) (len_fits k (word_of (low_of n) b))
      (after k) (record { outcome = refl; place = refl; parts = refl })
    where
      after : (k : Kind) → SameTaken (taken (head_of (after_len k) k s e₁ a (word_of (low_of n) b) 0) l₁ found.Nothing) (taken (head_of (after_len k) k s e₂ a (word_of (low_of n) b) 0) l₂ found.Nothing)
      after Message = record { outcome = refl; place = refl; parts = refl }
      after Ack = record { outcome = refl; place = refl; parts = refl }
      after Nak = record { outcome = refl; place = refl; parts = refl }

  -- a frame with INFO
  module _ (s a n g : ℕ) (long₁ : length l₁ ≡ info_most) (long₂ : length l₂ ≡ info_most) (same : take g l₁ ≡ take g l₂) where
    abbrev R : Place → Stepped → Stepped → Type 0
    R p t u = SameTaken (taken_as (at p Message s e₁ a n g l₁) b t) (taken_as (at p Message s e₂ a n g l₂) b u)

    info-parts : (m : ℕ) {u v : List ℕ} → u ≡ v → ◌≡◌ {A = List ℕ} (0xBB ∷ s ∷ a ∷ n ∷ m ∷ u) (0xBB ∷ s ∷ a ∷ n ∷ m ∷ v)
    info-parts m w = ap (λ (v : List ℕ). 0xBB ∷ s ∷ a ∷ n ∷ m ∷ v) w

    stored_same : g < info_most → take (g + 1) (set l₁ g b) ≡ take (g + 1) (set l₂ g b)
    stored_same h = rw (add-one g, take-suc-set l₁ g b (omega arith), take-suc-set l₂ g b (omega arith), same)

    kept_same : (p : Place) → info_due Message n g ≡ true → R p (kept (head_of p Message s e₁ a n g)) (kept (head_of p Message s e₂ a n g))
    kept_same p h =
        let f = info-len Message n (both_left (len_fits Message n) (ltb g (n - message_len)) h) in
        let r = ltb-true g (n - message_len) (both_right (len_fits Message n) (ltb g (n - message_len)) h) in
        let w = stored_same (omega arith) in
        record {
          outcome = refl;
          place = refl;
          parts = pick-by (λ (p : Place). parts_at p Message (head_of p Message s e₁ a n (g + 1)) (set l₁ g b) ≡ parts_at p Message (head_of p Message s e₂ a n (g + 1)) (set l₂ g b)) (ltb (message_len + (g + 1)) n)
              (λ _. info-parts (g + 1) w) (λ _. info-parts (g + 1) w);
        }

    refused-same : (p : Place) → R p (after_aa (head_of p Message s e₁ a n g) b (found.Refused why.ClosingWrong Message s a)) (after_aa (head_of p Message s e₂ a n g) b (found.Refused why.ClosingWrong Message s a))
    refused-same p = aa-same (at p Message s e₁ a n g l₁) (at p Message s e₂ a n g l₂) b (found.Refused why.ClosingWrong Message s a) (found.Refused why.ClosingWrong Message s a) refl

    info-same : info_due Message n g ≡ true → Goes Info Message Message s s a a n n g g
    info-same h = pick_two (R Info) (eqb b 0xAA) (record { outcome = refl; place = refl; parts = info-parts g same }) (kept_same Info h)

    info-aa-same : info_due Message n g ≡ true → Goes InfoAa Message Message s s a a n n g g
    info-aa-same h = pick_two (R InfoAa) (eqb b 0xAA) (kept_same InfoAa h) (refused-same InfoAa)

    close-aa-same : Goes CloseAa Message Message s s a a n n g g
    close-aa-same = pick_two (R CloseAa) (eqb b 0xAA) (record { outcome = refl; place = refl; parts = info-parts g same }) (record { outcome = refl; place = refl; parts = refl })

    close-cc-same : Goes CloseCc Message Message s s a a n n g g
    close-cc-same = pick_two (R CloseCc) (eqb b 0xCC) (record { outcome = refl; place = refl; parts = info-parts g same }) (refused-same CloseCc)

    cks-value : cks_in (head_of Cks Message s e₁ a n g) l₁ ≡ cks_in (head_of Cks Message s e₂ a n g) l₂
    unfolding cks_in front_in
    cks-value = rw same

    cks-same : Goes Cks Message Message s s a a n n g g
    cks-same =
        rw cks-value
        (pick_two (R Cks) (eqb (cks_in (head_of Cks Message s e₂ a n g) l₂) b)
        (record { outcome = ap (λ (v : List ℕ). sound (message s a v)) same; place = refl; parts = refl }) (record { outcome = refl; place = refl; parts = refl }))

  ack-same : (s a n g₁ g₂ : ℕ) → Goes Cks Ack Ack s s a a n n g₁ g₂
  unfolding cks_in front_in
  ack-same s a n g₁ g₂ =
      pick_two (λ (t u : Stepped). SameTaken (taken_as (at Cks Ack s e₁ a n g₁ l₁) b t) (taken_as (at Cks Ack s e₂ a n g₂ l₂) b u)) (eqb (cks_in (head_of Cks Ack s e₁ a n g₁) l₁) b)
      (record { outcome = refl; place = refl; parts = refl }) (record { outcome = refl; place = refl; parts = refl })

  -- where the parts tell the kind and INFO, all that they tell is the same
  to_same : (p : Place) (k₁ k₂ : Kind) (s₁ s₂ a₁ a₂ n₁ n₂ g₁ g₂ : ℕ) → k₁ ≡ Message
      → ◌≡◌ {A = List ℕ} (kind_octet k₁ ∷ s₁ ∷ a₁ ∷ n₁ ∷ g₁ ∷ take g₁ l₁) (kind_octet k₂ ∷ s₂ ∷ a₂ ∷ n₂ ∷ g₂ ∷ take g₂ l₂)
      → (take g₁ l₁ ≡ take g₁ l₂ → Goes p Message Message s₁ s₁ a₁ a₁ n₁ n₁ g₁ g₁) → Goes p k₁ k₂ s₁ s₂ a₁ a₂ n₁ n₂ g₁ g₂
  to_same p k₁ k₂ s₁ s₂ a₁ a₂ n₁ n₂ g₁ g₂ m q w =
      let m₂ : k₂ ≡ Message = sym (one-kind k₁ k₂ (part 0 q)) ∙ m in
      let s : s₁ ≡ s₂ = part 1 q in
      let a : a₁ ≡ a₂ = part 2 q in
      let n : n₁ ≡ n₂ = part 3 q in
      let g : g₁ ≡ g₂ = part 4 q in
      let i : take g₁ l₁ ≡ take g₁ l₂ = ap (drop 5) q ∙ rw (← g) in
      rw (m, m₂, ← s, ← a, ← n, ← g) (w i)

nak-same : (b e : ℕ) (l₁ l₂ : List ℕ) (s a n g₁ g₂ : ℕ) → Goes b e e l₁ l₂ Cks Nak Nak s s a a n n g₁ g₂
unfolding cks_in front_in
nak-same b e l₁ l₂ s a n g₁ g₂ =
    pick_two (λ (t u : Stepped). SameTaken (taken_as (at Cks Nak s e a n g₁ l₁) b t) (taken_as (at Cks Nak s e a n g₂ l₂) b u)) (eqb (cks_in (head_of Cks Nak s e a n g₁) l₁) b)
    (record { outcome = refl; place = refl; parts = refl }) (record { outcome = refl; place = refl; parts = refl })

message-kind : (k : Kind) (n : ℕ) → has_info k n ≡ true → k ≡ Message
message-kind Message n h = refl
message-kind Ack n h = absurd (clash refl h)
message-kind Nak n h = absurd (clash refl h)

module _ (b s₁ s₂ e₁ e₂ a₁ a₂ n₁ n₂ g₁ g₂ : ℕ) (l₁ l₂ : List ℕ) (long₁ : length l₁ ≡ info_most) (long₂ : length l₂ ≡ info_most) where
  abbrev Parts : Place → Kind → Kind → Type 0
  Parts p k₁ k₂ = parts_at p k₁ (head_of p k₁ s₁ e₁ a₁ n₁ g₁) l₁ ≡ parts_at p k₂ (head_of p k₂ s₂ e₂ a₂ n₂ g₂) l₂

  err-same : (k₁ k₂ : Kind) → Parts Err k₁ k₂ → err_due k₁ n₁ ≡ true → Goes b e₁ e₂ l₁ l₂ Err k₁ k₂ s₁ s₂ a₁ a₂ n₁ n₂ g₁ g₂
  err-same Message k₂ q h = absurd (clash refl h)
  err-same Ack k₂ q h = absurd (clash refl h)
  err-same Nak Message q h = absurd (omega (arith, part 0 q))
  err-same Nak Ack q h = absurd (omega (arith, part 0 q))
  err-same Nak Nak q h = record { outcome = refl; place = refl; parts = cc }

  cks-at : (k : Kind) → Parts Cks k k → cks_due k n₁ g₁ ≡ true → Goes b e₁ e₂ l₁ l₂ Cks k k s₁ s₂ a₁ a₂ n₁ n₂ g₁ g₂
  cks-at Message q h = to_same b e₁ e₂ l₁ l₂ Cks Message Message s₁ s₂ a₁ a₂ n₁ n₂ g₁ g₂ refl q (cks-same b e₁ e₂ l₁ l₂ s₁ a₁ n₁ g₁ long₁ long₂)
  cks-at Ack q h =
      let s : s₁ ≡ s₂ = part 1 q in
      let a : a₁ ≡ a₂ = part 2 q in
      let n : n₁ ≡ n₂ = part 3 q in
      rw (← s, ← a, ← n) (ack-same b e₁ e₂ l₁ l₂ s₁ a₁ n₁ g₁ g₂)
  cks-at Nak q h =
      let s : s₁ ≡ s₂ = part 1 q in
      let a : a₁ ≡ a₂ = part 2 q in
      let n : n₁ ≡ n₂ = part 3 q in
      let e : e₁ ≡ e₂ = part 4 q in
      rw (← s, ← a, ← n, ← e) (nak-same b e₁ l₁ l₂ s₁ a₁ n₁ g₁ g₂)

  due-kind : (k : Kind) → info_due k n₁ g₁ ≡ true → k ≡ Message
  due-kind k h = message-kind k n₁ (both_left (has_info k n₁) (ltb g₁ (n₁ - message_len)) h)

  whole-kind : (k : Kind) → info_whole k n₁ g₁ ≡ true → k ≡ Message
  whole-kind k h = message-kind k n₁ (both_left (has_info k n₁) (eqb g₁ (n₁ - message_len)) h)

  same_at : (p : Place) (k₁ k₂ : Kind) → Parts p k₁ k₂ → possible_at p k₁ a₁ n₁ g₁ ≡ true → Goes b e₁ e₂ l₁ l₂ p k₁ k₂ s₁ s₂ a₁ a₂ n₁ n₂ g₁ g₂
  same_at Idle k₁ k₂ q h =
      pick_two (λ (t u : Stepped). SameTaken (taken_as (at Idle k₁ s₁ e₁ a₁ n₁ g₁ l₁) b t) (taken_as (at Idle k₂ s₂ e₂ a₂ n₂ g₂ l₂) b u)) (eqb b 0xAA)
      (record { outcome = refl; place = refl; parts = refl }) (record { outcome = refl; place = refl; parts = refl })
  same_at LoneAa k₁ k₂ q h = aa-same (at LoneAa k₁ s₁ e₁ a₁ n₁ g₁ l₁) (at LoneAa k₂ s₂ e₂ a₂ n₂ g₂ l₂) b found.Nothing found.Nothing refl
  same_at Seq k₁ k₂ q h = record { outcome = refl; place = refl; parts = cc }
  same_at AddrHigh k₁ k₂ q h = record { outcome = refl; place = refl; parts = cc }
  same_at AddrLow k₁ k₂ q h = record { outcome = refl; place = refl; parts = cc }
  same_at LenHigh k₁ k₂ q h = record { outcome = refl; place = refl; parts = cc }
  same_at LenLow k₁ k₂ q h =
      let k = one-kind k₁ k₂ (part 0 q) in
      let s : s₁ ≡ s₂ = part 1 q in
      let a : a₁ ≡ a₂ = part 2 q in
      let n : n₁ ≡ n₂ = part 3 q in
      rw (← k, ← s, ← a, ← n) (len-same b e₁ e₂ l₁ l₂ k₁ s₁ a₁ n₁ g₁ g₂)
  same_at Info k₁ k₂ q h =
      let m = due-kind k₁ h in
      to_same b e₁ e₂ l₁ l₂ Info k₁ k₂ s₁ s₂ a₁ a₂ n₁ n₂ g₁ g₂ m q (λ i. info-same b e₁ e₂ l₁ l₂ s₁ a₁ n₁ g₁ long₁ long₂ i (rw m at h))
  same_at InfoAa k₁ k₂ q h =
      let m = due-kind k₁ h in
      to_same b e₁ e₂ l₁ l₂ InfoAa k₁ k₂ s₁ s₂ a₁ a₂ n₁ n₂ g₁ g₂ m q (λ i. info-aa-same b e₁ e₂ l₁ l₂ s₁ a₁ n₁ g₁ long₁ long₂ i (rw m at h))
  same_at CloseAa k₁ k₂ q h = to_same b e₁ e₂ l₁ l₂ CloseAa k₁ k₂ s₁ s₂ a₁ a₂ n₁ n₂ g₁ g₂ (whole-kind k₁ h) q (close-aa-same b e₁ e₂ l₁ l₂ s₁ a₁ n₁ g₁ long₁ long₂)
  same_at CloseCc k₁ k₂ q h = to_same b e₁ e₂ l₁ l₂ CloseCc k₁ k₂ s₁ s₂ a₁ a₂ n₁ n₂ g₁ g₂ (whole-kind k₁ h) q (close-cc-same b e₁ e₂ l₁ l₂ s₁ a₁ n₁ g₁ long₁ long₂)
  same_at Err k₁ k₂ q h = err-same k₁ k₂ q h
  same_at Cks k₁ k₂ q h =
      let k = cks-kind k₁ k₂ (head_of Cks k₁ s₁ e₁ a₁ n₁ g₁) (head_of Cks k₂ s₂ e₂ a₂ n₂ g₂) l₁ l₂ q in
      subst (λ (v : Kind). Parts Cks k₁ v → Goes b e₁ e₂ l₁ l₂ Cks k₁ v s₁ s₂ a₁ a₂ n₁ n₂ g₁ g₂) k (λ q. cks-at k₁ q h) q

-- the calls, of two decoders at one place
calls_same : (d e : Decoder) (b : ℕ) → possible_of d.head ≡ true → possible_of e.head ≡ true → SameTaken (step_of d b) (step_of e b) → SameFrom d e b
calls_same d e b h₁ h₂ w =
    let t = taken-done d b h₁ in
    let u = taken-done e b h₂ in
    record { outcome = rw (t, u) w.outcome; place = rw (t, u) w.place; parts = rw (t, u) w.parts }

pub parts-decide : PartsDecide
unfolding step_of possible_of
parts-decide d e b h long₁ long₂ p q =
    let x = d.head in
    let y = e.head in
    let E : Place → Decoder = λ u. at u y.kind y.seq y.err y.addr y.len y.filled e.info in
    subst (λ (u : Place). parts_of d ≡ parts_of (E u) → possible_of (E u).head ≡ true → SameFrom d (E u) b) p
    (λ q h₂. calls_same d (E x.place) b h h₂
    (same_at b x.seq y.seq x.err y.err x.addr y.addr x.len y.len x.filled y.filled d.info e.info long₁ long₂ x.place x.kind y.kind q h))
    q (alike d e p q h)
