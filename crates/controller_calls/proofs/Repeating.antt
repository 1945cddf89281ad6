-- A frame that is a repeat, and one that is accepted, as the code has them: struct and octets lent.
use Rattle.std.proofs.Common.{◌≡◌, ℕ, ◌+◌, ◌-◌, ◌≤◌, Bool, true, false, not, eqb, List, [], ◌∷◌, ◌&&◌, length, take, drop, sym, refl, ap, ◌∙◌, arith, length-drop, length-take-le, get_or-take, take-take, eq-eqb, ne_eqb}
use lib.Seq.{sets, sets-eq, paste}
use Rattle.std.specs.Cmp.Lexicographic.{pointwise}
use Rattle.std.specs.List.{copy_within}
use Rattle.octets.specs.Choice.{both}
use Rattle.octets.specs.Part.{code_len}
use Rattle.octets.specs.Put.{Stored}
use Rattle.octets.specs.Refusal as refusal
use Rattle.octets.specs.Same.{same}
use Rattle.octets.proofs.Laws.{drop-sets-past, drop-sets-within, take-sets-past, take-sets-within}
use Rattle.frame.specs.Frame.{info_least, info_most}
use Rattle.message.specs.Reader.{code_in}
use Rattle.controller.specs.declared.Event.TheVariants as event
use Rattle.controller.specs.declared.Held.{Held}
use Rattle.controller.specs.declared.Last.{Last}
use Rattle.controller.specs.Memory.{Memory, joined_memory, last_fits, is_repeat, remembering}
use Rattle.controller.specs.Sender.{out_start}
use Rattle.controller.specs.State.{joined, kept_len}
use Rattle.controller.specs.Replies.{sent, acks, for_us, met_with_silence, message_of, memory_of}
use Rattle.controller.proofs.Laws.{message-other, message-repeat, message-silent, message-new, memory-other, memory-repeat, memory-silent, memory-new}
use Rattle.controller.proofs.Judging.{last-parts}
use Rattle.controller.proofs.Remembering.{repeat-is}
use Rattle.controller_calls.specs.Memory.{Remembered}
use Rattle.controller_calls.specs.Replies.{ResultInNumbers, BroughtInNumbers, unchanged_as, brought_still, AcceptedWith, SilenceWith, BroughtLeft}
use Rattle.controller_calls.proofs.Written.{sent-none, memory-came, out-came, brought-unchanged}

-- A repeat, way by way

-- the library's `==` at octets
pub pointwise-same : (xs ys : List ℕ) → pointwise eqb xs ys ≡ same xs ys
unfolding same
pointwise-same [] [] = refl
pointwise-same [] (y ∷ ys) = refl
pointwise-same (x ∷ xs) [] = refl
pointwise-same (x ∷ xs) (y ∷ ys) = rw (pointwise-same xs ys) (elim (eqb x y) as (λ b. (b && same xs ys) ≡ both b (same xs ys)) [ true ↦ refl | false ↦ refl ])

module _ (last : Last) (kept : List ℕ) (seq n : ℕ) (least : info_least ≤ n) (most : n ≤ info_most) (fits : last_fits last ≡ true) (long : kept_len ≤ length kept) where
  abbrev m : Memory
  m = joined_memory last kept

  abbrev info : List ℕ
  info = take n kept

  pub seq-other : (seq ≡ last.seq → ⊥) → false ≡ is_repeat m seq info
  unfolding is_repeat
  seq-other g = rw (ne_eqb seq last.seq g) (by (not (eqb last.len 0)))
    where
      by : (t : Bool) → false ≡ both t false
      by true = refl
      by false = refl

  pub len-other : (n ≡ last.len → ⊥) → false ≡ is_repeat m seq info
  len-other g = by (is_repeat m seq info) refl
    where
      by : (t : Bool) → is_repeat m seq info ≡ t → false ≡ t
      by true e =
          let i = length-take-le info_most (drop info_most kept) (omega (arith, length-drop info_most kept)) in
          absurd (g (sym ((repeat-is m seq info i (last-parts last fits) e).long ∙ length-take-le n kept (omega arith))))
      by false e = refl

  pub as_same : seq ≡ last.seq → n ≡ last.len → {r : Bool} → r ≡ same (take n kept) (take ((info_most + n) - info_most) (drop info_most kept)) → r ≡ is_repeat m seq info
  unfolding is_repeat
  as_same e f g =
      let k : (info_most + n) - info_most ≡ n = omega arith in
      rw (ne_eqb last.len 0 (λ z. omega (arith, z, f)), eq-eqb seq last.seq e, ← f, take-take n info_most (drop info_most kept) most)
      (g ∙ (λ i. same (take n kept) (take (k i) (drop info_most kept))))

-- A frame that is accepted

-- the library's copy of its INFO
pub copied-behind : (n : ℕ) (kept : List ℕ) → n ≤ info_most → kept_len ≤ length kept → copy_within kept 0 n info_most ≡ sets kept info_most (take n kept)
copied-behind n kept most long =
    let l : length (take n kept) ≡ n = length-take-le n kept (omega arith) in
    let j : n - 0 ≡ n = omega arith in
    (λ i. paste kept info_most kept (j i)) ∙ sym (rw l at (sets-eq (take n kept) kept info_most (omega (arith, l))))

module _ {seq n : ℕ} {lent : List ℕ} {r : Last} {k : List ℕ} (long : kept_len ≤ length lent) (most : n ≤ info_most) (w : Remembered seq n lent r k) where
  abbrev info' : List ℕ
  info' = take n lent

  info-long : length info' ≡ n
  info-long = length-take-le n lent (omega arith)

  pub info-stays : take info_most k ≡ take info_most lent
  info-stays = ap (λ (l : List ℕ). take info_most l) w.octets ∙ take-sets-past info_most lent info_most info' (omega arith)

  pub beyond-stays : drop kept_len k ≡ drop kept_len lent
  beyond-stays = ap (λ (l : List ℕ). drop kept_len l) w.octets ∙ drop-sets-within kept_len lent info_most info' (omega (arith, info-long))

  pub memory-is : (l : Last) → joined_memory r k ≡ remembering (joined_memory l lent) seq info'
  unfolding remembering
  memory-is l =
      rw (w.last, w.octets, drop-sets-past info_most lent 0 info', take-sets-within info_most (drop info_most lent) 0 info' (omega (arith, info-long)), info-long)

  -- INFO is what it was, and so is what is kept of the frame out
  pub info-kept : take n k ≡ info'
  info-kept = sym (take-take n info_most k most) ∙ ap (λ (l : List ℕ). take n l) info-stays ∙ take-take n info_most lent most

  pub out_stays : drop out_start k ≡ drop out_start lent
  out_stays = ap (λ (l : List ℕ). drop out_start l) w.octets ∙ drop-sets-within out_start lent info_most info' (omega (arith, info-long))

-- The front of the octets kept

module _ (n : ℕ) (kept : List ℕ) where
  -- its code stands in the first two
  pub code-kept : code_len ≤ n → code_in (take n kept) ≡ code_in kept
  code-kept h = rw (get_or-take n kept 0 0 (omega arith), get_or-take n kept 1 0 (omega arith))

-- A message frame, way by way; before the decoder's own call the octets were `came`

module _ (s : Held) (lent came book out : List ℕ) (seq addr n : ℕ) (e : drop info_most came ≡ drop info_most lent) where
  abbrev Brings : BroughtInNumbers → List ℕ → List ℕ → List ℕ → Type 0
  Brings q k b o = BroughtLeft (message_of (joined s came) seq addr (take n lent) book) (memory_of (joined s came) seq addr (take n lent)) lent out q k b o

  pub taken-other : {q : BroughtInNumbers} {r : ResultInNumbers} → for_us s.own addr ≡ false → r ≡ unchanged_as s refusal.none event.Nothing 0 → q ≡ brought_still s r → Brings q lent book out
  taken-other f h g =
      rw (message-other (joined s came) seq addr (take n lent) book f, memory-other (joined s came) seq addr (take n lent) book f)
      (brought-unchanged s came lent e refusal.none event.Nothing [] book sent-none h g)

  module _ (f : for_us s.own addr ≡ true) {t : Bool} (et : t ≡ is_repeat (joined_memory s.last lent) seq (take n lent)) where
    repeat-came : {u : Bool} → t ≡ u → is_repeat (joined s came).memory seq (take n lent) ≡ u
    repeat-came h = ap (λ (m : Memory). is_repeat m seq (take n lent)) (memory-came s came lent e) ∙ sym et ∙ h

    pub taken-repeat : t ≡ true → {q : BroughtInNumbers} {r : ResultInNumbers} {count : ℕ} {o : List ℕ} → Stored (sent (acks s.own seq addr)) 0 out count o
        → r ≡ unchanged_as s refusal.none event.Nothing count → q ≡ brought_still s r → Brings q lent book o
    taken-repeat h p u g =
        let r = repeat-came h in
        rw (message-repeat (joined s came) seq addr (take n lent) book f r, memory-repeat (joined s came) seq addr (take n lent) book f r)
        (brought-unchanged s came lent e refusal.none event.Nothing (acks s.own seq addr) book p u g)

    module _ (h : t ≡ false) {v : Bool} (ev : SilenceWith s addr (take n lent) v) where
      silence-came : {u : Bool} → v ≡ u → met_with_silence (joined s came) addr (take n lent) ≡ u
      silence-came g = sym (ev came) ∙ g

      pub taken-silent : v ≡ true → {q : BroughtInNumbers} {r : ResultInNumbers} → r ≡ unchanged_as s refusal.none event.Nothing 0 → q ≡ brought_still s r → Brings q lent book out
      taken-silent z u g =
          rw (message-silent (joined s came) seq addr (take n lent) book f (repeat-came h) (silence-came z), memory-silent (joined s came) seq addr (take n lent) book f (repeat-came h) (silence-came z))
          (brought-unchanged s came lent e refusal.none event.Nothing [] book sent-none u g)

      pub taken-new : v ≡ false → kept_len ≤ length lent → n ≤ info_most → {l : Last} {k : List ℕ} → Remembered seq n lent l k → {r : ResultInNumbers} {k' b o : List ℕ}
          → AcceptedWith s seq addr (take n k) k book out r k' b o → Brings (record { result = r; last = l }) k' b o
      taken-new z long most {l} m w =
          let g = rw (info-kept long most m) at (w came (out-came s came lent e ∙ sym (out_stays long most m))) in
          let q = g.replied in
          rw (message-new (joined s came) seq addr (take n lent) book f (repeat-came h) (silence-came z), memory-new (joined s came) seq addr (take n lent) book f (repeat-came h) (silence-came z))
          (record {
            result = record { tells = q.tells; book = g.book };
            memory = (λ i. record { last = l; info = q.kept.memory i }) ∙ memory-is long most m s.last ∙ ap (λ (x : Memory). remembering x seq (take n lent)) (sym (memory-came s came lent e));
            sender = (λ i. record { out = (q.tells.told i).out; info = q.kept.out i });
            info = q.kept.decoder ∙ info-stays long most m;
            beyond = q.kept.beyond ∙ beyond-stays long most m;
          })
