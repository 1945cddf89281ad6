-- Writing undoes reading. What makes it so: at every place the decoder's own fields tell the octets that it holds of the
-- open frame, as they came.
use Prim.Native.Nat.{ℕ, ◌+◌, ◌-◌, ◌<◌}
use mathlib.Core.Path.{◌≡◌, refl, sym, ap, subst, ◌∙◌}
use mathlib.Core.Bool.{Bool, true, false}
use mathlib.Core.List.{List, [], ◌∷◌, ◌++◌, append_assoc, append-nil}
use native.Mathlib.Numerals.{add-one}
use native.Mathlib.Omega.{arith}
use borrow.Author.Tests.{eqb-true, eqb-false, ltb-true, leb-true, le-leb}
use lib.Dec.{eqb, ltb, leb}
use lib.ListN.{length, set, take, length-set, length-append}
use lib.Seq.{take-suc-set, length-take-le, take_at, append_snoc}
use Rattle.octets.specs.Octet.{Octets}
use Rattle.octets.specs.Refusal as refusal
use Rattle.octets.specs.declared.refusal.Refusal.TheVariants as why
use Rattle.octets.specs.Word.{high_of, low_of, word_of}
use Rattle.octets.proofs.Laws.{pick-by, both_left, both_right, clash, octets-left, octets-right}
use Rattle.frame.specs.declared.Kind.{Kind}
use Rattle.frame.specs.declared.Kind.TheVariants.{Message, Ack, Nak}
use Rattle.frame.specs.declared.decoder.Place.{Place}
use Rattle.frame.specs.declared.decoder.Place.TheVariants.{Idle, LoneAa, Seq, AddrHigh, AddrLow, LenHigh, LenLow, Info, InfoAa, CloseAa, CloseCc, Err, Cks}
use Rattle.frame.specs.declared.decoder.Found.{Found}
use Rattle.frame.specs.declared.decoder.Found.TheVariants as found
use Rattle.frame.specs.declared.decoder.Stepped.{Stepped}
use Rattle.frame.specs.Frame.{Frame, message, ack, nak, kind_of, seq_of, addr_of, message_len, ack_len, nak_len, info_least, info_most, len_fits, info_fits, opener, front, front_of, body_of, sent_of, cks_of, twice, doubled, written}
use Rattle.frame.specs.Decoder.{Decoder, Taken, head_of, possible_of, info_due, info_whole, after_aa, after_len, cks_due, sound_by, step_of, step_at, taken_as, taken_of, cks_in, front_in}
use Rattle.frame.specs.Decoder as decoder
use Rattle.frame.specs.Run.{nothing, refused, sound, outcome_of, decoder_after, AtRest, drops, NothingDropped}
use Rattle.frame.specs.Dropped.{waits}
use Rattle.frame.specs.Promises.{WrittenBack, WritingFramesUndoesReading, Refusable, len_message, len_ack, len_nak, doubling, closing_aa, closing_cc, cks_message, cks_ack, cks_nak, RefusedFor, RefusedOnlyThen}
use Rattle.frame.proofs.Laws.{message-len, info-len, twice-aa, twice-other, doubled-append, possible-at, taken-done}
use Rattle.frame.proofs.Fitting.{fits_in, len-message}
use Rattle.frame.proofs.Possible.{at, step-possible}
use Rattle.frame.proofs.Reading.{whole, most-run, quiet-undropped}
use Rattle.frame.proofs.Refusing.{after-aa-outcome, addr-front}

-- as sent, by the kind
abbrev pub sent_by : Kind → ℕ → List ℕ → List ℕ
sent_by Message e i = doubled i ++ (0xAA ∷ 0xCC ∷ [])
sent_by Ack e i = []
sent_by Nak e i = e ∷ []

-- the octets of the open frame, as they came, or the AA that is remembered
abbrev pub held_at : Place → Kind → ℕ → ℕ → ℕ → ℕ → List ℕ → List ℕ
held_at Idle k s e a n i = []
held_at LoneAa k s e a n i = 0xAA ∷ []
held_at Seq k s e a n i = 0xAA ∷ opener k ∷ []
held_at AddrHigh k s e a n i = 0xAA ∷ opener k ∷ s ∷ []
held_at AddrLow k s e a n i = 0xAA ∷ opener k ∷ s ∷ a ∷ []
held_at LenHigh k s e a n i = 0xAA ∷ opener k ∷ s ∷ high_of a ∷ low_of a ∷ []
held_at LenLow k s e a n i = 0xAA ∷ opener k ∷ s ∷ high_of a ∷ low_of a ∷ n ∷ []
held_at Info k s e a n i = front k s a n ++ doubled i
held_at InfoAa k s e a n i = front k s a n ++ (doubled i ++ (0xAA ∷ []))
held_at CloseAa k s e a n i = front k s a n ++ doubled i
held_at CloseCc k s e a n i = front k s a n ++ (doubled i ++ (0xAA ∷ []))
held_at Err k s e a n i = front k s a n
held_at Cks k s e a n i = front k s a n ++ sent_by k e i

unfoldable pub held : Decoder → List ℕ
held d = let h = d.head in held_at h.place h.kind h.seq h.err h.addr h.len (take h.filled d.info)

-- is nothing open, an AA, or a frame that has just been opened?
abbrev pub begun : Place → Bool
begun Idle = true
begun LoneAa = true
begun Seq = true
begun AddrHigh = false
begun AddrLow = false
begun LenHigh = false
begun LenLow = false
begun Info = false
begun InfoAa = false
begun CloseAa = false
begun CloseCc = false
begun Err = false
begun Cks = false

-- what has become of the octets h that were held, and of b, once b is taken: all are held on; or some are dropped, and the decoder is idle or
-- after a lone AA; or the frame is refused, for them, and what is then open has just begun; or they are a frame as written
pub data Went (h : List ℕ) (b : ℕ) (drop : Bool) (t : Taken) : Type 0 where
  kept : drop ≡ false → outcome_of t ≡ nothing → h ++ (b ∷ []) ≡ held t.decoder → Went h b drop t
  dropped : (pre : List ℕ) → drop ≡ true → outcome_of t ≡ nothing → h ++ (b ∷ []) ≡ pre ++ held t.decoder
      → waits t.decoder.head.place ≡ true → begun t.decoder.head.place ≡ true → Went h b drop t
  refuse : (n : ℕ) (k : Kind) (s a : ℕ) (pre : List ℕ) → outcome_of t ≡ refused n k s a → h ++ (b ∷ []) ≡ pre ++ held t.decoder
      → Refusable n k s a (h ++ (b ∷ [])) → begun t.decoder.head.place ≡ true → Went h b drop t
  ended : (f : Frame) → outcome_of t ≡ sound f → h ++ (b ∷ []) ≡ written f → held t.decoder ≡ [] → info_fits f ≡ true → begun t.decoder.head.place ≡ true → Went h b drop t

-- INFO with one octet more
doubled-more : (l : List ℕ) (g b : ℕ) → g < length l → doubled (take (g + 1) (set l g b)) ≡ doubled (take g l) ++ twice b
unfolding doubled
doubled-more l g b h = rw (add-one g, take-suc-set l g b h, doubled-append (take g l) (b ∷ []), append-nil (twice b))

-- after an AA: what stood before it is lost, and the AA too unless the octet goes with it
after-aa-held : (d : Decoder) (b : ℕ) (f : Found) (y : List ℕ) → (pre : List ℕ) × ((y ++ (0xAA ∷ [])) ++ (b ∷ []) ≡ pre ++ held (taken_as d b (after_aa d.head b f)).decoder)
unfolding held
after-aa-held d b f y =
    let P : Stepped → Type 0 = λ t. (pre : List ℕ) × ((y ++ (0xAA ∷ [])) ++ (b ∷ []) ≡ pre ++ held (taken_as d b t).decoder) in
    pick-by P (eqb b 0xAA) (λ t. (y ++ (0xAA ∷ []), rw (eqb-true b 0xAA t)))
    (λ _. pick-by P (eqb b 0xBB) (λ t. (y, rw (eqb-true b 0xBB t) (simp append_assoc)))
    (λ _. pick-by P (eqb b 0xDD) (λ t. (y, rw (eqb-true b 0xDD t) (simp append_assoc)))
    (λ _. pick-by P (eqb b 0xEE) (λ t. (y, rw (eqb-true b 0xEE t) (simp append_assoc)))
    (λ _. ((y ++ (0xAA ∷ [])) ++ (b ∷ []), sym (append-nil ((y ++ (0xAA ∷ [])) ++ (b ∷ []))))))))

after-aa-begun : (d : Decoder) (b : ℕ) (f : Found) → begun (taken_as d b (after_aa d.head b f)).decoder.head.place ≡ true
after-aa-begun d b f =
    let P : Stepped → Type 0 = λ t. begun (taken_as d b t).decoder.head.place ≡ true in
    pick-by P (eqb b 0xAA) (λ _. refl)
    (λ _. pick-by P (eqb b 0xBB) (λ _. refl)
    (λ _. pick-by P (eqb b 0xDD) (λ _. refl)
    (λ _. pick-by P (eqb b 0xEE) (λ _. refl) (λ _. refl))))

-- the octets of a number of two
word-octets : (x b : ℕ) → x < 256 → b < 256 → (high_of (word_of (low_of x) b) ≡ x) × (low_of (word_of (low_of x) b) ≡ b)
word-octets x b h o = (omega arith, omega arith)

-- octets that are refused for LEN, and for CKS
len-why : (k : Kind) (s a n : ℕ) → len_fits k n ≡ false → Refusable refusal.len_wrong k s a (front k s a n)
len-why Message s a n t = len_message s a n (λ p q. clash t (len-message n p q))
len-why Ack s a n t = len_ack s a n (eqb-false n 8 t)
len-why Nak s a n t = len_nak s a n (eqb-false n 9 t)

cks-why : (f : Frame) (x : ℕ) → info_fits f ≡ true → (x ≡ cks_of f → ⊥) → Refusable refusal.cks_wrong (kind_of f) (seq_of f) (addr_of f) (front_of f ++ (sent_of f ++ (x ∷ [])))
unfolding front_of sent_of
cks-why (message s a i) x h hx = let b = fits_in (message s a i) h in rw (append_assoc (doubled i) (0xAA ∷ 0xCC ∷ []) (x ∷ [])) (cks_message s a x i b.0 b.1 hx)
cks-why (ack s a) x h hx = cks_ack s a x hx
cks-why (nak s a e) x h hx = cks_nak s a e x hx

module _ (s e a n g : ℕ) (l : List ℕ) (hl : length l ≡ info_most) (b : ℕ) (octet : b < 256) where
  abbrev Goes : Place → Kind → Stepped → Type 0
  Goes p k t = let d = at p k s e a n g l in Went (held d) b (drops p b) (taken_as d b t)

  -- INFO that is to come, or whole
  due : info_due Message n g ≡ true → (len_fits Message n ≡ true) × (message_len + g < n) × (g < info_most)
  due h =
      let f = both_left (len_fits Message n) (ltb g (n - message_len)) h in
      let q = ltb-true g (n - message_len) (both_right (len_fits Message n) (ltb g (n - message_len)) h) in
      let m = leb-true n 266 (both_right (leb 12 n) (leb n 266) f) in
      (f, omega arith, omega arith)

  whole-info : info_whole Message n g ≡ true → (len_fits Message n ≡ true) × (message_len + length (take g l) ≡ n)
  whole-info h =
      let f = both_left (len_fits Message n) (eqb g (n - message_len)) h in
      let q = eqb-true g (n - message_len) (both_right (len_fits Message n) (eqb g (n - message_len)) h) in
      let m = leb-true n 266 (both_right (leb 12 n) (leb n 266) f) in
      let k = message-len n f in
      (f, omega (arith, length-take-le g l (omega arith)))

  at-idle : (k : Kind) → Goes Idle k (step_at Idle (head_of Idle k s e a n g) l b)
  unfolding held
  at-idle k =
      pick-by (Goes Idle k) (eqb b 0xAA)
      (λ t. kept (rw t) refl (rw (eqb-true b 0xAA t)))
      (λ t. dropped (b ∷ []) (rw t) refl refl refl refl)

  at-lone : (k : Kind) → Goes LoneAa k (step_at LoneAa (head_of LoneAa k s e a n g) l b)
  unfolding held
  at-lone k =
      pick-by (Goes LoneAa k) (eqb b 0xAA)
      (λ t. dropped (0xAA ∷ []) (rw (eqb-true b 0xAA t)) refl (rw (eqb-true b 0xAA t)) refl refl)
      (λ _. pick-by (Goes LoneAa k) (eqb b 0xBB) (λ t. kept (rw t) refl (rw (eqb-true b 0xBB t)))
      (λ t₁. pick-by (Goes LoneAa k) (eqb b 0xDD) (λ t. kept (rw (t₁, t)) refl (rw (eqb-true b 0xDD t)))
      (λ t₂. pick-by (Goes LoneAa k) (eqb b 0xEE) (λ t. kept (rw (t₁, t₂, t)) refl (rw (eqb-true b 0xEE t)))
      (λ t₃. dropped (0xAA ∷ b ∷ []) (rw (t₁, t₂, t₃)) refl refl refl refl))))

  at_len : (k : Kind) → n < 256 → Goes LenLow k (step_at LenLow (head_of LenLow k s e a n g) l b)
  unfolding held doubled
  at_len k hn =
      let w = word-octets n b hn octet in
      let q : held (at LenLow k s e a n g l) ++ (b ∷ []) ≡ front k s a (word_of (low_of n) b) = rw (w.0, w.1) in
      pick-by (Goes LenLow k) (len_fits k (word_of (low_of n) b))
      (λ _. kept refl refl (rw q (after_front k (word_of (low_of n) b))))
      (λ t. refuse refusal.len_wrong k s a (front k s a (word_of (low_of n) b)) refl (rw (q, append-nil (front k s a (word_of (low_of n) b)))) (rw q (len-why k s a (word_of (low_of n) b) t)) refl)
    where
      after_front : (k : Kind) (m : ℕ) → front k s a m ≡ held_at (after_len k) k s e a m []
      after_front Message m = refl
      after_front Ack m = refl
      after_front Nak m = refl

  -- an octet of INFO is kept
  at_stored : (p : Place) (y : List ℕ) → drops p b ≡ false → info_due Message n g ≡ true → y ++ (b ∷ []) ≡ front Message s a n ++ (doubled (take g l) ++ twice b)
      → held (at p Message s e a n g l) ≡ y → Goes p Message (decoder.kept (head_of p Message s e a n g))
  unfolding held
  at_stored p y u h q r =
      let d = due h in
      let w : held (at p Message s e a n g l) ++ (b ∷ []) ≡ front Message s a n ++ doubled (take (g + 1) (set l g b)) =
      rw (r, q, doubled-more l g b (omega arith)) in
      pick-by (λ (p₁ : Place). Goes p Message (record { head = head_of p₁ Message s e a n (g + 1); found = found.Nothing; keeps = true }))
      (ltb (message_len + (g + 1)) n) (λ _. kept u refl w) (λ _. kept u refl w)

  at-info : info_due Message n g ≡ true → Goes Info Message (step_at Info (head_of Info Message s e a n g) l b)
  unfolding held
  at-info h =
      pick-by (Goes Info Message) (eqb b 0xAA)
      (λ t. kept refl refl (rw (eqb-true b 0xAA t) (append_assoc (front Message s a n) (doubled (take g l)) (0xAA ∷ []))))
      (λ t. at_stored Info (front Message s a n ++ doubled (take g l)) refl h (rw (twice-other b (eqb-false b 0xAA t)) (append_assoc (front Message s a n) (doubled (take g l)) (b ∷ []))) refl)

  at-info-aa : info_due Message n g ≡ true → Goes InfoAa Message (step_at InfoAa (head_of InfoAa Message s e a n g) l b)
  unfolding held
  at-info-aa h =
      let d = at InfoAa Message s e a n g l in
      let y = front Message s a n ++ doubled (take g l) in
      let u = due h in
      let r : held d ≡ y ++ (0xAA ∷ []) = sym (append_assoc (front Message s a n) (doubled (take g l)) (0xAA ∷ [])) in
      let w = after-aa-held d b (found.Refused why.ClosingWrong Message s a) y in
      let z : held d ++ (b ∷ []) ≡ front Message s a n ++ (doubled (take g l) ++ (0xAA ∷ b ∷ [])) = simp append_assoc in
      pick-by (Goes InfoAa Message) (eqb b 0xAA)
      (λ t. let q = eqb-true b 0xAA t in at_stored InfoAa (held d) refl h (z ∙ ap (λ (v : List ℕ). front Message s a n ++ (doubled (take g l) ++ v)) (ap (λ (c : ℕ). 0xAA ∷ c ∷ []) q ∙ sym (twice-aa b q))) refl)
      (λ t. refuse refusal.closing_wrong Message s a w.0 (after-aa-outcome d b (found.Refused why.ClosingWrong Message s a)) (ap (λ (v : List ℕ). v ++ (b ∷ [])) r ∙ w.1)
      (let f = info-len Message n u.0 in rw z (doubling s a n b (take g l) f.0 f.1 (omega (arith, length-take-le g l (omega arith))) (eqb-false b 0xAA t))) (after-aa-begun d b (found.Refused why.ClosingWrong Message s a)))

  at-close-aa : info_whole Message n g ≡ true → Goes CloseAa Message (step_at CloseAa (head_of CloseAa Message s e a n g) l b)
  unfolding held
  at-close-aa h =
      let u = whole-info h in
      let f = front Message s a n in
      let i = doubled (take g l) in
      pick-by (Goes CloseAa Message) (eqb b 0xAA)
      (λ t. kept refl refl (rw (eqb-true b 0xAA t) (append_assoc f i (0xAA ∷ []))))
      (λ t. refuse refusal.closing_wrong Message s a ((f ++ i) ++ (b ∷ [])) refl (sym (append-nil ((f ++ i) ++ (b ∷ []))))
      (let m = info-len Message n u.0 in rw (append_assoc f i (b ∷ []), ← u.1) (closing_aa s a b (take g l) (omega (arith, u.1)) (omega (arith, u.1)) (eqb-false b 0xAA t))) refl)

  at-close-cc : info_whole Message n g ≡ true → Goes CloseCc Message (step_at CloseCc (head_of CloseCc Message s e a n g) l b)
  unfolding held
  at-close-cc h =
      let d = at CloseCc Message s e a n g l in
      let y = front Message s a n ++ doubled (take g l) in
      let u = whole-info h in
      let r : held d ≡ y ++ (0xAA ∷ []) = sym (append_assoc (front Message s a n) (doubled (take g l)) (0xAA ∷ [])) in
      let w = after-aa-held d b (found.Refused why.ClosingWrong Message s a) y in
      let z : held d ++ (b ∷ []) ≡ front Message s a n ++ (doubled (take g l) ++ (0xAA ∷ b ∷ [])) = simp append_assoc in
      pick-by (Goes CloseCc Message) (eqb b 0xCC)
      (λ t. kept refl refl (z ∙ ap (λ (c : ℕ). front Message s a n ++ (doubled (take g l) ++ (0xAA ∷ c ∷ []))) (eqb-true b 0xCC t)))
      (λ t. refuse refusal.closing_wrong Message s a w.0 (after-aa-outcome d b (found.Refused why.ClosingWrong Message s a)) (ap (λ (v : List ℕ). v ++ (b ∷ [])) r ∙ w.1)
      (let m = info-len Message n u.0 in rw (z, ← u.1) (closing_cc s a b (take g l) (omega (arith, u.1)) (omega (arith, u.1)) (eqb-false b 0xCC t))) (after-aa-begun d b (found.Refused why.ClosingWrong Message s a)))

  idle-held : (k : Kind) → held (at Idle k s e a n g l) ≡ []
  unfolding held
  idle-held k = refl

  -- at CKS the decoder has all of a frame f but its last octet
  at-cks-of : (k : Kind) (f : Frame) → held (at Cks k s e a n g l) ≡ front_of f ++ sent_of f → cks_in (head_of Cks k s e a n g) l ≡ cks_of f → info_fits f ≡ true
      → outcome_of (taken_as (at Cks k s e a n g l) b (decoder.ended (head_of Cks k s e a n g) (sound_by (head_of Cks k s e a n g)))) ≡ sound f
      → kind_of f ≡ k → seq_of f ≡ s → addr_of f ≡ a → Goes Cks k (step_at Cks (head_of Cks k s e a n g) l b)
  unfolding written
  at-cks-of k f hh hc hf ho hk hs ha =
      let d = at Cks k s e a n g l in
      let c = cks_in (head_of Cks k s e a n g) l in
      let z : held d ++ (b ∷ []) ≡ front_of f ++ (sent_of f ++ (b ∷ [])) = ap (λ (v : List ℕ). v ++ (b ∷ [])) hh ∙ append_assoc (front_of f) (sent_of f) (b ∷ []) in
      pick-by (Goes Cks k) (eqb c b)
      (λ t. ended f ho (z ∙ ap (λ (x : ℕ). front_of f ++ (sent_of f ++ (x ∷ []))) (sym (eqb-true c b t) ∙ hc)) (idle-held k) hf refl)
      (λ t. refuse refusal.cks_wrong k s a (held d ++ (b ∷ [])) refl (rw (idle-held k) (sym (append-nil (held d ++ (b ∷ [])))))
      (rw (z, ← hk, ← hs, ← ha) (cks-why f b hf (λ q. eqb-false c b t (hc ∙ sym q)))) refl)

  at-cks : (k : Kind) → cks_due k n g ≡ true → Goes Cks k (step_at Cks (head_of Cks k s e a n g) l b)
  unfolding held front_of sent_of cks_in cks_of front_in body_of
  at-cks Message h =
      let u = whole-info h in
      let m = leb-true n 266 (both_right (leb 12 n) (leb n 266) u.0) in
      let i = take g l in
      let f : info_fits (message s a i) ≡ true = rw (le-leb info_least (length i) (omega (arith, message-len n u.0)), le-leb (length i) info_most (omega arith)) in
      at-cks-of Message (message s a i) (rw u.1) (rw u.1) f refl refl refl refl
  at-cks Ack h = at-cks-of Ack (ack s a) (rw (eqb-true n ack_len h)) (rw (eqb-true n ack_len h)) refl refl refl refl refl
  at-cks Nak h = at-cks-of Nak (nak s a e) (rw (eqb-true n nak_len h)) (rw (eqb-true n nak_len h)) refl refl refl refl refl

  -- every place
  went-at : (p : Place) (k : Kind) → possible_of (head_of p k s e a n g) ≡ true → Goes p k (step_at p (head_of p k s e a n g) l b)
  unfolding held possible_of
  went-at Idle k h = at-idle k
  went-at LoneAa k h = at-lone k
  went-at Seq k h = kept refl refl refl
  went-at AddrHigh k h = kept refl refl refl
  went-at AddrLow k h = let w = word-octets a b (ltb-true a 256 h) octet in kept refl refl (rw (w.0, w.1))
  went-at LenHigh k h = kept refl refl refl
  went-at LenLow k h = at_len k (ltb-true n 256 h)
  went-at Info Message h = at-info h
  went-at Info Ack h = absurd (clash refl h)
  went-at Info Nak h = absurd (clash refl h)
  went-at InfoAa Message h = at-info-aa h
  went-at InfoAa Ack h = absurd (clash refl h)
  went-at InfoAa Nak h = absurd (clash refl h)
  went-at CloseAa Message h = at-close-aa h
  went-at CloseAa Ack h = absurd (clash refl h)
  went-at CloseAa Nak h = absurd (clash refl h)
  went-at CloseCc Message h = at-close-cc h
  went-at CloseCc Ack h = absurd (clash refl h)
  went-at CloseCc Nak h = absurd (clash refl h)
  went-at Err Message h = absurd (clash refl h)
  went-at Err Ack h = absurd (clash refl h)
  went-at Err Nak h = kept refl refl refl
  went-at Cks k h = at-cks k h

-- INFO's array keeps its length
module _ (d : Decoder) (b : ℕ) (hl : length d.info ≡ info_most) where
  pub step-long : length (step_of d b).decoder.info ≡ info_most
  unfolding step_of
  step-long =
      pick-by (λ (i : List ℕ). length i ≡ info_most) (step_at d.head.place d.head d.info b).keeps
      (λ _. length-set d.info d.head.filled b ∙ hl) (λ _. hl)

-- a decoder that a run can be in
pub record Runs (d : Decoder) : Type 0 where
  pub possible : possible_of d.head ≡ true
  pub long : length d.info ≡ info_most

pub runs_on : (d : Decoder) (b : ℕ) → b < 256 → Runs d → Runs (taken_of d b).decoder
runs_on d b o r = rw (taken-done d b r.possible) (record { possible = step-possible d b o r.possible; long = step-long d b r.long })

pub went : (d : Decoder) (b : ℕ) → b < 256 → Runs d → Went (held d) b (drops d.head.place b) (taken_of d b)
unfolding step_of
went d b o r =
    let h = d.head in
    rw (taken-done d b r.possible)
    (went-at h.seq h.err h.addr h.len h.filled d.info r.long b o h.place h.kind r.possible)

-- nothing, a refusal and a sound frame are three things
pub nothing-refused : {n s a : ℕ} {k : Kind} → nothing ≡ refused n k s a → ⊥
nothing-refused p = let z : ◌≡◌ {A = ℕ} 0 1 = cc in omega arith

pub nothing-sound : {f : Frame} → nothing ≡ sound f → ⊥
nothing-sound p = let z : ◌≡◌ {A = ℕ} 0 1 = cc in omega arith

pub refused-sound : {n s a : ℕ} {k : Kind} {f : Frame} → refused n k s a ≡ sound f → ⊥
refused-sound p = let z : ◌≡◌ {A = ℕ} 0 1 = cc in omega arith

-- the octets that are held no longer
lost : {h : List ℕ} {b : ℕ} {drop : Bool} {t : Taken} → Went h b drop t
    → (pre : List ℕ) × ((h ++ (b ∷ []) ≡ pre ++ held t.decoder) × (drop ≡ false → outcome_of t ≡ nothing → pre ≡ []))
lost (kept n o e) = ([], (e, λ p q. refl))
lost (dropped pre d o e p v) = (pre, (e, λ p q. absurd (clash p d)))
lost (refuse n k s a pre o e w v) = (pre, (e, λ p q. absurd (nothing-refused (sym q ∙ o))))
lost (ended f o e z w v) = (written f, (e ∙ rw z (sym (append-nil (written f))), λ p q. absurd (nothing-sound (sym q ∙ o))))

-- what a run leaves of the octets held and taken: those held at its end, with what is held no longer before them
pub record Left (d : Decoder) (xs : List ℕ) : Type 0 where
  pub pre : List ℕ
  pub octets : held d ++ xs ≡ pre ++ held (decoder_after d xs)
  pub clean : NothingDropped d xs → pre ≡ []
  pub runs : Runs (decoder_after d xs)

pub left : (d : Decoder) (xs : List ℕ) → Octets xs → Runs d → Left d xs
unfolding decoder_after NothingDropped
left d [] o r = record { pre = []; octets = append-nil (held d); clean = λ _. refl; runs = r }
left d (x ∷ xs) o r =
    let w = lost (went d x o.0 r) in
    let e = (taken_of d x).decoder in
    let v = left e xs o.1 (runs_on d x o.0 r) in
    record {
      pre = w.0 ++ v.pre;
      octets = sym (append_snoc (held d) x xs) ∙ ap (λ (u : List ℕ). u ++ xs) w.1.0 ∙ append_assoc w.0 (held e) xs
          ∙ ap (λ (u : List ℕ). w.0 ++ u) v.octets ∙ sym (append_assoc w.0 v.pre (held (decoder_after e xs)));
      clean = λ n. rw (w.1.1 n.0 n.1, v.clean n.2);
      runs = v.runs;
    }

-- two lists with one octet more each
snoc-left : (xs ys : List ℕ) (x y : ℕ) → xs ++ (x ∷ []) ≡ ys ++ (y ∷ []) → xs ≡ ys
snoc-left xs ys x y p =
    let n : length xs ≡ length ys = omega (arith, length-append xs (x ∷ []), length-append ys (y ∷ []), ap length p) in
    sym (take_at xs (x ∷ []) (length xs) refl) ∙ ap (take (length xs)) p ∙ take_at ys (y ∷ []) (length xs) (sym n)

-- a frame as written, through a decoder at rest: nothing is dropped
undropped-back : (d : Decoder) (xs : List ℕ) (x : ℕ) (f : Frame) → AtRest d → Octets (xs ++ (x ∷ [])) → info_fits f ≡ true → xs ++ (x ∷ []) ≡ written f → NothingDropped d xs
unfolding possible_of
undropped-back d xs x f r o w p =
    let h = d.head in
    let e : xs ≡ front_of f ++ sent_of f = snoc-left xs (front_of f ++ sent_of f) x (cks_of f) (p ∙ whole f) in
    let v = octets-left xs (x ∷ []) o in
    subst (λ (q : Place). NothingDropped (at q h.kind h.seq h.err h.addr h.len h.filled d.info) xs) (sym r.idle)
    (rw e (quiet-undropped (most-run h.kind h.seq h.err h.addr h.len h.filled d.info f w (addr-front f (sent_of f) (rw e at v))) refl (rw e at v)))

-- a decoder at rest holds nothing
pub rest-runs : (r : Decoder) → AtRest r → (held r ≡ []) × Runs r
unfolding held
rest-runs r a = (rw a.idle, record { possible = possible-at r.head a.idle; long = a.long })

-- from rest, with one octet more
module _ (d : Decoder) (xs : List ℕ) (x : ℕ) (r : AtRest d) (o : Octets (xs ++ (x ∷ []))) where
  run : Left d xs
  run = left d xs (octets-left xs (x ∷ []) o) (rest-runs d r).1

  abbrev last : Decoder
  last = decoder_after d xs

  ends-in : {ys : List ℕ} → held last ++ (x ∷ []) ≡ ys → xs ++ (x ∷ []) ≡ run.pre ++ ys
  ends-in {ys} q =
      let e : xs ≡ run.pre ++ held last = rw (rest-runs d r).0 at run.octets in
      ap (λ (u : List ℕ). u ++ (x ∷ [])) e ∙ append_assoc run.pre (held last) (x ∷ []) ∙ ap (λ (u : List ℕ). run.pre ++ u) q

  last-went : Went (held last) x (drops last.head.place x) (taken_of last x)
  last-went = went last x (octets-right xs (x ∷ []) o).0 run.runs

  written_back : {f : Frame} → outcome_of (taken_of last x) ≡ sound f → Went (held last) x (drops last.head.place x) (taken_of last x) → WrittenBack d xs x f
  written_back h (kept n p q) = absurd (nothing-sound (sym p ∙ h))
  written_back h (dropped pre u p q r v) = absurd (nothing-sound (sym p ∙ h))
  written_back h (refuse n k s a pre p q w v) = absurd (refused-sound (sym p ∙ h))
  written_back {f} h (ended f₁ p q z w u) =
      let e : f₁ ≡ f = cc in
      let z : xs ++ (x ∷ []) ≡ run.pre ++ written f = rw (← e) (ends-in q) in
      let v : info_fits f ≡ true = rw (← e) w in
      record { before = run.pre; ends = z; clean = run.clean; whole = λ n. undropped-back d xs x f r o v (z ∙ ap (λ (u : List ℕ). u ++ written f) n); fits = fits_in f v }

  refused-for : {n : ℕ} {k : Kind} {s a : ℕ} → outcome_of (taken_of last x) ≡ refused n k s a → Went (held last) x (drops last.head.place x) (taken_of last x) → RefusedFor xs x n k s a
  refused-for h (kept n p q) = absurd (nothing-refused (sym p ∙ h))
  refused-for h (dropped pre u p q r v) = absurd (nothing-refused (sym p ∙ h))
  refused-for {n} {k} {s} {a} h (refuse n₁ k₁ s₁ a₁ pre p q w v) =
      let en : n₁ ≡ n = cc in
      let ek : k₁ ≡ k = cc in
      let es : s₁ ≡ s = cc in
      let ea : a₁ ≡ a = cc in
      record { before = run.pre; octets = held last ++ (x ∷ []); ends = ends-in refl; why = rw (← en, ← ek, ← es, ← ea) w }
  refused-for h (ended f p q z w u) = absurd (refused-sound (sym h ∙ p))

pub writing-undoes-reading : WritingFramesUndoesReading
writing-undoes-reading d xs x f r o h = written_back d xs x r o h (last-went d xs x r o)

pub refused-only-then : RefusedOnlyThen
refused-only-then d xs x n k s a r o h = refused-for d xs x r o h (last-went d xs x r o)
