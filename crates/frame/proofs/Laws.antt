-- What follows from the definitions of specs/: one law for each way through.
use Prim.Native.Nat.{ℕ, ◌+◌, ◌-◌, ◌≤◌, ◌<◌}
use mathlib.Core.Path.{◌≡◌, refl, sym, ap, ◌∙◌}
use mathlib.Core.Bool.{Bool, true, false}
use mathlib.Core.List.{List, [], ◌∷◌, ◌++◌, append_assoc}
use native.Mathlib.Omega.{arith}
use borrow.Author.Tests.{leb-true, ltb-true, eq-eqb, ne_eqb, le-leb, lt-leb, not-true}
use lib.Dec.{leb, ltb, eqb}
use lib.ListN.{length, take, drop, get_or, length-append}
use Rattle.octets.specs.ExclusiveOr.{exclusive_or}
use Rattle.octets.specs.Choice.{both}
use Rattle.octets.specs.Writing.{WriterLeaves, written_as, nothing_written}
use Rattle.octets.specs.Writing.{Written}
use Rattle.octets.specs.Word.{low_of, word_of}
use Rattle.octets.proofs.Laws.{pick-by, exclusive-or-append, both_left, both_right, clash, drop-next}
use Rattle.frame.specs.declared.Kind.{Kind}
use Rattle.frame.specs.declared.Kind.TheVariants.{Message, Ack, Nak}
use Rattle.frame.specs.declared.decoder.Place.{Place}
use Rattle.frame.specs.declared.decoder.Head.{Head}
use Rattle.frame.specs.Frame.{Frame, message, ack, nak, info_least, info_most, message_len, ack_len, nak_len, len_fits, info_fits, front, front_of, body_of, sent_of, cks_of, twice, doubled, written}
use Rattle.frame.specs.Writer.{write_frame}
use Rattle.frame.specs.Decoder.{Decoder, has_info, info_due, idle_drops, possible_of, possible_at, stepped, head_at, ended, after_aa, step_of, step_at, cks_in, front_in, taken, info_then, taken_as, taken_of, idled_of, unsound, head_of, len_judged, after_len, kept, refused_by}
use Rattle.frame.specs.Dropped.{waits}
use Rattle.frame.specs.declared.decoder.Place.TheVariants.{Idle, LoneAa, Seq, AddrHigh, AddrLow, LenHigh, LenLow, Info, InfoAa, CloseAa, CloseCc, Err, Cks}
use Rattle.frame.specs.declared.decoder.Stepped.{Stepped}
use Rattle.frame.specs.declared.decoder.Found.{Found}
use Rattle.frame.specs.declared.decoder.Found.TheVariants.{Nothing}
use Rattle.octets.specs.Refusal.{info_wrong}
use Rattle.octets.specs.declared.refusal.Refusal.TheVariants.{LenWrong, ClosingWrong}

-- Frame

pub twice-aa : (b : ℕ) → b ≡ 0xAA → twice b ≡ 0xAA ∷ 0xAA ∷ []
unfolding twice
twice-aa b h = rw (eq-eqb b 0xAA h)

pub twice-other : (b : ℕ) → (b ≡ 0xAA → ⊥) → twice b ≡ b ∷ []
unfolding twice
twice-other b h = rw (ne_eqb b 0xAA h)

pub twice-some : (b : ℕ) → 1 ≤ length (twice b)
unfolding twice
twice-some b = pick-by (λ (l : List ℕ). 1 ≤ length l) (eqb b 0xAA) (λ _. omega arith) (λ _. omega arith)

module _ (s : List ℕ) (i : ℕ) (h : i < length s) where
  pub doubled-at : doubled (drop i s) ≡ twice (get_or s i 0) ++ doubled (drop (i + 1) s)
  unfolding doubled
  doubled-at = rw (drop-next s i h)

  pub doubled-length-at : length (doubled (drop i s)) ≡ length (twice (get_or s i 0)) + length (doubled (drop (i + 1) s))
  doubled-length-at = ap length doubled-at ∙ length-append (twice (get_or s i 0)) (doubled (drop (i + 1) s))

pub doubled-append : (xs ys : List ℕ) → doubled (xs ++ ys) ≡ doubled xs ++ doubled ys
unfolding doubled
doubled-append [] ys = refl
doubled-append (x ∷ xs) ys = rw (doubled-append xs ys) (sym (append_assoc (twice x) (doubled xs) (doubled ys)))

-- a frame written in parts, its CKS worked out part by part; INFO stands in two runs
module _ (s a : ℕ) {f : List ℕ} {x : ℕ} where
  one-run : (i : List ℕ) → f ≡ front Message s a (message_len + length i) → x ≡ exclusive_or (exclusive_or (exclusive_or 0 f) i) (0xAA ∷ 0xCC ∷ [])
      → f ++ (doubled i ++ (0xAA ∷ 0xCC ∷ x ∷ [])) ≡ written (message s a i)
  unfolding written front_of body_of sent_of cks_of
  one-run i e h =
      rw (h, ← exclusive-or-append (exclusive_or 0 f) i (0xAA ∷ 0xCC ∷ []), ← exclusive-or-append 0 f (i ++ (0xAA ∷ 0xCC ∷ [])), e) (simp append_assoc)

  pub message-parts : (i j : List ℕ) → f ≡ front Message s a (message_len + (length i + length j))
      → x ≡ exclusive_or (exclusive_or (exclusive_or (exclusive_or 0 f) i) j) (0xAA ∷ 0xCC ∷ [])
      → f ++ (doubled i ++ (doubled j ++ (0xAA ∷ 0xCC ∷ x ∷ []))) ≡ written (message s a (i ++ j))
  message-parts i j e h =
      rw (← append_assoc (doubled i) (doubled j) (0xAA ∷ 0xCC ∷ x ∷ []), ← doubled-append i j)
      (one-run (i ++ j) (e ∙ rw (length-append i j)) (h ∙ rw (exclusive-or-append (exclusive_or 0 f) i j)))

  pub ack-parts : f ≡ front Ack s a ack_len → x ≡ exclusive_or 0 f → f ++ (x ∷ []) ≡ written (ack s a)
  unfolding written front_of body_of sent_of cks_of
  ack-parts e h = rw (h, e)

  pub nak-parts : (e : ℕ) → f ≡ front Nak s a nak_len → x ≡ exclusive_or (exclusive_or 0 f) (e ∷ [])
      → f ++ (e ∷ x ∷ []) ≡ written (nak s a e)
  unfolding written front_of body_of sent_of cks_of
  nak-parts e q h = rw (h, ← exclusive-or-append 0 f (e ∷ []), q)

-- Writer

pub info-most : (n : ℕ) → both (leb info_least n) (leb n info_most) ≡ true → n ≤ info_most
info-most n h = leb-true n info_most (both_right (leb info_least n) (leb n info_most) h)

-- INFO in two runs, by what is left for the second
pub info-over : (n : ℕ) → info_most < n → false ≡ both (leb info_least n) (leb n info_most)
info-over n h = rw (le-leb info_least n (omega arith), lt-leb n info_most h)

pub info-within : (n : ℕ) → n ≤ info_most → leb info_least n ≡ both (leb info_least n) (leb n info_most)
info-within n h = rw (le-leb n info_most h) (by (leb info_least n))
  where
    by : (t : Bool) → t ≡ both t true
    by true = refl
    by false = refl

module _ (f : Frame) (out : List ℕ) (at : ℕ) where
  pub write-4 : info_fits f ≡ false → write_frame f at out ≡ nothing_written info_wrong out
  unfolding write_frame
  write-4 h = rw h

  pub write_as : {vs o : List ℕ} {r : Written} → info_fits f ≡ true → vs ≡ written f → WriterLeaves (written_as vs at out) r o → WriterLeaves (write_frame f at out) r o
  unfolding write_frame
  write_as h e w = rw (h, ← e) w

-- Decoder

pub message-len : (n : ℕ) → len_fits Message n ≡ true → 12 ≤ n
message-len n h = leb-true 12 n (both_left (leb 12 n) (leb n 266) h)

pub info-len : (k : Kind) (n : ℕ) → has_info k n ≡ true → (12 ≤ n) × (n ≤ 266)
info-len Message n h = (message-len n h, leb-true n 266 (both_right (leb 12 n) (leb n 266) h))
info-len Ack n h = absurd (clash refl h)
info-len Nak n h = absurd (clash refl h)

pub possible-at : (h : Head) {p : Place} → h.place ≡ p → possible_of h ≡ possible_at p h.kind h.addr h.len h.filled
unfolding possible_of
possible-at h e = ap (λ (p : Place). possible_at p h.kind h.addr h.len h.filled) e

module _ (h : Head) (i : List ℕ) where
  pub cks-message : h.kind ≡ Message
      → cks_in h i ≡ exclusive_or (exclusive_or (exclusive_or 0 (front_in h)) (take h.filled i)) (0xAA ∷ 0xCC ∷ [])
  unfolding cks_in
  cks-message e = rw (e, exclusive-or-append, exclusive-or-append)

  pub cks-ack : h.kind ≡ Ack → cks_in h i ≡ exclusive_or 0 (front_in h)
  unfolding cks_in exclusive_or
  cks-ack e = rw (e, exclusive-or-append)

  pub cks-nak : h.kind ≡ Nak → cks_in h i ≡ exclusive_or (exclusive_or 0 (front_in h)) (h.err ∷ [])
  unfolding cks_in
  cks-nak e = rw (e, exclusive-or-append)

  pub step-at : (b : ℕ) {p : Place} → h.place ≡ p → step_at h.place h i b ≡ step_at p h i b
  step-at b e = ap (λ (p : Place). step_at p h i b) e

module _ (h : Head) (n : ℕ) where
  pub len-right : len_fits h.kind n ≡ true
      → len_judged h n ≡ stepped (head_of (after_len h.kind) h.kind h.seq h.err h.addr n 0) Nothing
  len-right e = rw e

  pub len-wrong : len_fits h.kind n ≡ false → len_judged h n ≡ ended h (refused_by h LenWrong)
  len-wrong e = rw e

-- INFO that is still to come has its place in the array
info-room : (k : Kind) (n g : ℕ) → info_due k n g ≡ true → g < info_most
info-room k n g h =
    let f = info-len k n (both_left (has_info k n) (ltb g (n - message_len)) h) in
    let q = ltb-true g (n - message_len) (both_right (has_info k n) (ltb g (n - message_len)) h) in
    omega arith

module _ (h : Head) where
  pub room-info : h.place ≡ Info → possible_of h ≡ true → h.filled < info_most
  room-info e q = info-room h.kind h.len h.filled (sym (possible-at h e) ∙ q)

  pub room-info-aa : h.place ≡ InfoAa → possible_of h ≡ true → h.filled < info_most
  room-info-aa e q = info-room h.kind h.len h.filled (sym (possible-at h e) ∙ q)

  module _ (i : List ℕ) (b : ℕ) where
    -- an octet that is kept has its place in the array, and with it the frame goes on
    abbrev Room : Stepped → Type 0
    Room t = t.keeps ≡ true → (h.filled < info_most) × (t.found ≡ Nothing) × (waits t.head.place ≡ false)

    none : {A : Type 0} → false ≡ true → A
    none q = absurd (clash refl q)

    info-kept : info_due h.kind h.len h.filled ≡ true → Room (kept h)
    info-kept q _ =
        (info-room h.kind h.len h.filled q, refl, pick-by (λ (p : Place). waits p ≡ false) (ltb (message_len + (h.filled + 1)) h.len) (λ _. refl) (λ _. refl))

    aa-room : (f : Found) → Room (after_aa h b f)
    aa-room f =
        pick-by Room (eqb b 0xAA) (λ _. none)
        (λ _. pick-by Room (eqb b 0xBB) (λ _. none)
        (λ _. pick-by Room (eqb b 0xDD) (λ _. none)
        (λ _. pick-by Room (eqb b 0xEE) (λ _. none) (λ _. none))))

    room_at : (p : Place) → possible_at p h.kind h.addr h.len h.filled ≡ true → Room (step_at p h i b)
    room_at Idle q = pick-by Room (eqb b 0xAA) (λ _. none) (λ _. none)
    room_at LoneAa q = aa-room Nothing
    room_at Seq q = none
    room_at AddrHigh q = none
    room_at AddrLow q = none
    room_at LenHigh q = none
    room_at LenLow q = pick-by Room (len_fits h.kind (word_of (low_of h.len) b)) (λ _. none) (λ _. none)
    room_at Info q = pick-by Room (eqb b 0xAA) (λ _. none) (λ _. info-kept q)
    room_at InfoAa q = pick-by Room (eqb b 0xAA) (λ _. info-kept q) (λ _. aa-room (refused_by h ClosingWrong))
    room_at CloseAa q = pick-by Room (eqb b 0xAA) (λ _. none) (λ _. none)
    room_at CloseCc q = pick-by Room (eqb b 0xCC) (λ _. none) (λ _. aa-room (refused_by h ClosingWrong))
    room_at Err q = none
    room_at Cks q = pick-by Room (eqb (cks_in h i) b) (λ _. none) (λ _. none)

    pub keeps_on : possible_of h ≡ true → Room (step_at h.place h i b)
    unfolding possible_of
    keeps_on q = room_at h.place q

    pub keeps-room : possible_of h ≡ true → (step_at h.place h i b).keeps ≡ true → h.filled < info_most
    keeps-room q k = (keeps_on q k).0

module _ (d : Decoder) where
  pub idled-7 : possible_of d.head ≡ false → idled_of d ≡ unsound d
  unfolding idled_of
  idled-7 h = rw h

  pub idled-done : possible_of d.head ≡ true → idled_of d ≡ taken (head_at d.head Idle d.head.kind) d.info Nothing
  unfolding idled_of
  idled-done h = rw h

  module _ (b : ℕ) where
    pub taken-7 : possible_of d.head ≡ false → taken_of d b ≡ unsound d
    unfolding taken_of
    taken-7 h = rw h

    pub taken-done : possible_of d.head ≡ true → taken_of d b ≡ step_of d b
    unfolding taken_of
    taken-done h = rw h

    -- an octet that is dropped leaves the decoder as it is
    pub taken-dropped : idle_drops d.head.place b ≡ true → taken_of d b ≡ taken d.head d.info Nothing
    unfolding taken_of step_of possible_of
    taken-dropped h = let q = d.head in by q.place q.kind q.seq q.err q.addr q.len q.filled d.info h
      where
        by : (p : Place) (k : Kind) (s e a n g : ℕ) (i : List ℕ) → idle_drops p b ≡ true → taken_of (record { head = head_of p k s e a n g; info = i }) b ≡ taken (head_of p k s e a n g) i Nothing
        by Idle k s e a n g i h = rw (not-true (eqb b 0xAA) h)
        by LoneAa k s e a n g i h = absurd (clash refl h)
        by Seq k s e a n g i h = absurd (clash refl h)
        by AddrHigh k s e a n g i h = absurd (clash refl h)
        by AddrLow k s e a n g i h = absurd (clash refl h)
        by LenHigh k s e a n g i h = absurd (clash refl h)
        by LenLow k s e a n g i h = absurd (clash refl h)
        by Info k s e a n g i h = absurd (clash refl h)
        by InfoAa k s e a n g i h = absurd (clash refl h)
        by CloseAa k s e a n g i h = absurd (clash refl h)
        by CloseCc k s e a n g i h = absurd (clash refl h)
        by Err k s e a n g i h = absurd (clash refl h)
        by Cks k s e a n g i h = absurd (clash refl h)

    pub taken_as_lem : {t : Stepped} {keeps : Bool} → possible_of d.head ≡ true → t ≡ step_at d.head.place d.head d.info b → t.keeps ≡ keeps
        → taken_of d b ≡ taken t.head (info_then d b keeps) t.found
    unfolding step_of
    taken_as_lem {t} h e q = taken-done h ∙ ap (taken_as d b) (sym e) ∙ ap (λ (keeps : Bool). taken t.head (info_then d b keeps) t.found) q
