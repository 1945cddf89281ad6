-- What is remembered: which frame it is, that it stays of a length that INFO can have, and that it is remembered as long as no other is accepted.
use Prim.Native.Nat.{ℕ, ◌≤◌}
use mathlib.Core.Path.{◌≡◌, refl, sym, ap, ◌∙◌}
use mathlib.Core.Bool.{Bool, true, false, not}
use mathlib.Core.Logic.{inl, inr}
use mathlib.Core.List.{List, []}
use mathlib.Core.Option.{Option, none, some}
use native.Mathlib.Omega.{arith}
use borrow.Author.Tests.{eq-eqb, ne_eqb, eqb-true}
use lib.Dec.{eqb}
use lib.ListN.{length}
use lib.Seq.{length-take-le, length-sets}
use Rattle.octets.specs.Choice.{pick, both}
use Rattle.octets.specs.Same.{same}
use Rattle.octets.proofs.Laws.{pick-by, both_left, both_right, take-sets, same-is, is_same}
use Rattle.frame.specs.declared.decoder.Found.{Found}
use Rattle.frame.specs.declared.decoder.Found.TheVariants as found
use Rattle.frame.specs.Frame.{message, ack, nak, info_least, info_most}
use Rattle.frame.specs.Decoder.{taken_of}
use Rattle.frame.specs.Run.{Outcome, nothing, refused, sound, found_means, outcome_of}
use Rattle.frame.proofs.Lent.{taken-long}
use Rattle.controller.specs.Memory.{Memory, last_info, is_repeat, remembering}
use Rattle.controller.specs.State.{State, all, sound_of}
use Rattle.controller.specs.Replies.{CanFind, for_us, met_with_silence, memory_of, memory_then}
use Rattle.controller.specs.Demand2.{Repeats}
use Rattle.controller.specs.Demand3.{Accepted, is_again, accepts, last_after}
use Rattle.controller.proofs.Laws.{both_false, silence-other}
use Rattle.controller.proofs.Judging.{LastFits, SoundParts, sound-parts}
use Rattle.controller.proofs.Replying.{can-find}

-- INFO of a sound message frame

abbrev pub OutcomeFits : Outcome → Type 0
OutcomeFits nothing = Unit
OutcomeFits (refused n k seq addr) = Unit
OutcomeFits (sound (message seq addr info)) = (info_least ≤ length info) × (length info ≤ info_most)
OutcomeFits (sound (ack seq addr)) = Unit
OutcomeFits (sound (nak seq addr err)) = Unit

found-fits : (f : Found) (kept : List ℕ) → length kept ≡ info_most → CanFind f → OutcomeFits (found_means f kept)
found-fits found.Nothing kept l c = tt
found-fits (found.Refused n k seq addr) kept l c = tt
found-fits (found.Message seq addr n) kept l c = let e = length-take-le n kept (omega (arith, l, c.1)) in (omega (arith, e, c.0), omega (arith, e, c.1))
found-fits (found.Ack seq addr) kept l c = tt
found-fits (found.Nak seq addr err) kept l c = tt

pub outcome_fits : (s : State) (b : ℕ) → sound_of s ≡ true → OutcomeFits (outcome_of (taken_of s.decoder b))
outcome_fits s b h =
    let p = sound-parts s h in
    let t = taken_of s.decoder b in
    found-fits t.found t.decoder.info (taken-long s.decoder p.info b) (can-find s.decoder b p.decoder)

-- Which frame is remembered

abbrev pub last_in : Memory → Option Accepted
last_in m = pick (eqb m.last.len 0) none (some (record { seq = m.last.seq; info = last_info m }))

-- its INFO is as long as is said beside it
pub last-long : (m : Memory) → length m.info ≡ info_most → LastFits m.last → length (last_info m) ≡ m.last.len
last-long m l f = length-take-le m.last.len m.info (most f)
  where
    most : LastFits m.last → m.last.len ≤ length m.info
    most (inl e) = omega (arith, e)
    most (inr h) = omega (arith, h.1, l)

module _ (m : Memory) (seq : ℕ) (info : List ℕ) where
  -- a repeat is what was heard last
  pub is-again : is_repeat m seq info ≡ is_again (last_in m) seq info
  unfolding is_repeat
  is-again = by (eqb m.last.len 0)
    where
      by : (t : Bool) → both (not t) (both (eqb seq m.last.seq) (same info (last_info m))) ≡ is_again (pick t none (some (record { seq = m.last.seq; info = last_info m }))) seq info
      by true = refl
      by false = refl

  pub is-repeat : info_least ≤ length info → Repeats m seq info → is_repeat m seq info ≡ true
  unfolding is_repeat
  is-repeat l r =
      rw (ne_eqb m.last.len 0 (λ e. omega (arith, e, r.long)), eq-eqb seq m.last.seq (sym r.seq), r.long, r.octets) (is_same info)

  module _ (hl : length m.info ≡ info_most) where
    pub repeat-is : LastFits m.last → is_repeat m seq info ≡ true → Repeats m seq info
    unfolding is_repeat
    repeat-is f h =
        let z = not (eqb m.last.len 0) in
        let q = eqb seq m.last.seq in
        let g = both_right z (both q (same info (last_info m))) h in
        let e : info ≡ last_info m = same-is info (last_info m) (both_right q (same info (last_info m)) g) in
        let n : length info ≡ m.last.len = ap length e ∙ last-long m hl f in
        record { seq = sym (eqb-true seq m.last.seq (both_left q (same info (last_info m)) g)); long = sym n; octets = rw n (sym e) }

    pub no-repeat : LastFits m.last → (Repeats m seq info → ⊥) → is_repeat m seq info ≡ false
    no-repeat f n = by (is_repeat m seq info) refl
      where
        by : (t : Bool) → is_repeat m seq info ≡ t → t ≡ false
        by true e = absurd (n (repeat-is f e))
        by false e = refl

    -- a frame that is accepted is remembered
    module _ (least : info_least ≤ length info) (most : length info ≤ info_most) where
      pub remembers : Repeats (remembering m seq info) seq info
      unfolding remembering
      remembers = record { seq = refl; long = refl; octets = take-sets info m.info (omega (arith, hl, most)) }

      last-new : last_in (remembering m seq info) ≡ some (record { seq = seq; info = info })
      unfolding remembering
      last-new =
          rw (ne_eqb (length info) 0 (λ e. omega (arith, e, least))) (ap (λ (i : List ℕ). some (record { seq = seq; info = i })) (take-sets info m.info (omega (arith, hl, most))))

-- Which frame is accepted

-- one for us or for all that is no repeat and not met with silence
abbrev pub is_new : State → ℕ → ℕ → List ℕ → Bool
is_new s seq addr info = both (for_us s.own addr) (both (not (is_repeat s.memory seq info)) (not (met_with_silence s addr info)))

-- a call with a message for us that is no repeat wrote nothing exactly where this was met with silence
abbrev pub ToldWrote : State → Bool → Outcome → Type 0
ToldWrote s wrote nothing = Unit
ToldWrote s wrote (refused n k seq addr) = Unit
ToldWrote s wrote (sound (message seq addr info)) = eqb addr s.own ≡ true → is_repeat s.memory seq info ≡ false → wrote ≡ not (met_with_silence s addr info)
ToldWrote s wrote (sound (ack seq addr)) = Unit
ToldWrote s wrote (sound (nak seq addr err)) = Unit

both_true : (t : Bool) → both t true ≡ t
both_true true = refl
both_true false = refl

module _ (s : State) (seq addr : ℕ) (info : List ℕ) where
  pub accepts-is : (wrote : Bool) → ToldWrote s wrote (sound (message seq addr info)) → accepts s.own wrote (last_in s.memory) seq addr info ≡ is_new s seq addr info
  accepts-is wrote w = rw (← (is-again s.memory seq info)) (by (eqb addr s.own) refl (eqb addr all) (is_repeat s.memory seq info) refl)
    where
      by : (o : Bool) → eqb addr s.own ≡ o → (a r : Bool) → is_repeat s.memory seq info ≡ r
          → both (pick o wrote a) (not r) ≡ both (pick o true a) (both (not r) (not (met_with_silence s addr info)))
      by true e a true f = both_false wrote
      by true e a false f = rw (w e f) (both_true (not (met_with_silence s addr info)))
      by false e true true f = refl
      by false e true false f = rw (silence-other s seq addr info [] e)
      by false e false r f = refl

  memory-by : memory_of s seq addr info ≡ pick (is_new s seq addr info) (remembering s.memory seq info) s.memory
  unfolding memory_of
  memory-by = by (for_us s.own addr) (is_repeat s.memory seq info) (met_with_silence s addr info)
    where
      by : (f r q : Bool) → pick f (pick r s.memory (pick q s.memory (remembering s.memory seq info))) s.memory
          ≡ pick (both f (both (not r) (not q))) (remembering s.memory seq info) s.memory
      by true true q = refl
      by true false true = refl
      by true false false = refl
      by false r q = refl

-- the state after an octet
module _ (s : State) (p : SoundParts s) where
  message-last : (wrote : Bool) (seq addr : ℕ) (info : List ℕ) → ToldWrote s wrote (sound (message seq addr info)) → info_least ≤ length info → length info ≤ info_most
      → last_in (memory_of s seq addr info) ≡ last_after s.own wrote (last_in s.memory) (sound (message seq addr info))
  message-last wrote seq addr info w least most = rw (memory-by s seq addr info, accepts-is s seq addr info wrote w) (by (is_new s seq addr info))
    where
      by : (t : Bool) → last_in (pick t (remembering s.memory seq info) s.memory) ≡ pick t (some (record { seq = seq; info = info })) (last_in s.memory)
      by true = last-new s.memory seq info p.last_info least most
      by false = refl

  pub memory-last : (wrote : Bool) (o : Outcome) → ToldWrote s wrote o → OutcomeFits o → last_in (memory_then o s) ≡ last_after s.own wrote (last_in s.memory) o
  memory-last wrote nothing w f = refl
  memory-last wrote (refused n k seq addr) w f = refl
  memory-last wrote (sound (message seq addr info)) w f = message-last wrote seq addr info w f.0 f.1
  memory-last wrote (sound (ack seq addr)) w f = refl
  memory-last wrote (sound (nak seq addr err)) w f = refl

  abbrev Fits : Memory → Type 0
  Fits m = (length m.info ≡ info_most) × LastFits m.last

  message-memory : (seq addr : ℕ) (info : List ℕ) → info_least ≤ length info → length info ≤ info_most → Fits (memory_of s seq addr info)
  unfolding remembering
  message-memory seq addr info least most =
      rw (memory-by s seq addr info)
      (pick-by Fits (is_new s seq addr info) (λ _. (length-sets s.memory.info 0 info ∙ p.last_info, inr (least, most))) (λ _. (p.last_info, p.last)))

  pub memory-fits : (o : Outcome) → OutcomeFits o → Fits (memory_then o s)
  memory-fits nothing f = (p.last_info, p.last)
  memory-fits (refused n k seq addr) f = (p.last_info, p.last)
  memory-fits (sound (message seq addr info)) f = message-memory seq addr info f.0 f.1
  memory-fits (sound (ack seq addr)) f = (p.last_info, p.last)
  memory-fits (sound (nak seq addr err)) f = (p.last_info, p.last)
