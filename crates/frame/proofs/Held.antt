-- Of octets the decoder holds octets: SEQ and INFO are octets that came, and so is what it finds.
use Prim.Native.Nat.{ℕ, ◌<◌}
use mathlib.Core.List.{List}
use lib.Dec.{eqb}
use Rattle.octets.specs.declared.refusal.Refusal.TheVariants.{ClosingWrong}
use Rattle.octets.specs.Octet.{Octets}
use Rattle.octets.specs.Word.{low_of, word_of}
use Rattle.octets.proofs.Laws.{pick-by, octets-take, octets-set}
use Rattle.frame.specs.declared.Kind.{Kind}
use Rattle.frame.specs.declared.Kind.TheVariants.{Message, Ack, Nak}
use Rattle.frame.specs.declared.decoder.Place.{Place}
use Rattle.frame.specs.declared.decoder.Place.TheVariants.{Idle, LoneAa, Seq, AddrHigh, AddrLow, LenHigh, LenLow, Info, InfoAa, CloseAa, CloseCc, Err, Cks}
use Rattle.frame.specs.declared.decoder.Head.{Head}
use Rattle.frame.specs.declared.decoder.Found.{Found}
use Rattle.frame.specs.declared.decoder.Found.TheVariants as found
use Rattle.frame.specs.declared.decoder.Stepped.{Stepped}
use Rattle.frame.specs.Frame.{message, ack, nak, len_fits}
use Rattle.frame.specs.Decoder.{Decoder, Taken, possible_of, refused_by, after_aa, sound_as, cks_in, step_at, info_then, step_of, taken_of, idled_of}
use Rattle.frame.specs.Run.{Outcome, nothing, refused, sound, found_means, outcome_of}

pub record HoldsOctets (d : Decoder) : Type 0 where
  pub seq : d.head.seq < 256
  pub info : Octets d.info

-- SEQ and INFO of what an octet brings
abbrev pub OutcomeOctets : Outcome → Type 0
OutcomeOctets nothing = Unit
OutcomeOctets (refused n k s a) = s < 256
OutcomeOctets (sound (message s a i)) = (s < 256) × Octets i
OutcomeOctets (sound (ack s a)) = Unit
OutcomeOctets (sound (nak s a e)) = Unit

abbrev FoundOctet : Found → Type 0
FoundOctet found.Nothing = Unit
FoundOctet (found.Refused n k s a) = s < 256
FoundOctet (found.Message s a n) = s < 256
FoundOctet (found.Ack s a) = Unit
FoundOctet (found.Nak s a e) = Unit

abbrev SteppedOctet : Stepped → Type 0
SteppedOctet t = (t.head.seq < 256) × FoundOctet t.found

module _ (h : Head) (i : List ℕ) (b : ℕ) (hs : h.seq < 256) (hb : b < 256) where
  after-aa : (f : Found) → FoundOctet f → SteppedOctet (after_aa h b f)
  after-aa f p =
      pick-by SteppedOctet (eqb b 0xAA) (λ _. (hs, p))
      (λ _. pick-by SteppedOctet (eqb b 0xBB) (λ _. (hs, p))
      (λ _. pick-by SteppedOctet (eqb b 0xDD) (λ _. (hs, p))
      (λ _. pick-by SteppedOctet (eqb b 0xEE) (λ _. (hs, p)) (λ _. (hs, p)))))

  sound-octet : (k : Kind) → FoundOctet (sound_as k h)
  sound-octet Message = hs
  sound-octet Ack = tt
  sound-octet Nak = tt

  step-octet : (p : Place) → SteppedOctet (step_at p h i b)
  step-octet Idle = pick-by SteppedOctet (eqb b 0xAA) (λ _. (hs, tt)) (λ _. (hs, tt))
  step-octet LoneAa = after-aa found.Nothing tt
  step-octet Seq = (hb, tt)
  step-octet AddrHigh = (hs, tt)
  step-octet AddrLow = (hs, tt)
  step-octet LenHigh = (hs, tt)
  step-octet LenLow = pick-by SteppedOctet (len_fits h.kind (word_of (low_of h.len) b)) (λ _. (hs, tt)) (λ _. (hs, hs))
  step-octet Info = pick-by SteppedOctet (eqb b 0xAA) (λ _. (hs, tt)) (λ _. (hs, tt))
  step-octet InfoAa = pick-by SteppedOctet (eqb b 0xAA) (λ _. (hs, tt)) (λ _. after-aa (refused_by h ClosingWrong) hs)
  step-octet CloseAa = pick-by SteppedOctet (eqb b 0xAA) (λ _. (hs, tt)) (λ _. (hs, hs))
  step-octet CloseCc = pick-by SteppedOctet (eqb b 0xCC) (λ _. (hs, tt)) (λ _. after-aa (refused_by h ClosingWrong) hs)
  step-octet Err = (hs, tt)
  step-octet Cks = pick-by SteppedOctet (eqb (cks_in h i) b) (λ _. (hs, sound-octet h.kind)) (λ _. (hs, hs))

means-octets : (f : Found) (i : List ℕ) → FoundOctet f → Octets i → OutcomeOctets (found_means f i)
means-octets found.Nothing i p o = tt
means-octets (found.Refused n k s a) i p o = p
means-octets (found.Message s a n) i p o = (p, octets-take n i o)
means-octets (found.Ack s a) i p o = tt
means-octets (found.Nak s a e) i p o = tt

pub taken-octets : (d : Decoder) (b : ℕ) → b < 256 → HoldsOctets d → HoldsOctets (taken_of d b).decoder × OutcomeOctets (outcome_of (taken_of d b))
unfolding taken_of step_of
taken-octets d b hb o =
    pick-by (λ (t : Taken). HoldsOctets t.decoder × OutcomeOctets (outcome_of t)) (possible_of d.head)
    (λ _. (record { seq = w.0; info = kept }, means-octets t.found (info_then d b t.keeps) w.1 kept)) (λ _. (o, tt))
  where
    t : Stepped
    t = step_at d.head.place d.head d.info b

    w : SteppedOctet t
    w = step-octet d.head d.info b o.seq hb d.head.place

    kept : Octets (info_then d b t.keeps)
    kept = pick-by Octets t.keeps (λ _. octets-set d.info d.head.filled b hb o.info) (λ _. o.info)

pub idled-octets : (d : Decoder) → HoldsOctets d → HoldsOctets (idled_of d).decoder
unfolding idled_of
idled-octets d o = pick-by (λ (t : Taken). HoldsOctets t.decoder) (possible_of d.head) (λ _. record { seq = o.seq; info = o.info }) (λ _. o)
