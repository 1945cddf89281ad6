-- Octets taken one after another: what each brings, and where the decoder then is.
use Rattle.std.specs.Prelude.{ℕ, ◌≡◌, Bool, false, not, List, [], ◌∷◌, eqb, length, take}
use Rattle.octets.specs.Choice.{both}
use Rattle.octets.specs.Refusals.{refusal_number}
use Rattle.frame.specs.declared.Kind.{Kind}
use Rattle.frame.specs.declared.decoder.Place.{Place}
use Rattle.frame.specs.declared.decoder.Place.TheVariants.{Idle, LoneAa, Seq, AddrHigh, AddrLow, LenHigh, LenLow, Info, InfoAa, CloseAa, CloseCc, Err, Cks}
use Rattle.frame.specs.declared.decoder.Found.{Found}
use Rattle.frame.specs.declared.decoder.Found.TheVariants as found
use Rattle.frame.specs.Frame.{Frame, message, ack, nak}
use Rattle.frame.specs.Decoder.{Decoder, Taken, taken_of}

-- what an octet brings, in 01's terms: nothing; a frame refused, with the refusal's number and the frame's kind, SEQ and
-- ADDR; or a sound frame
pub data Outcome : Type 0 where
  nothing : Outcome
  refused : (number : ℕ) (kind : Kind) (seq addr : ℕ) → Outcome
  sound : Frame → Outcome

-- the outcome that each answer of the decoder stands for, i being the octets it keeps for INFO
abbrev pub found_means : Found → List ℕ → Outcome
found_means found.Nothing i = nothing
found_means (found.Refused r k s a) i = refused (refusal_number r) k s a
found_means (found.Message s a n) i = sound (message s a (take n i))
found_means (found.Ack s a) i = sound (ack s a)
found_means (found.Nak s a e) i = sound (nak s a e)

abbrev pub outcome_of : Taken → Outcome
outcome_of t = found_means t.found t.decoder.info

-- the outcome of each octet, and the decoder after the last
unfoldable pub outcomes : Decoder → List ℕ → List Outcome
outcomes d [] = []
outcomes d (x ∷ xs) = outcome_of (taken_of d x) ∷ outcomes (taken_of d x).decoder xs

unfoldable pub decoder_after : Decoder → List ℕ → Decoder
decoder_after d [] = d
decoder_after d (x ∷ xs) = decoder_after (taken_of d x).decoder xs

-- "Demand 2's round trip starts from idle.": a decoder that waits for a frame, with no AA remembered; its `info` is an
-- array of 256 octets
pub record AtRest (d : Decoder) : Type 0 where
  pub idle : d.head.place ≡ Idle
  pub long : length d.info ≡ 256

-- "Idle: AA is remembered, all else is dropped. After a lone AA: BB, DD or EE opens a frame": does the octet b leave
-- octets behind that belong to no frame?
abbrev pub drops : Place → ℕ → Bool
drops Idle b = not (eqb b 0xAA)
drops LoneAa b = both (not (eqb b 0xBB)) (both (not (eqb b 0xDD)) (not (eqb b 0xEE)))
drops Seq b = false
drops AddrHigh b = false
drops AddrLow b = false
drops LenHigh b = false
drops LenLow b = false
drops Info b = false
drops InfoAa b = false
drops CloseAa b = false
drops CloseCc b = false
drops Err b = false
drops Cks b = false

-- no octet is dropped, no frame refused and none ended
unfoldable pub NothingDropped : Decoder → List ℕ → Type 0
NothingDropped d [] = Unit
NothingDropped d (x ∷ xs) = (drops d.head.place x ≡ false) × (outcome_of (taken_of d x) ≡ nothing) × NothingDropped (taken_of d x).decoder xs
