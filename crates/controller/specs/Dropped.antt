-- 02, E5: "how many octets have been taken since the last sound frame ended, or since the start, that belong to no sound frame .. Every caller
-- passes it up": what the calls tell of it, and over any run the length of the noise on the line.
use Rattle.std.specs.Prelude.{ℕ, ◌≤◌, ◌<◌, ◌≡◌, true, List, [], ◌∷◌, ◌++◌, length}
use Rattle.octets.specs.Octet.{Octets}
use Rattle.frame.specs.Frame.{Frame, written}
use Rattle.frame.specs.Decoder.{taken_of}
use Rattle.frame.specs.Run.{sound, outcome_of}
use Rattle.frame.specs.Dropped.{counted_of, idle_counted}
use Rattle.frame.specs.Noise.{Stops, NoiseIs}
use Rattle.controller.specs.State.{State, sound_of}
use Rattle.controller.specs.Replies.{octet_of, line_idle_of}
use Rattle.controller.specs.Offers.{offer_of}
use Rattle.controller.specs.Seconds.{second_of}
use Rattle.controller.specs.Demand1.{OctetRefused}
use Rattle.controller.specs.Demand3.{HostCall, octet, line_idle, second, offer, next, Start, Starts, start_of}

-- What a call tells

-- no refusal meets the octet call
abbrev pub OctetDone : State → List ℕ → List ℕ → Type 0
OctetDone s book out = (sound_of s ≡ true) × (length book ≡ 3840) × (544 ≤ length out)

-- "Every caller passes it up": a call that is done tells what the decoder's own call tells, and keeps what that keeps; a second and an offer have nothing to do with it
pub record PassedUp (s : State) : Type 0 where
  pub octet : (book out : List ℕ) (b : ℕ) → OctetDone s book out
      → (let w = (octet_of s book out b).answer in
      (w.told.dropped ≡ (counted_of s.decoder s.dropped b).told) × (w.state.dropped ≡ (counted_of s.decoder s.dropped b).kept))
  pub line_idle : sound_of s ≡ true
      → ((line_idle_of s).told.dropped ≡ (idle_counted s.decoder s.dropped).told) × ((line_idle_of s).state.dropped ≡ (idle_counted s.decoder s.dropped).kept)
  pub second : (book out : List ℕ) → ((second_of s book out).told.dropped ≡ 0) × ((second_of s book out).state.dropped ≡ s.dropped)
  pub offer : (info out : List ℕ) → ((offer_of s info out).answer.told.dropped ≡ 0) × ((offer_of s info out).answer.state.dropped ≡ s.dropped)

abbrev pub DroppedPassedUp : Type 0
DroppedPassedUp = (s : State) → PassedUp s

-- A run

-- what is counted now
abbrev pub Counts : List ℕ → State → Type 0
Counts since s = NoiseIs since s.decoder s.dropped

-- `since` are the octets taken since the last sound frame ended, or since the start; the events are those that follow
pub data NoiseInRun : (since : List ℕ) (s : State) → List HostCall → Type 0 where
  end : {since : List ℕ} {s : State} → Counts since s → NoiseInRun since s []
  -- a refused call tells 0, leaves the number and takes no octet
  refused : {since : List ℕ} {s : State} {b : ℕ} {l : b < 256} {book out : List ℕ} {o : Octets book} {es : List HostCall} → Counts since s
      → (n : ℕ) → OctetRefused s book out n
      → (octet_of s book out b).answer.told.dropped ≡ 0 → (next s (octet b l book out o)).dropped ≡ s.dropped
      → NoiseInRun since (next s (octet b l book out o)) es
      → NoiseInRun since s (octet b l book out o ∷ es)
  -- an octet that ends no sound frame: the call tells the number that there then is
  goes : {since : List ℕ} {s : State} {b : ℕ} {l : b < 256} {book out : List ℕ} {o : Octets book} {es : List HostCall} → Counts since s
      → OctetDone s book out → ((f : Frame) → outcome_of (taken_of s.decoder b) ≡ sound f → ⊥)
      → (octet_of s book out b).answer.told.dropped ≡ (next s (octet b l book out o)).dropped
      → NoiseInRun (since ++ (b ∷ [])) (next s (octet b l book out o)) es
      → NoiseInRun since s (octet b l book out o ∷ es)
  -- "the next sound frame carries it out and clears it", whatever frame it is and whoever it is for: before the frame as written stands noise alone, and
  -- the call tells its length
  frame : {since : List ℕ} {s : State} {b : ℕ} {l : b < 256} {book out : List ℕ} {o : Octets book} {es : List HostCall} → Counts since s
      → OctetDone s book out → (f : Frame) (noise : List ℕ) → outcome_of (taken_of s.decoder b) ≡ sound f → since ++ (b ∷ []) ≡ noise ++ written f
      → Stops (length noise) (octet_of s book out b).answer.told.dropped → (next s (octet b l book out o)).dropped ≡ 0
      → NoiseInRun [] (next s (octet b l book out o)) es
      → NoiseInRun since s (octet b l book out o ∷ es)
  -- "Line-idle counts the frame or AA it abandons.": all that was taken is noise, and it tells so
  idle : {since : List ℕ} {s : State} {es : List HostCall} → Counts since s
      → Stops (length since) (line_idle_of s).told.dropped → (line_idle_of s).told.dropped ≡ (next s line_idle).dropped
      → NoiseInRun since (next s line_idle) es
      → NoiseInRun since s (line_idle ∷ es)
  -- a second, refused or done
  shows : {since : List ℕ} {s : State} {book out : List ℕ} {o : Octets book} {es : List HostCall} → Counts since s
      → (second_of s book out).told.dropped ≡ 0 → (next s (second book out o)).dropped ≡ s.dropped
      → NoiseInRun since (next s (second book out o)) es
      → NoiseInRun since s (second book out o ∷ es)
  -- an offer, refused or done
  offers : {since : List ℕ} {s : State} {info out : List ℕ} {o : Octets info} {es : List HostCall} → Counts since s
      → (offer_of s info out).answer.told.dropped ≡ 0 → (next s (offer info out o)).dropped ≡ s.dropped
      → NoiseInRun since (next s (offer info out o)) es
      → NoiseInRun since s (offer info out o ∷ es)

-- From a fresh start, states handed back as given, octets, line-idle calls, offers and seconds mixed at will.
abbrev pub NoiseTold : Type 0
NoiseTold = (a : Start) → Starts a → (es : List HostCall) → NoiseInRun [] (start_of a) es
