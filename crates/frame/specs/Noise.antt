-- 02, E5, from outside: "The decoder's result for every octet also gives how many octets have been taken since the last sound frame
-- ended, or since the start, that belong to no sound frame. Octets of a frame still open, or a remembered AA, are not counted until refused or
-- dropped; an AA kept after refusal 2 goes with what follows it. The number stops at 65,535; the next sound frame carries it out and
-- clears it .. Line-idle counts the frame or AA it abandons."
use Rattle.std.specs.Prelude.{ℕ, ◌+◌, ◌-◌, ◌≤◌, ◌<◌, ◌≡◌, true, false, List, [], ◌∷◌, ◌++◌, length}
use Rattle.frame.specs.Frame.{Frame, written}
use Rattle.frame.specs.Decoder.{Decoder, fresh_head, possible_of, taken_of, idled_of}
use Rattle.frame.specs.Run.{sound, outcome_of, decoder_after, AtRest, NothingDropped}
use Rattle.frame.specs.Dropped.{open_of, stopped, counted_of, idle_counted, fresh_receiver}
use Rattle.frame.specs.Promises.{parts_of, FieldsHold, LedTo}

-- "The number stops at 65,535": m is n, or 65,535 where that is more
pub record Stops (n m : ℕ) : Type 0 where
  pub within : n ≤ 65535 → m ≡ n
  pub beyond : 65535 ≤ n → m ≡ 65535

-- What is still open

-- Octets that lead from rest to d, in the place and in the fields that matter there, and none of which is dropped, refuses a frame or ends one:
-- those are open at d. A doubled AA is two of them, a remembered AA is one.
pub record OpenAre (d : Decoder) : Type 0 where
  pub all : (r : Decoder) → AtRest r → (w : LedTo r d) → NothingDropped r w.octets → open_of d ≡ length w.octets
  -- there are such octets, wherever a decoder can be
  pub some : possible_of d.head ≡ true → FieldsHold d → (r : Decoder) → AtRest r → (w : LedTo r d) × NothingDropped r w.octets

abbrev pub OpenAsSaid : Type 0
OpenAsSaid = (d : Decoder) → OpenAre d

-- A call

-- what an octet does to the number, n before it
pub record OctetCounts (d : Decoder) (n b : ℕ) : Type 0 where
  -- a refused call tells 0 and leaves the number
  pub refused : possible_of d.head ≡ false → ((counted_of d n b).told ≡ 0) × ((counted_of d n b).kept ≡ n)
  -- "the next sound frame carries it out and clears it"
  pub carried : (f : Frame) → outcome_of (taken_of d b) ≡ sound f → possible_of d.head ≡ true → ((counted_of d n b).told ≡ n) × ((counted_of d n b).kept ≡ 0)
  -- else what was open and is no longer is added, this octet with it, and the call tells the number that is then kept
  pub counted : ((f : Frame) → outcome_of (taken_of d b) ≡ sound f → ⊥) → possible_of d.head ≡ true
      → Stops ((n + open_of d + 1) - open_of (taken_of d b).decoder) (counted_of d n b).kept × ((counted_of d n b).told ≡ (counted_of d n b).kept)
  -- the decoder does what it does without the number
  pub taken : (counted_of d n b).taken ≡ taken_of d b

-- "Line-idle counts the frame or AA it abandons."
pub record IdleCounts (d : Decoder) (n : ℕ) : Type 0 where
  pub refused : possible_of d.head ≡ false → ((idle_counted d n).told ≡ 0) × ((idle_counted d n).kept ≡ n)
  pub counted : possible_of d.head ≡ true → Stops (n + open_of d) (idle_counted d n).kept × ((idle_counted d n).told ≡ (idle_counted d n).kept)
  pub taken : (idle_counted d n).taken ≡ idled_of d

-- A fresh start has a fresh decoder, and has counted none.
abbrev pub CallsCount : Type 0
CallsCount = (fresh_receiver.head ≡ fresh_head) × (fresh_receiver.dropped ≡ 0) × ((n : ℕ) → Stops n (stopped n)) × ((d : Decoder) (n : ℕ) → ((b : ℕ) → OctetCounts d n b) × IdleCounts d n)

-- Calls one after another

pub data LineCall : Type 0 where
  octet : (b : ℕ) → b < 256 → LineCall
  line_idle : LineCall

-- xs lead from any decoder at rest to where d is, and none of them is dropped, refuses a frame or ends one
pub record Leads (xs : List ℕ) (d : Decoder) : Type 0 where
  pub clean : (r : Decoder) → AtRest r → NothingDropped r xs
  pub place : (r : Decoder) → AtRest r → (decoder_after r xs).head.place ≡ d.head.place
  pub parts : (r : Decoder) → AtRest r → parts_of (decoder_after r xs) ≡ parts_of d

-- `since` are the octets taken since the last sound frame ended, or since the start: noise, and then those that are still open at d, which are the octets
-- that lead there. The number is the length of the noise.
pub record NoiseIs (since : List ℕ) (d : Decoder) (n : ℕ) : Type 0 where
  pub noise : List ℕ
  pub opened : List ℕ
  pub falls : since ≡ noise ++ opened
  pub leads : Leads opened d
  pub still : length opened ≡ open_of d
  pub number : Stops (length noise) n

-- the number at any time, states handed back as given
pub data NoiseCounted : (since : List ℕ) (d : Decoder) (n : ℕ) → List LineCall → Type 0 where
  end : {since : List ℕ} {d : Decoder} {n : ℕ} → NoiseIs since d n → NoiseCounted since d n []
  -- an octet that ends no sound frame
  goes : {since : List ℕ} {d : Decoder} {n b : ℕ} {o : b < 256} {cs : List LineCall} → NoiseIs since d n → ((f : Frame) → outcome_of (taken_of d b) ≡ sound f → ⊥)
      → (counted_of d n b).told ≡ (counted_of d n b).kept
      → NoiseCounted (since ++ (b ∷ [])) (counted_of d n b).taken.decoder (counted_of d n b).kept cs
      → NoiseCounted since d n (octet b o ∷ cs)
  -- one that ends a sound frame: before the frame as written stands noise alone, and its length is told; from there all begins anew
  frame : {since : List ℕ} {d : Decoder} {n b : ℕ} {o : b < 256} {cs : List LineCall} → NoiseIs since d n → (f : Frame) (noise : List ℕ) → outcome_of (taken_of d b) ≡ sound f
      → since ++ (b ∷ []) ≡ noise ++ written f → Stops (length noise) (counted_of d n b).told → (counted_of d n b).kept ≡ 0
      → NoiseCounted [] (counted_of d n b).taken.decoder (counted_of d n b).kept cs
      → NoiseCounted since d n (octet b o ∷ cs)
  -- a line-idle call takes no octet, and leaves none open
  idle : {since : List ℕ} {d : Decoder} {n : ℕ} {cs : List LineCall} → NoiseIs since d n → Stops (length since) (idle_counted d n).kept
      → (idle_counted d n).told ≡ (idle_counted d n).kept
      → NoiseCounted since (idle_counted d n).taken.decoder (idle_counted d n).kept cs
      → NoiseCounted since d n (line_idle ∷ cs)

-- Whatever octets come, with line-idle calls among them: from rest, with no octet counted.
abbrev pub NumberIsNoise : Type 0
NumberIsNoise = (d : Decoder) (cs : List LineCall) → AtRest d → NoiseCounted [] d 0 cs
