-- What 01 demands of frames, stated from outside: in 01's octets, numbers and words, in its order. Where a name of a
-- definition stands in a later statement, `FramesAsSaid` has tied it to 01's table.
use Rattle.std.specs.Prelude.{ℕ, ◌+◌, ◌-◌, ◌*◌, ◌/◌, ◌%◌, ◌≤◌, ◌<◌, ◌≡◌, true, false, ◌⊎◌, List, [], ◌∷◌, ◌++◌, length, take, drop, set, replicate, get_or}
use Rattle.std.specs.Int.Bits.{bit_xor}
use Rattle.octets.specs.ExclusiveOr.{exclusive_or}
use Rattle.octets.specs.Octet.{Octets}
use Rattle.octets.specs.declared.refusal.Refusal.{Refusal}
use Rattle.octets.specs.Refusals.{refusal_number}
use Rattle.octets.specs.Writing.{Writing}
use Rattle.frame.specs.declared.Kind.{Kind}
use Rattle.frame.specs.declared.Kind.TheVariants.{Message, Ack, Nak}
use Rattle.frame.specs.declared.decoder.Place.{Place}
use Rattle.frame.specs.declared.decoder.Place.TheVariants.{Idle, LoneAa, Seq, AddrHigh, AddrLow, LenHigh, LenLow, Info, InfoAa, CloseAa, CloseCc, Err, Cks}
use Rattle.frame.specs.declared.decoder.Head.{Head}
use Rattle.frame.specs.declared.decoder.Found.{Found}
use Rattle.frame.specs.declared.decoder.Found.TheVariants as found
use Rattle.frame.specs.Frame.{Frame, message, ack, nak, opener, info_least, info_most, message_len, ack_len, nak_len, len_of, doubled, cks_of, undoubled, written}
use Rattle.frame.specs.Decoder.{Decoder, Taken, possible_of, fresh_head, fresh_decoder, idle_drops, info_goes_on, taken_of, idled_of}
use Rattle.frame.specs.Writer.{write_frame, RefusesMessage}
use Rattle.frame.specs.Run.{nothing, refused, sound, found_means, outcome_of, outcomes, decoder_after, AtRest, drops, NothingDropped}

-- What a frame is

-- AA, the octet of the kind, SEQ, ADDR(2) and LEN(2), "high octet first"
abbrev pub up_to_len : ℕ → ℕ → ℕ → ℕ → List ℕ
up_to_len x s a n = 0xAA ∷ x ∷ s ∷ a / 256 ∷ a % 256 ∷ n / 256 ∷ n % 256 ∷ []

-- 01's table: the octets of each kind in order, as they are sent and before doubling, and CKS
pub record FrameRows : Type 0 where
  -- "Only an AA within INFO is sent twice"
  pub aa_twice : (xs : List ℕ) → doubled (0xAA ∷ xs) ≡ 0xAA ∷ 0xAA ∷ doubled xs
  pub other_once : (x : ℕ) (xs : List ℕ) → (x ≡ 0xAA → ⊥) → doubled (x ∷ xs) ≡ x ∷ doubled xs
  pub no_info : doubled [] ≡ []
  -- "the exclusive or of all": one by one, bit by bit, from 0
  pub xor_more : (c x : ℕ) (xs : List ℕ) → exclusive_or c (x ∷ xs) ≡ exclusive_or (bit_xor c x) xs
  pub xor_none : (c : ℕ) → exclusive_or c [] ≡ c
  -- message: AA BB SEQ ADDR(2) LEN(2) INFO(n) AA CC CKS, LEN 10+n
  pub message_sent : (s a : ℕ) (i : List ℕ) → written (message s a i) ≡ up_to_len 0xBB s a (10 + length i) ++ (doubled i ++ (0xAA ∷ 0xCC ∷ cks_of (message s a i) ∷ []))
  pub message_before : (s a : ℕ) (i : List ℕ) → undoubled (message s a i) ≡ up_to_len 0xBB s a (10 + length i) ++ (i ++ (0xAA ∷ 0xCC ∷ cks_of (message s a i) ∷ []))
  -- "CKS is the exclusive or of all earlier octets of the frame before doubling."
  pub message_cks : (s a : ℕ) (i : List ℕ) → cks_of (message s a i) ≡ exclusive_or 0 (up_to_len 0xBB s a (10 + length i) ++ (i ++ (0xAA ∷ 0xCC ∷ [])))
  -- ACK: AA DD SEQ ADDR(2) LEN(2) CKS, LEN 8
  pub ack_sent : (s a : ℕ) → written (ack s a) ≡ up_to_len 0xDD s a 8 ++ (cks_of (ack s a) ∷ [])
  pub ack_before : (s a : ℕ) → undoubled (ack s a) ≡ written (ack s a)
  pub ack_cks : (s a : ℕ) → cks_of (ack s a) ≡ exclusive_or 0 (up_to_len 0xDD s a 8)
  -- NAK: AA EE SEQ ADDR(2) LEN(2) ERR CKS, LEN 9
  pub nak_sent : (s a e : ℕ) → written (nak s a e) ≡ up_to_len 0xEE s a 9 ++ (e ∷ cks_of (nak s a e) ∷ [])
  pub nak_before : (s a e : ℕ) → undoubled (nak s a e) ≡ written (nak s a e)
  pub nak_cks : (s a e : ℕ) → cks_of (nak s a e) ≡ exclusive_or 0 (up_to_len 0xEE s a 9 ++ (e ∷ []))

abbrev pub FramesAsSaid : Type 0
FramesAsSaid = FrameRows

-- the numbers of the table: "10+n, n from 2 to 256", 8 and 9; BB, DD and EE
abbrev pub FrameNumbersAsSaid : Type 0
FrameNumbersAsSaid =
    (message_len ≡ 10) × (info_least ≡ 2) × (info_most ≡ 256) × (ack_len ≡ 8) × (nak_len ≡ 9)
    × (opener Message ≡ 0xBB) × (opener Ack ≡ 0xDD) × (opener Nak ≡ 0xEE)

-- LEN of its kind's row
abbrev pub len_due : Frame → ℕ
len_due (message s a i) = 10 + length i
len_due (ack s a) = 8
len_due (nak s a e) = 9

-- "LEN counts the whole frame before doubling": it is as many as the frame has octets then, and it is what stands in
-- the two octets after ADDR.
pub record LenSaid (f : Frame) : Type 0 where
  pub counts : length (undoubled f) ≡ len_due f
  pub stands : get_or (written f) 5 0 * 256 + get_or (written f) 6 0 ≡ len_due f
  pub named : len_of f ≡ len_due f

abbrev pub LenCounts : Type 0
LenCounts = (f : Frame) → LenSaid f

-- "CKS is the exclusive or of all earlier octets of the frame before doubling": with it they cancel, and it is what the
-- frame ends in.
abbrev pub CksCovers : Type 0
CksCovers = (f : Frame) → (exclusive_or 0 (undoubled f) ≡ 0) × (get_or (written f) (length (written f) - 1) 0 ≡ cks_of f)

-- What a frame writer does

-- INFO as in the frame's row: "n from 2 to 256"; an ACK and a NAK have none
abbrev pub InfoFits : Frame → Type 0
InfoFits (message s a i) = (2 ≤ length i) × (length i ≤ 256)
InfoFits (ack s a) = Unit
InfoFits (nak s a e) = Unit

-- What writing comes to, and why: "4 or 5 before 9 in a writer"
pub data FrameWriteJudged (f : Frame) (at : ℕ) (out : List ℕ) : Writing → Type 0 where
  -- 4, "frame writer given INFO not 2 to 256 long": "nothing written"
  info_wrong : (InfoFits f → ⊥) → FrameWriteJudged f at out (record { answer = record { refusal = 4; count = 0 }; out = out })
  -- 9, "output too short: .. exact need for a writer"
  output_short : InfoFits f → length out < at + length (written f)
      → FrameWriteJudged f at out (record { answer = record { refusal = 9; count = 0 }; out = out })
  -- "A call writes only the octets that its result counts; the output beyond them stays."
  stored : InfoFits f → at + length (written f) ≤ length out
      → FrameWriteJudged f at out (record {
        answer = record { refusal = 0; count = length (written f) };
        out = take at out ++ (written f ++ drop (at + length (written f)) out);
      })

-- "When, and only then": refusals 4 and 9.
abbrev pub FramesWrittenSo : Type 0
FramesWrittenSo = (f : Frame) (at : ℕ) (out : List ℕ) (w : Writing) → (FrameWriteJudged f at out w → w ≡ write_frame f at out) × (w ≡ write_frame f at out → FrameWriteJudged f at out w)

-- What the writer would refuse of a message frame, asked before it writes: n is 4, 9 or none, as above, whatever SEQ and address the frame is to have
pub record RefusalForetold (seq addr : ℕ) (octets : List ℕ) (at : ℕ) (out : List ℕ) (n : ℕ) : Type 0 where
  pub info_wrong : (InfoFits (message seq addr octets) → ⊥) → n ≡ 4
  pub output_short : InfoFits (message seq addr octets) → length out < at + length (written (message seq addr octets)) → n ≡ 9
  pub none : InfoFits (message seq addr octets) → at + length (written (message seq addr octets)) ≤ length out → n ≡ 0

abbrev pub RefusalsForetold : Type 0
RefusalsForetold = (info : List ℕ) (at : ℕ) (out : List ℕ) (n : ℕ) → RefusesMessage info at out n → (seq addr : ℕ) → RefusalForetold seq addr info at out n

-- Octets taken one after another

-- "Idle: AA is remembered, all else is dropped. After a lone AA: BB, DD or EE opens a frame": which octets leave octets behind that belong
-- to no frame
pub record DropsSo (b : ℕ) : Type 0 where
  pub idle : (b ≡ 0xAA → ⊥) → drops Idle b ≡ true
  pub idle_not : b ≡ 0xAA → drops Idle b ≡ false
  pub lone : (b ≡ 0xBB → ⊥) → (b ≡ 0xDD → ⊥) → (b ≡ 0xEE → ⊥) → drops LoneAa b ≡ true
  pub lone_not : (b ≡ 0xBB) ⊎ ((b ≡ 0xDD) ⊎ (b ≡ 0xEE)) → drops LoneAa b ≡ false
  pub nowhere : (p : Place) → (p ≡ Idle → ⊥) → (p ≡ LoneAa → ⊥) → drops p b ≡ false

-- the octet x is not dropped, refuses no frame and ends none, and neither does any after it
abbrev pub NoneYet : Decoder → ℕ → List ℕ → Type 0
NoneYet d x xs = (drops d.head.place x ≡ false) × (outcome_of (taken_of d x) ≡ nothing) × NothingDropped (taken_of d x).decoder xs

-- what the decoder's own call can give: nothing; a refusal, 1 to 3; a message frame, and of how many octets its INFO is; an ACK; a NAK
abbrev pub FoundFits : Found → Type 0
FoundFits found.Nothing = Unit
FoundFits (found.Refused r k s a) = refusal_number r ≤ 3
FoundFits (found.Message s a n) = (2 ≤ n) × (n ≤ 256)
FoundFits (found.Ack s a) = Unit
FoundFits (found.Nak s a e) = Unit

-- What the later statements mean by an octet's outcome, the outcomes of octets, the decoder after them, a decoder at rest, and nothing
-- dropped: what the decoder's own call gives for each octet in turn, the state handed back as given.
pub record RunRows : Type 0 where
  -- what the decoder gives for an octet stands for 01's frame, or refused frame, with the same numbers
  pub none : (i : List ℕ) → found_means found.Nothing i ≡ nothing
  pub refusal : (r : Refusal) (k : Kind) (s a : ℕ) (i : List ℕ) → found_means (found.Refused r k s a) i ≡ refused (refusal_number r) k s a
  pub message : (s a n : ℕ) (i : List ℕ) → found_means (found.Message s a n) i ≡ sound (message s a (take n i))
  pub ack : (s a : ℕ) (i : List ℕ) → found_means (found.Ack s a) i ≡ sound (ack s a)
  pub nak : (s a e : ℕ) (i : List ℕ) → found_means (found.Nak s a e) i ≡ sound (nak s a e)
  pub found : (d : Decoder) (b : ℕ) → possible_of d.head ≡ true → FoundFits (taken_of d b).found
  pub outcome : (t : Taken) → outcome_of t ≡ found_means t.found t.decoder.info
  pub no_octet : (d : Decoder) → (outcomes d [] ≡ []) × (decoder_after d [] ≡ d)
  pub octet_more : (d : Decoder) (x : ℕ) (xs : List ℕ) → (outcomes d (x ∷ xs) ≡ outcome_of (taken_of d x) ∷ outcomes (taken_of d x).decoder xs)
      × (decoder_after d (x ∷ xs) ≡ decoder_after (taken_of d x).decoder xs)
  pub rest : (d : Decoder) → (AtRest d → (d.head.place ≡ Idle) × (length d.info ≡ 256)) × (d.head.place ≡ Idle → length d.info ≡ 256 → AtRest d)
  pub dropped : (b : ℕ) → DropsSo b
  pub nothing_yet : (d : Decoder) → NothingDropped d []
  pub nothing_more : (d : Decoder) (x : ℕ) (xs : List ℕ) → (NothingDropped d (x ∷ xs) → NoneYet d x xs) × (NoneYet d x xs → NothingDropped d (x ∷ xs))

abbrev pub RunsAsSaid : Type 0
RunsAsSaid = RunRows

-- The decoder's calls

-- d at another place, or of another kind too: nothing else of it changes, INFO neither
abbrev pub placed_as : Place → Kind → Decoder → Decoder
placed_as p k d =
    let h = d.head in
    record { head = record { place = p; kind = k; seq = h.seq; err = h.err; addr = h.addr; len = h.len; filled = h.filled }; info = d.info }

abbrev pub placed_at : Place → Decoder → Decoder
placed_at p d = placed_as p d.head.kind d

-- a call that is done, brings nothing and leaves d
abbrev pub done_with : Decoder → Taken
done_with d = record { refusal = 0; decoder = d; found = found.Nothing }

-- Refusal 7 of the decoder's calls, "When, and only then": "state handed in is unsound (.. impossible decoder place)",
-- "same state"
pub record CallsOf (d : Decoder) : Type 0 where
  pub octet_refused : (b : ℕ) → possible_of d.head ≡ false → taken_of d b ≡ record { refusal = 7; decoder = d; found = found.Nothing }
  pub octet_done : (b : ℕ) → possible_of d.head ≡ true → (taken_of d b).refusal ≡ 0
  pub idle_refused : possible_of d.head ≡ false → idled_of d ≡ record { refusal = 7; decoder = d; found = found.Nothing }
  -- "A line-idle call, made by the host, returns the decoder to idle and changes nothing else."
  pub idle_done : possible_of d.head ≡ true → idled_of d ≡ done_with (placed_at Idle d)

abbrev pub CallsAnswered : Type 0
CallsAnswered = (d : Decoder) → CallsOf d

-- A fresh decoder is at rest, whatever 256 octets are kept, so what is said of a decoder at rest is said of a fresh start; each number
-- of its head is 0.
abbrev pub FreshAtRest : Type 0
FreshAtRest =
    (fresh_head ≡ record { place = Idle; kind = Message; seq = 0; err = 0; addr = 0; len = 0; filled = 0 })
    × ((info : List ℕ) → length info ≡ 256 → AtRest (fresh_decoder info) × (fresh_decoder info ≡ record { head = fresh_head; info = info }))

-- A fresh decoder is possible, and whatever octet comes, or the line falls idle, a possible one stays so: no refusal 7
-- comes of states handed back as given.
pub record PossibleFrom (d : Decoder) : Type 0 where
  pub octet : (b : ℕ) → b < 256 → possible_of d.head ≡ true → possible_of (taken_of d b).decoder.head ≡ true
  pub line_idle : possible_of d.head ≡ true → possible_of (idled_of d).decoder.head ≡ true

abbrev pub PossibleKept : Type 0
PossibleKept = (possible_of fresh_head ≡ true) × ((d : Decoder) → PossibleFrom d)

-- Which decoders are possible

-- a kind by its octet
abbrev pub kind_octet : Kind → ℕ
kind_octet Message = 0xBB
kind_octet Ack = 0xDD
kind_octet Nak = 0xEE

-- The fields that matter at each place, in the order in which they came in: the kind, SEQ, ADDR, LEN, how much of INFO is in
-- and its octets, ERR. Where the low octet of ADDR or LEN is due the field has the high one.
abbrev pub parts_at : Place → Kind → Head → List ℕ → List ℕ
parts_at Idle k h i = []
parts_at LoneAa k h i = []
parts_at Seq k h i = kind_octet k ∷ []
parts_at AddrHigh k h i = kind_octet k ∷ h.seq ∷ []
parts_at AddrLow k h i = kind_octet k ∷ h.seq ∷ h.addr ∷ []
parts_at LenHigh k h i = kind_octet k ∷ h.seq ∷ h.addr ∷ []
parts_at LenLow k h i = kind_octet k ∷ h.seq ∷ h.addr ∷ h.len ∷ []
parts_at Info k h i = kind_octet k ∷ h.seq ∷ h.addr ∷ h.len ∷ h.filled ∷ take h.filled i
parts_at InfoAa k h i = kind_octet k ∷ h.seq ∷ h.addr ∷ h.len ∷ h.filled ∷ take h.filled i
parts_at CloseAa k h i = kind_octet k ∷ h.seq ∷ h.addr ∷ h.len ∷ h.filled ∷ take h.filled i
parts_at CloseCc k h i = kind_octet k ∷ h.seq ∷ h.addr ∷ h.len ∷ h.filled ∷ take h.filled i
parts_at Err k h i = kind_octet k ∷ h.seq ∷ h.addr ∷ h.len ∷ []
parts_at Cks Message h i = 0xBB ∷ h.seq ∷ h.addr ∷ h.len ∷ h.filled ∷ take h.filled i
parts_at Cks Ack h i = 0xDD ∷ h.seq ∷ h.addr ∷ h.len ∷ []
parts_at Cks Nak h i = 0xEE ∷ h.seq ∷ h.addr ∷ h.len ∷ h.err ∷ []

abbrev pub parts_of : Decoder → List ℕ
parts_of d = parts_at d.head.place d.head.kind d.head d.info

-- octets lead from r to d, in the place and the fields that matter there
pub record LedTo (r d : Decoder) : Type 0 where
  pub octets : List ℕ
  pub each : Octets octets
  pub place : (decoder_after r octets).head.place ≡ d.head.place
  pub parts : parts_of (decoder_after r octets) ≡ parts_of d

-- the numbers that the fields can hold: SEQ and ERR an octet, ADDR two, INFO 256 octets
pub record FieldsHold (d : Decoder) : Type 0 where
  pub seq : d.head.seq < 256
  pub err : d.head.err < 256
  pub addr : d.head.addr < 65536
  pub info : Octets d.info
  pub long : length d.info ≡ 256

-- "impossible decoder place": a decoder is possible when, and only when, octets lead to it from idle.
pub record PossibleWhen (r d : Decoder) : Type 0 where
  pub led : possible_of d.head ≡ true → FieldsHold d → LedTo r d
  pub only : LedTo r d → possible_of d.head ≡ true

abbrev pub PossibleExactly : Type 0
PossibleExactly = (r d : Decoder) → AtRest r → PossibleWhen r d

-- The other fields do not matter: of two possible decoders that agree in these an octet brings the same, and they agree
-- again. So what is said below of octets from idle decides what any possible decoder does.
pub record SameFrom (d e : Decoder) (b : ℕ) : Type 0 where
  pub outcome : outcome_of (taken_of d b) ≡ outcome_of (taken_of e b)
  pub place : (taken_of d b).decoder.head.place ≡ (taken_of e b).decoder.head.place
  pub parts : parts_of (taken_of d b).decoder ≡ parts_of (taken_of e b).decoder

abbrev pub PartsDecide : Type 0
PartsDecide =
    (d e : Decoder) (b : ℕ) → possible_of d.head ≡ true → length d.info ≡ 256 → length e.info ≡ 256
    → d.head.place ≡ e.head.place → parts_of d ≡ parts_of e
    → SameFrom d e b

-- What an octet does

-- "Idle: AA is remembered, all else is dropped. After a lone AA: BB, DD or EE opens a frame, AA stays remembered, all else
-- returns to idle." Of an opened frame SEQ is due; nothing else of the decoder changes.
pub record WaitsFrom (d : Decoder) : Type 0 where
  pub remembered : taken_of (placed_at Idle d) 0xAA ≡ done_with (placed_at LoneAa d)
  pub dropped : (b : ℕ) → (b ≡ 0xAA → ⊥) → taken_of (placed_at Idle d) b ≡ done_with (placed_at Idle d)
  pub opens_message : taken_of (placed_at LoneAa d) 0xBB ≡ done_with (placed_as Seq Message d)
  pub opens_ack : taken_of (placed_at LoneAa d) 0xDD ≡ done_with (placed_as Seq Ack d)
  pub opens_nak : taken_of (placed_at LoneAa d) 0xEE ≡ done_with (placed_as Seq Nak d)
  pub stays : taken_of (placed_at LoneAa d) 0xAA ≡ done_with (placed_at LoneAa d)
  pub returns : (b : ℕ) → (b ≡ 0xBB → ⊥) → (b ≡ 0xDD → ⊥) → (b ≡ 0xEE → ⊥) → (b ≡ 0xAA → ⊥) → taken_of (placed_at LoneAa d) b ≡ done_with (placed_at Idle d)
  -- an octet is said to be dropped in idle where it is, and nowhere else
  pub said_dropped : (b : ℕ) → (b ≡ 0xAA → ⊥) → idle_drops Idle b ≡ true
  pub said_only : (b : ℕ) → idle_drops d.head.place b ≡ true → (d.head.place ≡ Idle) × (b ≡ 0xAA → ⊥)

abbrev pub Waits : Type 0
Waits = (d : Decoder) → WaitsFrom d

-- "After n octets of INFO come AA and CC": an octet of INFO, no AA, behind which others come is kept, and nothing else of the decoder changes
-- but how many are in. It is said to be such a one where it is, and nowhere else.
pub record GoesOn (d : Decoder) (b : ℕ) : Type 0 where
  pub said : d.head.place ≡ Info → (b ≡ 0xAA → ⊥) → 10 + (d.head.filled + 1) < d.head.len → info_goes_on d.head.place d.head.len d.head.filled b ≡ true
  pub said_only : info_goes_on d.head.place d.head.len d.head.filled b ≡ true
      → (d.head.place ≡ Info) × (b ≡ 0xAA → ⊥) × (10 + (d.head.filled + 1) < d.head.len)
  pub kept : possible_of d.head ≡ true → info_goes_on d.head.place d.head.len d.head.filled b ≡ true
      → taken_of d b ≡ done_with (let h = d.head in record {
        head = record { place = h.place; kind = h.kind; seq = h.seq; err = h.err; addr = h.addr; len = h.len; filled = h.filled + 1 };
        info = set d.info h.filled b;
      })

abbrev pub InfoGoesOn : Type 0
InfoGoesOn = (d : Decoder) (b : ℕ) → GoesOn d b

-- SEQ and ERR are an octet, ADDR is two, and INFO is octets
abbrev pub InOctets : Frame → Type 0
InOctets (message s a i) = (s < 256) × (a < 65536) × Octets i
InOctets (ack s a) = (s < 256) × (a < 65536)
InOctets (nak s a e) = (s < 256) × (a < 65536) × (e < 256)

-- Reading undoes writing: octet by octet, from idle, a frame as written brings nothing before its last octet and the
-- frame itself with it; "the end of a sound frame" leaves it idle, "with no AA remembered".
pub record ReadBack (d : Decoder) (f : Frame) : Type 0 where
  pub outcome : outcomes d (written f) ≡ replicate (length (written f) - 1) nothing ++ (sound f ∷ [])
  pub rest : AtRest (decoder_after d (written f))

abbrev pub ReadingFramesUndoesWriting : Type 0
ReadingFramesUndoesWriting = (d : Decoder) (f : Frame) → AtRest d → InOctets f → InfoFits f → ReadBack d f

-- Writing undoes reading: whatever octets bring a sound frame out of idle end in the octets that writing it gives; and
-- where nothing was dropped before it, and only there, they are those octets.
pub record WrittenBack (d : Decoder) (xs : List ℕ) (x : ℕ) (f : Frame) : Type 0 where
  pub before : List ℕ
  pub ends : xs ++ (x ∷ []) ≡ before ++ written f
  pub clean : NothingDropped d xs → before ≡ []
  pub whole : before ≡ [] → NothingDropped d xs
  pub fits : InfoFits f

abbrev pub WritingFramesUndoesReading : Type 0
WritingFramesUndoesReading =
    (d : Decoder) (xs : List ℕ) (x : ℕ) (f : Frame) → AtRest d → Octets (xs ++ (x ∷ []))
    → outcome_of (taken_of (decoder_after d xs) x) ≡ sound f
    → WrittenBack d xs x f

-- Refusals 1 to 3: "When, and only then", "3, 2, 1 as octets arrive". The octets of a frame that is refused, up to the one
-- that refuses it, with the refusal's number and the frame's kind, SEQ and ADDR:
pub data Refusable : ℕ → Kind → ℕ → ℕ → List ℕ → Type 0 where
  -- 3, "LEN not as in its kind's row above": "10+n, n from 2 to 256"; 8; 9
  len_message : (s a n : ℕ) → (12 ≤ n → n ≤ 266 → ⊥) → Refusable 3 Message s a (up_to_len 0xBB s a n)
  len_ack : (s a n : ℕ) → (n ≡ 8 → ⊥) → Refusable 3 Ack s a (up_to_len 0xDD s a n)
  len_nak : (s a n : ℕ) → (n ≡ 9 → ⊥) → Refusable 3 Nak s a (up_to_len 0xEE s a n)
  -- 2, "In INFO an AA followed by something else"
  doubling : (s a n x : ℕ) (i : List ℕ) → 12 ≤ n → n ≤ 266 → 10 + length i < n → (x ≡ 0xAA → ⊥)
      → Refusable 2 Message s a (up_to_len 0xBB s a n ++ (doubled i ++ (0xAA ∷ x ∷ [])))
  -- 2, "or a wrong octet at the AA or CC of the end"
  closing_aa : (s a x : ℕ) (i : List ℕ) → 2 ≤ length i → length i ≤ 256 → (x ≡ 0xAA → ⊥)
      → Refusable 2 Message s a (up_to_len 0xBB s a (10 + length i) ++ (doubled i ++ (x ∷ [])))
  closing_cc : (s a x : ℕ) (i : List ℕ) → 2 ≤ length i → length i ≤ 256 → (x ≡ 0xCC → ⊥)
      → Refusable 2 Message s a (up_to_len 0xBB s a (10 + length i) ++ (doubled i ++ (0xAA ∷ x ∷ [])))
  -- 1, "CKS wrong"
  cks_message : (s a x : ℕ) (i : List ℕ) → 2 ≤ length i → length i ≤ 256 → (x ≡ cks_of (message s a i) → ⊥)
      → Refusable 1 Message s a (up_to_len 0xBB s a (10 + length i) ++ (doubled i ++ (0xAA ∷ 0xCC ∷ x ∷ [])))
  cks_ack : (s a x : ℕ) → (x ≡ cks_of (ack s a) → ⊥) → Refusable 1 Ack s a (up_to_len 0xDD s a 8 ++ (x ∷ []))
  cks_nak : (s a e x : ℕ) → (x ≡ cks_of (nak s a e) → ⊥) → Refusable 1 Nak s a (up_to_len 0xEE s a 9 ++ (e ∷ x ∷ []))

-- such octets, from idle, bring nothing before the last and the refusal with it, and the frame's kind, SEQ and ADDR
abbrev pub RefusedWhen : Type 0
RefusedWhen =
    (d : Decoder) (n : ℕ) (k : Kind) (s a : ℕ) (os : List ℕ) → AtRest d → Octets os → Refusable n k s a os
    → outcomes d os ≡ replicate (length os - 1) nothing ++ (refused n k s a ∷ [])

-- and whatever octets bring a refusal out of idle end in such ones
pub record RefusedFor (xs : List ℕ) (x n : ℕ) (k : Kind) (s a : ℕ) : Type 0 where
  pub before : List ℕ
  pub octets : List ℕ
  pub ends : xs ++ (x ∷ []) ≡ before ++ octets
  pub why : Refusable n k s a octets

abbrev pub RefusedOnlyThen : Type 0
RefusedOnlyThen =
    (d : Decoder) (xs : List ℕ) (x n : ℕ) (k : Kind) (s a : ℕ) → AtRest d → Octets (xs ++ (x ∷ []))
    → outcome_of (taken_of (decoder_after d xs) x) ≡ refused n k s a
    → RefusedFor xs x n k s a

-- where the octet b leaves d when it brings a refusal or a sound frame at this place
abbrev pub resumed_at : Place → Decoder → ℕ → Decoder
resumed_at Idle d b = placed_at Idle d
resumed_at LoneAa d b = placed_at Idle d
resumed_at Seq d b = placed_at Idle d
resumed_at AddrHigh d b = placed_at Idle d
resumed_at AddrLow d b = placed_at Idle d
resumed_at LenHigh d b = placed_at Idle d
resumed_at LenLow d b = placed_at Idle d
resumed_at Info d b = placed_at Idle d
resumed_at InfoAa d b = (taken_of (placed_at LoneAa d) b).decoder
resumed_at CloseAa d b = placed_at Idle d
resumed_at CloseCc d b = (taken_of (placed_at LoneAa d) b).decoder
resumed_at Err d b = placed_at Idle d
resumed_at Cks d b = placed_at Idle d

-- "The wrong octet after an AA is then judged as if it had followed a lone AA; a wrong octet where the closing AA was due
-- returns to idle. Refusals 1 and 3 and the end of a sound frame also leave it idle, with no AA remembered."
abbrev pub Resumes : Type 0
Resumes =
    (d : Decoder) (b : ℕ) → possible_of d.head ≡ true → (outcome_of (taken_of d b) ≡ nothing → ⊥)
    → (taken_of d b).decoder ≡ resumed_at d.head.place d b
