-- 01, "Cases, own address 0001": the frames among them, and the lengths at the edge; then further frames, in a table of their
-- own.
use Rattle.std.specs.Prelude.{ℕ, ◌≡◌, List, [], ◌∷◌, ◌++◌, replicate}
use Rattle.frame.specs.declared.Kind.TheVariants.{Message}
use Rattle.frame.specs.Frame.{message, ack, nak, written}
use Rattle.frame.specs.Decoder.{fresh_decoder}
use Rattle.frame.specs.Run.{Outcome, nothing, refused, sound, outcomes}

-- what an octet after another brings to a decoder at rest
abbrev from_rest : List ℕ → List Outcome
from_rest os = outcomes (fresh_decoder (replicate 256 0)) os

-- the octets from the first AA to LEN of a message frame with SEQ 07
abbrev up_to : ℕ → ℕ → List ℕ
up_to high low = 0xAA ∷ 0xBB ∷ 0x07 ∷ 0x00 ∷ 0x01 ∷ high ∷ low ∷ []

-- P1, read; then LEN 11, 12, 266 and 267
unfoldable pub frames_read : List (List Outcome)
frames_read =
    from_rest (0xAA ∷ 0xBB ∷ 0x07 ∷ 0x00 ∷ 0x01 ∷ 0x00 ∷ 0x0C ∷ 0x5F ∷ 0x48 ∷ 0xAA ∷ 0xCC ∷ 0x6A ∷ [])
    ∷ from_rest (up_to 0x00 0x0B)
    ∷ from_rest (up_to 0x00 0x0C)
    ∷ from_rest (up_to 0x01 0x0A)
    ∷ from_rest (up_to 0x01 0x0B)
    ∷ []

unfoldable pub due_frames_read : List (List Outcome)
due_frames_read =
    (replicate 11 nothing ++ (sound (message 0x07 0x0001 (0x5F ∷ 0x48 ∷ [])) ∷ []))
    ∷ (replicate 6 nothing ++ (refused 3 Message 0x07 0x0001 ∷ []))
    ∷ replicate 7 nothing
    ∷ replicate 7 nothing
    ∷ (replicate 6 nothing ++ (refused 3 Message 0x07 0x0001 ∷ []))
    ∷ []

-- P2, P3 and P5, written
unfoldable pub frames_written : List (List ℕ)
frames_written =
    written (ack 0x07 0x0001)
    ∷ written (message 0x00 0x0001 (0x5F ∷ 0xC8 ∷ 0x00 ∷ 0x00 ∷ 0x00 ∷ 0x02 ∷ 0x00 ∷ 0x19 ∷ 0x00 ∷ 0x19 ∷ 0x00 ∷ 0x3C ∷ 0x00 ∷ 0x00 ∷ []))
    ∷ written (message 0x01 0x0001 (0x0F ∷ 0x81 ∷ 0x5F ∷ 0x18 ∷ 0x0D ∷ 0x01 ∷ []))
    ∷ []

unfoldable pub due_frames_written : List (List ℕ)
due_frames_written =
    (0xAA ∷ 0xDD ∷ 0x07 ∷ 0x00 ∷ 0x01 ∷ 0x00 ∷ 0x08 ∷ 0x79 ∷ [])
    ∷ (0xAA ∷ 0xBB ∷ 0x00 ∷ 0x00 ∷ 0x01 ∷ 0x00 ∷ 0x18 ∷ 0x5F ∷ 0xC8 ∷ 0x00 ∷ 0x00 ∷ 0x00 ∷ 0x02 ∷ 0x00 ∷ 0x19 ∷ 0x00 ∷ 0x19 ∷ 0x00 ∷ 0x3C ∷ 0x00 ∷ 0x00 ∷ 0xAA ∷ 0xCC ∷ 0xC7 ∷ [])
    ∷ (0xAA ∷ 0xBB ∷ 0x01 ∷ 0x00 ∷ 0x01 ∷ 0x00 ∷ 0x10 ∷ 0x0F ∷ 0x81 ∷ 0x5F ∷ 0x18 ∷ 0x0D ∷ 0x01 ∷ 0xAA ∷ 0xCC ∷ 0xA2 ∷ [])
    ∷ []

abbrev pub FrameCases : Type 0
FrameCases = (frames_read ≡ due_frames_read) × (frames_written ≡ due_frames_written)

-- A message with an AA in INFO: on the line it stands twice, LEN and CKS count it once. A NAK. P2 without its first AA: nobody
-- remembers one, so no frame opens. P1 with CKS 6B, and with its closing AA wrong.
unfoldable pub further_read : List (List Outcome)
further_read =
    from_rest (0xAA ∷ 0xBB ∷ 0x07 ∷ 0x00 ∷ 0x01 ∷ 0x00 ∷ 0x0D ∷ 0x5F ∷ 0xAA ∷ 0xAA ∷ 0x18 ∷ 0xAA ∷ 0xCC ∷ 0x91 ∷ [])
    ∷ from_rest (0xAA ∷ 0xEE ∷ 0x07 ∷ 0x00 ∷ 0x01 ∷ 0x00 ∷ 0x09 ∷ 0x01 ∷ 0x4A ∷ [])
    ∷ from_rest (0xDD ∷ 0x07 ∷ 0x00 ∷ 0x01 ∷ 0x00 ∷ 0x08 ∷ 0x79 ∷ [])
    ∷ from_rest (0xAA ∷ 0xBB ∷ 0x07 ∷ 0x00 ∷ 0x01 ∷ 0x00 ∷ 0x0C ∷ 0x5F ∷ 0x48 ∷ 0xAA ∷ 0xCC ∷ 0x6B ∷ [])
    ∷ from_rest (0xAA ∷ 0xBB ∷ 0x07 ∷ 0x00 ∷ 0x01 ∷ 0x00 ∷ 0x0C ∷ 0x5F ∷ 0x48 ∷ 0xAB ∷ [])
    ∷ []

unfoldable pub due_further_read : List (List Outcome)
due_further_read =
    (replicate 13 nothing ++ (sound (message 0x07 0x0001 (0x5F ∷ 0xAA ∷ 0x18 ∷ [])) ∷ []))
    ∷ (replicate 8 nothing ++ (sound (nak 0x07 0x0001 0x01) ∷ []))
    ∷ replicate 7 nothing
    ∷ (replicate 11 nothing ++ (refused 1 Message 0x07 0x0001 ∷ []))
    ∷ (replicate 9 nothing ++ (refused 2 Message 0x07 0x0001 ∷ []))
    ∷ []

-- A NAK with ERR 01; the message with an AA in INFO; an ACK with SEQ AA and ADDR AAAA, which are found by count and go once
unfoldable pub further_written : List (List ℕ)
further_written =
    written (nak 0x07 0x0001 0x01)
    ∷ written (message 0x07 0x0001 (0x5F ∷ 0xAA ∷ 0x18 ∷ []))
    ∷ written (ack 0xAA 0xAAAA)
    ∷ []

unfoldable pub due_further_written : List (List ℕ)
due_further_written =
    (0xAA ∷ 0xEE ∷ 0x07 ∷ 0x00 ∷ 0x01 ∷ 0x00 ∷ 0x09 ∷ 0x01 ∷ 0x4A ∷ [])
    ∷ (0xAA ∷ 0xBB ∷ 0x07 ∷ 0x00 ∷ 0x01 ∷ 0x00 ∷ 0x0D ∷ 0x5F ∷ 0xAA ∷ 0xAA ∷ 0x18 ∷ 0xAA ∷ 0xCC ∷ 0x91 ∷ [])
    ∷ (0xAA ∷ 0xDD ∷ 0xAA ∷ 0xAA ∷ 0xAA ∷ 0x00 ∷ 0x08 ∷ 0xD5 ∷ [])
    ∷ []

abbrev pub FurtherFrameCases : Type 0
FurtherFrameCases = (further_read ≡ due_further_read) × (further_written ≡ due_further_written)
