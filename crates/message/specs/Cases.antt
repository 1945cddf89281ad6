-- 01, "Cases" and "Messages": messages read and written, and every range at its edges, by computation.
use Rattle.std.specs.Prelude.{ℕ, ◌≡◌, List, [], ◌∷◌, map, take, replicate}
use Rattle.octets.specs.Word.{high_of, low_of}
use Rattle.message.specs.Values.{placed}
use Rattle.message.specs.Reader.{read_of}
use Rattle.message.specs.Writer.{write_message}

-- refusal, field, code and values
abbrev shown : List ℕ → List ℕ
shown info = let r = read_of info in r.refusal ∷ r.field ∷ r.message.code ∷ take r.message.fields r.message.values

-- the INFO of P1, P3, P4 and P5; a set of times and of greens; then what is refused
unfoldable pub messages_read : List (List ℕ)
messages_read =
    shown (0x5F ∷ 0x48 ∷ [])
    ∷ shown (0x5F ∷ 0xC8 ∷ 0x00 ∷ 0x00 ∷ 0x00 ∷ 0x02 ∷ 0x00 ∷ 0x19 ∷ 0x00 ∷ 0x19 ∷ 0x00 ∷ 0x3C ∷ 0x00 ∷ 0x00 ∷ [])
    ∷ shown (0x5F ∷ 0x18 ∷ 0x03 ∷ [])
    ∷ shown (0x0F ∷ 0x81 ∷ 0x5F ∷ 0x18 ∷ 0x0D ∷ 0x01 ∷ [])
    ∷ shown (0x5F ∷ 0x14 ∷ 0x01 ∷ 0x01 ∷ 0x0A ∷ 0x01 ∷ 0x2C ∷ 0x03 ∷ 0x02 ∷ 0x05 ∷ 0x04 ∷ [])
    ∷ shown (0x5F ∷ 0x15 ∷ 0x01 ∷ 0x00 ∷ 0x00 ∷ 0x01 ∷ 0x01 ∷ 0x00 ∷ 0x01 ∷ 0x05 ∷ 0x00 ∷ 0x07 ∷ [])
    ∷ shown []
    ∷ shown (0x5F ∷ [])
    ∷ shown (0x5F ∷ 0x16 ∷ [])
    ∷ shown (0x5F ∷ 0x48 ∷ 0x00 ∷ [])
    ∷ shown (0x5F ∷ 0x14 ∷ 0x01 ∷ 0x00 ∷ [])
    ∷ shown (0x5F ∷ 0x14 ∷ 0x01 ∷ 0x09 ∷ replicate 63 5)
    ∷ shown (0x5F ∷ 0xC8 ∷ 0x01 ∷ 0x00 ∷ 0x00 ∷ 0x00 ∷ 0x00 ∷ 0x01 ∷ 0x00 ∷ 0x00 ∷ [])
    ∷ shown (0x5F ∷ 0x14 ∷ 0x01 ∷ 0x01 ∷ 0x0A ∷ 0x03 ∷ 0x85 ∷ 0x03 ∷ 0x0A ∷ 0x05 ∷ 0x0A ∷ [])
    ∷ []

unfoldable pub due_messages_read : List (List ℕ)
due_messages_read =
    (0 ∷ 0 ∷ 0x5F48 ∷ [])
    ∷ (0 ∷ 0 ∷ 0x5FC8 ∷ 0 ∷ 0 ∷ 0 ∷ 2 ∷ 25 ∷ 25 ∷ 60 ∷ 0 ∷ [])
    ∷ (0 ∷ 0 ∷ 0x5F18 ∷ 3 ∷ [])
    ∷ (0 ∷ 0 ∷ 0x0F81 ∷ 0x5F18 ∷ 13 ∷ 1 ∷ [])
    ∷ (0 ∷ 0 ∷ 0x5F14 ∷ 1 ∷ 1 ∷ 10 ∷ 300 ∷ 3 ∷ 2 ∷ 5 ∷ 4 ∷ [])
    ∷ (0 ∷ 0 ∷ 0x5F15 ∷ 1 ∷ 0 ∷ 0 ∷ 1 ∷ 256 ∷ 261 ∷ 7 ∷ [])
    ∷ (11 ∷ 0 ∷ 0 ∷ [])
    ∷ (11 ∷ 0 ∷ 0 ∷ [])
    ∷ (10 ∷ 0 ∷ 0 ∷ [])
    ∷ (11 ∷ 0 ∷ 0 ∷ [])
    ∷ (11 ∷ 0 ∷ 0 ∷ [])
    ∷ (11 ∷ 0 ∷ 0 ∷ [])
    ∷ (11 ∷ 0 ∷ 0 ∷ [])
    ∷ (12 ∷ 4 ∷ 0 ∷ [])
    ∷ []

-- the field that is named, 0 for none, where a field has each of these values and the others are right
abbrev named : (ℕ → List ℕ) → List ℕ → List ℕ
named info vs = map (λ (v : ℕ). (read_of (info v)).field) vs

abbrev info_of_times : ℕ → ℕ → ℕ → ℕ → ℕ → ℕ → ℕ → ℕ → List ℕ
info_of_times c p mn mx y a w r = 0x5F ∷ c ∷ p ∷ 1 ∷ mn ∷ high_of mx ∷ low_of mx ∷ y ∷ a ∷ w ∷ r ∷ []

abbrev info_of_greens : ℕ → ℕ → ℕ → ℕ → ℕ → ℕ → ℕ → List ℕ
info_of_greens c p d o g cy f = 0x5F ∷ c ∷ p ∷ d ∷ o ∷ 1 ∷ high_of g ∷ low_of g ∷ high_of cy ∷ low_of cy ∷ high_of f ∷ low_of f ∷ []

unfoldable pub edges : List (List ℕ)
edges =
    named (λ v. info_of_times 0x14 v 5 5 3 1 0 0) (0 ∷ 1 ∷ 48 ∷ 49 ∷ [])
    ∷ named (λ v. info_of_times 0xC4 v 5 5 3 1 0 0) (0 ∷ 48 ∷ 49 ∷ [])
    ∷ named (λ v. info_of_times 0x14 1 v 5 3 1 0 0) (4 ∷ 5 ∷ 254 ∷ 255 ∷ [])
    ∷ named (λ v. info_of_times 0x14 1 5 v 3 1 0 0) (4 ∷ 5 ∷ 900 ∷ 901 ∷ [])
    ∷ named (λ v. info_of_times 0x14 1 5 5 v 1 0 0) (2 ∷ 3 ∷ 9 ∷ 10 ∷ [])
    ∷ named (λ v. info_of_times 0x14 1 5 5 3 v 0 0) (0 ∷ 1 ∷ 9 ∷ 10 ∷ [])
    ∷ named (λ v. info_of_times 0x14 1 5 5 3 1 v 0) (0 ∷ 90 ∷ 91 ∷ [])
    ∷ named (λ v. info_of_times 0x14 1 5 5 3 1 0 v) (0 ∷ 9 ∷ 10 ∷ [])
    ∷ named (λ v. info_of_greens 0x15 v 0 0 1 1 0) (0 ∷ 1 ∷ 48 ∷ 49 ∷ [])
    ∷ named (λ v. info_of_greens 0xC5 v 0 0 1 1 0) (0 ∷ 48 ∷ 49 ∷ [])
    ∷ named (λ v. info_of_greens 0xC8 v 0 0 1 1 0) (0 ∷ 48 ∷ 49 ∷ [])
    ∷ named (λ v. info_of_greens 0x15 1 v 0 1 1 0) (0 ∷ 7 ∷ 8 ∷ [])
    ∷ named (λ v. info_of_greens 0x15 1 0 v 1 1 0) (0x00 ∷ 0x01 ∷ 0x1F ∷ 0x20 ∷ 0x21 ∷ 0x22 ∷ 22 ∷ 0x37 ∷ 0x38 ∷ 0x39 ∷ 0x4F ∷ 0x50 ∷ 0x57 ∷ 0x58 ∷ 0x5F ∷ 0x60 ∷ 0x6D ∷ 0x6E ∷ 0xFF ∷ [])
    ∷ named (λ v. info_of_greens 0x15 1 0 0 v 1 0) (0 ∷ 1 ∷ 900 ∷ 901 ∷ [])
    ∷ named (λ v. info_of_greens 0x15 1 0 0 1 v 0) (0 ∷ 1 ∷ 900 ∷ 901 ∷ [])
    ∷ named (λ v. info_of_greens 0x15 1 0 0 1 1 v) (0 ∷ 899 ∷ 900 ∷ [])
    ∷ named (λ v. 0x5F ∷ 0x18 ∷ v ∷ []) (0 ∷ 48 ∷ 49 ∷ [])
    ∷ named (λ v. 0x5F ∷ 0x44 ∷ v ∷ []) (0 ∷ 48 ∷ 49 ∷ [])
    ∷ named (λ v. 0x5F ∷ 0x45 ∷ v ∷ []) (0 ∷ 48 ∷ 49 ∷ [])
    ∷ []

unfoldable pub due_edges : List (List ℕ)
due_edges =
    (1 ∷ 0 ∷ 0 ∷ 1 ∷ [])
    ∷ (0 ∷ 0 ∷ 1 ∷ [])
    ∷ (3 ∷ 0 ∷ 0 ∷ 3 ∷ [])
    ∷ (4 ∷ 0 ∷ 0 ∷ 4 ∷ [])
    ∷ (5 ∷ 0 ∷ 0 ∷ 5 ∷ [])
    ∷ (6 ∷ 0 ∷ 0 ∷ 6 ∷ [])
    ∷ (0 ∷ 0 ∷ 7 ∷ [])
    ∷ (0 ∷ 0 ∷ 8 ∷ [])
    ∷ (1 ∷ 0 ∷ 0 ∷ 1 ∷ [])
    ∷ (0 ∷ 0 ∷ 1 ∷ [])
    ∷ (0 ∷ 0 ∷ 1 ∷ [])
    ∷ (0 ∷ 0 ∷ 2 ∷ [])
    ∷ (0 ∷ 3 ∷ 3 ∷ 0 ∷ 3 ∷ 3 ∷ 3 ∷ 3 ∷ 0 ∷ 3 ∷ 3 ∷ 0 ∷ 0 ∷ 3 ∷ 3 ∷ 0 ∷ 0 ∷ 3 ∷ 3 ∷ [])
    ∷ (5 ∷ 0 ∷ 0 ∷ 5 ∷ [])
    ∷ (6 ∷ 0 ∷ 0 ∷ 6 ∷ [])
    ∷ (0 ∷ 0 ∷ 7 ∷ [])
    ∷ (0 ∷ 0 ∷ 1 ∷ [])
    ∷ (0 ∷ 0 ∷ 1 ∷ [])
    ∷ (0 ∷ 0 ∷ 1 ∷ [])
    ∷ []

-- what is written into six octets from the second on: refusal, count, output
abbrev written_out : ℕ → ℕ → List ℕ → List ℕ
written_out c n vs =
    let w = write_message (record { code = c; fields = n; values = placed vs }) 1 (replicate 6 0xEE) in w.answer.refusal ∷ w.answer.count ∷ w.out

-- 0F 80; 0F 81, too long; a plan, and one too large; a field too few, one too many and a value past the last; no such code
unfoldable pub messages_written : List (List ℕ)
messages_written =
    written_out 0x0F80 1 (0x5F18 ∷ [])
    ∷ written_out 0x0F81 3 (0x5F18 ∷ 13 ∷ 1 ∷ [])
    ∷ written_out 0x5F18 1 (48 ∷ [])
    ∷ written_out 0x5F18 1 (49 ∷ [])
    ∷ written_out 0x5F18 0 []
    ∷ written_out 0x5F18 2 (48 ∷ 0 ∷ [])
    ∷ written_out 0x5F18 1 (48 ∷ 1 ∷ [])
    ∷ written_out 0x5F16 0 []
    ∷ []

unfoldable pub due_messages_written : List (List ℕ)
due_messages_written =
    (0 ∷ 4 ∷ 0xEE ∷ 0x0F ∷ 0x80 ∷ 0x5F ∷ 0x18 ∷ 0xEE ∷ [])
    ∷ (9 ∷ 0 ∷ replicate 6 0xEE)
    ∷ (0 ∷ 3 ∷ 0xEE ∷ 0x5F ∷ 0x18 ∷ 0x30 ∷ 0xEE ∷ 0xEE ∷ [])
    ∷ (5 ∷ 0 ∷ replicate 6 0xEE)
    ∷ (5 ∷ 0 ∷ replicate 6 0xEE)
    ∷ (5 ∷ 0 ∷ replicate 6 0xEE)
    ∷ (5 ∷ 0 ∷ replicate 6 0xEE)
    ∷ (5 ∷ 0 ∷ replicate 6 0xEE)
    ∷ []

-- "Cycle 900 passes, 901 is 12."
abbrev pub MessageCases : Type 0
MessageCases = (messages_read ≡ due_messages_read) × (edges ≡ due_edges) × (messages_written ≡ due_messages_written)
