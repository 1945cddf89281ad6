-- 01, "Frames": what a frame is, and its octets in order.
--
-- | Kind | Octets in order | LEN |
-- |---|---|---|
-- | message | AA BB SEQ ADDR(2) LEN(2) INFO(n) AA CC CKS | 10+n, n from 2 to 256 |
-- | ACK | AA DD SEQ ADDR(2) LEN(2) CKS | 8 |
-- | NAK | AA EE SEQ ADDR(2) LEN(2) ERR CKS | 9 |
use Rattle.std.specs.Prelude.{ℕ, ◌+◌, Bool, true, List, [], ◌∷◌, ◌++◌, eqb, leb, length}
use Rattle.octets.specs.Choice.{pick, both}
use Rattle.octets.specs.ExclusiveOr.{exclusive_or}
use Rattle.octets.specs.Word.{high_of, low_of}
use Rattle.frame.specs.declared.Kind.{Kind}
use Rattle.frame.specs.declared.Kind.TheVariants.{Message, Ack, Nak}

pub data Frame : Type 0 where
  message : (seq addr : ℕ) (info : List ℕ) → Frame
  ack : (seq addr : ℕ) → Frame
  nak : (seq addr err : ℕ) → Frame

abbrev pub kind_of : Frame → Kind
kind_of (message s a i) = Message
kind_of (ack s a) = Ack
kind_of (nak s a e) = Nak

abbrev pub seq_of : Frame → ℕ
seq_of (message s a i) = s
seq_of (ack s a) = s
seq_of (nak s a e) = s

abbrev pub addr_of : Frame → ℕ
addr_of (message s a i) = a
addr_of (ack s a) = a
addr_of (nak s a e) = a

-- the second octet of a frame
abbrev pub opener : Kind → ℕ
opener Message = 0xBB
opener Ack = 0xDD
opener Nak = 0xEE

-- "10+n, n from 2 to 256": INFO's least and most, and LEN of a frame without it
abbrev pub info_least : ℕ
info_least = 2

abbrev pub info_most : ℕ
info_most = 256

abbrev pub message_len : ℕ
message_len = 10

abbrev pub ack_len : ℕ
ack_len = 8

abbrev pub nak_len : ℕ
nak_len = 9

-- "Only an AA within INFO is sent twice"
unfoldable pub twice : ℕ → List ℕ
twice x = pick (eqb x 0xAA) (0xAA ∷ 0xAA ∷ []) (x ∷ [])

unfoldable pub doubled : List ℕ → List ℕ
doubled [] = []
doubled (x ∷ xs) = twice x ++ doubled xs

-- LEN as in its kind's row above
abbrev pub len_fits : Kind → ℕ → Bool
len_fits Message n = both (leb (message_len + info_least) n) (leb n (message_len + info_most))
len_fits Ack n = eqb n ack_len
len_fits Nak n = eqb n nak_len

-- LEN of a frame
abbrev pub len_of : Frame → ℕ
len_of (message s a i) = message_len + length i
len_of (ack s a) = ack_len
len_of (nak s a e) = nak_len

-- INFO as the frame's row has it
abbrev pub info_fits : Frame → Bool
info_fits (message s a i) = both (leb info_least (length i)) (leb (length i) info_most)
info_fits (ack s a) = true
info_fits (nak s a e) = true

-- from the first AA to LEN
abbrev pub front : Kind → ℕ → ℕ → ℕ → List ℕ
front k s a n = 0xAA ∷ opener k ∷ s ∷ high_of a ∷ low_of a ∷ high_of n ∷ low_of n ∷ []

unfoldable pub front_of : Frame → List ℕ
front_of f = front (kind_of f) (seq_of f) (addr_of f) (len_of f)

-- between LEN and CKS, before doubling
unfoldable pub body_of : Frame → List ℕ
body_of (message s a i) = i ++ (0xAA ∷ 0xCC ∷ [])
body_of (ack s a) = []
body_of (nak s a e) = e ∷ []

-- between LEN and CKS, as sent: "SEQ, ADDR, LEN, ERR and CKS go as they are, being found by count"
unfoldable pub sent_of : Frame → List ℕ
sent_of (message s a i) = doubled i ++ (0xAA ∷ 0xCC ∷ [])
sent_of (ack s a) = []
sent_of (nak s a e) = e ∷ []

-- "CKS is the exclusive or of all earlier octets of the frame before doubling."
unfoldable pub cks_of : Frame → ℕ
cks_of f = exclusive_or 0 (front_of f ++ body_of f)

-- the whole frame, before doubling and as sent
unfoldable pub undoubled : Frame → List ℕ
undoubled f = front_of f ++ (body_of f ++ (cks_of f ∷ []))

unfoldable pub written : Frame → List ℕ
written f = front_of f ++ (sent_of f ++ (cks_of f ∷ []))
