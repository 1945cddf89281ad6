-- 02, E5: "The decoder's result for every octet also gives how many octets have been taken since the last sound frame ended, or since
-- the start, that belong to no sound frame."
use Rattle.std.specs.Prelude.{ℕ, ◌+◌, ◌-◌, ◌≤◌, ◌≡◌, Bool, true, false, List, Some, None, eqb, leb, length, take, drop}
use Rattle.octets.specs.Choice.{pick}
use Rattle.octets.specs.declared.refusal.Refusal.TheVariants.{StateUnsound}
use Rattle.octets.specs.Refusals.{told_number}
use Rattle.frame.specs.declared.Kind.{Kind}
use Rattle.frame.specs.declared.Kind.TheVariants.{Message, Ack, Nak}
use Rattle.frame.specs.declared.decoder.Place.{Place}
use Rattle.frame.specs.declared.decoder.Place.TheVariants.{Idle, LoneAa, Seq, AddrHigh, AddrLow, LenHigh, LenLow, Info, InfoAa, CloseAa, CloseCc, Err, Cks}
use Rattle.frame.specs.declared.decoder.Head.{Head}
use Rattle.frame.specs.declared.decoder.Found.{Found}
use Rattle.frame.specs.declared.decoder.Found.TheVariants as found
use Rattle.frame.specs.declared.decoder.Stepped.{Stepped}
use Rattle.frame.specs.declared.decoder.Receiver.{Receiver}
use Rattle.frame.specs.declared.decoder.Received.{Received}
use Rattle.frame.specs.Frame.{info_most, doubled}
use Rattle.frame.specs.Decoder.{Decoder, Taken, fresh_head, possible_of, unsound, taken_of, idled_of, joined_decoder}

-- What is still open

-- "Octets of a frame still open, or a remembered AA": how many of them have been taken, by the place, the kind and the octets of INFO
-- that are in; of a doubled AA both came
abbrev pub open_at : Place → Kind → List ℕ → ℕ
open_at Idle k i = 0
open_at LoneAa k i = 1
open_at Seq k i = 2
open_at AddrHigh k i = 3
open_at AddrLow k i = 4
open_at LenHigh k i = 5
open_at LenLow k i = 6
open_at Info k i = 7 + length (doubled i)
open_at InfoAa k i = 8 + length (doubled i)
open_at CloseAa k i = 7 + length (doubled i)
open_at CloseCc k i = 8 + length (doubled i)
open_at Err k i = 7
open_at Cks Message i = 9 + length (doubled i)
open_at Cks Ack i = 7
open_at Cks Nak i = 8

abbrev pub open_in : Head → List ℕ → ℕ
open_in h info = open_at h.place h.kind (take h.filled info)

unfoldable pub open_of : Decoder → ℕ
open_of d = open_in d.head d.info

-- The number

-- "The number stops at 65,535"
abbrev pub dropped_most : ℕ
dropped_most = 65535

unfoldable pub stopped : ℕ → ℕ
stopped n = pick (leb n dropped_most) n dropped_most

-- "not counted until refused or dropped": the number n before an octet, with what was open at d and that octet, less what is open at e, after it
unfoldable pub number_then : ℕ → Decoder → Decoder → ℕ
number_then n d e = stopped ((n + open_of d + 1) - open_of e)

-- what a call of the decoder leaves, the number that it tells, and the number that is kept
pub record Counted : Type 0 where
  pub taken : Taken
  pub told : ℕ
  pub kept : ℕ

-- a refused call tells 0 and leaves the number
abbrev pub uncounted : Decoder → ℕ → Counted
uncounted d n = record { taken = unsound d; told = 0; kept = n }

-- by what was found, n being the number before the octet and m that after it; "the next sound frame carries it out and clears it": n, which has none
-- of that frame's own octets
abbrev pub number_told : Found → ℕ → ℕ → ℕ
number_told found.Nothing n m = m
number_told (found.Refused r k s a) n m = m
number_told (found.Message s a l) n m = n
number_told (found.Ack s a) n m = n
number_told (found.Nak s a e) n m = n

abbrev pub number_kept : Found → ℕ → ℕ
number_kept found.Nothing m = m
number_kept (found.Refused r k s a) m = m
number_kept (found.Message s a l) m = 0
number_kept (found.Ack s a) m = 0
number_kept (found.Nak s a e) m = 0

abbrev pub counted_as : ℕ → ℕ → Taken → Counted
counted_as n m t = record { taken = t; told = number_told t.found n m; kept = number_kept t.found m }

unfoldable pub counted_of : Decoder → ℕ → ℕ → Counted
counted_of d n b =
    let t = taken_of d b in
    pick (possible_of d.head) (counted_as n (number_then n d t.decoder) t) (uncounted d n)

-- "Line-idle counts the frame or AA it abandons."
unfoldable pub idle_counted : Decoder → ℕ → Counted
idle_counted d n =
    let m = stopped (n + open_of d) in
    pick (possible_of d.head) (record { taken = idled_of d; told = m; kept = m }) (uncounted d n)

-- The calls. The octets of INFO are lent: with fewer than 256 the state handed in is unsound

unfoldable pub octet_lent : Decoder → ℕ → ℕ → Counted
octet_lent d n b = pick (eqb (length d.info) info_most) (counted_of d n b) (uncounted d n)

unfoldable pub idle_lent : Decoder → ℕ → Counted
idle_lent d n = pick (eqb (length d.info) info_most) (idle_counted d n) (uncounted d n)

-- a decoder at rest, and no octet dropped
unfoldable pub fresh_receiver : Receiver
fresh_receiver = record { head = fresh_head; dropped = 0 }

-- what a call answers: refused, and done with the head h, the number n kept and m told
abbrev pub received_none : Receiver → Received
received_none r = record { refusal = Some StateUnsound; receiver = r; found = found.Nothing; dropped = 0 }

abbrev pub received_as : Head → ℕ → Found → ℕ → Received
received_as h n f m = record { refusal = None; receiver = record { head = h; dropped = n }; found = f; dropped = m }

-- by what was found, n being the number before and m that after
abbrev pub received_by : Found → Head → ℕ → ℕ → Received
received_by f h n m = received_as h (number_kept f m) f (number_told f n m)

-- and with the octets that it leaves
abbrev pub received_with : Received → List ℕ → Counted
received_with r kept =
    record {
      taken = record { refusal = told_number r.refusal; decoder = joined_decoder r.receiver.head kept; found = r.found };
      told = r.dropped;
      kept = r.receiver.dropped;
    }

-- the call answered r and left the octets k of those that were lent, as it should
pub record ReceivedLeaves (w : Counted) (lent : List ℕ) (r : Received) (k : List ℕ) : Type 0 where
  pub answer : received_with r k ≡ w
  pub beyond : drop info_most k ≡ drop info_most lent

-- What the functions go by; nothing above does

-- no more octets than that are open: of a message all but CKS, each octet of INFO an AA
abbrev pub open_most : ℕ
open_most = 521

-- is the decoder idle, or after a lone AA?
abbrev pub waits : Place → Bool
waits Idle = true
waits LoneAa = true
waits Seq = false
waits AddrHigh = false
waits AddrLow = false
waits LenHigh = false
waits LenLow = false
waits Info = false
waits InfoAa = false
waits CloseAa = false
waits CloseCc = false
waits Err = false
waits Cks = false

-- An octet goes on where nothing is found and the decoder is then within a frame: what was open is open still, and the octet with it, so the number
-- stays. Else no more than that is open.
pub record OpenThen (h : Head) (info : List ℕ) (t : Stepped) : Type 0 where
  pub on : t.found ≡ found.Nothing → waits t.head.place ≡ false → open_in t.head info ≡ open_in h info + 1
  pub most : open_in t.head info ≤ open_in h info + 1
