-- The decoder's calls as the code makes them: the head and the number stand in one struct, and the octets that INFO is kept in are lent,
-- 256 of them or more.
use Rattle.std.specs.Prelude.{ℕ, ◌≤◌, ◌<◌, ◌≡◌, List, ◌++◌, length, take, drop}
use Rattle.octets.specs.Refusals.{told_number}
use Rattle.frame.specs.declared.decoder.Head.{Head}
use Rattle.frame.specs.declared.decoder.Found.TheVariants as found
use Rattle.frame.specs.declared.decoder.Received.{Received}
use Rattle.frame.specs.Decoder.{Decoder, joined_decoder}
use Rattle.frame.specs.Dropped.{Counted, counted_of, idle_counted, octet_lent, idle_lent, received_with, ReceivedLeaves}

-- "state handed in is unsound": "same state"; it tells no number, and the one kept stays
abbrev pub Refused7 : Decoder → ℕ → Counted → Type 0
Refused7 d n w = w ≡ record { taken = record { refusal = 7; decoder = d; found = found.Nothing }; told = 0; kept = n }

pub record CallsLent (h : Head) (kept : List ℕ) : Type 0 where
  -- the decoder has the first 256, whatever stands beyond
  pub joined : joined_decoder h kept ≡ record { head = h; info = take 256 kept }
  pub received : (r : Received) → received_with r kept ≡ record {
    taken = record { refusal = told_number r.refusal; decoder = record { head = r.receiver.head; info = take 256 kept }; found = r.found };
    told = r.dropped;
    kept = r.receiver.dropped;
  }
  -- fewer are refused 7
  pub octet_short : (n b : ℕ) → length kept < 256 → Refused7 (joined_decoder h kept) n (octet_lent (joined_decoder h kept) n b)
  pub octet_enough : (n b : ℕ) → 256 ≤ length kept → octet_lent (joined_decoder h kept) n b ≡ counted_of (joined_decoder h kept) n b
  pub idle_short : (n : ℕ) → length kept < 256 → Refused7 (joined_decoder h kept) n (idle_lent (joined_decoder h kept) n)
  pub idle_enough : (n : ℕ) → 256 ≤ length kept → idle_lent (joined_decoder h kept) n ≡ idle_counted (joined_decoder h kept) n

-- What the contract of the octet call says: it answers what is due, the numbers too, and leaves the INFO octets that are due, and those beyond as
-- they came.
pub record ReceivedSo (w : Counted) (lent : List ℕ) (r : Received) (k : List ℕ) : Type 0 where
  pub refusal : told_number r.refusal ≡ w.taken.refusal
  pub head : r.receiver.head ≡ w.taken.decoder.head
  pub found : r.found ≡ w.taken.found
  pub told : r.dropped ≡ w.told
  pub kept : r.receiver.dropped ≡ w.kept
  pub octets : k ≡ w.taken.decoder.info ++ drop 256 lent

abbrev pub OctetsLent : Type 0
OctetsLent =
    ((h : Head) (kept : List ℕ) → CallsLent h kept)
    × ((w : Counted) (lent : List ℕ) (r : Received) (k : List ℕ) → ReceivedLeaves w lent r k → ReceivedSo w lent r k)
