-- 02, E4: "A sound message frame whose SEQ and INFO both equal those of the last one accepted (for us or FFFF, refused 10 to 14 or not) is a
-- repeat": what is remembered of that one, and which frame is a repeat.
use Rattle.std.specs.Prelude.{ℕ, Bool, true, not, List, eqb, leb, length, take, drop}
use Rattle.std.proofs.lemmas.List.Edits.{sets}
use Rattle.octets.specs.Choice.{pick, both}
use Rattle.octets.specs.Same.{same}
use Rattle.frame.specs.Frame.{info_least, info_most}
use Rattle.controller.specs.declared.Last.{Last}

-- SEQ and the length of INFO, and the 256 octets in which INFO is kept
pub record Memory : Type 0 where
  pub last : Last
  pub info : List ℕ

-- they stand behind the 256 that the decoder keeps for INFO
abbrev pub joined_memory : Last → List ℕ → Memory
joined_memory l kept = record { last = l; info = take info_most (drop info_most kept) }

-- "A fresh start remembers none": a length of 0
abbrev pub none_accepted : Last
none_accepted = record { seq = 0; len = 0 }

-- none is remembered, or INFO of a length that a frame can have
abbrev pub last_fits : Last → Bool
last_fits l = pick (eqb l.len 0) true (both (leb info_least l.len) (leb l.len info_most))

-- the octets of that INFO
abbrev pub last_info : Memory → List ℕ
last_info m = take m.last.len m.info

-- "whose SEQ and INFO both equal those of the last one accepted"; INFO is compared whole, and the address is not
unfoldable pub is_repeat : Memory → ℕ → List ℕ → Bool
is_repeat m seq info = both (not (eqb m.last.len 0)) (both (eqb seq m.last.seq) (same info (last_info m)))

-- what is remembered of a frame that is accepted; the octets beyond its INFO stay
unfoldable pub remembering : Memory → ℕ → List ℕ → Memory
remembering m seq info = record { last = record { seq = seq; len = length info }; info = sets m.info 0 info }
