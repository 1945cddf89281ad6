-- A part of a slice that is lent.
use Rattle.std.specs.Prelude.{ℕ, ◌+◌, min, ◌≡◌, List, length, take, drop}
use Rattle.std.specs.Borrow.{Bor}

-- the octets of a message's code, before its fields
abbrev pub code_len : ℕ
code_len = 2

-- r is the part of s that starts at a and is n long: it stands there, and holds what s holds there
pub record PartOf (s : Bor (List ℕ)) (a n : ℕ) (r : Bor (List ℕ)) : Type 0 where
  pub place : r.ref_ptr ≡ (s.ref_ptr.0, a + s.ref_ptr.1)
  pub octets : r.now ≡ take n (drop a s.now)

-- r is all of s from a on, or the empty part at its end where s is shorter
pub record PartFrom (s : Bor (List ℕ)) (a : ℕ) (r : Bor (List ℕ)) : Type 0 where
  pub place : r.ref_ptr ≡ (s.ref_ptr.0, min a (length s.now) + s.ref_ptr.1)
  pub octets : r.now ≡ drop a s.now
