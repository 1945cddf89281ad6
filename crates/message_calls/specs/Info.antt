-- 01, "Messages": "The fields of a message are read left to right by a reader that holds the INFO octets and its place."
use Rattle.std.specs.Prelude.{ℕ, Bool, List, drop}
use Rattle.std.specs.Borrow.{Bor}
use Rattle.message.specs.Fields.{value_of}
use Rattle.message_calls.specs.declared.info.Reader.{Reader}

-- a reader of these octets, at a place
abbrev pub reader_at : Bor (List ℕ) → ℕ → Reader
reader_at info at = record { src = info; at = at }

-- the field at its place, of one octet or marked (2)
abbrev pub next_field : Reader → Bool → ℕ
next_field r two = value_of two (drop r.at r.src.now)
