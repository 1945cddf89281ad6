-- 01, "Messages": "a reader that holds the INFO octets and its place", stated from outside.
use Rattle.std.specs.Prelude.{ℕ, ◌+◌, ◌*◌, ◌≡◌, true, false, List, get_or}
use Rattle.std.specs.Borrow.{Bor}
use Rattle.message_calls.specs.declared.info.Reader.{Reader}
use Rattle.message_calls.specs.Info.{reader_at, next_field}

pub record EachReader : Type 0 where
  -- it has the octets and the place that it was opened with
  pub octets : (info : Bor (List ℕ)) (at : ℕ) → (reader_at info at).src ≡ info
  pub place : (info : Bor (List ℕ)) (at : ℕ) → (reader_at info at).at ≡ at
  -- a field of one octet is the octet at its place, and 0 past the end
  pub octet : (r : Reader) → next_field r false ≡ get_or r.src.now r.at 0
  -- "high octet first": a field of two octets is one number
  pub word : (r : Reader) → next_field r true ≡ 256 * get_or r.src.now r.at 0 + get_or r.src.now (r.at + 1) 0

abbrev pub ReaderReads : Type 0
ReaderReads = EachReader
