-- 01, "Messages" and "Replies": what a call of the writer answers, and what it leaves in the output.
use Rattle.std.specs.Prelude.{ℕ, Bool, true, List, ◌++◌, eqb, length}
use Rattle.octets.specs.Choice.{pick, both}
use Rattle.octets.specs.Refusal as refusal
use Rattle.octets.specs.Writing.{Writing, nothing_written, written_as}
use Rattle.message.specs.declared.Message.{Message}
use Rattle.message.specs.declared.layout.Field.{Field}
use Rattle.message.specs.Fields.{field_octets}
use Rattle.message.specs.Layouts.{layout_at, known, number_of, rows_at, k_fits}
use Rattle.message.specs.Values.{octets_of, numbered, first_out}

-- the number of a message's layout, and its count k
abbrev pub number_in : Message → ℕ
number_in m = number_of m.code

abbrev pub k_of_message : Message → ℕ
k_of_message m = numbered m.values (layout_at (number_in m)).count

-- "a field outside its range or a code not listed": a field too few or too many is outside its range too
unfoldable pub writable_as : ℕ → ℕ → ℕ → List ℕ → Bool
writable_as l k fields vs =
    both (known l)
    (both (k_fits (layout_at l) k)
    (both (eqb fields (length (rows_at l k)))
    (eqb (first_out (rows_at l k) vs) 0)))

abbrev pub writable : Message → Bool
writable m = writable_as (number_in m) (k_of_message m) m.fields m.values

-- the octets of a message: its code, high octet first, and its fields
unfoldable pub info_as : ℕ → List Field → List ℕ → List ℕ
info_as c fs vs = field_octets true c ++ octets_of fs vs

abbrev pub info_of : Message → List ℕ
info_of m = info_as m.code (rows_at (number_in m) (k_of_message m)) m.values

-- "4 or 5 before 9 in a writer"
unfoldable pub write_message : Message → ℕ → List ℕ → Writing
write_message m at out = pick (writable m) (written_as (info_of m) at out) (nothing_written refusal.field_wrong out)
