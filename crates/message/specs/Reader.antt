-- 01, "Messages" and "Plan book": what a call of the reader answers.
-- "The message reader alone reads every code of the table; it refuses with 10, 11 (so for under two octets) or 12 and then
-- gives no message."
use Rattle.std.specs.Prelude.{ℕ, not, List, Result, Ok, Err, eqb, ltb, length, get_or, drop}
use Rattle.octets.specs.Choice.{pick, both}
use Rattle.octets.specs.Part.{code_len}
use Rattle.octets.specs.Refusal as refusal
use Rattle.octets.specs.Refusals.{refusal_number}
use Rattle.octets.specs.Word.{word_of}
use Rattle.message.specs.declared.Message.{Message}
use Rattle.message.specs.declared.Fault.{Fault}
use Rattle.message.specs.Layouts.{Layout, layout_at, known, number_of, rows_at, k_fits}
use Rattle.message.specs.Values.{size_of, values_of, zeros, placed, numbered, first_out}

-- What reading gives: the refusal, the number of the field that refusal 12 names, and the message where nothing is refused.
pub record Read : Type 0 where
  pub refusal : ℕ
  pub field : ℕ
  pub message : Message

-- "and then gives no message"
unfoldable pub no_message : Message
no_message = record { code = 0; fields = 0; values = zeros }

unfoldable pub not_read : ℕ → ℕ → Read
not_read n field = record { refusal = n; field = field; message = no_message }

abbrev pub read_as : Message → Read
read_as m = record { refusal = refusal.none; field = 0; message = m }

-- what the code answers: the message, or why it is refused
abbrev pub reading_of : Result Message Fault → Read
reading_of (Ok m) = read_as m
reading_of (Err e) = not_read (refusal_number e.refusal) e.field

-- the count k in the octets
abbrev pub k_in : Layout → List ℕ → ℕ
k_in y os = numbered (values_of y.head os) y.count

-- what stands in the octets by the layout of this number, for k
unfoldable pub part_of : ℕ → ℕ → List ℕ → Message
part_of l k os = record { code = (layout_at l).code; fields = length (rows_at l k); values = placed (values_of (rows_at l k) os) }

-- "field out of range .. first such field"
unfoldable pub ranged_of : ℕ → ℕ → List ℕ → Read
ranged_of l k os =
    let m = part_of l k os in
    let field = first_out (rows_at l k) m.values in
    pick (eqb field 0) (read_as m) (not_read refusal.out_of_range field)

-- "k is 1 to 8 and fixes the length, so k = 0 or 9 is refusal 11"
unfoldable pub read_part_of : ℕ → ℕ → List ℕ → Read
read_part_of l k os =
    pick (not (known l)) (not_read refusal.code_not_handled 0)
    (pick (not (both (k_fits (layout_at l) k) (eqb (length os) (size_of (rows_at l k))))) (not_read refusal.info_length_wrong 0)
    (ranged_of l k os))

-- the code, high octet first, and "the octets after the two of the code"
abbrev pub code_in : List ℕ → ℕ
code_in info = word_of (get_or info 0 0) (get_or info 1 0)

abbrev pub body_in : List ℕ → List ℕ
body_in info = drop code_len info

-- "Code and body are separate"
unfoldable pub read_of : List ℕ → Read
read_of info =
    let l = number_of (code_in info) in
    pick (ltb (length info) code_len) (not_read refusal.info_length_wrong 0)
    (read_part_of l (k_in (layout_at l) (body_in info)) (body_in info))
