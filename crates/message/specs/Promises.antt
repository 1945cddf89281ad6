-- What 01 demands of messages, stated from outside.
use Rattle.std.specs.Prelude.{ℕ, ◌+◌, ◌*◌, ◌≤◌, ◌<◌, ◌≡◌, true, List, [], ◌∷◌, ◌++◌, Result, Ok, Err, eqb, length, get_or, take, drop, replicate}
use Rattle.octets.specs.First.{First}
use Rattle.octets.specs.Octet.{Octets}
use Rattle.octets.specs.Refusals.{refusal_number}
use Rattle.octets.specs.Writing.{Writing}
use Rattle.diagram.specs.Table.{phases_of}
use Rattle.message.specs.declared.Fault.{Fault}
use Rattle.message.specs.declared.Message.{Message}
use Rattle.message.specs.declared.layout.Field.{Field}
use Rattle.message.specs.declared.layout.Field.TheVariants.{Octet, Two, Order}
use Rattle.message.specs.Fields.{passes, no_field}
use Rattle.message.specs.Layouts.{layouts, layout_at, number_of, rows_at, stored_times, stored_plan}
use Rattle.message.specs.Values.{size_of, field_start, values_of}
use Rattle.message.specs.Reader.{Read, reading_of, k_in, part_of, read_part_of, read_of, code_in, body_in}
use Rattle.message.specs.Writer.{number_in, k_of_message, info_of, write_message}
use Rattle.message.specs.Names as number

-- The layouts

-- the codes of 01's table, in its order
abbrev pub listed : List ℕ
listed = 0x0F80 ∷ 0x0F81 ∷ 0x5F14 ∷ 0x5FC4 ∷ 0x5F15 ∷ 0x5FC5 ∷ 0x5FC8 ∷ 0x5F18 ∷ 0x5F44 ∷ 0x5F45 ∷ 0x5F48 ∷ []

-- A code's number is its place among them, from 1, and 0 exactly where it is none of them.
abbrev pub CodesListed : Type 0
CodesListed = (c : ℕ) → First (λ j. eqb (get_or listed j 0) c) (length listed) (number_of c)

-- "Fields are numbered from 1 after the code, two octets as one field": field number n is f, and the octets before it are s
pub record FieldStands (fs : List Field) (n : ℕ) (f : Field) (s : ℕ) : Type 0 where
  pub place : ℕ
  pub number : n ≡ place + 1
  pub within : place < length fs
  pub there : get_or fs place no_field ≡ f
  pub start : field_start fs place ≡ s

-- 0F 80 and 0F 81: "those of 0F 80 and 0F 81 any"
pub record AnswerFields (fs : List Field) : Type 0 where
  pub many : length fs ≡ 1
  pub size : size_of fs ≡ 2
  pub answered : FieldStands fs 1 (Two 0 65535) 0

pub record RefusalFields (fs : List Field) : Type 0 where
  pub many : length fs ≡ 3
  pub size : size_of fs ≡ 4
  pub answered : FieldStands fs 1 (Two 0 65535) 0
  pub error : FieldStands fs 2 (Octet 0 255) 2
  pub parameter : FieldStands fs 3 (Octet 0 255) 3

-- "minimum green, maximum green(2), yellow, all-red, walk flash, red man", from number n and octet s on; "minimum green 5 to 254,
-- maximum 5 to 900, yellow 3 to 9, all-red 1 to 9, walk flash 0 to 90, red man 0 to 9"
pub record PhaseFields (fs : List Field) (n s : ℕ) : Type 0 where
  pub minimum : FieldStands fs n (Octet 5 254) s
  pub maximum : FieldStands fs (n + 1) (Two 5 900) (s + 1)
  pub yellow : FieldStands fs (n + 2) (Octet 3 9) (s + 3)
  pub all_red : FieldStands fs (n + 3) (Octet 1 9) (s + 4)
  pub walk_flash : FieldStands fs (n + 4) (Octet 0 90) (s + 5)
  pub red_man : FieldStands fs (n + 5) (Octet 0 9) (s + 6)

-- "k greens(2), cycle(2), offset(2)", from number n and octet s on; "green 1 to 900, cycle 1 to 900, offset 0 to 899"
pub record GreenFields (k : ℕ) (fs : List Field) (n s : ℕ) : Type 0 where
  pub green : (i : ℕ) → i < k → FieldStands fs (n + i) (Two 1 900) (s + 2 * i)
  pub cycle : FieldStands fs (n + k) (Two 1 900) (s + 2 * k)
  pub offset : FieldStands fs (n + k + 1) (Two 0 899) (s + 2 * k + 2)

-- 5F 14 and 5F C4, whose plan is `least` to 48. Phases are counted from 0: minimum green is field 3 + 6i, red man 8 + 6i.
pub record TimesFields (least k : ℕ) (fs : List Field) : Type 0 where
  pub many : length fs ≡ 2 + 6 * k
  pub size : size_of fs ≡ 2 + 7 * k
  pub planned : FieldStands fs 1 (Octet least 48) 0
  pub count : FieldStands fs 2 (Octet 1 8) 1
  pub phase : (i : ℕ) → i < k → PhaseFields fs (3 + 6 * i) (2 + 7 * i)

-- 5F 15, 5F C5 and 5F C8, whose plan is `least` to 48: green i is field 5 + i, cycle 5 + k, offset 6 + k; "direct 0 to 7"
pub record PlanFields (least k : ℕ) (fs : List Field) : Type 0 where
  pub many : length fs ≡ 6 + k
  pub size : size_of fs ≡ 8 + 2 * k
  pub planned : FieldStands fs 1 (Octet least 48) 0
  pub direct : FieldStands fs 2 (Octet 0 7) 1
  pub order : FieldStands fs 3 Order 2
  pub count : FieldStands fs 4 (Octet 1 8) 3
  pub greens : GreenFields k fs 5 4

-- 5F 18, 5F 44 and 5F 45
pub record OnePlan (fs : List Field) : Type 0 where
  pub many : length fs ≡ 1
  pub size : size_of fs ≡ 1
  pub planned : FieldStands fs 1 (Octet 0 48) 0

abbrev pub fields_of : ℕ → ℕ → List Field
fields_of c k = rows_at (number_of c) k

-- every code of 01's table, for every k, which changes nothing where there is no count; "Plan is 1 to 48 in a set, 0 to 48 elsewhere"
pub record EachCode : Type 0 where
  pub carried_out : (k : ℕ) → AnswerFields (fields_of 0x0F80 k)
  pub refused : (k : ℕ) → RefusalFields (fields_of 0x0F81 k)
  pub set_times : (k : ℕ) → TimesFields 1 k (fields_of 0x5F14 k)
  pub report_times : (k : ℕ) → TimesFields 0 k (fields_of 0x5FC4 k)
  pub set_plan : (k : ℕ) → PlanFields 1 k (fields_of 0x5F15 k)
  pub report_plan : (k : ℕ) → PlanFields 0 k (fields_of 0x5FC5 k)
  pub report_running : (k : ℕ) → PlanFields 0 k (fields_of 0x5FC8 k)
  pub run : (k : ℕ) → OnePlan (fields_of 0x5F18 k)
  pub query_times : (k : ℕ) → OnePlan (fields_of 0x5F44 k)
  pub query_plan : (k : ℕ) → OnePlan (fields_of 0x5F45 k)
  pub query_running : (k : ℕ) → fields_of 0x5F48 k ≡ []

-- Each field of each code stands under its number, at its place, with its range.
abbrev pub FieldNumbers : Type 0
FieldNumbers = EachCode

-- The names by which refusals name fields, each with its number; and those of the code, "high octet first", and of "the octets after the two
-- of the code"
pub record EachName : Type 0 where
  pub code : (info : List ℕ) → code_in info ≡ get_or info 0 0 * 256 + get_or info 1 0
  pub body : (info : List ℕ) → body_in info ≡ drop 2 info
  pub answered : number.answered_at ≡ 1
  pub error : number.error_at ≡ 2
  pub parameter : number.parameter_at ≡ 3
  pub plan : number.plan_at ≡ 1
  pub times_count : number.times_count_at ≡ 2
  pub minimum : (i : ℕ) → number.minimum_at i ≡ 3 + 6 * i
  pub maximum : (i : ℕ) → number.maximum_at i ≡ 4 + 6 * i
  pub red_man : (i : ℕ) → number.red_man_at i ≡ 8 + 6 * i
  pub direct : number.direct_at ≡ 2
  pub order : number.order_at ≡ 3
  pub plan_count : number.plan_count_at ≡ 4
  pub green : (i : ℕ) → number.green_at i ≡ 5 + i
  pub cycle : (k : ℕ) → number.cycle_at k ≡ 5 + k
  pub offset : (k : ℕ) → number.offset_at k ≡ 6 + k

abbrev pub NamesAsSaid : Type 0
NamesAsSaid = EachName

-- The parts of a record are those messages without the plan and the count: "the 7k octets of 5F 14", and "direct, order,
-- 2k green octets, cycle, offset".
pub record StoredAs (k : ℕ) : Type 0 where
  pub times : fields_of 0x5F14 k ≡ Octet 1 48 ∷ Octet 1 8 ∷ rows_at stored_times k
  pub times_size : size_of (rows_at stored_times k) ≡ 7 * k
  pub phase : (i : ℕ) → i < k → PhaseFields (rows_at stored_times k) (1 + 6 * i) (7 * i)
  pub plan : fields_of 0x5F15 k ≡ Octet 1 48 ∷ (take 2 (rows_at stored_plan k) ++ (Octet 1 8 ∷ drop 2 (rows_at stored_plan k)))
  pub plan_size : size_of (rows_at stored_plan k) ≡ 6 + 2 * k
  pub direct : FieldStands (rows_at stored_plan k) 1 (Octet 0 7) 0
  pub order : FieldStands (rows_at stored_plan k) 2 Order 1
  pub greens : GreenFields k (rows_at stored_plan k) 3 2

abbrev pub StoredParts : Type 0
StoredParts = (k : ℕ) → StoredAs k

-- Reading

-- the code, "high octet first", and "the octets after the two of the code"
abbrev pub code_word : List ℕ → ℕ
code_word info = get_or info 0 0 * 256 + get_or info 1 0

abbrev pub after_code : List ℕ → List ℕ
after_code info = drop 2 info

-- refused n, naming a field, "and then gives no message": no code, no field, and each of the 50 values 0
abbrev pub refused_reading : ℕ → ℕ → Read
refused_reading n field = record { refusal = n; field = field; message = record { code = 0; fields = 0; values = replicate 50 0 } }

-- read, nothing refused
abbrev pub message_read : Message → Read
message_read m = record { refusal = 0; field = 0; message = m }

-- the value of a field that starts after s octets, "high octet first"
abbrev pub value_there : Field → List ℕ → ℕ → ℕ
value_there (Octet least greatest) os s = get_or os s 0
value_there (Two least greatest) os s = get_or os s 0 * 256 + get_or os (s + 1) 0
value_there Order os s = get_or os s 0

-- the value is in its field's range; a phase order's is the supported codes, the orders that have phases
abbrev pub InRange : Field → ℕ → Type 0
InRange (Octet least greatest) v = (least ≤ v) × (v ≤ greatest)
InRange (Two least greatest) v = (least ≤ v) × (v ≤ greatest)
InRange Order v = (v ≤ 255) × (1 ≤ phases_of v)

-- "field out of range": exactly the values that are in their field's range pass
abbrev pub RangesAsSaid : Type 0
RangesAsSaid = (f : Field) (v : ℕ) → (passes f v ≡ true → InRange f v) × (InRange f v → passes f v ≡ true)

-- the values vs of the fields fs, at place j
abbrev pub RightAt : List Field → List ℕ → ℕ → Type 0
RightAt fs vs j = InRange (get_or fs j no_field) (get_or vs j 0)

-- all fields before number n are in range, and field n is not
pub record FirstWrong (fs : List Field) (vs : List ℕ) (n : ℕ) : Type 0 where
  pub place : ℕ
  pub number : n ≡ place + 1
  pub within : place < length fs
  pub before : (j : ℕ) → j < place → RightAt fs vs j
  pub here : RightAt fs vs place → ⊥

-- there is such a layout; its k is right, and so is the number of octets
pub record HasLayout (l : ℕ) : Type 0 where
  pub first : 1 ≤ l
  pub last : l < length layouts

pub record RightLength (l k : ℕ) (os : List ℕ) : Type 0 where
  pub fewest : (layout_at l).fewest ≤ k
  pub most : k ≤ (layout_at l).most
  pub octets : length os ≡ size_of (rows_at l k)

-- What reading the octets by a layout comes to, and why
pub data PartJudged (l k : ℕ) (os : List ℕ) : Read → Type 0 where
  -- "code not handled"
  unknown : (HasLayout l → ⊥) → PartJudged l k os (refused_reading 10 0)
  -- "INFO length wrong for its code"; "k is 1 to 8 and fixes the length, so k = 0 or 9 is refusal 11"
  wrong_length : HasLayout l → (RightLength l k os → ⊥) → PartJudged l k os (refused_reading 11 0)
  -- "field out of range", "first such field"
  out_of_range : (n : ℕ) → HasLayout l → RightLength l k os → FirstWrong (rows_at l k) (values_of (rows_at l k) os) n
      → PartJudged l k os (refused_reading 12 n)
  accepted : HasLayout l → RightLength l k os → ((j : ℕ) → j < length (rows_at l k) → RightAt (rows_at l k) (values_of (rows_at l k) os) j)
      → PartJudged l k os (message_read (part_of l k os))

-- What reading INFO comes to: "10, 11 (so for under two octets) or 12"
pub data Judged (info : List ℕ) : Read → Type 0 where
  short : length info < 2 → Judged info (refused_reading 11 0)
  body : {r : Read} → 2 ≤ length info
      → PartJudged (number_of (code_word info)) (k_in (layout_at (number_of (code_word info))) (after_code info)) (after_code info) r
      → Judged info r

-- "When, and only then": refusals 10, 11 and 12.
abbrev pub PartsReadSo : Type 0
PartsReadSo = (l k : ℕ) (os : List ℕ) (r : Read) → (PartJudged l k os r → r ≡ read_part_of l k os) × (r ≡ read_part_of l k os → PartJudged l k os r)

-- A reader's answer in 01's numbers: the message, with nothing refused; or the refusal and the field that it names, "and then gives no message".
pub record ReadersAnswer : Type 0 where
  pub read : (m : Message) → reading_of (Ok m) ≡ message_read m
  pub refused : (e : Fault) → reading_of (Err e) ≡ refused_reading (refusal_number e.refusal) e.field
  -- and from the numbers the answer is known
  pub apart : (r s : Result Message Fault) → reading_of r ≡ reading_of s → r ≡ s

abbrev pub ReadersAnswerSo : Type 0
ReadersAnswerSo = ReadersAnswer

abbrev pub MessagesReadSo : Type 0
MessagesReadSo = (info : List ℕ) (r : Read) → (Judged info r → r ≡ read_of info) × (r ≡ read_of info → Judged info r)

-- "The search over fields stops at the first that fails and yields its number."
abbrev pub FirstFieldNamed : Type 0
FirstFieldNamed =
    (info : List ℕ) → (read_of info).refusal ≡ 12
    → (let l = number_of (code_word info) in
    let fs = rows_at l (k_in (layout_at l) (after_code info)) in
    FirstWrong fs (values_of fs (after_code info)) (read_of info).field)

-- "INFO length wrong for its code": of the code of these two octets, exactly the Right octets after it are of a right length
pub record LengthOf (high low : ℕ) (Right : List ℕ → Type 0) : Type 0 where
  pub wrong : (os : List ℕ) → (Right os → ⊥) → read_of (high ∷ low ∷ os) ≡ refused_reading 11 0
  pub right : (os : List ℕ) → Right os → (read_of (high ∷ low ∷ os)).refusal ≡ 11 → ⊥

-- "k is 1 to 8 and fixes the length, so k = 0 or 9 is refusal 11": the count is the octet at this place, and so many octets come
-- once and k times
pub record CountFixes (place once each : ℕ) (os : List ℕ) : Type 0 where
  pub fewest : 1 ≤ get_or os place 0
  pub most : get_or os place 0 ≤ 8
  pub octets : length os ≡ once + each * get_or os place 0

pub record EachLength : Type 0 where
  pub carried_out : LengthOf 0x0F 0x80 (λ os. length os ≡ 2)
  pub refused : LengthOf 0x0F 0x81 (λ os. length os ≡ 4)
  pub set_times : LengthOf 0x5F 0x14 (CountFixes 1 2 7)
  pub report_times : LengthOf 0x5F 0xC4 (CountFixes 1 2 7)
  pub set_plan : LengthOf 0x5F 0x15 (CountFixes 3 8 2)
  pub report_plan : LengthOf 0x5F 0xC5 (CountFixes 3 8 2)
  pub report_running : LengthOf 0x5F 0xC8 (CountFixes 3 8 2)
  pub run : LengthOf 0x5F 0x18 (λ os. length os ≡ 1)
  pub query_times : LengthOf 0x5F 0x44 (λ os. length os ≡ 1)
  pub query_plan : LengthOf 0x5F 0x45 (λ os. length os ≡ 1)
  pub query_running : LengthOf 0x5F 0x48 (λ os. length os ≡ 0)

abbrev pub LengthsAsSaid : Type 0
LengthsAsSaid = EachLength

-- "those of 0F 80 and 0F 81 any": whatever octets their fields have, they are read
pub record AnyAnswer : Type 0 where
  pub carried_out : (a b : ℕ) → Octets (a ∷ b ∷ []) → (read_of (0x0F ∷ 0x80 ∷ a ∷ b ∷ [])).refusal ≡ 0
  pub refused : (a b error parameter : ℕ) → Octets (a ∷ b ∷ error ∷ parameter ∷ []) → (read_of (0x0F ∷ 0x81 ∷ a ∷ b ∷ error ∷ parameter ∷ [])).refusal ≡ 0

abbrev pub AnswersTakeAny : Type 0
AnswersTakeAny = AnyAnswer

-- The values of fields, in range or not, are those of the octets where the fields stand.
abbrev pub ValuesTaken : Type 0
ValuesTaken = (fs : List Field) (os : List ℕ) (j s : ℕ) (f : Field) → FieldStands fs (j + 1) f s → get_or (values_of fs os) j 0 ≡ value_there f os s

-- What is read is what stands there: the code of the first two octets, as many fields as its layout has, the value of each, and
-- 0 in the places past the last.
pub record HoldsInfo (info : List ℕ) (m : Message) : Type 0 where
  pub code : m.code ≡ code_word info
  pub fields : m.fields ≡ length (fields_of m.code (k_of_message m))
  pub values : (j s : ℕ) (f : Field) → FieldStands (fields_of m.code (k_of_message m)) (j + 1) f s → get_or m.values j 0 ≡ value_there f (after_code info) s
  pub places : length m.values ≡ 50
  pub past : (j : ℕ) → m.fields ≤ j → get_or m.values j 0 ≡ 0

abbrev pub ValuesStand : Type 0
ValuesStand = (info : List ℕ) → (read_of info).refusal ≡ 0 → HoldsInfo info (read_of info).message

-- Writing

-- a message that may be written: its code is listed, it has as many fields as its layout, each in its range, and 0 past the last
pub record Writable (m : Message) : Type 0 where
  pub listed : HasLayout (number_in m)
  pub fewest : (layout_at (number_in m)).fewest ≤ k_of_message m
  pub most : k_of_message m ≤ (layout_at (number_in m)).most
  pub fields : m.fields ≡ length (rows_at (number_in m) (k_of_message m))
  pub ranges : (j : ℕ) → j < m.fields → RightAt (rows_at (number_in m) (k_of_message m)) m.values j
  pub rest : (j : ℕ) → m.fields ≤ j → j < 50 → get_or m.values j 0 ≡ 0

-- refused n, "nothing written": no octet counted, and the output as it came
abbrev pub no_message_written : ℕ → List ℕ → Writing
no_message_written n out = record { answer = record { refusal = n; count = 0 }; out = out }

-- What writing comes to, and why: "4 or 5 before 9 in a writer", "nothing written", "the output beyond them stays"
pub data MessageWriteJudged (m : Message) (at : ℕ) (out : List ℕ) : Writing → Type 0 where
  field_wrong : (Writable m → ⊥) → MessageWriteJudged m at out (no_message_written 5 out)
  output_short : Writable m → length out < at + length (info_of m) → MessageWriteJudged m at out (no_message_written 9 out)
  written : Writable m → at + length (info_of m) ≤ length out
      → MessageWriteJudged m at out (record {
        answer = record { refusal = 0; count = length (info_of m) };
        out = take at out ++ (info_of m ++ drop (at + length (info_of m)) out);
      })

-- "When, and only then": refusals 5 and 9.
abbrev pub MessagesWrittenSo : Type 0
MessagesWrittenSo = (m : Message) (at : ℕ) (out : List ℕ) (w : Writing) → (MessageWriteJudged m at out w → w ≡ write_message m at out) × (w ≡ write_message m at out → MessageWriteJudged m at out w)

-- Round trips

-- Reading undoes writing: what the writer stored and counted is read as the message that it was given.
abbrev pub ReadingMessagesUndoesWriting : Type 0
ReadingMessagesUndoesWriting =
    (m : Message) (at : ℕ) (out : List ℕ) → length m.values ≡ 50
    → (let w = write_message m at out in w.answer.refusal ≡ 0 → read_of (take w.answer.count (drop at w.out)) ≡ message_read m)

-- Writing undoes reading: what the reader read is written, where there is room for it, as the octets that it was given.
abbrev pub WritingMessagesUndoesReading : Type 0
WritingMessagesUndoesReading =
    (info : List ℕ) (at : ℕ) (out : List ℕ) → Octets info → (read_of info).refusal ≡ 0 → at + length info ≤ length out
    → write_message (read_of info).message at out
    ≡ record { answer = record { refusal = 0; count = length info }; out = take at out ++ (info ++ drop (at + length info) out) }
