-- 01, "Messages": what a field is: its octets, its value and its range.
use Rattle.std.specs.Prelude.{ℕ, Bool, true, false, List, [], ◌∷◌, leb, get_or}
use Rattle.octets.specs.Choice.{both}
use Rattle.octets.specs.Word.{high_of, low_of, word_of}
use Rattle.diagram.specs.Table.{phases_of}
use Rattle.message.specs.declared.layout.Field.{Field}
use Rattle.message.specs.declared.layout.Field.TheVariants.{Octet, Two, Order}

-- "Fields are one octet unless marked": is it marked (2)?
abbrev pub two_of : Field → Bool
two_of (Octet least greatest) = false
two_of (Two least greatest) = true
two_of Order = false

abbrev pub width_of : Bool → ℕ
width_of false = 1
width_of true = 2

-- the value that stands at the front of the octets, high octet first; an octet that is not there is 0
abbrev pub value_of : Bool → List ℕ → ℕ
value_of false os = get_or os 0 0
value_of true os = word_of (get_or os 0 0) (get_or os 1 0)

-- the octets of a value
abbrev pub field_octets : Bool → ℕ → List ℕ
field_octets false v = low_of v ∷ []
field_octets true v = high_of v ∷ low_of v ∷ []

-- is the value in its field's range? 02, E2: "01's range for phase order becomes the supported codes", the orders that have phases
abbrev pub passes : Field → ℕ → Bool
passes (Octet least greatest) v = both (leb least v) (leb v greatest)
passes (Two least greatest) v = both (leb least v) (leb v greatest)
passes Order v = both (leb v 255) (leb 1 (phases_of v))

-- "k is 1 to 8"
abbrev pub k_fewest : ℕ
k_fewest = 1

abbrev pub k_most : ℕ
k_most = 8

-- The fields and their ranges

-- "those of 0F 80 and 0F 81 any"
abbrev pub code : Field
code = Two 0 65535

abbrev pub error_number : Field
error_number = Octet 0 255

abbrev pub parameter_number : Field
parameter_number = Octet 0 255

-- "Plan is 1 to 48 in a set, 0 to 48 elsewhere."
abbrev pub plan_set : Field
plan_set = Octet 1 48

abbrev pub plan : Field
plan = Octet 0 48

abbrev pub count : Field
count = Octet k_fewest k_most

-- "minimum green 5 to 254, maximum 5 to 900, yellow 3 to 9, all-red 1 to 9, walk flash 0 to 90, red man 0 to 9"
abbrev pub minimum : Field
minimum = Octet 5 254

abbrev pub maximum : Field
maximum = Two 5 900

abbrev pub yellow : Field
yellow = Octet 3 9

abbrev pub all_red : Field
all_red = Octet 1 9

abbrev pub walk_flash : Field
walk_flash = Octet 0 90

abbrev pub red_man : Field
red_man = Octet 0 9

-- "direct 0 to 7", a phase order, "green 1 to 900, cycle 1 to 900, offset 0 to 899"
abbrev pub direct : Field
direct = Octet 0 7

abbrev pub order : Field
order = Order

abbrev pub green : Field
green = Two 1 900

abbrev pub cycle : Field
cycle = Two 1 900

abbrev pub offset : Field
offset = Two 0 899

-- past the last field nothing but 0 has a place
abbrev pub no_field : Field
no_field = Octet 0 0
