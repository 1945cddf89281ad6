-- 01, "Replies": the refusals by number, and 0 for none.
use Rattle.std.specs.Prelude.{ℕ, ◌≡◌}

abbrev pub none : ℕ
none = 0

-- "CKS wrong"
abbrev pub cks_wrong : ℕ
cks_wrong = 1

-- "doubling or closing octets wrong"
abbrev pub closing_wrong : ℕ
closing_wrong = 2

-- "LEN not as in its kind's row above"
abbrev pub len_wrong : ℕ
len_wrong = 3

-- "frame writer given INFO not 2 to 256 long"
abbrev pub info_wrong : ℕ
info_wrong = 4

-- "message writer given a field outside its range or a code not listed"
abbrev pub field_wrong : ℕ
field_wrong = 5

-- "fresh start with address FFFF"
abbrev pub start_wrong : ℕ
start_wrong = 6

-- "state handed in is unsound"
abbrev pub state_unsound : ℕ
state_unsound = 7

-- "plan book is not 3,840 octets"
abbrev pub book_wrong : ℕ
book_wrong = 8

-- "output too short"
abbrev pub output_short : ℕ
output_short = 9

-- "code not handled"
abbrev pub code_not_handled : ℕ
code_not_handled = 10

-- "INFO length wrong for its code"
abbrev pub info_length_wrong : ℕ
info_length_wrong = 11

-- "field out of range"
abbrev pub out_of_range : ℕ
out_of_range = 12

-- "plan not set, or not ready"
abbrev pub not_ready : ℕ
not_ready = 13

-- "fields disagree"
abbrev pub disagree : ℕ
disagree = 14

-- 02, E6: "15 (sender busy)"
abbrev pub sender_busy : ℕ
sender_busy = 15

-- "17 (T outside 1 to 60), at the start only"
abbrev pub wait_wrong : ℕ
wait_wrong = 17

-- Each has the number of its row in 01's table, or 02's: no statement that names one can mean another.
abbrev pub RefusalsAsSaid : Type 0
RefusalsAsSaid =
    (none ≡ 0) × (cks_wrong ≡ 1) × (closing_wrong ≡ 2) × (len_wrong ≡ 3) × (info_wrong ≡ 4) × (field_wrong ≡ 5) × (start_wrong ≡ 6) × (state_unsound ≡ 7)
    × (book_wrong ≡ 8) × (output_short ≡ 9) × (code_not_handled ≡ 10) × (info_length_wrong ≡ 11) × (out_of_range ≡ 12) × (not_ready ≡ 13) × (disagree ≡ 14)
    × (sender_busy ≡ 15) × (wait_wrong ≡ 17)
