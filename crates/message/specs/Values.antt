-- 01, "Messages": values from octets and octets from values, over any layout.
-- "Fields are numbered from 1 after the code, two octets as one field."
use Rattle.std.specs.Prelude.{ℕ, zero, suc, ◌+◌, ◌-◌, Bool, not, List, [], ◌∷◌, ◌++◌, length, get_or, take, drop, replicate}
use Rattle.octets.specs.First.{first_of}
use Rattle.message.specs.Fields.{two_of, width_of, value_of, field_octets, passes, no_field}
use Rattle.message.specs.declared.layout.Field.{Field}

-- the most fields that a message has: 5F 14 and 5F C4 with eight phases
abbrev pub fields_most : ℕ
fields_most = 50

-- how many octets the fields have
abbrev pub size_of : List Field → ℕ
size_of [] = 0
size_of (f ∷ fs) = width_of (two_of f) + size_of fs

-- where the field at place i, from 0, starts: after the octets of all before it
abbrev pub field_start : List Field → ℕ → ℕ
field_start fs i = size_of (take i fs)

-- the fields' values, left to right
abbrev pub values_of : List Field → List ℕ → List ℕ
values_of [] os = []
values_of (f ∷ fs) os = value_of (two_of f) os ∷ values_of fs (drop (width_of (two_of f)) os)

-- the values' octets, left to right
abbrev pub octets_of : List Field → List ℕ → List ℕ
octets_of [] vs = []
octets_of (f ∷ fs) vs = field_octets (two_of f) (get_or vs 0 0) ++ octets_of fs (drop 1 vs)

unfoldable pub zeros : List ℕ
zeros = replicate fields_most 0

-- the values in a message's places, and 0 in those past the last
unfoldable pub placed : List ℕ → List ℕ
placed vs = vs ++ replicate (fields_most - length vs) 0

-- the value of field number n; there is no number 0
abbrev pub numbered : List ℕ → ℕ → ℕ
numbered vs zero = 0
numbered vs (suc n) = get_or vs n 0

-- is the value at place j out of its field's range?
abbrev pub out_at : List Field → List ℕ → ℕ → Bool
out_at fs vs j = not (passes (get_or fs j no_field) (get_or vs j 0))

-- "The search over fields stops at the first that fails and yields its number", and 0 where none fails
unfoldable pub first_out : List Field → List ℕ → ℕ
first_out fs vs = first_of (out_at fs vs) 0 fields_most
