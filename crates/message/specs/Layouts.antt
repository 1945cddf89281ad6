-- 01, "Messages": the layout of each code.
--
-- | Code | Fields |
-- |---|---|
-- | 0F 80 | code(2) |
-- | 0F 81 | code(2), error number, parameter number |
-- | 5F 14 set, 5F C4 report | plan, count k, then k times: minimum green, maximum green(2), yellow, all-red, walk flash, red man |
-- | 5F 15 set, 5F C5 and 5F C8 report | plan, direct, phase order, count k, k greens(2), cycle(2), offset(2) |
-- | 5F 18 run | plan |
-- | 5F 44, 5F 45 query | plan |
-- | 5F 48 query running plan | none |
use Rattle.std.specs.Prelude.{ℕ, zero, suc, ◌+◌, Bool, List, [], ◌∷◌, ◌++◌, eqb, ltb, leb, length, get_or}
use Rattle.octets.specs.Choice.{both}
use Rattle.octets.specs.First.{first_of}
use Rattle.message.specs.Fields as field
use Rattle.message.specs.declared.layout.Field.{Field}

pub record Layout : Type 0 where
  pub code : ℕ
  -- the fields before those that come k times, those, and the fields after them
  pub head : List Field
  pub group : List Field
  pub tail : List Field
  -- the number of the field that is the count k, and 0 where no field is
  pub count : ℕ
  -- the least and the greatest k
  pub fewest : ℕ
  pub most : ℕ

-- no field is repeated
abbrev pub plain : ℕ → List Field → Layout
plain c h = record { code = c; head = h; group = []; tail = []; count = 0; fewest = 0; most = 0 }

-- the last field of the head is the count
abbrev pub counted : ℕ → List Field → List Field → List Field → Layout
counted c h g t = record { code = c; head = h; group = g; tail = t; count = length h; fewest = field.k_fewest; most = field.k_most }

-- a part of a record in the plan book, whose count stands elsewhere in the record
abbrev pub stored : List Field → List Field → List Field → Layout
stored h g t = record { code = 0; head = h; group = g; tail = t; count = 0; fewest = field.k_fewest; most = field.k_most }

abbrev pub times : List Field
times = field.minimum ∷ field.maximum ∷ field.yellow ∷ field.all_red ∷ field.walk_flash ∷ field.red_man ∷ []

abbrev pub greens : List Field
greens = field.green ∷ []

abbrev pub cycle_offset : List Field
cycle_offset = field.cycle ∷ field.offset ∷ []

abbrev pub no_layout : Layout
no_layout = plain 0 []

unfoldable pub layouts : List Layout
layouts =
    no_layout  -- 0: a code that is not listed
    ∷ plain 0x0F80 (field.code ∷ [])  -- 1
    ∷ plain 0x0F81 (field.code ∷ field.error_number ∷ field.parameter_number ∷ [])  -- 2
    ∷ counted 0x5F14 (field.plan_set ∷ field.count ∷ []) times []  -- 3
    ∷ counted 0x5FC4 (field.plan ∷ field.count ∷ []) times []  -- 4
    ∷ counted 0x5F15 (field.plan_set ∷ field.direct ∷ field.order ∷ field.count ∷ []) greens cycle_offset  -- 5
    ∷ counted 0x5FC5 (field.plan ∷ field.direct ∷ field.order ∷ field.count ∷ []) greens cycle_offset  -- 6
    ∷ counted 0x5FC8 (field.plan ∷ field.direct ∷ field.order ∷ field.count ∷ []) greens cycle_offset  -- 7
    ∷ plain 0x5F18 (field.plan ∷ [])  -- 8
    ∷ plain 0x5F44 (field.plan ∷ [])  -- 9
    ∷ plain 0x5F45 (field.plan ∷ [])  -- 10
    ∷ plain 0x5F48 []  -- 11
    ∷ stored [] times []  -- 12: "the 7k octets of 5F 14"
    ∷ stored (field.direct ∷ field.order ∷ []) greens cycle_offset  -- 13: "if ready direct, order, 2k green octets, cycle, offset"
    ∷ []

-- how many have a code: numbers 1 to 11
abbrev pub codes : ℕ
codes = 11

abbrev pub stored_times : ℕ
stored_times = 12

abbrev pub stored_plan : ℕ
stored_plan = 13

unfoldable pub layout_at : ℕ → Layout
layout_at l = get_or layouts l no_layout

-- is there a layout of this number? 0 is that of no code
unfoldable pub known : ℕ → Bool
known l = both (leb 1 l) (ltb l (length layouts))

-- the number of a code's layout, and 0 where the code is not listed
unfoldable pub number_of : ℕ → ℕ
number_of c = first_of (λ j. eqb (layout_at (j + 1)).code c) 0 codes

abbrev pub repeated : ℕ → List Field → List Field
repeated zero g = []
repeated (suc k) g = g ++ repeated k g

-- the fields of a layout for k, left to right
unfoldable pub layout_rows : Layout → ℕ → List Field
layout_rows l k = l.head ++ (repeated k l.group ++ l.tail)

-- "k is 1 to 8"
abbrev pub k_fits : Layout → ℕ → Bool
k_fits l k = both (leb l.fewest k) (leb k l.most)

-- the same by a layout's number
unfoldable pub rows_at : ℕ → ℕ → List Field
rows_at l k = layout_rows (layout_at l) k

abbrev pub most_at : ℕ → ℕ
most_at l = (layout_at l).most
