-- 01, "Plan book": what stands where in a record, by 01's numbers.
--
-- "Plan p, 1 to 48, has 80 octets from 80(p-1): state (00 empty, all else then zero; 01 times set, 02 ready), k, the 7k octets
-- of 5F 14, and if ready direct, order, 2k green octets, cycle, offset; the rest zero."
use Rattle.std.specs.Prelude.{ℕ, ◌+◌, ◌*◌, ◌-◌, ◌≤◌, ◌<◌, ◌≡◌, List, length, get_or, drop, replicate}
use Rattle.diagram.specs.Table.{phases_of}
use Rattle.record.specs.Record as kept

pub record EachState : Type 0 where
  pub octets : kept.record_len ≡ 80
  pub plans : kept.plans_most ≡ 48
  pub book : kept.book_len ≡ 3840
  pub empty_book : kept.empty_book ≡ replicate 3840 0
  pub empty : kept.empty ≡ 0x00
  pub times_set : kept.times_set ≡ 0x01
  pub ready : kept.ready ≡ 0x02

-- the number in the two octets from a place on, high octet first
abbrev pub word_from : List ℕ → ℕ → ℕ
word_from rec at = get_or rec at 0 * 256 + get_or rec (at + 1) 0

-- phases are counted from 0
pub record EachPlace (rec : List ℕ) (k : ℕ) : Type 0 where
  pub octet : (at : ℕ) → kept.octet_at rec at ≡ get_or rec at 0
  pub word : (at : ℕ) → kept.word_at rec at ≡ word_from rec at
  pub state : kept.state_of rec ≡ get_or rec 0 0
  pub count : kept.k_of rec ≡ k
  -- "the 7k octets of 5F 14"
  pub minimum : (i : ℕ) → kept.minimum_of rec i ≡ get_or rec (2 + 7 * i) 0
  pub maximum : (i : ℕ) → kept.maximum_of rec i ≡ word_from rec (3 + 7 * i)
  pub yellow : (i : ℕ) → kept.yellow_of rec i ≡ get_or rec (5 + 7 * i) 0
  pub all_red : (i : ℕ) → kept.all_red_of rec i ≡ get_or rec (6 + 7 * i) 0
  pub walk_flash : (i : ℕ) → kept.walk_flash_of rec i ≡ get_or rec (7 + 7 * i) 0
  pub red_man : (i : ℕ) → kept.red_man_of rec i ≡ get_or rec (8 + 7 * i) 0
  pub times_end : kept.times_end rec ≡ 2 + 7 * k
  -- "if ready direct, order, 2k green octets, cycle, offset"
  pub direct : kept.direct_of rec ≡ get_or rec (2 + 7 * k) 0
  pub order : kept.order_of rec ≡ get_or rec (3 + 7 * k) 0
  pub greens_at : kept.greens_at rec ≡ 4 + 7 * k
  pub green : (i : ℕ) → kept.green_of rec i ≡ word_from rec (4 + 7 * k + 2 * i)
  pub cycle : kept.cycle_of rec ≡ word_from rec (4 + 9 * k)
  pub offset : kept.offset_of rec ≡ word_from rec (6 + 9 * k)
  pub ready_end : kept.ready_end rec ≡ 8 + 9 * k
  -- "the sum of green, yellow and all-red", of no phase and of one more
  pub none : kept.sum_of rec 0 ≡ 0
  pub sum : (n : ℕ) → kept.sum_of rec (n + 1) ≡ kept.sum_of rec n + (word_from rec (4 + 7 * k + 2 * n) + get_or rec (5 + 7 * n) 0 + get_or rec (6 + 7 * n) 0)

-- What a record is, octet by octet, whatever stands in it; its second octet is k.
abbrev pub RecordAsSaid : Type 0
RecordAsSaid = EachState × ((rec : List ℕ) → EachPlace rec (get_or rec 1 0))

-- Which octets are a record, by the same numbers; k is the count.

-- x is `least` to `greatest`
abbrev pub Ranges : ℕ → ℕ → ℕ → Type 0
Ranges least x greatest = (least ≤ x) × (x ≤ greatest)

-- "minimum green 5 to 254, maximum 5 to 900, yellow 3 to 9, all-red 1 to 9, walk flash 0 to 90, red man 0 to 9"; "maximum at least
-- minimum"; "walk flash plus red man less than minimum"
pub record PhaseTimes (rec : List ℕ) (i : ℕ) : Type 0 where
  pub minimum : Ranges 5 (get_or rec (2 + 7 * i) 0) 254
  pub maximum : Ranges 5 (word_from rec (3 + 7 * i)) 900
  pub yellow : Ranges 3 (get_or rec (5 + 7 * i) 0) 9
  pub all_red : Ranges 1 (get_or rec (6 + 7 * i) 0) 9
  pub walk_flash : Ranges 0 (get_or rec (7 + 7 * i) 0) 90
  pub red_man : Ranges 0 (get_or rec (8 + 7 * i) 0) 9
  pub ordered : get_or rec (2 + 7 * i) 0 ≤ word_from rec (3 + 7 * i)
  pub walk : get_or rec (7 + 7 * i) 0 + get_or rec (8 + 7 * i) 0 < get_or rec (2 + 7 * i) 0

-- "k is 1 to 8", and the times of each phase
pub record TimesOfAll (rec : List ℕ) (k : ℕ) : Type 0 where
  pub count : Ranges 1 k 8
  pub phases : (i : ℕ) → i < k → PhaseTimes rec i

-- "direct 0 to 7"; the count equal "to the diagram's"; "each green within its phase's bounds"; "cycle equal to the sum of green, yellow
-- and all-red", at most 900; "offset below cycle"
pub record PlanOfAll (rec : List ℕ) (k : ℕ) : Type 0 where
  pub direct : Ranges 0 (get_or rec (2 + 7 * k) 0) 7
  pub diagram : k ≡ phases_of (get_or rec (3 + 7 * k) 0)
  pub green : (i : ℕ) → i < k → Ranges (get_or rec (2 + 7 * i) 0) (word_from rec (4 + 7 * k + 2 * i)) (word_from rec (3 + 7 * i))
  pub cycle : word_from rec (4 + 9 * k) ≡ kept.sum_of rec k
  pub most : word_from rec (4 + 9 * k) ≤ 900
  pub offset : word_from rec (6 + 9 * k) < word_from rec (4 + 9 * k)

-- "01 times set": 80 octets, nothing behind the times
pub record SetOctets (rec : List ℕ) (k : ℕ) : Type 0 where
  pub long : length rec ≡ 80
  pub state : get_or rec 0 0 ≡ 0x01
  pub times : TimesOfAll rec k
  pub rest : drop (2 + 7 * k) rec ≡ replicate (78 - 7 * k) 0

-- "02 ready": 80 octets, nothing behind the offset
pub record ReadyOctets (rec : List ℕ) (k : ℕ) : Type 0 where
  pub long : length rec ≡ 80
  pub state : get_or rec 0 0 ≡ 0x02
  pub times : TimesOfAll rec k
  pub plan : PlanOfAll rec k
  pub rest : drop (8 + 9 * k) rec ≡ replicate (72 - 9 * k) 0

-- Just these are such records; and of any octets just these are times that fit, and numbers within bounds.
pub record EachRecord (rec : List ℕ) (k : ℕ) : Type 0 where
  pub within : (l x m : ℕ) → (kept.Within l x m → Ranges l x m) × (Ranges l x m → kept.Within l x m)
  pub phase : (i : ℕ) → (kept.TimesFit rec i → PhaseTimes rec i) × (PhaseTimes rec i → kept.TimesFit rec i)
  pub times : (kept.AllTimesFit rec → TimesOfAll rec k) × (TimesOfAll rec k → kept.AllTimesFit rec)
  pub empty : (kept.Empty rec → rec ≡ replicate 80 0) × (rec ≡ replicate 80 0 → kept.Empty rec)
  pub times_set : (kept.TimesSet rec → SetOctets rec k) × (SetOctets rec k → kept.TimesSet rec)
  pub ready : (kept.Ready rec → ReadyOctets rec k) × (ReadyOctets rec k → kept.Ready rec)

abbrev pub RecordsAsSaid : Type 0
RecordsAsSaid = (rec : List ℕ) → EachRecord rec (get_or rec 1 0)
