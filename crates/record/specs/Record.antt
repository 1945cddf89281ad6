-- 01, "Plan book": the record of a plan.
--
-- "Plan p, 1 to 48, has 80 octets from 80(p-1): state (00 empty, all else then zero; 01 times set, 02 ready), k, the 7k octets
-- of 5F 14, and if ready direct, order, 2k green octets, cycle, offset; the rest zero. Octets that are not such a record, checks
-- included, read as empty."
use Rattle.std.specs.Prelude.{ℕ, zero, suc, ◌+◌, ◌*◌, ◌-◌, ◌≤◌, ◌<◌, ◌≡◌, List, length, drop, replicate}
pub use Rattle.octets.specs.Octet.{octet_at}
pub use Rattle.octets.specs.Word.{word_at}
use Rattle.diagram.specs.Table.{phases_of}

abbrev pub record_len : ℕ
record_len = 80

abbrev pub plans_most : ℕ
plans_most = 48

abbrev pub book_len : ℕ
book_len = record_len * plans_most

-- a book whose plans are all empty
abbrev pub empty_book : List ℕ
empty_book = replicate book_len 0

-- Where what stands in a record

-- "state (00 empty ..; 01 times set, 02 ready)"
abbrev pub empty : ℕ
empty = 0

abbrev pub times_set : ℕ
times_set = 1

abbrev pub ready : ℕ
ready = 2

abbrev pub state_of : List ℕ → ℕ
state_of rec = octet_at rec 0

abbrev pub k_of : List ℕ → ℕ
k_of rec = octet_at rec 1

-- "the 7k octets of 5F 14": minimum green, maximum green(2), yellow, all-red, walk flash, red man. Phases are counted from 0 here.
abbrev pub times_at : ℕ → ℕ
times_at i = 2 + 7 * i

abbrev pub minimum_of : List ℕ → ℕ → ℕ
minimum_of rec i = octet_at rec (times_at i)

abbrev pub maximum_of : List ℕ → ℕ → ℕ
maximum_of rec i = word_at rec (times_at i + 1)

abbrev pub yellow_of : List ℕ → ℕ → ℕ
yellow_of rec i = octet_at rec (times_at i + 3)

abbrev pub all_red_of : List ℕ → ℕ → ℕ
all_red_of rec i = octet_at rec (times_at i + 4)

abbrev pub walk_flash_of : List ℕ → ℕ → ℕ
walk_flash_of rec i = octet_at rec (times_at i + 5)

abbrev pub red_man_of : List ℕ → ℕ → ℕ
red_man_of rec i = octet_at rec (times_at i + 6)

-- "if ready direct, order, 2k green octets, cycle, offset"
abbrev pub direct_of : List ℕ → ℕ
direct_of rec = octet_at rec (times_at (k_of rec))

abbrev pub order_of : List ℕ → ℕ
order_of rec = octet_at rec (times_at (k_of rec) + 1)

abbrev pub greens_at : List ℕ → ℕ
greens_at rec = times_at (k_of rec) + 2

abbrev pub green_of : List ℕ → ℕ → ℕ
green_of rec i = word_at rec (greens_at rec + 2 * i)

abbrev pub cycle_of : List ℕ → ℕ
cycle_of rec = word_at rec (greens_at rec + 2 * k_of rec)

abbrev pub offset_of : List ℕ → ℕ
offset_of rec = word_at rec (greens_at rec + 2 * k_of rec + 2)

-- where the times end, and where the greens, cycle and offset do
abbrev pub times_end : List ℕ → ℕ
times_end rec = times_at (k_of rec)

abbrev pub ready_end : List ℕ → ℕ
ready_end rec = greens_at rec + 2 * k_of rec + 4

-- What a well-formed record is

-- x is at least l and at most m
pub record Within (l x m : ℕ) : Type 0 where
  pub least : l ≤ x
  pub most : x ≤ m

-- a phase's times: the ranges of 5F 14, "maximum at least minimum", "walk flash plus red man less than minimum"
pub record TimesFit (rec : List ℕ) (i : ℕ) : Type 0 where
  pub minimum : Within 5 (minimum_of rec i) 254
  pub maximum : Within 5 (maximum_of rec i) 900
  pub yellow : Within 3 (yellow_of rec i) 9
  pub all_red : Within 1 (all_red_of rec i) 9
  pub walk_flash : Within 0 (walk_flash_of rec i) 90
  pub red_man : Within 0 (red_man_of rec i) 9
  pub ordered : minimum_of rec i ≤ maximum_of rec i
  pub walk : walk_flash_of rec i + red_man_of rec i < minimum_of rec i

-- the seconds of a phase, and of the first n: "the sum of green, yellow and all-red"
abbrev pub phase_seconds : List ℕ → ℕ → ℕ
phase_seconds rec i = green_of rec i + yellow_of rec i + all_red_of rec i

abbrev pub sum_of : List ℕ → ℕ → ℕ
sum_of rec zero = 0
sum_of rec (suc n) = sum_of rec n + phase_seconds rec n

-- the times of all phases, and nothing else from a place on
pub record AllTimesFit (rec : List ℕ) : Type 0 where
  pub count : Within 1 (k_of rec) 8
  pub phases : (i : ℕ) → i < k_of rec → TimesFit rec i

abbrev pub ZeroFrom : List ℕ → ℕ → Type 0
ZeroFrom rec at = drop at rec ≡ replicate (record_len - at) 0

-- "each green within its phase's bounds"
abbrev pub GreensWithin : List ℕ → Type 0
GreensWithin rec = (i : ℕ) → i < k_of rec → Within (minimum_of rec i) (green_of rec i) (maximum_of rec i)

-- direct, order, greens, cycle and offset: the ranges of 5F 15 and its agreement with the times and with the diagram
pub record GreensFit (rec : List ℕ) : Type 0 where
  pub direct : Within 0 (direct_of rec) 7
  pub count : k_of rec ≡ phases_of (order_of rec)
  pub green : GreensWithin rec
  pub cycle : cycle_of rec ≡ sum_of rec (k_of rec)
  pub most : cycle_of rec ≤ 900
  pub offset : offset_of rec < cycle_of rec

-- The three records that there are.

pub record Empty (rec : List ℕ) : Type 0 where
  pub zero : rec ≡ replicate record_len 0

pub record TimesSet (rec : List ℕ) : Type 0 where
  pub long : length rec ≡ record_len
  pub state : state_of rec ≡ times_set
  pub times : AllTimesFit rec
  pub rest : ZeroFrom rec (times_end rec)

pub record Ready (rec : List ℕ) : Type 0 where
  pub long : length rec ≡ record_len
  pub state : state_of rec ≡ ready
  pub times : AllTimesFit rec
  pub greens : GreensFit rec
  pub rest : ZeroFrom rec (ready_end rec)
