-- 01, "Plan book": "Octets that are not such a record, checks included, read as empty." How a record stands, computed, and the
-- statements that say it is what specs/Record.antt says.
use Rattle.std.specs.Prelude.{ℕ, zero, suc, ◌+◌, ◌*◌, ◌-◌, ◌/◌, ◌%◌, ◌≤◌, ◌<◌, ◌≡◌, Bool, true, not, List, [], ◌∷◌, eqb, leb, ltb, length, take, drop, Option, None, Some}
use Rattle.octets.specs.Choice.{pick, both}
use Rattle.octets.specs.First.{First, first_of}
use Rattle.octets.specs.Octet.{Octets}
use Rattle.octets.specs.Refusal as refusal
use Rattle.diagram.specs.Table.{phases_of}
use Rattle.message.specs.Layouts.{stored_times, stored_plan}
use Rattle.message.specs.Reader.{read_part_of}
use Rattle.record.specs.Record.{record_len, empty, times_set, ready, state_of, k_of, times_end, ready_end, minimum_of, maximum_of, walk_flash_of, red_man_of, order_of, green_of, cycle_of, offset_of, sum_of, TimesSet, Ready}

-- state and k stand before the times
abbrev pub head_len : ℕ
head_len = 2

-- the octets from one place up to another
abbrev pub between : ℕ → ℕ → List ℕ → List ℕ
between from end os = take (end - from) (drop from os)

-- The agreement of the times, check by check, "phase by phase": of phase i, check 2i is "maximum at least minimum" and check
-- 2i + 1 "walk flash plus red man less than minimum". Does it fail?
abbrev pub times_fail : List ℕ → ℕ → Bool
times_fail rec c =
    pick (eqb (c % 2) 0) (ltb (maximum_of rec (c / 2)) (minimum_of rec (c / 2)))
    (leb (minimum_of rec (c / 2)) (walk_flash_of rec (c / 2) + red_man_of rec (c / 2)))

abbrev pub times_checks : List ℕ → ℕ
times_checks rec = 2 * k_of rec

-- the first that fails, from 1, and 0 where none does
unfoldable pub times_disagree : List ℕ → ℕ
times_disagree rec = first_of (times_fail rec) 0 (times_checks rec)

-- The agreement of the rest: check 0 is "count equal .. to the diagram's", then k times "each green within its phase's bounds",
-- "cycle equal to the sum of green, yellow and all-red", "offset below cycle".
abbrev pub green_fails : List ℕ → ℕ → Bool
green_fails rec i = pick (ltb (green_of rec i) (minimum_of rec i)) true (ltb (maximum_of rec i) (green_of rec i))

abbrev pub plan_fails : List ℕ → ℕ → Bool
plan_fails rec c =
    pick (eqb c 0) (not (eqb (k_of rec) (phases_of (order_of rec))))
    (pick (leb c (k_of rec)) (green_fails rec (c - 1))
    (pick (eqb c (k_of rec + 1)) (not (eqb (cycle_of rec) (sum_of rec (k_of rec))))
    (leb (cycle_of rec) (offset_of rec))))

abbrev pub plan_checks : List ℕ → ℕ
plan_checks rec = k_of rec + 3

unfoldable pub plan_disagree : List ℕ → ℕ
plan_disagree rec = first_of (plan_fails rec) 0 (plan_checks rec)

-- the number of a check that fails, where one does
abbrev pub check_named : ℕ → Option ℕ
check_named zero = None
check_named (suc n) = Some (suc n)

-- the fields from one place up to another: all there, and each in its range by the message layer's own search
unfoldable pub ranged : ℕ → ℕ → ℕ → List ℕ → Bool
ranged layout from end rec = both (leb end (length rec)) (eqb (read_part_of layout (k_of rec) (between from end rec)).refusal refusal.none)

-- "the 7k octets of 5F 14"
unfoldable pub times_stand : List ℕ → Bool
times_stand rec = both (ranged stored_times head_len (times_end rec) rec) (eqb (times_disagree rec) 0)

-- "direct, order, 2k green octets, cycle, offset"
unfoldable pub plan_stands : List ℕ → Bool
plan_stands rec = both (ranged stored_plan (times_end rec) (ready_end rec) rec) (eqb (plan_disagree rec) 0)

-- "the rest zero"
unfoldable pub all_zero : List ℕ → Bool
all_zero [] = true
all_zero (x ∷ xs) = both (eqb x 0) (all_zero xs)

unfoldable pub ready_stands : List ℕ → Bool
ready_stands rec = both (plan_stands rec) (all_zero (drop (ready_end rec) rec))

-- The code judges check by check instead of reading the parts: it is told by a test whether what is said of the record holds.
pub record Tells (t : Bool) (P : Type 0) : Type 0 where
  pub holds : t ≡ true → P
  pub told : P → t ≡ true

-- 01 times set, 02 ready, and 00 where the octets are empty or no record
unfoldable pub standing_of : List ℕ → ℕ
standing_of rec =
    pick (both (eqb (length rec) record_len) (times_stand rec))
    (pick (eqb (state_of rec) times_set)
    (pick (all_zero (drop (times_end rec) rec)) times_set empty)
    (pick (eqb (state_of rec) ready)
    (pick (ready_stands rec) ready empty)
    empty))
    empty

-- What stands as ready is exactly a ready record, and what stands as times set exactly a record with the times set.
pub record Stands (rec : List ℕ) : Type 0 where
  pub ready_from : standing_of rec ≡ ready → Ready rec
  pub ready_to : Ready rec → standing_of rec ≡ ready
  pub times_from : standing_of rec ≡ times_set → TimesSet rec
  pub times_to : TimesSet rec → standing_of rec ≡ times_set
  pub most : standing_of rec ≤ ready

abbrev pub StandsAsItIs : Type 0
StandsAsItIs = (rec : List ℕ) → Octets rec → Stands rec

-- "Agreement, 5F 14, phase by phase: maximum at least minimum ..; walk flash plus red man less than minimum": of any octets the first of
-- these checks that fails is told, from 1, and 0 where none does
pub record TimesInOrder (rec : List ℕ) : Type 0 where
  pub maximum : (i : ℕ) → times_fail rec (2 * i) ≡ ltb (maximum_of rec i) (minimum_of rec i)
  pub red_man : (i : ℕ) → times_fail rec (2 * i + 1) ≡ leb (minimum_of rec i) (walk_flash_of rec i + red_man_of rec i)
  pub first : First (times_fail rec) (2 * k_of rec) (times_disagree rec)

-- "count equal .. to the diagram's ..; each green within its phase's bounds; cycle equal to the sum of green, yellow and all-red; offset
-- below cycle": likewise
pub record PlanInOrder (rec : List ℕ) : Type 0 where
  pub count : plan_fails rec 0 ≡ not (eqb (k_of rec) (phases_of (order_of rec)))
  pub green : (i : ℕ) → i < k_of rec → plan_fails rec (i + 1) ≡ pick (ltb (green_of rec i) (minimum_of rec i)) true (ltb (maximum_of rec i) (green_of rec i))
  pub cycle : plan_fails rec (k_of rec + 1) ≡ not (eqb (cycle_of rec) (sum_of rec (k_of rec)))
  pub offset : plan_fails rec (k_of rec + 2) ≡ leb (cycle_of rec) (offset_of rec)
  pub first : First (plan_fails rec) (k_of rec + 3) (plan_disagree rec)

abbrev pub ChecksInOrder : Type 0
ChecksInOrder = (rec : List ℕ) → TimesInOrder rec × PlanInOrder rec
