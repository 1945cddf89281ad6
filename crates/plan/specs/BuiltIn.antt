-- 01, "Plan book", and 02, E1: plan 0.
--
-- "Plan 0 is built in and cannot be set: each phase 25 green, 3 yellow, 2 all-red, 5 walk flash, 2 red man, minimum 10, maximum
-- 90; cycle 60, offset, direct and order 0; its record is a ready one."
--
-- "Roads teaching wants plan 0 with green 35 in each phase and cycle 80, the rest as before .. A start call that names the old
-- built-in plan stays"
use Rattle.std.specs.Prelude.{ℕ, ◌-◌, ◌<◌, ◌≡◌, List, [], ◌∷◌, ◌++◌, length, take, drop, replicate}
use Rattle.record.specs.Record.{record_len, ready, state_of, k_of, minimum_of, maximum_of, yellow_of, all_red_of, walk_flash_of, red_man_of, direct_of, order_of, green_of, cycle_of, offset_of, Ready}
use Rattle.plan.specs.declared.Which.{Which}
use Rattle.plan.specs.declared.Which.TheVariants.{New, Old}

-- "the rest zero"
unfoldable pub padded : List ℕ → List ℕ
padded os = os ++ replicate (record_len - length os) 0

-- the times of each phase, the same in both
abbrev pub built_in_times : List ℕ
built_in_times = 10 ∷ 0 ∷ 90 ∷ 3 ∷ 2 ∷ 5 ∷ 2 ∷ []

-- "green 35 in each phase and cycle 80"; "each phase 25 green .. cycle 60"
abbrev pub built_in_green : Which → ℕ
built_in_green New = 35
built_in_green Old = 25

abbrev pub built_in_cycle : Which → ℕ
built_in_cycle New = 80
built_in_cycle Old = 60

-- direct, order, both greens, cycle, offset
abbrev pub built_in_plan : Which → List ℕ
built_in_plan which = 0 ∷ 0 ∷ 0 ∷ built_in_green which ∷ 0 ∷ built_in_green which ∷ 0 ∷ built_in_cycle which ∷ 0 ∷ 0 ∷ []

unfoldable pub built_in : Which → List ℕ
built_in which = padded (ready ∷ 2 ∷ (built_in_times ++ (built_in_times ++ built_in_plan which)))

-- What it is, by 01's words and with this green.
pub record PhaseSays (green₀ : ℕ) (rec : List ℕ) (i : ℕ) : Type 0 where
  pub green : green_of rec i ≡ green₀
  pub yellow : yellow_of rec i ≡ 3
  pub all_red : all_red_of rec i ≡ 2
  pub walk_flash : walk_flash_of rec i ≡ 5
  pub red_man : red_man_of rec i ≡ 2
  pub minimum : minimum_of rec i ≡ 10
  pub maximum : maximum_of rec i ≡ 90

-- and its 80 octets with this green and this cycle: 02, two phases, the times of each, direct and order, both greens, cycle, offset,
-- the rest zero
pub record PlanZero (green₀ cycle₀ : ℕ) (rec : List ℕ) : Type 0 where
  pub stands : Ready rec
  pub octets : rec
      ≡ (2 ∷ 2 ∷ 10 ∷ 0 ∷ 90 ∷ 3 ∷ 2 ∷ 5 ∷ 2 ∷ 10 ∷ 0 ∷ 90 ∷ 3 ∷ 2 ∷ 5 ∷ 2 ∷ 0 ∷ 0 ∷ 0 ∷ green₀ ∷ 0 ∷ green₀ ∷ 0 ∷ cycle₀ ∷ 0 ∷ 0 ∷ []) ++ replicate 54 0
  pub state : state_of rec ≡ 0x02
  pub count : k_of rec ≡ 2
  pub each : (i : ℕ) → i < k_of rec → PhaseSays green₀ rec i
  pub cycle : cycle_of rec ≡ cycle₀
  pub offset : offset_of rec ≡ 0
  pub direct : direct_of rec ≡ 0
  pub order : order_of rec ≡ 0

-- "green 35 in each phase and cycle 80"; the old one "25 green", "cycle 60"
abbrev pub BuiltInIsSo : Type 0
BuiltInIsSo = PlanZero 35 80 (built_in New) × PlanZero 25 60 (built_in Old)

-- "the rest as before": of the 80 octets only numbers 18 to 23, counted from 0, differ, which are both greens and the cycle
pub record RestAsBefore (new old : List ℕ) : Type 0 where
  pub before : take 18 new ≡ take 18 old
  pub behind : drop 24 new ≡ drop 24 old

abbrev pub BuiltInsDiffer : Type 0
BuiltInsDiffer = RestAsBefore (built_in New) (built_in Old)
