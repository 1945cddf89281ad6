-- 01, "Messages": what a report holds, field by field, for every plan that has one.
--
-- | 5F C4 | plan, count k, then k times: minimum green, maximum green(2), yellow, all-red, walk flash, red man |
-- | 5F C5 and 5F C8 | plan, direct, phase order, count k, k greens(2), cycle(2), offset(2) |
--
-- Each is said twice: of its octets, by their places from 0, and of the message, by the numbers of its fields from 1.
use Rattle.std.specs.Prelude.{ℕ, ◌+◌, ◌*◌, ◌-◌, ◌≤◌, ◌<◌, ◌≡◌, List, length, get_or}
use Rattle.octets.specs.Octet.{Octets}
use Rattle.message.specs.declared.Message.{Message}
use Rattle.record.specs.Record.{k_of, minimum_of, maximum_of, yellow_of, all_red_of, walk_flash_of, red_man_of, direct_of, order_of, green_of, cycle_of, offset_of, Ready}
use Rattle.plan.specs.Reporting.{times_info, plan_info, report_times_of, report_plan_of}
use Rattle.plan.specs.Promises.{HasTimes}

-- two octets of INFO as one number, high octet first
abbrev pub two_at : List ℕ → ℕ → ℕ
two_at info at = get_or info at 0 * 256 + get_or info (at + 1) 0

-- the value of a message's field of this number
abbrev pub value_at : Message → ℕ → ℕ
value_at m n = get_or m.values (n - 1) 0

-- 5F C4

-- the seven octets of phase i, from 0: octet 4 is the first phase's minimum
pub record PhaseInInfo (rec info : List ℕ) (i : ℕ) : Type 0 where
  pub minimum : get_or info (4 + 7 * i) 0 ≡ minimum_of rec i
  pub maximum : two_at info (5 + 7 * i) ≡ maximum_of rec i
  pub yellow : get_or info (7 + 7 * i) 0 ≡ yellow_of rec i
  pub all_red : get_or info (8 + 7 * i) 0 ≡ all_red_of rec i
  pub walk_flash : get_or info (9 + 7 * i) 0 ≡ walk_flash_of rec i
  pub red_man : get_or info (10 + 7 * i) 0 ≡ red_man_of rec i

-- its six fields: field 3 is the first phase's minimum
pub record PhaseInMessage (rec : List ℕ) (m : Message) (i : ℕ) : Type 0 where
  pub minimum : value_at m (3 + 6 * i) ≡ minimum_of rec i
  pub maximum : value_at m (4 + 6 * i) ≡ maximum_of rec i
  pub yellow : value_at m (5 + 6 * i) ≡ yellow_of rec i
  pub all_red : value_at m (6 + 6 * i) ≡ all_red_of rec i
  pub walk_flash : value_at m (7 + 6 * i) ≡ walk_flash_of rec i
  pub red_man : value_at m (8 + 6 * i) ≡ red_man_of rec i

pub record TimesInInfo (rec : List ℕ) (p : ℕ) (info : List ℕ) : Type 0 where
  pub long : length info ≡ 4 + 7 * k_of rec
  pub code : (get_or info 0 0 ≡ 0x5F) × (get_or info 1 0 ≡ 0xC4)
  pub plan : get_or info 2 0 ≡ p
  pub count : get_or info 3 0 ≡ k_of rec
  pub phase : (i : ℕ) → i < k_of rec → PhaseInInfo rec info i

pub record TimesInMessage (rec : List ℕ) (p : ℕ) (m : Message) : Type 0 where
  pub code : m.code ≡ 0x5FC4
  pub many : m.fields ≡ 2 + 6 * k_of rec
  pub plan : value_at m 1 ≡ p
  pub count : value_at m 2 ≡ k_of rec
  pub phase : (i : ℕ) → i < k_of rec → PhaseInMessage rec m i
  pub rest : (n : ℕ) → 2 + 6 * k_of rec < n → value_at m n ≡ 0

pub record TimesHeld (rec : List ℕ) (p : ℕ) : Type 0 where
  pub octets : TimesInInfo rec p (times_info rec p)
  pub fields : TimesInMessage rec p (report_times_of rec p)

-- Every record with times, ready ones too, has them in its 5F C4.
abbrev pub TimesReportedByFields : Type 0
TimesReportedByFields = (rec : List ℕ) (p : ℕ) → Octets rec → HasTimes rec → p ≤ 48 → TimesHeld rec p

-- 5F C5 and 5F C8

-- by the second octet of the code
pub record PlanInInfo (rec : List ℕ) (p low : ℕ) (info : List ℕ) : Type 0 where
  pub long : length info ≡ 10 + 2 * k_of rec
  pub code : (get_or info 0 0 ≡ 0x5F) × (get_or info 1 0 ≡ low)
  pub plan : get_or info 2 0 ≡ p
  pub direct : get_or info 3 0 ≡ direct_of rec
  pub order : get_or info 4 0 ≡ order_of rec
  pub count : get_or info 5 0 ≡ k_of rec
  pub green : (i : ℕ) → i < k_of rec → two_at info (6 + 2 * i) ≡ green_of rec i
  pub cycle : two_at info (6 + 2 * k_of rec) ≡ cycle_of rec
  pub offset : two_at info (8 + 2 * k_of rec) ≡ offset_of rec

pub record PlanInMessage (rec : List ℕ) (p c : ℕ) (m : Message) : Type 0 where
  pub code : m.code ≡ c
  pub many : m.fields ≡ 6 + k_of rec
  pub plan : value_at m 1 ≡ p
  pub direct : value_at m 2 ≡ direct_of rec
  pub order : value_at m 3 ≡ order_of rec
  pub count : value_at m 4 ≡ k_of rec
  pub green : (i : ℕ) → i < k_of rec → value_at m (5 + i) ≡ green_of rec i
  pub cycle : value_at m (5 + k_of rec) ≡ cycle_of rec
  pub offset : value_at m (6 + k_of rec) ≡ offset_of rec
  pub rest : (n : ℕ) → 6 + k_of rec < n → value_at m n ≡ 0

-- "5F C5 and 5F C8 report"
pub record PlanHeld (rec : List ℕ) (p : ℕ) : Type 0 where
  pub octets : PlanInInfo rec p 0xC5 (plan_info rec p 0x5FC5)
  pub fields : PlanInMessage rec p 0x5FC5 (report_plan_of rec p 0x5FC5)
  pub running_octets : PlanInInfo rec p 0xC8 (plan_info rec p 0x5FC8)
  pub running_fields : PlanInMessage rec p 0x5FC8 (report_plan_of rec p 0x5FC8)

-- Every ready record has its greens, cycle and offset in its 5F C5 and 5F C8: plan 0's and the running copy among them.
abbrev pub PlanReportedByFields : Type 0
PlanReportedByFields = (rec : List ℕ) (p : ℕ) → Octets rec → Ready rec → p ≤ 48 → PlanHeld rec p
