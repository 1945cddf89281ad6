-- 01's numbers under the names that the promises of the plan book use: "Plan p, 1 to 48, has 80 octets from 80(p-1)", and the codes and
-- fields of the two sets and the three reports.
use Rattle.std.specs.Prelude.{ℕ, ◌+◌, ◌*◌, ◌-◌, ◌≡◌, List, get_or, take, drop}
use Rattle.record.specs.Record.{record_len, book_len, plans_most, empty, times_set, ready}
use Rattle.plan.specs.Reading.{record_start, record_at}
use Rattle.plan.specs.Setting.{plan_in, count_in, set_times_code, set_plan_code}
use Rattle.plan.specs.Reporting.{report_times_code, report_plan_code, report_running_code}
use Rattle.plan.specs.Promises.{direct_in, order_in, green_in, cycle_in, offset_in}

-- where what stands in the octets after the code of a 5F 15: "plan, direct, phase order, count k, k greens(2), cycle(2), offset(2)"; the
-- plan of a 5F 14 stands there too
pub record BodyPlaces (body : List ℕ) : Type 0 where
  pub plan : plan_in body ≡ get_or body 0 0
  pub direct : direct_in body ≡ get_or body 1 0
  pub order : order_in body ≡ get_or body 2 0
  pub count : count_in body ≡ get_or body 3 0
  pub green : (i : ℕ) → green_in body i ≡ get_or body (4 + 2 * i) 0 * 256 + get_or body (4 + 2 * i + 1) 0
  pub cycle : cycle_in body ≡ get_or body (4 + 2 * count_in body) 0 * 256 + get_or body (4 + 2 * count_in body + 1) 0
  pub offset : offset_in body ≡ get_or body (4 + 2 * count_in body + 2) 0 * 256 + get_or body (4 + 2 * count_in body + 2 + 1) 0

pub record NumbersOfBook : Type 0 where
  -- "3,840 octets", "80 octets", "1 to 48"
  pub book_octets : book_len ≡ 3840
  pub record_octets : record_len ≡ 80
  pub plans : plans_most ≡ 48
  -- "from 80(p-1)"
  pub start : (p : ℕ) → record_start p ≡ 80 * (p - 1)
  pub stands : (book : List ℕ) (p : ℕ) → record_at book p ≡ take 80 (drop (80 * (p - 1)) book)
  -- "00 empty .., 01 times set, 02 ready"
  pub states : (empty ≡ 0x00) × (times_set ≡ 0x01) × (ready ≡ 0x02)
  -- "5F 14 set, 5F C4 report", "5F 15 set, 5F C5 and 5F C8 report"
  pub sets : (set_times_code ≡ 0x5F14) × (set_plan_code ≡ 0x5F15)
  pub reports : (report_times_code ≡ 0x5FC4) × (report_plan_code ≡ 0x5FC5) × (report_running_code ≡ 0x5FC8)
  pub bodies : (body : List ℕ) → BodyPlaces body

abbrev pub BookNumbers : Type 0
BookNumbers = NumbersOfBook
