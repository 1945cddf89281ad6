-- 01, "Messages": the fields by name: the number of each. Phases are counted from 0.
use Rattle.std.specs.Prelude.{ℕ, ◌+◌, ◌*◌}

-- 0F 80 and 0F 81: the code that is answered; "error number, parameter number"
abbrev pub answered_at : ℕ
answered_at = 1

abbrev pub error_at : ℕ
error_at = 2

abbrev pub parameter_at : ℕ
parameter_at = 3

-- the others but 5F 48
abbrev pub plan_at : ℕ
plan_at = 1

-- 5F 14 and 5F C4: "plan, count k, then k times: minimum green, maximum green(2), yellow, all-red, walk flash, red man"
abbrev pub times_count_at : ℕ
times_count_at = 2

abbrev pub minimum_at : ℕ → ℕ
minimum_at i = 3 + 6 * i

abbrev pub maximum_at : ℕ → ℕ
maximum_at i = minimum_at i + 1

abbrev pub red_man_at : ℕ → ℕ
red_man_at i = minimum_at i + 5

-- 5F 15, 5F C5 and 5F C8: "plan, direct, phase order, count k, k greens(2), cycle(2), offset(2)"
abbrev pub direct_at : ℕ
direct_at = 2

abbrev pub order_at : ℕ
order_at = 3

abbrev pub plan_count_at : ℕ
plan_count_at = 4

abbrev pub green_at : ℕ → ℕ
green_at i = 5 + i

abbrev pub cycle_at : ℕ → ℕ
cycle_at k = 5 + k

abbrev pub offset_at : ℕ → ℕ
offset_at k = cycle_at k + 1
