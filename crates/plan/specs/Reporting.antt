-- 01, "Messages": what the reports 5F C4, 5F C5 and 5F C8 hold, worked out from a record.
use Rattle.std.specs.Prelude.{ℕ, Bool, ◌||◌, List, ◌∷◌, eqb}
use Rattle.octets.specs.Choice.{pick, both}
use Rattle.octets.specs.Word.{high_of, low_of}
use Rattle.message.specs.declared.Message.{Message}
use Rattle.message.specs.Reader.{no_message, read_of}
use Rattle.record.specs.Record.{empty, ready, k_of, times_end, greens_at, ready_end, direct_of, order_of}
use Rattle.checks.specs.Standing.{between, standing_of}

abbrev pub report_times_code : ℕ
report_times_code = 0x5FC4

abbrev pub report_plan_code : ℕ
report_plan_code = 0x5FC5

abbrev pub report_running_code : ℕ
report_running_code = 0x5FC8

-- "plan, count k, then k times ..": the code, the plan, and the record's octets from its count to the end of its times
unfoldable pub times_info : List ℕ → ℕ → List ℕ
times_info rec p = high_of report_times_code ∷ low_of report_times_code ∷ p ∷ between 1 (times_end rec) rec

-- "plan, direct, phase order, count k, k greens(2), cycle(2), offset(2)"
unfoldable pub plan_info : List ℕ → ℕ → ℕ → List ℕ
plan_info rec p code = high_of code ∷ low_of code ∷ p ∷ direct_of rec ∷ order_of rec ∷ k_of rec ∷ between (greens_at rec) (ready_end rec) rec

-- "Octets that are not such a record, checks included, read as empty.": an empty plan has no times to report
unfoldable pub report_times_of : List ℕ → ℕ → Message
report_times_of rec p = pick (eqb (standing_of rec) empty) no_message (read_of (times_info rec p)).message

-- "5F C5 and 5F C8 report"
abbrev pub reports_plan : ℕ → Bool
reports_plan code = eqb code report_plan_code || eqb code report_running_code

-- of a ready plan alone
unfoldable pub report_plan_of : List ℕ → ℕ → ℕ → Message
report_plan_of rec p code = pick (both (eqb (standing_of rec) ready) (reports_plan code)) (read_of (plan_info rec p code)).message no_message
