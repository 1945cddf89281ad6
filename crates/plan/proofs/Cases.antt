-- The cases, computed, and what the built-in records are.
use Prim.Native.Nat.{ℕ, zero, suc, ◌<◌}
use mathlib.Core.Path.{◌≡◌, refl}
use mathlib.Core.List.{◌∷◌, ◌++◌}
use native.Mathlib.Nat.{zero-add}
use native.Mathlib.Omega.{arith}
use lib.ListN.{replicate}
use Rattle.octets.specs.First.{first_of}
use Rattle.octets.specs.Octet.{Octets}
use Rattle.octets.proofs.Laws.{octets-append, octets-zero}
use Rattle.diagram.specs.Rows.{directory}
use Rattle.diagram.specs.Table.{find, diagram_of}
use Rattle.message.specs.Layouts.{layouts, layout_at, known, number_of, rows_at, layout_rows}
use Rattle.message.specs.Values.{zeros, placed, first_out}
use Rattle.message.specs.Reader.{no_message, not_read, part_of, ranged_of, read_part_of, read_of}
use Rattle.record.specs.Record.{ready, k_of}
use Rattle.checks.specs.Standing.{times_disagree, plan_disagree, ranged, times_stand, plan_stands, ready_stands, all_zero, standing_of}
use Rattle.plan.specs.declared.Which.{Which}
use Rattle.plan.specs.declared.Which.TheVariants.{New, Old}
use Rattle.plan.specs.BuiltIn.{padded, built_in_times, built_in_plan, built_in_green, built_in_cycle, built_in, PhaseSays, PlanZero, BuiltInIsSo, BuiltInsDiffer}
use Rattle.plan.specs.Setting.{not_made, times_record, ready_record, times_field, times_made, ready_made, kept_as, set_front, set_of}
use Rattle.plan.specs.Cases.{set_answers, due_set_answers, stands, due_stands, PlanCases, books_left, due_books_left, failed_times, due_failed_times, failed_plans, due_failed_plans, SetCases}
use Rattle.checks.proofs.Stands.{stands-as-it-is}

pub plan-cases : PlanCases
unfolding first_of find directory diagram_of layouts layout_at known number_of rows_at layout_rows zeros placed first_out no_message not_read part_of ranged_of read_part_of read_of times_disagree plan_disagree ranged times_stand plan_stands ready_stands all_zero standing_of padded not_made times_record ready_record times_field times_made ready_made kept_as set_front set_of set_answers due_set_answers stands due_stands
plan-cases = (refl, refl)

pub set_cases : SetCases
unfolding first_of find directory diagram_of layouts layout_at known number_of rows_at layout_rows zeros placed first_out no_message not_read part_of ranged_of read_part_of read_of times_disagree plan_disagree ranged times_stand plan_stands ready_stands all_zero standing_of padded not_made times_record ready_record times_field times_made ready_made kept_as set_front set_of books_left due_books_left failed_times due_failed_times failed_plans due_failed_plans
set_cases = (refl, refl, refl)

pub built-in-stands : (which : Which) → standing_of (built_in which) ≡ ready
unfolding first_of find directory diagram_of layouts layout_at known rows_at layout_rows zeros placed first_out no_message not_read part_of ranged_of read_part_of times_disagree plan_disagree ranged times_stand plan_stands ready_stands all_zero standing_of padded built_in
built-in-stands New = refl
built-in-stands Old = refl

pub octets-built-in : (which : Which) → Octets (built_in which)
unfolding padded built_in
octets-built-in New = octets-append (ready ∷ 2 ∷ (built_in_times ++ (built_in_times ++ built_in_plan New))) (replicate 54 0) (omega arith) (octets-zero 54)
octets-built-in Old = octets-append (ready ∷ 2 ∷ (built_in_times ++ (built_in_times ++ built_in_plan Old))) (replicate 54 0) (omega arith) (octets-zero 54)

plan-zero : (which : Which) → PlanZero (built_in_green which) (built_in_cycle which) (built_in which)
unfolding padded built_in
plan-zero which =
    record {
      stands = (stands-as-it-is (built_in which) (octets-built-in which)).ready_from (built-in-stands which);
      octets = refl;
      state = refl;
      count = refl;
      each = each;
      cycle = zero-add (built_in_cycle which);
      offset = refl;
      direct = refl;
      order = refl;
    }
  where
    each : (i : ℕ) → i < k_of (built_in which) → PhaseSays (built_in_green which) (built_in which) i
    each zero l = record { green = zero-add (built_in_green which); yellow = refl; all_red = refl; walk_flash = refl; red_man = refl; minimum = refl; maximum = refl }
    each (suc zero) l = record { green = zero-add (built_in_green which); yellow = refl; all_red = refl; walk_flash = refl; red_man = refl; minimum = refl; maximum = refl }
    each (suc (suc i)) l = absurd (omega arith)

pub built-in-is-so : BuiltInIsSo
built-in-is-so = (plan-zero New, plan-zero Old)

pub built-ins-differ : BuiltInsDiffer
unfolding padded built_in
built-ins-differ = record { before = refl; behind = refl }
