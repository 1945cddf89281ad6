-- A ready record's cycle: the five steps of a phase make its green, yellow and all-red, and the phases make the cycle.
use Prim.Native.Nat.{ℕ, zero, suc, ◌+◌, ◌-◌, ◌≤◌, ◌<◌}
use mathlib.Core.Path.{◌≡◌, refl, sym, ap, ◌∙◌}
use mathlib.Core.List.{List}
use native.Mathlib.Omega.{arith}
use lib.ListN.{get_or}
use Rattle.diagram.specs.Table.{steps_aphase}
use Rattle.record.specs.Record.{Ready, k_of, order_of, green_of, yellow_of, all_red_of, walk_flash_of, red_man_of, phase_seconds, sum_of}
use Rattle.lamps.specs.declared.Row.{Row}
use Rattle.lamps.specs.Rows.{phase_table, steps_of_plan, seconds_of, row_of, rows_from, rows_of, row_at}
use Rattle.lamps.specs.Promises.{seconds_to, step_in, Stretch, GreenWhole, CycleLong, GreenShown, WholePhases}
use Rattle.lamps.proofs.Laws.{seconds-line, step_end, rows_all, rows-part, row_first, rows-stretch}

-- the seconds of the record's steps 1 to n, and the rows of n steps after t
abbrev up_to : List ℕ → ℕ → ℕ
up_to rec n = seconds_to (seconds_of rec) n

abbrev after : List ℕ → ℕ → ℕ → List Row
after rec t n = rows_from (seconds_of rec) (order_of rec) (t + 1) n

module _ (rec : List ℕ) (r : Ready rec) (i : ℕ) (h : i < k_of rec) where
  step-stretch : (j seconds : ℕ) → j < steps_aphase → seconds ≡ get_or (phase_table rec i) j 0
      → Stretch (order_of rec) (step_in i (j + 1)) (step_in i (j + 1)) seconds (after rec (step_in i j) 1)
  step-stretch j seconds l e =
      rows-stretch (seconds_of rec) (order_of rec) (step_in i j) 1 (step_in i (j + 1)) (step_in i (j + 1)) seconds (omega arith) (omega arith) (omega (arith, step_end rec i h j l))

  -- "walk flash plus red man less than minimum", and the green is at least that
  walk : walk_flash_of rec i + red_man_of rec i < green_of rec i
  walk = omega (arith, (r.times.phases i h).walk, (r.greens.green i h).least)

  green-end : up_to rec (step_in i 3) ≡ up_to rec (step_in i 0) + green_of rec i
  unfolding phase_table
  green-end = omega (arith, step_end rec i h 0 (omega arith), step_end rec i h 1 (omega arith), step_end rec i h 2 (omega arith), walk)

  phase-end : up_to rec (step_in i 5) ≡ up_to rec (step_in i 0) + phase_seconds rec i
  unfolding phase_table
  phase-end = omega (arith, green-end, step_end rec i h 3 (omega arith), step_end rec i h 4 (omega arith))

  green-whole : GreenWhole rec i (after rec (step_in i 0) 3)
  unfolding phase_table
  green-whole =
      record {
        before_flash = after rec (step_in i 0) 1;
        walk_flash = after rec (step_in i 1) 1;
        red_man = after rec (step_in i 2) 1;
        whole =
            rw (
              rows-part (seconds_of rec) (order_of rec) (step_in i 0) 1 2 (step_in i 1) (omega arith),
              rows-part (seconds_of rec) (order_of rec) (step_in i 1) 1 1 (step_in i 2) (omega arith),
            );
        full_before_flash = step-stretch 0 (green_of rec i - walk_flash_of rec i - red_man_of rec i) (omega arith) refl;
        full_walk_flash = step-stretch 1 (walk_flash_of rec i) (omega arith) refl;
        full_red_man = step-stretch 2 (red_man_of rec i) (omega arith) refl;
      }

phases-end : (rec : List ℕ) → Ready rec → (i : ℕ) → i ≤ k_of rec → up_to rec (step_in i 0) ≡ sum_of rec i
unfolding seconds_to
phases-end rec r zero h = refl
phases-end rec r (suc i) h =
    let e : step_in (suc i) 0 ≡ step_in i 5 = omega arith in
    omega (arith, ap (up_to rec) e, phases-end rec r i (omega arith), phase-end rec r i (omega arith))

pub cycle-long : CycleLong
unfolding rows_of
cycle-long rec r =
    let e : steps_of_plan rec ≡ step_in (k_of rec) 0 = omega arith in
    record {
      rows = rows_all (seconds_of rec) (order_of rec) (steps_of_plan rec) ∙ ap (up_to rec) e ∙ phases-end rec r (k_of rec) (omega arith) ∙ sym r.greens.cycle;
      least = omega (arith, r.greens.offset);
      most = r.greens.most;
    }

pub green-shown : GreenShown
unfolding row_at rows_of phase_table
green-shown rec i r h =
    let s : 1 ≤ seconds_of rec (step_in i 1) = omega (arith, seconds-line rec i h 0 (step_in i 1) (omega arith) refl, walk rec r i h) in
    let e : row_at rec (sum_of rec i) ≡ row_of (order_of rec) (step_in i 1) (seconds_of rec (step_in i 1)) =
    ap (row_at rec) (sym (phases-end rec r i (omega arith)))
    ∙ row_first (seconds_of rec) (order_of rec) (step_in i 0) (step_in i 1) (steps_of_plan rec) (omega arith) (omega arith) s in
    record { some = s; step = rw e; left = rw e; steady = rw e; flashing = rw e }

pub whole-phases : WholePhases
unfolding rows_of phase_table
whole-phases rec i r h =
    let sec = seconds_of rec in
    let o = order_of rec in
    let n = steps_of_plan rec - step_in i 5 in
    let e : steps_of_plan rec ≡ step_in i 0 + (3 + (1 + (1 + n))) = omega arith in
    record {
      before = after rec 0 (step_in i 0);
      green = after rec (step_in i 0) 3;
      yellow = after rec (step_in i 3) 1;
      all_red = after rec (step_in i 4) 1;
      after = after rec (step_in i 5) n;
      whole =
          ap (after rec 0) e
          ∙ rw (
            rows-part sec o 0 (step_in i 0) (3 + (1 + (1 + n))) (step_in i 0) (omega arith),
            rows-part sec o (step_in i 0) 3 (1 + (1 + n)) (step_in i 3) (omega arith),
            rows-part sec o (step_in i 3) 1 (1 + n) (step_in i 4) (omega arith),
            rows-part sec o (step_in i 4) 1 n (step_in i 5) (omega arith),
          );
      start = rows_all sec o (step_in i 0) ∙ phases-end rec r i (omega arith);
      full_green = rows-stretch sec o (step_in i 0) 3 (step_in i 1) (step_in i 3) (green_of rec i) (omega arith) (omega arith) (green-end rec r i h);
      in_green = green-whole rec r i h;
      full_yellow = step-stretch rec r i h 3 (yellow_of rec i) (omega arith) refl;
      full_all_red = step-stretch rec r i h 4 (all_red_of rec i) (omega arith) refl;
    }
