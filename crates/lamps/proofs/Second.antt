-- What each second shows, for every record and position: the laws of any seconds, at those of the record.
use Prim.Native.Nat.{ℕ, ◌+◌, ◌-◌, ◌<◌}
use mathlib.Core.Path.{◌≡◌, refl, sym, ap, ◌∙◌}
use native.Mathlib.Decide.{dec_lt}
use native.Mathlib.Omega.{arith}
use lib.ListN.{length, get_or, get_or-eq_default}
use Rattle.diagram.specs.Table.{steps_aphase}
use Rattle.record.specs.Record.{k_of, order_of}
use Rattle.lamps.specs.declared.Row.{Row}
use Rattle.lamps.specs.Rows.{phase_table, steps_of_plan, seconds_of, row_of, rows_of, no_row, row_at}
use Rattle.lamps.specs.Promises.{seconds_to, step_in, SecondsOfSteps, Due, LampsOfStep, OneDue, DarkPast, NoZeroStep}
use Rattle.lamps.proofs.Laws.{seconds-none, seconds-past, seconds-line, seconds-next, seconds-grow, rows_all, rows-due}

pub seconds-of-steps : SecondsOfSteps
unfolding phase_table rows_of
seconds-of-steps rec =
    let at : (i : ℕ) → i < k_of rec → (j : ℕ) → j < steps_aphase → seconds_of rec (step_in i (j + 1)) ≡ get_or (phase_table rec i) j 0 =
    λ i h j l. sym (seconds-line rec i h j (step_in i (j + 1)) l refl) in
    record {
      steps = refl;
      phases = λ i h. record {
        before_flash = at i h 0 (omega arith);
        walk_flash = at i h 1 (omega arith);
        red_man = at i h 2 (omega arith);
        yellow = at i h 3 (omega arith);
        all_red = at i h 4 (omega arith);
      };
      none = sym (seconds-none rec 0 refl);
      past = λ step h. sym (seconds-past rec step h);
      rows = rows_all (seconds_of rec) (order_of rec) (steps_of_plan rec);
    }

pub lamps-of-step : LampsOfStep
unfolding row_at rows_of seconds_to
lamps-of-step rec p h =
    let z : 0 + p ≡ p = omega arith in
    let n : 0 + steps_of_plan rec ≡ steps_of_plan rec = omega arith in
    rw (z, n) at (rows-due (seconds_of rec) (order_of rec) 0 (steps_of_plan rec) p h)

-- of two steps the earlier is over before the later has begun
module _ (sec : ℕ → ℕ) (order n p : ℕ) where
  not-before : (r s : Row) → Due sec order n p r → Due sec order n p s → r.step < s.step → ⊥
  not-before r s d e l = omega (arith, d.some, d.left, e.begun, seconds-grow sec r.step (s.step - 1) (omega arith))

  one-step : (r s : Row) → Due sec order n p r → Due sec order n p s → Dec (r.step < s.step) → Dec (s.step < r.step) → r.step ≡ s.step
  one-step r s d e (yes l) f = absurd (not-before r s d e l)
  one-step r s d e (no g) (yes l) = absurd (not-before s r e d l)
  one-step r s d e (no g) (no k) = omega arith

  -- a row that is due is made of its step and seconds left
  made : (r : Row) → Due sec order n p r → row_of order r.step r.left ≡ r
  made r d = rw (← d.steady, ← d.flashing)

pub one-due : OneDue
one-due sec order n p r s d e =
    let q = one-step sec order n p r s d e (dec_lt r.step s.step) (dec_lt s.step r.step) in
    let l : r.left ≡ s.left = omega (arith, d.left, e.left, ap (seconds_to sec) q) in
    sym (made sec order n p r d) ∙ rw (q, l) (made sec order n p s e)

pub dark-past : DarkPast
unfolding row_at
dark-past rec p h = let e = get_or-eq_default (rows_of rec) no_row {n = p} h in record { step = rw e; left = rw e; steady = rw e; flashing = rw e }

pub no-zero-step : NoZeroStep
no-zero-step rec step p h z e = by (dec_lt p (length (rows_of rec)))
  where
    by : Dec (p < length (rows_of rec)) → ⊥
    by (yes l) =
        let d = lamps-of-step rec p l in
        omega (arith, rw e at d.begun, rw e at d.left, d.some, seconds-next (seconds_of rec) (step - 1) step (omega arith))
    by (no g) = omega (arith, (dark-past rec p (omega arith)).step, e)
