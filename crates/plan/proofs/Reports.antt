-- What follows from the definitions of a report: one law for each way.
use Prim.Native.Nat.{ℕ, ◌-◌, ◌≤◌}
use mathlib.Core.Path.{◌≡◌}
use mathlib.Core.Bool.{true, false}
use mathlib.Core.List.{List}
use native.Mathlib.Omega.{arith}
use borrow.Author.Tests.{eq-eqb, ne_eqb}
use lib.ListN.{length, drop, length-take}
use Rattle.message.specs.Reader.{no_message, read_of}
use Rattle.record.specs.Record.{record_len, empty, ready, k_of, times_end, greens_at, ready_end}
use Rattle.checks.specs.Standing.{standing_of}
use Rattle.plan.specs.Reporting.{times_info, plan_info, report_times_of, reports_plan, report_plan_of}
use Rattle.checks.proofs.Stands.{some-long, some_fit}

-- What is reported lies within the record, and is no more than INFO may be

module _ (rec : List ℕ) (hs : standing_of rec ≡ empty → ⊥) where
  held : (length rec ≡ record_len) × (k_of rec ≤ 8)
  held = (some-long rec hs, (some_fit rec hs).count.most)

  pub times-in : {end : ℕ} → end ≡ times_end rec → end ≤ length rec
  times-in e = omega (arith, held)

  pub times-most : (p : ℕ) → length (times_info rec p) ≤ 256
  unfolding times_info
  times-most p = omega (arith, held, length-take (times_end rec - 1) (drop 1 rec))

module _ (rec : List ℕ) (hs : standing_of rec ≡ ready) where
  some : standing_of rec ≡ empty → ⊥
  some z = absurd (omega arith)

  pub plan-in : {end : ℕ} → end ≡ ready_end rec → end ≤ length rec
  plan-in e = omega (arith, held rec some)

  pub plan-most : (p code : ℕ) → length (plan_info rec p code) ≤ 256
  unfolding plan_info
  plan-most p code = omega (arith, held rec some, length-take (ready_end rec - greens_at rec) (drop (greens_at rec) rec))

-- The message that a report is

module _ (rec : List ℕ) (p : ℕ) where
  pub times_none : standing_of rec ≡ empty → report_times_of rec p ≡ no_message
  unfolding report_times_of
  times_none h = rw (eq-eqb (standing_of rec) empty h)

  pub times-told : (standing_of rec ≡ empty → ⊥) → report_times_of rec p ≡ (read_of (times_info rec p)).message
  unfolding report_times_of
  times-told h = rw (ne_eqb (standing_of rec) empty h)

  module _ (code : ℕ) where
    pub plan-none : (standing_of rec ≡ ready → ⊥) → report_plan_of rec p code ≡ no_message
    unfolding report_plan_of
    plan-none h = rw (ne_eqb (standing_of rec) ready h)

    module _ (hs : standing_of rec ≡ ready) where
      pub plan-other : reports_plan code ≡ false → report_plan_of rec p code ≡ no_message
      unfolding report_plan_of
      plan-other t = rw (eq-eqb (standing_of rec) ready hs, t)

      pub plan-told : reports_plan code ≡ true → report_plan_of rec p code ≡ (read_of (plan_info rec p code)).message
      unfolding report_plan_of
      plan-told t = rw (eq-eqb (standing_of rec) ready hs, t)
