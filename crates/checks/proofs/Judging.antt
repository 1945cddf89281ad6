-- What the code finds check by check is what the definitions say of the parts that they read.
use Prim.Native.Nat.{ℕ, ◌+◌, ◌≤◌, ◌<◌}
use mathlib.Core.Path.{◌≡◌, refl, sym, ◌∙◌}
use mathlib.Core.Bool.{Bool, true, false, not, ◌&&◌}
use mathlib.Core.List.{List}
use native.Mathlib.Omega.{arith}
use borrow.Author.Tests.{eq-eqb, le-leb, lt-leb, le-ltb, eqb-true, leb-true, leb-false, ltb-false}
use lib.Dec.{eqb, leb, ltb}
use lib.ListN.{length}
use Rattle.std.specs.Prelude.{Option}
use Rattle.std.specs.Option.{is_some}
use Rattle.octets.specs.Choice.{pick, both}
use Rattle.octets.proofs.Laws.{pick-by, both_left, both_right, clash}
use Rattle.record.specs.Record.{record_len, octet_at, minimum_of, maximum_of, yellow_of, all_red_of, walk_flash_of, red_man_of, direct_of, order_of, cycle_of, Within, TimesFit, AllTimesFit}
use Rattle.checks.specs.Standing.{Tells, plan_disagree, plan_stands, check_named}
use Rattle.checks.proofs.Laws.{none-told}
use Rattle.checks.proofs.Stands.{plan-agrees, agrees-plan, agree-greens, greens-agree, plan-fits, fits-plan}

-- an octet from a place that is the same
pub octet-from : (rec : List ℕ) {m n : ℕ} → m ≡ n → (k : ℕ) → octet_at rec (m + k) ≡ octet_at rec (n + k)
octet-from rec e k = rw e

-- One check, and several

pub told-within : {t : Bool} {l x y m : ℕ} → x ≡ y → t ≡ both (leb l x) (leb x m) → Tells t (Within l y m)
told-within {t} {l} {x} {y} {m} e h =
    record {
      holds = λ p. record {
        least = omega (arith, leb-true l x (both_left (leb l x) (leb x m) (sym h ∙ p)));
        most = omega (arith, leb-true x m (both_right (leb l x) (leb x m) (sym h ∙ p)));
      };
      told = λ w. h ∙ rw (le-leb l x (omega (arith, w.least)), le-leb x m (omega (arith, w.most)));
    }

told_and : {a b : Bool} {P Q : Type 0} → Tells a P → Tells b Q → Tells (a && b) (P × Q)
told_and {a} {b} p q = record { holds = λ h. (p.holds (both_left a b h), q.holds (both_right a b h)); told = λ w. rw (p.told w.0, q.told w.1) }

told-as : {t : Bool} {P Q : Type 0} → (P → Q) → (Q → P) → Tells t P → Tells t Q
told-as f g p = record { holds = λ h. f (p.holds h); told = λ w. p.told (g w) }

-- The agreement of a phase

module _ (a m w : ℕ) where
  abbrev first-fails : ℕ
  first-fails = pick (ltb m a) 1 (pick (leb a w) 2 0)

  agreed : first-fails ≡ 0 → (a ≤ m) × (w < a)
  agreed =
      pick-by (λ (r : ℕ). r ≡ 0 → (a ≤ m) × (w < a)) (ltb m a) (λ p h. absurd (omega arith))
      (λ p. pick-by (λ (r : ℕ). r ≡ 0 → (a ≤ m) × (w < a)) (leb a w) (λ q h. absurd (omega arith)) (λ q h. (ltb-false m a p, leb-false a w q)))

  pub told-agrees : {r : Option ℕ} {t : Bool} → r ≡ check_named (pick (ltb m a) 1 (pick (leb a w) 2 0)) → is_some r ≡ not t → Tells t ((a ≤ m) × (w < a))
  told-agrees {t} e s =
      let told : t ≡ eqb first-fails 0 = none-told first-fails e s in
      record { holds = λ h. agreed (eqb-true first-fails 0 (sym told ∙ h)); told = λ p. told ∙ eq-eqb first-fails 0 (rw (le-ltb m a p.0, lt-leb a w p.1)) }

module _ (rec : List ℕ) (i : ℕ) {a b d e f g : Bool} where
  pub told-times : Within 3 (yellow_of rec i) 9 → Tells a (Within 5 (minimum_of rec i) 254) → Tells b (Within 5 (maximum_of rec i) 900)
      → Tells d (Within 1 (all_red_of rec i) 9) → Tells e (Within 0 (walk_flash_of rec i) 90) → Tells f (Within 0 (red_man_of rec i) 9)
      → Tells g ((minimum_of rec i ≤ maximum_of rec i) × (walk_flash_of rec i + red_man_of rec i < minimum_of rec i))
      → Tells (((((a && b) && d) && e) && f) && g) (TimesFit rec i)
  told-times y pa pb pd pe pf pg =
      told-as
      (λ w. record {
        minimum = w.0.0.0.0.0;
        maximum = w.0.0.0.0.1;
        yellow = y;
        all_red = w.0.0.0.1;
        walk_flash = w.0.0.1;
        red_man = w.0.1;
        ordered = w.1.0;
        walk = w.1.1;
      })
      (λ t. (((((t.minimum, t.maximum), t.all_red), t.walk_flash), t.red_man), (t.ordered, t.walk)))
      (told_and (told_and (told_and (told_and (told_and pa pb) pd) pe) pf) pg)

-- The parts

-- one check that fails is enough
pub told-not : {t u : Bool} {P : Type 0} → Tells t P → t ≡ false → (u ≡ true → P) → false ≡ u
told-not {u = true} p h f = absurd (clash h (p.told (f refl)))
told-not {u = false} p h f = refl

alike : (a b : Bool) → (a ≡ true → b ≡ true) → (b ≡ true → a ≡ true) → a ≡ b
alike true b f g = sym (f refl)
alike false true f g = g refl
alike false false f g = refl

-- direct's and the cycle's range and the agreement are all there is to tell
module _ (rec : List ℕ) (long : length rec ≡ record_len) (o : order_of rec < 256) (t : AllTimesFit rec) (d : Within 0 (direct_of rec) 7) (c : Within 1 (cycle_of rec) 900)
    {n : ℕ} (e : n ≡ plan_disagree rec) where
  pub plan-told : eqb n 0 ≡ plan_stands rec
  plan-told =
      alike (eqb n 0) (plan_stands rec) (λ h. fits-plan rec long o t (agree-greens rec (plan-agrees rec (sym e ∙ eqb-true n 0 h)) d c.most))
      (λ s. eq-eqb n 0 (e ∙ agrees-plan rec (greens-agree rec (plan-fits rec s))))
