-- The walk over the phases makes the checks in the order of the definitions' search: what is left of the search gives what the whole gives.
use Prim.Native.Nat.{ℕ, zero, suc, ◌+◌, ◌*◌, ◌-◌, ◌≤◌, ◌<◌}
use mathlib.Core.Path.{◌≡◌, refl, sym, ap, ◌∙◌}
use mathlib.Core.Bool.{Bool, true, false, not}
use mathlib.Core.List.{List, ◌++◌}
use native.Mathlib.Omega.{arith}
use borrow.Author.Tests.{eq-eqb, ne_eqb, le-leb, lt-leb}
use lib.Dec.{eqb, leb, ltb}
use lib.ListN.{length, replicate}
use Rattle.octets.specs.Choice.{pick}
use Rattle.octets.specs.First.{first_of}
use Rattle.octets.specs.Put.{Put}
use Rattle.octets.proofs.Laws.{put-stored}
use Rattle.octets.proofs.Search.{search-ends, search-stops, search-goes}
use Rattle.diagram.specs.Table.{phases_of}
use Rattle.message.proofs.Values.{filled_at, filled_is}
use Rattle.record.specs.Record.{record_len, octet_at, word_at, k_of, greens_at, minimum_of, maximum_of, walk_flash_of, red_man_of, order_of, green_of, cycle_of, sum_of}
use Rattle.checks.specs.Standing.{times_fail, times_disagree, plan_fails, plan_checks, plan_disagree}
use Rattle.checks.proofs.Stands.{check-maximum, check-redman, check-green, check-cycle, check-offset}

-- The checks of the times, two of each phase

-- what is left of the search: a number for the first of the two that fails, or what is left behind them
pair-next : (t : ℕ → Bool) (k i : ℕ) → i < k → {n : ℕ} (a b : Bool) → t (2 * i) ≡ a → t (2 * i + 1) ≡ b → n ≡ pick a 1 (pick b 2 0)
    → pick (eqb n 0) (first_of t (2 * (i + 1)) (2 * k - 2 * (i + 1))) (2 * i + n) ≡ first_of t (2 * i) (2 * k - 2 * i)
pair-next t k i l true b p q e = rw e (sym (search-stops t (2 * k) (2 * i) (omega arith) p))
pair-next t k i l false true p q e = rw e (omega (arith, search-goes t (2 * k) (2 * i) (omega arith) p, search-stops t (2 * k) (2 * i + 1) (omega arith) q))
pair-next t k i l false false p q e =
    let next : 2 * (i + 1) ≡ 2 * i + 1 + 1 = omega arith in
    rw (e, next) (sym (search-goes t (2 * k) (2 * i) (omega arith) p ∙ search-goes t (2 * k) (2 * i + 1) (omega arith) q))

module _ (rec : List ℕ) {k i a m f r n : ℕ} (l : i < k) (ea : a ≡ minimum_of rec i) (em : m ≡ maximum_of rec i) (ef : f ≡ walk_flash_of rec i) (er : r ≡ red_man_of rec i)
    (en : n ≡ pick (ltb m a) 1 (pick (leb a (f + r)) 2 0)) (left : first_of (times_fail rec) (2 * i) (2 * k - 2 * i) ≡ times_disagree rec) where
  next : pick (eqb n 0) (first_of (times_fail rec) (2 * (i + 1)) (2 * k - 2 * (i + 1))) (2 * i + n) ≡ times_disagree rec
  next = pair-next (times_fail rec) k i l (ltb m a) (leb a (f + r)) (check-maximum rec i ∙ rw (em, ea)) (check-redman rec i ∙ rw (ea, ef, er)) en ∙ left

  pub phase-stops : (n ≡ 0 → ⊥) → 2 * i + n ≡ times_disagree rec
  phase-stops z = rw (ne_eqb n 0 z) at next

  pub phase-goes : n ≡ 0 → first_of (times_fail rec) (2 * (i + 1)) (2 * k - 2 * (i + 1)) ≡ times_disagree rec
  phase-goes z = rw (eq-eqb n 0 z) at next

-- The checks of the rest: the count's, each green's, the cycle's, the offset's

module _ (rec : List ℕ) where
  -- the first that fails from check c on
  abbrev pub left_from : ℕ → ℕ
  left_from c = first_of (plan_fails rec) c (plan_checks rec - c)

  from-0 : left_from 0 ≡ plan_disagree rec
  unfolding plan_disagree
  from-0 = ap (first_of (plan_fails rec) 0) (omega arith)

  pub count-fails : {n : ℕ} → n ≡ phases_of (order_of rec) → (k_of rec ≡ n → ⊥) → 1 ≡ plan_disagree rec
  count-fails e n = sym (search-stops (plan_fails rec) (plan_checks rec) 0 (omega arith) (ap not (ne_eqb (k_of rec) (phases_of (order_of rec)) (λ z. n (z ∙ sym e))))) ∙ from-0

  pub count-holds : {n : ℕ} → n ≡ phases_of (order_of rec) → k_of rec ≡ n → left_from 1 ≡ plan_disagree rec
  count-holds e k = sym (search-goes (plan_fails rec) (plan_checks rec) 0 (omega arith) (ap not (eq-eqb (k_of rec) (phases_of (order_of rec)) (k ∙ e)))) ∙ from-0

  module _ {i n g m : ℕ} {t : Bool} (en : k_of rec ≡ n) (l : i < n) (eg : g ≡ green_of rec i) (em : m ≡ maximum_of rec i)
      (et : t ≡ pick (ltb g (minimum_of rec i)) true (ltb m g)) (left : left_from (i + 1) ≡ plan_disagree rec) where
    green-at : plan_fails rec (i + 1) ≡ t
    green-at = check-green rec i (omega arith) ∙ sym (rw (eg, em) at et)

    pub green-stops : t ≡ true → i + 2 ≡ plan_disagree rec
    green-stops e = omega (arith, search-stops (plan_fails rec) (plan_checks rec) (i + 1) (omega arith) (green-at ∙ e), left)

    pub green-goes : t ≡ false → left_from (i + 1 + 1) ≡ plan_disagree rec
    green-goes e = sym (search-goes (plan_fails rec) (plan_checks rec) (i + 1) (omega arith) (green-at ∙ e)) ∙ left

  -- when all greens of the n phases are within their bounds
  module _ {i n s c : ℕ} (en : k_of rec ≡ n) (li : i ≤ k_of rec) (gi : n ≤ i) (es : s ≡ sum_of rec i) (ec : c ≡ word_at rec (greens_at rec + 2 * n))
      (left : left_from (i + 1) ≡ plan_disagree rec) where
    cycle-is : c ≡ cycle_of rec
    cycle-is = ec ∙ ap (λ (m : ℕ). word_at rec (greens_at rec + 2 * m)) (sym en)

    cycle-at : {t : Bool} → eqb c s ≡ t → plan_fails rec (i + 1) ≡ not t
    cycle-at f = let e : i ≡ k_of rec = omega arith in rw e (check-cycle rec ∙ rw (← cycle-is, ← e, ← es, f))

    pub cycle-stops : (c ≡ s → ⊥) → n + 2 ≡ plan_disagree rec
    cycle-stops d = omega (arith, search-stops (plan_fails rec) (plan_checks rec) (i + 1) (omega arith) (cycle-at (ne_eqb c s d)), left)

    module _ (e : c ≡ s) {o : ℕ} (eo : o ≡ word_at rec (greens_at rec + 2 * n + 2)) where
      left-offset : left_from (i + 1 + 1) ≡ plan_disagree rec
      left-offset = sym (search-goes (plan_fails rec) (plan_checks rec) (i + 1) (omega arith) (cycle-at (eq-eqb c s e))) ∙ left

      offset_at : {t : Bool} → leb c o ≡ t → plan_fails rec (i + 1 + 1) ≡ t
      offset_at f =
          let m : i + 1 + 1 ≡ k_of rec + 2 = omega arith in
          let offset-is = eo ∙ ap (λ (m : ℕ). word_at rec (greens_at rec + 2 * m + 2)) (sym en) in
          rw m (check-offset rec ∙ rw (← cycle-is, ← offset-is, f))

      pub offset-stops : c ≤ o → n + 3 ≡ plan_disagree rec
      offset-stops h = omega (arith, search-stops (plan_fails rec) (plan_checks rec) (i + 1 + 1) (omega arith) (offset_at (le-leb c o h)), left-offset)

      pub none-fails : o < c → 0 ≡ plan_disagree rec
      none-fails h =
          sym (search-ends (plan_fails rec) (plan_checks rec) (i + 1 + 1 + 1) (omega arith))
          ∙ (sym (search-goes (plan_fails rec) (plan_checks rec) (i + 1 + 1) (omega arith) (offset_at (lt-leb c o h))) ∙ left-offset)

-- Octets that are missing are 0

module _ (a b : List ℕ) (same : (at : ℕ) → octet_at a at ≡ octet_at b at) where
  same_sum : (n : ℕ) → sum_of a n ≡ sum_of b n
  same_sum zero = refl
  same_sum (suc n) = simp (same_sum n, same)

  same-fails : (c : ℕ) → plan_fails a c ≡ plan_fails b c
  same-fails c = simp (same_sum, same)

  same-plan : plan_disagree a ≡ plan_disagree b
  unfolding plan_disagree
  same-plan = λ j. first_of (λ c. same-fails c j) 0 (same 1 j + 3)

pub padded-plan : (rec : List ℕ) {r : ℕ} {l : List ℕ} → length rec < record_len → Put rec 0 (replicate record_len 0) r l → plan_disagree l ≡ plan_disagree rec
padded-plan rec h p =
    ap plan_disagree ((put-stored p (omega arith)).holds ∙ filled_is record_len rec (omega arith))
    ∙ same-plan (rec ++ replicate (record_len - length rec) 0) rec (filled_at record_len rec)
