-- What stands as times set or as ready is exactly such a record: each computed test says what its check says.
use Prim.Native.Nat.{ℕ, zero, suc, ◌+◌, ◌*◌, ◌-◌, ◌/◌, ◌%◌, ◌≤◌, ◌<◌}
use mathlib.Core.Path.{◌≡◌, refl, sym, ap, ◌∙◌}
use mathlib.Core.Bool.{Bool, true, false, not}
use mathlib.Core.Logic.{◌↔◌}
use mathlib.Core.List.{List, [], ◌∷◌, ◌++◌}
use native.Mathlib.Decide.{dec_lt, ℕ_discrete}
use native.Mathlib.Omega.{arith}
use borrow.Author.Tests.{eq-eqb, ne_eqb, le-leb, lt-leb, le-ltb, eqb-true, leb-true, leb-false, ltb-false, not-false}
use lib.Dec.{eqb, leb, ltb}
use lib.ListN.{length, drop, replicate, length-drop}
use lib.Seq.{length-take-le, get_or-take, get_or-drop}
use Rattle.octets.specs.Choice.{pick, both}
use Rattle.octets.specs.First.{First}
use Rattle.octets.specs.Refusal as refusal
use Rattle.octets.proofs.Laws.{pick-by, both_left, both_right, clash, first-none, first_one}
use Rattle.octets.proofs.Search.{search-first}
use Rattle.diagram.specs.Table.{phases_of}
use Rattle.message.specs.Fields as field
use Rattle.message.specs.Layouts.{layouts, layout_at, rows_at, layout_rows, repeated, times, greens, cycle_offset, stored_times, stored_plan}
use Rattle.message.specs.Values.{size_of}
use Rattle.message.specs.Reader.{read_part_of}
use Rattle.message.specs.Promises.{HasLayout}
use Rattle.message.proofs.Numbers.{stored-parts}
use Rattle.record.specs.Record.{record_len, empty, times_set, ready, state_of, k_of, times_end, ready_end, greens_at, minimum_of, maximum_of, walk_flash_of, red_man_of, direct_of, order_of, green_of, cycle_of, offset_of, sum_of, Within, AllTimesFit, ZeroFrom, GreensFit, TimesSet, Ready}
use Rattle.checks.specs.Standing.{head_len, between, times_fail, times_checks, times_disagree, green_fails, plan_fails, plan_checks, plan_disagree, ranged, times_stand, plan_stands, ready_stands, all_zero, standing_of, StandsAsItIs}
use Rattle.record.proofs.Laws.{octet-below}
use Rattle.checks.proofs.Fields.{StandIn, Ranged, ranged-repeated, part-reads, phase-in, phase-out}

-- The agreement of the times

module _ (rec : List ℕ) where
  pub check-maximum : (i : ℕ) → times_fail rec (2 * i) ≡ ltb (maximum_of rec i) (minimum_of rec i)
  check-maximum i =
      let m : 2 * i % 2 ≡ 0 = omega arith in
      let d : 2 * i / 2 ≡ i = omega arith in
      rw (m, d)

  pub check-redman : (i : ℕ) → times_fail rec (2 * i + 1) ≡ leb (minimum_of rec i) (walk_flash_of rec i + red_man_of rec i)
  check-redman i =
      let m : (2 * i + 1) % 2 ≡ 1 = omega arith in
      let d : (2 * i + 1) / 2 ≡ i = omega arith in
      rw (m, d)

  pub times-first : First (times_fail rec) (times_checks rec) (times_disagree rec)
  unfolding times_disagree
  times-first = search-first (times_fail rec) (times_checks rec)

  pub agree-times : AllTimesFit rec → times_disagree rec ≡ 0
  agree-times f = first_one times-first (first-none (λ c l. by c l (ℕ_discrete (c % 2) 0)))
    where
      by : (c : ℕ) → c < 2 * k_of rec → Dec (c % 2 ≡ 0) → times_fail rec c ≡ false
      by c l (yes e) =
          let q : 2 * (c / 2) ≡ c = omega arith in
          rw q at (check-maximum (c / 2) ∙ le-ltb (maximum_of rec (c / 2)) (minimum_of rec (c / 2)) (f.phases (c / 2) (omega arith)).ordered)
      by c l (no n) =
          let q : 2 * (c / 2) + 1 ≡ c = omega arith in
          rw q at (check-redman (c / 2) ∙ lt-leb (minimum_of rec (c / 2)) (walk_flash_of rec (c / 2) + red_man_of rec (c / 2)) (f.phases (c / 2) (omega arith)).walk)

  module _ (i : ℕ) where
    pub ordered-by : times_fail rec (2 * i) ≡ false → minimum_of rec i ≤ maximum_of rec i
    ordered-by e = ltb-false (maximum_of rec i) (minimum_of rec i) (sym (check-maximum i) ∙ e)

    pub walk-by : times_fail rec (2 * i + 1) ≡ false → walk_flash_of rec i + red_man_of rec i < minimum_of rec i
    walk-by e = leb-false (minimum_of rec i) (walk_flash_of rec i + red_man_of rec i) (sym (check-redman i) ∙ e)

  -- and each field of them in its range: the times fit, and fitting times are so
  pub ranged-fit : Within 1 (k_of rec) 8 → Ranged (repeated (k_of rec) times ++ []) rec head_len → times_disagree rec ≡ 0 → AllTimesFit rec
  ranged-fit c r e =
      let p = ((ranged-repeated rec times [] (k_of rec) head_len).0 r).0 in
      let f = times-first.none e in
      record { count = c; phases = λ i l. phase-in rec i (p i l) (ordered-by i (f (2 * i) (omega arith))) (walk-by i (f (2 * i + 1) (omega arith))) }

  pub fit-ranged : AllTimesFit rec → Ranged (repeated (k_of rec) times ++ []) rec head_len
  fit-ranged f = (ranged-repeated rec times [] (k_of rec) head_len).1 (λ i l. phase-out rec i (f.phases i l), tt)

-- The agreement of the rest

module _ (rec : List ℕ) where
  pub plan-first : First (plan_fails rec) (plan_checks rec) (plan_disagree rec)
  unfolding plan_disagree
  plan-first = search-first (plan_fails rec) (plan_checks rec)

  pub green-within : (i : ℕ) → green_fails rec i ≡ false → Within (minimum_of rec i) (green_of rec i) (maximum_of rec i)
  green-within i =
      pick-by (λ (t : Bool). t ≡ false → Within (minimum_of rec i) (green_of rec i) (maximum_of rec i)) (ltb (green_of rec i) (minimum_of rec i)) (λ h e. absurd (clash e refl))
      (λ h e. record { least = ltb-false (green_of rec i) (minimum_of rec i) h; most = ltb-false (maximum_of rec i) (green_of rec i) e })

  pub within-green : (i : ℕ) → Within (minimum_of rec i) (green_of rec i) (maximum_of rec i) → green_fails rec i ≡ false
  within-green i w = rw (le-ltb (green_of rec i) (minimum_of rec i) w.least, le-ltb (maximum_of rec i) (green_of rec i) w.most)

  pub check-green : (i : ℕ) → i < k_of rec → plan_fails rec (i + 1) ≡ green_fails rec i
  check-green i l = let e : i + 1 - 1 ≡ i = omega arith in rw (ne_eqb (i + 1) 0 (λ z. omega arith), le-leb (i + 1) (k_of rec) (omega arith), e)

  pub check-cycle : plan_fails rec (k_of rec + 1) ≡ not (eqb (cycle_of rec) (sum_of rec (k_of rec)))
  check-cycle = rw (ne_eqb (k_of rec + 1) 0 (λ z. omega arith), lt-leb (k_of rec + 1) (k_of rec) (omega arith), eq-eqb (k_of rec + 1) (k_of rec + 1) refl)

  pub check-offset : plan_fails rec (k_of rec + 2) ≡ leb (cycle_of rec) (offset_of rec)
  check-offset =
      rw (ne_eqb (k_of rec + 2) 0 (λ z. omega arith), lt-leb (k_of rec + 2) (k_of rec) (omega arith), ne_eqb (k_of rec + 2) (k_of rec + 1) (λ z. omega arith))

  pub record PlanAgrees : Type 0 where
    pub count : k_of rec ≡ phases_of (order_of rec)
    pub green : (i : ℕ) → i < k_of rec → Within (minimum_of rec i) (green_of rec i) (maximum_of rec i)
    pub cycle : cycle_of rec ≡ sum_of rec (k_of rec)
    pub offset : offset_of rec < cycle_of rec

  pub plan-agrees : plan_disagree rec ≡ 0 → PlanAgrees
  plan-agrees e =
      let f = plan-first.none e in
      record {
        count = eqb-true (k_of rec) (phases_of (order_of rec)) (not-false (eqb (k_of rec) (phases_of (order_of rec))) (f 0 (omega arith)));
        green = λ i l. green-within i (sym (check-green i l) ∙ f (i + 1) (omega arith));
        cycle = eqb-true (cycle_of rec) (sum_of rec (k_of rec)) (not-false (eqb (cycle_of rec) (sum_of rec (k_of rec))) (sym check-cycle ∙ f (k_of rec + 1) (omega arith)));
        offset = leb-false (cycle_of rec) (offset_of rec) (sym check-offset ∙ f (k_of rec + 2) (omega arith));
      }

  pub agrees-plan : PlanAgrees → plan_disagree rec ≡ 0
  agrees-plan a = first_one plan-first (first-none (λ c l. by c l (ℕ_discrete c 0) (dec_lt (k_of rec) c) (ℕ_discrete c (k_of rec + 1))))
    where
      by : (c : ℕ) → c < k_of rec + 3 → Dec (c ≡ 0) → Dec (k_of rec < c) → Dec (c ≡ k_of rec + 1) → plan_fails rec c ≡ false
      by c l (yes z) d d' = rw z (ap not (eq-eqb (k_of rec) (phases_of (order_of rec)) a.count))
      by c l (no n) (no m) d' =
          let q : c - 1 + 1 ≡ c = omega arith in
          rw q at (check-green (c - 1) (omega arith) ∙ within-green (c - 1) (a.green (c - 1) (omega arith)))
      by c l (no n) (yes m) (yes e) = rw e (check-cycle ∙ ap not (eq-eqb (cycle_of rec) (sum_of rec (k_of rec)) a.cycle))
      by c l (no n) (yes m) (no ne) =
          let e : c ≡ k_of rec + 2 = omega arith in
          rw e (check-offset ∙ lt-leb (cycle_of rec) (offset_of rec) a.offset)

  -- with direct's and the cycle's range they are the greens that fit
  pub agree-greens : PlanAgrees → Within 0 (direct_of rec) 7 → cycle_of rec ≤ 900 → GreensFit rec
  agree-greens a d m = record { direct = d; count = a.count; green = a.green; cycle = a.cycle; most = m; offset = a.offset }

  pub greens-agree : GreensFit rec → PlanAgrees
  greens-agree f = record { count = f.count; green = f.green; cycle = f.cycle; offset = f.offset }

-- The parts

pub part-long : (from end : ℕ) (rec : List ℕ) → from ≤ end → end ≤ length rec → length (between from end rec) ≡ end - from
part-long from end rec h l = length-take-le (end - from) (drop from rec) (simp length-drop (omega arith))

pub part_at : (from end : ℕ) (rec : List ℕ) → StandIn (between from end rec) rec from (end - from)
part_at from end rec j l = get_or-take (end - from) (drop from rec) j 0 l ∙ get_or-drop from rec j 0

-- a part of a record: all there, and each field of it in its range at its place in the record
module _ (l from end : ℕ) (rec : List ℕ) (h : from ≤ end) where
  part-ranged : HasLayout l → (layout_at l).fewest ≡ 1 → (layout_at l).most ≡ 8 → size_of (rows_at l (k_of rec)) ≡ end - from
      → (ranged l from end rec ≡ true) ↔ (end ≤ length rec) × (Within 1 (k_of rec) 8) × Ranged (rows_at l (k_of rec)) rec from
  unfolding ranged
  part-ranged kn ef em es =
      let n = (read_part_of l (k_of rec) (between from end rec)).refusal in
      let reads = part-reads kn ef em es (part_at from end rec) in (
        λ t.
            let r = reads.0 (eqb-true n refusal.none (both_right (leb end (length rec)) (eqb n refusal.none) t)) in
            (leb-true end (length rec) (both_left (leb end (length rec)) (eqb n refusal.none) t), r.count, r.ranges),
        λ p.
            rw (le-leb end (length rec) p.0) (eq-eqb n refusal.none (reads.1 (record { long = part-long from end rec h p.0; count = p.1; ranges = p.2 }))),
      )

module _ (rec : List ℕ) where
  abbrev k : ℕ
  k = k_of rec

  times-ranged : (ranged stored_times head_len (times_end rec) rec ≡ true)
      ↔ (times_end rec ≤ length rec) × (Within 1 k 8) × Ranged (repeated k times ++ []) rec head_len
  unfolding rows_at layout_rows layout_at layouts
  times-ranged =
      part-ranged stored_times head_len (times_end rec) rec (omega arith) (record { first = omega arith; last = omega arith }) refl refl (omega (arith, (stored-parts k).times_size))

  pub times-fit : times_stand rec ≡ true → AllTimesFit rec
  unfolding times_stand
  times-fit h =
      let d = eqb-true (times_disagree rec) 0 (both_right (ranged stored_times head_len (times_end rec) rec) (eqb (times_disagree rec) 0) h) in
      let p = times-ranged.0 (both_left (ranged stored_times head_len (times_end rec) rec) (eqb (times_disagree rec) 0) h) in
      ranged-fit rec p.1 p.2 d

  pub fit-times : length rec ≡ record_len → AllTimesFit rec → times_stand rec ≡ true
  unfolding times_stand
  fit-times e f = rw (times-ranged.1 (omega (arith, f.count.most), f.count, fit-ranged rec f), agree-times rec f)

  plan-ranged : (ranged stored_plan (times_end rec) (ready_end rec) rec ≡ true)
      ↔ (ready_end rec ≤ length rec) × (Within 1 k 8) × Ranged (field.direct ∷ field.order ∷ (repeated k greens ++ cycle_offset)) rec (times_end rec)
  unfolding rows_at layout_rows layout_at layouts
  plan-ranged =
      part-ranged stored_plan (times_end rec) (ready_end rec) rec (omega arith) (record { first = omega arith; last = omega arith }) refl refl
      (omega (arith, (stored-parts k).plan_size))

  -- each field of a plan that stands is in its range at its place
  pub plan-places : plan_stands rec ≡ true
      → (Within 0 (direct_of rec) 7) × ((order_of rec ≤ 255) × (1 ≤ phases_of (order_of rec))) × Ranged (repeated k greens ++ cycle_offset) rec (greens_at rec)
  unfolding plan_stands
  plan-places h =
      let e : times_end rec + 1 + 1 ≡ greens_at rec = omega arith in
      let p = (plan-ranged.0 (both_left (ranged stored_plan (times_end rec) (ready_end rec) rec) (eqb (plan_disagree rec) 0) h)).2 in
      (p.0, p.1.0, rw e at p.1.1)

  pub plan-fits : plan_stands rec ≡ true → GreensFit rec
  unfolding plan_stands
  plan-fits h =
      let d = plan-agrees rec (eqb-true (plan_disagree rec) 0 (both_right (ranged stored_plan (times_end rec) (ready_end rec) rec) (eqb (plan_disagree rec) 0) h)) in
      let p = plan-places h in
      let g = (ranged-repeated rec greens cycle_offset k (greens_at rec)).0 p.2 in
      agree-greens rec d p.0 g.1.0.most

  pub fits-plan : length rec ≡ record_len → order_of rec < 256 → AllTimesFit rec → GreensFit rec → plan_stands rec ≡ true
  unfolding plan_stands
  fits-plan e at-order t f =
      let at : times_end rec + 1 + 1 ≡ greens_at rec = omega arith in
      let green : (i : ℕ) → i < k → Within 1 (green_of rec i) 900 =
      λ i l. record { least = omega (arith, (f.green i l).least, (t.phases i l).minimum.least); most = omega (arith, (f.green i l).most, (t.phases i l).maximum.most) } in
      let cycle : Within 1 (cycle_of rec) 900 = record { least = omega (arith, f.offset); most = f.most } in
      let offset : Within 0 (offset_of rec) 899 = record { least = omega arith; most = omega (arith, f.offset, f.most) } in
      let g = (ranged-repeated rec greens cycle_offset k (greens_at rec)).1 (λ i l. (green i l, tt), (cycle, (offset, tt))) in
      let order : (order_of rec ≤ 255) × (1 ≤ phases_of (order_of rec)) = (omega arith, omega (arith, t.count.least, f.count)) in
      rw (plan-ranged.1 (omega (arith, t.count.most), t.count, (f.direct, (order, rw at g))), agrees-plan rec (greens-agree rec f))

-- The rest

zero-list : (l : List ℕ) → all_zero l ≡ true → l ≡ replicate (length l) 0
unfolding all_zero
zero-list [] h = refl
zero-list (x ∷ xs) h =
    let e : x ≡ 0 = eqb-true x 0 (both_left (eqb x 0) (all_zero xs) h) in
    rw e (ap (λ (l : List ℕ). 0 ∷ l) (zero-list xs (both_right (eqb x 0) (all_zero xs) h)))

zeros : (n : ℕ) → all_zero (replicate n 0) ≡ true
unfolding all_zero
zeros zero = refl
zeros (suc n) = zeros n

module _ (rec : List ℕ) (at : ℕ) where
  rest-zero : length rec ≡ record_len → all_zero (drop at rec) ≡ true → ZeroFrom rec at
  rest-zero e h =
      let n : length (drop at rec) ≡ record_len - at = omega (arith, length-drop at rec) in
      zero-list (drop at rec) h ∙ ap (λ (n : ℕ). replicate n 0) n

  zero_rest : ZeroFrom rec at → all_zero (drop at rec) ≡ true
  zero_rest z = rw z (zeros (record_len - at))

-- How a record stands: what each standing tells of the tests that give it

record Told (a b c d e : Bool) (s : ℕ) : Type 0 where
  some : (s ≡ empty → ⊥) → a ≡ true
  as_times : s ≡ times_set → (b ≡ true) × (c ≡ true)
  as_ready : s ≡ ready → (d ≡ true) × (e ≡ true)
  most : s ≤ ready

tell : (a b c d e : Bool) → Told a b c d e (pick a (pick b (pick c times_set empty) (pick d (pick e ready empty) empty)) empty)
tell true true true d e = record { some = λ n. refl; as_times = λ h. (refl, refl); as_ready = λ h. absurd (omega arith); most = omega arith }
tell true true false d e = record { some = λ n. refl; as_times = λ h. absurd (omega arith); as_ready = λ h. absurd (omega arith); most = omega arith }
tell true false c true true = record { some = λ n. refl; as_times = λ h. absurd (omega arith); as_ready = λ h. (refl, refl); most = omega arith }
tell true false c true false = record { some = λ n. refl; as_times = λ h. absurd (omega arith); as_ready = λ h. absurd (omega arith); most = omega arith }
tell true false c false e = record { some = λ n. refl; as_times = λ h. absurd (omega arith); as_ready = λ h. absurd (omega arith); most = omega arith }
tell false b c d e = record { some = λ n. absurd (n refl); as_times = λ h. absurd (omega arith); as_ready = λ h. absurd (omega arith); most = omega arith }

module _ (rec : List ℕ) where
  told : Told (both (eqb (length rec) record_len) (times_stand rec)) (eqb (state_of rec) times_set) (all_zero (drop (times_end rec) rec)) (eqb (state_of rec) ready)
      (ready_stands rec)
      (standing_of rec)
  unfolding standing_of
  told = tell _ _ _ _ _

  -- what is not empty
  module _ (n : standing_of rec ≡ empty → ⊥) where
    pub some-long : length rec ≡ record_len
    some-long = eqb-true (length rec) record_len (both_left (eqb (length rec) record_len) (times_stand rec) (told.some n))

    pub some_fit : AllTimesFit rec
    some_fit = times-fit rec (both_right (eqb (length rec) record_len) (times_stand rec) (told.some n))

  -- what is ready
  pub ready-plan : standing_of rec ≡ ready → plan_stands rec ≡ true
  unfolding ready_stands
  ready-plan h = both_left (plan_stands rec) (all_zero (drop (ready_end rec) rec)) (told.as_ready h).1

  ready-from : standing_of rec ≡ ready → Ready rec
  unfolding ready_stands
  ready-from h =
      let n : standing_of rec ≡ empty → ⊥ = λ z. omega arith in
      let z = both_right (plan_stands rec) (all_zero (drop (ready_end rec) rec)) (told.as_ready h).1 in
      record {
        long = some-long n;
        state = eqb-true (state_of rec) ready (told.as_ready h).0;
        times = some_fit n;
        greens = plan-fits rec (ready-plan h);
        rest = rest-zero rec (ready_end rec) (some-long n) z;
      }

  pub ready-to : order_of rec < 256 → Ready rec → standing_of rec ≡ ready
  unfolding standing_of ready_stands
  ready-to o r =
      let n : state_of rec ≡ times_set → ⊥ = λ z. absurd (omega (arith, r.state)) in
      rw (eq-eqb (length rec) record_len r.long, fit-times rec r.long r.times, ne_eqb (state_of rec) times_set n, eq-eqb (state_of rec) ready r.state)
      (rw (fits-plan rec r.long o r.times r.greens, zero_rest rec (ready_end rec) r.rest))

  times-from : standing_of rec ≡ times_set → TimesSet rec
  times-from h =
      let n : standing_of rec ≡ empty → ⊥ = λ z. omega arith in
      let s = told.as_times h in
      record { long = some-long n; state = eqb-true (state_of rec) times_set s.0; times = some_fit n; rest = rest-zero rec (times_end rec) (some-long n) s.1 }

  pub times-to : TimesSet rec → standing_of rec ≡ times_set
  unfolding standing_of
  times-to r =
      rw (eq-eqb (length rec) record_len r.long, fit-times rec r.long r.times, eq-eqb (state_of rec) times_set r.state, zero_rest rec (times_end rec) r.rest)

  -- what is not empty stands as its state says
  pub some-state : (standing_of rec ≡ empty → ⊥) → state_of rec ≡ standing_of rec
  some-state n = by (ℕ_discrete (standing_of rec) ready)
    where
      by : Dec (standing_of rec ≡ ready) → state_of rec ≡ standing_of rec
      by (yes e) = (ready-from e).state ∙ sym e
      by (no z) = let e : standing_of rec ≡ times_set = omega (arith, told.most) in (times-from e).state ∙ sym e

pub stands-as-it-is : StandsAsItIs
stands-as-it-is rec o =
    record { ready_from = ready-from rec; ready_to = ready-to rec (octet-below rec (times_end rec + 1) o); times_from = times-from rec; times_to = times-to rec; most = (told rec).most }
