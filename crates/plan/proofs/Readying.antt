-- A 5F 15 is stored exactly when its checks pass.
use Prim.Native.Nat.{ℕ, zero, suc, ◌+◌, ◌*◌, ◌-◌, ◌≤◌, ◌<◌}
use mathlib.Core.Path.{◌≡◌, refl, sym, ap, subst, ◌∙◌}
use mathlib.Core.Logic.{◌↔◌, inl, inr}
use mathlib.Core.List.{List, ◌∷◌, ◌++◌, append_assoc}
use native.Mathlib.Decide.{dec_lt, ℕ_discrete}
use native.Mathlib.Omega.{arith}
use borrow.Author.Tests.{eqb-true, eqb-false, leb-true, not-true, not-false}
use lib.Dec.{eqb}
use lib.ListN.{length, take, drop, replicate}
use lib.Seq.{sets}
use Rattle.octets.specs.First.{First, first_of}
use Rattle.octets.specs.Octet.{Octets}
use Rattle.octets.specs.Refusal as refusal
use Rattle.octets.proofs.Laws.{clash, octets-part}
use Rattle.diagram.specs.Table.{phases_of}
use Rattle.message.specs.Layouts.{layouts, layout_at, number_of, rows_at, layout_rows, greens, cycle_offset}
use Rattle.message.specs.Names.{plan_count_at}
use Rattle.message.specs.Reader.{code_in, body_in, read_of}
use Rattle.record.specs.Record.{record_len, book_len, empty, times_set, ready, octet_at, word_at, k_of, times_at, times_end, greens_at, ready_end, minimum_of, maximum_of, direct_of, order_of, green_of, cycle_of, offset_of, sum_of, Within, AllTimesFit, Ready}
use Rattle.checks.specs.Standing.{plan_fails, plan_checks, plan_disagree, standing_of, Stands}
use Rattle.plan.specs.BuiltIn.{padded}
use Rattle.plan.specs.Reading.{record_start, record_at}
use Rattle.plan.specs.Setting.{plan_in, count_in, Setting, answered, ready_record, plan_field, ready_made, set_plan_code, set_plan_of}
use Rattle.plan.specs.Promises.{direct_in, order_in, green_in, cycle_in, offset_in, sum_in, Ranges15, HasTimes, CountAgrees, GreenAgrees, Fit15, Disagrees15, count, green, cycle, offset, RecordStored, SameTimes, Holds15, PlanStoredExactlyWhen}
use Rattle.checks.proofs.Fields.{ranged-repeated}
use Rattle.checks.proofs.Stands.{PlanAgrees, plan-first, plan-agrees, agrees-plan, agree-greens, green-within, within-green, check-green, check-cycle, check-offset, stands-as-it-is}
use Rattle.plan.proofs.Ranges.{InRanges, set-plan, read-ranges}
use Rattle.plan.proofs.Sets.{read-plan, padded-at, padded-long, padded-rest, ready_octets, ready-long, ready-times, ready-two, ready-rest, ready-k, ready-unset, ready-count, ready-not, ready-is}
use Rattle.plan.proofs.Storing.{stored_here, Makes, unset, refused, fits, set-made, judged, same-times, same-fit}

one-run : (x : ℕ) (xs ys zs ws : List ℕ) → (x ∷ (xs ++ (ys ++ zs))) ++ ws ≡ x ∷ (xs ++ (ys ++ (zs ++ ws)))
one-run x xs ys zs ws = ap (λ (l : List ℕ). x ∷ l) (append_assoc xs (ys ++ zs) ws ∙ ap (λ (l : List ℕ). xs ++ l) (append_assoc ys zs ws))

-- The ranges

module _ (body : List ℕ) where
  pub in-ranges : InRanges 0x5F15 3 8 2 body ↔ Ranges15 body
  unfolding number_of first_of rows_at layout_rows layout_at layouts
  in-ranges =
      let greens = ranged-repeated body greens cycle_offset (count_in body) 4 in (
        λ r.
            let p = r.ranges in
            let g = greens.0 p.1.1.1.1 in
            record {
              long = r.long;
              plan = p.0;
              direct = p.1.0;
              order = p.1.1.0;
              count = r.count;
              green = λ i l. (g.0 i l).0;
              cycle = g.1.0;
              offset = g.1.1.0;
            },
        λ r.
            record {
              long = r.long;
              count = r.count;
              ranges = (r.plan, (r.direct, (r.order, (r.count, greens.1 (λ i l. (r.green i l, tt), (r.cycle, (r.offset, tt)))))));
            },
      )

-- A plan that has times

module _ (rec : List ℕ) where
  has-long : HasTimes rec → length rec ≡ record_len
  has-long (inl t) = t.long
  has-long (inr r) = r.long

  has-fit : HasTimes rec → AllTimesFit rec
  has-fit (inl t) = t.times
  has-fit (inr r) = r.times

  pub has-ends : HasTimes rec → times_end rec ≤ length rec
  has-ends h = omega (arith, has-long h, (has-fit h).count.most)

  module _ (o : Octets rec) where
    s : Stands rec
    s = stands-as-it-is rec o

    pub stands-has : (standing_of rec ≡ empty → ⊥) → HasTimes rec
    stands-has n = by (ℕ_discrete (standing_of rec) times_set)
      where
        by : Dec (standing_of rec ≡ times_set) → HasTimes rec
        by (yes e) = inl (s.times_from e)
        by (no g) = inr (s.ready_from (omega (arith, s.most)))

    pub has-stands : HasTimes rec → standing_of rec ≡ empty → ⊥
    has-stands (inl t) e = absurd (omega (arith, s.times_to t))
    has-stands (inr r) e = absurd (omega (arith, s.ready_to r))

-- The record that a 5F 15 makes has the stored times and the message's fields

module _ (old body : List ℕ) (h : HasTimes old) (r : Ranges15 body) (e : count_in body ≡ k_of old) where
  abbrev m : List ℕ
  m = ready_record old body

  abbrev k : ℕ
  k = k_of old

  long-body : 4 ≤ length body
  long-body = omega (arith, r.long)

  m-k : k_of m ≡ k
  m-k = ready-k old body (has-ends old h) long-body

  m-octet : (i : ℕ) → i < k → (j : ℕ) → times_at i ≤ j → j < times_at i + 7 → octet_at m j ≡ octet_at old j
  m-octet i l j a b = ready-times old body (has-ends old h) long-body j (omega arith) (omega arith)

  m-times : (i : ℕ) → i < k → SameTimes m old i
  m-times i l = same-times m old i (m-octet i l)

  m-direct : direct_of m ≡ direct_in body
  m-direct = let q : times_at (k_of m) ≡ times_end old + 0 = omega (arith, m-k) in ap (octet_at m) q ∙ ready-two old body (has-ends old h) long-body 0 (omega arith)

  m-order : order_of m ≡ order_in body
  m-order = let q : times_at (k_of m) + 1 ≡ times_end old + 1 = omega (arith, m-k) in ap (octet_at m) q ∙ ready-two old body (has-ends old h) long-body 1 (omega arith)

  m-word : (at j : ℕ) → at ≡ times_end old + (2 + j) → word_at m at ≡ word_at body (4 + j)
  m-word at j q =
      let q' : at + 1 ≡ times_end old + (2 + (j + 1)) = omega arith in
      let b : 4 + (j + 1) ≡ 4 + j + 1 = omega arith in
      rw (q', q, ready-rest old body (has-ends old h) long-body j, ready-rest old body (has-ends old h) long-body (j + 1), b)

  m-green : (i : ℕ) → green_of m i ≡ green_in body i
  m-green i = m-word (greens_at m + 2 * i) (2 * i) (omega (arith, m-k))

  m-cycle : cycle_of m ≡ cycle_in body
  m-cycle = m-word (greens_at m + 2 * k_of m) (2 * k_of m) (omega (arith, m-k)) ∙ ap (λ (n : ℕ). word_at body (4 + 2 * n)) (m-k ∙ sym e)

  m-offset : offset_of m ≡ offset_in body
  m-offset =
      let a : 4 + (2 * k_of m + 2) ≡ 4 + 2 * count_in body + 2 = omega (arith, m-k, e) in
      m-word (greens_at m + 2 * k_of m + 2) (2 * k_of m + 2) (omega (arith, m-k)) ∙ ap (word_at body) a

  m-sum : (n : ℕ) → n ≤ k → sum_of m n ≡ sum_in old body n
  m-sum zero l = refl
  m-sum (suc n) l = rw (m-sum n (omega arith), m-green n, (m-times n l).yellow, (m-times n l).all_red)

  m-within : (i : ℕ) → i < k → Within (minimum_of m i) (green_of m i) (maximum_of m i) ≡ GreenAgrees old body i
  m-within i l = rw ((m-times i l).minimum, (m-times i l).maximum, m-green i)

  m-total : sum_of m (k_of m) ≡ sum_in old body (count_in body)
  m-total = ap (sum_of m) (m-k ∙ sym e) ∙ m-sum (count_in body) (omega (arith, e))

  -- its checks are those of the message
  module _ (f : Fit15 old body) where
    m-agrees : PlanAgrees m
    m-agrees =
        record {
          count = m-k ∙ (sym e ∙ (f.count.diagram ∙ ap phases_of (sym m-order)));
          green = λ i l. rw (m-within i (omega (arith, m-k))) (f.green i (omega (arith, m-k, e)));
          cycle = m-cycle ∙ (f.cycle ∙ sym m-total);
          offset = rw (m-offset, m-cycle) f.offset;
        }

    m-len : length (ready_octets old body) ≡ times_end old + 2 + (length body - 4)
    m-len = ready-long old body (has-ends old h) long-body

    m-long : length m ≡ record_len
    unfolding ready_record
    m-long = padded-long (ready_octets old body) (omega (arith, m-len, r.long, e, (has-fit old h).count.most))

    m-ready : Ready m
    unfolding ready_record
    m-ready =
        record {
          long = m-long;
          state = padded-at (ready_octets old body) 0;
          times =
              record {
                count = rw m-k (has-fit old h).count;
                phases = λ i l. let l' : i < k = omega (arith, m-k) in same-fit m old i (m-octet i l') ((has-fit old h).phases i l');
              };
          greens = agree-greens m m-agrees (rw m-direct r.direct) (rw m-cycle r.cycle.most);
          rest = padded-rest (ready_octets old body) (ready_end m) (omega (arith, m-len, r.long, e, m-k));
        }

    m-octets : m ≡ 0x02 ∷ (take (1 + 7 * k) (drop 1 old) ++ (take 2 (drop 1 body) ++ (drop 4 body ++ replicate (72 - 9 * k) 0)))
    unfolding ready_record padded
    m-octets =
        let z : record_len - length (ready_octets old body) ≡ 72 - 9 * k = omega (arith, m-len, r.long, e) in
        let a : times_end old - 1 ≡ 1 + 7 * k = omega arith in
        rw (z, a) (one-run ready (take (1 + 7 * k) (drop 1 old)) (take 2 (drop 1 body)) (drop 4 body) (replicate (72 - 9 * k) 0))

    pub m-holds : Holds15 old body m
    m-holds =
        let green : (i : ℕ) → i < count_in body → green_of m i ≡ green_in body i = λ i l. m-green i in
        record { octets = m-octets; stands = m-ready; count = m-k; times = m-times; direct = m-direct; order = m-order; green = green; cycle = m-cycle; offset = m-offset }

  -- what the checks of the record say of the message
  m-count : k_of m ≡ phases_of (order_of m) → CountAgrees old body
  m-count c = record { stored = e; diagram = e ∙ (sym m-k ∙ (c ∙ ap phases_of m-order)) }

  m-fit : plan_disagree m ≡ 0 → Fit15 old body
  m-fit z =
      let a = plan-agrees m z in
      record {
        ranges = r;
        set = h;
        count = m-count a.count;
        green = λ i l. rw (m-within i (omega (arith, e))) at (a.green i (omega (arith, m-k, e)));
        cycle = sym m-cycle ∙ (a.cycle ∙ m-total);
        offset = rw (m-offset, m-cycle) at a.offset;
      }

  m-disagrees : (plan_disagree m ≡ 0 → ⊥) → Disagrees15 old body (plan_field (plan_disagree m))
  m-disagrees n = by (plan_disagree m) (plan-first m) n
    where
      counted : (n : ℕ) → First (plan_fails m) (plan_checks m) n → 1 < n → CountAgrees old body
      counted n f l = m-count (eqb-true (k_of m) (phases_of (order_of m)) (not-false (eqb (k_of m) (phases_of (order_of m))) (f.before 0 (omega arith))))

      greened : (n : ℕ) → First (plan_fails m) (plan_checks m) n → (j : ℕ) → j + 2 < n → j < k → GreenAgrees old body j
      greened n f j l lk = rw (m-within j lk) at (green-within m j (sym (check-green m j (omega (arith, m-k))) ∙ f.before (j + 1) (omega arith)))

      summed : (n : ℕ) → First (plan_fails m) (plan_checks m) n → k_of m + 2 < n → cycle_in body ≡ sum_in old body (count_in body)
      summed n f l =
          let c = not-false (eqb (cycle_of m) (sum_of m (k_of m))) (sym (check-cycle m) ∙ f.before (k_of m + 1) (omega arith)) in
          sym m-cycle ∙ (eqb-true (cycle_of m) (sum_of m (k_of m)) c ∙ m-total)

      by : (n : ℕ) → First (plan_fails m) (plan_checks m) n → (n ≡ 0 → ⊥) → Disagrees15 old body (plan_field n)
      by n f h0 = go (ℕ_discrete n 1) (dec_lt (k_of m + 1) n) (ℕ_discrete n (k_of m + 2))
        where
          go : Dec (n ≡ 1) → Dec (k_of m + 1 < n) → Dec (n ≡ k_of m + 2) → Disagrees15 old body (plan_field n)
          go (yes z) d d' =
              let x = eqb-false (k_of m) (phases_of (order_of m)) (not-true (eqb (k_of m) (phases_of (order_of m))) (f.here 0 (omega arith))) in
              let q : 4 ≡ plan_field n = omega arith in
              subst (Disagrees15 old body) q (count (λ a. x (m-k ∙ (sym e ∙ (a.diagram ∙ ap phases_of (sym m-order))))))
          go (no z) (no d) d' =
              let i : ℕ = n - 2 in
              let q : 5 + i ≡ plan_field n = omega arith in
              let t = sym (check-green m i (omega arith)) ∙ f.here (i + 1) (omega arith) in
              subst (Disagrees15 old body) q
              (green i (omega (arith, m-k, e)) (counted n f (omega arith)) (λ j l. greened n f j (omega arith) (omega (arith, m-k)))
              (λ w. clash (within-green m i (rw (m-within i (omega (arith, m-k))) w)) t))
          go (no z) (yes d) (yes c) =
              let x = eqb-false (cycle_of m) (sum_of m (k_of m)) (not-true (eqb (cycle_of m) (sum_of m (k_of m))) (sym (check-cycle m) ∙ f.here (k_of m + 1) (omega arith))) in
              let q : 5 + count_in body ≡ plan_field n = omega (arith, m-k, e) in
              subst (Disagrees15 old body) q
              (cycle (counted n f (omega arith)) (λ j l. greened n f j (omega (arith, m-k, e)) (omega (arith, e))) (λ y. x (m-cycle ∙ (y ∙ sym m-total))))
          go (no z) (yes d) (no c) =
              let n3 : n ≡ k_of m + 3 = omega (arith, f.within) in
              let q : 6 + count_in body ≡ plan_field n = omega (arith, m-k, e) in
              let x = leb-true (cycle_of m) (offset_of m) (sym (check-offset m) ∙ f.here (k_of m + 2) (omega arith)) in
              subst (Disagrees15 old body) q
              (offset (counted n f (omega arith)) (λ j l. greened n f j (omega (arith, m-k, e)) (omega (arith, e))) (summed n f (omega arith))
              (omega (arith, m-cycle, m-offset, x)))

-- Stored exactly when

module _ (book info : List ℕ) (hb : length book ≡ book_len) (ob : Octets book) (hc : code_in info ≡ set_plan_code) where
  abbrev os : List ℕ
  os = body_in info

  abbrev p : ℕ
  p = plan_in os

  abbrev old : List ℕ
  old = record_at book p

  old-octets : Octets old
  old-octets = octets-part record_len (record_start p) book ob

  abbrev m15 : List ℕ
  m15 = ready_record old os

  module _ (f : Fit15 old os) where
    fit-set : set_plan_of book info ≡ record { answer = answered refusal.none 0; book = sets book (record_start p) m15 }
    fit-set =
        set-made set_plan_code (ready_made old os) book info hb hc ((read-ranges set-plan info hc).1 ((in-ranges os).1 f.ranges))
        (ready-is old os refl (has-stands old old-octets f.set) refl refl f.count.stored refl refl
        (agrees-plan m15 (m-agrees old os f.set f.ranges f.count.stored f)))

    pub plan-stored : RecordStored book p m15 (set_plan_of book info).book
    plan-stored = rw fit-set (stored_here book p m15 hb f.ranges.plan.least f.ranges.plan.most (m-long old os f.set f.ranges f.count.stored f))

  makes : (read_of info).refusal ≡ refusal.none → Makes m15 (Fit15 old os) (HasTimes old) (Disagrees15 old os) (ready_made old os)
  makes e = by (ℕ_discrete (standing_of old) empty) (ℕ_discrete (count_in os) (k_of old)) (ℕ_discrete (plan_disagree m15) 0)
    where
      r : Ranges15 os
      r = (in-ranges os).0 (read-plan info e hc)

      by : Dec (standing_of old ≡ empty) → Dec (count_in os ≡ k_of old) → Dec (plan_disagree m15 ≡ 0) → Makes m15 (Fit15 old os) (HasTimes old) (Disagrees15 old os) (ready_made old os)
      by (yes z) d d' = rw (← ready-unset old os refl z) (unset (λ h. has-stands old old-octets h z))
      by (no hs) (no n) d = rw (← ready-count old os refl hs refl refl n) (refused plan_count_at (stands-has old old-octets hs) (count (λ a. n a.stored)))
      by (no hs) (yes ek) (no n) =
          let h = stands-has old old-octets hs in
          rw (← ready-not old os refl hs refl refl ek refl refl n refl) (refused (plan_field (plan_disagree m15)) h (m-disagrees old os h r ek n))
      by (no hs) (yes ek) (yes z) =
          let h = stands-has old old-octets hs in
          rw (← ready-is old os refl hs refl refl ek refl refl z) (fits h (m-fit old os h r ek z))

pub plan-stored-exactly-when : PlanStoredExactlyWhen
plan-stored-exactly-when book info hb ob hc =
    let j = judged set_plan_code (ready_made (old book info hb ob hc) (body_in info)) book info hb hc (makes book info hb ob hc) in
    record {
      rec = m15 book info hb ob hc;
      stored = plan-stored book info hb ob hc;
      holds = λ f. m-holds (old book info hb ob hc) (body_in info) f.set f.ranges f.count.stored f;
      accepted = λ f. ap (λ (w : Setting). w.answer.refusal) (fit-set book info hb ob hc f);
      none_named = λ f. ap (λ (w : Setting). w.answer.field) (fit-set book info hb ob hc f);
      only = j.only;
      kept = j.kept;
      unread = j.unread;
      unset = j.unset;
      named = j.named;
    }
