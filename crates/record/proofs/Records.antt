-- Which octets are a record: the names stand at 01's numbers (`record-as-said`), so what is said by the one is said by the other.
use Prim.Native.Nat.{ℕ, ◌+◌, ◌*◌, ◌-◌}
use mathlib.Core.Path.{◌≡◌, refl}
use mathlib.Core.List.{List}
use native.Mathlib.Omega.{arith}
use lib.ListN.{get_or, drop, replicate}
use Rattle.record.specs.Record.{record_len, times_end, ready_end, Within, TimesFit, AllTimesFit, GreensFit, ZeroFrom}
use Rattle.record.specs.Promises.{EachPlace, Ranges, PhaseTimes, TimesOfAll, PlanOfAll, RecordsAsSaid}
use Rattle.record.proofs.Places.{record-as-said}

ranges : {l x y m : ℕ} → x ≡ y → Within l x m → Ranges l y m
ranges e w = (rw (← e) w.least, rw (← e) w.most)

within : {l x y m : ℕ} → x ≡ y → Ranges l y m → Within l x m
within e r = record { least = rw e r.0; most = rw e r.1 }

zero-from : (rec : List ℕ) (m n r : ℕ) → m ≡ n → record_len - n ≡ r → (ZeroFrom rec m → drop n rec ≡ replicate r 0) × (drop n rec ≡ replicate r 0 → ZeroFrom rec m)
zero-from rec m n r e f = (λ z. rw (← e, ← f, ← e) z, λ z. rw (e, f) z)

module _ (rec : List ℕ) where
  abbrev k : ℕ
  k = get_or rec 1 0

  p : EachPlace rec k
  p = record-as-said.1 rec

  phase-to : (i : ℕ) → TimesFit rec i → PhaseTimes rec i
  phase-to i f =
      record {
        minimum = ranges (p.minimum i) f.minimum;
        maximum = ranges (p.maximum i) f.maximum;
        yellow = ranges (p.yellow i) f.yellow;
        all_red = ranges (p.all_red i) f.all_red;
        walk_flash = ranges (p.walk_flash i) f.walk_flash;
        red_man = ranges (p.red_man i) f.red_man;
        ordered = rw (← p.maximum i) f.ordered;
        walk = rw (← p.walk_flash i, ← p.red_man i) f.walk;
      }

  phase-from : (i : ℕ) → PhaseTimes rec i → TimesFit rec i
  phase-from i f =
      record {
        minimum = within (p.minimum i) f.minimum;
        maximum = within (p.maximum i) f.maximum;
        yellow = within (p.yellow i) f.yellow;
        all_red = within (p.all_red i) f.all_red;
        walk_flash = within (p.walk_flash i) f.walk_flash;
        red_man = within (p.red_man i) f.red_man;
        ordered = rw (p.maximum i) f.ordered;
        walk = rw (p.walk_flash i, p.red_man i) f.walk;
      }

  times-to : AllTimesFit rec → TimesOfAll rec k
  times-to a = record { count = ranges refl a.count; phases = λ i l. phase-to i (a.phases i l) }

  times-from : TimesOfAll rec k → AllTimesFit rec
  times-from a = record { count = within refl a.count; phases = λ i l. phase-from i (a.phases i l) }

  plan-to : GreensFit rec → PlanOfAll rec k
  plan-to g =
      record {
        direct = ranges p.direct g.direct;
        diagram = rw (← p.order) g.count;
        green = λ i l. (omega (arith, (g.green i l).least, p.minimum i, p.green i), omega (arith, (g.green i l).most, p.maximum i, p.green i));
        cycle = rw (← p.cycle) g.cycle;
        most = rw (← p.cycle) g.most;
        offset = rw (← p.cycle, ← p.offset) g.offset;
      }

  plan-from : PlanOfAll rec k → GreensFit rec
  plan-from g =
      record {
        direct = within p.direct g.direct;
        count = rw p.order g.diagram;
        green = λ i l.
            record {
              least = omega (arith, (g.green i l).0, p.minimum i, p.green i);
              most = omega (arith, (g.green i l).1, p.maximum i, p.green i);
            };
        cycle = rw p.cycle g.cycle;
        most = rw p.cycle g.most;
        offset = rw (p.cycle, p.offset) g.offset;
      }

pub records-as-said : RecordsAsSaid
records-as-said rec =
    let n = get_or rec 1 0 in
    let set = zero-from rec (times_end rec) (2 + 7 * n) (78 - 7 * n) refl (omega arith) in
    let end = zero-from rec (ready_end rec) (8 + 9 * n) (72 - 9 * n) (omega arith) (omega arith) in
    record {
      within = λ l x m. (ranges refl, within refl);
      phase = λ i. (phase-to rec i, phase-from rec i);
      times = (times-to rec, times-from rec);
      empty = (λ e. e.zero, λ e. record { zero = e });
      times_set = (
        λ t. record { long = t.long; state = t.state; times = times-to rec t.times; rest = set.0 t.rest },
        λ t. record { long = t.long; state = t.state; times = times-from rec t.times; rest = set.1 t.rest },
      );
      ready = (
        λ r. record { long = r.long; state = r.state; times = times-to rec r.times; plan = plan-to rec r.greens; rest = end.0 r.rest },
        λ r. record { long = r.long; state = r.state; times = times-from rec r.times; greens = plan-from rec r.plan; rest = end.1 r.rest },
      );
    }
