-- Which lengths are refused 11, code by code: a code's layout, its count and its size are computed, and the reader's law does the rest.
use Prim.Native.Nat.{ℕ, ◌+◌, ◌*◌}
use mathlib.Core.Path.{◌≡◌, refl, sym, ap, ◌∙◌}
use mathlib.Core.List.{List, ◌∷◌}
use native.Mathlib.Omega.{arith}
use lib.ListN.{length}
use Rattle.octets.specs.First.{first_of}
use Rattle.message.specs.Reader.{Read}
use Rattle.message.specs.Layouts.{layouts, layout_at, known, number_of, rows_at, layout_rows}
use Rattle.message.specs.Values.{size_of, zeros, placed, first_out}
use Rattle.message.specs.Reader.{no_message, not_read, k_in, part_of, ranged_of, read_part_of, read_of}
use Rattle.message.specs.Counts.{CountAt, NoCount}
use Rattle.message.specs.Promises.{refused_reading, HasLayout, RightLength, unknown, wrong_length, out_of_range, accepted, Judged, short, body, LengthOf, CountFixes, LengthsAsSaid, AnswersTakeAny}
use Rattle.message.proofs.Numbers.{field-numbers}
use Rattle.message.proofs.Ranges.{le-both}
use Rattle.message.proofs.Counts.{counts-as-said}
use Rattle.message.proofs.ReadSo.{known_in, read-so}

module _ (high low : ℕ) where
  abbrev c : ℕ
  c = high * 256 + low

  abbrev l : ℕ
  l = number_of c

  abbrev k : List ℕ → ℕ
  k os = k_in (layout_at l) os

  module _ (kn : HasLayout l) where
    length-of : {Right : List ℕ → Type 0} → ((os : List ℕ) → Right os → RightLength l (k os) os) → ((os : List ℕ) → RightLength l (k os) os → Right os)
        → LengthOf high low Right
    length-of {Right} to from =
        record {
          wrong = λ os n. sym ((read-so (high ∷ low ∷ os) (refused_reading 11 0)).0 (body (omega arith) (wrong_length kn (λ r. n (from os r)))));
          right = λ os r e. by os r ((read-so (high ∷ low ∷ os) (read_of (high ∷ low ∷ os))).1 refl) e;
        }
      where
        by : (os : List ℕ) → Right os → {r : Read} → Judged (high ∷ low ∷ os) r → r.refusal ≡ 11 → ⊥
        by os r (short h) e = omega arith
        by os r (body h (unknown n)) e = omega arith
        by os r (body h (wrong_length _ n)) e = n (to os r)
        by os r (body h (out_of_range n _ _ w)) e = omega arith
        by os r (body h (accepted _ _ a)) e = omega arith

    -- no field is repeated, so k is 0
    plain : {n : ℕ} → NoCount c → size_of (rows_at l 0) ≡ n → LengthOf high low (λ os. length os ≡ n)
    plain w es =
        length-of (λ os e. record { fewest = omega (arith, w.fewest); most = omega (arith, w.octets os); octets = rw (w.octets os) (e ∙ sym es) })
        (λ os r. rw (w.octets os) at r.octets ∙ es)

    counted : {place once each : ℕ} → CountAt c place → ((k : ℕ) → size_of (rows_at l k) ≡ once + each * k) → LengthOf high low (CountFixes place once each)
    counted {place} w es =
        length-of
        (λ os r.
        record { fewest = rw (w.fewest, w.octets os) r.fewest; most = rw (w.most, w.octets os) r.most; octets = rw (w.octets os) (r.octets ∙ sym (es _)) })
        (λ os r.
        record { fewest = rw (w.fewest, w.octets os) at r.fewest; most = rw (w.most, w.octets os) at r.most; octets = rw (w.octets os) at r.octets ∙ es _ })

pub lengths-as-said : LengthsAsSaid
unfolding number_of first_of layouts layout_at known
lengths-as-said =
    record {
      carried_out = plain 0x0F 0x80 (known_in 1 refl) counts-as-said.carried_out (field-numbers.carried_out 0).size;
      refused = plain 0x0F 0x81 (known_in 2 refl) counts-as-said.refused (field-numbers.refused 0).size;
      set_times = counted 0x5F 0x14 (known_in 3 refl) counts-as-said.set_times (λ k. (field-numbers.set_times k).size);
      report_times = counted 0x5F 0xC4 (known_in 4 refl) counts-as-said.report_times (λ k. (field-numbers.report_times k).size);
      set_plan = counted 0x5F 0x15 (known_in 5 refl) counts-as-said.set_plan (λ k. (field-numbers.set_plan k).size);
      report_plan = counted 0x5F 0xC5 (known_in 6 refl) counts-as-said.report_plan (λ k. (field-numbers.report_plan k).size);
      report_running = counted 0x5F 0xC8 (known_in 7 refl) counts-as-said.report_running (λ k. (field-numbers.report_running k).size);
      run = plain 0x5F 0x18 (known_in 8 refl) counts-as-said.run (field-numbers.run 0).size;
      query_times = plain 0x5F 0x44 (known_in 9 refl) counts-as-said.query_times (field-numbers.query_times 0).size;
      query_plan = plain 0x5F 0x45 (known_in 10 refl) counts-as-said.query_plan (field-numbers.query_plan 0).size;
      query_running = plain 0x5F 0x48 (known_in 11 refl) counts-as-said.query_running (ap size_of (field-numbers.query_running 0));
    }

-- every value that fits its octets is in range
pub answers-take-any : AnswersTakeAny
unfolding number_of first_of layouts layout_at known rows_at layout_rows zeros placed first_out no_message not_read part_of ranged_of read_part_of read_of
answers-take-any =
    record {
      carried_out = λ a b o. rw (le-both 0 (a * 256 + b) (a * 256 + b) 65535 (omega arith, omega (arith, o.0, o.1.0)), first_of);
      refused = λ a b e p o.
          rw (le-both 0 (a * 256 + b) (a * 256 + b) 65535 (omega arith, omega (arith, o.0, o.1.0)), first_of)
          (rw (le-both 0 e e 255 (omega arith, omega (arith, o.1.1.0)), first_of) (rw (le-both 0 p p 255 (omega arith, omega (arith, o.1.1.1.0)), first_of)));
    }
