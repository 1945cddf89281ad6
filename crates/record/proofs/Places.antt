-- What stands where in a record, and which octets are one: each name's place is 01's number, by arithmetic.
use Prim.Native.Nat.{ℕ, ◌+◌, ◌*◌}
use mathlib.Core.Path.{◌≡◌, refl}
use mathlib.Core.List.{List}
use native.Mathlib.Numerals.{add-one}
use native.Mathlib.Omega.{arith}
use lib.ListN.{get_or}
use Rattle.record.specs.Record.{octet_at, word_at, yellow_of, all_red_of, green_of, sum_of}
use Rattle.record.specs.Promises.{word_from, RecordAsSaid}

module _ (rec : List ℕ) where
  octet : {m n : ℕ} → m ≡ n → octet_at rec m ≡ get_or rec n 0
  octet e = rw e

  word : {m n : ℕ} → m ≡ n → word_at rec m ≡ word_from rec n
  word e = rw e

  sum-next : (n : ℕ) → sum_of rec (n + 1) ≡ sum_of rec n + (word_from rec (4 + 7 * get_or rec 1 0 + 2 * n) + get_or rec (5 + 7 * n) 0 + get_or rec (6 + 7 * n) 0)
  sum-next n =
      let g : green_of rec n ≡ word_from rec (4 + 7 * get_or rec 1 0 + 2 * n) = word (omega arith) in
      let y : yellow_of rec n ≡ get_or rec (5 + 7 * n) 0 = octet (omega arith) in
      let a : all_red_of rec n ≡ get_or rec (6 + 7 * n) 0 = octet (omega arith) in
      rw (add-one n, ← g, ← y, ← a)

pub record-as-said : RecordAsSaid
record-as-said = (
  record { octets = refl; plans = refl; book = refl; empty_book = refl; empty = refl; times_set = refl; ready = refl },
  λ rec.
      record {
        octet = λ at. refl;
        word = λ at. word rec refl;
        state = refl;
        count = refl;
        minimum = λ i. refl;
        maximum = λ i. word rec (omega arith);
        yellow = λ i. octet rec (omega arith);
        all_red = λ i. octet rec (omega arith);
        walk_flash = λ i. octet rec (omega arith);
        red_man = λ i. octet rec (omega arith);
        times_end = refl;
        direct = refl;
        order = octet rec (omega arith);
        greens_at = omega arith;
        green = λ i. word rec (omega arith);
        cycle = word rec (omega arith);
        offset = word rec (omega arith);
        ready_end = omega arith;
        none = refl;
        sum = sum-next rec;
      },
)
