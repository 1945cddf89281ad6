-- What follows from the definitions of specs/, over any seconds of the steps.
use Prim.Native.Nat.{ℕ, zero, suc, ◌+◌, ◌*◌, ◌-◌, ◌≤◌, ◌<◌}
use mathlib.Core.Path.{◌≡◌, refl, sym, ap, ◌∙◌}
use mathlib.Core.List.{List, [], ◌∷◌, ◌++◌, append_assoc}
use native.Mathlib.Decide.{dec_lt, ℕ_discrete}
use native.Mathlib.Numerals.{add-one}
use native.Mathlib.Omega.{arith}
use borrow.Author.Tests.{le-leb, lt-leb}
use lib.ListN.{length, get_or, length-append, get_or-append}
use lib.Seq.{get_or-append-add}
use Rattle.diagram.specs.Table.{steps_aphase}
use Rattle.record.specs.Record.{k_of, order_of}
use Rattle.lamps.specs.declared.Row.{Row}
use Rattle.lamps.specs.Rows.{phase_table, table_sum, steps_of_plan, phase_of, line_of, seconds_of, row_of, counted_down, rows_from, rows_of, phase_rows, no_row, row_at}
use Rattle.lamps.specs.Promises.{seconds_to, step_in, Due, WithinSteps, Each, Stretch}

-- Seconds

module _ (rec : List ℕ) (step : ℕ) where
  pub seconds-none : step ≡ 0 → 0 ≡ seconds_of rec step
  unfolding seconds_of
  seconds-none z = rw z

  pub seconds-past : steps_of_plan rec < step → 0 ≡ seconds_of rec step
  unfolding seconds_of
  seconds-past h = rw (le-leb 1 step (omega arith), lt-leb step (steps_of_plan rec) h)

  pub seconds-in : (i j : ℕ) → 1 ≤ step → step ≤ steps_of_plan rec → i ≡ phase_of step → j ≡ line_of step → get_or (phase_table rec i) j 0 ≡ seconds_of rec step
  unfolding seconds_of
  seconds-in i j h l ei ej = rw (le-leb 1 step h, le-leb step (steps_of_plan rec) l, ei, ej)

-- a step of phase i, by its line of the phase's table
pub seconds-line : (rec : List ℕ) (i : ℕ) → i < k_of rec → (j step : ℕ) → j < steps_aphase → step ≡ step_in i (j + 1) → get_or (phase_table rec i) j 0 ≡ seconds_of rec step
seconds-line rec i h j step l e = seconds-in rec step i j (omega arith) (omega arith) (omega arith) (omega arith)

-- the same where the code holds the table
pub seconds-here : (rec : List ℕ) (i : ℕ) → i < k_of rec → (j step : ℕ) (table : List ℕ) → table ≡ phase_table rec i → j < steps_aphase → step ≡ step_in i (j + 1)
    → get_or table j 0 ≡ seconds_of rec step
seconds-here rec i h j step table t l e = rw t (seconds-line rec i h j step l e)

module _ (sec : ℕ → ℕ) where
  pub seconds-next : (n m : ℕ) → m ≡ n + 1 → seconds_to sec m ≡ seconds_to sec n + sec m
  unfolding seconds_to
  seconds-next n m e = rw (e, add-one n)

  pub seconds-grow : (m n : ℕ) → m ≤ n → seconds_to sec m ≤ seconds_to sec n
  unfolding seconds_to
  seconds-grow m zero h = let e : m ≡ 0 = omega arith in rw e (omega arith)
  seconds-grow m (suc n) h = by (ℕ_discrete m (suc n)) (seconds-grow m n)
    where
      by : Dec (m ≡ suc n) → (m ≤ n → seconds_to sec m ≤ seconds_to sec n) → seconds_to sec m ≤ seconds_to sec (suc n)
      by (yes e) f = rw e (omega arith)
      by (no g) f = omega (arith, f (omega arith))

-- Rows

counted-length : (order step n : ℕ) → length (counted_down order step n) ≡ n
unfolding counted_down
counted-length order step zero = refl
counted-length order step (suc n) = ap suc (counted-length order step n)

counted-at : (order step n p : ℕ) → p < n → get_or (counted_down order step n) p no_row ≡ row_of order step (n - p)
unfolding counted_down
counted-at order step zero p h = absurd (omega arith)
counted-at order step (suc n) zero h = let e : suc n ≡ suc n - 0 = omega arith in ap (row_of order step) e
counted-at order step (suc n) (suc p) h = let e : n - p ≡ suc n - suc p = omega arith in counted-at order step n p (omega arith) ∙ ap (row_of order step) e

module _ (sec : ℕ → ℕ) (order : ℕ) where
  -- a place within the first step, and one past it
  pub row_here : (step n p : ℕ) → p < sec step → get_or (rows_from sec order step (suc n)) p no_row ≡ row_of order step (sec step - p)
  unfolding rows_from
  row_here step n p h =
      get_or-append (counted_down order step (sec step)) (rows_from sec order (step + 1) n) no_row p (omega (arith, counted-length order step (sec step)))
      ∙ counted-at order step (sec step) p h

  pub row_on : (step n p : ℕ) → sec step ≤ p → get_or (rows_from sec order step (suc n)) p no_row ≡ get_or (rows_from sec order (step + 1) n) (p - sec step) no_row
  unfolding rows_from
  row_on step n p h =
      let e : p ≡ length (counted_down order step (sec step)) + (p - sec step) = omega (arith, counted-length order step (sec step)) in
      ap (λ (x : ℕ). get_or (counted_down order step (sec step) ++ rows_from sec order (step + 1) n) x no_row) e
      ∙ get_or-append-add (counted_down order step (sec step)) (rows_from sec order (step + 1) n) (p - sec step) no_row

  -- the rows of n steps after t are as many as the steps have seconds
  pub rows_long : (t n u : ℕ) → u ≡ t + n → seconds_to sec t + length (rows_from sec order (t + 1) n) ≡ seconds_to sec u
  unfolding rows_from
  rows_long t zero u e = omega (arith, ap (seconds_to sec) (let q : u ≡ t = omega arith in q))
  rows_long t (suc n) u e =
      omega (
        arith,
        length-append (counted_down order (t + 1) (sec (t + 1))) (rows_from sec order (t + 1 + 1) n),
        counted-length order (t + 1) (sec (t + 1)),
        seconds-next sec t (t + 1) refl,
        rows_long (t + 1) n u (omega arith),
      )

  pub rows_all : (n : ℕ) → length (rows_from sec order 1 n) ≡ seconds_to sec n
  unfolding seconds_to
  rows_all n = omega (arith, rows_long 0 n n (omega arith))

  -- m steps after t, and then the n after those
  pub rows-part : (t m n u : ℕ) → u ≡ t + m → rows_from sec order (t + 1) (m + n) ≡ rows_from sec order (t + 1) m ++ rows_from sec order (u + 1) n
  unfolding rows_from
  rows-part t zero n u e = let z : 0 + n ≡ n = omega arith in let q : u ≡ t = omega arith in rw (z, q)
  rows-part t (suc m) n u e =
      let q : suc m + n ≡ suc (m + n) = omega arith in
      rw (q, append_assoc) (ap (λ (l : List Row). counted_down order (t + 1) (sec (t + 1)) ++ l) (rows-part (t + 1) m n u (omega arith)))

  -- m steps after t that have so many seconds: past these the rows are those of the others, and before them those of the steps alone
  module _ (t m n u s p : ℕ) (e : u ≡ t + m) (long : seconds_to sec u ≡ seconds_to sec t + s) where
    pub rows-over : s ≤ p → get_or (rows_from sec order (t + 1) (m + n)) p no_row ≡ get_or (rows_from sec order (u + 1) n) (p - s) no_row
    rows-over h =
        let l : p ≡ length (rows_from sec order (t + 1) m) + (p - s) = omega (arith, rows_long t m u e, long) in
        rw (rows-part t m n u e)
        (ap (λ (x : ℕ). get_or (rows_from sec order (t + 1) m ++ rows_from sec order (u + 1) n) x no_row) l
        ∙ get_or-append-add (rows_from sec order (t + 1) m) (rows_from sec order (u + 1) n) (p - s) no_row)

    pub rows-within : p < s → get_or (rows_from sec order (t + 1) (m + n)) p no_row ≡ get_or (rows_from sec order (t + 1) m) p no_row
    rows-within h =
        rw (rows-part t m n u e)
        (get_or-append (rows_from sec order (t + 1) m) (rows_from sec order (u + 1) n) no_row p (omega (arith, rows_long t m u e, long)))

  -- the first second of the step after t, if it has one
  pub row_first : (t step n : ℕ) → step ≡ t + 1 → step ≤ n → 1 ≤ sec step → get_or (rows_from sec order 1 n) (seconds_to sec t) no_row ≡ row_of order step (sec step)
  row_first t step n e h l =
      let m : n ≡ t + suc (n - step) = omega arith in
      let p : seconds_to sec t ≡ length (rows_from sec order 1 t) + 0 = omega (arith, rows_all t) in
      let z : sec step - 0 ≡ sec step = omega arith in
      ap (λ (x : ℕ). get_or (rows_from sec order 1 x) (seconds_to sec t) no_row) m
      ∙ rw (rows-part 0 t (suc (n - step)) t (omega arith), p, ← e) (get_or-append-add (rows_from sec order 1 t) (rows_from sec order step (suc (n - step))) 0 no_row)
      ∙ row_here step (n - step) 0 l
      ∙ ap (row_of order step) z

  -- what n steps after t show at place p: the first of them
  here-due : (t n p : ℕ) → 1 ≤ n → p < sec (t + 1) → Due sec order (t + n) (seconds_to sec t + p) (row_of order (t + 1) (sec (t + 1) - p))
  here-due t n p h l =
      record {
        first = omega arith;
        last = omega arith;
        begun = let e : t + 1 - 1 ≡ t = omega arith in rw e (omega arith);
        some = omega arith;
        left = omega (arith, seconds-next sec t (t + 1) refl);
        steady = refl;
        flashing = refl;
      }

  -- or what the others show, its seconds later
  pub rows-due : (t n p : ℕ) → p < length (rows_from sec order (t + 1) n)
      → Due sec order (t + n) (seconds_to sec t + p) (get_or (rows_from sec order (t + 1) n) p no_row)
  unfolding rows_from
  rows-due t zero p h = absurd (omega arith)
  rows-due t (suc n) p h = by (dec_lt p v) (λ (q : ℕ) l. rows-due (t + 1) n q l)
    where
      v : ℕ
      v = sec (t + 1)

      rest : List Row
      rest = rows_from sec order (t + 1 + 1) n

      by : Dec (p < v) → ((q : ℕ) → q < length rest → Due sec order (t + 1 + n) (seconds_to sec (t + 1) + q) (get_or rest q no_row))
          → Due sec order (t + suc n) (seconds_to sec t + p) (get_or (rows_from sec order (t + 1) (suc n)) p no_row)
      by (yes l) f = rw (row_here (t + 1) n p l) (here-due t (suc n) p (omega arith) l)
      by (no g) f =
          let e : seconds_to sec (t + 1) + (p - v) ≡ seconds_to sec t + p = omega (arith, seconds-next sec t (t + 1) refl) in
          let m : t + 1 + n ≡ t + suc n = omega arith in
          let k : p - v < length rest = omega (arith, length-append (counted_down order (t + 1) v) rest, counted-length order (t + 1) v) in
          rw (row_on (t + 1) n p (omega arith), ← e, ← m) (f (p - v) k)

  each_append : (P : Row → Type 0) (xs ys : List Row) → Each P xs → Each P ys → Each P (xs ++ ys)
  each_append P [] ys p q = q
  each_append P (x ∷ xs) ys p q = (p.0, each_append P xs ys p.1 q)

  each-counted : (first last step n : ℕ) → first ≤ step → step ≤ last → Each (WithinSteps order first last) (counted_down order step n)
  unfolding counted_down
  each-counted first last step zero lo hi = tt
  each-counted first last step (suc n) lo hi = (record { least = lo; most = hi; steady = refl; flashing = refl }, each-counted first last step n lo hi)

  each_row : (first last t n : ℕ) → first ≤ t + 1 → t + n ≤ last → Each (WithinSteps order first last) (rows_from sec order (t + 1) n)
  unfolding rows_from
  each_row first last t zero lo hi = tt
  each_row first last t (suc n) lo hi =
      each_append (WithinSteps order first last) (counted_down order (t + 1) (sec (t + 1))) (rows_from sec order (t + 1 + 1) n)
      (each-counted first last (t + 1) (sec (t + 1)) lo (omega arith))
      (each_row first last (t + 1) n (omega arith) (omega arith))

  -- n steps after t are a stretch of all their seconds
  pub rows-stretch : (t n first last seconds : ℕ) → first ≡ t + 1 → last ≡ t + n → seconds_to sec last ≡ seconds_to sec t + seconds
      → Stretch order first last seconds (rows_from sec order (t + 1) n)
  rows-stretch t n first last seconds lo hi e =
      record {
        long = omega (arith, rows_long t n last hi, e);
        steps = each_row first last t n (omega arith) (omega arith);
      }

-- The search for a phase, which stands before phase i with p of the position left

-- the rows of phase i and of those after it
abbrev pub from_phase : List ℕ → ℕ → List Row
from_phase rec i = rows_from (seconds_of rec) (order_of rec) (steps_aphase * i + 1) (steps_aphase * (k_of rec - i))

pub phases-begin : (rec : List ℕ) (p : ℕ) → get_or (from_phase rec 0) p no_row ≡ row_at rec p
unfolding row_at rows_of
phases-begin rec p = let n : k_of rec - 0 ≡ k_of rec = omega arith in rw n

pub phases-past : (rec : List ℕ) (i p : ℕ) → k_of rec ≤ i → no_row ≡ get_or (from_phase rec i) p no_row
unfolding rows_from
phases-past rec i p h = let e : k_of rec - i ≡ 0 = omega arith in rw e

module _ (rec : List ℕ) (i : ℕ) (h : i < k_of rec) where
  abbrev up_to : ℕ → ℕ
  up_to n = seconds_to (seconds_of rec) n

  pub step_end : (j : ℕ) → j < steps_aphase → up_to (step_in i (j + 1)) ≡ up_to (step_in i j) + get_or (phase_table rec i) j 0
  step_end j l = omega (arith, seconds-next (seconds_of rec) (step_in i j) (step_in i (j + 1)) (omega arith), seconds-line rec i h j (step_in i (j + 1)) l refl)

  table-end : up_to (steps_aphase * (i + 1)) ≡ up_to (steps_aphase * i) + table_sum (phase_table rec i)
  table-end =
      let first : steps_aphase * i ≡ step_in i 0 = omega arith in
      let last : steps_aphase * (i + 1) ≡ step_in i 5 = omega arith in
      rw (first, last) (omega (arith, step_end 0 (omega arith), step_end 1 (omega arith), step_end 2 (omega arith), step_end 3 (omega arith), step_end 4 (omega arith)))

  one-phase : steps_aphase * (k_of rec - i) ≡ steps_aphase + steps_aphase * (k_of rec - (i + 1))
  one-phase = omega arith

  module _ (s p : ℕ) (es : s ≡ table_sum (phase_table rec i)) where
    -- a phase's five steps may be skipped by their sum
    pub phase-over : s ≤ p → get_or (from_phase rec (i + 1)) (p - s) no_row ≡ get_or (from_phase rec i) p no_row
    phase-over l =
        rw one-phase
        (sym (rows-over (seconds_of rec) (order_of rec) (steps_aphase * i) steps_aphase (steps_aphase * (k_of rec - (i + 1))) (steps_aphase * (i + 1)) s p (omega arith) (omega (arith, table-end, es)) l))

    pub phase-here : p < s → get_or (phase_rows rec i) p no_row ≡ get_or (from_phase rec i) p no_row
    phase-here l =
        rw one-phase
        (sym (rows-within (seconds_of rec) (order_of rec) (steps_aphase * i) steps_aphase (steps_aphase * (k_of rec - (i + 1))) (steps_aphase * (i + 1)) s p (omega arith) (omega (arith, table-end, es)) l))

-- The search for a step, which stands at one before the end with p of the position left

pub steps-begin : (rec : List ℕ) (i first end p : ℕ) → first ≡ steps_aphase * i + 1 → end ≡ first + steps_aphase
    → get_or (rows_from (seconds_of rec) (order_of rec) first (end - first)) p no_row ≡ get_or (phase_rows rec i) p no_row
steps-begin rec i first end p f e = let n : end - first ≡ steps_aphase = omega arith in rw (n, f)

module _ (sec : ℕ → ℕ) (order step end p : ℕ) where
  pub search-ends : end ≤ step → no_row ≡ get_or (rows_from sec order step (end - step)) p no_row
  unfolding rows_from
  search-ends h = let e : end - step ≡ 0 = omega arith in rw e

  module _ (v : ℕ) (more : step < end) (ev : v ≡ sec step) where
    one_more : end - step ≡ suc (end - (step + 1))
    one_more = omega arith

    pub search-stops : p < v → row_of order step (v - p) ≡ get_or (rows_from sec order step (end - step)) p no_row
    search-stops h = rw (ev, one_more) (sym (row_here sec order step (end - (step + 1)) p (omega (arith, ev))))

    pub search-goes : v ≤ p → get_or (rows_from sec order (step + 1) (end - (step + 1))) (p - v) no_row ≡ get_or (rows_from sec order step (end - step)) p no_row
    search-goes h = rw (ev, one_more) (sym (row_on sec order step (end - (step + 1)) p (omega (arith, ev))))
