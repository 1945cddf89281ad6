-- What specs/Known.antt promises. Each line of the directory and each row of the table pass a computed test.
use Prim.Native.Nat.{ℕ, suc, ◌+◌, ◌-◌, ◌≤◌, ◌<◌}
use mathlib.Core.Path.{◌≡◌, refl, sym, ap, ◌∙◌}
use mathlib.Core.Bool.{Bool, true, false, ◌||◌}
use mathlib.Core.List.{List, [], ◌∷◌}
use native.Mathlib.Decide.{ℕ_discrete, dec_le, dec_lt}
use native.Mathlib.Omega.{arith}
use borrow.Author.Tests.{eq-eqb, ne_eqb, eqb-true, le-leb, lt-leb, leb-true, ltb-true}
use lib.Dec.{eqb, leb, ltb}
use lib.ListN.{length, get_or}
use Rattle.octets.specs.Choice.{pick, both}
use Rattle.octets.proofs.Every.{every, every-at, below, below_at, all, all-at}
use Rattle.diagram.specs.declared.LampRow.{LampRow}
use Rattle.diagram.specs.Row.{Diagram, diagram}
use Rattle.diagram.specs.Rows.{lamp_rows, directory}
use Rattle.diagram.specs.Table.{unknown, find, diagram_of, phases_of, steps_in, steps_of, row_number}
use Rattle.diagram.specs.Known.{no_line, line_at, Known, SupportedCodes, EachFound, KnownPhases, FiveSteps, EachUsed, AllDark, OutsideDark, Absent, UnknownDark}
use Rattle.diagram.proofs.Laws.{number-none, number_past, row-past}

-- What is not there

pub outside-dark : OutsideDark
outside-dark order step out = by (ℕ_discrete step 0) (dec_lt (steps_of order) step)
  where
    dark : length lamp_rows ≤ row_number order step → AllDark order step
    dark h = record { steady = ap (λ (r : LampRow). r.steady) (row-past order step h); flashing = ap (λ (r : LampRow). r.flashing) (row-past order step h) }

    by : Dec (step ≡ 0) → Dec (steps_of order < step) → AllDark order step
    by (yes z) l = dark (omega (arith, number-none order step z))
    by (no s) (yes l) = dark (omega (arith, number_past order step l))
    by (no s) (no l) = absurd (out (omega arith) (omega arith))

-- what the search finds: a line of the directory, or none
data Found (order : ℕ) (ds : List Diagram) : Type 0 where
  at : (i : ℕ) → i < length ds → (get_or ds i no_line).order ≡ order → find order ds ≡ get_or ds i no_line → Found order ds
  none : find order ds ≡ unknown order → Found order ds

found : (order : ℕ) (ds : List Diagram) → Found order ds
unfolding find
found order [] = none refl
found order (d ∷ ds) = by (ℕ_discrete d.order order) (found order ds)
  where
    by : Dec (d.order ≡ order) → Found order ds → Found order (d ∷ ds)
    by (yes e) f = at 0 (omega arith) e (rw (eq-eqb d.order order e))
    by (no ne) (at i h e p) = at (suc i) (omega arith) e (rw (ne_eqb d.order order ne) p)
    by (no ne) (none p) = none (rw (ne_eqb d.order order ne) p)

pub unknown-dark : UnknownDark
unfolding diagram_of
unknown-dark order out = by (found order directory)
  where
    by : Found order directory → Absent order
    by (at i h e p) = absurd (out (record { line = i; within = h; there = e }))
    by (none p) =
        let z : phases_of order ≡ 0 = ap (λ (d : Diagram). d.phases) p in
        record {
          phases = z;
          approaches = ap (λ (d : Diagram). d.approaches) p;
          steps = omega arith;
          dark = λ step. outside-dark order step (λ f l. omega (arith, f, l));
        }

-- an order with phases is known
pub phases-known : (order : ℕ) → 1 ≤ phases_of order → Known order
unfolding diagram_of
phases-known order h = by (found order directory)
  where
    by : Found order directory → Known order
    by (at i l e p) = record { line = i; within = l; there = e }
    by (none p) = absurd (omega (arith, ap (λ (d : Diagram). d.phases) p))

-- a test that each line passes, and an unknown order too, is passed by every order
pub found-passes : (test : Diagram → Bool) → every test directory ≡ true → ((order : ℕ) → test (unknown order) ≡ true)
    → (order : ℕ) → test (diagram_of order) ≡ true
unfolding diagram_of
found-passes test t u order = by (found order directory)
  where
    by : Found order directory → test (find order directory) ≡ true
    by (at i h e p) = rw p (every-at test directory i no_line t (λ l. absurd (omega arith)))
    by (none p) = rw p (u order)

pub phases-most : (order : ℕ) → phases_of order ≤ 8
unfolding every directory
phases-most order = leb-true (phases_of order) 8 (found-passes (λ d. leb d.phases 8) refl (λ _. refl) order)

-- The lines of the directory

fields : Diagram → Diagram → List Bool
fields d e = eqb d.order e.order ∷ eqb d.first e.first ∷ eqb d.phases e.phases ∷ eqb d.approaches e.approaches ∷ []

fields-same : (d e : Diagram) → all (fields d e) ≡ true → d ≡ e
unfolding fields
fields-same d e t =
    let o = eqb-true d.order e.order (all-at (fields d e) 0 t) in
    let f = eqb-true d.first e.first (all-at (fields d e) 1 t) in
    let p = eqb-true d.phases e.phases (all-at (fields d e) 2 t) in
    let a = eqb-true d.approaches e.approaches (all-at (fields d e) 3 t) in
    let same : diagram d.order d.first d.phases d.approaches ≡ diagram e.order e.first e.phases e.approaches = rw (o, f, p, a) in
    same

-- found by its order, and with phases
line_tests : Diagram → List Bool
line_tests d = all (fields (diagram_of d.order) d) ∷ leb 1 d.phases ∷ []

lines-pass : every (λ d. all (line_tests d)) directory ≡ true
unfolding every all fields line_tests directory diagram_of find
lines-pass = refl

module _ (i : ℕ) (h : i < length directory) where
  line-passes : (k : ℕ) → get_or (line_tests (line_at i)) k true ≡ true
  line-passes k = all-at (line_tests (line_at i)) k (every-at (λ d. all (line_tests d)) directory i no_line lines-pass (λ l. absurd (omega arith)))

pub each-found : EachFound
unfolding line_tests
each-found i h = fields-same (diagram_of (line_at i).order) (line_at i) (line-passes i h 0)

pub phases-least : (order : ℕ) → Known order → 1 ≤ phases_of order
unfolding line_tests
phases-least order k =
    let l = line_at k.line in
    let p : phases_of order ≡ l.phases = ap phases_of (sym k.there) ∙ ap (λ (d : Diagram). d.phases) (each-found k.line k.within) in
    omega (arith, leb-true 1 l.phases (line-passes k.line k.within 1))

pub known-phases : KnownPhases
known-phases order k = (phases-least order k, phases-most order)

pub five-steps : FiveSteps
five-steps order = refl

-- The rows of the table

-- the line whose rows hold this one, and the row's step there
owner : List Diagram → ℕ → Diagram
owner [] n = no_line
owner (d ∷ ds) n = pick (both (leb d.first n) (ltb n (d.first + steps_in d))) d (owner ds n)

order_of : ℕ → ℕ
order_of n = (owner directory n).order

step_of : ℕ → ℕ
step_of n = n - (owner directory n).first + 1

row_tests : ℕ → List Bool
row_tests n = leb 1 (step_of n) ∷ leb (step_of n) (steps_of (order_of n)) ∷ eqb (row_number (order_of n) (step_of n)) n ∷ []

rows_pass : below (λ n. all (row_tests n)) (length lamp_rows) ≡ true
unfolding below every all owner order_of step_of row_tests directory diagram_of find row_number lamp_rows
rows_pass = refl

pub each-used : EachUsed
unfolding row_tests
each-used n h =
    let t : (k : ℕ) → get_or (row_tests n) k true ≡ true = λ k. all-at (row_tests n) k (below_at (λ m. all (row_tests m)) (length lamp_rows) n rows_pass h) in
    record {
      order = order_of n;
      step = step_of n;
      has = record { first = leb-true 1 (step_of n) (t 0); last = leb-true (step_of n) (steps_of (order_of n)) (t 1) };
      there = eqb-true (row_number (order_of n) (step_of n)) n (t 2);
    }

-- Which orders have phases

-- past every code that is supported
abbrev codes_end : ℕ
codes_end = 0x6e

codes-below : (order : ℕ) → Known order → order < codes_end
unfolding every directory
codes-below order k =
    let t = every-at (λ d. ltb d.order codes_end) directory k.line no_line refl (λ _. refl) in
    omega (arith, ltb-true (line_at k.line).order codes_end t, k.there)

-- one of the numbers from the least to the greatest
abbrev in_range : ℕ → ℕ → ℕ → Bool
in_range least v greatest = both (leb least v) (leb v greatest)

-- the phases of each code, as the code asks for them
unfoldable pub phases_due : ℕ → ℕ
phases_due order =
    pick (eqb order 0x00) 2
    (pick (eqb order 0x20 || eqb order 0x38) 3
    (pick (in_range 0x50 order 0x57 || in_range 0x60 order 0x6d) 4 0))

codes-pass : below (λ o. eqb (phases_of o) (phases_due o)) codes_end ≡ true
unfolding below directory diagram_of find phases_due
codes-pass = refl

-- past the three codes that stand alone
past_three : (order : ℕ) → 0x38 < order → phases_due order ≡ pick (in_range 0x50 order 0x57 || in_range 0x60 order 0x6d) 4 0
unfolding phases_due
past_three order h = rw (ne_eqb order 0x00 (λ e. omega arith), ne_eqb order 0x20 (λ e. omega arith), ne_eqb order 0x38 (λ e. omega arith))

none-due : (order : ℕ) → codes_end ≤ order → phases_due order ≡ 0
none-due order h =
    rw (past_three order (omega arith), le-leb 0x50 order (omega arith), lt-leb order 0x57 (omega arith), le-leb 0x60 order (omega arith), lt-leb order 0x6d (omega arith))

pub phases-due : (order : ℕ) → phases_of order ≡ phases_due order
phases-due order = by (dec_lt order codes_end) (dec_le 1 (phases_of order))
  where
    by : Dec (order < codes_end) → Dec (1 ≤ phases_of order) → phases_of order ≡ phases_due order
    by (yes l) _ = eqb-true (phases_of order) (phases_due order) (below_at (λ o. eqb (phases_of o) (phases_due o)) codes_end order codes-pass l)
    by (no g) (yes p) = absurd (g (codes-below order (phases-known order p)))
    by (no g) (no z) = omega (arith, none-due order (omega arith))

-- a number that is not from the least to the greatest
outside : (least v greatest : ℕ) → (least ≤ v → v ≤ greatest → ⊥) → both (leb least v) (leb v greatest) ≡ false
outside least v greatest out = by (dec_le least v) (dec_le v greatest)
  where
    by : Dec (least ≤ v) → Dec (v ≤ greatest) → both (leb least v) (leb v greatest) ≡ false
    by (yes h) (yes l) = absurd (out h l)
    by (yes h) (no g) = rw (le-leb least v h, lt-leb v greatest (omega arith))
    by (no g) _ = rw (lt-leb least v (omega arith))

pub supported-codes : SupportedCodes
unfolding phases_due
supported-codes order = record {
  at00 = λ e. rw (phases-due order, e);
  at20 = λ e. rw (phases-due order, e);
  at38 = λ e. rw (phases-due order, e);
  from50 = λ h l. rw (phases-due order, past_three order (omega arith), le-leb 0x50 order h, le-leb order 0x57 l);
  from60 = λ h l. rw (phases-due order, past_three order (omega arith), le-leb 0x50 order (omega arith), lt-leb order 0x57 (omega arith), le-leb 0x60 order h, le-leb order 0x6d l);
  others = λ x y z f g. rw (phases-due order, ne_eqb order 0x00 x, ne_eqb order 0x20 y, ne_eqb order 0x38 z, outside 0x50 order 0x57 f, outside 0x60 order 0x6d g);
}
