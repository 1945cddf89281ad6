-- A field's test says whether its value is in range, and the search finds the first that is not.
use Prim.Native.Nat.{ℕ, suc, ◌≤◌, ◌<◌}
use mathlib.Core.Path.{◌≡◌}
use mathlib.Core.Bool.{Bool, true, false, not-eq-not}
use mathlib.Core.List.{List}
use native.Mathlib.Decide.{dec_lt}
use native.Mathlib.Omega.{arith}
use borrow.Author.Tests.{le-leb, leb-true, not-false}
use lib.Dec.{leb}
use lib.ListN.{length, get_or, get_or-eq_default}
use Rattle.octets.specs.Choice.{both}
use Rattle.octets.specs.First.{First}
use Rattle.octets.proofs.Laws.{both_left, both_right, clash, first-none, first_found, first_one}
use Rattle.octets.proofs.Search.{search-first}
use Rattle.diagram.specs.Table.{phases_of}
use Rattle.message.specs.declared.layout.Field.{Field}
use Rattle.message.specs.declared.layout.Field.TheVariants.{Octet, Two, Order}
use Rattle.message.specs.Fields.{no_field}
use Rattle.message.specs.Values.{fields_most, placed, out_at, first_out}
use Rattle.message.specs.Promises.{RangesAsSaid, RightAt, FirstWrong}
use Rattle.message.proofs.Values.{filled_at}

-- Ranges

pub both_true : {a b : Bool} → a ≡ true → b ≡ true → both a b ≡ true
both_true p q = rw (p, q)

pub both-le : (a b c d : ℕ) → both (leb a b) (leb c d) ≡ true → (a ≤ b) × (c ≤ d)
both-le a b c d h = (leb-true a b (both_left (leb a b) (leb c d) h), leb-true c d (both_right (leb a b) (leb c d) h))

pub le-both : (a b c d : ℕ) → (a ≤ b) × (c ≤ d) → both (leb a b) (leb c d) ≡ true
le-both a b c d h = both_true (le-leb a b h.0) (le-leb c d h.1)

pub ranges-as-said : RangesAsSaid
ranges-as-said (Octet l g) v = (both-le l v v g, le-both l v v g)
ranges-as-said (Two l g) v = (both-le l v v g, le-both l v v g)
ranges-as-said Order v = (both-le v 255 1 (phases_of v), le-both v 255 1 (phases_of v))

-- The places of a message

pub placed_at : (vs : List ℕ) (j : ℕ) → get_or (placed vs) j 0 ≡ get_or vs j 0
unfolding placed
placed_at vs j = filled_at fields_most vs j

-- The search

module _ (fs : List Field) (vs : List ℕ) where
  right-in : (j : ℕ) → RightAt fs vs j → out_at fs vs j ≡ false
  right-in j h = rw ((ranges-as-said (get_or fs j no_field) (get_or vs j 0)).1 h)

  in_right : (j : ℕ) → out_at fs vs j ≡ false → RightAt fs vs j
  in_right j h = (ranges-as-said (get_or fs j no_field) (get_or vs j 0)).0 (not-false _ h)

  wrong-in : (j : ℕ) → (RightAt fs vs j → ⊥) → out_at fs vs j ≡ true
  wrong-in j n = (not-eq-not {a = out_at fs vs j} {b = true}).0 (λ e. n (in_right j e))

  in-wrong : (j : ℕ) → out_at fs vs j ≡ true → RightAt fs vs j → ⊥
  in-wrong j h r = clash (right-in j r) h

  found : First (out_at fs vs) fields_most (first_out fs vs)
  unfolding first_out
  found = search-first (out_at fs vs) fields_most

-- where the search finds none, each place is right
pub all_right : (fs : List Field) (vs : List ℕ) → first_out fs vs ≡ 0 → (j : ℕ) → j < fields_most → RightAt fs vs j
all_right fs vs e j h = in_right fs vs j ((found fs vs).none e j h)

-- and past the last field stands 0
pub past-zero : (fs : List Field) (vs : List ℕ) → first_out fs vs ≡ 0 → (j : ℕ) → length fs ≤ j → j < fields_most → get_or vs j 0 ≡ 0
past-zero fs vs e j l m = let r = rw (get_or-eq_default fs no_field l) at (all_right fs vs e j m) in omega (arith, r.1)

-- the values of the fields stand in the first places, and 0 in the others
module _ (fs : List Field) (vs : List ℕ) (h : length fs ≤ fields_most) (past : (j : ℕ) → length fs ≤ j → j < fields_most → get_or vs j 0 ≡ 0) where
  past-right : (j : ℕ) → length fs ≤ j → j < fields_most → RightAt fs vs j
  past-right j l m = rw (get_or-eq_default fs no_field l, past j l m) (omega arith, omega arith)

  pub none_out : ((j : ℕ) → j < length fs → RightAt fs vs j) → first_out fs vs ≡ 0
  none_out r = first_one (found fs vs) (first-none (λ j l. right-in fs vs j (by j l (dec_lt j (length fs)))))
    where
      by : (j : ℕ) → j < fields_most → Dec (j < length fs) → RightAt fs vs j
      by j m (yes l) = r j l
      by j m (no g) = past-right j (omega arith) m

  pub one_out : {n : ℕ} → FirstWrong fs vs n → first_out fs vs ≡ n
  one_out w =
      rw w.number (first_one (found fs vs) (first_found (omega (arith, w.within)) (λ j l. right-in fs vs j (w.before j l)) (wrong-in fs vs w.place w.here)))

  pub out_one : {i : ℕ} → suc i ≡ first_out fs vs → FirstWrong fs vs (suc i)
  out_one {i} e =
      let f : First (out_at fs vs) fields_most (suc i) = rw e (found fs vs) in
      let w = in-wrong fs vs i (f.here i (omega arith)) in
      let g : length fs ≤ i → ⊥ = λ l. w (past-right i l f.within) in
      record { place = i; number = omega arith; within = omega arith; before = λ j l. in_right fs vs j (f.before j (omega arith)); here = w }

-- lists of values that agree at each place are right and wrong at the same
module _ (fs : List Field) (vs ws : List ℕ) (same : (j : ℕ) → get_or vs j 0 ≡ get_or ws j 0) where
  pub right-same : (j : ℕ) → RightAt fs vs j → RightAt fs ws j
  right-same j r = rw (same j) at r

  pub wrong-same : {n : ℕ} → FirstWrong fs vs n → FirstWrong fs ws n
  wrong-same w =
      record { place = w.place; number = w.number; within = w.within; before = λ j l. right-same j (w.before j l); here = λ r. w.here (rw same r) }
