-- 01, "Plan book": reading a plan.
--
-- "Reading a plan is lent the book and an 80-octet copy of the built-in record, and gives back a part of the plan book or of the
-- built-in record. It refuses with an empty part: 8 if either length is wrong, then 12 for a plan over 48, then 13 for an empty
-- plan, or for plan 0 where the copy differs from the built-in record." 02, E1: "reading a plan takes a copy of either"
use Rattle.std.specs.Prelude.{ℕ, ◌*◌, ◌-◌, ◌≡◌, Bool, not, ◌||◌, List, eqb, leb, length, take, drop}
use Rattle.std.specs.Borrow.{Bor}
use Rattle.octets.specs.Choice.{pick, both}
use Rattle.octets.specs.Part.{PartOf}
use Rattle.octets.specs.Refusal as refusal
use Rattle.octets.specs.Same.{same}
use Rattle.record.specs.Record.{record_len, plans_most, book_len, empty}
use Rattle.checks.specs.Standing.{standing_of}
use Rattle.plan.specs.declared.Which.TheVariants.{New, Old}
use Rattle.plan.specs.BuiltIn.{built_in}

-- "Plan p, 1 to 48, has 80 octets from 80(p-1)"
abbrev pub record_start : ℕ → ℕ
record_start p = record_len * (p - 1)

abbrev pub record_at : List ℕ → ℕ → List ℕ
record_at book p = take record_len (drop (record_start p) book)

-- "a copy of either": the new built-in record, or the old one
unfoldable pub either_built_in : List ℕ → Bool
either_built_in copy = same copy (built_in New) || same copy (built_in Old)

-- "It refuses with an empty part: 8 if either length is wrong, then 12 for a plan over 48, then 13 for an empty plan, or for plan 0
-- where the copy differs from the built-in record.", from both of them
unfoldable pub read_refusal : List ℕ → List ℕ → ℕ → ℕ
read_refusal book copy p =
    pick (not (both (eqb (length book) book_len) (eqb (length copy) record_len))) refusal.book_wrong
    (pick (not (leb p plans_most)) refusal.out_of_range
    (pick (eqb p 0) (pick (not (either_built_in copy)) refusal.not_ready refusal.none)
    (pick (eqb (standing_of (record_at book p)) empty) refusal.not_ready refusal.none)))

-- r is the part read: all of the copy for plan 0, the plan's record in the book for any other, an empty part where it is refused
abbrev pub PartRead : Bor (List ℕ) → Bor (List ℕ) → ℕ → Bor (List ℕ) → Type 0
PartRead book copy p r =
    pick (eqb (read_refusal book.now copy.now p) refusal.none)
    (pick (eqb p 0) (PartOf copy 0 record_len r) (PartOf book (record_start p) record_len r))
    (PartOf copy 0 0 r)

pub record PlanRead (book copy : Bor (List ℕ)) (p : ℕ) (r : Bor (List ℕ)) (why : ℕ) : Type 0 where
  pub part : PartRead book copy p r
  pub refusal : why ≡ read_refusal book.now copy.now p
