-- Any two results that a contract allows are equal.
use mathlib.Core.Path.{◌≡◌, sym, ◌∙◌}
use mathlib.Core.Bool.{Bool, true, false}
use lib.Dec.{eqb, leb}
use lib.ListN.{length}
use Prim.Native.Nat.{ℕ}
use mathlib.Core.List.{List}
use denote.Ref.{Bor}
use Rattle.octets.specs.Choice.{pick, both}
use Rattle.octets.specs.Part.{PartOf}
use Rattle.octets.specs.Refusal as refusal
use Rattle.octets.proofs.Refusals.{told-apart}
use Rattle.record.specs.Record.{record_len, book_len, plans_most}
use Rattle.plan.specs.Reading.{record_start, read_refusal}
use Rattle.plan.proofs.Answers.{sets-answer-so}
use Rattle.plan_calls.proofs.book.built_in.Reads as built_in
use Rattle.plan_calls.proofs.book.is_built_in.Reads as is-built-in
use Rattle.plan_calls.proofs.setting.set_times.Reads as set-times
use Rattle.plan_calls.proofs.setting.set_plan.Reads as set-plan
use Rattle.plan_calls.proofs.book.read_plan.Reads as read-plan
use Rattle.plan_calls.proofs.book.plan_part.Reads as plan-part

only-built_in : (κs : _) (a : _) (r s : _) (x y : _) → built_in.Post κs a r x → built_in.Post κs a s y → r ≡ s
only-built_in κs a r s x y p q = p ∙ sym q

only-is_built_in : (κs : _) (a : _) (r s : _) (x y : _) → is-built-in.Post κs a r x → is-built-in.Post κs a s y → r ≡ s
only-is_built_in κs a r s x y p q = p ∙ sym q

only-set_times : (κs : _) (a : _) (r s : _) (x y : _) → set-times.Post κs a r x → set-times.Post κs a s y → (r ≡ s) × (x.0.now ≡ y.0.now)
only-set_times κs a r s x y p q = (sets-answer-so.apart r s (p.answer ∙ sym q.answer), p.book ∙ sym q.book)

only-set_plan : (κs : _) (a : _) (r s : _) (x y : _) → set-plan.Post κs a r x → set-plan.Post κs a s y → (r ≡ s) × (x.0.now ≡ y.0.now)
only-set_plan κs a r s x y p q = (sets-answer-so.apart r s (p.answer ∙ sym q.answer), p.book ∙ sym q.book)

-- whichever part it is, there is one
one-part : (t u : Bool) (x y z : Bor (List ℕ)) (i n j m k l : ℕ) (r s : Bor (List ℕ)) → pick t (pick u (PartOf x i n r) (PartOf y j m r)) (PartOf z k l r)
    → pick t (pick u (PartOf x i n s) (PartOf y j m s)) (PartOf z k l s) → (r.ref_ptr ≡ s.ref_ptr) × (r.now ≡ s.now)
one-part true true x y z i n j m k l r s p q = (p.place ∙ sym q.place, p.octets ∙ sym q.octets)
one-part true false x y z i n j m k l r s p q = (p.place ∙ sym q.place, p.octets ∙ sym q.octets)
one-part false u x y z i n j m k l r s p q = (p.place ∙ sym q.place, p.octets ∙ sym q.octets)

only-read_plan : (κs : _) (a : _) (r s : _) (x y : _) → read-plan.Post κs a r x → read-plan.Post κs a s y → r ≡ s
only-read_plan κs a r s x y p q =
    let book = a.0 in
    let copy = a.1.0 in
    let plan = a.1.1.0 in
    let e =
    one-part (eqb (read_refusal book.now copy.now plan) refusal.none) (eqb plan 0) copy book copy 0 record_len (record_start plan) record_len 0 0 r.0 s.0 p.part q.part in
    let n = told-apart r.1 s.1 (p.refusal ∙ sym q.refusal) in
    λ i. (record { ref_ptr = e.0 i; now = e.1 i }, n i)

only-plan_part : (κs : _) (a : _) (r s : _) (x y : _) → plan-part.Post κs a r x → plan-part.Post κs a s y → (r.ref_ptr ≡ s.ref_ptr) × (r.now ≡ s.now)
only-plan_part κs a r s x y p q =
    one-part (both (eqb (length a.0.now) book_len) (leb a.1.1.0 plans_most)) (eqb a.1.1.0 0) a.1.0 a.0 a.1.0 0
    (length a.1.0.now) (record_start a.1.1.0) record_len 0 0 r s p q
