-- Any two results that a contract allows are equal.
use Rattle.std.proofs.Common.{◌≡◌, [], sym, refl, ◌∙◌}
use Rattle.controller.proofs.Answering.{answer-one-to-one, shown-one}
use Rattle.controller_calls.proofs.fresh.Reads as fresh
use Rattle.controller_calls.proofs.fresh_old.Reads as fresh-old
use Rattle.controller_calls.proofs.octet.Reads as octet
use Rattle.controller_calls.proofs.line_idle.Reads as line-idle
use Rattle.controller_calls.proofs.second.Reads as second
use Rattle.controller_calls.proofs.offer.Reads as offer

only-fresh : (κs : _) (a : _) (r s : _) (x y : _) → fresh.Post κs a r x → fresh.Post κs a s y → r ≡ s
only-fresh κs a r s x y p q = (answer-one-to-one r s [] [] (p [] ∙ sym (q [])) refl).0

only-fresh_old : (κs : _) (a : _) (r s : _) (x y : _) → fresh-old.Post κs a r x → fresh-old.Post κs a s y → r ≡ s
only-fresh_old κs a r s x y p q = (answer-one-to-one r s [] [] (p [] ∙ sym (q [])) refl).0

only-octet : (κs : _) (a : _) (r s : _) (x y : _) → octet.Post κs a r x → octet.Post κs a s y
    → (r ≡ s) × (x.1.0.now ≡ y.1.0.now) × (x.1.1.0.now ≡ y.1.1.0.now) × (x.1.1.1.0.now ≡ y.1.1.1.0.now)
only-octet κs a r s x y p q =
    let j = answer-one-to-one r s x.1.0.now y.1.0.now (p.answer ∙ sym q.answer) (p.beyond ∙ sym q.beyond) in
    (j.0, j.1, p.book ∙ sym q.book, p.out ∙ sym q.out)

only-line_idle : (κs : _) (a : _) (r s : _) (x y : _) → line-idle.Post κs a r x → line-idle.Post κs a s y → r ≡ s
only-line_idle κs a r s x y p q = (answer-one-to-one r s a.1.0.now a.1.0.now (p ∙ sym q) refl).0

only-second : (κs : _) (a : _) (r s : _) (x y : _) → second.Post κs a r x → second.Post κs a s y → (r ≡ s) × (x.1.1.1.0.now ≡ y.1.1.1.0.now)
only-second κs a r s x y p q = shown-one r s a.1.0.now x.1.1.1.0.now y.1.1.1.0.now (p ∙ sym q)

only-offer : (κs : _) (a : _) (r s : _) (x y : _) → offer.Post κs a r x → offer.Post κs a s y
    → (r ≡ s) × (x.1.0.now ≡ y.1.0.now) × (x.1.1.1.0.now ≡ y.1.1.1.0.now)
only-offer κs a r s x y p q =
    let j = answer-one-to-one r s x.1.0.now y.1.0.now (p.answer ∙ sym q.answer) (p.beyond ∙ sym q.beyond) in
    (j.0, j.1, p.out ∙ sym q.out)
