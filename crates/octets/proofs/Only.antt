-- Any two results that a contract allows are equal.
use mathlib.Core.Path.{◌≡◌, sym, ◌∙◌}
use Rattle.octets.proofs.high.Reads as high
use Rattle.octets.proofs.low.Reads as low
use Rattle.octets.proofs.word.Reads as word
use Rattle.octets.proofs.octet_at.Reads as octet-at
use Rattle.octets.proofs.word_at.Reads as word_at
use Rattle.octets.proofs.exclusive_or.Reads as exclusive-or
use Rattle.octets.proofs.same.Reads as same
use Rattle.octets.proofs.put.Reads as put
use Rattle.octets.proofs.room.Reads as room
use Rattle.octets.proofs.body.Reads as body
use Rattle.octets.proofs.refusal.Refusal.number.Reads as number

only-high : (κs : _) (a : _) (r s : _) (x y : _) → high.Post κs a r x → high.Post κs a s y → r ≡ s
only-high κs a r s x y p q = p ∙ sym q

only-low : (κs : _) (a : _) (r s : _) (x y : _) → low.Post κs a r x → low.Post κs a s y → r ≡ s
only-low κs a r s x y p q = p ∙ sym q

only-word : (κs : _) (a : _) (r s : _) (x y : _) → word.Post κs a r x → word.Post κs a s y → r ≡ s
only-word κs a r s x y p q = p ∙ sym q

only-octet_at : (κs : _) (a : _) (r s : _) (x y : _) → octet-at.Post κs a r x → octet-at.Post κs a s y → r ≡ s
only-octet_at κs a r s x y p q = p ∙ sym q

only-word_at : (κs : _) (a : _) (r s : _) (x y : _) → word_at.Post κs a r x → word_at.Post κs a s y → r ≡ s
only-word_at κs a r s x y p q = p ∙ sym q

only-exclusive_or : (κs : _) (a : _) (r s : _) (x y : _) → exclusive-or.Post κs a r x → exclusive-or.Post κs a s y → r ≡ s
only-exclusive_or κs a r s x y p q = p ∙ sym q

only-same : (κs : _) (a : _) (r s : _) (x y : _) → same.Post κs a r x → same.Post κs a s y → r ≡ s
only-same κs a r s x y p q = p ∙ sym q

only-put : (κs : _) (a : _) (r s : _) (x y : _) → put.Post κs a r x → put.Post κs a s y → (r ≡ s) × (x.1.0.now ≡ y.1.0.now)
only-put κs a r s x y p q = (p.place ∙ sym q.place, p.holds ∙ sym q.holds)

only-room : (κs : _) (a : _) (r s : _) (x y : _) → room.Post κs a r x → room.Post κs a s y → r ≡ s
only-room κs a r s x y p q = p ∙ sym q

only-body : (κs : _) (a : _) (r s : _) (x y : _) → body.Post κs a r x → body.Post κs a s y → (r.ref_ptr ≡ s.ref_ptr) × (r.now ≡ s.now)
only-body κs a r s x y p q = (p.place ∙ sym q.place, p.octets ∙ sym q.octets)

only-number : (κs : _) (a : _) (r s : _) (x y : _) → number.Post κs a r x → number.Post κs a s y → r ≡ s
only-number κs a r s x y p q = p ∙ sym q
