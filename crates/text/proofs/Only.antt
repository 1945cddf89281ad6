-- Any two results that a contract allows are equal.
use mathlib.Core.Path.{◌≡◌, sym, ◌∙◌}
use Rattle.text.proofs.put_hex2.Reads as put-hex2
use Rattle.text.proofs.put_hex16.Reads as put-hex16
use Rattle.text.proofs.put_decimal.Reads as put-decimal
use Rattle.text.proofs.put_octets.Reads as put-octets

only-put_hex2 : (κs : _) (a : _) (r s : _) (x y : _) → put-hex2.Post κs a r x → put-hex2.Post κs a s y → (r ≡ s) × (x.1.0.now ≡ y.1.0.now)
only-put_hex2 κs a r s x y p q = (p.place ∙ sym q.place, p.holds ∙ sym q.holds)

only-put_hex16 : (κs : _) (a : _) (r s : _) (x y : _) → put-hex16.Post κs a r x → put-hex16.Post κs a s y → (r ≡ s) × (x.1.0.now ≡ y.1.0.now)
only-put_hex16 κs a r s x y p q = (p.place ∙ sym q.place, p.holds ∙ sym q.holds)

only-put_decimal : (κs : _) (a : _) (r s : _) (x y : _) → put-decimal.Post κs a r x → put-decimal.Post κs a s y → (r ≡ s) × (x.1.0.now ≡ y.1.0.now)
only-put_decimal κs a r s x y p q = (p.place ∙ sym q.place, p.holds ∙ sym q.holds)

only-put_octets : (κs : _) (a : _) (r s : _) (x y : _) → put-octets.Post κs a r x → put-octets.Post κs a s y → (r ≡ s) × (x.1.0.now ≡ y.1.0.now)
only-put_octets κs a r s x y p q = (p.place ∙ sym q.place, p.holds ∙ sym q.holds)
