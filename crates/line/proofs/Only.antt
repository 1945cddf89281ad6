-- Any two results that a contract allows are equal.
use Rattle.std.proofs.Common.{◌≡◌, sym, ◌∙◌}
use Rattle.line.proofs.line_start.Reads as line-start
use Rattle.line.proofs.line_octet.Reads as line-octet
use Rattle.line.proofs.line_end.Reads as line-end

only-line_start : (κs : _) (a : _) (r s : _) (x y : _) → line-start.Post κs a r x → line-start.Post κs a s y → r ≡ s
only-line_start κs a r s x y p q = p ∙ sym q

only-line_octet : (κs : _) (a : _) (r s : _) (x y : _) → line-octet.Post κs a r x → line-octet.Post κs a s y → r ≡ s
only-line_octet κs a r s x y p q = p ∙ sym q

only-line_end : (κs : _) (a : _) (r s : _) (x y : _) → line-end.Post κs a r x → line-end.Post κs a s y → r ≡ s
only-line_end κs a r s x y p q = p ∙ sym q
