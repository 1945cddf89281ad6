-- Any two results that a contract allows are equal.
use mathlib.Core.Path.{◌≡◌, sym, ◌∙◌}
use Rattle.lamps_calls.proofs.row_at.Reads as row_at

only-row_at : (κs : _) (a : _) (r s : _) (x y : _) → row_at.Post κs a r x → row_at.Post κs a s y → r ≡ s
only-row_at κs a r s x y p q = p ∙ sym q
