-- Any two results that a contract allows are equal.
use mathlib.Core.Path.{◌≡◌, sym, ◌∙◌}
use Rattle.diagram_calls.proofs.phases.Reads as phases
use Rattle.diagram_calls.proofs.lamp_row.Reads as lamp-row

only-phases : (κs : _) (a : _) (r s : _) (x y : _) → phases.Post κs a r x → phases.Post κs a s y → r ≡ s
only-phases κs a r s x y p q = p ∙ sym q

only-lamp_row : (κs : _) (a : _) (r s : _) (x y : _) → lamp-row.Post κs a r x → lamp-row.Post κs a s y → r ≡ s
only-lamp_row κs a r s x y p q = p ∙ sym q
