-- Any two results that a contract allows are equal.
use mathlib.Core.Path.{◌≡◌, sym, ◌∙◌}
use Rattle.record.proofs.state.Reads as state
use Rattle.record.proofs.count.Reads as count
use Rattle.record.proofs.times_at.Reads as times-at
use Rattle.record.proofs.minimum.Reads as minimum
use Rattle.record.proofs.maximum.Reads as maximum
use Rattle.record.proofs.yellow.Reads as yellow
use Rattle.record.proofs.all_red.Reads as all-red
use Rattle.record.proofs.walk_flash.Reads as walk-flash
use Rattle.record.proofs.red_man.Reads as red-man
use Rattle.record.proofs.direct.Reads as direct
use Rattle.record.proofs.order.Reads as order
use Rattle.record.proofs.green.Reads as green
use Rattle.record.proofs.cycle.Reads as cycle
use Rattle.record.proofs.offset.Reads as offset
use Rattle.record.proofs.times_end.Reads as times-end
use Rattle.record.proofs.greens_at.Reads as greens-at
use Rattle.record.proofs.ready_end.Reads as ready-end

only-state : (κs : _) (a : _) (r s : _) (x y : _) → state.Post κs a r x → state.Post κs a s y → r ≡ s
only-state κs a r s x y p q = p ∙ sym q

only-count : (κs : _) (a : _) (r s : _) (x y : _) → count.Post κs a r x → count.Post κs a s y → r ≡ s
only-count κs a r s x y p q = p ∙ sym q

only-times_at : (κs : _) (a : _) (r s : _) (x y : _) → times-at.Post κs a r x → times-at.Post κs a s y → r ≡ s
only-times_at κs a r s x y p q = p ∙ sym q

only-minimum : (κs : _) (a : _) (r s : _) (x y : _) → minimum.Post κs a r x → minimum.Post κs a s y → r ≡ s
only-minimum κs a r s x y p q = p ∙ sym q

only-maximum : (κs : _) (a : _) (r s : _) (x y : _) → maximum.Post κs a r x → maximum.Post κs a s y → r ≡ s
only-maximum κs a r s x y p q = p ∙ sym q

only-yellow : (κs : _) (a : _) (r s : _) (x y : _) → yellow.Post κs a r x → yellow.Post κs a s y → r ≡ s
only-yellow κs a r s x y p q = p ∙ sym q

only-all_red : (κs : _) (a : _) (r s : _) (x y : _) → all-red.Post κs a r x → all-red.Post κs a s y → r ≡ s
only-all_red κs a r s x y p q = p ∙ sym q

only-walk_flash : (κs : _) (a : _) (r s : _) (x y : _) → walk-flash.Post κs a r x → walk-flash.Post κs a s y → r ≡ s
only-walk_flash κs a r s x y p q = p ∙ sym q

only-red_man : (κs : _) (a : _) (r s : _) (x y : _) → red-man.Post κs a r x → red-man.Post κs a s y → r ≡ s
only-red_man κs a r s x y p q = p ∙ sym q

only-direct : (κs : _) (a : _) (r s : _) (x y : _) → direct.Post κs a r x → direct.Post κs a s y → r ≡ s
only-direct κs a r s x y p q = p ∙ sym q

only-order : (κs : _) (a : _) (r s : _) (x y : _) → order.Post κs a r x → order.Post κs a s y → r ≡ s
only-order κs a r s x y p q = p ∙ sym q

only-green : (κs : _) (a : _) (r s : _) (x y : _) → green.Post κs a r x → green.Post κs a s y → r ≡ s
only-green κs a r s x y p q = p ∙ sym q

only-cycle : (κs : _) (a : _) (r s : _) (x y : _) → cycle.Post κs a r x → cycle.Post κs a s y → r ≡ s
only-cycle κs a r s x y p q = p ∙ sym q

only-offset : (κs : _) (a : _) (r s : _) (x y : _) → offset.Post κs a r x → offset.Post κs a s y → r ≡ s
only-offset κs a r s x y p q = p ∙ sym q

only-times_end : (κs : _) (a : _) (r s : _) (x y : _) → times-end.Post κs a r x → times-end.Post κs a s y → r ≡ s
only-times_end κs a r s x y p q = p ∙ sym q

only-greens_at : (κs : _) (a : _) (r s : _) (x y : _) → greens-at.Post κs a r x → greens-at.Post κs a s y → r ≡ s
only-greens_at κs a r s x y p q = p ∙ sym q

only-ready_end : (κs : _) (a : _) (r s : _) (x y : _) → ready-end.Post κs a r x → ready-end.Post κs a s y → r ≡ s
only-ready_end κs a r s x y p q = p ∙ sym q
