-- Any two results that a contract allows are equal.
use mathlib.Core.Path.{◌≡◌, sym, ◌∙◌}
use Rattle.checks.proofs.standing.Reads as standing
use Rattle.checks.proofs.times_disagree.Reads as times-disagree
use Rattle.checks.proofs.plan_disagree.Reads as plan-disagree

only-standing : (κs : _) (a : _) (r s : _) (x y : _) → standing.Post κs a r x → standing.Post κs a s y → r ≡ s
only-standing κs a r s x y p q = p ∙ sym q

only-times_disagree : (κs : _) (a : _) (r s : _) (x y : _) → times-disagree.Post κs a r x → times-disagree.Post κs a s y → r ≡ s
only-times_disagree κs a r s x y p q = p ∙ sym q

only-plan_disagree : (κs : _) (a : _) (r s : _) (x y : _) → plan-disagree.Post κs a r x → plan-disagree.Post κs a s y → r ≡ s
only-plan_disagree κs a r s x y p q = p ∙ sym q
