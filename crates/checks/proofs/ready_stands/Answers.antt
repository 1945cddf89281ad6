-- `checks::ready_stands`: one law for each way.
use Rattle.std.proofs.Common.{◌∙◌}
use Rattle.checks.proofs.Laws.{ready-out, ready-zero}
use Rattle.checks.proofs.ready_stands.Goals as goal

pub returns-then-plan_stands : goal.returns-then-plan_stands
returns-then-plan_stands c = search ready-zero

pub returns-else-plan_stands : goal.returns-else-plan_stands
returns-else-plan_stands c = c.if-plan_stands.false ∙ ready-out _ c.plan_stands.ensures c.if-plan_stands.false
