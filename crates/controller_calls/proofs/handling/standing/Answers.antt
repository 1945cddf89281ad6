-- `controller_calls::handling::standing` meets its contract: the part that is judged is the plan's record.
use Rattle.std.proofs.Common.{ap, ◌∙◌, rules}
use Rattle.checks.specs.Standing.{standing_of}
use Rattle.controller_calls.proofs.Laws.{rec-is}
use Rattle.controller_calls.proofs.handling.standing.Goals as goal

pub returns : goal.returns
returns c =
    c.standing.ensures
    ∙ ap standing_of (rec-is c.args.which _ _ _ c.args.plan c.built_in-lent.ensures (search rules) c.requires c.plan_part-rec.ensures)
