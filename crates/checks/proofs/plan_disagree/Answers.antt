-- `checks::plan_disagree`: with zeros behind them the octets have every octet that they had.
use Rattle.std.proofs.Common.{◌∙◌}
use Rattle.checks.proofs.Laws.{number-after}
use Rattle.checks.proofs.Walk.{padded-plan}
use Rattle.checks.proofs.plan_disagree.Goals as goal

pub returns-then-rec-ge-RECORD_LEN : goal.returns-then-rec-ge-RECORD_LEN
returns-then-rec-ge-RECORD_LEN c = c.unwrap_or.ensures ∙ number-after c.first_disagreement.ensures

pub returns : goal.returns
returns c = c.unwrap_or-2.ensures ∙ number-after c.first_disagreement-2.ensures ∙ search padded-plan
