-- `lamps_calls::table_sum`: the iterator's sum is that of the five.
use Rattle.std.proofs.Common.{◌∙◌, rules}
use Rattle.std.proofs.iter.runs.Sources.{sums}
use Rattle.std.proofs.lemmas.Iterator.{YieldsList-from_slice, YieldsList-from_map}
use Rattle.std.proofs.lemmas.Iterator.Consumers.{sum_by_from_yields_List}
use Rattle.lamps_calls.proofs.Five.{five}
use Rattle.lamps_calls.proofs.table_sum.Goals as goal

pub sum-requires-clause-fits : goal.sum-requires-clause-fits
sum-requires-clause-fits c = search (rules, sums)

pub returns : goal.returns
returns c =
    sum_by_from_yields_List (λ x. x) c.args.table c.map.result _ c.sum.ensures.ran
    (YieldsList-from_map _ (λ x. x) (YieldsList-from_slice c.args.table (cc)) c.map.ensures.closure (λ x r q k. search rules))
    ∙ five c.args.table (search rules)
