use Rattle.std.proofs.Common.{arith, rules}
use Rattle.text.proofs.Laws.{places-one, places-more, places-64}
use Rattle.text.proofs.places.Goals as goal

pub overflow_add-count : goal.overflow_add-count
overflow_add-count c = omega (arith, places-64 c.args.n (search rules))

pub loop-rest-preserved : goal.loop-rest-preserved
loop-rest-preserved c = omega (arith, places-more c.loop-rest.rest (search rules))

pub returns : goal.returns
returns c = let p = places-64 c.args.n (search rules) in let q = places-one c.loop-rest.rest (search rules) in (omega arith, omega arith)
