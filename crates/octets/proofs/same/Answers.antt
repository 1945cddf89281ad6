-- `octets::same`: the library's `==` compares octet by octet.
use Rattle.std.proofs.Common.{◌∙◌}
use Rattle.octets.proofs.Laws.{pointwise-same}
use Rattle.octets.proofs.same.Goals as goal

pub returns : goal.returns
returns c = c.eq.ensures ∙ pointwise-same c.args.a.now c.args.b.now
