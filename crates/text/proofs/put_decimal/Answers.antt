-- `text::put_decimal`: the digits put are as many as the number has.
use Rattle.text.proofs.Laws.{decimal-digits}
use Rattle.text.proofs.put_decimal.Goals as goal

pub returns : goal.returns
returns c = rw (decimal-digits c.args.n, ← c.places.ensures.0) c.put_digits.ensures
