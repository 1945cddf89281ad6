-- `controller_calls::info::put_parts` meets its contract: the second run is put where the first ends.
use Rattle.controller_calls.proofs.Putting.{parts-put}
use Rattle.controller_calls.proofs.info.put_parts.Goals as goal

pub returns : goal.returns
returns c = parts-put c.args.head.now c.args.rest.now c.requires.0 c.requires.1 c.put-p.ensures c.put.ensures
