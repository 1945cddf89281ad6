-- `message_calls::walk::Walk::over`: the rows of a layout stand together in the table.
use Rattle.message_calls.proofs.Walking.{over-stands}
use Rattle.message_calls.proofs.walk.Walk.over.Goals as goal

pub returns : goal.returns
returns c = over-stands c.args.shape
