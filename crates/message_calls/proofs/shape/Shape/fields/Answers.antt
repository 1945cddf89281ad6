-- `message_calls::shape::Shape::fields`: the rows are the head, the group k times and the tail.
use Rattle.message_calls.proofs.Shapes.{rows-len}
use Rattle.message_calls.proofs.shape.Shape.fields.Goals as goal

pub returns : goal.returns
returns c = (rows-len c.args.self, c.args.self.most)
