-- `message_calls::shape::Shape::of`: what holds of every layout holds of this one.
use Rattle.message_calls.proofs.Shapes.{listed-most, listed-group}
use Rattle.std.proofs.Common.{arith}
use Rattle.message_calls.proofs.shape.Shape.of.Goals as goal

pub invariant_of-result : goal.invariant_of-result
invariant_of-result c =
    let g = listed-group c.requires in
    record {
      inside = c.requires.kept.inside;
      most = listed-most c.requires c.if-line-k.false;
      group_where_k = omega (arith, g.1, c.if-line-k.false);
      k_where_group = omega (arith, g.0, c.if-k-line.false);
    }
