-- `message_calls::shape::Shape::size`: the repeated rows have their octets k times, and the others once.
use Rattle.std.proofs.Common.{◌≡◌, ◌+◌, ◌*◌, ◌≤◌, arith}
use Rattle.message.specs.Table.{cut}
use Rattle.message.specs.Values.{fields_most, size_of}
use Rattle.message_calls.specs.declared.shape.Shape.{Shape}
use Rattle.message_calls.specs.Shape.{shape_rows}
use Rattle.message_calls.proofs.Shapes.{rows-size, size-within}
use Rattle.message_calls.proofs.shape.Shape.size.Goals as goal

-- what has been counted of the head and the group
whole : (s : Shape) {h g : _} → h ≡ size_of (cut s.line.from s.line.head) → g ≡ size_of (cut (s.line.from + s.line.head) s.line.group)
    → (h + s.k * g + size_of (cut (s.line.from + s.line.head + s.line.group) s.line.tail) ≡ size_of (shape_rows s)) × (size_of (shape_rows s) ≤ 2 * fields_most)
whole s eh eg = rw (eh, eg) (omega (arith, rows-size s), size-within s)

pub overflow_mul-result : goal.overflow_mul-result
overflow_mul-result c = let h = whole c.args.self c.size_in-head.ensures c.size_in-group.ensures in omega arith

pub overflow_add-result : goal.overflow_add-result
overflow_add-result c = let h = whole c.args.self c.size_in-head.ensures c.size_in-group.ensures in omega arith

pub overflow_add-result-2 : goal.overflow_add-result-2
overflow_add-result-2 c = let h = whole c.args.self c.size_in-head.ensures c.size_in-group.ensures in omega (arith, c.size_in.ensures)

pub returns : goal.returns
returns c = let h = whole c.args.self c.size_in-head.ensures c.size_in-group.ensures in (omega (arith, c.size_in.ensures), omega (arith, c.size_in.ensures))
