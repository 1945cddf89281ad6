-- `message_calls::walk::WalkIterator::next`: from the row of the next field on, the row after or the first of the repeated rows has one
-- field less ahead.
use Rattle.std.proofs.Common.{◌≡◌, ◌+◌, ◌<◌, ◌∷◌, length, ap, arith}
use Rattle.std.specs.Iterator.{MakesProgress, item_count}
use Rattle.std.proofs.Common.{Some}
use Rattle.message.specs.declared.layout.Field.{Field}
use Rattle.message_calls.specs.declared.walk.Walk.{Walk}
use Rattle.message_calls.specs.Walk.{fields_ahead, Walking}
use Rattle.message_calls.proofs.Walking.{ahead-done, on-stands, again-stands}
use Rattle.message_calls.proofs.walk.WalkIterator.next.Goals as goal
use Rattle.message_calls.proofs.walk.WalkIterator.next.Goals.{Joined-else-self-2, else-self-2-via-then-self-2+else-self-gt1, else-self-2-via-else-self-2}

-- one field less
fewer : {w t : Walk} {f : Field} → Walking t → fields_ahead w ≡ f ∷ fields_ahead t → MakesProgress Walking (item_count fields_ahead) w (Some f) t
fewer h e = let l = ap length e in record { on = λ _. (h, tt, omega arith); keeps = h; rests = λ _. tt }

-- the rows do not come again here
once : (c : Joined-else-self-2) → 1 < c.args.self.now.rounds → c.args.self.now.row + 1 ≡ c.args.self.now.after → ⊥
once c p e = elim c.else-self-2.branch [ else-self-2-via-then-self-2+else-self-gt1 w ↦ omega (arith, w.if-self-gt1.false) | else-self-2-via-else-self-2 w ↦ w.if-self-2.false e ]

pub returns-then-self-clause-steps : goal.returns-then-self-clause-steps
returns-then-self-clause-steps c = let d = ahead-done _ c.requires c.if-self.true in (d, d)

pub returns-then-self-gt1-clause-steps : goal.returns-then-self-gt1-clause-steps
returns-then-self-gt1-clause-steps c = rw c.field_at-field.ensures (again-stands _ c.requires c.if-self.false c.if-self-2.true c.if-self-gt1.true).1

pub returns-then-self-gt1-clause-goes : goal.returns-then-self-gt1-clause-goes
returns-then-self-gt1-clause-goes c =
    let s = again-stands _ c.requires c.if-self.false c.if-self-2.true c.if-self-gt1.true in
    fewer s.0 (rw c.field_at-field.ensures s.1)

pub returns-else-self-2-clause-steps : goal.returns-else-self-2-clause-steps
returns-else-self-2-clause-steps c = rw c.field_at-field.ensures (on-stands _ c.requires c.if-self.false (once c)).1

pub returns-else-self-2-clause-goes : goal.returns-else-self-2-clause-goes
returns-else-self-2-clause-goes c =
    let s = on-stands _ c.requires c.if-self.false (once c) in
    fewer s.0 (rw c.field_at-field.ensures s.1)
