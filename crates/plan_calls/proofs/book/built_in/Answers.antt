-- `plan_calls::book::built_in`: the three runs of octets, stored behind state and k, are the definition's list.
use Rattle.std.proofs.Common.{◌∙◌, arith}
use Rattle.octets.proofs.Laws.{put-stored, stored-then}
use Rattle.plan.specs.BuiltIn.{padded, built_in}
use Rattle.plan_calls.proofs.book.built_in.Goals as goal

pub returns : goal.returns
unfolding padded built_in
returns c =
    let s1 = put-stored c.put-p.ensures (omega arith) in
    let s2 = put-stored c.put-q.ensures (omega (arith, s1.place, s1.long)) in
    let s3 = put-stored c.put.ensures (omega (arith, s2.place, s2.long, s1.place, s1.long)) in
    let e = c.green_and_cycle-green.ensures in
    (stored-then s1 (stored-then s2 s3)).holds ∙ rw (← e.0, ← e.1)
