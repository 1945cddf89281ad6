-- `controller_calls::info::put` meets its contract: each reply is put by its own function, a report from the record that it is of.
use Rattle.std.proofs.Common.{rules}
use Rattle.controller.specs.Handling.{reply_info}
use Rattle.controller_calls.proofs.Laws.{there-is, ready-is}
use Rattle.controller_calls.proofs.info.put.Goals as goal

pub returns-in-CarriedOut : goal.returns-in-CarriedOut
unfolding reply_info
returns-in-CarriedOut c kept = rw c.in-CarriedOut.is c.put_answer.ensures

pub returns-in-Refused : goal.returns-in-Refused
unfolding reply_info
returns-in-Refused c kept = rw c.in-Refused.is (rw c.number.ensures at c.put_answer-in-Refused.ensures)

pub returns-in-Times : goal.returns-in-Times
unfolding reply_info
returns-in-Times c kept =
    let n = rw c.in-Times.is at c.requires.0 in
    rw c.in-Times.is (rw (there-is c.args.s.running.which _ _ _ c.in-Times.plan c.built_in-lent.ensures (search rules) n c.plan_part-rec.ensures) at c.put_times.ensures)

pub returns-in-Plan : goal.returns-in-Plan
unfolding reply_info
returns-in-Plan c kept =
    let e = rw c.in-Plan.is at c.requires.0 in
    rw c.in-Plan.is (rw (ready-is c.args.s.running.which _ _ _ c.in-Plan.plan c.built_in-lent-in-Plan.ensures (search rules) e c.plan_part-rec-in-Plan.ensures) at c.put_plan.ensures)

pub returns-in-Running : goal.returns-in-Running
unfolding reply_info
returns-in-Running c kept = rw c.in-Running.is c.put_plan-in-Running.ensures
