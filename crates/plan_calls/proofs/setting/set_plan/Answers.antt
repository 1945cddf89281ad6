-- `plan_calls::setting::set_plan`: what is read is a 5F 15, and what it makes is kept under the plan that was read.
use Rattle.std.proofs.lemmas.Result.{err_from_is_err_and}
use Rattle.plan.proofs.Laws.{record-long}
use Rattle.plan_calls.proofs.Read.{set-refused, book-long, plan-read, plan-count, plan-least, plan-most, plan-kept}
use Rattle.plan_calls.proofs.setting.set_plan.Goals as goal

pub returns-in_err-m : goal.returns-in_err-m
returns-in_err-m c = let p = err_from_is_err_and c.from_residual.result c.from_residual.ensures.1 in rw (p.1, p.2) (search (set-refused, c.in_err-m.ensures))

pub record_in-requires : goal.record_in-requires
record_in-requires c = search (book-long, plan-least, plan-most, c.in_ok-m.ensures)

pub made_ready-made-requires : goal.made_ready-made-requires
made_ready-made-requires c = search (record-long, book-long, plan-least, plan-most, plan-read, plan-count, c.in_ok-m.ensures)

pub keep-requires : goal.keep-requires
keep-requires c = search (book-long, plan-least, plan-most, c.in_ok-m.ensures)

pub returns : goal.returns
returns c = search (plan-kept, c.in_ok-m.ensures)
