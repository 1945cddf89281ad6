-- `plan_calls::setting::set_times`: what is read is a 5F 14, and what it makes is kept under the plan that was read.
use Rattle.std.proofs.lemmas.Result.{err_from_is_err_and}
use Rattle.plan_calls.proofs.Read.{set-refused, book-long, times-read, times-least, times-most, times-kept}
use Rattle.plan_calls.proofs.setting.set_times.Goals as goal

pub returns-in_err-m : goal.returns-in_err-m
returns-in_err-m c = let p = err_from_is_err_and c.from_residual.result c.from_residual.ensures.1 in rw (p.1, p.2) (search (set-refused, c.in_err-m.ensures))

pub made_times-requires : goal.made_times-requires
made_times-requires c = search (times-read, c.in_ok-m.ensures)

pub keep-requires : goal.keep-requires
keep-requires c = search (book-long, times-least, times-most, c.in_ok-m.ensures)

pub returns : goal.returns
returns c = search (times-kept, c.in_ok-m.ensures)
