-- `printout_calls::run::run_start`: the controller starts fresh, whatever octets are kept.
use Rattle.std.proofs.Common.{[], ap}
use Rattle.frame.specs.Dropped.{fresh_receiver}
use Rattle.controller.specs.State.{fresh_of}
use Rattle.controller.specs.Replies.{Answer}
use Rattle.controller.specs.Seconds.{started_of}
use Rattle.controller.proofs.Answering.{held}
use Rattle.printout.specs.declared.Run.{Run}
use Rattle.printout.specs.Run.{run_start}
use Rattle.printout_calls.proofs.run.run_start.Goals as goal

-- the run with the struct of this answer
abbrev run_of : Answer → Run
run_of a = record { state = held a.state; seconds = 0; used = 0 }

pub returns : goal.returns
unfolding fresh_receiver run_start started_of fresh_of
returns c = ap run_of (c.started.ensures [])
