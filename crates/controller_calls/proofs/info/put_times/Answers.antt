-- `controller_calls::info::put_times` meets its contract: from its count on the record is the report.
use Rattle.std.proofs.Common.{arith}
use Rattle.plan.specs.Reporting.{times_info}
use Rattle.plan.proofs.Reports.{times-in, times-most}
use Rattle.controller_calls.proofs.info.put_times.Goals as goal

pub slice_bounds-put_parts-end-2 : goal.slice_bounds-put_parts-end-2
slice_bounds-put_parts-end-2 c = times-in c.args.rec.now c.requires.0 c.times_end-end.ensures

pub put_parts-requires : goal.put_parts-requires
unfolding times_info
put_parts-requires c = (omega (arith, rw (← c.times_end-end.ensures) at (times-most c.args.rec.now c.requires.0 c.args.plan)), c.requires.1)

pub returns : goal.returns
unfolding times_info
returns c = rw (c.high.ensures, c.low.ensures, c.times_end-end.ensures) at c.put_parts.ensures
