-- `controller_calls::info::put_plan` meets its contract: from its greens on a ready record is the report.
use Rattle.std.proofs.Common.{arith}
use Rattle.plan.specs.Reporting.{plan_info}
use Rattle.plan.proofs.Reports.{plan-in, plan-most}
use Rattle.controller_calls.proofs.info.put_plan.Goals as goal

pub slice_bounds-put_parts-end-2 : goal.slice_bounds-put_parts-end-2
slice_bounds-put_parts-end-2 c = plan-in c.args.rec.now c.requires.0 c.ready_end-end.ensures

pub put_parts-requires : goal.put_parts-requires
unfolding plan_info
put_parts-requires c =
    (omega (arith, rw (← c.ready_end-end.ensures, ← c.greens_at-greens.ensures) at (plan-most c.args.rec.now c.requires.0 c.args.plan c.args.code)), c.requires.1)

pub returns : goal.returns
unfolding plan_info
returns c =
    rw (c.high.ensures, c.low.ensures, c.direct.ensures, c.order.ensures, c.count.ensures, c.greens_at-greens.ensures, c.ready_end-end.ensures) at c.put_parts.ensures
