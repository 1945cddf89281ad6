-- `controller_calls::handling::carry_out` meets its contract: a fault is refused with its number.
use Rattle.controller_calls.proofs.handling.carry_out.Goals as goal

pub returns-in-Err : goal.returns-in-Err
returns-in-Err c kept = rw c.refused.ensures (c.in-Err.ensures kept)
