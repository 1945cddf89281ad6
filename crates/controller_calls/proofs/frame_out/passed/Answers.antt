-- `controller_calls::frame_out::passed`: less than T seconds have passed, so one more is a number of one octet.
use Rattle.std.proofs.Common.{arith}
use Rattle.controller_calls.proofs.Sending.{out-is}
use Rattle.controller_calls.proofs.frame_out.passed.Goals as goal

pub overflow_add-o : goal.overflow_add-o
overflow_add-o c = let a = c.args in omega (arith, (out-is a.t a.o c.requires c.if-o-eq0.false).waited)
