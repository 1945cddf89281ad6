-- `printout_calls::put_line`: the one test is whether the line ends within the output.
use Rattle.std.proofs.Common.{◌<◌, length, ap, arith, rules}
use Rattle.octets.proofs.Laws.{put-none, stored-put}
use Rattle.printout.proofs.Laws.{put-nothing, line-none, line-some, line-length}
use Rattle.printout_calls.proofs.put_line.Goals as goal

pub returns-then-is_empty : goal.returns-then-is_empty
returns-then-is_empty c = let a = c.args in rw (line-none a.head.now a.s.now a.tail.now (search rules)) (put-nothing a.out.now a.at)

pub returns-then-out-end : goal.returns-then-out-end
returns-then-out-end c =
    let a = c.args in
    let n : 0 < length a.s.now = search rules in
    put-none (omega (arith, line-length a.head.now a.s.now a.tail.now n))

pub store_line-requires : goal.store_line-requires
store_line-requires c =
    let a = c.args in
    let n : 0 < length a.s.now = search rules in
    omega (arith, ap length (line-some a.head.now a.s.now a.tail.now n), line-length a.head.now a.s.now a.tail.now n)

pub returns : goal.returns
returns c = let a = c.args in stored-put (rw (← line-some a.head.now a.s.now a.tail.now (search rules)) at c.store_line.ensures)
