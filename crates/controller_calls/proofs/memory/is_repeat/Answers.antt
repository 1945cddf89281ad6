-- `controller_calls::memory::is_repeat`: one law for each way; INFO of two lengths is not the same.
use Rattle.controller_calls.proofs.Repeating.{seq-other, len-other, as_same}
use Rattle.controller_calls.proofs.memory.is_repeat.Goals as goal

pub returns-then-m-last : goal.returns-then-m-last
returns-then-m-last c =
    let a = c.args in
    let r = c.requires in
    seq-other a.last a.kept.now a.m.seq a.m.len a.m.has_info.0 a.m.has_info.1 r.0 r.1 c.if-m-last.true

pub returns-then-m-last-2 : goal.returns-then-m-last-2
returns-then-m-last-2 c =
    let a = c.args in
    let r = c.requires in
    len-other a.last a.kept.now a.m.seq a.m.len a.m.has_info.0 a.m.has_info.1 r.0 r.1 c.if-m-last-2.true

pub returns : goal.returns
returns c =
    let a = c.args in
    let r = c.requires in
    as_same a.last a.kept.now a.m.seq a.m.len a.m.has_info.0 a.m.has_info.1 r.0 r.1 c.if-m-last.false c.if-m-last-2.false c.same.ensures
