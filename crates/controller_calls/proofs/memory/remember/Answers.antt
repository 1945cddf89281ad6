-- `controller_calls::memory::remember`: the library's copy is INFO stored behind the decoder's octets.
use Rattle.std.proofs.Common.{refl, ◌∙◌}
use Rattle.controller_calls.proofs.Repeating.{copied-behind}
use Rattle.controller_calls.proofs.memory.remember.Goals as goal

pub returns : goal.returns
returns c =
    let a = c.args in
    record { last = refl; octets = c.copy_within.ensures.after ∙ copied-behind a.m.len a.kept.now a.m.has_info.1 c.requires }
