-- `message_calls::reader::count_in`: the fields up to the count have one octet each.
use Rattle.std.proofs.Common.{◌∙◌, arith}
use Rattle.message.proofs.Layouts.{kept-count}
use Rattle.message.proofs.Reading.{k-octet}
use Rattle.message_calls.proofs.reader.count_in.Goals as goal

pub returns : goal.returns
returns c =
    let h = c.requires in
    c.from.ensures ∙ c.value_at.ensures ∙ (rw (← h.kept.is) at (k-octet h.number c.args.body.now (omega (arith, kept-count h.kept))))
