-- `plan_calls::setting::ready_record`: the three runs of octets stand one after another behind the state.
use Rattle.plan.proofs.Sets.{ready-built}
use Rattle.plan_calls.proofs.setting.ready_record.Goals as goal

pub returns : goal.returns
returns c = search ready-built
