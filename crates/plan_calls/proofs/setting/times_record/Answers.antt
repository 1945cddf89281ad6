-- `plan_calls::setting::times_record`: the octets after the plan stand behind the state.
use Rattle.plan.proofs.Sets.{times-built}
use Rattle.plan_calls.proofs.setting.times_record.Goals as goal

pub returns : goal.returns
returns c = search times-built
