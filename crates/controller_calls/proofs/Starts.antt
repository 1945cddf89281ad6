-- 02, E1: "the plain start takes the new one"; "A start call that names the old built-in plan stays": said of the two calls
-- themselves, by their contracts and in numbers, so that the two cannot be exchanged.
use Rattle.std.proofs.Common.{◌≡◌, ℕ, [], ap}
use Rattle.record.specs.Record.{green_of, cycle_of}
use Rattle.plan.specs.BuiltIn.{padded, built_in}
use Rattle.controller.specs.State.{fresh_of}
use Rattle.controller.specs.Replies.{Answer, answer_with}
use Rattle.controller.specs.Seconds.{started_of}
use Rattle.controller_calls.proofs.fresh.Reads as fresh
use Rattle.controller_calls.proofs.fresh_old.Reads as fresh-old

-- the first green and the cycle of the plan that a start runs
abbrev green_and_cycle : Answer → ℕ × ℕ
green_and_cycle r = (green_of r.state.running.copy 0, cycle_of r.state.running.copy)

fresh-has-35-and-80 : (κs : _) (a : _) (r : _) (x : _) → fresh.Post κs a r x → green_and_cycle (answer_with r []) ≡ (35, 80)
unfolding started_of fresh_of padded built_in
fresh-has-35-and-80 κs a r x p = ap green_and_cycle (p [])

fresh-old-has-25-and-60 : (κs : _) (a : _) (r : _) (x : _) → fresh-old.Post κs a r x → green_and_cycle (answer_with r []) ≡ (25, 60)
unfolding started_of fresh_of padded built_in
fresh-old-has-25-and-60 κs a r x p = ap green_and_cycle (p [])
