-- `message_calls::layout::first_out`: no field before the number reached fails, and the fields from there on are ahead.
use Rattle.std.proofs.Common.{ℕ, ◌≡◌, ◌≤◌, ◌<◌, ◌-◌, false, length, drop}
use Rattle.message.specs.Values.{out_at}
use Rattle.message_calls.specs.Shape.{shape_rows}
use Rattle.message_calls.specs.Walk.{fields_ahead, Walking}
use Rattle.message_calls.proofs.layout.first_out.Given as goal

abbrev pub invariant-loop-field : goal.invariant-loop-field
invariant-loop-field l =
    let fs = shape_rows l.fn.shape in
    Walking l.walk × (fields_ahead l.walk ≡ drop l.number fs) × ((j : ℕ) → j < l.number → out_at fs l.values j ≡ false)
