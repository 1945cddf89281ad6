use Rattle.std.proofs.Common.{◌≡◌, ℕ, ◌+◌, ◌*◌, ◌-◌, ap, ◌∙◌, get_or, arith, rules}
use Rattle.diagram.specs.Table.{steps_aphase}
use Rattle.record.specs.Record.{order_of}
use Rattle.lamps.specs.Rows.{seconds_of, row_of}
use Rattle.lamps.proofs.Laws.{seconds-here, steps-begin, search-ends, search-stops, search-goes}
use Rattle.lamps_calls.proofs.row_in.Goals as goal

pub loop-j-init : goal.loop-j-init
loop-j-init c =
    let first = steps_aphase * c.args.i + 1 in
    (search rules, steps-begin c.args.rec.now c.args.i (first + 0) (first + 5) c.args.on (omega arith) (omega arith))

pub returns-then-rest-here : goal.returns-then-rest-here
returns-then-rest-here c =
    let a = c.args in
    let rec = a.rec.now in
    let v = c.loop-j in
    let first = steps_aphase * a.i + 1 in
    let step = first + v.j in
    c.row_of.ensures
    ∙ ap (λ (o : ℕ). row_of o step (get_or a.table v.j 0 - v.rest)) c.order.ensures
    ∙ search-stops (seconds_of rec) (order_of rec) step (first + 5) v.rest _ (omega arith) (seconds-here rec a.i c.requires.0 v.j step a.table c.requires.1 (omega arith) (omega arith)) (omega arith)
    ∙ v.invariant.1

pub loop-j-preserved : goal.loop-j-preserved
loop-j-preserved c =
    let a = c.args in
    let rec = a.rec.now in
    let v = c.loop-j in
    let first = steps_aphase * a.i + 1 in
    let step = first + v.j in
    let here = seconds-here rec a.i c.requires.0 v.j step a.table c.requires.1 (omega arith) (omega arith) in
    let next : first + (v.j + 1) ≡ step + 1 = omega arith in
    (search rules, rw next (search-goes (seconds_of rec) (order_of rec) step (first + 5) v.rest _ (omega arith) here (omega arith) ∙ v.invariant.1))

pub returns : goal.returns
returns c =
    let rec = c.args.rec.now in
    let v = c.loop-j in
    let first = steps_aphase * c.args.i + 1 in
    search-ends (seconds_of rec) (order_of rec) (first + v.j) (first + 5) v.rest (omega arith) ∙ v.invariant.1
