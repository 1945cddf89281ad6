-- `checks::standing`: one law for each way.
use Rattle.std.proofs.Common.{sym, ◌∙◌, rules}
use Rattle.checks.proofs.Laws.{stands-long, stands-not, stands-times, stands-ready, stands-else}
use Rattle.checks.proofs.Stands.{times-fit}
use Rattle.checks.proofs.standing.Goals as goal
use Rattle.checks.proofs.standing.Goals.{then-rec-ne-RECORD_LEN-via-then-rec-ne-RECORD_LEN, then-rec-ne-RECORD_LEN-via-else-rec-ne-RECORD_LEN+then-not-times_stand}

pub returns-then-rec-ne-RECORD_LEN : goal.returns-then-rec-ne-RECORD_LEN
returns-then-rec-ne-RECORD_LEN c =
    elim c.then-rec-ne-RECORD_LEN.branch [
      | then-rec-ne-RECORD_LEN-via-then-rec-ne-RECORD_LEN w ↦ stands-long c.args.rec.now w.if-rec-ne-RECORD_LEN.true
      | then-rec-ne-RECORD_LEN-via-else-rec-ne-RECORD_LEN+then-not-times_stand w ↦ stands-not c.args.rec.now w.if-rec-ne-RECORD_LEN.false w.times_stand.ensures w.if-not-times_stand.true
    ]

pub returns-in-1 : goal.returns-in-1
returns-in-1 c = stands-times c.args.rec.now c.if-rec-ne-RECORD_LEN.false c.times_stand.ensures c.if-not-times_stand.false c.in-1.is c.times_end.ensures (sym c.if-zero_from.true ∙ c.zero_from.ensures)

pub returns-in_default : goal.returns-in_default
returns-in_default c =
    stands-times c.args.rec.now c.if-rec-ne-RECORD_LEN.false c.times_stand.ensures c.if-not-times_stand.false c.in-1.is c.times_end.ensures (sym c.if-zero_from.false ∙ c.zero_from.ensures)

pub ready_stands-requires : goal.ready_stands-requires
ready_stands-requires c = (search rules, times-fit _ (sym c.times_stand.ensures ∙ c.if-not-times_stand.false))

pub returns-in-2 : goal.returns-in-2
returns-in-2 c = stands-ready c.args.rec.now c.if-rec-ne-RECORD_LEN.false c.times_stand.ensures c.if-not-times_stand.false c.in-2.is (sym c.if-ready_stands.true ∙ c.ready_stands.ensures)

pub returns-in_default-2 : goal.returns-in_default-2
returns-in_default-2 c =
    stands-ready c.args.rec.now c.if-rec-ne-RECORD_LEN.false c.times_stand.ensures c.if-not-times_stand.false c.in-2.is (sym c.if-ready_stands.false ∙ c.ready_stands.ensures)

pub returns-in_default-3 : goal.returns-in_default-3
returns-in_default-3 c = stands-else c.args.rec.now c.if-rec-ne-RECORD_LEN.false c.times_stand.ensures c.if-not-times_stand.false (search rules) (search rules)
