-- `diagram_calls::first_row`: the directory has the first rows that are due, and the arms are those of what is due.
use Rattle.std.proofs.Common.{◌≡◌, arith}
use borrow.Author.Tests.{ne_eqb, le-leb, lt-leb}
use Rattle.diagram_calls.proofs.Laws.{first_due, first-due}
use Rattle.diagram_calls.proofs.first_row.Goals as goal

pub returns-in-96-to-255 : goal.returns-in-96-to-255
unfolding first_due
returns-in-96-to-255 c h = let o = c.args.order in rw (first-due o h, le-leb 0x60 o (omega arith), c.from-in-96-to-255.ensures)

pub returns-in-80-to-255 : goal.returns-in-80-to-255
unfolding first_due
returns-in-80-to-255 c h = let o = c.args.order in rw (first-due o h, lt-leb 0x60 o (omega arith), le-leb 0x50 o (omega arith), c.from.ensures)

pub returns-in-56 : goal.returns-in-56
unfolding first_due
returns-in-56 c h = rw (first-due c.args.order h, c.in-56.is)

pub returns-in-32 : goal.returns-in-32
unfolding first_due
returns-in-32 c h = rw (first-due c.args.order h, c.in-32.is)

pub returns-in_default : goal.returns-in_default
unfolding first_due
returns-in_default c h =
    let o = c.args.order in
    let a : o ≡ 0x20 → ⊥ = λ e. omega arith in
    let b : o ≡ 0x38 → ⊥ = λ e. omega arith in
    rw (first-due o h, lt-leb 0x60 o (omega arith), lt-leb 0x50 o (omega arith), ne_eqb o 0x20 a, ne_eqb o 0x38 b)
