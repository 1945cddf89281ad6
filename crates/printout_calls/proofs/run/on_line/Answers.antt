-- `printout_calls::run::on_line`: by what the line was.
use Rattle.std.proofs.Common.{◌≡◌}
use Rattle.line.specs.declared.LineFound.TheVariants as found
use Rattle.printout.proofs.Laws.{listed_more, listed-second, listed-octet, listed-bad}
use Rattle.printout_calls.proofs.run.on_line.Goals as goal

pub returns-in-None : goal.returns-in-None
returns-in-None c = let a = c.args in rw c.in-None.is (listed_more a.run a.kept.now a.book.now a.out.now a.text.now)

pub returns-in-Some-Second : goal.returns-in-Some-Second
returns-in-Some-Second c =
    let a = c.args in
    let is : c.in-Some-Second.field-0 ≡ found.Second = rw c.in-Some-Second.is at c.in-Some-Second.field-0-is in
    rw (c.in-Some-Second.is, is) (listed-second a.run a.kept.now a.book.now a.out.now a.text.now c.on_second.ensures)

pub returns-in-Some-Octet : goal.returns-in-Some-Octet
returns-in-Some-Octet c =
    let a = c.args in
    let is : c.in-Some-Octet.field-0 ≡ found.Octet c.in-Some-Octet.b = rw c.in-Some-Octet.is at c.in-Some-Octet.field-0-is in
    rw (c.in-Some-Octet.is, is) (listed-octet a.run a.kept.now a.book.now a.out.now a.text.now _ c.on_octet.ensures)

pub returns-in-Some-Bad : goal.returns-in-Some-Bad
returns-in-Some-Bad c =
    let a = c.args in
    let is : c.in-Some-Bad.field-0 ≡ found.Bad c.in-Some-Bad.n = rw c.in-Some-Bad.is at c.in-Some-Bad.field-0-is in
    rw (c.in-Some-Bad.is, is) (listed-bad a.run a.kept.now a.book.now a.out.now a.text.now _ c.on_bad.ensures)
