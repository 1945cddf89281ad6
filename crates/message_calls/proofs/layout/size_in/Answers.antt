use Rattle.std.proofs.Common.{◌≡◌, ◌+◌, ◌-◌, ◌<◌, length, sym, ap, ◌∙◌, arith, rules}
use Rattle.message.specs.Fields.{two_of, width_of}
use Rattle.message.specs.Table.{cut}
use Rattle.message.proofs.Layouts.{length_cut, cut_at}
use Rattle.message.proofs.Values.{size-next, size-done, width-most}
use Rattle.message_calls.proofs.layout.size_in.Goals as goal

pub loop-row-preserved : goal.loop-row-preserved
loop-row-preserved c =
    let a = c.args in
    let row = c.loop-row.row in
    let i = row - a.from in
    let l : i < a.len = search rules in
    let h : i < length (cut a.from a.len) = rw (length_cut a.from a.len c.requires) l in
    let there : a.from + i ≡ row = search rules in
    let next : i + 1 ≡ row + 1 - a.from = search rules in
    let f = c.field_at.ensures ∙ sym (rw there at (cut_at a.from a.len c.requires i l)) in
    let w = c.width-size.ensures ∙ ap width_of (c.two.ensures ∙ ap two_of f) in
    (search rules, search rules, omega (arith, w, rw next at (size-next (cut a.from a.len) i h)), omega (arith, c.width-size.ensures, width-most c.two.result))

pub returns : goal.returns
returns c =
    let a = c.args in
    omega (arith, size-done (cut a.from a.len) (c.loop-row.row - a.from) (rw (length_cut a.from a.len c.requires) (search rules)))
