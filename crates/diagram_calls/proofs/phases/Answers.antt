-- `diagram_calls::phases`: each arm is of the codes that the directory supports with so many phases, and of the others there are none.
use Rattle.std.proofs.Common.{inl, inr, sym, arith}
use Rattle.diagram.proofs.Known.{supported-codes}
use Rattle.diagram_calls.proofs.phases.Goals as goal

pub returns-in-0 : goal.returns-in-0
returns-in-0 c = sym ((supported-codes c.args.order).at00 c.in-0.is)

pub returns-in-32 : goal.returns-in-32
returns-in-32 c =
    let o = supported-codes c.args.order in
    elim c.in-32.is [ inl e ↦ sym (o.at20 e) | inr e ↦ sym (o.at38 e) ]

pub returns-in-80-to-87 : goal.returns-in-80-to-87
returns-in-80-to-87 c = sym ((supported-codes c.args.order).from50 (omega arith) (omega arith))

pub returns-in-80-to-87-2 : goal.returns-in-80-to-87-2
returns-in-80-to-87-2 c = sym ((supported-codes c.args.order).from60 (omega arith) (omega arith))

pub returns-in_default : goal.returns-in_default
returns-in_default c = sym ((supported-codes c.args.order).others (λ e. omega arith) (λ e. grind arith) (λ e. grind arith) (λ l m. omega arith) (λ l m. omega arith))

pub returns-in_default-2 : goal.returns-in_default-2
returns-in_default-2 c = sym ((supported-codes c.args.order).others (λ e. omega arith) (λ e. omega arith) (λ e. omega arith) (λ l m. omega arith) (λ l m. omega arith))

pub returns-in_default-3 : goal.returns-in_default-3
returns-in_default-3 c = sym ((supported-codes c.args.order).others (λ e. omega arith) (λ e. omega arith) (λ e. omega arith) (λ l m. omega arith) (λ l m. omega arith))
