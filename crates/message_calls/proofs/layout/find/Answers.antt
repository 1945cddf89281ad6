-- `message_calls::layout::find`: what each line cuts out of the table of fields is the layout of its code, by computation, and another code
-- is none of them.
use Rattle.std.proofs.Common.{ℕ, ◌≡◌, ◌+◌, ◌≤◌, true, false, sym, refl, eqb, arith, rules}
use borrow.Author.Tests.{ne_eqb}
use Rattle.octets.specs.First.{first_of}
use Rattle.message.specs.declared.layout.LayoutLine.{LayoutLine}
use Rattle.message.specs.Layouts.{layouts, layout_at, known, number_of}
use Rattle.message.specs.Table.{table, table_len, cut, kept_by, Kept}
use Rattle.message.proofs.Layouts.{kept_at}
use Rattle.message_calls.proofs.layout.find.Goals as goal

-- the line of a code whose number is n
line_of : {c : ℕ} {y : LayoutLine} → y.from + y.head + y.group + y.tail ≤ table_len → (listed n : ℕ) → c ≡ listed → number_of listed ≡ n → known n ≡ true → kept_by y ≡ layout_at n
    → (known (number_of c) ≡ true) × Kept (number_of c) y
line_of inside listed n e is k y = rw (e, is) (k, kept_at inside n refl y)

pub returns-in-3968 : goal.returns-in-3968
unfolding number_of first_of known layouts layout_at table cut
returns-in-3968 c = line_of (omega arith) 3968 1 c.in-3968.is refl refl refl

pub returns-in-3969 : goal.returns-in-3969
unfolding number_of first_of known layouts layout_at table cut
returns-in-3969 c = line_of (omega arith) 3969 2 c.in-3969.is refl refl refl

pub returns-in-24340 : goal.returns-in-24340
unfolding number_of first_of known layouts layout_at table cut
returns-in-24340 c = line_of (omega arith) 24340 3 c.in-24340.is refl refl refl

pub returns-in-24516 : goal.returns-in-24516
unfolding number_of first_of known layouts layout_at table cut
returns-in-24516 c = line_of (omega arith) 24516 4 c.in-24516.is refl refl refl

pub returns-in-24341 : goal.returns-in-24341
unfolding number_of first_of known layouts layout_at table cut
returns-in-24341 c = line_of (omega arith) 24341 5 c.in-24341.is refl refl refl

pub returns-in-24517 : goal.returns-in-24517
unfolding number_of first_of known layouts layout_at table cut
returns-in-24517 c = line_of (omega arith) 24517 6 c.in-24517.is refl refl refl

pub returns-in-24520 : goal.returns-in-24520
unfolding number_of first_of known layouts layout_at table cut
returns-in-24520 c = line_of (omega arith) 24520 7 c.in-24520.is refl refl refl

pub returns-in-24344 : goal.returns-in-24344
unfolding number_of first_of known layouts layout_at table cut
returns-in-24344 c = line_of (omega arith) 24344 8 c.in-24344.is refl refl refl

pub returns-in-24388 : goal.returns-in-24388
unfolding number_of first_of known layouts layout_at table cut
returns-in-24388 c = line_of (omega arith) 24388 9 c.in-24388.is refl refl refl

pub returns-in-24389 : goal.returns-in-24389
unfolding number_of first_of known layouts layout_at table cut
returns-in-24389 c = line_of (omega arith) 24389 10 c.in-24389.is refl refl refl

pub returns-in-24392 : goal.returns-in-24392
unfolding number_of first_of known layouts layout_at table cut
returns-in-24392 c = line_of (omega arith) 24392 11 c.in-24392.is refl refl refl

-- another code than a listed one
other : {code listed : ℕ} → (code ≡ listed → ⊥) → eqb listed code ≡ false
other {code} {listed} n = ne_eqb listed code (λ e. n (sym e))

pub returns-in_default : goal.returns-in_default
unfolding number_of first_of known layouts layout_at
returns-in_default c =
    let n = c.args.code in
    let n1 : n ≡ 3968 → ⊥ = search rules in
    let n2 : n ≡ 3969 → ⊥ = search rules in
    let n3 : n ≡ 24340 → ⊥ = search rules in
    let n4 : n ≡ 24516 → ⊥ = search rules in
    let n5 : n ≡ 24341 → ⊥ = search rules in
    let n6 : n ≡ 24517 → ⊥ = search rules in
    let n7 : n ≡ 24520 → ⊥ = search rules in
    let n8 : n ≡ 24344 → ⊥ = search rules in
    let n9 : n ≡ 24388 → ⊥ = search rules in
    let n10 : n ≡ 24389 → ⊥ = search rules in
    let n11 : n ≡ 24392 → ⊥ = search rules in
    rw (other n1, other n2, other n3, other n4, other n5, other n6, first_of)
    (rw (other n7, other n8, other n9, other n10, other n11, first_of))
