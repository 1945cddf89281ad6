-- `message_calls::layout::field_at`: each arm names the row of the table, by computation, and past the last stands no field.
use Rattle.std.proofs.Common.{ℕ, ◌≡◌, ◌≤◌, sym, ap, arith, get_or}
use mathlib.Core.Logic.{⊎_elim}
use lib.ListN.{get_or-eq_default}
use Rattle.message.specs.Fields.{no_field}
use Rattle.message.specs.Table.{table, table_len}
use Rattle.message_calls.proofs.layout.field_at.Goals as goal

row_is : (n : ℕ) {row : ℕ} → row ≡ n → get_or table n no_field ≡ get_or table row no_field
row_is n e = sym (ap (λ (i : ℕ). get_or table i no_field) e)

pub returns-in-0 : goal.returns-in-0
unfolding table
returns-in-0 c = row_is 0 c.in-0.is

pub returns-in-1 : goal.returns-in-1
unfolding table
returns-in-1 c = row_is 1 c.in-1.is

pub returns-in-2 : goal.returns-in-2
unfolding table
returns-in-2 c = row_is 2 c.in-2.is

pub returns-in-3 : goal.returns-in-3
unfolding table
returns-in-3 c = row_is 3 c.in-3.is

pub returns-in-11 : goal.returns-in-11
unfolding table
returns-in-11 c = row_is 11 c.in-11.is

pub returns-in-4 : goal.returns-in-4
unfolding table
returns-in-4 c = ⊎_elim (row_is 4) (row_is 12) c.in-4.is

pub returns-in-5 : goal.returns-in-5
unfolding table
returns-in-5 c = ⊎_elim (row_is 5) (row_is 13) c.in-5.is

pub returns-in-6 : goal.returns-in-6
unfolding table
returns-in-6 c = ⊎_elim (row_is 6) (row_is 14) c.in-6.is

pub returns-in-7 : goal.returns-in-7
unfolding table
returns-in-7 c = ⊎_elim (row_is 7) (row_is 15) c.in-7.is

pub returns-in-8 : goal.returns-in-8
unfolding table
returns-in-8 c = ⊎_elim (row_is 8) (row_is 16) c.in-8.is

pub returns-in-9 : goal.returns-in-9
unfolding table
returns-in-9 c = ⊎_elim (row_is 9) (row_is 17) c.in-9.is

pub returns-in-10 : goal.returns-in-10
unfolding table
returns-in-10 c = ⊎_elim (row_is 10) (row_is 18) c.in-10.is

pub returns-in-19 : goal.returns-in-19
unfolding table
returns-in-19 c = row_is 19 c.in-19.is

pub returns-in-26 : goal.returns-in-26
unfolding table
returns-in-26 c = row_is 26 c.in-26.is

pub returns-in-20 : goal.returns-in-20
unfolding table
returns-in-20 c = ⊎_elim (row_is 20) (⊎_elim (row_is 27) (row_is 33)) c.in-20.is

pub returns-in-21 : goal.returns-in-21
unfolding table
returns-in-21 c = ⊎_elim (row_is 21) (⊎_elim (row_is 28) (row_is 34)) c.in-21.is

pub returns-in-22 : goal.returns-in-22
unfolding table
returns-in-22 c = ⊎_elim (row_is 22) (row_is 29) c.in-22.is

pub returns-in-23 : goal.returns-in-23
unfolding table
returns-in-23 c = ⊎_elim (row_is 23) (⊎_elim (row_is 30) (row_is 35)) c.in-23.is

pub returns-in-24 : goal.returns-in-24
unfolding table
returns-in-24 c = ⊎_elim (row_is 24) (⊎_elim (row_is 31) (row_is 36)) c.in-24.is

pub returns-in-25 : goal.returns-in-25
unfolding table
returns-in-25 c = ⊎_elim (row_is 25) (⊎_elim (row_is 32) (row_is 37)) c.in-25.is

pub returns-in_default : goal.returns-in_default
unfolding table
returns-in_default c = let past : table_len ≤ c.args.row = grind arith in sym (get_or-eq_default table no_field past)
