-- How the code keeps the layouts: one table has the rows of all fields, and each layout's rows stand together in it.
use Rattle.std.specs.Prelude.{ℕ, ◌+◌, ◌≤◌, ◌≡◌, List, [], ◌∷◌, take, drop}
use Rattle.message.specs.Fields.{code, error_number, parameter_number, plan_set, plan, count, minimum, maximum, yellow, all_red, walk_flash, red_man, direct, order, green, cycle, offset}
use Rattle.message.specs.Layouts as layouts
use Rattle.message.specs.declared.layout.Field.{Field}
use Rattle.message.specs.declared.layout.LayoutLine.{LayoutLine}

unfoldable pub table : List Field
table =
    code ∷ error_number ∷ parameter_number
    ∷ plan_set ∷ count ∷ minimum ∷ maximum ∷ yellow ∷ all_red ∷ walk_flash ∷ red_man
    ∷ plan ∷ count ∷ minimum ∷ maximum ∷ yellow ∷ all_red ∷ walk_flash ∷ red_man
    ∷ plan_set ∷ direct ∷ order ∷ count ∷ green ∷ cycle ∷ offset
    ∷ plan ∷ direct ∷ order ∷ count ∷ green ∷ cycle ∷ offset
    ∷ direct ∷ order ∷ green ∷ cycle ∷ offset
    ∷ []

abbrev pub table_len : ℕ
table_len = 38

-- so many rows from a place of the table on
unfoldable pub cut : ℕ → ℕ → List Field
cut from n = take n (drop from table)

-- the layout that the code's line is of
abbrev pub kept_by : LayoutLine → layouts.Layout
kept_by y =
    record {
      code = y.code;
      head = cut y.from y.head;
      group = cut (y.from + y.head) y.group;
      tail = cut (y.from + y.head + y.group) y.tail;
      count = y.count;
      fewest = y.fewest;
      most = y.most;
    }

-- y is how the code keeps the layout of this number
pub record Kept (l : ℕ) (y : LayoutLine) : Type 0 where
  pub is : kept_by y ≡ layouts.layout_at l
  pub inside : y.from + y.head + y.group + y.tail ≤ table_len
