-- The layout of a code, and a layout with its count k, as the code has them.
use Rattle.std.specs.Prelude.{ℕ, ◌+◌, ◌≤◌, ◌≡◌, Bool, true, false, List, Option, Some, None}
use Rattle.octets.specs.First.{First}
use Rattle.message.specs.declared.layout.Field.{Field}
use Rattle.message.specs.declared.layout.LayoutLine.{LayoutLine}
use Rattle.message.specs.Layouts.{known, k_fits, layout_rows}
use Rattle.message.specs.Table.{kept_by, Kept}
use Rattle.message.specs.declared.Message.{Message}
use Rattle.message.specs.Writer.{writable, number_in, k_of_message}
use Rattle.message_calls.specs.declared.shape.Shape.{Shape}

-- the layout of this number, and none where there is none of it
abbrev pub LineOf : ℕ → Option LayoutLine → Type 0
LineOf l None = known l ≡ false
LineOf l (Some y) = (known l ≡ true) × Kept l y

-- y is one of the layouts
pub record IsListed (y : LayoutLine) : Type 0 where
  pub number : ℕ
  pub kept : Kept number y

-- the layout for k, and none where it may not have this k
abbrev pub ShapeOf : LayoutLine → ℕ → Option Shape → Type 0
ShapeOf y k None = k_fits (kept_by y) k ≡ false
ShapeOf y k (Some s) = (k_fits (kept_by y) k ≡ true) × (s.line ≡ y) × (s.k ≡ k)

-- its fields, left to right
abbrev pub shape_rows : Shape → List Field
shape_rows s = layout_rows (kept_by s.line) s.k

-- the number, from 1, of the first of n places at which `fails` holds, and none where it holds at none
abbrev pub NumberOut : (ℕ → Bool) → ℕ → Option ℕ → Type 0
NumberOut fails n None = First fails n 0
NumberOut fails n (Some r) = (1 ≤ r) × First fails n r

-- the layout of a message that may be written, and none of another
abbrev pub WritableAs : Message → Option Shape → Type 0
WritableAs m None = writable m ≡ false
WritableAs m (Some s) = (writable m ≡ true) × Kept (number_in m) s.line × (s.k ≡ k_of_message m)
