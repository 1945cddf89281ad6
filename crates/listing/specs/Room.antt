-- What a run keeps from line to line: room in the text for any line.
use Rattle.std.specs.Prelude.{ℕ, ◌≤◌, ◌≡◌, List, length}
use Rattle.printout.specs.declared.Run.{Run}

abbrev pub text_len : ℕ
text_len = 8192

abbrev pub half : ℕ
half = 4096

pub record Room (run : Run) (text : List ℕ) : Type 0 where
  pub used : run.used ≤ half
  pub long : length text ≡ text_len
