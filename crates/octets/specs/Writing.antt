-- What a call of a writer answers, and what it leaves in the output.
use Rattle.std.specs.Prelude.{ℕ, ◌+◌, ◌≡◌, List, Result, Ok, Err, leb, length}
use Rattle.std.proofs.lemmas.List.Edits.{sets}
use Rattle.octets.specs.Choice.{pick}
use Rattle.octets.specs.Refusal as refusal
use Rattle.octets.specs.Refusals.{refusal_number}
use Rattle.octets.specs.declared.refusal.Refusal.{Refusal}

-- the number of the refusal, 0 for none, and how many octets are stored
pub record Written : Type 0 where
  pub refusal : ℕ
  pub count : ℕ

-- what the code answers: how many octets it stored, or the refusal
abbrev pub written_of : Result ℕ Refusal → Written
written_of (Ok n) = record { refusal = refusal.none; count = n }
written_of (Err r) = record { refusal = refusal_number r; count = 0 }

pub record Writing : Type 0 where
  pub answer : Written
  pub out : List ℕ

-- the call answered r and left o in the output, as it should
pub record WriterLeaves (w : Writing) (r : Written) (o : List ℕ) : Type 0 where
  pub answer : r ≡ w.answer
  pub out : o ≡ w.out

-- "nothing written"
abbrev pub nothing_written : ℕ → List ℕ → Writing
nothing_written n out = record { answer = record { refusal = n; count = 0 }; out = out }

-- the octets vs stored from `at` on; "output too short: .. exact need for a writer"
unfoldable pub written_as : List ℕ → ℕ → List ℕ → Writing
written_as vs at out =
    pick (leb (at + length vs) (length out))
    (record { answer = record { refusal = refusal.none; count = length vs }; out = sets out at vs })
    (nothing_written refusal.output_short out)
