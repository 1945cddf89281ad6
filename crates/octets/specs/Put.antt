-- A run of octets stored in an output.
use Rattle.std.specs.Prelude.{ℕ, ◌+◌, ◌≤◌, ◌≡◌, List, leb, length}
use Rattle.std.proofs.lemmas.List.Edits.{sets}
use Rattle.octets.specs.Choice.{pick}

-- vs is stored in l from place i on, r is the place after it, and l' is what l then holds
pub record Stored (vs : List ℕ) (i : ℕ) (l : List ℕ) (r : ℕ) (l' : List ℕ) : Type 0 where
  pub place : r ≡ i + length vs
  pub holds : l' ≡ sets l i vs
  pub long : length l' ≡ length l
  pub fits : r ≤ length l

-- vs is stored where it fits, and nothing where it does not
pub record Put (vs : List ℕ) (i : ℕ) (l : List ℕ) (r : ℕ) (l' : List ℕ) : Type 0 where
  pub place : r ≡ pick (leb (i + length vs) (length l)) (i + length vs) i
  pub holds : l' ≡ pick (leb (i + length vs) (length l)) (sets l i vs) l
