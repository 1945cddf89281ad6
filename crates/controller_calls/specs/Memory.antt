-- A frame that is accepted, as the code remembers it.
use Rattle.std.specs.Prelude.{◌≡◌, ℕ, List, take}
use Rattle.std.proofs.lemmas.List.Edits.{sets}
use Rattle.frame.specs.Frame.{info_most}
use Rattle.controller.specs.declared.Last.{Last}

-- r is its SEQ and the length n of its INFO, which now stands behind the decoder's too; all other octets stay
pub record Remembered (seq n : ℕ) (before : List ℕ) (r : Last) (after : List ℕ) : Type 0 where
  pub last : r ≡ record { seq = seq; len = n }
  pub octets : after ≡ sets before info_most (take n before)
