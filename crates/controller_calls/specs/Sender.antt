-- The frame out, as the code keeps and sends it.
use Rattle.std.specs.Prelude.{◌≡◌, ℕ, ◌≤◌, List, length, take, drop}
use Rattle.std.proofs.lemmas.List.Edits.{sets}
use Rattle.frame.specs.Frame.{info_least, info_most}
use Rattle.controller.specs.declared.Link.{Link}
use Rattle.controller.specs.declared.Link.TheVariants as link
use Rattle.controller.specs.declared.Out.{Out}
use Rattle.controller.specs.Sender.{Sender, out_start}
use Rattle.controller.specs.State.{kept_len}

-- what is sent again is of a length that INFO can have
abbrev pub Sendable : Out → Link → Type 0
Sendable o link.Still = Unit
Sendable o link.Again = (info_least ≤ o.len) × (o.len ≤ info_most)
Sendable o link.Heard = Unit
Sendable o link.Down = Unit

-- this INFO, n octets long, now stands behind the decoder's and the last frame's; all other octets stay
pub record InfoPut (info before : List ℕ) (n : ℕ) (after : List ℕ) : Type 0 where
  pub count : n ≡ length info
  pub octets : after ≡ sets before out_start info

-- of the octets `lent` k are left: behind the decoder's and the last frame's, which stay, those of q; those beyond stay too
pub record KeptFor (q : Sender) (lent k : List ℕ) : Type 0 where
  pub decoder : take info_most k ≡ take info_most lent
  pub memory : take info_most (drop info_most k) ≡ take info_most (drop info_most lent)
  pub out : take info_most (drop out_start k) ≡ q.info
  pub beyond : drop kept_len k ≡ drop kept_len lent
