-- 01, "Frames" and "Replies": what a call of a frame writer answers, and what it leaves in the output.
use Rattle.std.specs.Prelude.{ℕ, List, ◌≡◌}
use Rattle.octets.specs.Choice.{pick}
use Rattle.octets.specs.Refusal as refusal
use Rattle.octets.specs.Writing.{Writing, nothing_written, written_as}
use Rattle.frame.specs.Frame.{Frame, message, info_fits, written}

-- "frame writer given INFO not 2 to 256 long": "nothing written"; "4 or 5 before 9 in a writer"
unfoldable pub write_frame : Frame → ℕ → List ℕ → Writing
write_frame f at out = pick (info_fits f) (written_as (written f) at out) (nothing_written refusal.info_wrong out)

-- what the writer refuses of a message frame, whatever its SEQ and address: these have no part in its length
abbrev pub RefusesMessage : List ℕ → ℕ → List ℕ → ℕ → Type 0
RefusesMessage info at out n = (seq addr : ℕ) → n ≡ (write_frame (message seq addr info) at out).answer.refusal
