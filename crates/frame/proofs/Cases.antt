-- The cases, computed.
use mathlib.Core.Path.{refl}
use Rattle.octets.specs.ExclusiveOr.{xor, exclusive_or}
use Rattle.frame.specs.Frame.{front_of, body_of, sent_of, cks_of, twice, doubled, written}
use Rattle.frame.specs.Decoder.{fresh_head, possible_of, front_in, cks_in, step_of, taken_of}
use Rattle.frame.specs.Run.{outcomes}
use Rattle.frame.specs.Cases.{frames_read, due_frames_read, frames_written, due_frames_written, FrameCases, further_read, due_further_read, further_written, due_further_written, FurtherFrameCases}

pub frame-cases : FrameCases
unfolding frames_read due_frames_read frames_written due_frames_written outcomes written front_of body_of sent_of cks_of twice doubled exclusive_or xor fresh_head possible_of front_in cks_in step_of taken_of
frame-cases = (refl, refl)

pub further-frame-cases : FurtherFrameCases
unfolding further_read due_further_read further_written due_further_written outcomes written front_of body_of sent_of cks_of twice doubled exclusive_or xor fresh_head possible_of front_in cks_in step_of taken_of
further-frame-cases = (refl, refl)
