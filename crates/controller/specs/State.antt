-- 01, "Replies" and "Lamps and seconds": the state, a fresh one, and which are sound.
use Rattle.std.specs.Prelude.{ℕ, ◌*◌, Bool, true, not, List, eqb, ltb, leb, length, take}
use Rattle.octets.specs.Choice.{pick, both}
use Rattle.octets.specs.Same.{same}
use Rattle.frame.specs.Frame.{info_most}
use Rattle.frame.specs.Decoder.{Decoder, fresh_decoder, possible_of, joined_decoder}
use Rattle.record.specs.Record.{plans_most, ready, cycle_of}
use Rattle.checks.specs.Standing.{standing_of}
use Rattle.plan.specs.declared.Which.{Which}
use Rattle.plan.specs.BuiltIn.{built_in}
use Rattle.plan.specs.Reading.{record_at}
use Rattle.controller.specs.declared.Running.{Running}
use Rattle.controller.specs.declared.Held.{Held}
use Rattle.controller.specs.Memory.{Memory, joined_memory, none_accepted, last_fits}
use Rattle.controller.specs.Sender.{Sender, joined_sender, none_out, wait_fits, out_fits}
use Rattle.controller.specs.declared.Out.{Out}

-- own address, our SEQ, the requested plan, the T of 02, E6, the decoder with the octets that it keeps for INFO, the octets dropped, the last message
-- frame accepted, our frame that is out, the running plan
pub record State : Type 0 where
  pub own : ℕ
  pub seq : ℕ
  pub requested : ℕ
  pub wait : ℕ
  pub decoder : Decoder
  pub dropped : ℕ
  pub memory : Memory
  pub sender : Sender
  pub running : Running

-- In the code the state is a struct and octets that the host lends. So many of these are wanted: the 256 that the decoder keeps for INFO, behind
-- them 256 for INFO of the last frame accepted, and behind these 256 for INFO of the frame out.
abbrev pub kept_len : ℕ
kept_len = 3 * info_most

-- the state that the struct and the octets lent are; where more are lent, those beyond are no part of it
abbrev pub joined : Held → List ℕ → State
joined s kept =
    let r = s.receiver in
    record {
      own = s.own;
      seq = s.seq;
      requested = s.requested;
      wait = s.wait;
      decoder = joined_decoder r.head kept;
      dropped = r.dropped;
      memory = joined_memory s.last kept;
      sender = joined_sender s.out kept;
      running = s.running;
    }

-- "FFFF is for all"
abbrev pub all : ℕ
all = 0xFFFF

-- "output too short: 544 for an octet call"; 02, E6: "The second call is lent 544 octets of output too."
abbrev pub output_len : ℕ
output_len = 544

-- a plan at its cycle's start, of a controller whose plan 0 is the one that is named
abbrev pub started_at : Which → ℕ → List ℕ → Running
started_at which plan rec = record { which = which; plan = plan; position = 0; copy = rec }

-- "A fresh start runs and requests plan 0 at position 0"; "Our SEQ starts at 0"; 02, E1: "A start call that names the old built-in plan
-- stays .. the plain start takes the new one. The state keeps which one"; E5: no octet is dropped; E4: "A fresh start remembers none"; E6: none is
-- out; what the octets kept hold does not matter
unfoldable pub fresh_of : Which → ℕ → ℕ → List ℕ → State
fresh_of which own wait kept =
    record {
      own = own;
      seq = 0;
      requested = 0;
      wait = wait;
      decoder = fresh_decoder (take info_most kept);
      dropped = 0;
      memory = joined_memory none_accepted kept;
      sender = joined_sender none_out kept;
      running = started_at which 0 (built_in which);
    }

-- the state with another decoder and number of octets dropped; after a second, with another running plan and with that which is then out
abbrev pub with_decoder : State → Decoder → ℕ → State
with_decoder s d n = record { own = s.own; seq = s.seq; requested = s.requested; wait = s.wait; decoder = d; dropped = n; memory = s.memory; sender = s.sender; running = s.running }

abbrev pub with_second : State → Running → Out → State
with_second s u o = record { own = s.own; seq = s.seq; requested = s.requested; wait = s.wait; decoder = s.decoder; dropped = s.dropped; memory = s.memory; sender = record { out = o; info = s.sender.info }; running = u }

-- the record of plan p: "Plan 0 is built in", all others stand in the book; "plan 0 means that one throughout"
abbrev pub record_with : List ℕ → List ℕ → ℕ → List ℕ
record_with zero book p = pick (eqb p 0) zero (record_at book p)

abbrev pub plan_record : Which → List ℕ → ℕ → List ℕ
plan_record which book p = record_with (built_in which) book p

-- "Plan 0 is ready", and so is one whose record in the book is
abbrev pub ready_in : Which → List ℕ → ℕ → Bool
ready_in which book p = eqb (standing_of (plan_record which book p)) ready

-- "state handed in is unsound (own address FFFF, requested plan over 48, position outside the cycle, running plan over 48,
-- failing the checks, or numbered 0 and unlike the built-in, impossible decoder place)"; the built-in is the one that is kept, and a
-- decoder without its 256 octets of INFO is impossible; 02, E4: so is a memory without its own, or of a length that INFO can't have; E6: so is a
-- sender without its own, "T outside 1 to 60", and what can't be out
unfoldable pub running_sound : Running → Bool
running_sound u =
    both (ltb u.position (cycle_of u.copy))
    (both (leb u.plan plans_most)
    (both (eqb (standing_of u.copy) ready)
    (pick (eqb u.plan 0) (same u.copy (built_in u.which)) true)))

unfoldable pub sound_of : State → Bool
sound_of s =
    both (not (eqb s.own all))
    (both (leb s.requested plans_most)
    (both (eqb (length s.decoder.info) info_most)
    (both (eqb (length s.memory.info) info_most)
    (both (eqb (length s.sender.info) info_most)
    (both (last_fits s.memory.last)
    (both (wait_fits s.wait)
    (both (out_fits s.wait s.sender.out)
    (both (possible_of s.decoder.head)
    (running_sound s.running)))))))))
