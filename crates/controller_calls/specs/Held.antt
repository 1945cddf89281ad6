-- The code's struct: which stand, and what a call answers that does nothing with it.
use Rattle.std.specs.Prelude.{ℕ, ◌+◌, Bool, not, List, ◌==◌, nat_le, Option, Some, None}
use Rattle.octets.specs.Choice.{both}
use Rattle.octets.specs.declared.refusal.Refusal.{Refusal}
use Rattle.frame.specs.declared.decoder.Receiver.{Receiver}
use Rattle.frame.specs.Decoder.{possible_of}
use Rattle.frame.specs.Dropped.{stopped}
use Rattle.record.specs.Record.{plans_most}
use Rattle.lamps.specs.Rows.{no_row, row_at}
use Rattle.controller.specs.declared.Event.TheVariants as event
use Rattle.controller.specs.declared.Held.{Held}
use Rattle.controller.specs.declared.HeldAnswer.{HeldAnswer}
use Rattle.controller.specs.declared.HeldShown.{HeldShown}
use Rattle.controller.specs.declared.Link.TheVariants as link
use Rattle.controller.specs.declared.Told.{Told}
use Rattle.controller.specs.declared.Turn.{Turn}
use Rattle.controller.specs.Memory.{last_fits}
use Rattle.controller.specs.Sender.{wait_fits, out_fits}
use Rattle.controller.specs.State.{kept_len, all, running_sound}
use Rattle.controller.specs.Seconds.{moved_on}

-- is the state sound, with so many octets lent?
unfoldable pub held_sound : Held → ℕ → Bool
held_sound s lent =
    both (not (s.own == all))
    (both (nat_le s.requested plans_most)
    (both (nat_le kept_len lent)
    (both (last_fits s.last)
    (both (wait_fits s.wait)
    (both (out_fits s.wait s.out)
    (both (possible_of s.receiver.head)
    (running_sound s.running)))))))

-- a call that tells its refusal alone, or that there is none
abbrev pub held_tells : Option Refusal → Told
held_tells why = record { refusal = why; parameter = 0; event = event.Nothing; count = 0; dropped = 0; link = link.Still }

abbrev pub held_quiet : Held → Refusal → HeldAnswer
held_quiet s why = record { state = s; told = held_tells (Some why) }

-- nothing refused and nothing written, and so many octets dropped
abbrev pub tells_dropped : ℕ → Told
tells_dropped n = record { refusal = None; parameter = 0; event = event.Nothing; count = 0; dropped = n; link = link.Still }

abbrev pub held_counted : Held → ℕ → HeldAnswer
held_counted s n = record { state = s; told = tells_dropped n }

-- another receiver
abbrev pub with_receiver : Held → Receiver → Held
with_receiver s r = record { own = s.own; seq = s.seq; requested = s.requested; wait = s.wait; receiver = r; last = s.last; out = s.out; running = s.running }

-- one octet more is dropped
abbrev pub one_dropped : Receiver → Receiver
one_dropped r = record { head = r.head; dropped = stopped (r.dropped + 1) }

-- one octet more of INFO is in
abbrev pub one_kept : Receiver → Receiver
one_kept r =
    let h = r.head in
    record { head = record { place = h.place; kind = h.kind; seq = h.seq; err = h.err; addr = h.addr; len = h.len; filled = h.filled + 1 }; dropped = r.dropped }

-- the call that hands back another receiver, and tells its number
abbrev pub held_received : Held → Receiver → HeldAnswer
held_received s r = held_counted (with_receiver s r) r.dropped

abbrev pub held_dark : Held → Refusal → HeldShown
held_dark s why = record { state = s; told = held_tells (Some why); plan = 0; row = no_row }

-- a second that is accepted: the frame out takes this turn, and so many octets are written
abbrev pub held_shown : Held → List ℕ → Turn → ℕ → HeldShown
held_shown s book t count =
    let u = s.running in
    record {
      state = record { own = s.own; seq = s.seq; requested = s.requested; wait = s.wait; receiver = s.receiver; last = s.last; out = t.out; running = moved_on u s.requested book };
      told = record { refusal = None; parameter = 0; event = event.Nothing; count = count; dropped = 0; link = t.link };
      plan = u.plan;
      row = row_at u.copy u.position;
    }
