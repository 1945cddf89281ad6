-- 02, E6, over any run: "one out at a time; on a NAK, or when T seconds .. pass unanswered, the same frame goes again; after five sends without an ACK,
-- the link is reported down .. Every offered frame ends as heard or down within 5T accepted seconds.", told from the octets that are handed in and
-- written, from the seconds and from what the calls tell of the link.
use Rattle.std.specs.Prelude.{◌<◌, ◌≡◌, List, [], ◌∷◌, ◌++◌, map, eqb, leb, length}
use Rattle.std.proofs.Math.Option.{none}
use Rattle.octets.specs.Choice.{pick, both}
use Rattle.octets.specs.Octet.{Octets}
use Rattle.frame.specs.Frame.{Frame, message, ack, nak, written}
use Rattle.frame.specs.Decoder.{taken_of}
use Rattle.frame.specs.Run.{Outcome, nothing, refused, sound, outcome_of}
use Rattle.sender.specs.Machine.{Ours, LinkEvent, Happening, free, link_seen_of}
use Rattle.sender.specs.Machine as sender
use Rattle.sender.specs.Promises.{Goes}
use Rattle.controller.specs.declared.Link.{Link}
use Rattle.controller.specs.declared.Link.TheVariants as link
use Rattle.controller.specs.State.{State}
use Rattle.controller.specs.Seconds.{second_of}
use Rattle.controller.specs.Demand3.{HostCall, octet, line_idle, second, offer, next, Start, Starts, start_of}
use Rattle.controller.specs.OurSeq.{writes, tells_link, heard_from}

-- What is seen

-- the message frames among those that are heard
abbrev pub ours_in : List Frame → List Ours
ours_in [] = []
ours_in (message seq addr info ∷ fs) = record { seq = seq; octets = written (message seq addr info) } ∷ ours_in fs
ours_in (ack seq addr ∷ fs) = ours_in fs
ours_in (nak seq addr err ∷ fs) = ours_in fs

-- those of the octets that a call writes
abbrev pub ours_of : State → HostCall → List Ours
ours_of s e = ours_in (heard_from (writes s e))

abbrev pub link_seen : Link → List Happening
link_seen link.Still = []
link_seen link.Again = []
link_seen link.Heard = sender.heard ∷ []
link_seen link.Down = sender.down ∷ []

-- an accepted second
abbrev pub if_accepted {ℓ} : {A : Type ℓ} → A → State → HostCall → List A
if_accepted x s (octet b _ book out _) = []
if_accepted x s line_idle = []
if_accepted x s (second book out _) = pick (eqb (second_of s book out).told.refusal 0) (x ∷ []) []
if_accepted x s (offer info out _) = []

-- of a call: that a second passes, the message frames written, and that the link is told as heard or down
abbrev pub seen_in : State → HostCall → List Happening
seen_in s e = if_accepted sender.passes s e ++ (map sender.sends (ours_of s e) ++ link_seen (tells_link s e))

abbrev pub seen_on : State → List HostCall → List Happening
seen_on s [] = []
seen_on s (e ∷ es) = seen_in s e ++ seen_on (next s e) es

-- What comes to the sender

-- of an octet that is taken: an ACK or a NAK for us; else the message frames written are new ones
abbrev pub brings : State → List Ours → Outcome → List LinkEvent
brings s fs nothing = map sender.offer fs
brings s fs (refused n k seq addr) = map sender.offer fs
brings s fs (sound (message seq addr info)) = map sender.offer fs
brings s fs (sound (ack seq addr)) = pick (eqb addr s.own) (sender.ack seq ∷ []) []
brings s fs (sound (nak seq addr err)) = pick (eqb addr s.own) (sender.nak seq ∷ []) []

abbrev pub events_in : State → HostCall → List LinkEvent
events_in s (octet b l book out o) =
    pick (both (eqb (length book) 3840) (leb 544 (length out))) (brings s (ours_of s (octet b l book out o)) (outcome_of (taken_of s.decoder b))) []
events_in s line_idle = []
events_in s (second book out o) = if_accepted sender.second s (second book out o)
events_in s (offer info out o) = map sender.offer (ours_of s (offer info out o))

abbrev pub events_on : State → List HostCall → List LinkEvent
events_on s [] = []
events_on s (e ∷ es) = events_in s e ++ events_on (next s e) es

-- The controller does what the machine of the crate `sender` does
abbrev pub SendsAsSaid : Type 0
SendsAsSaid =
    (a : Start) → Starts a → a.own < 0xFFFF → Octets a.kept → (es : List HostCall) → seen_on (start_of a) es ≡ link_seen_of a.wait free (events_on (start_of a) es)

-- "one out at a time", each sent at most five times, octet by octet the same, and each ends once, as heard or as down, within 5T accepted seconds
abbrev pub OneOut : Type 0
OneOut = (a : Start) → Starts a → a.own < 0xFFFF → Octets a.kept → (es : List HostCall) → Goes a.wait none (seen_on (start_of a) es)
