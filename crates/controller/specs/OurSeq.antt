-- 01, "Replies": "Our SEQ starts at 0, grows by one per message frame written, and after 255 comes 0.": over any run, told from the
-- octets that the controller writes; 02, E6: but for frames that are sent again.
use Rattle.std.specs.Prelude.{ℕ, ◌+◌, ◌%◌, ◌<◌, ◌≡◌, List, [], ◌∷◌, ◌++◌, take, replicate}
use Rattle.octets.specs.Octet.{Octets}
use Rattle.frame.specs.Frame.{Frame, message, ack, nak}
use Rattle.frame.specs.Run.{Outcome, nothing, refused, sound, outcomes, AtRest}
use Rattle.frame.specs.Decoder.{Decoder, fresh_decoder}
use Rattle.controller.specs.declared.Link.{Link}
use Rattle.controller.specs.declared.Link.TheVariants as link
use Rattle.controller.specs.State.{State}
use Rattle.controller.specs.Replies.{octet_of, line_idle_of}
use Rattle.controller.specs.Offers.{offer_of}
use Rattle.controller.specs.Seconds.{second_of}
use Rattle.controller.specs.Demand2.{on_line}
use Rattle.controller.specs.Demand3.{HostCall, octet, line_idle, second, offer, next, Start, Starts, start_of}

-- the octets that a call writes: those that it counts
abbrev pub writes : State → HostCall → List ℕ
writes s (octet b _ book out _) = let w = octet_of s book out b in take w.answer.told.count w.out
writes s line_idle = []
writes s (second book out _) = let w = second_of s book out in take w.told.count w.out
writes s (offer info out _) = let w = offer_of s info out in take w.answer.told.count w.out

-- how the link stands, as the call tells it
abbrev pub tells_link : State → HostCall → Link
tells_link s (octet b _ book out _) = (octet_of s book out b).answer.told.link
tells_link s line_idle = (line_idle_of s).told.link
tells_link s (second book out _) = (second_of s book out).told.link
tells_link s (offer info out _) = (offer_of s info out).answer.told.link

abbrev pub writes_on : State → List HostCall → List ℕ
writes_on s [] = []
writes_on s (e ∷ es) = writes s e ++ writes_on (next s e) es

-- all that the run writes from a fresh start, one call after another
abbrev pub written_in : Start → List HostCall → List ℕ
written_in a es = writes_on (start_of a) es

-- the sound frames that a listener hears
abbrev pub frames_heard : List Outcome → List Frame
frames_heard [] = []
frames_heard (nothing ∷ os) = frames_heard os
frames_heard (refused n k seq addr ∷ os) = frames_heard os
frames_heard (sound f ∷ os) = f ∷ frames_heard os

-- those that he hears of one call's octets, and of each call of a run
abbrev pub heard_from : List ℕ → List Frame
heard_from octets = frames_heard (outcomes (fresh_decoder (replicate 256 0)) octets)

abbrev pub frames_on : State → List HostCall → List Frame
frames_on s [] = []
frames_on s (e ∷ es) = heard_from (writes s e) ++ frames_on (next s e) es

-- a frame that is sent again is left out
abbrev pub first_sends : Link → List Frame → List Frame
first_sends link.Still fs = fs
first_sends link.Again fs = []
first_sends link.Heard fs = fs
first_sends link.Down fs = fs

abbrev pub first_on : State → List HostCall → List Frame
first_on s [] = []
first_on s (e ∷ es) = first_sends (tells_link s e) (heard_from (writes s e)) ++ first_on (next s e) es

-- the message frames among them carry n, n + 1 and so on, modulo 256
abbrev pub CountsFrom : ℕ → List Frame → Type 0
CountsFrom n [] = Unit
CountsFrom n (message seq addr info ∷ fs) = (seq ≡ n % 256) × CountsFrom (n + 1) fs
CountsFrom n (ack seq addr ∷ fs) = CountsFrom n fs
CountsFrom n (nak seq addr err ∷ fs) = CountsFrom n fs

-- What a run writes is frames, one after another: whoever listens from rest hears just these, whole calls by whole calls. The n-th message frame of
-- them, from 0 and those left out that are sent again, carries n modulo 256, whatever seconds, refused calls, line-idle calls, offers and books lie between.
pub record SeqCounted (a : Start) (es : List HostCall) : Type 0 where
  pub octets : written_in a es ≡ on_line (frames_on (start_of a) es)
  pub heard : (d : Decoder) → AtRest d → frames_heard (outcomes d (written_in a es)) ≡ frames_on (start_of a) es
  pub counts : CountsFrom 0 (first_on (start_of a) es)

-- "Own address is 0 to 65,534."
abbrev pub OurSeqCounts : Type 0
OurSeqCounts = (a : Start) → Starts a → a.own < 0xFFFF → Octets a.kept → (es : List HostCall) → SeqCounted a es
