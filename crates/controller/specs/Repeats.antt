-- 02, E4: "The centre resends when our ACK is lost .. A sound message frame whose SEQ and INFO both equal those of the last one accepted (for us or
-- FFFF, refused 10 to 14 or not) is a repeat: it gets the ACK (none for FFFF) and nothing else. A fresh start remembers none; line-idle keeps the
-- memory.": over any run what is remembered is the last one accepted, and a frame sent twice does what it does once.
use Rattle.std.specs.Prelude.{ℕ, ◌≤◌, ◌<◌, ◌≡◌, true, List, [], ◌∷◌, length}
use Rattle.std.proofs.Math.Option.{Option, none, some}
use Rattle.octets.specs.Octet.{Octets}
use Rattle.frame.specs.Frame.{message, ack, written}
use Rattle.frame.specs.Promises.{InOctets, InfoFits}
use Rattle.frame.specs.Run.{AtRest}
use Rattle.controller.specs.Memory.{Memory}
use Rattle.controller.specs.State.{State, sound_of}
use Rattle.controller.specs.declared.Event.TheVariants as event
use Rattle.controller.specs.Replies.{Call, octet_of}
use Rattle.controller.specs.Seconds.{second_of}
use Rattle.controller.specs.Demand2.{Repeats, NoSilence}
use Rattle.controller.specs.Demand3.{HostCall, octet, line_idle, second, offer, next, goes_on, Start, Starts, run, Accepted, heard_in, second_accepted}
use Rattle.controller.specs.OurSeq.{writes_on}

-- What is remembered

-- it is the memory of this frame, or of none
abbrev pub IsLast : Memory → Option Accepted → Type 0
IsLast m none = m.last.len ≡ 0
IsLast m (some a) = Repeats m a.seq a.info

-- From a fresh start, states handed back as given, octets, line-idle calls, offers and seconds mixed at will, refused calls too: which frames were
-- accepted is told from the octets handed in, and from whether a call wrote any: 02, E6, "met with silence, not carried out and not remembered".
abbrev pub LastKept : Type 0
LastKept = (a : Start) → Starts a → (es : List HostCall) → IsLast (run a es).memory (heard_in a es).last

-- Sent twice

-- the octets are handed in one by one, each with a book of 3,840 octets and an output of 544 or more, whatever they hold
pub data HandsIn : List ℕ → List HostCall → Type 0 where
  end : HandsIn [] []
  more : {bs : List ℕ} {es : List HostCall} (b : ℕ) (l : b < 256) (book out : List ℕ) (o : Octets book) → length book ≡ 3840 → 544 ≤ length out
      → HandsIn bs es → HandsIn (b ∷ bs) (octet b l book out o ∷ es)

-- an octet call leaves the book that it is lent, and names no refusal, no parameter and no event
pub record TellsNothing (lent : List ℕ) (w : Call) : Type 0 where
  pub book : w.book ≡ lent
  pub refusal : w.answer.told.refusal ≡ 0
  pub parameter : w.answer.told.parameter ≡ 0
  pub event : w.answer.told.event ≡ event.Nothing

-- and so do all of them
abbrev pub AllTellNothing : State → List HostCall → Type 0
AllTellNothing s [] = Unit
AllTellNothing s (octet b l book out o ∷ es) = TellsNothing book (octet_of s book out b) × AllTellNothing (next s (octet b l book out o)) es
AllTellNothing s (line_idle ∷ es) = AllTellNothing (next s line_idle) es
AllTellNothing s (second book out o ∷ es) = AllTellNothing (next s (second book out o)) es
AllTellNothing s (offer info out o ∷ es) = AllTellNothing (next s (offer info out o)) es

-- the calls `again` do nothing to the state t but write these octets: request, our SEQ, memory and what is out stay, no plan is altered, and every second
-- shows what it would have shown; the decoder is at rest again, so that the same holds of a third time
pub record NothingElse (t : State) (again : List HostCall) (octets : List ℕ) : Type 0 where
  pub writes : writes_on t again ≡ octets
  pub tells : AllTellNothing t again
  pub decoder : AtRest (goes_on t again).decoder
  pub requested : (goes_on t again).requested ≡ t.requested
  pub seq : (goes_on t again).seq ≡ t.seq
  pub memory : (goes_on t again).memory ≡ t.memory
  pub sender : (goes_on t again).sender ≡ t.sender
  pub running : (goes_on t again).running ≡ t.running
  pub lamps : (book out : List ℕ) → second_accepted (second_of (goes_on t again) book out) ≡ second_accepted (second_of t book out)

-- "it gets the ACK (none for FFFF) and nothing else": from any sound state with its decoder at rest, a message frame and then the same octets,
-- whatever books are lent then; 02, E6: where the first is not met with silence
pub record TwiceAsOnce (s : State) (seq addr : ℕ) (first again : List HostCall) : Type 0 where
  pub ours : addr ≡ s.own → NothingElse (goes_on s first) again (written (ack seq s.own))
  pub for_all : addr ≡ 0xFFFF → NothingElse (goes_on s first) again []

abbrev pub SentTwice : Type 0
SentTwice =
    (s : State) → sound_of s ≡ true → AtRest s.decoder → (seq addr : ℕ) (info : List ℕ) → InOctets (message seq addr info) → InfoFits (message seq addr info)
    → NoSilence s seq addr info → (first again : List HostCall) → HandsIn (written (message seq addr info)) first → HandsIn (written (message seq addr info)) again
    → TwiceAsOnce s seq addr first again
