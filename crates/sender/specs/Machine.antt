-- 02, E6: "We want source document 004's stop and wait, five tries, for our message frames: one out at a time": the machine, over frames that are
-- offered, ACK and NAK frames for us and accepted seconds.
use Rattle.std.specs.Prelude.{ℕ, ◌+◌, List, [], ◌∷◌, ◌++◌, eqb, ltb}
use Rattle.octets.specs.Choice.{pick}

-- a message frame of ours, by its SEQ and its octets
pub record Ours : Type 0 where
  pub seq : ℕ
  pub octets : List ℕ

-- nothing is out, or a frame is: how often it was sent, and the accepted seconds since it was sent last
pub data Outgoing : Type 0 where
  free : Outgoing
  out : (f : Ours) (sends waited : ℕ) → Outgoing

pub data LinkEvent : Type 0 where
  -- a frame is offered, by the host or as a reply
  offer : Ours → LinkEvent
  -- an ACK or a NAK for us, with this SEQ; "a NAK, whatever its ERR"
  ack : ℕ → LinkEvent
  nak : ℕ → LinkEvent
  -- an accepted second
  second : LinkEvent

-- what is seen of it: a second passes, a frame is sent, or the link is told as heard or down
pub data Happening : Type 0 where
  passes : Happening
  sends : Ours → Happening
  heard : Happening
  down : Happening

pub record LinkStep : Type 0 where
  pub outgoing : Outgoing
  pub seen : List Happening

abbrev pub link_quiet : Outgoing → LinkStep
link_quiet l = record { outgoing = l; seen = [] }

-- "the same frame goes again; after five sends without an ACK, the link is reported down"
unfoldable pub again_of : Ours → ℕ → LinkStep
again_of f n = pick (ltb n 5) (record { outgoing = out f (n + 1) 0; seen = sends f ∷ [] }) (record { outgoing = free; seen = down ∷ [] })

-- a second passes, and then what else happens in it
abbrev pub passed : LinkStep → LinkStep
passed s = record { outgoing = s.outgoing; seen = passes ∷ s.seen }

unfoldable pub link_step_of : ℕ → Outgoing → LinkEvent → LinkStep
link_step_of t free (offer f) = record { outgoing = out f 1 0; seen = sends f ∷ [] }
link_step_of t free (ack m) = link_quiet free
link_step_of t free (nak m) = link_quiet free
link_step_of t free second = passed (link_quiet free)
-- "A frame offered while one is out is refused and the one out is untouched."
link_step_of t (out f n w) (offer g) = link_quiet (out f n w)
-- "An ACK or NAK with another SEQ is ignored"
link_step_of t (out f n w) (ack m) = pick (eqb m f.seq) (record { outgoing = free; seen = heard ∷ [] }) (link_quiet (out f n w))
link_step_of t (out f n w) (nak m) = pick (eqb m f.seq) (again_of f n) (link_quiet (out f n w))
-- "when T seconds .. pass unanswered"
link_step_of t (out f n w) second = passed (pick (ltb (w + 1) t) (link_quiet (out f n (w + 1))) (again_of f n))

-- what is seen of a run, and the link after it
abbrev pub link_seen_of : ℕ → Outgoing → List LinkEvent → List Happening
link_seen_of t l [] = []
link_seen_of t l (e ∷ es) = (link_step_of t l e).seen ++ link_seen_of t (link_step_of t l e).outgoing es

abbrev pub link_after : ℕ → Outgoing → List LinkEvent → Outgoing
link_after t l [] = l
link_after t l (e ∷ es) = link_after t (link_step_of t l e).outgoing es
