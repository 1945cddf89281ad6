-- 02, E6, over any run: "Every offered frame ends as heard or down within 5T accepted seconds."
use Rattle.std.specs.Prelude.{ℕ, ◌+◌, ◌*◌, ◌≤◌, ◌<◌, ◌≡◌, List, [], ◌∷◌, ◌++◌, replicate}
use Rattle.std.proofs.Math.Option.{Option, none, some}
use Rattle.sender.specs.Machine.{Ours, free, out, LinkEvent, offer, ack, nak, second, Happening, passes, sends, heard, down, link_step_of, link_seen_of}

-- a frame that is out, how often it was sent, and the accepted seconds since it was sent first
pub record Talk : Type 0 where
  pub frame : Ours
  pub times : ℕ
  pub seconds : ℕ

abbrev pub talk : Ours → ℕ → ℕ → Option Talk
talk f n k = some (record { frame = f; times = n; seconds = k })

-- What may be seen where nothing is out, and where a frame is: one frame at a time, each sent at most five times with the same octets, and each ends
-- once, as heard or as down, within 5T accepted seconds. Between two frames one of these is told.
pub data Goes (t : ℕ) : Option Talk → List Happening → Type 0 where
  rest : Goes t none []
  idle : {hs : List Happening} → Goes t none hs → Goes t none (passes ∷ hs)
  first : {hs : List Happening} (f : Ours) → Goes t (talk f 1 0) hs → Goes t none (sends f ∷ hs)
  -- the run ends before the frame does: its 5T seconds are not over
  unfinished : {f : Ours} {n k : ℕ} → k < 5 * t → Goes t (talk f n k) []
  waits : {hs : List Happening} {f : Ours} {n k : ℕ} → k + 1 ≤ 5 * t → Goes t (talk f n (k + 1)) hs → Goes t (talk f n k) (passes ∷ hs)
  again : {hs : List Happening} {f : Ours} {n k : ℕ} → n < 5 → Goes t (talk f (n + 1) k) hs → Goes t (talk f n k) (sends f ∷ hs)
  hears : {hs : List Happening} {f : Ours} {n k : ℕ} → Goes t none hs → Goes t (talk f n k) (heard ∷ hs)
  -- "after five sends without an ACK, the link is reported down"
  downs : {hs : List Happening} {f : Ours} {k : ℕ} → Goes t none hs → Goes t (talk f 5 k) (down ∷ hs)

-- "T seconds (1 to 60, given at the start)"; all of it holds of every T but 0
abbrev pub EndsHeardOrDown : Type 0
EndsHeardOrDown = (t : ℕ) → 1 ≤ t → (es : List LinkEvent) → Goes t none (link_seen_of t free es)

-- Unanswered, a frame is sent at 0, T, 2T, 3T and 4T, and the link is told as down at 5T
abbrev pub link_seconds : ℕ → List LinkEvent
link_seconds n = replicate n second

abbrev pub wait : ℕ → List Happening
wait t = replicate t passes

abbrev pub SentAtEachT : Type 0
SentAtEachT =
    (t : ℕ) (f : Ours) → 1 ≤ t
    → link_seen_of t free (offer f ∷ link_seconds (5 * t))
    ≡ sends f ∷ (wait t ++ (sends f ∷ (wait t ++ (sends f ∷ (wait t ++ (sends f ∷ (wait t ++ (sends f ∷ (wait t ++ (down ∷ []))))))))))

-- One step, where a frame is out that was sent n times, w accepted seconds ago for the last time
pub record OutSo (t : ℕ) (f : Ours) (n w : ℕ) : Type 0 where
  -- "A frame offered while one is out is refused and the one out is untouched."
  pub offered : (g : Ours) → link_step_of t (out f n w) (offer g) ≡ record { outgoing = out f n w; seen = [] }
  -- "An ACK or NAK with another SEQ is ignored"
  pub other_ack : (m : ℕ) → (m ≡ f.seq → ⊥) → link_step_of t (out f n w) (ack m) ≡ record { outgoing = out f n w; seen = [] }
  pub other_nak : (m : ℕ) → (m ≡ f.seq → ⊥) → link_step_of t (out f n w) (nak m) ≡ record { outgoing = out f n w; seen = [] }
  -- an ACK with its SEQ ends it as heard
  pub acked : link_step_of t (out f n w) (ack f.seq) ≡ record { outgoing = free; seen = heard ∷ [] }
  -- "on a NAK .. the same frame goes again", and the wait starts anew; "a NAK of the fifth send ends it as down"
  pub naked : n < 5 → link_step_of t (out f n w) (nak f.seq) ≡ record { outgoing = out f (n + 1) 0; seen = sends f ∷ [] }
  pub naked_last : 5 ≤ n → link_step_of t (out f n w) (nak f.seq) ≡ record { outgoing = free; seen = down ∷ [] }
  -- "or when T seconds .. pass unanswered"
  pub waits : w + 1 < t → link_step_of t (out f n w) second ≡ record { outgoing = out f n (w + 1); seen = passes ∷ [] }
  pub over : t ≤ w + 1 → n < 5 → link_step_of t (out f n w) second ≡ record { outgoing = out f (n + 1) 0; seen = passes ∷ sends f ∷ [] }
  pub over_last : t ≤ w + 1 → 5 ≤ n → link_step_of t (out f n w) second ≡ record { outgoing = free; seen = passes ∷ down ∷ [] }

abbrev pub OutSaid : Type 0
OutSaid = (t : ℕ) (f : Ours) (n w : ℕ) → OutSo t f n w

-- and where nothing is out: a frame that is offered goes out, and ACK and NAK frames are ignored
pub record FreeSo (t : ℕ) : Type 0 where
  pub offered : (f : Ours) → link_step_of t free (offer f) ≡ record { outgoing = out f 1 0; seen = sends f ∷ [] }
  pub acked : (m : ℕ) → link_step_of t free (ack m) ≡ record { outgoing = free; seen = [] }
  pub naked : (m : ℕ) → link_step_of t free (nak m) ≡ record { outgoing = free; seen = [] }
  pub passes : link_step_of t free second ≡ record { outgoing = free; seen = passes ∷ [] }

abbrev pub FreeSaid : Type 0
FreeSaid = (t : ℕ) → FreeSo t
