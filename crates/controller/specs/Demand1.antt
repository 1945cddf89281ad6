-- Demand 1: "Every octet, plan book, state and buffer that can be handed in gets an answer: work done, or a numbered refusal. No
-- call relies on its caller's checking. A refused call gives back its state and leaves book and output as they came; a refused
-- message alters no plan."
use Rattle.std.specs.Prelude.{ℕ, ◌≤◌, ◌<◌, ◌≡◌, true, false, ◌⊎◌, List, ◌++◌, length, take, drop}
use Rattle.octets.specs.Octet.{Octets}
use Rattle.octets.specs.Refusals.{told_number}
use Rattle.frame.specs.declared.Kind.TheVariants.{Message}
use Rattle.frame.specs.declared.decoder.Place.TheVariants.{Idle}
use Rattle.frame.specs.Decoder.{possible_of}
use Rattle.frame.specs.Frame.{message, written}
use Rattle.record.specs.Record.{record_len, plans_most, book_len, cycle_of, Ready}
use Rattle.plan.specs.declared.Which.{Which}
use Rattle.plan.specs.declared.Which.TheVariants.{New, Old}
use Rattle.plan.specs.BuiltIn.{built_in}
use Rattle.controller.specs.declared.Running.{Running}
use Rattle.controller.specs.declared.Held.{Held}
use Rattle.controller.specs.declared.HeldAnswer.{HeldAnswer}
use Rattle.controller.specs.declared.HeldShown.{HeldShown}
use Rattle.controller.specs.declared.Event.TheVariants as event
use Rattle.controller.specs.declared.Link.TheVariants as link
use Rattle.controller.specs.declared.Out.{Out}
use Rattle.controller.specs.declared.Told as code
use Rattle.controller.specs.Told.{told_of}
use Rattle.controller.specs.State.{State, joined, kept_len, all, output_len, fresh_of, sound_of}
use Rattle.controller.specs.Sender.{out_start, wait_least, wait_most, sends_most}
use Rattle.controller.specs.Offers.{Offer, OfferLeaves, offer_of}
use Rattle.controller.specs.Replies.{Answer, Call, CallLeaves, answer_with, octet_of, line_idle_of}
use Rattle.controller.specs.Seconds.{Shown, shown_with, started_of, plain_start_of, old_start_of, StartsWith, second_of}

-- Which states are sound

-- "position outside the cycle, running plan over 48, failing the checks, or numbered 0 and unlike the built-in": none of these; 02, E1: the
-- built-in is the one kept, and the other is unlike it
pub record RunningSound (u : Running) : Type 0 where
  pub position : u.position < cycle_of u.copy
  pub plan : u.plan ≤ 48
  pub checks : Ready u.copy
  pub zero : u.plan ≡ 0 → u.copy ≡ built_in u.which

-- 02, E6: "While a frame is out, sends outside 1 to 5, seconds waited at T or over, or an INFO not 2 to 256 long are unsound too"
pub record OutSound (t : ℕ) (o : Out) : Type 0 where
  pub sends : (1 ≤ o.sends) × (o.sends ≤ 5)
  pub waited : o.waited < t
  pub len : (2 ≤ o.len) × (o.len ≤ 256)

-- nor "own address FFFF, requested plan over 48, .. impossible decoder place"; its decoder has its 256 octets of INFO; 02, E4: so has what it
-- remembers, which is no frame, or one whose INFO is 2 to 256 long; E6: T is 1 to 60, no frame is out or one that can be, and it has its 256 octets
pub record Sound (s : State) : Type 0 where
  pub own : s.own ≡ 0xFFFF → ⊥
  pub requested : s.requested ≤ 48
  pub decoder : possible_of s.decoder.head ≡ true
  pub info : length s.decoder.info ≡ 256
  pub last : (s.memory.last.len ≡ 0) ⊎ ((2 ≤ s.memory.last.len) × (s.memory.last.len ≤ 256))
  pub last_info : length s.memory.info ≡ 256
  pub wait : (1 ≤ s.wait) × (s.wait ≤ 60)
  pub out : (s.sender.out.len ≡ 0) ⊎ OutSound s.wait s.sender.out
  pub out_info : length s.sender.info ≡ 256
  pub running : RunningSound s.running

pub record SoundJudged (s : State) : Type 0 where
  pub from : sound_of s ≡ true → Sound s
  pub to : Sound s → sound_of s ≡ true

-- a state is judged sound exactly when it is; its copy is octets
abbrev pub SoundAsItIs : Type 0
SoundAsItIs = (s : State) → Octets s.running.copy → SoundJudged s

-- Octet calls

-- refusals 7, 8 and 9 of an octet call: "When, and only then", "Order: 7, 8, 9 in a call"
pub data OctetRefused (s : State) (book out : List ℕ) : ℕ → Type 0 where
  -- "state handed in is unsound"
  unsound : sound_of s ≡ false → OctetRefused s book out 7
  -- "plan book is not 3,840 octets"
  book : sound_of s ≡ true → (length book ≡ 3840 → ⊥) → OctetRefused s book out 8
  -- "output too short: 544 for an octet call"
  output : sound_of s ≡ true → length book ≡ 3840 → length out < 544 → OctetRefused s book out 9

-- "same state, nothing written"; "Other numbers in a refused call's result are 0": no parameter, no count, no octets dropped, no event, and nothing new
-- of the link
abbrev pub AnswerRefused : State → ℕ → Answer → Type 0
AnswerRefused s n a = a ≡ record { state = s; told = record { refusal = n; parameter = 0; event = event.Nothing; count = 0; dropped = 0; link = link.Still } }

-- "leaves book and output as they came"
pub record CallRefused (s : State) (lent output : List ℕ) (n : ℕ) (w : Call) : Type 0 where
  pub answer : AnswerRefused s n w.answer
  pub book : w.book ≡ lent
  pub out : w.out ≡ output

-- a number that a done call may name: none, a refused frame's 1 to 3, a refused message's 10 to 14
abbrev pub InDone : ℕ → Type 0
InDone n = (n ≤ 3) ⊎ ((10 ≤ n) × (n ≤ 14))

pub record OctetAnswered (s : State) (book out : List ℕ) (b : ℕ) : Type 0 where
  pub refused : (n : ℕ) → OctetRefused s book out n → CallRefused s book out n (octet_of s book out b)
  pub done : sound_of s ≡ true → length book ≡ 3840 → 544 ≤ length out → InDone (octet_of s book out b).answer.told.refusal
  -- every call is one or the other
  pub either : ((n : ℕ) × OctetRefused s book out n) ⊎ ((sound_of s ≡ true) × (length book ≡ 3840) × (544 ≤ length out))

abbrev pub OctetsAnswered : Type 0
OctetsAnswered = (s : State) (book out : List ℕ) (b : ℕ) → OctetAnswered s book out b

-- Second calls

-- refusals 7, 8 and 9 of a second call; 02, E6: "The second call is lent 544 octets of output too.", a frame being out or not
pub data SecondRefused (s : State) (book out : List ℕ) : ℕ → Type 0 where
  unsound : sound_of s ≡ false → SecondRefused s book out 7
  book : sound_of s ≡ true → (length book ≡ 3840 → ⊥) → SecondRefused s book out 8
  output : sound_of s ≡ true → length book ≡ 3840 → length out < 544 → SecondRefused s book out 9

-- "same state", the wait too; "Other numbers in a refused call's result are 0": no plan, no step, no seconds left, and all lamps dark; the output is as it
-- came
abbrev pub ShownRefused : State → List ℕ → ℕ → Shown → Type 0
ShownRefused s out n w =
    w ≡ record {
      state = s;
      told = record { refusal = n; parameter = 0; event = event.Nothing; count = 0; dropped = 0; link = link.Still };
      plan = 0;
      row = record { step = 0; left = 0; steady = 0; flashing = 0 };
      out = out;
    }

pub record SecondAnswered (s : State) (book out : List ℕ) : Type 0 where
  pub refused : (n : ℕ) → SecondRefused s book out n → ShownRefused s out n (second_of s book out)
  pub done : sound_of s ≡ true → length book ≡ 3840 → 544 ≤ length out → (second_of s book out).told.refusal ≡ 0
  pub either : ((n : ℕ) × SecondRefused s book out n) ⊎ ((sound_of s ≡ true) × (length book ≡ 3840) × (544 ≤ length out))

abbrev pub SecondsAnswered : Type 0
SecondsAnswered = (s : State) (book out : List ℕ) → SecondAnswered s book out

-- Offer calls

-- 02, E6, refusals 7, 4, 9 and 15 of an offer, in this order
pub data OfferRefused (s : State) (info out : List ℕ) : ℕ → Type 0 where
  unsound : sound_of s ≡ false → OfferRefused s info out 7
  -- "INFO not 2 to 256 long"
  info : sound_of s ≡ true → (length info < 2) ⊎ (256 < length info) → OfferRefused s info out 4
  -- the output has less room than the frame needs
  output : sound_of s ≡ true → 2 ≤ length info → length info ≤ 256 → length out < length (written (message s.seq s.own info)) → OfferRefused s info out 9
  -- "A frame offered while one is out is refused"
  busy : sound_of s ≡ true → 2 ≤ length info → length info ≤ 256 → length (written (message s.seq s.own info)) ≤ length out → (s.sender.out.len ≡ 0 → ⊥)
      → OfferRefused s info out 15

pub record OfferAsCame (s : State) (output : List ℕ) (n : ℕ) (w : Offer) : Type 0 where
  pub answer : AnswerRefused s n w.answer
  pub out : w.out ≡ output

-- none of these
pub record OfferDone (s : State) (info out : List ℕ) : Type 0 where
  pub sound : sound_of s ≡ true
  pub least : 2 ≤ length info
  pub most : length info ≤ 256
  pub room : length (written (message s.seq s.own info)) ≤ length out
  pub free : s.sender.out.len ≡ 0

pub record OfferAnswered (s : State) (info out : List ℕ) : Type 0 where
  pub refused : (n : ℕ) → OfferRefused s info out n → OfferAsCame s out n (offer_of s info out)
  pub done : OfferDone s info out → (offer_of s info out).answer.told.refusal ≡ 0
  pub either : ((n : ℕ) × OfferRefused s info out n) ⊎ OfferDone s info out

abbrev pub OffersAnswered : Type 0
OffersAnswered = (s : State) (info out : List ℕ) → OfferAnswered s info out

-- Line-idle calls

-- "A line-idle call .. returns the decoder to idle and changes nothing else", in the decoder too; 02, E5: but for the octets that are counted, on which
-- `Dropped` has its own word; E4: "line-idle keeps the memory"; E6: and the frame out
abbrev pub AtIdle : State → State → Type 0
AtIdle s t =
    let h = s.decoder.head in
    t ≡ record {
      own = s.own;
      seq = s.seq;
      requested = s.requested;
      wait = s.wait;
      decoder = record {
        head = record { place = Idle; kind = h.kind; seq = h.seq; err = h.err; addr = h.addr; len = h.len; filled = h.filled };
        info = s.decoder.info;
      };
      dropped = t.dropped;
      memory = s.memory;
      sender = s.sender;
      running = s.running;
    }

pub record IdleDone (s : State) (a : Answer) : Type 0 where
  pub state : AtIdle s a.state
  pub others : a ≡ record { state = a.state; told = record { refusal = 0; parameter = 0; event = event.Nothing; count = 0; dropped = a.told.dropped; link = link.Still } }

-- refusal 7 of it
pub record IdleAnswered (s : State) : Type 0 where
  pub refused : sound_of s ≡ false → AnswerRefused s 7 (line_idle_of s)
  pub done : sound_of s ≡ true → IdleDone s (line_idle_of s)

abbrev pub IdlesAnswered : Type 0
IdlesAnswered = (s : State) → IdleAnswered s

-- The fresh start

-- "A fresh start runs and requests plan 0 at position 0"; "Our SEQ starts at 0"; its decoder is idle, and no octet is dropped; 02, E1: "The state
-- keeps which one", and plan 0 is that one; E4: "A fresh start remembers none"; E6: T is kept, and none is out; whatever the octets kept hold
abbrev pub FreshAt : Which → ℕ → ℕ → List ℕ → State → Type 0
FreshAt which own wait kept t =
    t ≡ record {
      own = own;
      seq = 0;
      requested = 0;
      wait = wait;
      decoder = record { head = record { place = Idle; kind = Message; seq = 0; err = 0; addr = 0; len = 0; filled = 0 }; info = take 256 kept };
      dropped = 0;
      memory = record { last = record { seq = 0; len = 0 }; info = take 256 (drop 256 kept) };
      sender = record { out = record { sends = 0; waited = 0; len = 0 }; info = take 256 (drop 512 kept) };
      running = record { which = which; plan = 0; position = 0; copy = built_in which };
    }

-- what a start call answers; "fresh start with address FFFF": "a fresh state but for own address FFFF, so unsound", and which one is kept
-- there too; 02, E6: "17 (T outside 1 to 60), at the start only, after 6; the state holds that T and is unsound"
pub record StartAnswered (which : Which) (own wait : ℕ) (kept : List ℕ) (a : Answer) : Type 0 where
  pub state : FreshAt which own wait kept a.state
  pub others : a ≡ record { state = a.state; told = record { refusal = a.told.refusal; parameter = 0; event = event.Nothing; count = 0; dropped = 0; link = link.Still } }
  pub refused : own ≡ 0xFFFF → (a.told.refusal ≡ 6) × (sound_of a.state ≡ false)
  pub wrong : (own ≡ 0xFFFF → ⊥) → (wait < 1) ⊎ (60 < wait) → (a.told.refusal ≡ 17) × (sound_of a.state ≡ false)
  pub done : (own ≡ 0xFFFF → ⊥) → 1 ≤ wait → wait ≤ 60 → (a.told.refusal ≡ 0) × (768 ≤ length kept → sound_of a.state ≡ true)
  -- and what runs and listings begin with
  pub fresh : FreshAt which own wait kept (fresh_of which own wait kept)
  pub started : started_of which own wait kept ≡ a

-- 02, E1: "A start call that names the old built-in plan stays for those lessons; the plain start takes the new one."
abbrev pub StartsAnswered : Type 0
StartsAnswered =
    (own wait : ℕ) (kept : List ℕ)
    → StartAnswered New own wait kept (plain_start_of own wait kept) × StartAnswered Old own wait kept (old_start_of own wait kept)

-- What is left alone

-- "a refused message alters no plan", nor does a refused frame or call: whatever is refused, the book is as it came
abbrev pub RefusedLeavesBook : Type 0
RefusedLeavesBook = (s : State) (book out : List ℕ) (b : ℕ) → ((octet_of s book out b).answer.told.refusal ≡ 0 → ⊥) → (octet_of s book out b).book ≡ book

-- "A call writes only the octets that its result counts; the output beyond them stays."
pub record OutputLeft (s : State) (book out : List ℕ) (b : ℕ) : Type 0 where
  pub beyond : (let n = (octet_of s book out b).answer.told.count in drop n (octet_of s book out b).out ≡ drop n out)
  pub long : length (octet_of s book out b).out ≡ length out
  pub within : (octet_of s book out b).answer.told.count ≤ length out
  pub most : (octet_of s book out b).answer.told.count ≤ 544

-- 02, E6: and so of a second and of an offer
pub record OutLeft (out : List ℕ) (count : ℕ) (after : List ℕ) : Type 0 where
  pub beyond : drop count after ≡ drop count out
  pub long : length after ≡ length out
  pub within : count ≤ length out
  pub most : count ≤ 544

abbrev pub OutputsLeft : Type 0
OutputsLeft =
    ((s : State) (book out : List ℕ) (b : ℕ) → OutputLeft s book out b)
    × ((s : State) (book out : List ℕ) → OutLeft out (second_of s book out).told.count (second_of s book out).out)
    × ((s : State) (info out : List ℕ) → OutLeft out (offer_of s info out).answer.told.count (offer_of s info out).out)

-- Soundness is kept: states handed back as given are never refused 7.
pub record SoundKeptBy (s : State) : Type 0 where
  pub octet : (book out : List ℕ) (b : ℕ) → b < 256 → sound_of s ≡ true → sound_of (octet_of s book out b).answer.state ≡ true
  pub line_idle : sound_of s ≡ true → sound_of (line_idle_of s).state ≡ true
  pub second : (book out : List ℕ) → sound_of s ≡ true → sound_of (second_of s book out).state ≡ true
  pub offer : (info out : List ℕ) → sound_of s ≡ true → sound_of (offer_of s info out).answer.state ≡ true

abbrev pub SoundKept : Type 0
SoundKept = (s : State) → SoundKeptBy s

-- The state by parts

pub record ByParts : Type 0 where
  -- the code's struct and the octets lent make the state: each field is the struct's, the decoder's octets of INFO are the first 256 of those lent,
  -- those of the last frame accepted the next 256, and those of the frame out the next 256
  pub state : (s : Held) (kept : List ℕ) → joined s kept ≡ record {
    own = s.own;
    seq = s.seq;
    requested = s.requested;
    wait = s.wait;
    decoder = record { head = s.receiver.head; info = take 256 kept };
    dropped = s.receiver.dropped;
    memory = record { last = s.last; info = take 256 (drop 256 kept) };
    sender = record { out = s.out; info = take 256 (drop 512 kept) };
    running = s.running;
  }
  -- what is told, in 01's numbers
  pub told : (t : code.Told) → told_of t ≡ record {
    refusal = told_number t.refusal;
    parameter = t.parameter;
    event = t.event;
    count = t.count;
    dropped = t.dropped;
    link = t.link;
  }
  pub answer : (r : HeldAnswer) (kept : List ℕ) → answer_with r kept ≡ record { state = joined r.state kept; told = told_of r.told }
  -- what the contract of a start says: whatever octets are kept, it answers what is due, and these stay
  pub start : (w : List ℕ → Answer) (r : HeldAnswer) → StartsWith w r → (kept : List ℕ)
      → (joined r.state kept ≡ (w kept).state) × (told_of r.told ≡ (w kept).told)
  -- and that of a second
  pub second : (r : HeldShown) (kept out : List ℕ) (w : Shown) → shown_with r kept out ≡ w
      → (joined r.state kept ≡ w.state) × (told_of r.told ≡ w.told) × (r.plan ≡ w.plan) × (r.row ≡ w.row) × (out ≡ w.out)

abbrev pub JoinedSo : Type 0
JoinedSo = ByParts

-- What the contracts of the octet call and of an offer say: it answers what is due, the event too, and leaves the octets of each INFO, the book and the
-- output that are due; of more octets lent than 768 those beyond are as they came.
pub record AnswersSo (a : Answer) (lent : List ℕ) (r : HeldAnswer) (k : List ℕ) : Type 0 where
  pub own : r.state.own ≡ a.state.own
  pub seq : r.state.seq ≡ a.state.seq
  pub requested : r.state.requested ≡ a.state.requested
  pub wait : r.state.wait ≡ a.state.wait
  pub head : r.state.receiver.head ≡ a.state.decoder.head
  pub dropped : r.state.receiver.dropped ≡ a.state.dropped
  pub last : r.state.last ≡ a.state.memory.last
  pub out : r.state.out ≡ a.state.sender.out
  pub running : r.state.running ≡ a.state.running
  pub told : told_of r.told ≡ a.told
  pub info : k ≡ a.state.decoder.info ++ (a.state.memory.info ++ (a.state.sender.info ++ drop 768 lent))

abbrev pub CallsLeaveSo : Type 0
CallsLeaveSo =
    ((w : Call) (lent : List ℕ) (r : HeldAnswer) (k b o : List ℕ) → CallLeaves w lent r k b o → AnswersSo w.answer lent r k × (b ≡ w.book) × (o ≡ w.out))
    × ((w : Offer) (lent : List ℕ) (r : HeldAnswer) (k o : List ℕ) → OfferLeaves w lent r k o → AnswersSo w.answer lent r k × (o ≡ w.out))

-- "A refused call gives back its state and leaves book and output as they came": the struct, every octet that was lent, the book and the
-- output; fewer than 768 octets lent are refused so; 02, E6: and so of an offer
pub record AsCame (s : Held) (lent book out : List ℕ) (r : HeldAnswer) (k b o : List ℕ) : Type 0 where
  pub state : r.state ≡ s
  pub octets : k ≡ lent
  pub plans : b ≡ book
  pub output : o ≡ out

abbrev pub RefusedAsCame : Type 0
RefusedAsCame =
    (s : Held) (lent book out : List ℕ) (b n : ℕ) → OctetRefused (joined s lent) book out n → (r : HeldAnswer) (k b' o : List ℕ)
    → CallLeaves (octet_of (joined s lent) book out b) lent r k b' o → AsCame s lent book out r k b' o

pub record OfferStays (s : Held) (lent out : List ℕ) (r : HeldAnswer) (k o : List ℕ) : Type 0 where
  pub state : r.state ≡ s
  pub octets : k ≡ lent
  pub output : o ≡ out

abbrev pub OfferRefusedAsCame : Type 0
OfferRefusedAsCame =
    (s : Held) (lent info out : List ℕ) (n : ℕ) → OfferRefused (joined s lent) info out n → (r : HeldAnswer) (k o : List ℕ)
    → OfferLeaves (offer_of (joined s lent) info out) lent r k o → OfferStays s lent out r k o

abbrev pub FewerRefused : Type 0
FewerRefused = (s : Held) (lent : List ℕ) → length lent < 768 → sound_of (joined s lent) ≡ false

-- The numbers that have names: "Plan p, 1 to 48, has 80 octets", "plan book is not 3,840 octets", three INFO of 256, the frame out's behind the first two,
-- "544 for an octet call", "FFFF is for all"; 02, E6: "T seconds (1 to 60", "five tries"
abbrev pub NumbersAsSaid : Type 0
NumbersAsSaid =
    (record_len ≡ 80) × (plans_most ≡ 48) × (book_len ≡ 3840) × (kept_len ≡ 768) × (out_start ≡ 512) × (output_len ≡ 544) × (all ≡ 0xFFFF)
    × (wait_least ≡ 1) × (wait_most ≡ 60) × (sends_most ≡ 5)
