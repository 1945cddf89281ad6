-- Demand 3: "From a fresh start, states handed back as given, octets and seconds mixed at will: the accepted seconds are whole
-- cycles one after another, the last perhaps unfinished. The first is plan 0; each later one is chosen as the last second of the
-- cycle before it is answered: the plan of the latest run message carried out (0 if none) if it is plan 0 or ready in the book,
-- else the plan just run. So any 1,799 accepted seconds in a row hold a whole cycle, every phase with its full green, yellow and
-- all-red."
--
-- 02, E1: "The state keeps which one, and plan 0 means that one throughout .. Demand 3 is read so.": all of it holds for both starts, and the
-- plan 0 of a run is that of its start; E6: offers are mixed in too.
use Rattle.std.specs.Prelude.{ℕ, ◌+◌, ◌≤◌, ◌<◌, ◌≡◌, Bool, true, false, not, List, [], ◌∷◌, ◌++◌, map, eqb, ltb, leb, length, take, drop}
use Rattle.std.proofs.Math.Option.{Option, none, some}
use Rattle.octets.specs.Choice.{pick, both}
use Rattle.octets.specs.Octet.{Octets}
use Rattle.octets.specs.Same.{same}
use Rattle.frame.specs.Frame.{message, ack, nak}
use Rattle.frame.specs.Decoder.{Decoder, Taken, fresh_decoder, taken_of, idled_of}
use Rattle.frame.specs.Run.{Outcome, nothing, refused, sound, outcome_of}
use Rattle.message.specs.Reader.{code_in, body_in, read_of}
use Rattle.record.specs.Record.{k_of, cycle_of, Ready}
use Rattle.checks.specs.Standing.{standing_of}
use Rattle.plan.specs.declared.Which.{Which}
use Rattle.plan.specs.BuiltIn.{built_in}
use Rattle.plan.specs.Reading.{record_at}
use Rattle.plan.specs.Setting.{plan_in}
use Rattle.lamps.specs.declared.Row.{Row}
use Rattle.lamps.specs.Rows.{rows_of}
use Rattle.lamps.specs.Promises.{PhaseWhole}
use Rattle.cycles.specs.Machine.{Machine, row_then, answers}
use Rattle.cycles.specs.Cycles.{Cycles, HoldsCycle}
use Rattle.controller.specs.declared.Running.{Running}
use Rattle.controller.specs.State.{State, sound_of}
use Rattle.controller.specs.Replies.{octet_of, line_idle_of}
use Rattle.controller.specs.Offers.{offer_of}
use Rattle.controller.specs.Seconds.{Shown, started_of, second_of}

-- A run

-- a call with all that is lent to it, of octets
pub data HostCall : Type 0 where
  octet : (b : ℕ) → b < 256 → (book out : List ℕ) → Octets book → HostCall
  line_idle : HostCall
  second : (book out : List ℕ) → Octets book → HostCall
  offer : (info out : List ℕ) → Octets info → HostCall

-- "states handed back as given"
abbrev pub next : State → HostCall → State
next s (octet b _ book out _) = (octet_of s book out b).answer.state
next s line_idle = (line_idle_of s).state
next s (second book out _) = (second_of s book out).state
next s (offer info out _) = (offer_of s info out).answer.state

abbrev pub goes_on : State → List HostCall → State
goes_on s [] = s
goes_on s (e ∷ es) = goes_on (next s e) es

-- a fresh start: which plan 0, the address, T, and the octets that are kept
pub record Start : Type 0 where
  pub which : Which
  pub own : ℕ
  pub wait : ℕ
  pub kept : List ℕ

-- it is not refused, and as many octets are kept as are wanted
pub record Starts (a : Start) : Type 0 where
  pub own : a.own ≡ 0xFFFF → ⊥
  pub least : 1 ≤ a.wait
  pub most : a.wait ≤ 60
  pub kept : 768 ≤ length a.kept

abbrev pub start_of : Start → State
start_of a = (started_of a.which a.own a.wait a.kept).state

-- the state after the events
abbrev pub run : Start → List HostCall → State
run a es = goes_on (start_of a) es

-- what an accepted second shows: the plan, the step, the seconds left and both words
pub record Second : Type 0 where
  pub plan : ℕ
  pub row : Row

abbrev pub second_of_plan : ℕ → Row → Second
second_of_plan p r = record { plan = p; row = r }

abbrev pub second_accepted : Shown → Option Second
second_accepted a = pick (eqb a.told.refusal 0) (some (second_of_plan a.plan a.row)) none

abbrev pub says : State → HostCall → Option Second
says s (octet b _ book out _) = none
says s line_idle = none
says s (second book out _) = second_accepted (second_of s book out)
says s (offer info out _) = none

abbrev pub says_on : State → List HostCall → List Second
says_on s [] = []
says_on s (e ∷ es) = row_then (says s e) (says_on (next s e) es)

-- each accepted second is one row more, and no other call adds any
pub record InARow (s : State) : Type 0 where
  pub end : says_on s [] ≡ []
  pub quiet : (e : HostCall) (es : List HostCall) → says s e ≡ none → says_on s (e ∷ es) ≡ says_on (next s e) es
  pub second : (e : HostCall) (es : List HostCall) (a : Second) → says s e ≡ some a → says_on s (e ∷ es) ≡ a ∷ says_on (next s e) es

abbrev pub SecondsInARow : Type 0
SecondsInARow = (s : State) → InARow s

-- the accepted seconds of the events es, after those of `past`
abbrev pub seconds : Start → List HostCall → List HostCall → List Second
seconds a past es = says_on (run a past) es

-- "The state keeps which one": no call changes it, whatever it is handed and whether it is refused or done; over any run it is that of the start
abbrev pub WhichKept : Type 0
WhichKept =
    ((s : State) (e : HostCall) → (next s e).running.which ≡ s.running.which)
    × ((a : Start) (es : List HostCall) → (run a es).running.which ≡ a.which)

-- "and plan 0 means that one throughout": whenever plan 0 runs, after whatever calls, its record is that of the start
abbrev pub PlanZeroThroughout : Type 0
PlanZeroThroughout =
    (a : Start) → Starts a → (es : List HostCall) → (run a es).running.plan ≡ 0 → (run a es).running.copy ≡ built_in a.which

-- "The latest run message carried out", told from the octets handed in and from whether a call wrote any

-- 02, E4: a message frame that was accepted, by its SEQ and INFO
pub record Accepted : Type 0 where
  pub seq : ℕ
  pub info : List ℕ

-- what was heard so far: where the decoder is, the last message frame accepted, and the plan of the latest run message carried out, 0 if none
pub record Heard : Type 0 where
  pub decoder : Decoder
  pub last : Option Accepted
  pub latest : ℕ

-- "whose SEQ and INFO both equal those of the last one accepted": it is carried out no second time
abbrev pub is_again : Option Accepted → ℕ → List ℕ → Bool
is_again none seq info = false
is_again (some a) seq info = both (eqb seq a.seq) (same info a.info)

-- a sound message frame is accepted: it is for us or for all, and no repeat; 02, E6: one for us, in a call that wrote nothing, was "met with silence, not
-- carried out and not remembered"
abbrev pub accepts : ℕ → Bool → Option Accepted → ℕ → ℕ → List ℕ → Bool
accepts own wrote last seq addr info = both (pick (eqb addr own) wrote (eqb addr 0xFFFF)) (not (is_again last seq info))

-- "if it is plan 0 or ready in the book"
abbrev pub may_run : List ℕ → ℕ → Bool
may_run book p = pick (eqb p 0) true (eqb (standing_of (record_at book p)) 2)

-- a message frame accepted with a 5F 18 that is not refused: its plan is the latest
abbrev pub run_in : ℕ → Bool → List ℕ → Option Accepted → ℕ → ℕ → List ℕ → Bool
run_in own wrote book last seq addr info =
    both (accepts own wrote last seq addr info)
    (both (eqb (code_in info) 0x5F18)
    (both (eqb (read_of info).refusal 0)
    (may_run book (plan_in (body_in info)))))

abbrev pub latest_after : ℕ → Bool → List ℕ → Option Accepted → ℕ → Outcome → ℕ
latest_after own wrote book last latest nothing = latest
latest_after own wrote book last latest (refused n k seq addr) = latest
latest_after own wrote book last latest (sound (message seq addr info)) = pick (run_in own wrote book last seq addr info) (plan_in (body_in info)) latest
latest_after own wrote book last latest (sound (ack seq addr)) = latest
latest_after own wrote book last latest (sound (nak seq addr err)) = latest

-- the last one accepted then, whatever was answered; faulty frames, frames for others, ACK and NAK frames are not
abbrev pub last_after : ℕ → Bool → Option Accepted → Outcome → Option Accepted
last_after own wrote last nothing = last
last_after own wrote last (refused n k seq addr) = last
last_after own wrote last (sound (message seq addr info)) = pick (accepts own wrote last seq addr info) (some (record { seq = seq; info = info })) last
last_after own wrote last (sound (ack seq addr)) = last
last_after own wrote last (sound (nak seq addr err)) = last

abbrev pub hears_octet : ℕ → Bool → List ℕ → Heard → Taken → Heard
hears_octet own wrote book h t =
    record {
      decoder = t.decoder;
      last = last_after own wrote h.last (outcome_of t);
      latest = latest_after own wrote book h.last h.latest (outcome_of t);
    }

-- an octet is taken where book and output are long enough, and its call wrote something or nothing; a line-idle call returns the decoder to idle
abbrev pub hears : ℕ → State → Heard → HostCall → Heard
hears own s h (octet b _ book out _) =
    let wrote = ltb 0 (octet_of s book out b).answer.told.count in
    pick (both (eqb (length book) 3840) (leb 544 (length out))) (hears_octet own wrote book h (taken_of h.decoder b)) h
hears own s h line_idle = record { decoder = (idled_of h.decoder).decoder; last = h.last; latest = h.latest }
hears own s h (second book out _) = h
hears own s h (offer info out _) = h

abbrev pub hears_on : ℕ → State → Heard → List HostCall → Heard
hears_on own s h [] = h
hears_on own s h (e ∷ es) = hears_on own (next s e) (hears own s h e) es

-- from a fresh start: "A fresh start remembers none", and no run message was carried out
abbrev pub heard_first : Start → Heard
heard_first a = record { decoder = fresh_decoder (take 256 a.kept); last = none; latest = 0 }

abbrev pub heard_in : Start → List HostCall → Heard
heard_in a es = hears_on a.own (start_of a) (heard_first a) es

abbrev pub latest_run : Start → List HostCall → ℕ
latest_run a es = (heard_in a es).latest

-- it is what the state keeps
abbrev pub LatestKept : Type 0
LatestKept = (a : Start) → Starts a → (es : List HostCall) → (run a es).requested ≡ latest_run a es

-- Whole cycles

-- the seconds of a whole cycle of plan p with this record
abbrev pub cycle_of_plan : ℕ → List ℕ → List Second
cycle_of_plan p rec = map (second_of_plan p) (rows_of rec)

-- plan p' with record rec' runs next: "the plan of the latest run message carried out (0 if none) if it is plan 0 or ready in
-- the book, else the plan just run"; a choice of plan 0 is the one that is kept
pub record Chosen (which : Which) (latest : ℕ) (book : List ℕ) (p : ℕ) (rec : List ℕ) (p' : ℕ) (rec' : List ℕ) : Type 0 where
  pub zero : latest ≡ 0 → (p' ≡ 0) × (rec' ≡ built_in which)
  pub ready : (latest ≡ 0 → ⊥) → Ready (record_at book latest) → (p' ≡ latest) × (rec' ≡ record_at book latest)
  pub stays : (latest ≡ 0 → ⊥) → (Ready (record_at book latest) → ⊥) → (p' ≡ p) × (rec' ≡ rec)

-- the rule leaves one choice
abbrev pub OneChoice : Type 0
OneChoice =
    (which : Which) (latest : ℕ) (book : List ℕ) (p : ℕ) (rec : List ℕ) (p₁ p₂ : ℕ) (rec₁ rec₂ : List ℕ) → Octets book
    → Chosen which latest book p rec p₁ rec₁ → Chosen which latest book p rec p₂ rec₂ → (p₁ ≡ p₂) × (rec₁ ≡ rec₂)

-- "A second call answers .., then moves on. The call that answers a cycle's last second also picks the next plan": what a second
-- leaves, by the fields of the state; "the request stays"; what is then out is said in `SecondsSend`
pub record SecondLeft (s : State) (book : List ℕ) (t : State) : Type 0 where
  pub own : t.own ≡ s.own
  pub seq : t.seq ≡ s.seq
  pub requested : t.requested ≡ s.requested
  pub decoder : t.decoder ≡ s.decoder
  pub wait : t.wait ≡ s.wait
  pub dropped : t.dropped ≡ s.dropped
  pub memory : t.memory ≡ s.memory
  pub out_info : t.sender.info ≡ s.sender.info
  pub which : t.running.which ≡ s.running.which
  pub onward : s.running.position + 1 < cycle_of s.running.copy
      → t.running ≡ record { which = s.running.which; plan = s.running.plan; position = s.running.position + 1; copy = s.running.copy }
  pub over : cycle_of s.running.copy ≤ s.running.position + 1
      → (t.running.position ≡ 0) × Chosen s.running.which s.requested book s.running.plan s.running.copy t.running.plan t.running.copy

abbrev pub SecondsLeave : Type 0
SecondsLeave =
    (s : State) (book out : List ℕ) → sound_of s ≡ true → length book ≡ 3840 → 544 ≤ length out → Octets book → SecondLeft s book (second_of s book out).state

-- After the events `past` a cycle of plan p with record rec is due; the accepted seconds of the events es are that cycle and
-- others after it, one by one.
pub data CyclesInRun (a : Start) : ℕ → List ℕ → List HostCall → List HostCall → Type 0 where
  -- "the last perhaps unfinished": rows of it are still to come
  unfinished : {p : ℕ} {rec : List ℕ} {past es : List HostCall} (rest : List Second) → seconds a past es ++ rest ≡ cycle_of_plan p rec → 0 < length rest
      → CyclesInRun a p rec past es
  -- `before` and then the second call with `book` answer the whole cycle, that call its last second; it chooses the next
  whole : {p : ℕ} {rec : List ℕ} {past es : List HostCall} (before : List HostCall) (book out : List ℕ) (o : Octets book) (last : Second) (p' : ℕ) (rec' : List ℕ)
      → says (run a (past ++ before)) (second book out o) ≡ some last
      → seconds a past before ++ (last ∷ []) ≡ cycle_of_plan p rec
      → Chosen a.which (latest_run a (past ++ before)) book p rec p' rec' → Ready rec'
      → CyclesInRun a p' rec' (past ++ (before ++ (second book out o ∷ []))) es
      → CyclesInRun a p rec past (before ++ (second book out o ∷ es))

-- "The first is plan 0", that of its start
abbrev pub RunsWholeCycles : Type 0
RunsWholeCycles = (a : Start) → Starts a → (es : List HostCall) → CyclesInRun a 0 (built_in a.which) [] es

-- Any 1,799

-- of the accepted seconds of the run, counted from 0, those from number n on hold a whole cycle, which begins within the first
-- 900 and ends within the first 1,799; each of its phases stands whole in it
pub record HoldsWhole (a : Start) (es : List HostCall) (n : ℕ) : Type 0 where
  pub plan : ℕ
  pub rec : List ℕ
  pub before : List Second
  pub later : List Second
  pub run : seconds a [] es ≡ before ++ (cycle_of_plan plan rec ++ later)
  pub from : n ≤ length before
  pub soon : length before < n + 900
  pub within : length before + length (cycle_of_plan plan rec) ≤ n + 1799
  pub stands : Ready rec
  pub phases : (i : ℕ) → i < k_of rec → PhaseWhole rec i

abbrev pub AnyWindow : Type 0
AnyWindow = (a : Start) → Starts a → (es : List HostCall) (n : ℕ) → n + 1799 ≤ length (seconds a [] es) → HoldsWhole a es n

-- Sets

-- no second among the events
abbrev pub NoSecond : List HostCall → Type 0
NoSecond [] = Unit
NoSecond (octet b _ book out _ ∷ es) = NoSecond es
NoSecond (line_idle ∷ es) = NoSecond es
NoSecond (second book out _ ∷ es) = ⊥
NoSecond (offer info out _ ∷ es) = NoSecond es

-- "a set never alters a cycle under way": whatever octets and offers come between two seconds, the second shows what it would have shown
-- without them
abbrev pub SetsNeverAlter : Type 0
SetsNeverAlter =
    (a : Start) → Starts a → (past between : List HostCall) (book out : List ℕ) (o : Octets book) → NoSecond between
    → says (run a (past ++ between)) (second book out o) ≡ says (run a past) (second book out o)

-- The controller as a machine of the crate `cycles`, from whose theorems whole cycles and the window follow

-- what is left of the running cycle
unfoldable pub left_of : Running → List Second
left_of u = map (second_of_plan u.plan) (drop u.position (rows_of u.copy))

-- the rule at the call that answers a cycle's last second, after the events `past`; `later` are these and that call
abbrev pub Picks : Start → List HostCall → HostCall → List HostCall → Type 0
Picks a past (octet b _ book out _) later = ⊥
Picks a past line_idle later = ⊥
Picks a past (second book out _) later =
    let u = (run a past).running in
    let v = (run a later).running in
    Chosen a.which (latest_run a past) book u.plan u.copy v.plan v.copy
Picks a past (offer info out _) later = ⊥

-- its states are the events so far; no event alters a cycle under way
abbrev pub crossing : Start → Machine
crossing a = record {
  State = List HostCall;
  Event = HostCall;
  Row = Second;
  next = λ past e. past ++ (e ∷ []);
  says = λ past e. says (run a past) e;
  left = λ past. left_of (run a past).running;
  Start = λ past. (run a past).running.position ≡ 0;
  Picks = Picks a;
  Alters = λ past e later. ⊥;
}

abbrev pub CrossingCycles : Type 0
CrossingCycles = (a : Start) → Starts a → (es : List HostCall) → Cycles (crossing a) [] es

abbrev pub CrossingHolds : Type 0
CrossingHolds =
    (a : Start) → Starts a → (es : List HostCall) (n : ℕ) → n + 1799 ≤ length (answers (crossing a) [] es) → HoldsCycle (crossing a) [] es n 900 1799
