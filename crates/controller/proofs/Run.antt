-- Demand 3: over any run from a fresh start the controller is a machine of whole cycles.
use Prim.Native.Nat.{ℕ, ◌+◌, ◌≤◌, ◌<◌}
use mathlib.Core.Path.{◌≡◌, refl, sym, ap, subst, ◌∙◌}
use mathlib.Core.Bool.{true, false}
use mathlib.Core.List.{List, [], ◌∷◌, ◌++◌, map, append_assoc, append-nil}
use mathlib.Core.Option.{none, some}
use native.Mathlib.Decide.{dec_lt, ℕ_discrete}
use native.Mathlib.Numerals.{add-one}
use native.Mathlib.Omega.{arith}
use borrow.Author.Tests.{eq-eqb, ne_eqb}
use lib.ListN.{length, drop, length-map, length-drop, length-append, drop_of_length-le}
use lib.Seq.{drop-cons}
use Rattle.octets.specs.Octet.{Octets}
use Rattle.octets.proofs.Laws.{octets-part}
use Rattle.record.specs.Record.{record_len, book_len, ready, cycle_of, Ready}
use Rattle.checks.specs.Standing.{standing_of, Stands}
use Rattle.plan.specs.declared.Which.{Which}
use Rattle.plan.specs.BuiltIn.{built_in}
use Rattle.plan.specs.Reading.{record_start, record_at}
use Rattle.checks.proofs.Stands.{stands-as-it-is}
use Rattle.lamps.specs.Rows.{rows_of, row_at, no_row}
use Rattle.lamps.proofs.Cycle.{cycle-long, whole-phases}
use Rattle.cycles.specs.Machine.{row_then, after, answers}
use Rattle.cycles.specs.Cycles.{Whole, Cycles, HoldsCycle}
use Rattle.cycles.specs.Cycles as cycles
use Rattle.cycles.specs.Ways.{Way, Ways}
use Rattle.cycles.specs.Ways as way
use Rattle.cycles.proofs.Laws.{answers-append}
use Rattle.cycles.proofs.Run as cycles-run
use Rattle.cycles.proofs.Window.{window}
use Rattle.controller.specs.declared.Running.{Running}
use Rattle.controller.specs.State.{State, output_len, fresh_of, sound_of, ready_in}
use Rattle.controller.specs.Replies.{octet_of, line_idle_of}
use Rattle.controller.specs.Offers.{offer_of}
use Rattle.controller.specs.Seconds.{Shown, started_of, picked_of, no_second, second_of}
use Rattle.controller.specs.Demand3.{HostCall, octet, line_idle, second, offer, next, goes_on, Start, Starts, start_of, run, WhichKept, PlanZeroThroughout, Second, second_of_plan, second_accepted, says, says_on, SecondsInARow, seconds, latest_run, cycle_of_plan, Chosen, OneChoice, SecondsLeave, CyclesInRun, unfinished, whole, RunsWholeCycles, HoldsWhole, AnyWindow, NoSecond, SetsNeverAlter, left_of, crossing, CrossingCycles, CrossingHolds}
use Rattle.plan.proofs.Cases.{built-in-stands}
use Rattle.controller.proofs.Laws.{picked-ready, picked-stays, moved-within, moved_ends, second-8, second-9, second-done}
use Rattle.controller.proofs.Judging.{RunningParts, sound-parts}
use Rattle.controller.proofs.Keeping.{octet-running, idle-left, second-left, second-which, offer-left, by-picked}
use Rattle.controller.proofs.Latest.{run-kept}

-- The rule

same-plan : {u v : Running} → u ≡ v → (u.plan ≡ v.plan) × (u.copy ≡ v.copy)
same-plan e = (ap (λ (w : Running). w.plan) e, ap (λ (w : Running). w.copy) e)

-- a plan's record in the book, and whether it is ready
module _ (which : Which) (book : List ℕ) (p : ℕ) (o : Octets book) where
  stands : Stands (record_at book p)
  stands = stands-as-it-is (record_at book p) (octets-part record_len (record_start p) book o)

  zero-ready : p ≡ 0 → ready_in which book p ≡ true
  zero-ready z = rw (eq-eqb p 0 z, built-in-stands which)

  set-ready : (p ≡ 0 → ⊥) → Ready (record_at book p) → ready_in which book p ≡ true
  set-ready z r = rw (ne_eqb p 0 z, stands.ready_to r)

  not-ready : (p ≡ 0 → ⊥) → (Ready (record_at book p) → ⊥) → ready_in which book p ≡ false
  not-ready z n = rw (ne_eqb p 0 z) (ne_eqb (standing_of (record_at book p)) ready (λ e. n (stands.ready_from e)))

  -- the pick is by the rule
  chosen : (u t : Running) → u.which ≡ which → t ≡ picked_of u p book → Chosen which p book u.plan u.copy t.plan t.copy
  chosen u t k h =
      record {
        zero = λ z. let e = same-plan (h ∙ picked-ready u p book (rw k (zero-ready z))) in (e.0 ∙ z, e.1 ∙ rw (k, eq-eqb p 0 z));
        ready = λ z r. let e = same-plan (h ∙ picked-ready u p book (rw k (set-ready z r))) in (e.0, e.1 ∙ rw (ne_eqb p 0 z));
        stays = λ z n. same-plan (h ∙ picked-stays u p book (rw k (not-ready z n)));
      }

pub seconds-in-a-row : SecondsInARow
seconds-in-a-row s = record { end = refl; quiet = λ e es h. rw h; second = λ e es a h. rw h }

pub one_choice : OneChoice
one_choice which latest book p rec p₁ p₂ rec₁ rec₂ o a b =
    elim (ℕ_discrete latest 0) [
      | yes z ↦ agree (a.zero z) (b.zero z)
      | no z ↦ elim (ℕ_discrete (standing_of (record_at book latest)) ready) [
        | yes e ↦ let r = (stands which book latest o).ready_from e in agree (a.ready z r) (b.ready z r)
        | no e ↦ let n : Ready (record_at book latest) → ⊥ = λ r. e ((stands which book latest o).ready_to r) in agree (a.stays z n) (b.stays z n)
      ]
    ]
  where
    agree : {q : ℕ} {r : List ℕ} → (p₁ ≡ q) × (rec₁ ≡ r) → (p₂ ≡ q) × (rec₂ ≡ r) → (p₁ ≡ p₂) × (rec₁ ≡ rec₂)
    agree f g = (f.0 ∙ sym g.0, f.1 ∙ sym g.1)

-- What is left of the running cycle

-- what the next second shows
abbrev shown_by : Running → Second
shown_by u = second_of_plan u.plan (row_at u.copy u.position)

left-starts : (u : Running) → u.position ≡ 0 → left_of u ≡ cycle_of_plan u.plan u.copy
unfolding left_of
left-starts u z = rw z

module _ (u : Running) (r : Ready u.copy) (l : u.position < cycle_of u.copy) where
  left-cons : left_of u ≡ shown_by u ∷ map (second_of_plan u.plan) (drop (u.position + 1) (rows_of u.copy))
  unfolding left_of row_at
  left-cons =
      let h : u.position < length (rows_of u.copy) = omega (arith, (cycle-long u.copy r).rows) in
      rw (add-one, drop-cons (rows_of u.copy) u.position no_row h)

  left-last : cycle_of u.copy ≤ u.position + 1 → left_of u ≡ shown_by u ∷ []
  left-last h =
      left-cons ∙ rw (drop_of_length-le (rows_of u.copy) {i = u.position + 1} (omega (arith, (cycle-long u.copy r).rows)))

  left-some : 0 < length (left_of u)
  left-some = rw left-cons (omega arith)

  left-most : length (left_of u) ≤ 900
  unfolding left_of
  left-most =
      let c = cycle-long u.copy r in
      omega (
        arith,
        length-map (drop u.position (rows_of u.copy)) (second_of_plan u.plan),
        length-drop u.position (rows_of u.copy),
        c.rows,
        c.most,
      )

-- What a second leaves

pub seconds-leave : SecondsLeave
seconds-leave s book out h hb ho o =
    let u = s.running in
    let e = second-left s book out in
    let m = ap (λ (w : Shown). w.state.running) (second-done s book out h hb ho) in
    let picked : cycle_of u.copy ≤ u.position + 1 → (second_of s book out).state.running ≡ picked_of u s.requested book = λ l. m ∙ moved_ends u s.requested book l in
    record {
      own = ap (λ (t : State). t.own) e;
      seq = ap (λ (t : State). t.seq) e;
      requested = ap (λ (t : State). t.requested) e;
      decoder = ap (λ (t : State). t.decoder) e;
      wait = ap (λ (t : State). t.wait) e;
      dropped = ap (λ (t : State). t.dropped) e;
      memory = ap (λ (t : State). t.memory) e;
      out_info = ap (λ (t : State). t.sender.info) e;
      which = second-which s book out;
      onward = λ l. m ∙ moved-within u s.requested book l;
      over = λ l. (
        ap (λ (v : Running). v.position) (picked l) ∙ by-picked u s.requested book (λ v. v.position ≡ 0) (λ _. refl) (λ _. refl),
        chosen u.which book s.requested o u (second_of s book out).state.running refl (picked l),
      );
    }

-- A run in two parts

goes-on-append : (s : State) (xs ys : List HostCall) → goes_on s (xs ++ ys) ≡ goes_on (goes_on s xs) ys
goes-on-append s [] ys = refl
goes-on-append s (e ∷ xs) ys = goes-on-append (next s e) xs ys

-- which built-in plan is kept

next-which : (s : State) (e : HostCall) → (next s e).running.which ≡ s.running.which
next-which s (octet b l book out o) = ap (λ (u : Running). u.which) (octet-running s book out b)
next-which s line_idle = ap (λ (t : State). t.running.which) (idle-left s)
next-which s (second book out o) = second-which s book out
next-which s (offer info out o) = ap (λ (t : State). t.running.which) (offer-left s info out)

goes-on-which : (s : State) (es : List HostCall) → (goes_on s es).running.which ≡ s.running.which
goes-on-which s [] = refl
goes-on-which s (e ∷ es) = goes-on-which (next s e) es ∙ next-which s e

pub which-kept : WhichKept
unfolding started_of fresh_of
which-kept = (next-which, λ a es. goes-on-which (start_of a) es)

module _ (a : Start) where
  run-next : (past : List HostCall) (e : HostCall) → run a (past ++ (e ∷ [])) ≡ next (run a past) e
  run-next past e = goes-on-append (start_of a) past (e ∷ [])

  after_is : (past es : List HostCall) → after (crossing a) past es ≡ past ++ es
  after_is past [] = sym (append-nil past)
  after_is past (e ∷ es) = after_is (past ++ (e ∷ [])) es ∙ append_assoc past (e ∷ []) es

  answers-are : (past es : List HostCall) → answers (crossing a) past es ≡ seconds a past es
  answers-are past [] = refl
  answers-are past (e ∷ es) = ap (row_then (says (run a past) e)) (answers-are (past ++ (e ∷ [])) es ∙ ap (λ (s : State). says_on s es) (run-next past e))

-- The ways that an event goes

module _ (a : Start) (g : Starts a) where
  abbrev running : List HostCall → Running
  running past = (run a past).running

  sound : (past : List HostCall) → sound_of (run a past) ≡ true
  sound past = (run-kept a g past).sound

  parts : (past : List HostCall) → RunningParts (running past)
  parts past = (sound-parts (run a past) (sound past)).running

  zero_is : (past : List HostCall) → (running past).plan ≡ 0 → (running past).copy ≡ built_in a.which
  zero_is past z = (parts past).zero z ∙ ap built_in (which-kept.1 a past)

  stands-ready : (past : List HostCall) → Ready (running past).copy
  stands-ready past = (stands-as-it-is (running past).copy (run-kept a g past).octets).ready_from (parts past).checks

  -- nothing is answered and the running plan is as it was; the cycle goes on; or its last second is answered and a plan picked
  data Turn (past : List HostCall) : HostCall → Type 0 where
    still : {e : HostCall} → says (run a past) e ≡ none → running (past ++ (e ∷ [])) ≡ running past → Turn past e
    onward : {e : HostCall} → says (run a past) e ≡ some (shown_by (running past)) → (running past).position + 1 < cycle_of (running past).copy
        → running (past ++ (e ∷ [])) ≡ record { which = (running past).which; plan = (running past).plan; position = (running past).position + 1; copy = (running past).copy } → Turn past e
    over : (book out : List ℕ) (o : Octets book) → says (run a past) (second book out o) ≡ some (shown_by (running past))
        → cycle_of (running past).copy ≤ (running past).position + 1
        → running (past ++ (second book out o ∷ [])) ≡ picked_of (running past) (latest_run a past) book → Turn past (second book out o)

  ran : (past : List HostCall) (e : HostCall) {u : Running} → (next (run a past) e).running ≡ u → running (past ++ (e ∷ [])) ≡ u
  ran past e h = ap (λ (s : State). s.running) (run-next a past e) ∙ h

  turn : (past : List HostCall) (e : HostCall) → Turn past e
  unfolding no_second
  turn past (octet b l book out o) = still refl (ran past (octet b l book out o) (octet-running (run a past) book out b))
  turn past line_idle = still refl (ran past line_idle (ap (λ (s : State). s.running) (idle-left (run a past))))
  turn past (offer info out o) = still refl (ran past (offer info out o) (ap (λ (s : State). s.running) (offer-left (run a past) info out)))
  turn past (second book out o) =
      let s = run a past in
      let u = running past in
      elim (ℕ_discrete (length book) book_len) [
        | yes d ↦ elim (dec_lt (length out) output_len) [
          | yes l ↦ let x = second-9 s book out (sound past) d l in
              still (ap second_accepted x) (ran past (second book out o) (ap (λ (w : Shown). w.state.running) x))
          | no j ↦ let x = second-done s book out (sound past) d (omega arith) in
              let m = ran past (second book out o) (ap (λ (w : Shown). w.state.running) x) in
              elim (dec_lt (u.position + 1) (cycle_of u.copy)) [
                | yes l ↦ onward (ap second_accepted x) l (m ∙ moved-within u s.requested book l)
                | no l ↦ over book out o (ap second_accepted x) (omega arith)
                    (m ∙ moved_ends u s.requested book (omega arith) ∙ ap (λ (p : ℕ). picked_of u p book) (run-kept a g past).latest)
              ]
        ]
        | no d ↦ let x = second-8 s book out (sound past) d in
            still (ap second_accepted x) (ran past (second book out o) (ap (λ (w : Shown). w.state.running) x))
      ]

  left-next : (past : List HostCall) {v : Running} → (running past).position + 1 < cycle_of (running past).copy
      → v ≡ record { which = (running past).which; plan = (running past).plan; position = (running past).position + 1; copy = (running past).copy }
      → left_of (running past) ≡ shown_by (running past) ∷ left_of v
  unfolding left_of
  left-next past l m = let u = running past in left-cons u (stands-ready past) (omega arith) ∙ ap (λ (v : Running). shown_by u ∷ left_of v) (sym m)

  way_of : (past : List HostCall) (e : HostCall) → Turn past e → Way (crossing a) past e
  way_of past e (still q m) = way.quiet q (ap left_of m) (λ z. ap (λ (u : Running). u.position) (sym m) ∙ z)
  way_of past e (onward q l m) =
      way.goes_on (shown_by (running past)) q (left-next past l m) (λ z. omega (arith, ap (λ (v : Running). v.position) m))
  way_of past e (over book out o q l m) =
      let u = running past in
      let p = latest_run a past in
      way.ends (shown_by u) q (left-last u (stands-ready past) (parts past).position l) (chosen a.which book p o u _ (which-kept.1 a past) m)
      (ap (λ (v : Running). v.position) m ∙ by-picked u p book (λ v. v.position ≡ 0) (λ _. refl) (λ _. refl))

  ways : Ways (crossing a) (λ past. Unit)
  ways =
      record {
        way = λ past e _. way_of past e (turn past e);
        keeps = λ past e _. tt;
        more = λ past _. left-some (running past) (stands-ready past) (parts past).position;
      }

  most : (past : List HostCall) → length (left_of (running past)) ≤ 900
  most past = left-most (running past) (stands-ready past) (parts past).position

  -- until its last second is answered a cycle is of one plan and one record
  abbrev OnePlan : List HostCall → List HostCall → Type 0
  OnePlan past es =
      length (answers (crossing a) past es) < length (left_of (running past))
      → ((running (after (crossing a) past es)).plan ≡ (running past).plan) × ((running (after (crossing a) past es)).copy ≡ (running past).copy)

  one-plan-on : (past : List HostCall) (e : HostCall) (es : List HostCall) → Turn past e → OnePlan (past ++ (e ∷ [])) es → OnePlan past (e ∷ es)
  one-plan-on past e es (still q m) i h =
      let j = i (rw m (rw q at h)) in
      let k = same-plan m in
      (j.0 ∙ k.0, j.1 ∙ k.1)
  one-plan-on past e es (onward q l m) i h =
      let j = i (omega (arith, ap length (left-next past l m), rw q at h)) in
      let k = same-plan m in
      (j.0 ∙ k.0, j.1 ∙ k.1)
  one-plan-on past e es (over book out o q l m) i h =
      absurd (omega (arith, ap length (left-last (running past) (stands-ready past) (parts past).position l), rw q at h))

  one-plan : (past es : List HostCall) → OnePlan past es
  one-plan past [] = λ _. (refl, refl)
  one-plan past (e ∷ es) = one-plan-on past e es (turn past e) (one-plan (past ++ (e ∷ [])) es)

  -- Whole cycles

  abbrev Due : List HostCall → List HostCall → Type 0
  Due past es = CyclesInRun a (running past).plan (running past).copy past es

  -- a whole cycle put before
  put-before : (past before : List HostCall) (e : HostCall) (es : List HostCall) → Whole (crossing a) past before e → (running past).position ≡ 0
      → Due (after (crossing a) past before ++ (e ∷ [])) es → Due past (before ++ (e ∷ es))
  put-before past before (octet b l book out o) es w z c = absurd w.picks
  put-before past before line_idle es w z c = absurd w.picks
  put-before past before (offer info out o) es w z c = absurd w.picks
  put-before past before (second book out o) es w z c =
      let now = after (crossing a) past before in
      let later = now ++ (second book out o ∷ []) in
      let u = running past in
      let v = running later in
      let q = after_is a past before in
      let r = ap (λ (x : List HostCall). x ++ (second book out o ∷ [])) q ∙ append_assoc past before (second book out o ∷ []) in
      let m = one-plan past before (omega (arith, ap length w.rows, length-append (answers (crossing a) past before) (w.last ∷ []))) in
      let rule : Chosen a.which (latest_run a now) book u.plan u.copy v.plan v.copy = rw (m.0, m.1) at w.picks in
      whole before book out o w.last v.plan v.copy
      (subst (λ (c : List HostCall). says (run a c) (second book out o) ≡ some w.last) q w.answered)
      (ap (λ (xs : List Second). xs ++ (w.last ∷ [])) (sym (answers-are a past before)) ∙ w.rows ∙ left-starts u z)
      (subst (λ (c : List HostCall). Chosen a.which (latest_run a c) book u.plan u.copy v.plan v.copy) q rule)
      (stands-ready later)
      (subst (λ (x : List HostCall). CyclesInRun a v.plan v.copy x es) r c)

  cycles-due : {past es : List HostCall} → Cycles (crossing a) past es → (running past).position ≡ 0 → Due past es
  cycles-due {past} {es} (cycles.unfinished u) z =
      unfinished u.rest (ap (λ (xs : List Second). xs ++ u.rest) (sym (answers-are a past es)) ∙ u.rows ∙ left-starts (running past) z) u.more
  cycles-due {past} (cycles.whole {before} {second = e} {es} w c) z = put-before past before e es w z (cycles-due c w.start)
  cycles-due {past} (cycles.altered a c) z = absurd a.alters

pub crossing-cycles : CrossingCycles
crossing-cycles a g es = cycles-run.whole-cycles (crossing a) (λ past. Unit) (ways a g) [] tt es

pub runs-whole-cycles : RunsWholeCycles
unfolding started_of fresh_of
runs-whole-cycles a g es = cycles-due a g (crossing-cycles a g es) refl

pub plan-zero-throughout : PlanZeroThroughout
plan-zero-throughout a g es = zero_is a g es

-- Any 1,799

pub crossing-holds : CrossingHolds
unfolding started_of fresh_of
crossing-holds a g es = window 900 (crossing a) (λ past. Unit) (ways a g) (λ past _. most a g past) [] tt refl es

holds-whole : (a : Start) → Starts a → (es : List HostCall) (n : ℕ) → HoldsCycle (crossing a) [] es n 900 1799 → HoldsWhole a es n
holds-whole a g es n h =
    let M = crossing a in
    let start = after M [] h.before in
    let u = running a g start in
    let cycle : answers M start h.during ≡ cycle_of_plan u.plan u.copy = h.whole ∙ left-starts u h.start in
    record {
      plan = u.plan;
      rec = u.copy;
      before = answers M [] h.before;
      later = answers M (after M start h.during) h.later;
      run =
          sym (answers-are a [] es) ∙ ap (answers M []) (h.run ∙ append_assoc h.before h.during h.later)
          ∙ answers-append M [] h.before (h.during ++ h.later) ∙ rw (answers-append M start h.during h.later, cycle);
      from = h.from;
      soon = h.soon;
      within =
          omega (
            arith,
            h.within,
            ap length (answers-append M [] h.before h.during),
            length-append (answers M [] h.before) (answers M start h.during),
            ap length cycle,
          );
      stands = stands-ready a g start;
      phases = λ i l. whole-phases u.copy i (stands-ready a g start) l;
    }

pub any-window : AnyWindow
any-window a g es n l = holds-whole a g es n (crossing-holds a g es n (rw (answers-are a [] es) l))

-- Sets

-- what a second shows comes of the running plan alone
pub same-shown : (s t : State) (book out : List ℕ) → sound_of s ≡ true → sound_of t ≡ true → s.running ≡ t.running
    → second_accepted (second_of s book out) ≡ second_accepted (second_of t book out)
unfolding no_second
same-shown s t book out h g e =
    elim (ℕ_discrete (length book) book_len) [
      | yes n ↦ elim (dec_lt (length out) output_len) [
        | yes l ↦ ap second_accepted (second-9 s book out h n l) ∙ sym (ap second_accepted (second-9 t book out g n l))
        | no j ↦ let l : output_len ≤ length out = omega arith in
            ap second_accepted (second-done s book out h n l) ∙ ap (λ (u : Running). some (shown_by u)) e ∙ sym (ap second_accepted (second-done t book out g n l))
      ]
      | no n ↦ ap second_accepted (second-8 s book out h n) ∙ sym (ap second_accepted (second-8 t book out g n))
    ]

between-running : (s : State) (es : List HostCall) → NoSecond es → (goes_on s es).running ≡ s.running
between-running s [] q = refl
between-running s (octet b l book out o ∷ es) q = between-running (octet_of s book out b).answer.state es q ∙ octet-running s book out b
between-running s (line_idle ∷ es) q = between-running (line_idle_of s).state es q ∙ ap (λ (t : State). t.running) (idle-left s)
between-running s (second book out o ∷ es) q = absurd q
between-running s (offer info out o ∷ es) q = between-running (offer_of s info out).answer.state es q ∙ ap (λ (t : State). t.running) (offer-left s info out)

pub sets-never-alter : SetsNeverAlter
sets-never-alter a g past between book out o q =
    same-shown (run a (past ++ between)) (run a past) book out (sound a g (past ++ between)) (sound a g past)
    (ap (λ (s : State). s.running) (goes-on-append (start_of a) past between) ∙ between-running (run a past) between q)
