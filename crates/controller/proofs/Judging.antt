-- Soundness taken apart into what 01 lists, and put together.
use Prim.Native.Nat.{ℕ, ◌≤◌, ◌<◌}
use mathlib.Core.Path.{◌≡◌, refl, ap}
use mathlib.Core.Bool.{Bool, true, false, not}
use mathlib.Core.Logic.{◌⊎◌, inl, inr}
use mathlib.Core.List.{List}
use native.Mathlib.Omega.{arith}
use borrow.Author.Tests.{eq-eqb, ne_eqb, lt-ltb, le-leb, eqb-true, ltb-true, leb-true}
use lib.Dec.{eqb, ltb, leb}
use lib.ListN.{length}
use Rattle.octets.specs.Choice.{pick, both}
use Rattle.octets.specs.Octet.{Octets}
use Rattle.octets.specs.Same.{same}
use Rattle.octets.proofs.Laws.{pick-by, both_left, both_right, clash, octets-part, same-is, is_same}
use Rattle.frame.specs.Frame.{info_least, info_most}
use Rattle.frame.specs.Decoder.{possible_of}
use Rattle.record.specs.Record.{record_len, plans_most, ready, cycle_of}
use Rattle.checks.specs.Standing.{standing_of}
use Rattle.plan.specs.declared.Which.{Which}
use Rattle.plan.specs.BuiltIn.{built_in}
use Rattle.plan.specs.Reading.{record_start}
use Rattle.plan.proofs.Cases.{octets-built-in}
use Rattle.controller.specs.declared.Running.{Running}
use Rattle.controller.specs.declared.Last.{Last}
use Rattle.controller.specs.declared.Out.{Out}
use Rattle.controller.specs.Sender.{wait_least, wait_most, wait_fits, sends_most, out_fits}
use Rattle.controller.specs.Memory.{last_fits}
use Rattle.controller.specs.State.{State, all, running_sound, sound_of, plan_record}

pub four : (a b c d : Bool) → both a (both b (both c d)) ≡ true → (a ≡ true) × (b ≡ true) × (c ≡ true) × (d ≡ true)
four a b c d h =
    let g = both_right a (both b (both c d)) h in
    let f = both_right b (both c d) g in
    (both_left a (both b (both c d)) h, both_left b (both c d) g, both_left c d f, both_right c d f)

pub record RunningParts (u : Running) : Type 0 where
  pub position : u.position < cycle_of u.copy
  pub plan : u.plan ≤ plans_most
  pub checks : standing_of u.copy ≡ ready
  pub zero : u.plan ≡ 0 → u.copy ≡ built_in u.which

module _ (u : Running) where
  abbrev kept : List ℕ
  kept = built_in u.which

  zeroes : pick (eqb u.plan 0) (same u.copy kept) true ≡ true → u.plan ≡ 0 → u.copy ≡ kept
  zeroes h z = same-is u.copy kept (rw (eq-eqb u.plan 0 z) at h)

  pub running-parts : running_sound u ≡ true → RunningParts u
  unfolding running_sound
  running-parts h =
      let p =
      four (ltb u.position (cycle_of u.copy)) (leb u.plan plans_most) (eqb (standing_of u.copy) ready)
      (pick (eqb u.plan 0) (same u.copy kept) true) h in
      record {
        position = ltb-true u.position (cycle_of u.copy) p.0;
        plan = leb-true u.plan plans_most p.1;
        checks = eqb-true (standing_of u.copy) ready p.2;
        zero = zeroes p.3;
      }

  pub parts-running : RunningParts u → running_sound u ≡ true
  unfolding running_sound
  parts-running p =
      rw (lt-ltb u.position (cycle_of u.copy) p.position, le-leb u.plan plans_most p.plan, eq-eqb (standing_of u.copy) ready p.checks)
      (pick-by (λ (t : Bool). t ≡ true) (eqb u.plan 0) (λ z. rw (p.zero (eqb-true u.plan 0 z)) (is_same kept)) (λ _. refl))

-- what is remembered is of a length that INFO can have, or nothing
abbrev pub LastFits : Last → Type 0
LastFits l = (l.len ≡ 0) ⊎ ((info_least ≤ l.len) × (l.len ≤ info_most))

module _ (l : Last) where
  pub last-parts : last_fits l ≡ true → LastFits l
  last-parts = by (eqb l.len 0) refl
    where
      by : (t : Bool) → eqb l.len 0 ≡ t → pick t true (both (leb info_least l.len) (leb l.len info_most)) ≡ true → LastFits l
      by true e h = inl (eqb-true l.len 0 e)
      by false e h =
          inr (leb-true info_least l.len (both_left (leb info_least l.len) (leb l.len info_most) h), leb-true l.len info_most (both_right (leb info_least l.len) (leb l.len info_most) h))

  pub parts_last : LastFits l → last_fits l ≡ true
  parts_last (inl e) = rw (eq-eqb l.len 0 e)
  parts_last (inr h) = rw (ne_eqb l.len 0 (λ e. omega (arith, e, h.0)), le-leb info_least l.len h.0, le-leb l.len info_most h.1)

-- none is out, or what can be
pub record OutParts (t : ℕ) (o : Out) : Type 0 where
  pub least : 1 ≤ o.sends
  pub most : o.sends ≤ sends_most
  pub waited : o.waited < t
  pub long : info_least ≤ o.len
  pub short : o.len ≤ info_most

abbrev pub OutFits : ℕ → Out → Type 0
OutFits t o = (o.len ≡ 0) ⊎ OutParts t o

module _ (t : ℕ) (o : Out) where
  pub out-parts : out_fits t o ≡ true → OutFits t o
  unfolding out_fits
  out-parts = by (eqb o.len 0) refl
    where
      a : Bool
      a = leb 1 o.sends

      b : Bool
      b = leb o.sends sends_most

      c : Bool
      c = ltb o.waited t

      d : Bool
      d = both (leb info_least o.len) (leb o.len info_most)

      by : (x : Bool) → eqb o.len 0 ≡ x → pick x true (both a (both b (both c d))) ≡ true → OutFits t o
      by true e h = inl (eqb-true o.len 0 e)
      by false e h =
          let p = four a b c d h in
          inr (record {
            least = leb-true 1 o.sends p.0;
            most = leb-true o.sends sends_most p.1;
            waited = ltb-true o.waited t p.2;
            long = leb-true info_least o.len (both_left (leb info_least o.len) (leb o.len info_most) p.3);
            short = leb-true o.len info_most (both_right (leb info_least o.len) (leb o.len info_most) p.3);
          })

  pub parts_out : OutFits t o → out_fits t o ≡ true
  unfolding out_fits
  parts_out (inl e) = rw (eq-eqb o.len 0 e)
  parts_out (inr p) =
      rw (ne_eqb o.len 0 (λ e. omega (arith, e, p.long)), le-leb 1 o.sends p.least, le-leb o.sends sends_most p.most, lt-ltb o.waited t p.waited, le-leb info_least o.len p.long, le-leb o.len info_most p.short)

pub record SoundParts (s : State) : Type 0 where
  pub own : s.own ≡ all → ⊥
  pub requested : s.requested ≤ plans_most
  pub info : length s.decoder.info ≡ info_most
  pub last_info : length s.memory.info ≡ info_most
  pub out_info : length s.sender.info ≡ info_most
  pub last : LastFits s.memory.last
  pub wait : (wait_least ≤ s.wait) × (s.wait ≤ wait_most)
  pub out : OutFits s.wait s.sender.out
  pub decoder : possible_of s.decoder.head ≡ true
  pub running : RunningParts s.running

module _ (s : State) where
  pub sound-parts : sound_of s ≡ true → SoundParts s
  unfolding sound_of
  sound-parts h =
      let o = not (eqb s.own all) in
      let q = leb s.requested plans_most in
      let i = eqb (length s.decoder.info) info_most in
      let k = eqb (length s.memory.info) info_most in
      let m = eqb (length s.sender.info) info_most in
      let l = last_fits s.memory.last in
      let w = wait_fits s.wait in
      let f = out_fits s.wait s.sender.out in
      let d = possible_of s.decoder.head in
      let u = running_sound s.running in
      let p = four o q i (both k (both m (both l (both w (both f (both d u)))))) h in
      let g = four k m l (both w (both f (both d u))) p.3 in
      let j = four w f d u g.3 in
      record {
        own = λ e. clash (ap not (eq-eqb s.own all e)) p.0;
        requested = leb-true s.requested plans_most p.1;
        info = eqb-true (length s.decoder.info) info_most p.2;
        last_info = eqb-true (length s.memory.info) info_most g.0;
        out_info = eqb-true (length s.sender.info) info_most g.1;
        last = last-parts s.memory.last g.2;
        wait = (leb-true wait_least s.wait (both_left (leb wait_least s.wait) (leb s.wait wait_most) j.0), leb-true s.wait wait_most (both_right (leb wait_least s.wait) (leb s.wait wait_most) j.0));
        out = out-parts s.wait s.sender.out j.1;
        decoder = j.2;
        running = running-parts s.running j.3;
      }

  pub parts-sound : SoundParts s → sound_of s ≡ true
  unfolding sound_of
  parts-sound p = rw (ne_eqb s.own all p.own, le-leb s.requested plans_most p.requested, eq-eqb (length s.decoder.info) info_most p.info, eq-eqb (length s.memory.info) info_most p.last_info, eq-eqb (length s.sender.info) info_most p.out_info, parts_last s.memory.last p.last, le-leb wait_least s.wait p.wait.0, le-leb s.wait wait_most p.wait.1, parts_out s.wait s.sender.out p.out, p.decoder) (parts-running s.running p.running)

-- The record of a plan is octets

pub record-octets : (which : Which) (book : List ℕ) (p : ℕ) → Octets book → Octets (plan_record which book p)
record-octets which book p o = pick-by Octets (eqb p 0) (λ _. octets-built-in which) (λ _. octets-part record_len (record_start p) book o)
