-- From a fresh start every state is sound, remembers the last frame accepted and requests the plan of the latest run message carried out, as the octets
-- tell it.
use Prim.Native.Nat.{ℕ, ◌+◌}
use mathlib.Core.Path.{◌≡◌, refl, ap, ◌∙◌}
use mathlib.Core.Bool.{Bool, true}
use mathlib.Core.List.{List, [], ◌∷◌}
use native.Mathlib.Decide.{dec_lt}
use native.Mathlib.Omega.{arith}
use Rattle.octets.specs.Choice.{pick}
use lib.Dec.{ltb}
use Rattle.octets.specs.Octet.{Octets}
use Rattle.frame.specs.Decoder.{Decoder, taken_of, idled_of}
use Rattle.frame.specs.Run.{outcome_of}
use Rattle.record.specs.Record.{cycle_of}
use Rattle.plan.proofs.Cases.{octets-built-in}
use Rattle.controller.specs.declared.Running.{Running}
use Rattle.controller.specs.State.{State, fresh_of, sound_of}
use Rattle.controller.specs.Seconds.{started_of, moved_on, picked_of, no_second}
use Rattle.controller.specs.Demand3.{HostCall, octet, line_idle, second, offer, next, goes_on, Start, Starts, start_of, run, Heard, hears_octet, hears, hears_on, heard_first, heard_in, LatestKept}
use Rattle.controller.specs.Replies.{Answer, octet_of}
use Rattle.controller.proofs.Laws.{takes, octet-done, idle-done, moved-within, moved_ends}
use Rattle.controller.proofs.Judging.{sound-parts, record-octets}
use Rattle.controller.proofs.Remembering.{outcome_fits, last_in, memory-last}
use Rattle.controller.proofs.Keeping.{done-left, done-wrote, by-octet, octet-own, octet-running, idle-left, by-picked, second-left, by-second, offer-left, sound-kept, fresh-sound}

-- the copy that runs is octets
module _ (u : Running) (p : ℕ) (book : List ℕ) (ou : Octets u.copy) (ob : Octets book) where
  picked-octets : Octets (picked_of u p book).copy
  picked-octets =
      by-picked u p book (λ v. Octets v.copy)
      (λ _. record-octets u.which book p ob)
      (λ _. ou)

  moved-octets : Octets (moved_on u p book).copy
  moved-octets =
      elim (dec_lt (u.position + 1) (cycle_of u.copy)) [
        | yes l ↦ rw (moved-within u p book l) ou
        | no l ↦ rw (moved_ends u p book (omega arith)) picked-octets
      ]

-- the state s of a controller at this address, when h was heard
pub record Kept (address : ℕ) (s : State) (h : Heard) : Type 0 where
  pub own : s.own ≡ address
  pub sound : sound_of s ≡ true
  pub octets : Octets s.running.copy
  pub decoder : s.decoder ≡ h.decoder
  pub last : last_in s.memory ≡ h.last
  pub latest : s.requested ≡ h.latest

pub kept_next : (own : ℕ) (s : State) (h : Heard) (e : HostCall) → Kept own s h → Kept own (next s e) (hears own s h e)
unfolding no_second
kept_next own s h (octet b l book out o) k =
    let d = done-left s (takes s b) book out in
    let heard : Bool → Heard = λ wrote. hears_octet own wrote book h (taken_of h.decoder b) in
    let wrote = ltb 0 (octet_of s book out b).answer.told.count in
    let told = done-wrote s (takes s b) book out in
    record {
      own = octet-own s book out b ∙ k.own;
      sound = (sound-kept s).octet book out b l k.sound;
      octets = rw (octet-running s book out b) k.octets;
      decoder =
          rw k.sound at (by-octet s book out b (λ t w. w.decoder ≡ (pick t (heard wrote) h).decoder) k.decoder
          (λ _ _ _. d.decoder ∙ ap (λ (c : Decoder). (taken_of c b).decoder) k.decoder));
      last =
          rw k.sound at (by-octet s book out b (λ t w. last_in w.memory ≡ (pick t (heard wrote) h).last) k.last
          (λ n m j. ap last_in d.memory ∙ memory-last s (sound-parts s n) _ (outcome_of (taken_of s.decoder b)) told (outcome_fits s b n)
          ∙ rw (octet-done s book out b n m j, k.own, k.decoder, k.last)));
      latest =
          rw k.sound at (by-octet s book out b (λ t w. w.requested ≡ (pick t (heard wrote) h).latest) k.latest
          (λ n m j. d.requested ∙ rw (octet-done s book out b n m j, k.own, k.decoder, k.last, k.latest)));
    }
kept_next own s h line_idle k =
    let e = idle-left s in
    record {
      own = ap (λ (t : State). t.own) e ∙ k.own;
      sound = (sound-kept s).line_idle k.sound;
      octets = rw (ap (λ (t : State). t.running) e) k.octets;
      decoder = ap (λ (a : Answer). a.state.decoder) (idle-done s k.sound) ∙ ap (λ (c : Decoder). (idled_of c).decoder) k.decoder;
      last = ap (λ (t : State). last_in t.memory) e ∙ k.last;
      latest = ap (λ (t : State). t.requested) e ∙ k.latest;
    }
kept_next own s h (second book out o) k =
    let e = second-left s book out in
    record {
      own = ap (λ (t : State). t.own) e ∙ k.own;
      sound = (sound-kept s).second book out k.sound;
      octets = by-second s book out k.sound (λ a. Octets a.state.running.copy) (λ _ _. moved-octets s.running s.requested book k.octets o) (λ _. k.octets);
      decoder = ap (λ (t : State). t.decoder) e ∙ k.decoder;
      last = ap (λ (t : State). last_in t.memory) e ∙ k.last;
      latest = ap (λ (t : State). t.requested) e ∙ k.latest;
    }
kept_next own s h (offer info out o) k =
    let e = offer-left s info out in
    record {
      own = ap (λ (t : State). t.own) e ∙ k.own;
      sound = (sound-kept s).offer info out k.sound;
      octets = rw (ap (λ (t : State). t.running) e) k.octets;
      decoder = ap (λ (t : State). t.decoder) e ∙ k.decoder;
      last = ap (λ (t : State). last_in t.memory) e ∙ k.last;
      latest = ap (λ (t : State). t.requested) e ∙ k.latest;
    }

kept_on : (own : ℕ) (s : State) (h : Heard) (es : List HostCall) → Kept own s h → Kept own (goes_on s es) (hears_on own s h es)
kept_on own s h [] k = k
kept_on own s h (e ∷ es) k = kept_on own (next s e) (hears own s h e) es (kept_next own s h e k)

pub start-kept : (a : Start) → Starts a → Kept a.own (start_of a) (heard_first a)
unfolding started_of fresh_of
start-kept a g =
    record {
      own = refl;
      sound = fresh-sound a.which a.own a.wait a.kept g.own g.least g.most g.kept;
      octets = octets-built-in a.which;
      decoder = refl;
      last = refl;
      latest = refl;
    }

pub run-kept : (a : Start) → Starts a → (es : List HostCall) → Kept a.own (run a es) (heard_in a es)
run-kept a g es = kept_on a.own (start_of a) (heard_first a) es (start-kept a g)

pub latest-kept : LatestKept
latest-kept a g es = (run-kept a g es).latest
