-- The octets that belong to no sound frame, over any run: each call hands on what the decoder's own call makes of the number, and that is the noise's
-- length.
use Prim.Native.Nat.{ℕ, ◌<◌}
use mathlib.Core.Path.{◌≡◌, refl, sym, ap, ◌∙◌}
use mathlib.Core.Bool.{true}
use mathlib.Core.Logic.{◌⊎◌, inl, inr}
use mathlib.Core.List.{List, [], ◌∷◌}
use native.Mathlib.Omega.{arith}
use lib.ListN.{take}
use lib.Seq.{length-take-le}
use Rattle.octets.specs.Octet.{Octets}
use Rattle.frame.specs.Frame.{info_most}
use Rattle.frame.specs.Decoder.{fresh_decoder, taken_of}
use Rattle.frame.proofs.Noise.{Noise, noise-is, noise-none, Step, on, over, octet-step, idle-step}
use Rattle.frame.proofs.Possible.{fresh-at-rest}
use Rattle.controller.specs.State.{State, fresh_of, sound_of}
use Rattle.controller.specs.Replies.{Answer, Call}
use Rattle.controller.specs.Seconds.{started_of, no_second, second_of}
use Rattle.controller.specs.Demand1.{OctetRefused}
use Rattle.controller.specs.Offers.{offer_of}
use Rattle.controller.specs.Demand3.{HostCall, octet, line_idle, second, offer, next, start_of}
use Rattle.controller.specs.Dropped.{OctetDone, DroppedPassedUp, NoiseInRun, end, refused, goes, frame, idle, shows, offers, NoiseTold}
use Rattle.controller.proofs.Laws.{octet-brings, idle-done}
use Rattle.controller.proofs.Answering.{octet-refused, octets-answered}
use Rattle.controller.proofs.Keeping.{second-ways, second-left, offer-ways, offer-left, sound-kept}
use Rattle.controller.proofs.Latest.{start-kept}

-- What a call tells

second-tells : (s : State) (book out : List ℕ) → (second_of s book out).told.dropped ≡ 0
unfolding no_second
second-tells s book out = second-ways s book out (λ a. a.told.dropped ≡ 0) (λ n. refl) refl

offer-tells : (s : State) (info out : List ℕ) → (offer_of s info out).answer.told.dropped ≡ 0
offer-tells s info out = offer-ways s info out (λ w. w.answer.told.dropped ≡ 0) (λ n. refl) (λ _ _ _. refl)

pub passed-up : DroppedPassedUp
passed-up s =
    record {
      octet = λ book out b d. let e = octet-brings s book out b d.0 d.1 d.2 refl in
          (ap (λ (w : Call). w.answer.told.dropped) e, ap (λ (w : Call). w.answer.state.dropped) e);
      line_idle = λ h. (ap (λ (a : Answer). a.told.dropped) (idle-done s h), ap (λ (a : Answer). a.state.dropped) (idle-done s h));
      second = λ book out. (second-tells s book out, ap (λ (t : State). t.dropped) (second-left s book out));
      offer = λ info out. (offer-tells s info out, ap (λ (t : State). t.dropped) (offer-left s info out));
    }

-- A run

-- what was counted so far, of a sound state
abbrev Holds : List ℕ → State → Type 0
Holds since s = Noise since s.decoder s.dropped

abbrev Rest : List HostCall → Type 0
Rest es = (since : List ℕ) (s : State) → sound_of s ≡ true → Holds since s → NoiseInRun since s es

-- the octet call: refused, or what the octet made of the decoder and of the number
module _ (es : List HostCall) (rest : Rest es) (since : List ℕ) (s : State) (h : sound_of s ≡ true) (w : Holds since s)
    (b : ℕ) (l : b < 256) (book out : List ℕ) (o : Octets book) where
  abbrev e : HostCall
  e = octet b l book out o

  abbrev then' : sound_of (next s e) ≡ true
  then' = (sound-kept s).octet book out b l h

  not_taken : (n : ℕ) → OctetRefused s book out n → NoiseInRun since s (e ∷ es)
  not_taken n x =
      let q = octet-refused s book out b x in
      let t : next s e ≡ s = ap (λ (v : Call). v.answer.state) q in
      refused {o = o} {es = es} (noise-is w) n x (ap (λ (v : Call). v.answer.told.dropped) q) (ap (λ (v : State). v.dropped) t) (rest since (next s e) then' (rw t w))

  decoder-then : OctetDone s book out → (next s e).decoder ≡ (taken_of s.decoder b).decoder
  decoder-then d = ap (λ (v : Call). v.answer.state.decoder) (octet-brings s book out b d.0 d.1 d.2 refl)

  taken : OctetDone s book out → Step since s.decoder s.dropped b → NoiseInRun since s (e ∷ es)
  taken d (on q t v) =
      let p = (passed-up s).octet book out b d in
      goes {o = o} {es = es} (noise-is w) d q (p.0 ∙ t ∙ sym p.1) (rest _ (next s e) then' (rw (p.1, decoder-then d) v))
  taken d (over f z u q t k v) =
      let p = (passed-up s).octet book out b d in
      frame {book = book} {out = out} {o = o} {es = es} (noise-is w) d f z u q (rw p.0 t) (p.1 ∙ k)
      (rest [] (next s e) then' (rw (p.1, k, decoder-then d) v))

  by-octet : ((n : ℕ) × OctetRefused s book out n) ⊎ OctetDone s book out → NoiseInRun since s (e ∷ es)
  by-octet (inl x) = not_taken x.0 x.1
  by-octet (inr d) = taken d (octet-step w b l)

noise-from : (es : List HostCall) → Rest es
noise-from [] since s h w = end (noise-is w)
noise-from (octet b l book out o ∷ es) since s h w = by-octet es (noise-from es) since s h w b l book out o (octets-answered s book out b).either
noise-from (line_idle ∷ es) since s h w =
    let p = (passed-up s).line_idle h in
    let v = idle-step w in
    idle {s = s} {es = es} (noise-is w) (rw (p.0, v.1) v.0) (p.0 ∙ v.1 ∙ sym p.1)
    (noise-from es since (next s line_idle) ((sound-kept s).line_idle h) (rw (p.1, ap (λ (a : Answer). a.state.decoder) (idle-done s h)) v.2))
noise-from (second book out o ∷ es) since s h w =
    let q = second-left s book out in
    let p = (passed-up s).second book out in
    shows {s = s} {o = o} {es = es} (noise-is w) p.0 p.1
    (noise-from es since (next s (second book out o)) ((sound-kept s).second book out h) (rw (p.1, ap (λ (t : State). t.decoder) q) w))
noise-from (offer info out o ∷ es) since s h w =
    let q = offer-left s info out in
    let p = (passed-up s).offer info out in
    offers {s = s} {o = o} {es = es} (noise-is w) p.0 p.1
    (noise-from es since (next s (offer info out o)) ((sound-kept s).offer info out h) (rw (p.1, ap (λ (t : State). t.decoder) q) w))

pub noise-told : NoiseTold
unfolding started_of fresh_of
noise-told a g es =
    let kept = a.kept in
    noise-from es [] (start_of a) (start-kept a g).sound
    (noise-none (fresh_decoder (take info_most kept)) (fresh-at-rest.1 (take info_most kept) (length-take-le info_most kept (omega (arith, g.kept)))).0)
