-- 02, E4: over any run the memory is the last frame accepted; and since that one is remembered, its octets handed in again are a repeat.
use Prim.Native.Nat.{ℕ, zero, suc, ◌-◌, ◌≤◌, ◌<◌}
use mathlib.Core.Path.{◌≡◌, refl, sym, ap, subst, ◌∙◌}
use mathlib.Core.Bool.{Bool, true, false}
use mathlib.Core.Logic.{◌⊎◌, inl, inr}
use mathlib.Core.List.{List, [], ◌∷◌, ◌++◌, append-nil}
use mathlib.Core.Option.{none, some}
use native.Mathlib.Omega.{arith}
use borrow.Author.Tests.{eqb-true}
use lib.Dec.{eqb}
use lib.ListN.{length, take, replicate}
use Rattle.octets.specs.Choice.{pick}
use Rattle.octets.specs.Octet.{Octets}
use Rattle.frame.specs.Frame.{Frame, message, ack, info_most, written}
use Rattle.frame.specs.Promises.{InOctets, InfoFits, ReadBack}
use Rattle.frame.specs.Decoder.{Decoder, taken_of}
use Rattle.frame.specs.Run.{nothing, sound, outcome_of, outcomes, decoder_after, AtRest}
use Rattle.frame.proofs.Reading.{reading-undoes-writing}
use Rattle.record.specs.Record.{book_len}
use Rattle.controller.specs.Memory.{Memory, last_info}
use Rattle.controller.specs.State.{State, all, output_len, sound_of, with_decoder}
use Rattle.controller.specs.declared.Event.TheVariants as event
use Rattle.controller.specs.Replies.{Call, octet_of}
use Rattle.controller.specs.Demand2.{Repeats, NoSilence, OnlyTaken, RepliesSo}
use Rattle.controller.specs.Demand3.{HostCall, octet, next, goes_on}
use Rattle.controller.specs.OurSeq.{writes, writes_on}
use Rattle.controller.specs.Repeats.{IsLast, LastKept, HandsIn, TellsNothing, AllTellNothing, NothingElse, SentTwice}
use Rattle.controller.specs.Repeats as hands
use Rattle.controller.proofs.Judging.{LastFits, sound-parts}
use Rattle.controller.proofs.Remembering.{last_in, last-long}
use Rattle.controller.proofs.Laws.{octet-brings}
use Rattle.controller.proofs.Keeping.{octet-own, sound-kept}
use Rattle.controller.proofs.Serving.{message-event, replies}
use Rattle.controller.proofs.Latest.{run-kept}
use Rattle.controller.proofs.Run.{same-shown}

-- What is remembered

is_last : (m : Memory) → length m.info ≡ info_most → LastFits m.last → IsLast m (last_in m)
is_last m l f = by (eqb m.last.len 0) refl
  where
    by : (t : Bool) → eqb m.last.len 0 ≡ t → IsLast m (pick t none (some (record { seq = m.last.seq; info = last_info m })))
    by true e = eqb-true m.last.len 0 e
    by false e =
        let n = last-long m l f in
        record { seq = refl; long = sym n; octets = ap (λ (k : ℕ). take k m.info) n }

pub last-kept : LastKept
last-kept a g es =
    let k = run-kept a g es in
    let p = sound-parts _ k.sound in
    subst (IsLast _) k.last (is_last _ p.last_info p.last)

-- A frame's octets

-- before the last octet of a frame nothing but the decoder and the octets that are counted changes, nothing is written and nothing told
record Ends (f : Frame) (s : State) (bs : List ℕ) (es : List HostCall) : Type 0 where
  before : State
  alike : before ≡ with_decoder s before.decoder before.dropped
  stands : sound_of before ≡ true
  b : ℕ
  l : b < 256
  book : List ℕ
  out : List ℕ
  o : Octets book
  hb : length book ≡ book_len
  ho : output_len ≤ length out
  ends : outcome_of (taken_of before.decoder b) ≡ sound f
  state : goes_on s es ≡ next before (octet b l book out o)
  wrote : writes_on s es ≡ writes before (octet b l book out o)
  told : TellsNothing book (octet_of before book out b) → AllTellNothing s es
  decoder : (goes_on s es).decoder ≡ decoder_after s.decoder bs

none_more : (d : Decoder) {bs : List ℕ} {es : List HostCall} → HandsIn bs es → outcomes d bs ≡ [] → (bs ≡ []) × (es ≡ [])
unfolding outcomes
none_more d hands.end e = (refl, refl)
none_more d (hands.more b l book out o hb ho r) e = let z : ◌≡◌ {A = ℕ} 0 1 = cc in absurd (omega arith)

frame-in : (f : Frame) (n : ℕ) (s : State) {bs : List ℕ} {es : List HostCall} → HandsIn bs es → sound_of s ≡ true
    → outcomes s.decoder bs ≡ replicate n nothing ++ (sound f ∷ []) → Ends f s bs es
unfolding outcomes decoder_after
frame-in f zero s hands.end h e = let z : ◌≡◌ {A = ℕ} 0 1 = cc in absurd (omega arith)
frame-in f (suc n) s hands.end h e = let z : ◌≡◌ {A = ℕ} 0 1 = cc in absurd (omega arith)
frame-in f zero s (hands.more {bs} {es} b l book out o hb ho r) h e =
    let q : outcome_of (taken_of s.decoder b) ≡ sound f = cc in
    let m : outcomes (taken_of s.decoder b).decoder bs ≡ [] = cc in
    let z = none_more (taken_of s.decoder b).decoder r m in
    rw (z.0, z.1)
    (record {
      before = s;
      alike = refl;
      stands = h;
      b = b;
      l = l;
      book = book;
      out = out;
      o = o;
      hb = hb;
      ho = ho;
      ends = q;
      state = refl;
      wrote = append-nil (writes s (octet b l book out o));
      told = λ x. (x, tt);
      decoder = ap (λ (w : Call). w.answer.state.decoder) (octet-brings s book out b h hb ho q);
    })
frame-in f (suc n) s (hands.more {bs} {es} b l book out o hb ho r) h e =
    let q : outcome_of (taken_of s.decoder b) ≡ nothing = cc in
    let m : outcomes (taken_of s.decoder b).decoder bs ≡ replicate n nothing ++ (sound f ∷ []) = cc in
    let w = octet-brings s book out b h hb ho q in
    let t = next s (octet b l book out o) in
    let d : t.decoder ≡ (taken_of s.decoder b).decoder = ap (λ (w : Call). w.answer.state.decoder) w in
    let i = frame-in f n t r ((sound-kept s).octet book out b l h) (rw d m) in
    let v = i.before in
    record {
      before = v;
      alike = i.alike ∙ ap (λ (w : Call). with_decoder w.answer.state v.decoder v.dropped) w;
      stands = i.stands;
      b = i.b;
      l = i.l;
      book = i.book;
      out = i.out;
      o = i.o;
      hb = i.hb;
      ho = i.ho;
      ends = i.ends;
      state = i.state;
      wrote = ap (λ (w : Call). take w.answer.told.count w.out ++ writes_on t es) w ∙ i.wrote;
      told = λ x. (rw w (record { book = refl; refusal = refl; parameter = refl; event = refl }), i.told x);
      decoder = i.decoder ∙ ap (λ (d : Decoder). decoder_after d bs) d;
    }

-- Sent twice

module _ (s : State) (h : sound_of s ≡ true) (a : AtRest s.decoder) (seq addr : ℕ) (info : List ℕ) (io : InOctets (message seq addr info)) (fi : InfoFits (message seq addr info))
    (quiet : NoSilence s seq addr info) (first again : List HostCall) (hf : HandsIn (written (message seq addr info)) first) (ha : HandsIn (written (message seq addr info)) again) where
  abbrev f : Frame
  f = message seq addr info

  x : Ends f s (written f) first
  x = frame-in f (length (written f) - 1) s hf h (reading-undoes-writing s.decoder f a io fi).outcome

  -- the state after the first
  abbrev t : State
  t = goes_on s first

  t-own : t.own ≡ s.own
  t-own = ap (λ (u : State). u.own) x.state ∙ octet-own x.before x.book x.out x.b ∙ ap (λ (u : State). u.own) x.alike

  t-sound : sound_of t ≡ true
  t-sound = rw x.state ((sound-kept x.before).octet x.book x.out x.b x.l x.stands)

  read_again : ReadBack t.decoder f
  read_again = reading-undoes-writing t.decoder f (rw x.decoder (reading-undoes-writing s.decoder f a io fi).rest) io fi

  y : Ends f t (written f) again
  y = frame-in f (length (written f) - 1) t ha t-sound read_again.outcome

  -- the call that takes the last octet of the second
  abbrev w : Call
  w = octet_of y.before y.book y.out y.b

  y-own : y.before.own ≡ s.own
  y-own = ap (λ (u : State). u.own) y.alike ∙ t-own

  -- the frame is remembered after the first, and so before that octet
  remembered : (addr ≡ s.own) ⊎ (addr ≡ all) → Repeats y.before.memory seq info
  remembered g =
      rw (ap (λ (u : State). u.memory) y.alike, x.state)
      ((replies x.before x.book x.out x.b x.stands x.hb x.ho).remembered seq addr info x.ends (rw (ap (λ (u : State). u.own) x.alike) g) (rw x.alike quiet))

  no-event : w.answer.told.event ≡ event.Nothing
  no-event = rw (octet-brings y.before y.book y.out y.b y.stands y.hb y.ho y.ends) (message-event y.before seq addr info y.book)

  nothing-else : (octets : List ℕ) → take w.answer.told.count w.out ≡ octets → w.answer.told.refusal ≡ 0
      → OnlyTaken y.before y.before.memory y.book y.b w → NothingElse t again octets
  nothing-else octets e n k =
      let left = y.state ∙ k.state in
      let running = ap (λ (u : State). u.running) left ∙ ap (λ (u : State). u.running) y.alike in
      record {
        writes = y.wrote ∙ e;
        tells = y.told (record { book = k.book; refusal = n; parameter = k.parameter; event = no-event });
        decoder = rw y.decoder read_again.rest;
        requested = ap (λ (u : State). u.requested) left ∙ ap (λ (u : State). u.requested) y.alike;
        seq = ap (λ (u : State). u.seq) left ∙ ap (λ (u : State). u.seq) y.alike;
        memory = ap (λ (u : State). u.memory) left ∙ ap (λ (u : State). u.memory) y.alike;
        sender = ap (λ (u : State). u.sender) left ∙ ap (λ (u : State). u.sender) y.alike;
        running = running;
        lamps = λ book out.
            same-shown (goes_on t again) t book out (rw y.state ((sound-kept y.before).octet y.book y.out y.b y.l y.stands)) t-sound running;
      }

  answered : RepliesSo y.before y.book y.b (outcome_of (taken_of y.before.decoder y.b)) w
  answered = replies y.before y.book y.out y.b y.stands y.hb y.ho

  ours : addr ≡ s.own → NothingElse t again (written (ack seq s.own))
  ours g =
      let r = answered.repeated seq info (y.ends ∙ ap (λ (n : ℕ). sound (message seq n info)) (g ∙ sym y-own)) (remembered (inl g)) in
      nothing-else (written (ack seq s.own)) (r.0.octets ∙ append-nil (written (ack seq y.before.own)) ∙ ap (λ (n : ℕ). written (ack seq n)) y-own) r.1 r.2

  for-all : addr ≡ all → NothingElse t again []
  for-all g =
      let r = answered.repeated_for_all seq info (y.ends ∙ ap (λ (n : ℕ). sound (message seq n info)) g) (remembered (inr g)) in
      nothing-else [] r.0.octets r.1 r.2

pub sent-twice : SentTwice
sent-twice s h a seq addr info io fi q first again hf ha =
    record { ours = ours s h a seq addr info io fi q first again hf ha; for_all = for-all s h a seq addr info io fi q first again hf ha }
