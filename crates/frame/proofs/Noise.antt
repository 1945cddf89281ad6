-- Over any calls: the octets that are held lead to where the decoder is, those before them are noise, and the number is the noise's length.
use Prim.Native.Nat.{ℕ, ◌+◌, ◌-◌, ◌<◌}
use mathlib.Core.Path.{◌≡◌, refl, sym, ap, subst, ◌∙◌}
use mathlib.Core.Bool.{true, false}
use mathlib.Core.List.{List, [], ◌∷◌, ◌++◌, append_assoc, append-nil}
use native.Mathlib.Omega.{arith}
use lib.ListN.{length, take, length-append}
use Rattle.octets.proofs.Laws.{clash}
use Rattle.frame.specs.declared.Kind.{Kind}
use Rattle.frame.specs.declared.Kind.TheVariants.{Message, Ack, Nak}
use Rattle.frame.specs.declared.decoder.Place.{Place}
use Rattle.frame.specs.declared.decoder.Place.TheVariants.{Idle, LoneAa, Seq, AddrHigh, AddrLow, LenHigh, LenLow, Info, InfoAa, CloseAa, CloseCc, Err, Cks}
use Rattle.frame.specs.Frame.{Frame, opener, written, info_most}
use Rattle.frame.specs.Decoder.{Decoder, Taken, possible_of, taken_of, idled_of}
use Rattle.frame.specs.Run.{nothing, sound, outcome_of, decoder_after, AtRest, drops, NothingDropped}
use Rattle.frame.specs.Dropped.{open_of, counted_of, idle_counted}
use Rattle.frame.specs.Promises.{parts_at, parts_of, placed_at, placed_as, done_with, SameFrom}
use Rattle.frame.specs.Noise.{Stops, Leads, LineCall, octet, line_idle, NoiseIs, NoiseCounted, end, goes, frame, idle, NumberIsNoise}
use Rattle.frame.proofs.Possible.{at}
use Rattle.frame.proofs.Laws.{idled-done}
use Rattle.frame.proofs.Agreeing.{parts-decide}
use Rattle.frame.proofs.Resuming.{waits}
use Rattle.frame.proofs.Writing.{held_at, held, begun, Went, kept, dropped, refuse, ended, Runs, runs_on, went, nothing-sound, refused-sound, rest-runs}
use Rattle.frame.proofs.Lent.{taken-long}
use Rattle.frame.proofs.Counting.{held-open, stops-more, lost-open, octet-counts, idle-counts, counted-taken, idle-taken}

-- The octets that are held lead to where the decoder is

-- a decoder at rest is itself, placed at idle
at-idle : (r : Decoder) → AtRest r → r ≡ placed_at Idle r
at-idle r a = let h = r.head in ap (λ (p : Place). at p h.kind h.seq h.err h.addr h.len h.filled r.info) a.idle

-- the parts of a decoder at a place that is known
parts-at : (d : Decoder) {p : Place} → d.head.place ≡ p → parts_of d ≡ parts_at p d.head.kind d.head d.info
parts-at d e = ap (λ (p : Place). parts_at p d.head.kind d.head d.info) e

-- where nothing is open, an AA, or a frame that has just been opened
lead-idle : (d : Decoder) → d.head.place ≡ Idle → Leads [] d
unfolding NothingDropped decoder_after
lead-idle d e = record { clean = λ r a. tt; place = λ r a. a.idle ∙ sym e; parts = λ r a. parts-at r a.idle ∙ sym (parts-at d e) }

-- an AA is remembered
lone-after : (r : Decoder) → AtRest r → taken_of r 0xAA ≡ done_with (placed_at LoneAa r)
lone-after r a = ap (λ (u : Decoder). taken_of u 0xAA) (at-idle r a) ∙ (waits r).remembered

lead-lone : (d : Decoder) → d.head.place ≡ LoneAa → Leads (0xAA ∷ []) d
unfolding NothingDropped decoder_after
lead-lone d e =
    record {
      clean = λ r a. (rw a.idle, ap outcome_of (lone-after r a), tt);
      place = λ r a. ap (λ (t : Taken). t.decoder.head.place) (lone-after r a) ∙ sym e;
      parts = λ r a. ap (λ (t : Taken). parts_of t.decoder) (lone-after r a) ∙ sym (parts-at d e);
    }

-- the octet after it opens a frame of its kind
opens : (k : Kind) (r : Decoder) → taken_of (placed_at LoneAa r) (opener k) ≡ done_with (placed_as Seq k r)
opens Message r = (waits r).opens_message
opens Ack r = (waits r).opens_ack
opens Nak r = (waits r).opens_nak

opens-drops : (k : Kind) → drops LoneAa (opener k) ≡ false
opens-drops Message = refl
opens-drops Ack = refl
opens-drops Nak = refl

opened_after : (k : Kind) (r : Decoder) → AtRest r → taken_of (taken_of r 0xAA).decoder (opener k) ≡ done_with (placed_as Seq k r)
opened_after k r a = ap (λ (t : Taken). taken_of t.decoder (opener k)) (lone-after r a) ∙ opens k r

lead-seq : (d : Decoder) → d.head.place ≡ Seq → Leads (0xAA ∷ opener d.head.kind ∷ []) d
unfolding NothingDropped decoder_after
lead-seq d e =
    let k = d.head.kind in
    record {
      clean = λ r a. (rw a.idle, ap outcome_of (lone-after r a), rw (lone-after r a) (opens-drops k, ap outcome_of (opens k r), tt));
      place = λ r a. ap (λ (t : Taken). t.decoder.head.place) (opened_after k r a) ∙ sym e;
      parts = λ r a. ap (λ (t : Taken). parts_of t.decoder) (opened_after k r a) ∙ sym (parts-at d e);
    }

lead-begun : (d : Decoder) → begun d.head.place ≡ true → Leads (held d) d
unfolding held
lead-begun d = let h = d.head in by h.place refl
  where
    by : (p : Place) → d.head.place ≡ p → begun p ≡ true
        → Leads (held_at p d.head.kind d.head.seq d.head.err d.head.addr d.head.len (take d.head.filled d.info)) d
    by Idle e t = lead-idle d e
    by LoneAa e t = lead-lone d e
    by Seq e t = lead-seq d e
    by AddrHigh e t = absurd (clash refl t)
    by AddrLow e t = absurd (clash refl t)
    by LenHigh e t = absurd (clash refl t)
    by LenLow e t = absurd (clash refl t)
    by Info e t = absurd (clash refl t)
    by InfoAa e t = absurd (clash refl t)
    by CloseAa e t = absurd (clash refl t)
    by CloseCc e t = absurd (clash refl t)
    by Err e t = absurd (clash refl t)
    by Cks e t = absurd (clash refl t)

-- one octet more
after_more : (r : Decoder) (xs : List ℕ) (b : ℕ) → decoder_after r (xs ++ (b ∷ [])) ≡ (taken_of (decoder_after r xs) b).decoder
unfolding decoder_after
after_more r [] b = refl
after_more r (x ∷ xs) b = after_more (taken_of r x).decoder xs b

clean-more : (r : Decoder) (xs : List ℕ) (b : ℕ) → NothingDropped r xs → drops (decoder_after r xs).head.place b ≡ false → outcome_of (taken_of (decoder_after r xs) b) ≡ nothing
    → NothingDropped r (xs ++ (b ∷ []))
unfolding NothingDropped decoder_after
clean-more r [] b n p q = (p, q, tt)
clean-more r (x ∷ xs) b n p q = (n.0, n.1, clean-more (taken_of r x).decoder xs b n.2 p q)

after-long : (r : Decoder) (xs : List ℕ) → length r.info ≡ info_most → length (decoder_after r xs).info ≡ info_most
unfolding decoder_after
after-long r [] l = l
after-long r (x ∷ xs) l = after-long (taken_of r x).decoder xs (taken-long r l x)

module _ (d : Decoder) (b : ℕ) (w : Runs d) (xs : List ℕ) (l : Leads xs d) where
  -- where the octets lead, b does what it does at d
  same-there : (r : Decoder) → AtRest r → SameFrom d (decoder_after r xs) b
  same-there r a = parts-decide d (decoder_after r xs) b w.possible w.long (after-long r xs a.long) (sym (l.place r a)) (sym (l.parts r a))

  lead-more : drops d.head.place b ≡ false → outcome_of (taken_of d b) ≡ nothing → Leads (xs ++ (b ∷ [])) (taken_of d b).decoder
  lead-more n q =
      record {
        clean = λ r a. clean-more r xs b (l.clean r a) (rw (l.place r a) n) (sym (same-there r a).outcome ∙ q);
        place = λ r a. ap (λ (u : Decoder). u.head.place) (after_more r xs b) ∙ sym (same-there r a).place;
        parts = λ r a. ap parts_of (after_more r xs b) ∙ sym (same-there r a).parts;
      }

-- Calls one after another

-- `since` is noise, and then what is held; the number is the noise's
pub record Noise (since : List ℕ) (d : Decoder) (n : ℕ) : Type 0 where
  pub noise : List ℕ
  pub falls : since ≡ noise ++ held d
  pub leads : Leads (held d) d
  pub number : Stops (length noise) n
  pub runs : Runs d

pub noise-is : {since : List ℕ} {d : Decoder} {n : ℕ} → Noise since d n → NoiseIs since d n
noise-is {since} {d} {n} w = record { noise = w.noise; opened = held d; falls = w.falls; leads = w.leads; still = held-open d; number = w.number }

-- none is counted
noise-anew : (d : Decoder) → held d ≡ [] → begun d.head.place ≡ true → Runs d → Noise [] d 0
noise-anew d z v r = record { noise = []; falls = sym z; leads = lead-begun d v; number = record { within = λ _. refl; beyond = λ h. absurd (omega arith) }; runs = r }

pub noise-none : (d : Decoder) → AtRest d → Noise [] d 0
noise-none d a = let r = rest-runs d a in noise-anew d r.0 (rw a.idle) r.1

-- what an octet makes of it: it goes on, or a sound frame has ended
pub data Step (since : List ℕ) (d : Decoder) (n b : ℕ) : Type 0 where
  on : ((f : Frame) → outcome_of (taken_of d b) ≡ sound f → ⊥) → (counted_of d n b).told ≡ (counted_of d n b).kept
      → Noise (since ++ (b ∷ [])) (taken_of d b).decoder (counted_of d n b).kept → Step since d n b
  over : (f : Frame) (noise : List ℕ) → outcome_of (taken_of d b) ≡ sound f → since ++ (b ∷ []) ≡ noise ++ written f → Stops (length noise) (counted_of d n b).told
      → (counted_of d n b).kept ≡ 0 → Noise [] (taken_of d b).decoder 0 → Step since d n b

module _ {since : List ℕ} {d : Decoder} {n : ℕ} (w : Noise since d n) where
  module _ (b : ℕ) (o : b < 256) where
    abbrev p : List ℕ
    p = w.noise

    abbrev e : Decoder
    e = (taken_of d b).decoder

    since-more : {ys : List ℕ} → held d ++ (b ∷ []) ≡ ys → since ++ (b ∷ []) ≡ p ++ ys
    since-more {ys} q = ap (λ (u : List ℕ). u ++ (b ∷ [])) w.falls ∙ append_assoc p (held d) (b ∷ []) ∙ ap (λ (u : List ℕ). p ++ u) q

    -- what is held no longer is noise
    goes_on : (pre : List ℕ) → held d ++ (b ∷ []) ≡ pre ++ held e → Leads (held e) e → ((f : Frame) → outcome_of (taken_of d b) ≡ sound f → ⊥) → Step since d n b
    goes_on pre q v h =
        let c = (octet-counts d n b).counted h w.runs.possible in
        let l = lost-open d b o w.runs pre q in
        let m : (n + open_of d + 1) - open_of e ≡ n + length pre = omega arith in
        on h c.1 (record {
          noise = p ++ pre;
          falls = since-more q ∙ sym (append_assoc p pre (held e));
          leads = v;
          number = rw (length-append p pre) (stops-more (length pre) w.number (rw m at c.0));
          runs = runs_on d b o w.runs;
        })

    pub octet-step : Step since d n b
    octet-step = by (went d b o w.runs)
      where
        by : Went (held d) b (drops d.head.place b) (taken_of d b) → Step since d n b
        by (kept n₀ u q) = goes_on [] q (subst (λ (xs : List ℕ). Leads xs e) q (lead-more d b w.runs (held d) w.leads n₀ u)) (λ f h. nothing-sound (sym u ∙ h))
        by (dropped pre u v q z y) = goes_on pre q (lead-begun e y) (λ f h. nothing-sound (sym v ∙ h))
        by (refuse r k s a pre u q z v) = goes_on pre q (lead-begun e v) (λ f h. refused-sound (sym u ∙ h))
        by (ended f u q z v y) =
            let c = (octet-counts d n b).carried f u w.runs.possible in
            over f p u (since-more q) (rw c.0 w.number) c.1 (noise-anew e z y (runs_on d b o w.runs))

  -- a line-idle call: all is noise
  pub idle-step : Stops (length since) (idle_counted d n).kept × ((idle_counted d n).told ≡ (idle_counted d n).kept) × Noise since (idled_of d).decoder (idle_counted d n).kept
  unfolding possible_of held
  idle-step =
      let c = (idle-counts d n).counted w.runs.possible in
      let l : length since ≡ length w.noise + open_of d = omega (arith, ap length w.falls, length-append w.noise (held d), held-open d) in
      let s : Stops (length since) (idle_counted d n).kept = rw l (stops-more (open_of d) w.number c.0) in
      (s, c.1, rw (idled-done d w.runs.possible) (record { noise = since; falls = sym (append-nil since); leads = lead-begun (placed_at Idle d) refl; number = s; runs = record { possible = refl; long = w.runs.long } }))

counted-from : {since : List ℕ} {d : Decoder} {n : ℕ} → Noise since d n → (cs : List LineCall) → NoiseCounted since d n cs
counted-from {since} {d} {n} w [] = end (noise-is w)
counted-from {since} {d} {n} w (octet b o ∷ cs) = by (λ s e m v. counted-from {since = s} {d = e} {n = m} v cs) (octet-step w b o)
  where
    by : ((s : List ℕ) (e : Decoder) (m : ℕ) → Noise s e m → NoiseCounted s e m cs) → Step since d n b → NoiseCounted since d n (octet b o ∷ cs)
    by rest (on h q v) = goes {cs = cs} (noise-is w) h q (rw (counted-taken d n b) (rest _ _ _ v))
    by rest (over f z u q s k v) = frame {cs = cs} (noise-is w) f z u q s k (rw (counted-taken d n b, k) (rest _ _ _ v))
counted-from {since} {d} {n} w (line_idle ∷ cs) =
    let s = idle-step w in
    idle {cs = cs} (noise-is w) s.0 s.1
    (rw (idle-taken d n) (counted-from {since = since} {d = (idled_of d).decoder} {n = (idle_counted d n).kept} s.2 cs))

pub number-is-noise : NumberIsNoise
number-is-noise d cs a = counted-from (noise-none d a) cs
