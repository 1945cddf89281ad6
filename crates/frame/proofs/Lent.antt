-- The head and the octets lent make one decoder, and with the octets beyond it tells them both.
use Prim.Native.Nat.{ℕ, ◌+◌, ◌-◌, ◌≤◌, ◌<◌}
use mathlib.Core.Path.{◌≡◌, refl, sym, ap, ◌∙◌}
use mathlib.Core.Bool.{Bool, true, false, not}
use mathlib.Core.List.{List, ◌++◌}
use native.Mathlib.Omega.{arith}
use borrow.Author.Tests.{eq-eqb, ne_eqb, lt-ltb, eqb-false, ltb-true, not-true}
use lib.Dec.{eqb, ltb}
use lib.ListN.{length, take, drop, set, take-append-drop, length-take}
use lib.Seq.{length-take-le, take-set-lt, drop-set-lt}
use Rattle.octets.specs.Choice.{both}
use Rattle.octets.proofs.Laws.{pick-by, both_left, both_right, clash, parted}
use Rattle.frame.specs.declared.decoder.Head.{Head}
use Rattle.frame.specs.declared.decoder.Receiver.{Receiver}
use Rattle.octets.proofs.Refusals.{told-apart}
use Rattle.frame.specs.declared.decoder.Received.{Received}
use Rattle.frame.specs.Frame.{info_most, message_len}
use Rattle.frame.specs.declared.Kind.{Kind}
use Rattle.frame.specs.declared.decoder.Place.{Place}
use Rattle.frame.specs.declared.decoder.Place.TheVariants.{Idle, LoneAa, Seq, AddrHigh, AddrLow, LenHigh, LenLow, Info, InfoAa, CloseAa, CloseCc, Err, Cks}
use Rattle.frame.specs.declared.decoder.Found.TheVariants as found
use Rattle.frame.specs.declared.decoder.Stepped.{Stepped}
use Rattle.frame.specs.Decoder.{Decoder, Taken, head_of, possible_of, info_goes_on, head_at, step_of, step_at, taken_of, idled_of, joined_decoder}
use Rattle.frame.specs.Dropped.{waits, open_in, open_of, stopped, number_then, Counted, number_told, number_kept, counted_of, idle_counted, octet_lent, idle_lent, received_none, received_as, received_with, ReceivedLeaves}
use Rattle.frame.specs.Lent.{OctetsLent}
use Rattle.frame.specs.Promises.{GoesOn, InfoGoesOn}
use Rattle.frame.proofs.Laws.{idled-done, taken-done, keeps-room}
use Rattle.frame.proofs.Writing.{step-long}
use Rattle.frame.proofs.Counting.{open-on, number-stays, counted-kept, counted-other}

abbrev is_info : Place → Bool
is_info p = info_goes_on p 12 0 0

pub received-one-to-one : (r s : Received) (k l : List ℕ) → received_with r k ≡ received_with s l → drop info_most k ≡ drop info_most l → (r ≡ s) × (k ≡ l)
received-one-to-one r s k l e d = (
  (λ i. record {
    refusal = told-apart r.refusal s.refusal (λ j. (e j).taken.refusal) i;
    receiver = record { head = (e i).taken.decoder.head; dropped = (e i).kept };
    found = (e i).taken.found;
    dropped = (e i).told;
  }),
  parted info_most k l (λ i. (e i).taken.decoder.info) d,
)

pub take_short : (n : ℕ) (l : List ℕ) → length (take n l) ≤ length l
take_short n l = omega (arith, length-take n l)

-- A call leaves as many octets as it was lent

module _ (d : Decoder) (long : length d.info ≡ info_most) where
  pub taken-long : (b : ℕ) → length (taken_of d b).decoder.info ≡ info_most
  unfolding taken_of
  taken-long b = pick-by (λ (t : Taken). length t.decoder.info ≡ info_most) (possible_of d.head) (λ _. step-long d b long) (λ _. long)

  pub idled-long : length (idled_of d).decoder.info ≡ info_most
  unfolding idled_of
  idled-long = pick-by (λ (t : Taken). length t.decoder.info ≡ info_most) (possible_of d.head) (λ _. long) (λ _. long)

-- are there enough?
pub enough : (h : Head) (kept : List ℕ) → info_most ≤ length kept → eqb (length (joined_decoder h kept).info) info_most ≡ true
enough h kept l = eq-eqb (length (take info_most kept)) info_most (length-take-le info_most kept l)

pub short : (h : Head) (kept : List ℕ) → length kept < info_most → eqb (length (joined_decoder h kept).info) info_most ≡ false
short h kept l = ne_eqb (length (take info_most kept)) info_most (λ e. absurd (omega (arith, take_short info_most kept)))

pub octets-lent : OctetsLent
unfolding octet_lent idle_lent
octets-lent = (
  λ h kept. record {
    joined = refl;
    received = λ r. refl;
    octet_short = λ n b l. rw (short h kept l);
    octet_enough = λ n b l. rw (enough h kept l);
    idle_short = λ n l. rw (short h kept l);
    idle_enough = λ n l. rw (enough h kept l);
  },
  λ w lent r k t. record {
    refusal = ap (λ (x : Counted). x.taken.refusal) t.answer;
    head = ap (λ (x : Counted). x.taken.decoder.head) t.answer;
    found = ap (λ (x : Counted). x.taken.found) t.answer;
    told = ap (λ (x : Counted). x.told) t.answer;
    kept = ap (λ (x : Counted). x.kept) t.answer;
    octets = sym (take-append-drop info_most k) ∙ (λ i. (t.answer i).taken.decoder.info ++ t.beyond i);
  },
)

-- What the code does, it did

module _ (r : Receiver) (kept : List ℕ) where
  abbrev h : Head
  h = r.head

  abbrev d : Decoder
  d = joined_decoder r.head kept

  pub idle-short : length kept < info_most → received_with (received_none r) kept ≡ idle_lent d r.dropped
  unfolding idle_lent
  idle-short l = rw (short h kept l)

  pub idle-7 : info_most ≤ length kept → possible_of h ≡ false → received_with (received_none r) kept ≡ idle_lent d r.dropped
  unfolding idle_lent idle_counted
  idle-7 l p = rw (enough h kept l, p)

  pub idle-done : info_most ≤ length kept → possible_of h ≡ true → {m : ℕ} → m ≡ stopped (r.dropped + open_in h (take info_most kept))
      → received_with (received_as (head_at h Idle h.kind) m found.Nothing m) kept ≡ idle_lent d r.dropped
  unfolding idle_lent idle_counted open_of
  idle-done l p e = rw (enough h kept l, p, idled-done d p, e)

  module _ (b : ℕ) where
    pub leaves-short : length kept < info_most → ReceivedLeaves (octet_lent d r.dropped b) kept (received_none r) kept
    unfolding octet_lent
    leaves-short l = record { answer = rw (short h kept l); beyond = refl }

    pub leaves-7 : info_most ≤ length kept → possible_of h ≡ false → ReceivedLeaves (octet_lent d r.dropped b) kept (received_none r) kept
    unfolding octet_lent counted_of
    leaves-7 l p = record { answer = rw (enough h kept l, p); beyond = refl }

    module _ {t : Stepped} (l : info_most ≤ length kept) (p : possible_of h ≡ true) (e : t ≡ step_at h.place h (take info_most kept) b) where
      pub leaves_kept : b < 256 → r.dropped < 65536 → t.keeps ≡ true
          → ReceivedLeaves (octet_lent d r.dropped b) kept (received_as t.head r.dropped t.found r.dropped) (set kept h.filled b)
      unfolding octet_lent
      leaves_kept o m q =
          let s = keeps-room h (take info_most kept) b p (sym (ap (λ (u : Stepped). u.keeps) e) ∙ q) in
          record {
            answer = rw (enough h kept l, take-set-lt info_most kept h.filled b s) (sym (counted-kept d r.dropped b o (length-take-le info_most kept l) p e m q));
            beyond = drop-set-lt info_most kept h.filled b s;
          }

      pub leaves-other : b < 256 → t.keeps ≡ false → {m : ℕ} → m ≡ stopped ((r.dropped + open_in h (take info_most kept) + 1) - open_in t.head (take info_most kept))
          → ReceivedLeaves (octet_lent d r.dropped b) kept (received_as t.head (number_kept t.found m) t.found (number_told t.found r.dropped m)) kept
      unfolding octet_lent
      leaves-other o q z = record { answer = rw (enough h kept l, z) (sym (counted-other d r.dropped b o (length-take-le info_most kept l) p e q)); beyond = refl }

-- An octet of INFO behind which others come

pub info-goes-on : InfoGoesOn
unfolding step_of
info-goes-on d b =
    let h = d.head in
    by h.place h.kind h.seq h.err h.addr h.len h.filled d.info
  where
    nowhere : {p : Place} {k : Kind} {s e a n g : ℕ} {i : List ℕ} → (p ≡ Info → ⊥) → info_goes_on p n g b ≡ false → GoesOn (record { head = head_of p k s e a n g; info = i }) b
    nowhere m f = record { said = λ e. absurd (m e); said_only = λ t. absurd (clash f t); kept = λ _ t. absurd (clash f t) }

    by : (p : Place) (k : Kind) (s e a n g : ℕ) (i : List ℕ) → GoesOn (record { head = head_of p k s e a n g; info = i }) b
    by Info k s e a n g i =
        let more : Bool = ltb (message_len + (g + 1)) n in
        let no-aa : both (not (eqb b 0xAA)) more ≡ true → eqb b 0xAA ≡ false = λ t. not-true (eqb b 0xAA) (both_left (not (eqb b 0xAA)) more t) in
        let follow : both (not (eqb b 0xAA)) more ≡ true → more ≡ true = both_right (not (eqb b 0xAA)) more in
        record {
          said = λ _ m l. rw (ne_eqb b 0xAA m, lt-ltb (message_len + (g + 1)) n l);
          said_only = λ t. (refl, eqb-false b 0xAA (no-aa t), ltb-true (message_len + (g + 1)) n (follow t));
          kept = λ p t. taken-done (record { head = head_of Info k s e a n g; info = i }) b p ∙ rw (no-aa t, follow t);
        }
    by Idle k s e a n g i = nowhere (λ q. absurd (clash refl (ap is_info q))) refl
    by LoneAa k s e a n g i = nowhere (λ q. absurd (clash refl (ap is_info q))) refl
    by Seq k s e a n g i = nowhere (λ q. absurd (clash refl (ap is_info q))) refl
    by AddrHigh k s e a n g i = nowhere (λ q. absurd (clash refl (ap is_info q))) refl
    by AddrLow k s e a n g i = nowhere (λ q. absurd (clash refl (ap is_info q))) refl
    by LenHigh k s e a n g i = nowhere (λ q. absurd (clash refl (ap is_info q))) refl
    by LenLow k s e a n g i = nowhere (λ q. absurd (clash refl (ap is_info q))) refl
    by InfoAa k s e a n g i = nowhere (λ q. absurd (clash refl (ap is_info q))) refl
    by CloseAa k s e a n g i = nowhere (λ q. absurd (clash refl (ap is_info q))) refl
    by CloseCc k s e a n g i = nowhere (λ q. absurd (clash refl (ap is_info q))) refl
    by Err k s e a n g i = nowhere (λ q. absurd (clash refl (ap is_info q))) refl
    by Cks k s e a n g i = nowhere (λ q. absurd (clash refl (ap is_info q))) refl

-- it leaves the number
pub counted-goes : (d : Decoder) (n b : ℕ) → b < 256 → n < 65536 → length d.info ≡ info_most → possible_of d.head ≡ true → info_goes_on d.head.place d.head.len d.head.filled b ≡ true
    → counted_of d n b ≡ record { taken = taken_of d b; told = n; kept = n }
unfolding counted_of number_then
counted-goes d n b o l long p g =
    let w = info-goes-on d b in
    let e = w.kept p g in
    let f : (taken_of d b).found ≡ found.Nothing = rw e in
    let i : waits (taken_of d b).decoder.head.place ≡ false = rw (e, (w.said_only g).0) in
    let m : number_then n d (taken_of d b).decoder ≡ n = number-stays n (open_of d) l (open-on d b o (record { possible = p; long = long }) f i) in
    rw (p, m, f)
