-- What the octets, LEN and CKS of a frame as written are: by its definition; and the writers refuse when, and only when, 01 says so.
use Prim.Native.Nat.{ℕ, ◌+◌, ◌-◌}
use mathlib.Core.Path.{◌≡◌, refl, sym, ap, ◌∙◌}
use mathlib.Core.List.{List, [], ◌∷◌, ◌++◌, append_assoc}
use native.Mathlib.Omega.{arith}
use borrow.Author.Tests.{ne_eqb, leb-true, leb-false, le-leb, lt-leb}
use lib.Dec.{leb}
use lib.ListN.{length, get_or, length-append}
use lib.Seq.{get_or-append_seam, sets-eq}
use Rattle.octets.specs.ExclusiveOr.{xor, exclusive_or}
use Rattle.octets.specs.Writing.{Writing, written_as}
use Rattle.octets.proofs.Laws.{pick-by, clash, exclusive-or-closed, word_back}
use Rattle.frame.specs.Frame.{Frame, message, ack, nak, info_fits, front_of, body_of, sent_of, cks_of, twice, doubled, undoubled, written}
use Rattle.frame.specs.Writer.{write_frame}
use Rattle.frame.specs.Promises.{FramesAsSaid, FrameNumbersAsSaid, LenCounts, CksCovers, FrameWriteJudged, info_wrong, output_short, stored, FramesWrittenSo, RefusalsForetold}
use Rattle.frame.proofs.Fitting.{fits_in, in-fits, not_in}
use Rattle.frame.proofs.Reading.{whole}

pub frames-as-said : FramesAsSaid
unfolding written undoubled front_of body_of sent_of cks_of doubled twice exclusive_or xor
frames-as-said =
    record {
      aa_twice = λ xs. refl;
      other_once = λ x xs h. rw (ne_eqb x 0xAA h);
      no_info = refl;
      xor_more = λ c x xs. refl;
      xor_none = λ c. refl;
      message_sent = λ s a i. simp append_assoc;
      message_before = λ s a i. simp append_assoc;
      message_cks = λ s a i. refl;
      ack_sent = λ s a. refl;
      ack_before = λ s a. refl;
      ack_cks = λ s a. refl;
      nak_sent = λ s a e. refl;
      nak_before = λ s a e. refl;
      nak_cks = λ s a e. refl;
    }

pub frame-numbers-as-said : FrameNumbersAsSaid
frame-numbers-as-said = (refl, refl, refl, refl, refl, refl, refl, refl)

pub len-counts : LenCounts
unfolding written undoubled front_of body_of
len-counts (message s a i) = record { counts = simp length-append (omega arith); stands = word_back (10 + length i); named = refl }
len-counts (ack s a) = record { counts = refl; stands = refl; named = refl }
len-counts (nak s a e) = record { counts = refl; stands = refl; named = refl }

last_of : (xs : List ℕ) (x : ℕ) → get_or (xs ++ (x ∷ [])) (length (xs ++ (x ∷ [])) - 1) 0 ≡ x
last_of xs x =
    let n : length (xs ++ (x ∷ [])) - 1 ≡ length xs = omega (arith, length-append xs (x ∷ [])) in
    rw n (get_or-append_seam xs x [] 0)

pub cks-covers : CksCovers
unfolding undoubled cks_of
cks-covers f = (rw (← append_assoc (front_of f) (body_of f) (cks_of f ∷ [])) (exclusive-or-closed (front_of f ++ body_of f)), rw (whole f) (last_of (front_of f ++ sent_of f) (cks_of f)))

module _ (f : Frame) (at : ℕ) (out : List ℕ) where
  abbrev vs : List ℕ
  vs = written f

  when : {w : Writing} → FrameWriteJudged f at out w → w ≡ write_frame f at out
  unfolding write_frame written_as
  when (info_wrong n) = rw (not_in f n)
  when (output_short p h) = rw (in-fits f p, lt-leb (at + length vs) (length out) h)
  when (stored p h) = rw (in-fits f p, le-leb (at + length vs) (length out) h, sets-eq vs out at h, append_assoc)

  then' : FrameWriteJudged f at out (write_frame f at out)
  unfolding write_frame written_as
  then' =
      pick-by (FrameWriteJudged f at out) (info_fits f)
      (λ t. pick-by (FrameWriteJudged f at out) (leb (at + length vs) (length out))
      (λ r. let h = leb-true (at + length vs) (length out) r in rw (sets-eq vs out at h, append_assoc) (stored (fits_in f t) h))
      (λ r. output_short (fits_in f t) (leb-false (at + length vs) (length out) r)))
      (λ t. info_wrong (λ p. clash t (in-fits f p)))

pub written-so : FramesWrittenSo
written-so f at out w = (when f at out, λ e. rw e (then' f at out))

pub refusals-foretold : RefusalsForetold
refusals-foretold info at out n h seq addr =
    record { info_wrong = λ g. as_written (info_wrong g); output_short = λ i l. as_written (output_short i l); none = λ i l. as_written (stored i l) }
  where
    as_written : {w : Writing} → FrameWriteJudged (message seq addr info) at out w → n ≡ w.answer.refusal
    as_written {w} j = h seq addr ∙ ap (λ (x : Writing). x.answer.refusal) (sym ((written-so (message seq addr info) at out w).0 j))
