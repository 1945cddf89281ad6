-- The writer refuses when, and only when, 01 says so.
use Prim.Native.Nat.{ℕ, ◌+◌, ◌≤◌, ◌<◌}
use mathlib.Core.Path.{◌≡◌, refl, sym, ◌∙◌}
use mathlib.Core.Bool.{Bool, true, false, not-eq-not}
use mathlib.Core.List.{List, ◌++◌, append_assoc}
use native.Mathlib.Decide.{dec_lt}
use native.Mathlib.Omega.{arith}
use borrow.Author.Tests.{lt-leb, le-leb, eq-eqb, eqb-true}
use lib.Dec.{eqb}
use lib.ListN.{length, take, drop}
use lib.Seq.{sets-eq}
use Rattle.octets.specs.Writing.{Writing, written_as}
use Rattle.octets.proofs.Laws.{both_left, both_right, clash, written-9}
use Rattle.message.specs.declared.Message.{Message}
use Rattle.message.specs.declared.layout.Field.{Field}
use Rattle.message.specs.Layouts.{layout_at, known, rows_at, k_fits}
use Rattle.message.specs.Values.{fields_most, first_out}
use Rattle.message.specs.Writer.{number_in, k_of_message, writable_as, writable, info_of, write_message}
use Rattle.message.specs.Promises.{Writable, MessageWriteJudged, field_wrong, output_short, written, MessagesWrittenSo}
use Rattle.message.proofs.Layouts.{rows-most}
use Rattle.message.proofs.Writing.{write-no, write-yes}
use Rattle.message.proofs.Ranges.{both_true, both-le, le-both, none_out, all_right, past-zero}
use Rattle.message.proofs.ReadSo.{known_in, in-known}

module _ (m : Message) where
  abbrev pub l : ℕ
  l = number_in m

  abbrev pub k : ℕ
  k = k_of_message m

  abbrev pub fs : List Field
  fs = rows_at l k

  pub in-writable : Writable m → writable m ≡ true
  unfolding writable_as
  in-writable w =
      let h : length fs ≤ fields_most = rows-most l k w.most in
      let e = none_out fs m.values h (λ j p q. w.rest j (omega (arith, w.fields)) q) (λ j p. w.ranges j (omega (arith, w.fields))) in
      both_true (in-known l w.listed)
      (both_true (le-both (layout_at l).fewest k k (layout_at l).most (w.fewest, w.most))
      (both_true (eq-eqb m.fields (length fs) w.fields) (eq-eqb (first_out fs m.values) 0 e)))

  pub writable-in : writable m ≡ true → Writable m
  unfolding writable_as
  writable-in h =
      let a = both_right (known l) _ h in
      let f = both-le (layout_at l).fewest k k (layout_at l).most (both_left (k_fits (layout_at l) k) _ a) in
      let b = both_right (k_fits (layout_at l) k) _ a in
      let n = eqb-true m.fields (length fs) (both_left (eqb m.fields (length fs)) _ b) in
      let z = eqb-true (first_out fs m.values) 0 (both_right (eqb m.fields (length fs)) _ b) in
      record {
        listed = known_in l (both_left (known l) _ h);
        fewest = f.0;
        most = f.1;
        fields = n;
        ranges = λ j p. all_right fs m.values z j (omega (arith, rows-most l k f.1));
        rest = λ j p q. past-zero fs m.values z j (omega (arith, n)) q;
      }

module _ (m : Message) (at : ℕ) (out : List ℕ) where
  abbrev vs : List ℕ
  vs = info_of m

  stored-as : at + length vs ≤ length out
      → record { answer = record { refusal = 0; count = length vs }; out = take at out ++ (vs ++ drop (at + length vs) out) } ≡ written_as vs at out
  unfolding written_as
  stored-as h = rw (le-leb (at + length vs) (length out) h, sets-eq vs out at h, append_assoc)

  when : {w : Writing} → MessageWriteJudged m at out w → w ≡ write_message m at out
  when (field_wrong n) = write-no m at out ((not-eq-not {a = writable m} {b = false}).0 (λ e. n (writable-in m e)))
  when (output_short w h) = sym (written-9 vs out at refl (lt-leb (at + length vs) (length out) h)) ∙ write-yes m at out (in-writable m w)
  when (written w h) = stored-as h ∙ write-yes m at out (in-writable m w)

  then' : MessageWriteJudged m at out (write_message m at out)
  then' = by (writable m) refl (dec_lt (length out) (at + length vs))
    where
      by : (b : Bool) → writable m ≡ b → Dec (length out < at + length vs) → MessageWriteJudged m at out (write_message m at out)
      by false e d = rw (← write-no m at out e) (field_wrong (λ w. clash e (in-writable m w)))
      by true e (yes h) = rw (← (sym (written-9 vs out at refl (lt-leb (at + length vs) (length out) h)) ∙ write-yes m at out e)) (output_short (writable-in m e) h)
      by true e (no g) = let h : at + length vs ≤ length out = omega arith in rw (← (stored-as h ∙ write-yes m at out e)) (written (writable-in m e) h)

pub written-so : MessagesWrittenSo
written-so m at out w = (when m at out, λ e. rw e (then' m at out))
