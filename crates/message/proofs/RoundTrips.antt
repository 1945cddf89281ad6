-- Reading undoes writing, and writing undoes reading, for every layout at once.
use Prim.Native.Nat.{ℕ, ◌+◌}
use mathlib.Core.Path.{◌≡◌, refl, sym, ap, subst, ◌∙◌}
use mathlib.Core.List.{List, [], ◌∷◌, ◌++◌}
use native.Mathlib.Omega.{arith}
use lib.ListN.{length, take, drop}
use lib.Seq.{length-take-le, take_at, drop_at}
use Rattle.octets.specs.Octet.{Octets}
use Rattle.octets.specs.Writing.{Writing}
use Rattle.octets.proofs.Laws.{word_back, high_word, low_word}
use Rattle.message.specs.declared.Message.{Message}
use Rattle.message.specs.Layouts.{number_of}
use Rattle.message.specs.Values.{fields_most, values_of, octets_of, placed}
use Rattle.message.specs.Reader.{part_of, read_of}
use Rattle.message.specs.Writer.{info_as, info_of, write_message}
use Rattle.message.specs.Promises.{message_read, PartJudged, accepted, Writable, MessageWriteJudged, field_wrong, output_short, written, ReadingMessagesUndoesWriting, WritingMessagesUndoesReading}
use Rattle.message.proofs.Fitting.{right-fits, values-back, placed-back, octets-back, octets-same}
use Rattle.message.proofs.Layouts.{rows-most}
use Rattle.message.proofs.Ranges.{placed_at, right-same}
use Rattle.message.proofs.ReadSo.{parts-read-so}
use Rattle.message.proofs.Reading.{k-placed, read-body}
use Rattle.message.proofs.Writing.{length-octets}
use Rattle.message.proofs.WrittenSo.{l, k, fs, written-so}
use Rattle.message.proofs.Accepted.{Accepted, accepted-in, code-found, is-part, code_is, rows_is, again, read_rows, read_values, read_part}

-- Reading undoes writing

module _ (m : Message) (long : length m.values ≡ fields_most) (w : Writable m) where
  abbrev os : List ℕ
  os = octets_of (fs m) m.values

  all : placed (values_of (fs m) os) ≡ m.values
  all =
      let most = rows-most (l m) (k m) w.most in
      let fits = right-fits (l m) (k m) m.values (λ j h. w.ranges j (omega (arith, w.fields))) in
      rw (values-back (fs m) m.values (omega (arith, long, most)) fits)
      (placed-back (length (fs m)) m.values long most (λ j h p. w.rest j (omega (arith, w.fields)) p))

  part : part_of (l m) (k m) os ≡ m
  unfolding part_of
  part = λ i. record { code = code-found m.code w.listed.first i; fields = sym w.fields i; values = all i }

  read : PartJudged (l m) (k m) os (message_read m)
  read =
      subst (λ (p : Message). PartJudged (l m) (k m) os (message_read p)) part
      (accepted w.listed (record { fewest = w.fewest; most = w.most; octets = length-octets (fs m) m.values })
      (λ j h. right-same (fs m) m.values (values_of (fs m) os) (λ i. rw all at (placed_at (values_of (fs m) os) i)) j (w.ranges j (omega (arith, w.fields)))))

  pub read-info : read_of (info_of m) ≡ message_read m
  unfolding info_as
  read-info =
      sym ((parts-read-so (l m) (k m) os (message_read m)).0 read
      ∙ read-body (info_of m) (omega arith) (ap number_of (sym (word_back m.code))) refl (rw all at (k-placed (l m) (k m) os)))

pub reading-undoes-writing : ReadingMessagesUndoesWriting
reading-undoes-writing m at out long e = back ((written-so m at out (write_message m at out)).1 refl) e
  where
    back : {v : Writing} → MessageWriteJudged m at out v → v.answer.refusal ≡ 0 → read_of (take v.answer.count (drop at v.out)) ≡ message_read m
    back (field_wrong n) e = absurd (omega arith)
    back (output_short w h) e = absurd (omega arith)
    back (written w h) e =
        let vs = info_of m in
        rw (drop_at (take at out) (vs ++ drop (at + length vs) out) at (length-take-le at out (omega arith)), take_at vs (drop (at + length vs) out) (length vs) refl)
        (read-info m long w)

-- Writing undoes reading

info-back : (info : List ℕ) → Octets info → (h : Accepted info (read_of info)) → info_of (read_part info h) ≡ info
unfolding info_as part_of
info-back [] o h = absurd (omega (arith, h.long))
info-back (a ∷ []) o h = absurd (omega (arith, h.long))
info-back (a ∷ b ∷ os) o h =
    let i = a ∷ b ∷ os in
    let vs = read_values i h in
    rw (rows_is i h, code_is i h, high_word a b o.1.0, low_word a b o.1.0, octets-same (read_rows i h) (placed vs) vs (placed_at vs))
    (rw (octets-back (read_rows i h) os h.right.octets o.1.1))

pub writing-undoes-reading : WritingMessagesUndoesReading
writing-undoes-reading info at out o e r =
    let h = accepted-in info e in
    let back = info-back info o h in
    rw (is-part info h) (sym (rw back at ((written-so (read_part info h) at out _).0 (written (again info h) (rw back r)))))
