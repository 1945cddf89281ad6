-- What follows from the writer's definitions: one law for each way through, and one for a turn of its loop.
use Prim.Native.Nat.{ℕ, ◌+◌, ◌≤◌, ◌<◌}
use mathlib.Core.Path.{◌≡◌, refl, sym, ◌∙◌}
use mathlib.Core.Bool.{Bool, true, false}
use mathlib.Core.List.{List, [], ◌∷◌, ◌++◌}
use native.Mathlib.Nat.{add-zero}
use native.Mathlib.Numerals.{add-one}
use native.Mathlib.Omega.{arith}
use lib.ListN.{length, get_or, drop, length-append}
use lib.Seq.{sets, drop-cons, drop-drop, get_or-drop}
use Rattle.octets.specs.Put.{Stored}
use Rattle.octets.specs.Part.{code_len}
use Rattle.octets.specs.Refusal as refusal
use Rattle.octets.specs.Writing.{WriterLeaves, nothing_written, written_as}
use Rattle.octets.specs.Writing.{Written}
use Rattle.octets.proofs.Laws.{both_left, both_right, sets-append}
use Rattle.message.specs.declared.Message.{Message}
use Rattle.message.specs.declared.layout.Field.{Field}
use Rattle.message.specs.Fields.{two_of, width_of, field_octets, no_field}
use Rattle.message.specs.Layouts.{layout_at, known, number_of, rows_at, most_at, k_fits}
use Rattle.message.specs.Values.{size_of, octets_of, numbered}
use Rattle.message.specs.Writer.{writable_as, writable, info_as, info_of, write_message}
use Rattle.message.proofs.Reading.{most-fits}

-- The octets of a field

pub field-len : (t : Bool) (v : ℕ) → length (field_octets t v) ≡ width_of t
field-len false v = refl
field-len true v = refl

pub length-octets : (fs : List Field) (vs : List ℕ) → length (octets_of fs vs) ≡ size_of fs
length-octets [] vs = refl
length-octets (f ∷ fs) vs =
    omega (arith, length-append (field_octets (two_of f) (get_or vs 0 0)) (octets_of fs (drop 1 vs)), field-len (two_of f) (get_or vs 0 0), length-octets fs (drop 1 vs))

-- a turn of the writer: the field at i is stored where the octets before it end
module _ (fs : List Field) (vs : List ℕ) (i : ℕ) (h : i < length fs) where
  octets-next : octets_of (drop i fs) (drop i vs) ≡ field_octets (two_of (get_or fs i no_field)) (get_or vs i 0) ++ octets_of (drop (i + 1) fs) (drop (i + 1) vs)
  octets-next = rw (drop-cons fs i no_field h, get_or-drop, drop-drop, add-zero, add-one)

  pub stored_next : {out out' : List ℕ} {p r : ℕ} {t : Bool} → t ≡ two_of (get_or fs i no_field) → Stored (field_octets t (get_or vs i 0)) p out r out'
      → sets out' r (octets_of (drop (i + 1) fs) (drop (i + 1) vs)) ≡ sets out p (octets_of (drop i fs) (drop i vs))
  stored_next {out} {p = p} {t = t} et s =
      rw (octets-next, ← et, s.holds, s.place) (sym (sets-append (field_octets t (get_or vs i 0)) (octets_of (drop (i + 1) fs) (drop (i + 1) vs)) out p))

pub info-len : (c : ℕ) (fs : List Field) (vs : List ℕ) → length (info_as c fs vs) ≡ code_len + size_of fs
unfolding info_as
info-len c fs vs = omega (arith, length-octets fs vs)

-- The calls

module _ (m : Message) (at : ℕ) (out : List ℕ) where
  pub write-no : writable m ≡ false → nothing_written refusal.field_wrong out ≡ write_message m at out
  unfolding write_message
  write-no h = rw h

  pub write-yes : writable m ≡ true → written_as (info_of m) at out ≡ write_message m at out
  unfolding write_message
  write-yes h = rw h

  -- what the code has found of the message: its layout, its count, and whether it is writable
  module _ {l k : ℕ} {t : Bool} (el : l ≡ number_of m.code) (ek : k ≡ numbered m.values (layout_at l).count) (et : t ≡ writable_as l k m.fields m.values) where
    tested : t ≡ writable m
    tested = et ∙ rw (ek, el)

    pub write-5 : t ≡ false → WriterLeaves (write_message m at out) (record { refusal = refusal.field_wrong; count = 0 }) out
    write-5 h = rw (← write-no (sym tested ∙ h)) (record { answer = refl; out = refl })

    pub write-on : t ≡ true → {r : Written} {out' : List ℕ} → WriterLeaves (written_as (info_as m.code (rows_at l k) m.values) at out) r out'
        → WriterLeaves (write_message m at out) r out'
    write-on h w = rw (← write-yes (sym tested ∙ h)) (rw (ek, el) at w)

module _ (l k n : ℕ) (vs : List ℕ) (h : writable_as l k n vs ≡ true) where
  pub writable-fits : k_fits (layout_at l) k ≡ true
  unfolding writable_as
  writable-fits = both_left (k_fits (layout_at l) k) _ (both_right (known l) _ h)

  pub writable-most : k ≤ most_at l
  writable-most = most-fits l k writable-fits
