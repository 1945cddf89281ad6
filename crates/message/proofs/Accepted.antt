-- What is not refused is a message, with the layout and the count that it was read by.
use Prim.Native.Nat.{ℕ, ◌+◌, ◌-◌, ◌≤◌, ◌<◌}
use mathlib.Core.Path.{◌≡◌, refl, sym, ap, ◌∙◌}
use mathlib.Core.List.{List}
use native.Mathlib.Omega.{arith}
use borrow.Author.Tests.{eqb-true}
use lib.Dec.{eqb}
use lib.ListN.{length, get_or-eq_default}
use Rattle.octets.specs.Part.{code_len}
use Rattle.octets.specs.Refusal as refusal
use Rattle.octets.proofs.Search.{search-first}
use Rattle.message.specs.declared.Message.{Message}
use Rattle.message.specs.Reader.{Read}
use Rattle.message.specs.declared.layout.Field.{Field}
use Rattle.message.specs.Layouts.{layout_at, codes, number_of, rows_at}
use Rattle.message.specs.Values.{values_of, placed}
use Rattle.message.specs.Reader.{read_as, k_in, part_of, code_in, body_in, read_of}
use Rattle.message.specs.Writer.{number_in, k_of_message}
use Rattle.message.specs.Promises.{accepted, Writable, RightAt, HasLayout, RightLength, unknown, wrong_length, out_of_range, Judged, short, body}
use Rattle.message.proofs.Ranges.{placed_at, right-same}
use Rattle.message.proofs.Reading.{k-placed}
use Rattle.message.proofs.Values.{length-values}
use Rattle.message.proofs.ReadSo.{read-so}

pub record Accepted (info : List ℕ) (r : Read) : Type 0 where
  pub known : HasLayout (number_of (code_in info))
  pub long : code_len ≤ length info
  pub right : RightLength (number_of (code_in info)) (k_in (layout_at (number_of (code_in info))) (body_in info)) (body_in info)
  pub ranges : (let l = number_of (code_in info) in
      let fs = rows_at l (k_in (layout_at l) (body_in info)) in
      (j : ℕ) → j < length fs → RightAt fs (values_of fs (body_in info)) j)
  pub read : r ≡ read_as (part_of (number_of (code_in info)) (k_in (layout_at (number_of (code_in info))) (body_in info)) (body_in info))

accepted-as : {info : List ℕ} {r : Read} → Judged info r → r.refusal ≡ refusal.none → Accepted info r
accepted-as (short h) e = absurd (omega arith)
accepted-as (body h (unknown n)) e = absurd (omega arith)
accepted-as (body h (wrong_length kn n)) e = absurd (omega arith)
accepted-as (body h (out_of_range n kn r w)) e = absurd (omega arith)
accepted-as (body h (accepted kn r a)) e = record { known = kn; long = h; right = r; ranges = a; read = refl }

pub accepted-in : (info : List ℕ) → (read_of info).refusal ≡ refusal.none → Accepted info (read_of info)
accepted-in info e = accepted-as ((read-so info (read_of info)).1 refl) e

-- the layout found for a code has that code
pub code-found : (c : ℕ) → 1 ≤ number_of c → (layout_at (number_of c)).code ≡ c
unfolding number_of
code-found c h =
    let e : number_of c - 1 + 1 ≡ number_of c = omega arith in
    rw e at (eqb-true (layout_at (number_of c - 1 + 1)).code c ((search-first (λ j. eqb (layout_at (j + 1)).code c) codes).here (number_of c - 1) e))

-- the message that was read has the layout and the count that it was read by
module _ (info : List ℕ) (h : Accepted info (read_of info)) where
  abbrev number : ℕ
  number = number_of (code_in info)

  abbrev count : ℕ
  count = k_in (layout_at number) (body_in info)

  abbrev pub read_rows : List Field
  read_rows = rows_at number count

  abbrev pub read_values : List ℕ
  read_values = values_of read_rows (body_in info)

  abbrev pub read_part : Message
  read_part = part_of number count (body_in info)

  pub is-part : (read_of info).message ≡ read_part
  is-part = ap (λ (r : Read). r.message) h.read

  pub code_is : read_part.code ≡ code_in info
  unfolding part_of
  code_is = code-found (code_in info) h.known.first

  number_is : number_in read_part ≡ number
  number_is = ap number_of code_is

  k-is : k_of_message read_part ≡ count
  unfolding part_of
  k-is = rw number_is (k-placed number count (body_in info))

  pub rows_is : rows_at (number_in read_part) (k_of_message read_part) ≡ read_rows
  rows_is = rw (k-is, number_is)

  pub again : Writable read_part
  unfolding part_of
  again =
      record {
        listed = rw number_is h.known;
        fewest = rw (k-is, number_is) h.right.fewest;
        most = rw (k-is, number_is) h.right.most;
        fields = rw rows_is;
        ranges = λ j l. rw rows_is (right-same read_rows read_values (placed read_values) (λ i. sym (placed_at read_values i)) j (h.ranges j l));
        rest = λ j l m. placed_at read_values j ∙ get_or-eq_default read_values 0 (rw length-values l);
      }
