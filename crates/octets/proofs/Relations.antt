-- What the records mean by which contracts speak: each is unfolded, and `sets` is what stands before, the octets, and what stands beyond.
use Prim.Native.Nat.{ℕ, ◌+◌}
use mathlib.Core.Path.{sym, ◌∙◌}
use mathlib.Core.Bool.{Bool}
use mathlib.Core.List.{List, append_assoc}
use native.Mathlib.Omega.{arith}
use borrow.Author.Tests.{le-leb, lt-leb}
use lib.ListN.{length}
use lib.Seq.{sets-eq}
use Rattle.octets.specs.First.{First}
use Rattle.octets.specs.Put.{Put}
use Rattle.octets.specs.Promises.{PutSo, FirstSo, RelationsAsSaid}
use Rattle.octets.proofs.Laws.{same-is, is_same}

put-so : (vs : List ℕ) (i : ℕ) (l : List ℕ) (r : ℕ) (l' : List ℕ) → Put vs i l r l' → PutSo vs i l r l'
put-so vs i l r l' p =
    record {
      fits = λ h. let t = le-leb (i + length vs) (length l) h in (p.place ∙ rw t, p.holds ∙ rw (t, sets-eq vs l i h, append_assoc));
      short = λ h. let t = lt-leb (i + length vs) (length l) h in (p.place ∙ rw t, p.holds ∙ rw t);
    }

first_so : (test : ℕ → Bool) (n r : ℕ) → First test n r → FirstSo test n r
first_so test n r f = record { none = f.none; some = λ j e. (omega (arith, e, f.within), f.here j (sym e)); before = f.before }

pub relations-as-said : RelationsAsSaid
relations-as-said =
    record {
      put = put-so;
      writer = λ w r o p. (p.answer, p.out);
      part = λ s r a n p. (p.place, p.octets);
      rest = λ s r a p. (p.place, p.octets);
      first = first_so;
      same = λ xs ys. (same-is xs ys, λ e. rw e (is_same ys));
    }
