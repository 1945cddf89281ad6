-- What 01 calls an octet, "high octet first", "exclusive or" and the code, stated from outside; and what the records mean by which
-- contracts speak.
use Rattle.std.specs.Prelude.{ℕ, ◌+◌, ◌*◌, ◌/◌, ◌%◌, ◌^◌, ◌≤◌, ◌<◌, min, ◌≡◌, Bool, true, false, List, [], ◌∷◌, ◌++◌, Result, Ok, Err, length, get_or, take, drop}
use Rattle.std.specs.Borrow.{Bor}
use Rattle.octets.specs.ExclusiveOr.{xor, exclusive_or}
use Rattle.octets.specs.Octet.{Octets}
use Rattle.octets.specs.First.{First}
use Rattle.octets.specs.Part.{code_len, PartOf, PartFrom}
use Rattle.octets.specs.Put.{Put}
use Rattle.octets.specs.Same.{same}
use Rattle.octets.specs.Word.{high_of, low_of, word_of}
use Rattle.octets.specs.declared.refusal.Refusal.{Refusal}
use Rattle.octets.specs.Refusals.{refusal_number}
use Rattle.octets.specs.Writing.{Writing, Written, WriterLeaves, written_of}

pub record EachOctet : Type 0 where
  -- an octet is a number below 256
  pub octets : (xs : List ℕ) → ((i : ℕ) → i < length xs → get_or xs i 0 < 256) → Octets xs
  pub below : (xs : List ℕ) → Octets xs → (i : ℕ) → i < length xs → get_or xs i 0 < 256
  -- "high octet first": a number of two octets is 256 times the high one and the low one
  pub word : (high low : ℕ) → word_of high low ≡ 256 * high + low
  pub parted : (x : ℕ) → 256 * high_of x + low_of x ≡ x
  pub low : (x : ℕ) → low_of x < 256
  -- "the exclusive or of all earlier octets": its bit n is 1 exactly where one of the two bits n is; and it goes on octet by octet
  pub bit : (a b n : ℕ) → xor a b / 2 ^ n % 2 ≡ (a / 2 ^ n + b / 2 ^ n) % 2
  pub start : (a : ℕ) → exclusive_or a [] ≡ a
  pub next : (a x : ℕ) (xs : List ℕ) → exclusive_or a (x ∷ xs) ≡ exclusive_or (xor a x) xs
  -- "the two of the code"
  pub code : code_len ≡ 2

abbrev pub OctetsAsSaid : Type 0
OctetsAsSaid = EachOctet

-- "A call writes only the octets that its result counts; the output beyond them stays.": octets are stored in a list from a place on
-- where they fit, and the place after them is given; where they do not, nothing is stored.
pub record PutSo (vs : List ℕ) (i : ℕ) (l : List ℕ) (r : ℕ) (l' : List ℕ) : Type 0 where
  pub fits : i + length vs ≤ length l → (r ≡ i + length vs) × (l' ≡ take i l ++ (vs ++ drop (i + length vs) l))
  pub short : length l < i + length vs → (r ≡ i) × (l' ≡ l)

-- r is the number, from 1, of the first of n places at which the test holds, and 0 where it holds at none
pub record FirstSo (test : ℕ → Bool) (n r : ℕ) : Type 0 where
  pub none : r ≡ 0 → (j : ℕ) → j < n → test j ≡ false
  pub some : (j : ℕ) → r ≡ j + 1 → (j < n) × (test j ≡ true)
  pub before : (j : ℕ) → j + 1 < r → test j ≡ false

pub record EachRelation : Type 0 where
  pub put : (vs : List ℕ) (i : ℕ) (l : List ℕ) (r : ℕ) (l' : List ℕ) → Put vs i l r l' → PutSo vs i l r l'
  -- a writer's call answers this and leaves that in the output
  pub writer : (w : Writing) (r : Written) (o : List ℕ) → WriterLeaves w r o → (r ≡ w.answer) × (o ≡ w.out)
  -- "gives back a part": it stands in the slice, from a place on, and holds what stands there
  pub part : (s r : Bor (List ℕ)) (a n : ℕ) → PartOf s a n r → (r.ref_ptr ≡ (s.ref_ptr.0, a + s.ref_ptr.1)) × (r.now ≡ take n (drop a s.now))
  pub rest : (s r : Bor (List ℕ)) (a : ℕ) → PartFrom s a r → (r.ref_ptr ≡ (s.ref_ptr.0, min a (length s.now) + s.ref_ptr.1)) × (r.now ≡ drop a s.now)
  -- "The search .. stops at the first that fails and yields its number."
  pub first : (test : ℕ → Bool) (n r : ℕ) → First test n r → FirstSo test n r
  -- octets pass as the same exactly when they are equal, in length and in every octet
  pub same : (xs ys : List ℕ) → (same xs ys ≡ true → xs ≡ ys) × (xs ≡ ys → same xs ys ≡ true)

abbrev pub RelationsAsSaid : Type 0
RelationsAsSaid = EachRelation

-- A writer's answer in 01's numbers: how many octets it stored, with nothing refused; or the refusal, with "nothing written"
pub record WritersAnswer : Type 0 where
  pub stored : (n : ℕ) → ((written_of (Ok n)).refusal ≡ 0) × ((written_of (Ok n)).count ≡ n)
  pub refused : (r : Refusal) → ((written_of (Err r)).refusal ≡ refusal_number r) × ((written_of (Err r)).count ≡ 0)
  -- and from the numbers the answer is known
  pub apart : (r s : Result ℕ Refusal) → written_of r ≡ written_of s → r ≡ s

abbrev pub WritersAnswerSo : Type 0
WritersAnswerSo = WritersAnswer
