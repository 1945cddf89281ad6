-- One law of fields: what the reader finds at a field's place is in its range exactly when the octets that stand there are.
use Prim.Native.Nat.{ℕ, zero, suc, ◌+◌, ◌*◌, ◌≤◌, ◌<◌}
use mathlib.Core.Path.{◌≡◌, refl, sym, ap, ◌∙◌}
use mathlib.Core.Logic.Iff
use mathlib.Core.Logic.{◌↔◌}
use mathlib.Core.List.{List, [], ◌∷◌, ◌++◌, append_assoc}
use native.Mathlib.Nat.{add-zero, add_assoc, mul-zero, mul-suc}
use native.Mathlib.Omega.{arith}
use lib.ListN.{length, drop}
use lib.Seq.{get_or-drop}
use Rattle.octets.specs.Refusal as refusal
use Rattle.diagram.specs.Table.{phases_of}
use Rattle.message.specs.Reader.{Read}
use Rattle.message.specs.declared.layout.Field.{Field}
use Rattle.message.specs.declared.layout.Field.TheVariants.{Octet, Two, Order}
use Rattle.message.specs.Fields.{two_of, width_of, value_of}
use Rattle.message.specs.Layouts.{layout_at, rows_at, repeated, times}
use Rattle.message.specs.Values.{size_of, values_of}
use Rattle.message.specs.Reader.{not_read, read_as, part_of, read_part_of}
use Rattle.message.specs.Promises.{value_there, InRange, RightAt, HasLayout, RightLength, PartJudged, unknown, wrong_length, out_of_range, accepted}
use Rattle.message.proofs.ReadSo.{parts-read-so}
use Rattle.record.specs.Record.{octet_at, word_at, times_at, minimum_of, maximum_of, walk_flash_of, red_man_of, Within, TimesFit}

-- the value is in its field's range
abbrev pub RangeOf : Field → ℕ → Type 0
RangeOf (Octet least greatest) v = Within least v greatest
RangeOf (Two least greatest) v = Within least v greatest
RangeOf Order v = (v ≤ 255) × (1 ≤ phases_of v)

-- each field of these, from a place of the octets on, is in its range
abbrev pub Ranged : List Field → List ℕ → ℕ → Type 0
Ranged [] os at = Unit
Ranged (f ∷ fs) os at = RangeOf f (value_there f os at) × Ranged fs os (at + width_of (two_of f))

-- the first n octets of ps stand in os, from a place on
abbrev pub StandIn : List ℕ → List ℕ → ℕ → ℕ → Type 0
StandIn ps os at n = (j : ℕ) → j < n → octet_at ps j ≡ octet_at os (at + j)

in-range : (f : Field) (v : ℕ) → InRange f v ↔ RangeOf f v
in-range (Octet l g) v = (λ p. record { least = p.0; most = p.1 }, λ w. (w.least, w.most))
in-range (Two l g) v = (λ p. record { least = p.0; most = p.1 }, λ w. (w.least, w.most))
in-range Order v = Iff.rfl

value_there_lem : (f : Field) (ps os : List ℕ) (at : ℕ) → StandIn ps os at (width_of (two_of f)) → value_of (two_of f) ps ≡ value_there f os at
value_there_lem (Octet l g) ps os at h = rw (h 0 (omega arith), add-zero)
value_there_lem (Two l g) ps os at h = rw (h 0 (omega arith), h 1 (omega arith), add-zero)
value_there_lem Order ps os at h = rw (h 0 (omega arith), add-zero)

-- what holds of each holds of the first and of the others
all_cons : (P : ℕ → Type 0) (n : ℕ) → ((j : ℕ) → j < suc n → P j) ↔ P 0 × ((j : ℕ) → j < n → P (suc j))
all_cons P n = (λ a. (a 0 (omega arith), λ j l. a (suc j) (omega arith)), from)
  where
    from : P 0 × ((j : ℕ) → j < n → P (suc j)) → (j : ℕ) → j < suc n → P j
    from p zero l = p.0
    from p (suc j) l = p.1 j (omega arith)

-- the law: each value that is read is right exactly when each field, where its octets stand, is in its range
fields-right : (fs : List Field) (ps os : List ℕ) (at : ℕ) → StandIn ps os at (size_of fs)
    → ((j : ℕ) → j < length fs → RightAt fs (values_of fs ps) j) ↔ Ranged fs os at
fields-right [] ps os at h = (λ _. tt, λ _ j l. absurd (omega arith))
fields-right (f ∷ fs) ps os at h =
    let w = width_of (two_of f) in
    let e = value_there_lem f ps os at (λ j l. h j (omega arith)) in
    Iff.trans (all_cons (RightAt (f ∷ fs) (values_of (f ∷ fs) ps)) (length fs))
    (Iff.and (rw e (in-range f (value_there f os at)))
    (fields-right fs (drop w ps) os (at + w) (λ j l. rw (get_or-drop, add_assoc) (h (w + j) (omega arith)))))

-- where the same octets stand, the same fields are in their ranges
pub ranged-same : (fs : List Field) (os ps : List ℕ) (at bt : ℕ) → ((j : ℕ) → j < size_of fs → octet_at os (at + j) ≡ octet_at ps (bt + j))
    → Ranged fs os at → Ranged fs ps bt
ranged-same fs os ps at bt h p =
    (fields-right fs (drop at os) ps bt (λ j l. get_or-drop at os j 0 ∙ h j l)).0 ((fields-right fs (drop at os) os at (λ j l. get_or-drop at os j 0)).1 p)

-- one after another, and so many times
module _ (os : List ℕ) where
  ranged-append : (fs gs : List Field) (at : ℕ) → Ranged (fs ++ gs) os at ↔ Ranged fs os at × Ranged gs os (at + size_of fs)
  ranged-append [] gs at = (λ p. (tt, rw add-zero p), λ p. rw add-zero at p.1)
  ranged-append (f ∷ fs) gs at =
      let q = rw add_assoc at (ranged-append fs gs (at + width_of (two_of f))) in
      (λ p. ((p.0, (q.0 p.1).0), (q.0 p.1).1), λ p. (p.0.0, q.1 (p.0.1, p.1)))

  pub ranged-repeated : (g t : List Field) (k at : ℕ) → Ranged (repeated k g ++ t) os at
      ↔ ((i : ℕ) → i < k → Ranged g os (at + size_of g * i)) × Ranged t os (at + size_of g * k)
  ranged-repeated g t zero at = (λ p. (λ i l. absurd (omega arith), rw (mul-zero, add-zero) p), λ p. rw (mul-zero, add-zero) at p.1)
  ranged-repeated g t (suc k) at =
      let a = ranged-append g (repeated k g ++ t) at in
      let q = ranged-repeated g t k (at + size_of g) in
      let c = all_cons (λ i. Ranged g os (at + size_of g * i)) k in
      let z : at + size_of g * 0 ≡ at = omega (arith, mul-zero (size_of g)) in
      let s : (i : ℕ) → at + size_of g * suc i ≡ at + size_of g + size_of g * i = λ i. omega (arith, mul-suc (size_of g) i) in (
        λ p. let b = a.0 (rw append_assoc at p) in let d = q.0 b.1 in (c.1 (rw z b.0, λ i l. rw (s i) (d.0 i l)), rw (s k) d.1),
        λ p. let b = c.0 p.0 in rw append_assoc (a.1 (rw z at b.0, q.1 (λ i l. rw (s i) at (b.1 i l), rw (s k) at p.1))),
      )

-- What is read is not refused exactly where its n octets are there, k is 1 to 8, and each field is in its range

pub record Reads (l k n : ℕ) (ps os : List ℕ) (at : ℕ) : Type 0 where
  pub long : length ps ≡ n
  pub count : Within 1 k 8
  pub ranges : Ranged (rows_at l k) os at

module _ {l k n : ℕ} (kn : HasLayout l) (ef : (layout_at l).fewest ≡ 1) (em : (layout_at l).most ≡ 8) (es : size_of (rows_at l k) ≡ n) where
  pub right-length : {ps : List ℕ} → length ps ≡ n → Within 1 k 8 → RightLength l k ps
  right-length e w = record { fewest = rw ef w.least; most = rw em w.most; octets = e ∙ sym es }

  module _ {ps os : List ℕ} {at : ℕ} (s : StandIn ps os at n) where
    pub reads_as : Reads l k n ps os at → read_part_of l k ps ≡ read_as (part_of l k ps)
    reads_as r =
        let right = fields-right (rows_at l k) ps os at (λ j h. s j (omega (arith, es))) in
        sym ((parts-read-so l k ps (read_as (part_of l k ps))).0 (accepted kn (right-length r.long r.count) (right.1 r.ranges)))

    judged-reads : {r : Read} → PartJudged l k ps r → r.refusal ≡ refusal.none → Reads l k n ps os at
    unfolding not_read
    judged-reads (unknown n) e = absurd (omega arith)
    judged-reads (wrong_length kn n) e = absurd (omega arith)
    judged-reads (out_of_range n kn r w) e = absurd (omega arith)
    judged-reads (accepted kn r a) e =
        let right = fields-right (rows_at l k) ps os at (λ j h. s j (omega (arith, es))) in
        record { long = r.octets ∙ es; count = record { least = rw ef at r.fewest; most = rw em at r.most }; ranges = right.0 a }

    pub part-reads : ((read_part_of l k ps).refusal ≡ refusal.none) ↔ Reads l k n ps os at
    part-reads = (judged-reads ((parts-read-so l k ps (read_part_of l k ps)).1 refl), λ r. ap (λ (r : Read). r.refusal) (reads_as r))

-- The times of a phase

module _ (rec : List ℕ) where
  places : (at : ℕ) → Ranged times rec at ≡ (Within 5 (octet_at rec at) 254 × (Within 5 (word_at rec (at + 1)) 900 × (Within 3 (octet_at rec (at + 3)) 9
      × (Within 1 (octet_at rec (at + 4)) 9 × (Within 0 (octet_at rec (at + 5)) 90 × (Within 0 (octet_at rec (at + 6)) 9 × Unit))))))
  places at = simp add_assoc

  pub phase-in : (i : ℕ) → Ranged times rec (times_at i) → minimum_of rec i ≤ maximum_of rec i → walk_flash_of rec i + red_man_of rec i < minimum_of rec i → TimesFit rec i
  phase-in i p o w =
      let q = rw (places (times_at i)) at p in
      record {
        minimum = q.0;
        maximum = q.1.0;
        yellow = q.1.1.0;
        all_red = q.1.1.1.0;
        walk_flash = q.1.1.1.1.0;
        red_man = q.1.1.1.1.1.0;
        ordered = o;
        walk = w;
      }

  pub phase-out : (i : ℕ) → TimesFit rec i → Ranged times rec (times_at i)
  phase-out i f = rw (places (times_at i)) (f.minimum, (f.maximum, (f.yellow, (f.all_red, (f.walk_flash, (f.red_man, tt))))))
