-- What follows from the definitions of a set: one law for each way, and what a message that is read tells.
use Prim.Native.Nat.{ℕ, zero, suc, ◌+◌, ◌*◌, ◌-◌, ◌/◌, ◌%◌, ◌≤◌, ◌<◌}
use mathlib.Core.Path.{◌≡◌, refl, sym, ap, ◌∙◌}
use mathlib.Core.Bool.{Bool, true, false, and-false}
use mathlib.Core.List.{List, ◌∷◌, ◌++◌}
use native.Mathlib.Decide.{ℕ_discrete}
use native.Mathlib.Omega.{arith}
use borrow.Author.Tests.{eq-eqb, ne_eqb, le-leb, lt-leb}
use lib.Dec.{leb}
use lib.ListN.{length, drop, set, replicate, length-append, length-drop, get_or-append}
use lib.Seq.{sets, get_or-drop, get_or-append-add, drop_at}
use Rattle.octets.specs.First.{first_of}
use Rattle.octets.specs.Part.{code_len}
use Rattle.octets.specs.Put.{Put, Stored}
use Rattle.octets.specs.Refusal as refusal
use Rattle.octets.proofs.Laws.{clash, put-stored, stored-then, part_to_end}
use Rattle.message.specs.Reader.{Read, code_in, body_in, read_of}
use Rattle.message.specs.Layouts.{layouts, layout_at, number_of, rows_at, layout_rows}
use Rattle.message.specs.Names.{plan_at, plan_count_at, maximum_at, red_man_at}
use Rattle.message.proofs.Accepted.{accepted-in}
use Rattle.message.proofs.Values.{filled_at, filled-long, filled_is}
use Rattle.plan.specs.Setting.{Answered, NewRecord, plan_in, count_in, Times14, Plan15, times_record, ready_record, made, not_made, times_field, plan_field, times_made, ready_made, SetLeaves, answered, kept_as, set_times_code, set_plan_code, other_code, set_front, set_of}
use Rattle.record.specs.Record.{record_len, book_len, empty, times_set, ready, octet_at, k_of, times_end, ZeroFrom}
use Rattle.checks.specs.Standing.{between, times_disagree, plan_disagree, standing_of}
use Rattle.plan.specs.BuiltIn.{padded}
use Rattle.plan.specs.Reading.{record_start}
use Rattle.checks.proofs.Stands.{part-long, part_at}
use Rattle.plan.proofs.Ranges.{InRanges, set-times, set-plan, read-ranges}

-- What any set refuses

module _ (n code : ℕ) (info : List ℕ) where
  pub front-book : (n ≡ book_len → ⊥) → answered refusal.book_wrong 0 ≡ set_front n code info
  unfolding set_front
  front-book h = rw (ne_eqb n book_len h)

  module _ (hb : n ≡ book_len) {t : Bool} (et : t ≡ other_code code info) where
    pub front-code : t ≡ true → answered refusal.code_not_handled 0 ≡ set_front n code info
    unfolding set_front
    front-code h = rw (eq-eqb n book_len hb, ← et, h)

    pub front_read : t ≡ false → {r : Read} → r ≡ read_of info → answered r.refusal r.field ≡ set_front n code info
    unfolding set_front
    front_read h e = rw (eq-eqb n book_len hb, ← et, h, e)

  pub other-code : code_len ≤ length info → (code_in info ≡ code → ⊥) → true ≡ other_code code info
  other-code l h = rw (le-leb code_len (length info) l, ne_eqb (code_in info) code h)

  pub same_code : code_in info ≡ code → false ≡ other_code code info
  same_code h = rw (eq-eqb (code_in info) code h) (sym (and-false (leb code_len (length info))))

  pub no_code_lem : length info < code_len → false ≡ other_code code info
  no_code_lem l = rw (lt-leb code_len (length info) l)

  -- what no refusal tells
  pub front-sound : (set_front n code info).refusal ≡ refusal.none → (n ≡ book_len) × ((read_of info).refusal ≡ refusal.none) × (code_in info ≡ code)
  front-sound e = by (ℕ_discrete n book_len) (other_code code info) refl
    where
      none : {a : Answered} → a ≡ set_front n code info → a.refusal ≡ refusal.none
      none q = ap (λ (a : Answered). a.refusal) q ∙ e

      same : false ≡ other_code code info → code_len ≤ length info → Dec (code_in info ≡ code) → code_in info ≡ code
      same f l (yes c) = c
      same f l (no h) = absurd (clash (sym f) (sym (other-code l h)))

      by : Dec (n ≡ book_len) → (t : Bool) → t ≡ other_code code info → (n ≡ book_len) × ((read_of info).refusal ≡ refusal.none) × (code_in info ≡ code)
      by (no h) t f = absurd (omega (arith, none (front-book h)))
      by (yes hb) true f = absurd (omega (arith, none (front-code hb f refl)))
      by (yes hb) false f = let r = none (front_read hb f refl refl) in (hb, r, same f (accepted-in info r).long (ℕ_discrete (code_in info) code))

-- A message that is read

module _ (info : List ℕ) (e : (read_of info).refusal ≡ refusal.none) where
  pub read-times : code_in info ≡ set_times_code → InRanges 0x5F14 1 2 7 (body_in info)
  read-times c = (read-ranges set-times info c).0 e

  pub read-plan : code_in info ≡ set_plan_code → InRanges 0x5F15 3 8 2 (body_in info)
  read-plan c = (read-ranges set-plan info c).0 e

module _ (body : List ℕ) where
  pub times-body : InRanges 0x5F14 1 2 7 body → Times14 body
  unfolding number_of first_of rows_at layout_rows layout_at layouts
  times-body r = record { long = r.long; plan = r.ranges.0; count = r.count }

  pub plan-body : InRanges 0x5F15 3 8 2 body → Plan15 body
  unfolding number_of first_of rows_at layout_rows layout_at layouts
  plan-body r = record { long = r.long; plan = r.ranges.0; count = r.count }

-- The records

-- a state in front of the octets
built : (state : ℕ) (vs : List ℕ) {r : ℕ} {l : List ℕ} → Stored vs 1 (set (replicate record_len 0) 0 state) r l → length vs < record_len → l ≡ padded (state ∷ vs)
unfolding padded
built state vs s h = s.holds ∙ filled_is record_len (state ∷ vs) h

pub times-built : (body : List ℕ) {r : ℕ} {l : List ℕ} → 1 ≤ length body → length body ≤ record_len
    → Put (between 1 (length body) body) 1 (set (replicate record_len 0) 0 times_set) r l → l ≡ times_record body
unfolding times_record
times-built body h m p =
    let e : between 1 (length body) body ≡ drop 1 body = part_to_end body 1 in
    let n : length (drop 1 body) ≡ length body - 1 = length-drop 1 body in
    built times_set (drop 1 body) (put-stored (rw e at p) (omega arith)) (omega arith)

-- an octet of a record is that of what it was made of: past their end both read as 0
pub padded-at : (vs : List ℕ) (i : ℕ) → octet_at (padded vs) i ≡ octet_at vs i
unfolding padded
padded-at vs i = filled_at record_len vs i

pub padded-long : (vs : List ℕ) → length vs ≤ record_len → length (padded vs) ≡ record_len
unfolding padded
padded-long vs h = filled-long record_len vs h

pub padded-rest : (vs : List ℕ) (at : ℕ) → length vs ≡ at → ZeroFrom (padded vs) at
unfolding padded
padded-rest vs at e = drop_at vs (replicate (record_len - length vs) 0) at e ∙ ap (λ (n : ℕ). replicate (record_len - n) 0) e

-- the times' record has the octets of the message, but for its state
pub times-at : (body : List ℕ) (i : ℕ) → 1 ≤ i → octet_at (times_record body) i ≡ octet_at body i
unfolding times_record
times-at body zero h = absurd (omega arith)
times-at body (suc i) h = let e : 1 + i ≡ suc i = omega arith in padded-at (times_set ∷ drop 1 body) (suc i) ∙ (get_or-drop 1 body i 0 ∙ ap (octet_at body) e)

-- the ready record has the times that are stored, and then the octets of the message
abbrev front-part : List ℕ → List ℕ
front-part old = between 1 (times_end old) old

abbrev rest_part : List ℕ → List ℕ
rest_part body = between 1 3 body ++ drop 4 body

abbrev pub ready_octets : List ℕ → List ℕ → List ℕ
ready_octets old body = ready ∷ (front-part old ++ rest_part body)

module _ (old body : List ℕ) (ho : times_end old ≤ length old) (hb : 4 ≤ length body) where
  front_long : length (front-part old) ≡ times_end old - 1
  front_long = part-long 1 (times_end old) old (omega arith) ho

  two-long : length (between 1 3 body) ≡ 2
  two-long = part-long 1 3 body (omega arith) (omega arith)

  pub ready-long : length (ready_octets old body) ≡ times_end old + 2 + (length body - 4)
  ready-long = omega (arith, length-append (front-part old) (rest_part body), length-append (between 1 3 body) (drop 4 body), front_long, two-long, length-drop 4 body)

  pub ready-times : (i : ℕ) → 1 ≤ i → i < times_end old → octet_at (ready_record old body) i ≡ octet_at old i
  unfolding ready_record
  ready-times zero h l = absurd (omega arith)
  ready-times (suc i) h l =
      let e : 1 + i ≡ suc i = omega arith in
      padded-at (ready_octets old body) (suc i)
      ∙ (get_or-append (front-part old) (rest_part body) 0 i (omega (arith, front_long))
      ∙ (part_at 1 (times_end old) old i (omega arith) ∙ ap (octet_at old) e))

  after : (j : ℕ) → octet_at (ready_record old body) (times_end old + j) ≡ octet_at (rest_part body) j
  unfolding ready_record
  after j =
      let e : times_end old + j ≡ suc (length (front-part old) + j) = omega (arith, front_long) in
      padded-at (ready_octets old body) (times_end old + j)
      ∙ (ap (octet_at (ready_octets old body)) e ∙ get_or-append-add (front-part old) (rest_part body) j 0)

  pub ready-two : (j : ℕ) → j < 2 → octet_at (ready_record old body) (times_end old + j) ≡ octet_at body (1 + j)
  ready-two j l = after j ∙ (get_or-append (between 1 3 body) (drop 4 body) 0 j (omega (arith, two-long)) ∙ part_at 1 3 body j l)

  pub ready-rest : (j : ℕ) → octet_at (ready_record old body) (times_end old + (2 + j)) ≡ octet_at body (4 + j)
  ready-rest j =
      let e : 2 + j ≡ length (between 1 3 body) + j = omega (arith, two-long) in
      after (2 + j) ∙ (ap (octet_at (rest_part body)) e ∙ (get_or-append-add (between 1 3 body) (drop 4 body) j 0 ∙ get_or-drop 4 body j 0))

  pub ready-k : k_of (ready_record old body) ≡ k_of old
  ready-k = ready-times 1 (omega arith) (omega arith)

pub ready-built : (old body : List ℕ) {p q r : ℕ} {l m o : List ℕ} → length old ≡ record_len → k_of old ≤ 8 → length body ≡ 8 + 2 * k_of old
    → {end : ℕ} → end ≡ times_end old
    → Put (between 1 end old) 1 (set (replicate record_len 0) 0 ready) p l → Put (between 1 3 body) p l q m → Put (between 4 (length body) body) q m r o
    → o ≡ ready_record old body
unfolding ready_record
ready-built old body ho hk hb ee a b c =
    let e : between 4 (length body) body ≡ drop 4 body = part_to_end body 4 in
    let na = front_long old body (omega arith) (omega arith) in
    let nb = two-long old body (omega arith) (omega arith) in
    let nc = length-drop 4 body in
    let sa = put-stored (rw ee at a) (omega arith) in
    let sb = put-stored b (omega (arith, sa.place, sa.long)) in
    let sc = put-stored (rw e at c) (omega (arith, sb.place, sb.long, sa.place, sa.long)) in
    built ready (front-part old ++ rest_part body) (stored-then sa (stored-then sb sc)) (omega (arith, ready-long old body (omega arith) (omega arith)))

-- What is made

pub field-maximum : (n i : ℕ) → i ≡ (n - 1) / 2 → (n - 1) % 2 ≡ 0 → maximum_at i ≡ times_field n
unfolding times_field
field-maximum n i e h = rw (eq-eqb ((n - 1) % 2) 0 h, e)

pub field-redman : (n i : ℕ) → i ≡ (n - 1) / 2 → ((n - 1) % 2 ≡ 0 → ⊥) → red_man_at i ≡ times_field n
unfolding times_field
field-redman n i e h = rw (ne_eqb ((n - 1) % 2) 0 h, e)

module _ (body : List ℕ) {n : ℕ} (en : n ≡ times_disagree body) where
  pub times-not : (n ≡ 0 → ⊥) → {f : ℕ} → f ≡ times_field n → not_made refusal.disagree f ≡ times_made body
  unfolding times_made
  times-not h e = rw (← en, ne_eqb n 0 h, e)

  pub times-is : n ≡ 0 → {rec : List ℕ} → rec ≡ times_record body → made rec ≡ times_made body
  unfolding times_made
  times-is h e = rw (← en, eq-eqb n 0 h, e)

module _ (old body : List ℕ) {s : ℕ} (es : s ≡ standing_of old) where
  pub ready-unset : s ≡ empty → not_made refusal.not_ready plan_at ≡ ready_made old body
  unfolding ready_made
  ready-unset h = rw (← es, eq-eqb s empty h)

  module _ (hs : s ≡ empty → ⊥) {j k : ℕ} (ej : j ≡ count_in body) (ek : k ≡ k_of old) where
    pub ready-count : (j ≡ k → ⊥) → not_made refusal.disagree plan_count_at ≡ ready_made old body
    unfolding ready_made
    ready-count h =
        let n : count_in body ≡ k_of old → ⊥ = λ z. h (ej ∙ (z ∙ sym ek)) in
        rw (← es, ne_eqb s empty hs, ne_eqb (count_in body) (k_of old) n)

    module _ (hk : j ≡ k) {rec : List ℕ} (er : rec ≡ ready_record old body) {n : ℕ} (en : n ≡ plan_disagree rec) where
      same_count : count_in body ≡ k_of old
      same_count = sym ej ∙ (hk ∙ ek)

      pub ready-not : (n ≡ 0 → ⊥) → {f : ℕ} → f ≡ plan_field n → not_made refusal.disagree f ≡ ready_made old body
      unfolding ready_made
      ready-not h e = rw (← es, ne_eqb s empty hs, eq-eqb (count_in body) (k_of old) same_count, ← er, ← en, ne_eqb n 0 h, e)

      pub ready-is : n ≡ 0 → made rec ≡ ready_made old body
      unfolding ready_made
      ready-is h = rw (← es, ne_eqb s empty hs, eq-eqb (count_in body) (k_of old) same_count, ← er, ← en, eq-eqb n 0 h)

-- What is kept

module _ (p : ℕ) (m : NewRecord) (book : List ℕ) where
  pub kept-not : (m.refusal ≡ refusal.none → ⊥) → {r : Answered} → r ≡ answered m.refusal m.field → SetLeaves (kept_as p m book) r book
  unfolding kept_as
  kept-not h e = rw (ne_eqb m.refusal refusal.none h) (record { answer = e; book = refl })

  pub kept-is : m.refusal ≡ refusal.none → {r : Answered} → r ≡ answered refusal.none 0 → {l : List ℕ} → l ≡ sets book (record_start p) m.rec → SetLeaves (kept_as p m book) r l
  unfolding kept_as
  kept-is h e el = rw (eq-eqb m.refusal refusal.none h) (record { answer = e; book = el })

module _ (code : ℕ) (m : NewRecord) (book info : List ℕ) {f : Answered} (ef : f ≡ set_front (length book) code info) where
  pub set_is : (f.refusal ≡ refusal.none → ⊥) → set_of code m book info ≡ record { answer = f; book = book }
  unfolding set_of
  set_is h = rw (← ef, ne_eqb f.refusal refusal.none h)

  pub set-goes : f.refusal ≡ refusal.none → set_of code m book info ≡ kept_as (plan_in (body_in info)) m book
  unfolding set_of
  set-goes h = rw (← ef, eq-eqb f.refusal refusal.none h)
