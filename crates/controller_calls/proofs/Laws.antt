-- What the functions' proofs rest on: one law for each way through.
use Rattle.std.specs.Prelude.{⊤, Ok, Err}
use Rattle.std.proofs.Common.{◌≡◌, ℕ, ◌+◌, ◌<◌, ◌≤◌, Bool, true, false, not, eqb, leb, ◌⊎◌, List, [], length, take, sym, refl, ap, ◌∙◌, subst, inl, inr, arith, take_all, Bor, le-ltb, lt-ltb, eq-eqb, ne_eqb, le-leb}
use native.Mathlib.Decide.{dec_le, ℕ_discrete}
use borrow.Author.Tests.{lt-leb}
use Rattle.octets.specs.Choice.{pick, both}
use Rattle.octets.specs.Part.{PartOf}
use Rattle.octets.specs.Refusal as refusal
use Rattle.octets.specs.Refusals.{refusal_number}
use Rattle.octets.specs.Word.{high_of, low_of}
use Rattle.octets.specs.Same.{same}
use Rattle.octets.proofs.Laws.{same-is}
use Rattle.message.specs.declared.Fault.{Fault}
use Rattle.message.specs.Reader.{Read}
use Rattle.message.specs.Reader.{code_in, body_in, read_of}
use Rattle.plan.specs.Setting.{Answered, set_answer}
use Rattle.record.specs.Record.{record_len, plans_most, book_len, empty, ready, cycle_of}
use Rattle.checks.specs.Standing.{standing_of}
use Rattle.plan.specs.declared.Which.{Which}
use Rattle.plan.specs.BuiltIn.{built_in}
use Rattle.plan.specs.Reading.{record_start, record_at, either_built_in, read_refusal, PartRead}
use Rattle.plan.specs.Setting.{set_times_code, set_plan_code, set_times_of, set_plan_of, plan_in}
use Rattle.plan.specs.Setting as setting
use Rattle.plan_calls.proofs.Read.{refused-some}
use Rattle.plan.proofs.Laws.{length-built-in, is-either, refused-range, read-zero, refused-empty, read_set}
use Rattle.checks.proofs.Stands.{some-long, some-state}
use Rattle.plan.proofs.Reportable.{standing-none, standing-past}
use Rattle.plan.proofs.Cases.{built-in-stands}
use Rattle.controller.specs.declared.Running.{Running}
use Rattle.controller.specs.declared.Handled as code_handled
use Rattle.controller.specs.declared.Reply.TheVariants as reply
use Rattle.controller.specs.Reply.{HandledInNumbers, handled_as}
use Rattle.controller.specs.State.{State, running_sound, record_with, plan_record, started_at}
use Rattle.controller.specs.Handling.{run_code, query_times_code, query_plan_code, query_running_code, refused_with, set_as, run_as, query_times_as, query_plan_as, query_running_as, handling_of}
use Rattle.controller.specs.Seconds.{picked_of}
use Rattle.controller.proofs.Laws.{both_false, picked-ready, picked-stays}
use Rattle.controller.proofs.Replying.{plan-in-book}
use Rattle.controller_calls.specs.Handling.{HandlingLeaves, handled_by, done_for, Asks}
use Rattle.controller_calls.specs.Stepper.{RecordOf}

-- The record of a plan

module _ (book copy r : Bor (List ℕ)) (p : ℕ) (f : PartRead book copy p r) where
  abbrev refusal_is : ℕ
  refusal_is = read_refusal book.now copy.now p

  abbrev part_if : Bool → Type 0
  part_if t = pick t (pick (eqb p 0) (PartOf copy 0 record_len r) (PartOf book (record_start p) record_len r)) (PartOf copy 0 0 r)

  read_none : (refusal_is ≡ refusal.none → ⊥) → r.now ≡ []
  read_none n = let q : part_if false = subst part_if (ne_eqb refusal_is refusal.none n) f in q.octets

  read-built-in : refusal_is ≡ refusal.none → p ≡ 0 → r.now ≡ take record_len copy.now
  read-built-in e z =
      let q : part_if true = subst part_if (eq-eqb refusal_is refusal.none e) f in
      let q' : PartOf copy 0 record_len r = subst (λ (t : Bool). pick t (PartOf copy 0 record_len r) (PartOf book (record_start p) record_len r)) (eq-eqb p 0 z) q in
      q'.octets

  read-book : refusal_is ≡ refusal.none → (p ≡ 0 → ⊥) → r.now ≡ record_at book.now p
  read-book e n =
      let q : part_if true = subst part_if (eq-eqb refusal_is refusal.none e) f in
      let q' : PartOf book (record_start p) record_len r = subst (λ (t : Bool). pick t (PartOf copy 0 record_len r) (PartOf book (record_start p) record_len r)) (ne_eqb p 0 n) q in
      q'.octets

  abbrev rec : List ℕ
  rec = record_with copy.now book.now p

  pub record_of : length book.now ≡ book_len → (which : Which) → copy.now ≡ built_in which → RecordOf copy.now book.now p r.now
  record_of hb which ho = by (dec_le p plans_most) (ℕ_discrete p 0) (ℕ_discrete (standing_of (record_at book.now p)) empty)
    where
      lo : length copy.now ≡ record_len
      lo = ap length ho ∙ length-built-in which

      -- an empty part stands as an empty plan
      nothing-there : r.now ≡ [] → standing_of rec ≡ empty → RecordOf copy.now book.now p r.now
      nothing-there e h =
          let s : standing_of r.now ≡ empty = rw e standing-none in
          record { stands = s ∙ sym h; octets = λ n. absurd (n s); state = rw e (sym standing-none) }

      there : (standing_of rec ≡ empty → ⊥) → r.now ≡ rec → RecordOf copy.now book.now p r.now
      there n e = record { stands = ap standing_of e; octets = λ _. e; state = rw e (some-state rec n) }

      by : Dec (p ≤ plans_most) → Dec (p ≡ 0) → Dec (standing_of (record_at book.now p) ≡ empty) → RecordOf copy.now book.now p r.now
      by (no g) d e =
          let z : p ≡ 0 → ⊥ = λ (q : p ≡ 0). absurd (omega arith) in
          let l : plans_most < p = omega arith in
          let n : refusal_is ≡ refusal.none → ⊥ = λ (q : refusal_is ≡ refusal.none). absurd (omega (arith, q, refused-range book.now copy.now p hb lo l)) in
          nothing-there (read_none n) (rw (ne_eqb p 0 z) (standing-past book.now p hb l))
      by (yes l) (yes z) e =
          let s : true ≡ either_built_in copy.now = sym (rw ho (is-either which)) in
          let q = sym (read-zero book.now copy.now p hb lo l z s refl) in
          let n : standing_of copy.now ≡ empty → ⊥ = λ (e : standing_of copy.now ≡ empty). absurd (omega (arith, built-in-stands which, ap standing_of ho, e)) in
          there (rw (eq-eqb p 0 z) n) (read-built-in q z ∙ (rw (eq-eqb p 0 z) (take_all record_len copy.now (omega (arith, lo)))))
      by (yes l) (no z) (yes e) =
          let n : refusal_is ≡ refusal.none → ⊥ = λ (q : refusal_is ≡ refusal.none). absurd (omega (arith, q, refused-empty book.now copy.now p hb lo l z refl e)) in
          nothing-there (read_none n) (rw (ne_eqb p 0 z) e)
      by (yes l) (no z) (no e) =
          let q = sym (read_set book.now copy.now p hb lo l z refl e) in
          there (rw (ne_eqb p 0 z) e) (read-book q z ∙ rw (ne_eqb p 0 z))

-- Messages

-- what the contract of `book::plan_part` says of the part r
abbrev PartFor : Bor (List ℕ) → Bor (List ℕ) → ℕ → Bor (List ℕ) → Type 0
PartFor book copy p r =
    pick (both (eqb (length book.now) book_len) (leb p plans_most)) (pick (eqb p 0) (PartOf copy 0 (length copy.now) r) (PartOf book (record_start p) record_len r)) (PartOf copy 0 0 r)

-- it is the octets of the plan's record
part-is : (book copy r : Bor (List ℕ)) (p : ℕ) → length book.now ≡ book_len → p ≤ plans_most → PartFor book copy p r → r.now ≡ record_with copy.now book.now p
part-is book copy r p hb hp f = by (eqb p 0) (rw (eq-eqb (length book.now) book_len hb, le-leb p plans_most hp) at f)
  where
    by : (t : Bool) → pick t (PartOf copy 0 (length copy.now) r) (PartOf book (record_start p) record_len r) → r.now ≡ pick t copy.now (record_at book.now p)
    by true q = q.octets ∙ take_all (length copy.now) copy.now (omega arith)
    by false q = q.octets

module _ (which : Which) (book copy r : Bor (List ℕ)) (p : ℕ) (ez : copy.now ≡ built_in which) (hb : length book.now ≡ book_len) (hp : p ≤ plans_most)
    (f : PartFor book copy p r) where
  pub rec-is : r.now ≡ plan_record which book.now p
  rec-is = part-is book copy r p hb hp f ∙ rw ez

-- the record of a plan that does not stand empty, and of one that stands ready, is the part that was found for it
module _ (which : Which) (book copy r : Bor (List ℕ)) (p : ℕ) (ez : copy.now ≡ built_in which) (hb : length book.now ≡ book_len) where
  pub there-is : (standing_of (plan_record which book.now p) ≡ empty → ⊥) → PartFor book copy p r → r.now ≡ plan_record which book.now p
  there-is n f = rec-is which book copy r p ez hb (plan-in-book which book.now p hb n) f

  pub ready-is : standing_of (plan_record which book.now p) ≡ ready → PartFor book copy p r → r.now ≡ plan_record which book.now p
  ready-is e f = there-is (λ n. absurd (omega (arith, e, n))) f

-- one that leaves the book
module _ (info : List ℕ) where
  abbrev Leaves : Type 0
  Leaves = (code_in info ≡ run_code) ⊎ ((code_in info ≡ query_times_code) ⊎ ((code_in info ≡ query_plan_code) ⊎ (code_in info ≡ query_running_code)))

  asked_is : {code second : ℕ} → code ≡ code_in info → Asks code second → Leaves
  asked_is {code} {second} ec a = by a.one
    where
      by : (second ≡ 0x18) ⊎ ((second ≡ 0x44) ⊎ ((second ≡ 0x45) ⊎ (second ≡ 0x48))) → Leaves
      by (inl e) = inl (omega (arith, ec, a.octets, e))
      by (inr (inl e)) = inr (inl (omega (arith, ec, a.octets, e)))
      by (inr (inr (inl e))) = inr (inr (inl (omega (arith, ec, a.octets, e))))
      by (inr (inr (inr e))) = inr (inr (inr (omega (arith, ec, a.octets, e))))

-- the last of the four is left
pub asks-running : {second : ℕ} → (second ≡ 0x18) ⊎ ((second ≡ 0x44) ⊎ ((second ≡ 0x45) ⊎ (second ≡ 0x48))) → (second ≡ 0x18 → ⊥) → (second ≡ 0x44 → ⊥) → (second ≡ 0x45 → ⊥)
    → second ≡ 0x48
asks-running (inl e) f g h = absurd (f e)
asks-running (inr (inl e)) f g h = absurd (g e)
asks-running (inr (inr (inl e))) f g h = absurd (h e)
asks-running (inr (inr (inr e))) f g h = e

-- The octets of a code

module _ {code j : ℕ} where
  pub high-other : j < 256 → (high_of code ≡ 0x5F → ⊥) → code ≡ 0x5F00 + j → ⊥
  high-other l n e = n (omega (arith, l, e))

  pub low-other : j < 256 → (low_of code ≡ j → ⊥) → code ≡ 0x5F00 + j → ⊥
  low-other l n e = n (omega (arith, l, e))

  pub code_is : high_of code ≡ 0x5F → low_of code ≡ j → code ≡ 0x5F00 + j
  code_is h e = omega (arith, h, e)

-- what a set answers
module _ (code requested : ℕ) where
  pub set-done : (d : ⊤) {h : code_handled.Handled} → h ≡ done_for requested (reply.CarriedOut code) → handled_by code requested (Ok h) ≡ set_as code requested (set_answer (Ok d))
  unfolding set_as
  set-done d e = ap handled_as e

  pub set-refused : (e : Fault) → handled_by code requested (Err e) ≡ set_as code requested (set_answer (Err e))
  unfolding set_as
  set-refused e = rw (ne_eqb (refusal_number e.refusal) refusal.none (refused-some e.refusal))

-- by the code
module _ (s : State) (book info : List ℕ) {code : ℕ} (ec : code ≡ code_in info) {h : HandledInNumbers} where
  pub handles-times : code_in info ≡ set_times_code → {a : Answered} {b : List ℕ} → setting.SetLeaves (set_times_of book info) a b → h ≡ set_as code s.requested a
      → HandlingLeaves (handling_of s book info) h b
  unfolding handling_of
  handles-times e d eh = rw e (record { handled = eh ∙ rw (ec ∙ e, d.answer); book = d.book })

  pub handles-plan : code_in info ≡ set_plan_code → {a : Answered} {b : List ℕ} → setting.SetLeaves (set_plan_of book info) a b → h ≡ set_as code s.requested a
      → HandlingLeaves (handling_of s book info) h b
  unfolding handling_of
  handles-plan e d eh = rw e (record { handled = eh ∙ rw (ec ∙ e, d.answer); book = d.book })

  module _ {m : Read} (em : m ≡ read_of info) where
    pub asked-unread : {second : ℕ} → Asks code second → (m.refusal ≡ refusal.none → ⊥) → h ≡ refused_with code s.requested m.refusal m.field
        → HandlingLeaves (handling_of s book info) h book
    unfolding handling_of
    asked-unread a n eh = by (asked_is info ec a)
      where
        by : Leaves info → HandlingLeaves (handling_of s book info) h book
        by (inl e) = rw (e, ← em, ne_eqb m.refusal refusal.none n) (record { handled = eh ∙ rw (ec ∙ e); book = refl })
        by (inr (inl e)) = rw (e, ← em, ne_eqb m.refusal refusal.none n) (record { handled = eh ∙ rw (ec ∙ e); book = refl })
        by (inr (inr (inl e))) = rw (e, ← em, ne_eqb m.refusal refusal.none n) (record { handled = eh ∙ rw (ec ∙ e); book = refl })
        by (inr (inr (inr e))) = rw (e, ← em, ne_eqb m.refusal refusal.none n) (record { handled = eh ∙ rw (ec ∙ e); book = refl })

    module _ (z : m.refusal ≡ refusal.none) where
      module _ {p : ℕ} (ep : p ≡ plan_in (body_in info)) where
        pub asked-run : code_in info ≡ run_code → h ≡ run_as s.running.which code s.requested book p → HandlingLeaves (handling_of s book info) h book
        unfolding handling_of
        asked-run e eh = rw (e, ← em, eq-eqb m.refusal refusal.none z) (record { handled = eh ∙ rw (ec ∙ e, ep); book = refl })

        pub asked-times : code_in info ≡ query_times_code → h ≡ query_times_as s.running.which code s.requested book p → HandlingLeaves (handling_of s book info) h book
        unfolding handling_of
        asked-times e eh = rw (e, ← em, eq-eqb m.refusal refusal.none z) (record { handled = eh ∙ rw (ec ∙ e, ep); book = refl })

        pub asked-plan : code_in info ≡ query_plan_code → h ≡ query_plan_as s.running.which code s.requested book p → HandlingLeaves (handling_of s book info) h book
        unfolding handling_of
        asked-plan e eh = rw (e, ← em, eq-eqb m.refusal refusal.none z) (record { handled = eh ∙ rw (ec ∙ e, ep); book = refl })

      pub asked-running : code_in info ≡ query_running_code → h ≡ query_running_as s.requested → HandlingLeaves (handling_of s book info) h book
      unfolding handling_of
      asked-running e eh = rw (e, ← em, eq-eqb m.refusal refusal.none z) (record { handled = eh; book = refl })

  pub handles-other : (code ≡ set_times_code → ⊥) → (code ≡ set_plan_code → ⊥) → (code ≡ run_code → ⊥) → (code ≡ query_times_code → ⊥) → (code ≡ query_plan_code → ⊥)
      → (code ≡ query_running_code → ⊥) → h ≡ refused_with code s.requested refusal.code_not_handled 0 → HandlingLeaves (handling_of s book info) h book
  unfolding handling_of
  handles-other n1 n2 n3 n4 n5 n6 eh =
      rw (← ec, ne_eqb code set_times_code n1, ne_eqb code set_plan_code n2, ne_eqb code run_code n3, ne_eqb code query_times_code n4, ne_eqb code query_plan_code n5, ne_eqb code query_running_code n6)
      (record { handled = eh; book = refl })

-- the choice the other way round
pub pick-not : {A : Type 0} (t : Bool) (a b : A) → pick (not t) a b ≡ pick t b a
pick-not true a b = refl
pick-not false a b = refl

-- Soundness

pub both_true : (b : Bool) → both b true ≡ b
both_true true = refl
both_true false = refl

module _ (u : Running) where
  module _ {c : ℕ} (ec : c ≡ cycle_of u.copy) where
    pub outside : c ≤ u.position → false ≡ running_sound u
    unfolding running_sound
    outside h = rw (← ec, le-ltb u.position c h)

    module _ (hc : u.position < c) where
      pub over : plans_most < u.plan → false ≡ running_sound u
      unfolding running_sound
      over h = rw (← ec, lt-ltb u.position c hc, lt-leb u.plan plans_most h)

      module _ (hp : u.plan ≤ plans_most) where
        -- the built-in record stands ready
        pub zero-plan : u.plan ≡ 0 → {t : Bool} → t ≡ same u.copy (built_in u.which) → t ≡ running_sound u
        unfolding running_sound
        zero-plan z {t} e = by t e
          where
            by : (t : Bool) → t ≡ same u.copy (built_in u.which) → t ≡ running_sound u
            by true e =
                let s : standing_of u.copy ≡ ready = rw (same-is u.copy (built_in u.which) (sym e)) (built-in-stands u.which) in
                rw (← ec, lt-ltb u.position c hc, le-leb u.plan plans_most hp, eq-eqb (standing_of u.copy) ready s, eq-eqb u.plan 0 z) e
            by false e =
                rw (← ec, lt-ltb u.position c hc, le-leb u.plan plans_most hp, eq-eqb u.plan 0 z, ← e) (sym (both_false (eqb (standing_of u.copy) ready)))

        pub other-plan : (u.plan ≡ 0 → ⊥) → {n : ℕ} → n ≡ standing_of u.copy → eqb n ready ≡ running_sound u
        unfolding running_sound
        other-plan z {n} e =
            rw (← ec, lt-ltb u.position c hc, le-leb u.plan plans_most hp, ne_eqb u.plan 0 z, ← e) (sym (both_true (eqb n ready)))

-- The pick

-- a ready record has its length
pub ready-long : (rec : List ℕ) {n : ℕ} → n ≡ standing_of rec → n ≡ ready → length rec ≡ record_len
ready-long rec en e = some-long rec (λ (z : standing_of rec ≡ empty). absurd (omega (arith, en, e, z)))

module _ (u : Running) (requested : ℕ) (book : List ℕ) {zero rec : List ℕ} (ez : zero ≡ built_in u.which) (f : RecordOf zero book requested rec) {n : ℕ} (en : n ≡ standing_of rec) where
  abbrev due : List ℕ
  due = plan_record u.which book requested

  stands-due : standing_of rec ≡ standing_of due
  stands-due = f.stands ∙ rw ez

  pub picks : n ≡ ready → {copy : List ℕ} → copy ≡ rec → started_at u.which requested copy ≡ picked_of u requested book
  picks e ec =
      let r : rec ≡ due = f.octets (λ (z : standing_of rec ≡ empty). absurd (omega (arith, en, e, z))) ∙ rw ez in
      rw (ec, r) (sym (picked-ready u requested book (eq-eqb _ _ (sym stands-due ∙ (sym en ∙ e)))))

  pub stays : (n ≡ ready → ⊥) → started_at u.which u.plan u.copy ≡ picked_of u requested book
  stays g = sym (picked-stays u requested book (ne_eqb _ _ (λ (q : standing_of due ≡ ready). g (en ∙ (stands-due ∙ q)))))
