-- 02, E3: the INFO of every reply is octets, and what the message writer would have written: the reader reads it with nothing refused.
use Prim.Native.Nat.{ℕ, zero, suc, ◌-◌, ◌≤◌, ◌<◌}
use mathlib.Core.Path.{◌≡◌, refl, sym, ap, ◌∙◌}
use mathlib.Core.Logic.{◌⊎◌, inl, inr}
use mathlib.Core.List.{List, [], ◌∷◌}
use native.Mathlib.Decide.{ℕ_discrete}
use native.Mathlib.Nat.{mod-eq_of_lt}
use native.Mathlib.Omega.{arith}
use borrow.Author.Tests.{eqb-false}
use lib.Dec.{eqb}
use lib.ListN.{length, get_or-eq_default}
use Rattle.octets.specs.First.{first_of}
use Rattle.octets.specs.Octet.{Octets}
use Rattle.octets.specs.Refusal as refusal
use Rattle.octets.specs.Word.{high_of, low_of}
use Rattle.octets.proofs.Laws.{pick-by, octets-part}
use Rattle.message.specs.declared.Message.{Message}
use Rattle.message.specs.Reader.{Read}
use Rattle.message.specs.Fields as field
use Rattle.message.specs.Layouts.{layouts, layout_at, number_of, rows_at, layout_rows}
use Rattle.message.specs.Values.{placed}
use Rattle.message.specs.Reader as reader
use Rattle.message.specs.Reader.{code_in, body_in, read_of}
use Rattle.message.specs.Writer.{info_as, info_of}
use Rattle.message.specs.Promises.{Judged, short, body, unknown, wrong_length, out_of_range, accepted, RightAt, Writable}
use Rattle.message.proofs.Layouts.{rows-most}
use Rattle.message.proofs.Ranges.{placed_at}
use Rattle.message.proofs.ReadSo.{read-so}
use Rattle.message.proofs.RoundTrips.{read-info, writing-undoes-reading}
use Rattle.record.specs.Record.{record_len, book_len, plans_most, empty, ready, k_of, times_end, greens_at, ready_end}
use Rattle.record.proofs.Laws.{octet-below}
use Rattle.checks.specs.Standing.{standing_of}
use Rattle.plan.specs.Setting.{Answered}
use Rattle.plan.specs.Reading.{record_start, record_at}
use Rattle.plan.specs.Setting.{set_times_code, set_plan_code, plan_in, count_in, set_times_of, set_plan_of}
use Rattle.plan.specs.Reporting.{report_plan_code, report_running_code, times_info, plan_info}
use Rattle.plan.specs.Promises.{Disagrees14, Disagrees15, TimesJudged, PlanJudged}
use Rattle.plan.proofs.Sets.{read-times, read-plan, times-body, plan-body}
use Rattle.plan.proofs.Storing.{times-stored-exactly-when}
use Rattle.plan.proofs.Readying.{stands-has, has-stands, plan-stored-exactly-when}
use Rattle.plan.proofs.Reportable.{reports-read}
use Rattle.plan.proofs.Reports.{times-most, plan-most}
use Rattle.controller.specs.Reply.{HandledInNumbers}
use Rattle.controller.specs.State.{State, plan_record, ready_in}
use Rattle.controller.specs.Handling.{reply_info, set_as, unless_unread, run_as, query_times_as, query_plan_as, handling_of}
use Rattle.controller.specs.Demand1.{InDone}
use Rattle.controller.specs.Demand2.{AsWritten, RepliesAsWritten}
use Rattle.controller.proofs.Judging.{sound-parts, record-octets}
use Rattle.controller.proofs.Replying.{plan-in-book, handling-by, by-reply}
use Rattle.controller.proofs.Answering.{read-in-done}
use Rattle.controller.proofs.Serving.{new, message-served, no-silence-free, no_answer_lem}

-- What a refusal names is an octet

read-octet : (info : List ℕ) → (read_of info).refusal < 256
read-octet info = by (read-in-done info)
  where
    by : InDone (read_of info).refusal → (read_of info).refusal < 256
    by (inl h) = omega arith
    by (inr h) = omega (arith, h.1)

read-field : (info : List ℕ) → (read_of info).field < 256
unfolding reader.not_read
read-field info = by ((read-so info (read_of info)).1 refl)
  where
    by : {r : Read} → Judged info r → r.field < 256
    by (short h) = omega arith
    by (body h (unknown n)) = omega arith
    by (body h (wrong_length kn n)) = omega arith
    by (body h (out_of_range n kn r w)) = omega (arith, w.number, w.within, rows-most _ _ r.most)
    by (body h (accepted kn r a)) = omega arith

disagrees-times : {os : List ℕ} {f : ℕ} → k_of os ≤ 8 → Disagrees14 os f → f < 256
disagrees-times h (Disagrees14.maximum i l b d) = omega arith
disagrees-times h (Disagrees14.red_man i l b c d) = omega arith

disagrees-plan : {rec os : List ℕ} {f : ℕ} → count_in os ≤ 8 → Disagrees15 rec os f → f < 256
disagrees-plan h (Disagrees15.count n) = omega arith
disagrees-plan h (Disagrees15.green i l c b n) = omega arith
disagrees-plan h (Disagrees15.cycle c g n) = omega arith
disagrees-plan h (Disagrees15.offset c g e l) = omega arith

module _ (book info : List ℕ) (hb : length book ≡ book_len) where
  times-octets : code_in info ≡ set_times_code → ((set_times_of book info).answer.refusal ≡ refusal.none → ⊥)
      → ((set_times_of book info).answer.refusal < 256) × ((set_times_of book info).answer.field < 256)
  times-octets c n = by (ℕ_discrete (read_of info).refusal refusal.none)
    where
      j : TimesJudged book info
      j = times-stored-exactly-when book info hb c

      by : Dec ((read_of info).refusal ≡ refusal.none) → ((set_times_of book info).answer.refusal < 256) × ((set_times_of book info).answer.field < 256)
      by (no r) = (omega (arith, (j.unread r).0, read-octet info), omega (arith, (j.unread r).1, read-field info))
      by (yes e) = (omega (arith, (j.named e n).0), disagrees-times (times-body (body_in info) (read-times info e c)).count.most (j.named e n).1)

  abbrev old : List ℕ
  old = record_at book (plan_in (body_in info))

  plan-octets : Octets book → code_in info ≡ set_plan_code → ((set_plan_of book info).answer.refusal ≡ refusal.none → ⊥)
      → ((set_plan_of book info).answer.refusal < 256) × ((set_plan_of book info).answer.field < 256)
  plan-octets o c n = by (ℕ_discrete (read_of info).refusal refusal.none) (ℕ_discrete (standing_of old) empty)
    where
      j : PlanJudged book info old
      j = plan-stored-exactly-when book info hb o c

      oo : Octets old
      oo = octets-part record_len (record_start (plan_in (body_in info))) book o

      by : Dec ((read_of info).refusal ≡ refusal.none) → Dec (standing_of old ≡ empty) → ((set_plan_of book info).answer.refusal < 256) × ((set_plan_of book info).answer.field < 256)
      by (no r) d = (omega (arith, (j.unread r).0, read-octet info), omega (arith, (j.unread r).1, read-field info))
      by (yes e) (yes z) = let r = j.unset e (λ t. has-stands old oo t z) in (omega (arith, r.0), omega (arith, r.1))
      by (yes e) (no z) = let r = j.named e (stands-has old oo z) n in (omega (arith, r.0), disagrees-plan (plan-body (body_in info) (read-plan info e c)).count.most r.1)

module _ (s : State) (book info : List ℕ) (hb : length book ≡ book_len) (ob : Octets book) where
  abbrev code : ℕ
  code = code_in info

  abbrev p : ℕ
  p = plan_in (body_in info)

  abbrev named : List ℕ
  named = plan_record s.running.which book p

  abbrev Named : HandledInNumbers → Type 0
  Named h = (h.refusal < 256) × (h.parameter < 256)

  set-named : (a : Answered) → ((a.refusal ≡ refusal.none → ⊥) → (a.refusal < 256) × (a.field < 256)) → Named (set_as code s.requested a)
  unfolding set_as
  set-named a f = pick-by Named (eqb a.refusal refusal.none) (λ _. (omega arith, omega arith)) (λ e. f (eqb-false a.refusal refusal.none e))

  read_named : (h : HandledInNumbers) → Named h → Named (unless_unread code s.requested info h)
  read_named h w = pick-by Named (eqb (read_of info).refusal refusal.none) (λ _. w) (λ _. (read-octet info, read-field info))

  handled-named : Named (handling_of s book info).handled
  unfolding run_as query_times_as query_plan_as
  handled-named =
      handling-by (λ h. Named h.handled) s book info
      (λ c. set-named (set_times_of book info).answer (times-octets book info hb c)) (λ c. set-named (set_plan_of book info).answer (plan-octets book info hb ob c))
      (read_named _ (pick-by Named (ready_in s.running.which book p) (λ _. (omega arith, omega arith)) (λ _. (omega arith, omega arith))))
      (read_named _ (pick-by Named (eqb (standing_of named) empty) (λ _. (omega arith, omega arith)) (λ _. (omega arith, omega arith))))
      (read_named _ (pick-by Named (ready_in s.running.which book p) (λ _. (omega arith, omega arith)) (λ _. (omega arith, omega arith))))
      (read_named _ (omega arith, omega arith))
      (omega arith, omega arith)

-- The messages 0F 80 and 0F 81

abbrev carried_out : ℕ → Message
carried_out code = record { code = 0x0F80; fields = 1; values = placed (code ∷ []) }

abbrev refused : ℕ → ℕ → ℕ → Message
refused code n parameter = record { code = 0x0F81; fields = 3; values = placed (code ∷ n ∷ parameter ∷ []) }

module _ (code : ℕ) (h : code < 65536) where
  carried-out-read : (read_of (0x0F ∷ 0x80 ∷ high_of code ∷ low_of code ∷ [])).refusal ≡ refusal.none
  unfolding number_of first_of layouts layout_at rows_at layout_rows placed info_as
  carried-out-read = ap (λ (r : Read). r.refusal) (read-info (carried_out code) refl writable)
    where
      ranges : (j : ℕ) → j < 1 → RightAt (field.code ∷ []) (placed (code ∷ [])) j
      ranges zero l = (omega arith, omega arith)
      ranges (suc j) l = absurd (omega arith)

      writable : Writable (carried_out code)
      writable =
          record {
            listed = record { first = omega arith; last = omega arith };
            fewest = omega arith;
            most = omega arith;
            fields = refl;
            ranges = ranges;
            rest = λ j l m. placed_at (code ∷ []) j ∙ get_or-eq_default (code ∷ []) 0 l;
          }

  refused-read : (n parameter : ℕ) → n < 256 → parameter < 256 → (read_of (0x0F ∷ 0x81 ∷ high_of code ∷ low_of code ∷ n ∷ parameter ∷ [])).refusal ≡ refusal.none
  unfolding number_of first_of layouts layout_at rows_at layout_rows placed info_as
  refused-read n parameter hn hp =
      ap (λ (i : List ℕ). (read_of i).refusal) (sym octets) ∙ ap (λ (r : Read). r.refusal) (read-info (refused code n parameter) refl writable)
    where
      octets : info_of (refused code n parameter) ≡ 0x0F ∷ 0x81 ∷ high_of code ∷ low_of code ∷ n ∷ parameter ∷ []
      octets = rw (mod-eq_of_lt hn, mod-eq_of_lt hp)

      ranges : (j : ℕ) → j < 3 → RightAt (field.code ∷ field.error_number ∷ field.parameter_number ∷ []) (placed (code ∷ n ∷ parameter ∷ [])) j
      ranges zero l = (omega arith, omega arith)
      ranges (suc zero) l = (omega arith, omega arith)
      ranges (suc (suc zero)) l = (omega arith, omega arith)
      ranges (suc (suc (suc j))) l = absurd (omega arith)

      writable : Writable (refused code n parameter)
      writable =
          record {
            listed = record { first = omega arith; last = omega arith };
            fewest = omega arith;
            most = omega arith;
            fields = refl;
            ranges = ranges;
            rest = λ j l m. placed_at (code ∷ n ∷ parameter ∷ []) j ∙ get_or-eq_default (code ∷ n ∷ parameter ∷ []) 0 l;
          }

-- Every reply

pub record GoodInfo (info : List ℕ) : Type 0 where
  pub octets : Octets info
  pub least : 2 ≤ length info
  pub most : length info ≤ 256
  pub read : (read_of info).refusal ≡ refusal.none

module _ (rec : List ℕ) (p : ℕ) (o : Octets rec) (hp : p ≤ plans_most) where
  times-good : (standing_of rec ≡ empty → ⊥) → GoodInfo (times_info rec p)
  unfolding times_info
  times-good n =
      record {
        octets = (omega arith, (omega arith, (omega arith, octets-part (times_end rec - 1) 1 rec o)));
        least = omega arith;
        most = times-most rec n p;
        read = ((reports-read rec p hp).times n).0;
      }

  plan-good : (code : ℕ) → standing_of rec ≡ ready → (code ≡ report_plan_code) ⊎ (code ≡ report_running_code) → code < 65536 → GoodInfo (plan_info rec p code)
  unfolding plan_info
  plan-good code h c l =
      let at = octet-below rec in
      record {
        octets = (omega arith, (omega arith, (omega arith, (at _ o, (at _ o, (at _ o, octets-part (ready_end rec - greens_at rec) (greens_at rec) rec o))))));
        least = omega arith;
        most = plan-most rec h p code;
        read = ((reports-read rec p hp).plan code h c).0;
      }

module _ (s : State) (book info : List ℕ) (hb : length book ≡ book_len) (ob : Octets book) (oc : Octets s.running.copy) (r : standing_of s.running.copy ≡ ready)
    (hp : s.running.plan ≤ plans_most) (o : Octets info) where
  pub reply-good : GoodInfo (reply_info s book (handling_of s book info).handled.reply)
  unfolding reply_info
  reply-good =
      let c = code_in info in
      let p = plan_in (body_in info) in
      let which = s.running.which in
      let rec = plan_record which book p in
      let a = octet-below info 0 o in
      let b = octet-below info 1 o in
      let l : c < 65536 = omega arith in
      let ro = record-octets which book p ob in
      by-reply s book info (λ h. Named s book info hb ob h → GoodInfo (reply_info s book h.reply))
      (λ q w. record { octets = (omega arith, (omega arith, (omega arith, (omega arith, tt)))); least = omega arith; most = omega arith; read = carried-out-read c l })
      (λ n m w.
      record {
        octets = (omega arith, (omega arith, (omega arith, (omega arith, (w.0, (w.1, tt))))));
        least = omega arith;
        most = omega arith;
        read = refused-read c l n m w.0 w.1;
      })
      (λ n _. times-good rec p ro (plan-in-book which book p hb n) n)
      (λ e _. plan-good rec p ro (plan-in-book which book p hb (λ z. absurd (omega arith))) report_plan_code e (inl refl) (omega arith))
      (λ _. plan-good s.running.copy s.running.plan oc hp report_running_code r (inr refl) (omega arith))
      (handled-named s book info hb ob)

pub as_written : (info : List ℕ) → GoodInfo info → AsWritten info
as_written info g = record { read = g.read; written = λ at out l. writing-undoes-reading info at out g.octets g.read l }

pub replies-as-written : RepliesAsWritten
replies-as-written s book out b seq info h hb ho ob oc oi e c z =
    let u = (sound-parts s h).running in
    let v = (message-served s book out b h hb ho seq s.own info e (inl refl) (new s book out b h hb ho c.new) (no-silence-free s book out b h hb ho s.own info z) (no_answer_lem info c.no_answer)).reply refl in
    let i = reply_info s book (handling_of s book info).handled.reply in
    (i, v.0, as_written i (reply-good s book info hb ob oc u.checks u.plan oi))
