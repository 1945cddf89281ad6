-- The promises of specs/Promises.antt: the words by those of the diagrams, the lines as their definitions put them together, 01's listing by
-- computation.
use Prim.Native.Nat.{ℕ, ◌^◌, ◌<◌}
use mathlib.Core.Path.{◌≡◌, refl}
use mathlib.Core.Bool.{Bool, true, false, not}
use mathlib.Core.List.{List, [], ◌∷◌, append_assoc}
use native.Mathlib.Decide.{dec_lt, ℕ_discrete}
use native.Mathlib.Omega.{arith}
use Rattle.std.specs.Prelude.{Some, None}
use borrow.Author.Tests.{eq-eqb, ne_eqb, eqb-true}
use lib.Dec.{eqb, leb}
use lib.ListN.{length, take}
use Rattle.octets.specs.Choice.{pick, both}
use Rattle.octets.specs.ExclusiveOr.{xor, exclusive_or}
use Rattle.octets.specs.First.{first_of}
use Rattle.octets.specs.Same.{same}
use Rattle.octets.proofs.Laws.{pick-by, both_left, both_right, clash}
use Rattle.diagram.specs.Rows as table
use Rattle.diagram.specs.Table as diagram
use Rattle.diagram.proofs.Words.{words-fit}
use Rattle.frame.specs.Frame.{front_of, body_of, sent_of, cks_of, twice, doubled, written}
use Rattle.frame.specs.Decoder.{fresh_head, possible_of, front_in, cks_in, step_of, taken_of}
use Rattle.frame.specs.Dropped.{open_of, stopped, number_then, counted_of, fresh_receiver}
use Rattle.message.specs.Layouts.{layouts, layout_at, known, number_of, rows_at}
use Rattle.message.specs.Layouts as message
use Rattle.message.specs.Values.{zeros, placed, first_out}
use Rattle.message.specs.Reader.{no_message, not_read, part_of, ranged_of, read_part_of, read_of}
use Rattle.record.specs.Record.{book_len, order_of}
use Rattle.checks.specs.Standing.{times_disagree, plan_disagree, ranged, times_stand, plan_stands, ready_stands, all_zero, standing_of}
use Rattle.plan.specs.declared.Which.TheVariants.{Old}
use Rattle.plan.specs.BuiltIn.{padded, built_in}
use Rattle.plan.specs.Reporting.{plan_info}
use Rattle.lamps.specs.Rows.{phase_table, seconds_of, row_at}
use Rattle.lamps.specs.Rows as lamps
use Rattle.lamps.specs.declared.Row.{Row}
use Rattle.lamps.proofs.Second.{lamps-of-step, dark-past}
use Rattle.controller.specs.declared.Link.{Link}
use Rattle.controller.specs.declared.Link.TheVariants as link
use Rattle.controller.specs.Memory.{is_repeat, remembering}
use Rattle.controller.specs.Sender.{out_fits, sending, again_turn, nak_turn, second_turn}
use Rattle.controller.specs.State.{State, output_len, fresh_of, running_sound, sound_of}
use Rattle.controller.specs.Handling.{reply_info, handling_of}
use Rattle.controller.specs.Replies.{replied_of, accepted_of, met_with_silence, message_of, answered_of, memory_of, done_of, octet_of}
use Rattle.controller.specs.Seconds.{Shown, moved_on, no_second, second_of}
use Rattle.text.specs.Text.{digits, places_within, places, decimal, blank_hex2, spaced, octets_hex}
use Rattle.text.proofs.Means.{hex-means}
use Rattle.line.specs.Line as line
use Rattle.line.specs.Promises.{founds, line_after, found_in}
use Rattle.printout.specs.Listing.{header, field, word_text, numbers, second_line, octets_line, reply_line, again_line, octet_line, bad_line}
use Rattle.printout.specs.Run.{is_old, start_asked, run_start, second_made, bad_said, octet_made, line_made, listing_from, listing_of}
use Rattle.printout.specs.Promises.{WordWhole, WordsWhole, SecondPrinted, ReplyPrinted, none, some, AgainPrinted, nothing, again, WrittenPrinted, LinesPrint, StartsAsked, ListingBegins, TwoSeconds, ReplyAndBad, SentAgain}

-- Words

whole : (word : ℕ) → word < 2 ^ 64 → WordWhole word
unfolding word_text
whole word h = hex-means 16 word (omega arith)

abbrev pub Fits : Row → Type 0
Fits r = (r.steady < 2 ^ 64) × (r.flashing < 2 ^ 64)

row_fits : (rec : List ℕ) (p : ℕ) → Fits (row_at rec p)
row_fits rec p =
    elim (dec_lt p (length (lamps.rows_of rec))) [
      | yes h ↦ let d = lamps-of-step rec p h in let w = words-fit (order_of rec) (row_at rec p).step in (rw d.steady w.0, rw d.flashing w.1)
      | no h ↦ let d = dark-past rec p (omega arith) in (rw d.steady (omega arith), rw d.flashing (omega arith))
    ]

second_fits : (s : State) (book out : List ℕ) → Fits (second_of s book out).row
unfolding second_of no_second
second_fits s book out =
    let P : Shown → Type 0 = λ w. Fits w.row in
    pick-by P (not (sound_of s)) (λ _. (omega arith, omega arith))
    (λ _. pick-by P (not (eqb (length book) book_len)) (λ _. (omega arith, omega arith))
    (λ _. pick-by P (not (leb output_len (length out))) (λ _. (omega arith, omega arith)) (λ _. row_fits s.running.copy s.running.position)))

pub words-whole : WordsWhole
words-whole s book out = let f = second_fits s book out in (whole (second_of s book out).row.steady f.0, whole (second_of s book out).row.flashing f.1)

-- What each line does and prints

pub second-printed : (n plan : ℕ) (row : Row) → Fits row → SecondPrinted n plan row (second_line n plan row)
unfolding field numbers second_line
second-printed n plan row f =
    record {
      steady = word_text row.steady;
      flashing = word_text row.flashing;
      columns = simp append_assoc;
      steady_whole = whole row.steady f.0;
      flashing_whole = whole row.flashing f.1;
    }

pub reply-printed : (xs : List ℕ) (n : ℕ) → ReplyPrinted xs n (reply_line xs n)
unfolding octets_line reply_line
reply-printed [] n = none
reply-printed (x ∷ xs) n = some

pub again-printed : (xs : List ℕ) → AgainPrinted xs (again_line xs)
unfolding octets_line again_line
again-printed [] = nothing
again-printed (x ∷ xs) = again

octet-printed : (l : Link) (xs : List ℕ) (n : ℕ) → WrittenPrinted l xs n (octet_line l xs n)
unfolding octet_line
octet-printed link.Again xs n = again-printed xs
octet-printed link.Still xs n = reply-printed xs n
octet-printed link.Heard xs n = reply-printed xs n
octet-printed link.Down xs n = reply-printed xs n

pub lines-print : LinesPrint
unfolding line_made second_made bad_said bad_line octet_made
lines-print s n b o =
    record {
      second = let w = second_of s b o in
          record {
            state = refl;
            seconds = refl;
            line = record {
              first = second_line n w.plan w.row;
              behind = again_line (take w.told.count w.out);
              joined = refl;
              first_so = second-printed n w.plan w.row (second_fits s b o);
              behind_so = again-printed (take w.told.count w.out);
            };
            book = refl;
            out = refl;
          };
      octet = λ x. let w = octet_of s b o x in
          record {
            state = refl;
            seconds = refl;
            line = octet-printed w.answer.told.link (take w.answer.told.count w.out) w.answer.told.dropped;
            book = refl;
            out = refl;
          };
      bad = λ k. record { state = refl; seconds = refl; line = refl; book = refl; out = refl };
      more = record { state = refl; seconds = refl; line = refl; book = refl; out = refl };
    }

-- The start

old-is : (word : List ℕ) → is_old word ≡ true → word ≡ 0x6F ∷ 0x6C ∷ 0x64 ∷ []
unfolding is_old
old-is [] h = absurd (clash refl h)
old-is (x ∷ []) h = absurd (clash refl h)
old-is (x ∷ y ∷ []) h = absurd (clash refl h)
old-is (x ∷ y ∷ z ∷ []) h =
    let g = both_right (eqb x 0x6F) (both (eqb y 0x6C) (eqb z 0x64)) h in
    rw (
      eqb-true x 0x6F (both_left (eqb x 0x6F) (both (eqb y 0x6C) (eqb z 0x64)) h),
      eqb-true y 0x6C (both_left (eqb y 0x6C) (eqb z 0x64) g),
      eqb-true z 0x64 (both_right (eqb y 0x6C) (eqb z 0x64) g),
    )
old-is (x ∷ y ∷ z ∷ t ∷ word) h = absurd (omega (arith, eqb-true (length (x ∷ y ∷ z ∷ t ∷ word)) 3 (both_left _ _ h)))

pub starts-asked : StartsAsked
unfolding start_asked is_old
starts-asked =
    record {
      plain = λ word. refl;
      old = refl;
      other = λ words word n o. rw (ne_eqb words 0 n) (by words word o (ℕ_discrete words 1) (is_old word) refl);
    }
  where
    by : (words : ℕ) (word : List ℕ) → (words ≡ 1 → word ≡ 0x6F ∷ 0x6C ∷ 0x64 ∷ [] → ⊥) → Dec (words ≡ 1) → (t : Bool) → is_old word ≡ t
        → pick (both (eqb words 1) (is_old word)) (Some Old) None ≡ None
    by words word o (no m) t h = rw (ne_eqb words 1 m)
    by words word o (yes e) true h = absurd (o e (old-is word h))
    by words word o (yes e) false h = rw (eq-eqb words 1 e, h)

pub listing_begins : ListingBegins
unfolding fresh_receiver run_start header listing_from listing_of fresh_of
listing_begins which = record { state = λ kept. refl; seconds = refl; used = refl; listing = λ input. refl; ended = λ s n b o. refl; next = λ s n b o f fs. refl }

-- 01's listing

pub two-seconds : TwoSeconds
unfolding first_of diagram.find table.directory diagram.diagram_of table.lamp_rows diagram.row_number diagram.lamp_row_of fresh_head possible_of layouts layout_at known number_of rows_at message.layout_rows zeros placed first_out no_message not_read part_of ranged_of read_part_of read_of times_disagree plan_disagree ranged times_stand plan_stands ready_stands all_zero standing_of padded built_in same phase_table seconds_of lamps.counted_down lamps.rows_from lamps.rows_of row_at out_fits second_turn fresh_of running_sound sound_of moved_on second_of digits line.line_octet line.end_of founds line_after found_in header places_within places decimal field word_text numbers second_line octets_line again_line second_made line_made listing_from listing_of
two-seconds = (refl, refl)

pub reply-and-bad : ReplyAndBad
unfolding xor exclusive_or first_of diagram.find table.directory diagram.diagram_of table.lamp_rows diagram.row_number diagram.lamp_row_of front_of body_of sent_of cks_of twice doubled written fresh_head possible_of front_in cks_in step_of taken_of open_of stopped number_then counted_of layouts layout_at known number_of rows_at message.layout_rows zeros placed first_out no_message not_read part_of ranged_of read_part_of read_of times_disagree plan_disagree ranged times_stand plan_stands ready_stands all_zero standing_of padded built_in same plan_info phase_table seconds_of out_fits sending fresh_of running_sound sound_of reply_info handling_of replied_of is_repeat remembering accepted_of met_with_silence message_of memory_of done_of octet_of digits line.hex_of line.line_octet line.end_of founds line_after found_in header places_within places decimal blank_hex2 spaced octets_hex octets_line reply_line octet_line bad_line octet_made bad_said line_made listing_from listing_of
reply-and-bad = (refl, refl)

pub sent-again : SentAgain
unfolding xor exclusive_or first_of diagram.find table.directory diagram.diagram_of table.lamp_rows diagram.row_number diagram.lamp_row_of front_of body_of sent_of cks_of twice doubled written fresh_head possible_of front_in cks_in step_of taken_of open_of stopped number_then counted_of layouts layout_at known number_of rows_at message.layout_rows zeros placed first_out no_message not_read part_of ranged_of read_part_of read_of times_disagree plan_disagree ranged times_stand plan_stands ready_stands all_zero standing_of padded built_in same plan_info phase_table seconds_of out_fits sending fresh_of running_sound sound_of reply_info handling_of replied_of is_repeat accepted_of met_with_silence message_of memory_of done_of octet_of digits line.hex_of line.line_octet line.end_of founds line_after found_in header places_within places decimal blank_hex2 spaced octets_hex octets_line reply_line octet_line octet_made line_made listing_from listing_of lamps.counted_down lamps.rows_from lamps.rows_of row_at second_turn moved_on second_of field word_text numbers second_line again_line second_made again_turn nak_turn answered_of remembering
sent-again = refl
