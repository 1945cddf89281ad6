-- 01, "Cases": the listing: which call each line of the input makes, and the text that it adds.
use Rattle.std.specs.Prelude.{ℕ, ◌+◌, ◌%◌, ◌^◌, ◌≤◌, ◌≡◌, Bool, List, [], ◌∷◌, ◌++◌, eqb, length, get_or, take, drop, replicate, Option, Some, None}
use Rattle.octets.specs.Choice.{pick, both}
use Rattle.octets.specs.Put.{Put}
use Rattle.frame.specs.Dropped.{fresh_receiver}
use Rattle.record.specs.Record.{empty_book}
use Rattle.plan.specs.declared.Which.{Which}
use Rattle.plan.specs.declared.Which.TheVariants.{New, Old}
use Rattle.plan.specs.BuiltIn.{built_in}
use Rattle.controller.specs.Memory.{none_accepted}
use Rattle.controller.specs.Sender.{none_out}
use Rattle.controller.specs.State.{State, joined, kept_len, output_len, started_at, fresh_of}
use Rattle.controller.specs.Replies.{octet_of}
use Rattle.controller.specs.Seconds.{second_of}
use Rattle.line.specs.declared.LineFound.{LineFound}
use Rattle.line.specs.declared.LineFound.TheVariants as found
use Rattle.line.specs.Line.{first_line}
use Rattle.line.specs.Promises.{found_in}
use Rattle.printout.specs.declared.Run.{Run}
use Rattle.printout.specs.Listing.{header, second_line, again_line, octet_line, bad_line}

-- "starts fresh at address 0001"
abbrev pub own : ℕ
own = 0x0001

-- 02, E6: "The listing has T = 10"
abbrev pub listing_wait : ℕ
listing_wait = 10

unfoldable pub run_start : Which → Run
run_start which =
    record {
      state = record { own = own; seq = 0; requested = 0; wait = listing_wait; receiver = fresh_receiver; last = none_accepted; out = none_out; running = started_at which 0 (built_in which) };
      seconds = 0;
      used = 0;
    }

-- the word `old`: 6F 6C 64
unfoldable pub is_old : List ℕ → Bool
is_old word = both (eqb (length word) 3) (both (eqb (get_or word 0 0) 0x6F) (both (eqb (get_or word 1 0) 0x6C) (eqb (get_or word 2 0) 0x64)))

-- 02, E1: "A start call that names the old built-in plan stays for those lessons; the plain start takes the new one.": `words` is how many
-- words stand after the program's name, and `word` is the first of them; None where the program does not know them
unfoldable pub start_asked : ℕ → List ℕ → Option Which
start_asked words word = pick (eqb words 0) (Some New) (pick (both (eqb words 1) (is_old word)) (Some Old) None)

-- no line of the input adds more: 118 places of a second's line, and behind it six and three for each of the 544 octets that a resend can have; a
-- reply, with a tab, five digits and no second's line before it, has fewer
abbrev pub text_most : ℕ
text_most = 1756

-- the state and the seconds so far after a line, and the text that it adds
pub record Saying : Type 0 where
  pub state : State
  pub seconds : ℕ
  pub text : List ℕ

-- and the book and the output
pub record Making : Type 0 where
  pub said : Saying
  pub book : List ℕ
  pub out : List ℕ

-- r is the run so, with these octets kept, and the text, filled up to `used`, t before and t' now, has the line's behind it where
-- there is room
pub record Said (w : Saying) (kept : List ℕ) (used : ℕ) (t : List ℕ) (r : Run) (t' : List ℕ) : Type 0 where
  pub state : joined r.state kept ≡ w.state
  pub seconds : r.seconds ≡ w.seconds
  pub text : Put w.text used t r.used t'
  pub short : length w.text ≤ text_most

-- the octets lent are k now, those beyond as they came
pub record Listed (m : Making) (lent : List ℕ) (used : ℕ) (t : List ℕ) (r : Run) (k b o t' : List ℕ) : Type 0 where
  pub said : Said m.said k used t r t'
  pub beyond : drop kept_len k ≡ drop kept_len lent
  pub book : b ≡ m.book
  pub out : o ≡ m.out

-- "`T` is a second": the line has the seconds before it, modulo 2^64, and what the second call answers; 02, E6: "prints a resend .. after its T line":
-- what the call wrote is the first of the output
unfoldable pub second_made : State → ℕ → List ℕ → List ℕ → Making
second_made s n book out =
    let w = second_of s book out in
    record {
      said = record { state = w.state; seconds = (n + 1) % 2 ^ 64; text = second_line n w.plan w.row ++ again_line (take w.told.count w.out) };
      book = book;
      out = w.out;
    }

-- "for a bad line": no call
unfoldable pub bad_said : State → ℕ → ℕ → Saying
bad_said s n number = record { state = s; seconds = n; text = bad_line number }

-- a bad line has nothing to do with the octets kept
abbrev pub BadWith : Run → ℕ → List ℕ → Run → List ℕ → Type 0
BadWith run number t r t' = (kept : List ℕ) → Said (bad_said (joined run.state kept) run.seconds number) kept run.used t r t'

-- "an octet": what the octet call wrote is the first of the output, and the number of octets dropped and how the link stands are what it told
unfoldable pub octet_made : State → ℕ → List ℕ → List ℕ → ℕ → Making
octet_made s n book out b =
    let w = octet_of s book out b in
    record {
      said = record { state = w.answer.state; seconds = n; text = octet_line w.answer.told.link (take w.answer.told.count w.out) w.answer.told.dropped };
      book = w.book;
      out = w.out;
    }

-- by what the line was; None where no line has ended
unfoldable pub line_made : Option LineFound → State → ℕ → List ℕ → List ℕ → Making
line_made None s n book out = record { said = record { state = s; seconds = n; text = [] }; book = book; out = out }
line_made (Some found.Second) s n book out = second_made s n book out
line_made (Some (found.Octet b)) s n book out = octet_made s n book out b
line_made (Some (found.Bad k)) s n book out = record { said = bad_said s n k; book = book; out = out }

-- The listing of a whole input

unfoldable pub listing_from : State → ℕ → List ℕ → List ℕ → List LineFound → List ℕ
listing_from s n book out [] = []
listing_from s n book out (f ∷ fs) =
    let m = line_made (Some f) s n book out in
    m.said.text ++ listing_from m.said.state m.said.seconds m.book m.out fs

-- "starts fresh at address 0001 with an empty book"; the octets that are lent are 0 at first
unfoldable pub listing_of : Which → List ℕ → List ℕ
listing_of which input = header ++ listing_from (fresh_of which own listing_wait (replicate kept_len 0)) 0 empty_book (replicate output_len 0) (found_in first_line input)
