-- 01, "Cases", and 02, E2: what each line of the input does and prints; the lamp words are printed whole; two T lines print what 01
-- shows, its words with sixteen digits, and P1's octets their reply; 02, E1: which start the program's words ask for, and both starts' cases;
-- 02, E5: a reply line's third field; E6: a resend's line.
use Rattle.std.specs.Prelude.{ℕ, ◌+◌, ◌%◌, ◌^◌, ◌≡◌, List, [], ◌∷◌, ◌++◌, take, replicate, Some, None}
use Rattle.text.specs.Text.{ascii, decimal, octets_hex}
use Rattle.text.specs.Promises.{Means}
use Rattle.line.specs.declared.LineFound.{LineFound}
use Rattle.line.specs.declared.LineFound.TheVariants as found
use Rattle.line.specs.Line.{first_line}
use Rattle.line.specs.Promises.{found_in}
use Rattle.plan.specs.declared.Which.{Which}
use Rattle.plan.specs.declared.Which.TheVariants.{New, Old}
use Rattle.lamps.specs.declared.Row.{Row}
use Rattle.controller.specs.declared.Link.{Link}
use Rattle.controller.specs.declared.Link.TheVariants as link
use Rattle.controller.specs.State.{State, joined, fresh_of}
use Rattle.controller.specs.Replies.{octet_of}
use Rattle.controller.specs.Seconds.{second_of}
use Rattle.printout.specs.Listing.{word_text}
use Rattle.printout.specs.Run.{Making, start_asked, run_start, line_made, listing_from, listing_of}

-- The lamp words

-- sixteen hex digits that stand for the word
abbrev pub WordWhole : ℕ → Type 0
WordWhole word = Means 16 16 word (word_text word)

-- whatever a second shows, no lit lamp is missing from its line
abbrev pub WordsWhole : Type 0
WordsWhole = (s : State) (book out : List ℕ) → WordWhole (second_of s book out).row.steady × WordWhole (second_of s book out).row.flashing

-- What a line prints

-- "fields parted by tabs": 09 between two of them, and 0A after the last
abbrev pub parted : List (List ℕ) → List ℕ
parted [] = 0x0A ∷ []
parted (x ∷ []) = x ++ (0x0A ∷ [])
parted (x ∷ y ∷ rest) = x ++ (0x09 ∷ parted (y ∷ rest))

-- "(seconds so far, plan, step, left, steady and flashing ..)": the numbers in decimal, the words in sixteen hex digits
pub record SecondPrinted (n plan : ℕ) (row : Row) (text : List ℕ) : Type 0 where
  pub steady : List ℕ
  pub flashing : List ℕ
  pub columns : text ≡ parted (decimal n ∷ decimal plan ∷ decimal row.step ∷ decimal row.left ∷ steady ∷ flashing ∷ [])
  pub steady_whole : Means 16 16 row.steady steady
  pub flashing_whole : Means 16 16 row.flashing flashing

-- "for each call that wrote a reply `reply`, tab, octets in hex with spaces"; a call that wrote none prints nothing; 02, E5: "the listing prints it
-- as a reply line's third field", the number of octets dropped in decimal
pub data ReplyPrinted : List ℕ → ℕ → List ℕ → Type 0 where
  none : {n : ℕ} → ReplyPrinted [] n []
  some : {x : ℕ} {xs : List ℕ} {n : ℕ} → ReplyPrinted (x ∷ xs) n (parted (ascii "reply" ∷ octets_hex (x ∷ xs) ∷ decimal n ∷ []))

-- 02, E6: "prints a resend as `again`, tab, octets"; a call that sent nothing again prints nothing
pub data AgainPrinted : List ℕ → List ℕ → Type 0 where
  nothing : AgainPrinted [] []
  again : {x : ℕ} {xs : List ℕ} → AgainPrinted (x ∷ xs) (parted (ascii "again" ∷ octets_hex (x ∷ xs) ∷ []))

-- "after its T line if any": one text, and the other behind it
pub record BothPrinted (A B : List ℕ → Type 0) (text : List ℕ) : Type 0 where
  pub first : List ℕ
  pub behind : List ℕ
  pub joined : text ≡ first ++ behind
  pub first_so : A first
  pub behind_so : B behind

-- what an octet call wrote: where the frame out went again a resend's line and no reply's, else a reply's
abbrev pub WrittenPrinted : Link → List ℕ → ℕ → List ℕ → Type 0
WrittenPrinted link.Again xs n text = AgainPrinted xs text
WrittenPrinted link.Still xs n text = ReplyPrinted xs n text
WrittenPrinted link.Heard xs n text = ReplyPrinted xs n text
WrittenPrinted link.Down xs n text = ReplyPrinted xs n text

-- What a line does, with n seconds so far, and with the book b and the output o

-- "`T` is a second": the second call, its line and that of the octets which it wrote; the seconds so far are one more, modulo 2^64
pub record SecondMakes (s : State) (n : ℕ) (b o : List ℕ) (m : Making) : Type 0 where
  pub state : m.said.state ≡ (second_of s b o).state
  pub seconds : m.said.seconds ≡ (n + 1) % 2 ^ 64
  pub line : BothPrinted (SecondPrinted n (second_of s b o).plan (second_of s b o).row) (AgainPrinted (take (second_of s b o).told.count (second_of s b o).out)) m.said.text
  pub book : m.book ≡ b
  pub out : m.out ≡ (second_of s b o).out

-- "an octet": the octet call, and the line of what it wrote and of the octets dropped that it told
pub record OctetMakes (s : State) (n : ℕ) (b o : List ℕ) (x : ℕ) (m : Making) : Type 0 where
  pub state : m.said.state ≡ (octet_of s b o x).answer.state
  pub seconds : m.said.seconds ≡ n
  pub line : WrittenPrinted (octet_of s b o x).answer.told.link (take (octet_of s b o x).answer.told.count (octet_of s b o x).out) (octet_of s b o x).answer.told.dropped m.said.text
  pub book : m.book ≡ (octet_of s b o x).book
  pub out : m.out ≡ (octet_of s b o x).out

-- no call: all is as it was, and the text is added
pub record OnlyPrints (s : State) (n : ℕ) (b o text : List ℕ) (m : Making) : Type 0 where
  pub state : m.said.state ≡ s
  pub seconds : m.said.seconds ≡ n
  pub line : m.said.text ≡ text
  pub book : m.book ≡ b
  pub out : m.out ≡ o

-- "for a bad line `bad`, tab, its number from 1"; where no line has ended, nothing is done
pub record LinesMake (s : State) (n : ℕ) (b o : List ℕ) : Type 0 where
  pub second : SecondMakes s n b o (line_made (Some found.Second) s n b o)
  pub octet : (x : ℕ) → OctetMakes s n b o x (line_made (Some (found.Octet x)) s n b o)
  pub bad : (k : ℕ) → OnlyPrints s n b o (ascii "bad\t" ++ decimal k ++ 0x0A ∷ []) (line_made (Some (found.Bad k)) s n b o)
  pub more : OnlyPrints s n b o [] (line_made None s n b o)

-- Whatever the state, the seconds so far, the book and the output.
abbrev pub LinesPrint : Type 0
LinesPrint = (s : State) (n : ℕ) (b o : List ℕ) → LinesMake s n b o

-- The start

-- without a word the plain start is asked for, with the one word `old`, 6F 6C 64, the other; whatever else it is given, the program does
-- not know it
pub record WordsAsk : Type 0 where
  pub plain : (word : List ℕ) → start_asked 0 word ≡ Some New
  pub old : start_asked 1 (0x6F ∷ 0x6C ∷ 0x64 ∷ []) ≡ Some Old
  pub other : (words : ℕ) (word : List ℕ) → (words ≡ 0 → ⊥) → (words ≡ 1 → word ≡ 0x6F ∷ 0x6C ∷ 0x64 ∷ [] → ⊥) → start_asked words word ≡ None

abbrev pub StartsAsked : Type 0
StartsAsked = WordsAsk

-- "starts fresh at address 0001 with an empty book", no second so far; 02, E6: "The listing has T = 10"; "It prints a header", then what each line prints, one after
-- another, each with what the one before it made
pub record ListingStarts (which : Which) : Type 0 where
  pub state : (kept : List ℕ) → joined (run_start which).state kept ≡ fresh_of which 0x0001 10 kept
  pub seconds : (run_start which).seconds ≡ 0
  pub used : (run_start which).used ≡ 0
  pub listing : (input : List ℕ) → listing_of which input
      ≡ ascii "second\tplan\tstep\tleft\tsteady\tflashing\n"
      ++ listing_from (fresh_of which 0x0001 10 (replicate 768 0x00)) 0 (replicate 3840 0x00) (replicate 544 0x00) (found_in first_line input)
  pub ended : (s : State) (n : ℕ) (b o : List ℕ) → listing_from s n b o [] ≡ []
  pub next : (s : State) (n : ℕ) (b o : List ℕ) (f : LineFound) (fs : List LineFound) → listing_from s n b o (f ∷ fs)
      ≡ (line_made (Some f) s n b o).said.text
      ++ listing_from (line_made (Some f) s n b o).said.state (line_made (Some f) s n b o).said.seconds (line_made (Some f) s n b o).book (line_made (Some f) s n b o).out fs

abbrev pub ListingBegins : Type 0
ListingBegins = (which : Which) → ListingStarts which

-- 01's listing

-- "Two T lines give, fields parted by tabs"; 02, E2: "The listing prints sixteen digits a word."; E1: "Step 1 then starts at 28", with the old
-- plan at 18
abbrev pub TwoSeconds : Type 0
TwoSeconds =
    (listing_of New (ascii "T\nT\n")
    ≡ ascii "second\tplan\tstep\tleft\tsteady\tflashing\n"
    ++ ascii "0\t0\t1\t28\t0000000041418888\t0000000000000000\n"
    ++ ascii "1\t0\t1\t27\t0000000041418888\t0000000000000000\n")
    × (listing_of Old (ascii "T\nT\n")
    ≡ ascii "second\tplan\tstep\tleft\tsteady\tflashing\n"
    ++ ascii "0\t0\t1\t18\t0000000041418888\t0000000000000000\n"
    ++ ascii "1\t0\t1\t17\t0000000041418888\t0000000000000000\n")

-- P1 as octets, in capitals or not, and a bad line: "`reply`, tab, octets in hex with spaces, and for a bad line `bad`, tab, its
-- number from 1"; the reply is P2 and P3, E1's and the old one, and no octet was dropped before P1
abbrev pub p1_and_bad : List ℕ
p1_and_bad = ascii "B\tAA\nB\tBB\nB\t07\nB\t00\nB\t01\nB\t00\nB\t0c\nB\t5F\nB\t48\nB\taa\nB\tCC\nB\t6a\nB\t6\n"

abbrev pub ReplyAndBad : Type 0
ReplyAndBad =
    (listing_of New p1_and_bad
    ≡ ascii "second\tplan\tstep\tleft\tsteady\tflashing\n"
    ++ ascii "reply\tAA DD 07 00 01 00 08 79 AA BB 00 00 01 00 18 5F C8 00 00 00 02 00 23 00 23 00 50 00 00 AA CC AB\t0\nbad\t13\n")
    × (listing_of Old p1_and_bad
    ≡ ascii "second\tplan\tstep\tleft\tsteady\tflashing\n"
    ++ ascii "reply\tAA DD 07 00 01 00 08 79 AA BB 00 00 01 00 18 5F C8 00 00 00 02 00 19 00 19 00 3C 00 00 AA CC C7\t0\nbad\t13\n")

-- 02, E6: P1, ten seconds, which are its T, and a NAK with our SEQ: "prints a resend as `again`, tab, octets, after its T line if any"; what goes again is
-- P3
abbrev pub p1_unheard : List ℕ
p1_unheard =
    ascii "B\tAA\nB\tBB\nB\t07\nB\t00\nB\t01\nB\t00\nB\t0C\nB\t5F\nB\t48\nB\tAA\nB\tCC\nB\t6A\n"
    ++ ascii "T\nT\nT\nT\nT\nT\nT\nT\nT\nT\n"
    ++ ascii "B\tAA\nB\tEE\nB\t00\nB\t00\nB\t01\nB\t00\nB\t09\nB\t01\nB\t4D\n"

abbrev pub SentAgain : Type 0
SentAgain =
    listing_of New p1_unheard
    ≡ ascii "second\tplan\tstep\tleft\tsteady\tflashing\n"
    ++ ascii "reply\tAA DD 07 00 01 00 08 79 AA BB 00 00 01 00 18 5F C8 00 00 00 02 00 23 00 23 00 50 00 00 AA CC AB\t0\n"
    ++ ascii "0\t0\t1\t28\t0000000041418888\t0000000000000000\n"
    ++ ascii "1\t0\t1\t27\t0000000041418888\t0000000000000000\n"
    ++ ascii "2\t0\t1\t26\t0000000041418888\t0000000000000000\n"
    ++ ascii "3\t0\t1\t25\t0000000041418888\t0000000000000000\n"
    ++ ascii "4\t0\t1\t24\t0000000041418888\t0000000000000000\n"
    ++ ascii "5\t0\t1\t23\t0000000041418888\t0000000000000000\n"
    ++ ascii "6\t0\t1\t22\t0000000041418888\t0000000000000000\n"
    ++ ascii "7\t0\t1\t21\t0000000041418888\t0000000000000000\n"
    ++ ascii "8\t0\t1\t20\t0000000041418888\t0000000000000000\n"
    ++ ascii "9\t0\t1\t19\t0000000041418888\t0000000000000000\n"
    ++ ascii "again\tAA BB 00 00 01 00 18 5F C8 00 00 00 02 00 23 00 23 00 50 00 00 AA CC AB\n"
    ++ ascii "again\tAA BB 00 00 01 00 18 5F C8 00 00 00 02 00 23 00 23 00 50 00 00 AA CC AB\n"
