-- 01, "Cases": the texts that are put, and what a line leaves, stated from outside.
use Rattle.std.specs.Prelude.{ℕ, ◌^◌, ◌≤◌, ◌<◌, ◌≡◌, List, [], ◌∷◌, ◌++◌, length, drop}
use Rattle.octets.specs.Promises.{PutSo}
use Rattle.text.specs.Text.{ascii, decimal}
use Rattle.lamps.specs.declared.Row.{Row}
use Rattle.controller.specs.State.{joined}
use Rattle.printout.specs.declared.Run.{Run}
use Rattle.printout.specs.Listing.{line_most, header, second_line, reply_line, again_line, bad_line}
use Rattle.printout.specs.Run.{text_most, Making, Listed}
use Rattle.printout.specs.Promises.{SecondPrinted, ReplyPrinted, AgainPrinted}

-- The texts

-- "It prints a header", the columns of a second, a reply and the octets dropped, a resend, "for a bad line `bad`, tab, its number"; and the most octets of a line
pub record EachPut : Type 0 where
  pub header : header ≡ ascii "second\tplan\tstep\tleft\tsteady\tflashing\n"
  pub second : (n plan : ℕ) (row : Row) → row.steady < 2 ^ 64 → row.flashing < 2 ^ 64 → SecondPrinted n plan row (second_line n plan row)
  pub reply : (os : List ℕ) (n : ℕ) → ReplyPrinted os n (reply_line os n)
  pub again : (os : List ℕ) → AgainPrinted os (again_line os)
  pub bad : (n : ℕ) → bad_line n ≡ ascii "bad\t" ++ decimal n ++ 0x0A ∷ []
  pub line_most : line_most ≡ 118
  pub text_most : text_most ≡ 1756

abbrev pub PutsAsSaid : Type 0
PutsAsSaid = EachPut

-- What a line leaves

-- the run r, the octets k that were lent, the book b and the output o are those that the line makes, and its text, never longer than
-- 1,756, is put behind what was used
pub record Left (m : Making) (lent : List ℕ) (used : ℕ) (t : List ℕ) (r : Run) (k b o t' : List ℕ) : Type 0 where
  pub state : joined r.state k ≡ m.said.state
  pub octets : k ≡ m.said.state.decoder.info ++ (m.said.state.memory.info ++ (m.said.state.sender.info ++ drop 768 lent))
  pub seconds : r.seconds ≡ m.said.seconds
  pub text : PutSo m.said.text used t r.used t'
  pub short : length m.said.text ≤ 1756
  pub book : b ≡ m.book
  pub out : o ≡ m.out

abbrev pub LinesLeave : Type 0
LinesLeave =
    (m : Making) (lent : List ℕ) (used : ℕ) (t : List ℕ) (r : Run) (k b o t' : List ℕ) → Listed m lent used t r k b o t' → Left m lent used t r k b o t'
