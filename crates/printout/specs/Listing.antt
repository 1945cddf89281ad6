-- 01, "Cases": what the listing program prints, in ASCII.
use Rattle.std.specs.Prelude.{ℕ, List, [], ◌∷◌, ◌++◌}
use Rattle.text.specs.Text.{ascii, hex16, decimal, octets_hex}
use Rattle.line.specs.Line.{tab, line_feed}
use Rattle.lamps.specs.declared.Row.{Row}
use Rattle.controller.specs.declared.Link.{Link}
use Rattle.controller.specs.declared.Link.TheVariants as link

-- The most places: of a number and its tab, of a lamp word and what follows it, of a second's whole line, of that with the word of a resend behind
-- it, and of what ends a reply's

abbrev pub field_most : ℕ
field_most = 21

abbrev pub word_most : ℕ
word_most = 17

abbrev pub line_most : ℕ
line_most = 118

abbrev pub head_most : ℕ
head_most = 124

abbrev pub tail_most : ℕ
tail_most = 7

-- "It prints a header"
unfoldable pub header : List ℕ
header = ascii "second\tplan\tstep\tleft\tsteady\tflashing\n"

-- "fields parted by tabs": a number, and the tab after it
unfoldable pub field : ℕ → List ℕ
field n = decimal n ++ tab ∷ []

-- 02, E2: "The listing prints sixteen digits a word."
unfoldable pub word_text : ℕ → List ℕ
word_text x = hex16 x

-- "for each T one line (seconds so far, plan, step, left, steady and flashing ..)"
unfoldable pub numbers : ℕ → ℕ → Row → List ℕ
numbers n plan row = field n ++ field plan ++ field row.step ++ field row.left

unfoldable pub second_line : ℕ → ℕ → Row → List ℕ
second_line n plan row = numbers n plan row ++ (word_text row.steady ++ tab ∷ []) ++ (word_text row.flashing ++ line_feed ∷ [])

-- 02, E5: "the listing prints it as a reply line's third field": how many octets were dropped, the tab before it and the end of the line
abbrev pub reply_tail : ℕ → List ℕ
reply_tail n = tab ∷ decimal n ++ line_feed ∷ []

-- octets in hex with spaces, with what stands before and behind them in their line; without octets there is no line
unfoldable pub octets_line : List ℕ → List ℕ → List ℕ → List ℕ
octets_line before [] behind = []
octets_line before (x ∷ xs) behind = before ++ octets_hex (x ∷ xs) ++ behind

-- "for each call that wrote a reply `reply`, tab, octets in hex with spaces": the octets that the call wrote, and the number that it told
unfoldable pub reply_line : List ℕ → ℕ → List ℕ
reply_line xs n = octets_line (ascii "reply\t") xs (reply_tail n)

-- 02, E6: "prints a resend as `again`, tab, octets"
unfoldable pub again_line : List ℕ → List ℕ
again_line xs = octets_line (ascii "again\t") xs (line_feed ∷ [])

-- the line of what an octet call wrote: a resend's where the link says that the frame out went again, else a reply's
unfoldable pub octet_line : Link → List ℕ → ℕ → List ℕ
octet_line link.Again xs n = again_line xs
octet_line link.Still xs n = reply_line xs n
octet_line link.Heard xs n = reply_line xs n
octet_line link.Down xs n = reply_line xs n

-- "for a bad line `bad`, tab, its number from 1"
unfoldable pub bad_line : ℕ → List ℕ
bad_line n = ascii "bad\t" ++ decimal n ++ line_feed ∷ []
