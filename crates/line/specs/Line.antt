-- 01, "Cases": the listing program "reads lines: `T` is a second, `B`, tab, two hex digits an octet".
use Rattle.std.specs.Prelude.{ℕ, ◌+◌, ◌-◌, ◌*◌, ◌%◌, ◌^◌, Bool, ◌==◌, nat_le, Option, Some, None}
use Rattle.std.specs.Option.{option_map_or}
use Rattle.octets.specs.Choice.{pick, both}
use Rattle.line.specs.declared.Seen.{Seen}
use Rattle.line.specs.declared.Seen.TheVariants as seen
use Rattle.line.specs.declared.LineFound.{LineFound}
use Rattle.line.specs.declared.LineFound.TheVariants as found
use Rattle.line.specs.declared.Line.{Line}
use Rattle.line.specs.declared.LineTaken.{LineTaken}

-- the octets that a line may have, and the one that ends it
abbrev pub letter_t : ℕ
letter_t = 0x54

abbrev pub letter_b : ℕ
letter_b = 0x42

abbrev pub tab : ℕ
tab = 0x09

abbrev pub line_feed : ℕ
line_feed = 0x0A

abbrev pub within : ℕ → ℕ → ℕ → Bool
within a z o = both (nat_le a o) (nat_le o z)

-- "Hex .. is read in either case": `0` to `9`, `A` to `F`, `a` to `f`
unfoldable pub hex_of : ℕ → Option ℕ
hex_of o =
    pick (within 0x30 0x39 o) (Some (o - 0x30))
    (pick (within 0x41 0x46 o) (Some (o - 0x41 + 10))
    (pick (within 0x61 0x66 o) (Some (o - 0x61 + 10)) None))

-- What has been seen with one octet more, which is no line feed

abbrev pub first_seen : ℕ → Seen
first_seen o = pick (o == letter_t) seen.Second (pick (o == letter_b) seen.Begun seen.Bad)

abbrev pub due_of : ℕ → ℕ → Seen → Seen
due_of o only then = pick (o == only) then seen.Bad

abbrev pub high_digit : ℕ → Seen
high_digit o = option_map_or seen.High (hex_of o) seen.Bad

abbrev pub low_digit : ℕ → ℕ → Seen
low_digit h o = option_map_or (λ (d : ℕ). seen.Octet (h % 16 * 16 + d % 16)) (hex_of o) seen.Bad

abbrev pub seen_of : Seen → ℕ → Seen
seen_of seen.Nothing o = first_seen o
seen_of seen.Begun o = due_of o tab seen.Tab
seen_of seen.Tab o = high_digit o
seen_of (seen.High h) o = low_digit h o
seen_of seen.Second o = seen.Bad
seen_of (seen.Octet b) o = seen.Bad
seen_of seen.Bad o = seen.Bad

-- what a whole line is, n being its number
abbrev pub whole_of : Seen → ℕ → LineFound
whole_of seen.Second n = found.Second
whole_of (seen.Octet b) n = found.Octet b
whole_of seen.Nothing n = found.Bad n
whole_of seen.Begun n = found.Bad n
whole_of seen.Tab n = found.Bad n
whole_of (seen.High h) n = found.Bad n
whole_of seen.Bad n = found.Bad n

-- The calls

-- "its number from 1"
abbrev pub line_numbered : ℕ → Line
line_numbered n = record { seen = seen.Nothing; number = n }

abbrev pub first_line : Line
first_line = line_numbered 1

-- the number of the next line, modulo 2^64
abbrev pub next_number : ℕ → ℕ
next_number n = (n + 1) % 2 ^ 64

-- one octet of the input
unfoldable pub line_octet : Line → ℕ → LineTaken
line_octet l o =
    pick (o == line_feed) (record { line = line_numbered (next_number l.number); found = Some (whole_of l.seen l.number) })
    (record { line = record { seen = seen_of l.seen o; number = l.number }; found = None })

-- what the end of the input finds in what has been seen of line n; nothing seen is no line
abbrev pub end_in : Seen → ℕ → Option LineFound
end_in seen.Nothing n = None
end_in seen.Second n = Some found.Second
end_in (seen.Octet b) n = Some (found.Octet b)
end_in seen.Begun n = Some (found.Bad n)
end_in seen.Tab n = Some (found.Bad n)
end_in (seen.High h) n = Some (found.Bad n)
end_in seen.Bad n = Some (found.Bad n)

unfoldable pub end_of : Line → Option LineFound
end_of l = end_in l.seen l.number
