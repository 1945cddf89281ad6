-- Two octets as one number, high octet first.
use Rattle.std.specs.Prelude.{ℕ, ◌+◌, ◌*◌, ◌/◌, ◌%◌, List}
use Rattle.octets.specs.Octet.{octet_at}

abbrev pub high_of : ℕ → ℕ
high_of x = x / 256

abbrev pub low_of : ℕ → ℕ
low_of x = x % 256

abbrev pub word_of : ℕ → ℕ → ℕ
word_of high low = high * 256 + low

-- the number in the two octets from a place on
abbrev pub word_at : List ℕ → ℕ → ℕ
word_at os at = word_of (octet_at os at) (octet_at os (at + 1))
