-- 01, "Messages": what a set reads before its agreement is asked for.
use Rattle.std.specs.Prelude.{ℕ, not, List, eqb}
use Rattle.octets.specs.Choice.{pick}
use Rattle.octets.specs.Refusal as refusal
use Rattle.message.specs.Reader.{Read, not_read, read_of}
use Rattle.record.specs.Record.{book_len}
use Rattle.plan.specs.Setting.{other_code}

-- "plan book is not 3,840 octets"; then "code not handled", of any other; then what the message reader reads
unfoldable pub set_read : ℕ → ℕ → List ℕ → Read
set_read n code info =
    pick (not (eqb n book_len)) (not_read refusal.book_wrong 0)
    (pick (other_code code info) (not_read refusal.code_not_handled 0)
    (read_of info))
