-- Where an octet stands to a range.
use Rattle.std.proofs.Common.{◌≡◌, ℕ, ◌<◌, ◌≤◌, true, false, le-leb}
use borrow.Author.Tests.{lt-leb}
use Rattle.line.specs.Line.{within}

module _ (a z o : ℕ) where
  pub inside : a ≤ o → o ≤ z → within a z o ≡ true
  inside h k = rw (le-leb a o h, le-leb o z k)

  pub above : a ≤ o → z < o → within a z o ≡ false
  above h k = rw (le-leb a o h, lt-leb o z k)
