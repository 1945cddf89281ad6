-- The names stand for 01's numbers, and a set's contract for what it says: each by computation.
use mathlib.Core.Path.{refl}
use Rattle.plan.specs.Numbers.{BookNumbers}
use Rattle.plan.specs.Promises.{SetsLeaveSo}

pub book-numbers : BookNumbers
book-numbers =
    record {
      book_octets = refl;
      record_octets = refl;
      plans = refl;
      start = λ p. refl;
      stands = λ book p. refl;
      states = (refl, refl, refl);
      sets = (refl, refl);
      reports = (refl, refl, refl);
      bodies = λ body. record { plan = refl; direct = refl; order = refl; count = refl; green = λ i. refl; cycle = refl; offset = refl };
    }

pub sets-leave-so : SetsLeaveSo
sets-leave-so w r b l = (l.answer, l.book)
