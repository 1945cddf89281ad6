-- Where the count k stands: each code's layout is computed.
use Prim.Native.Nat.{ℕ}
use mathlib.Core.Path.{◌≡◌, refl, ap}
use mathlib.Core.List.{List}
use lib.ListN.{get_or, drop}
use lib.Seq.{drop-drop, get_or-drop}
use Rattle.octets.specs.First.{first_of}
use Rattle.message.specs.declared.Message.{Message}
use Rattle.message.specs.Layouts.{layouts, layout_at, number_of}
use Rattle.message.specs.Values.{numbered}
use Rattle.message.specs.Counts.{CountsAsSaid}
use Rattle.message.proofs.Values.{value-one}

abbrev k : Message → ℕ → ℕ
k m c = numbered m.values (layout_at (number_of c)).count

third : (os : List ℕ) → get_or (drop 1 (drop 1 (drop 1 os))) 0 0 ≡ get_or os 3 0
third os = simp (drop-drop, get_or-drop)

pub counts-as-said : CountsAsSaid
unfolding number_of first_of layouts layout_at
counts-as-said =
    record {
      layout = λ m. refl;
      carried_out = record { octets = λ os. refl; values = λ m e. ap (k m) e; fewest = refl; most = refl };
      refused = record { octets = λ os. refl; values = λ m e. ap (k m) e; fewest = refl; most = refl };
      set_times = record { octets = λ os. value-one os 1; values = λ m e. ap (k m) e; fewest = refl; most = refl };
      report_times = record { octets = λ os. value-one os 1; values = λ m e. ap (k m) e; fewest = refl; most = refl };
      set_plan = record { octets = third; values = λ m e. ap (k m) e; fewest = refl; most = refl };
      report_plan = record { octets = third; values = λ m e. ap (k m) e; fewest = refl; most = refl };
      report_running = record { octets = third; values = λ m e. ap (k m) e; fewest = refl; most = refl };
      run = record { octets = λ os. refl; values = λ m e. ap (k m) e; fewest = refl; most = refl };
      query_times = record { octets = λ os. refl; values = λ m e. ap (k m) e; fewest = refl; most = refl };
      query_plan = record { octets = λ os. refl; values = λ m e. ap (k m) e; fewest = refl; most = refl };
      query_running = record { octets = λ os. refl; values = λ m e. ap (k m) e; fewest = refl; most = refl };
    }
