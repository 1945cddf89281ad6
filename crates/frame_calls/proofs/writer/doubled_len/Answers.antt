-- `frame_calls::writer::doubled_len`: each octet is sent once, and each AA once more.
use Rattle.std.proofs.Common.{◌≡◌, ℕ, suc, ◌+◌, List, [], ◌∷◌, ◌++◌, Bool, true, false, length, cond, refl, eqb, arith, rules}
use Rattle.std.specs.List.{count_by}
use Rattle.std.proofs.lemmas.List.Sums.{count_by-le-length, sum_by-cons}
use Rattle.octets.specs.Choice.{pick}
use Rattle.frame.specs.Frame.{twice, doubled}
use Rattle.frame_calls.proofs.writer.doubled_len.Goals as goal

abbrev is_aa : ℕ → Bool
is_aa b = eqb b 0xAA

-- by whether the first is AA, from the others
one-more : (x : ℕ) (s : List ℕ) (t : Bool) → length (pick t (0xAA ∷ 0xAA ∷ []) (x ∷ []) ++ s) ≡ suc (length s) + cond t 1 0
one-more x s true = omega arith
one-more x s false = omega arith

doubled-long : (s : List ℕ) → length (doubled s) ≡ length s + count_by is_aa s
unfolding doubled twice
doubled-long [] = refl
doubled-long (x ∷ s) =
    let e : length (doubled (x ∷ s)) ≡ suc (length (doubled s)) + cond (is_aa x) 1 0 = one-more x (doubled s) (is_aa x) in
    let n : count_by is_aa (x ∷ s) ≡ cond (is_aa x) 1 0 + count_by is_aa s = sum_by-cons (λ b. cond (is_aa b) 1 0) x s in
    omega (arith, doubled-long s)

pub returns : goal.returns
returns c =
    let s = c.args.info.now in
    let n : c.count.result ≡ count_by is_aa s = search rules in
    let l = count_by-le-length is_aa s in
    let e = doubled-long s in
    (omega arith, omega arith)
