-- INFO of a frame that goes out, as it is put into the octets kept.
use Rattle.std.proofs.Common.{◌≡◌, ℕ, ◌+◌, ◌-◌, ◌≤◌, List, ◌++◌, length, take, drop, sym, refl, ap, arith, length-append, length-drop, length-take-le}
use Rattle.octets.specs.Put.{Put}
use Rattle.octets.proofs.Laws.{put-stored, stored-then, take-sets, drop-sets-past, drop-sets-within, take-sets-past, take-sets-within}
use Rattle.frame.specs.Frame.{info_most}
use Rattle.controller.specs.declared.Out.{Out}
use Rattle.controller.specs.Sender.{out_start, joined_sender, sending}
use Rattle.controller.specs.State.{kept_len}
use Rattle.controller_calls.specs.Sender.{InfoPut, KeptFor}

-- a frame with INFO of this length, sent for the first time
abbrev pub sent_once : ℕ → Out
sent_once n = record { sends = 1; waited = 0; len = n }

-- INFO of n octets as it is kept
module _ (n : ℕ) (kept : List ℕ) where
  pub out-part : take ((out_start + n) - out_start) (drop out_start kept) ≡ take n (drop out_start kept)
  out-part = let j : (out_start + n) - out_start ≡ n = omega arith in ap (λ (i : ℕ). take i (drop out_start kept)) j

  pub out-part-long : n ≤ info_most → kept_len ≤ length kept → length (take n (drop out_start kept)) ≡ n
  out-part-long h l = length-take-le n (drop out_start kept) (omega (arith, length-drop out_start kept))

-- INFO in two runs is put one behind the other
pub parts-put : (head rest : List ℕ) {lent k k' : List ℕ} {p r : ℕ} → length head + length rest ≤ info_most → kept_len ≤ length lent → Put head out_start lent p k → Put rest p k r k'
    → InfoPut (head ++ rest) lent (length head + length rest) k'
parts-put head rest h l u v =
    let a = put-stored u (omega arith) in
    let b = stored-then a (put-stored v (omega (arith, a.place, a.long))) in
    record { count = sym (length-append head rest); octets = b.holds }

module _ {info lent k : List ℕ} {n : ℕ} (p : InfoPut info lent n k) (most : length info ≤ info_most) where
  -- it is what stands there then
  pub info-put : kept_len ≤ length lent → take n (drop out_start k) ≡ info
  info-put l = rw (p.count, p.octets, drop-sets-past out_start lent 0 info) (take-sets info (drop out_start lent) (omega (arith, length-drop out_start lent)))

-- and all other octets stay
pub put-kept : (o : Out) {info lent k : List ℕ} {n : ℕ} → InfoPut info lent n k → length info ≤ info_most → (came : List ℕ) → drop out_start came ≡ drop out_start lent
    → KeptFor (sending (joined_sender o came) info) lent k
unfolding sending
put-kept o {info} {lent} p most came d =
    rw p.octets
    (record {
      decoder = take-sets-past info_most lent out_start info (omega arith);
      memory = rw (drop-sets-past info_most lent info_most info) (take-sets-past info_most (drop info_most lent) info_most info (omega arith));
      out = rw (drop-sets-past out_start lent 0 info, ← d) (take-sets-within info_most (drop out_start came) 0 info (omega arith));
      beyond = drop-sets-within kept_len lent out_start info (omega arith);
    })

-- where nothing is put, all stay
pub kept-as-was : (o : Out) (lent came : List ℕ) → drop out_start came ≡ drop out_start lent → KeptFor (joined_sender o came) lent lent
kept-as-was o lent came d = record { decoder = refl; memory = refl; out = ap (λ (l : List ℕ). take info_most l) (sym d); beyond = refl }
