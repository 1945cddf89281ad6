-- Any two results that a contract allows are equal.
use Rattle.controller.specs.declared.Held.{Held}
use Rattle.controller.proofs.Answering.{one-to-one}
use Rattle.std.proofs.Common.{◌≡◌, ℕ, sym, ap, ◌∙◌}
use Rattle.printout.specs.declared.Run.{Run}
use Rattle.printout_calls.proofs.put_header.Reads as put-header
use Rattle.printout_calls.proofs.put_second.Reads as put_second
use Rattle.printout_calls.proofs.put_reply.Reads as put-reply
use Rattle.printout_calls.proofs.put_again.Reads as put-again
use Rattle.printout_calls.proofs.put_bad.Reads as put-bad
use Rattle.printout_calls.proofs.run.start_asked.Reads as start-asked
use Rattle.printout_calls.proofs.run.run_start.Reads as run-start
use Rattle.printout_calls.proofs.run.on_line.Reads as on_line

only-put_header : (κs : _) (a : _) (r s : _) (x y : _) → put-header.Post κs a r x → put-header.Post κs a s y → (r ≡ s) × (x.0.now ≡ y.0.now)
only-put_header κs a r s x y p q = (p.place ∙ sym q.place, p.holds ∙ sym q.holds)

only-put_second : (κs : _) (a : _) (r s : _) (x y : _) → put_second.Post κs a r x → put_second.Post κs a s y → (r ≡ s) × (x.1.1.1.1.0.now ≡ y.1.1.1.1.0.now)
only-put_second κs a r s x y p q = (p.0.place ∙ sym q.0.place, p.0.holds ∙ sym q.0.holds)

only-put_reply : (κs : _) (a : _) (r s : _) (x y : _) → put-reply.Post κs a r x → put-reply.Post κs a s y → (r ≡ s) × (x.1.1.0.now ≡ y.1.1.0.now)
only-put_reply κs a r s x y p q = (p.place ∙ sym q.place, p.holds ∙ sym q.holds)

only-put_again : (κs : _) (a : _) (r s : _) (x y : _) → put-again.Post κs a r x → put-again.Post κs a s y → (r ≡ s) × (x.1.0.now ≡ y.1.0.now)
only-put_again κs a r s x y p q = (p.place ∙ sym q.place, p.holds ∙ sym q.holds)

only-put_bad : (κs : _) (a : _) (r s : _) (x y : _) → put-bad.Post κs a r x → put-bad.Post κs a s y → (r ≡ s) × (x.1.0.now ≡ y.1.0.now)
only-put_bad κs a r s x y p q = (p.0.place ∙ sym q.0.place, p.0.holds ∙ sym q.0.holds)

only-start_asked : (κs : _) (a : _) (r s : _) (x y : _) → start-asked.Post κs a r x → start-asked.Post κs a s y → r ≡ s
only-start_asked κs a r s x y p q = p ∙ sym q

only-run_start : (κs : _) (a : _) (r s : _) (x y : _) → run-start.Post κs a r x → run-start.Post κs a s y → r ≡ s
only-run_start κs a r s x y p q = p ∙ sym q

run-one : (r s : Run) → r.state ≡ s.state → r.seconds ≡ s.seconds → r.used ≡ s.used → r ≡ s
run-one r s p q u =
    ap {B = Run} (λ (t : Held). record { state = t; seconds = r.seconds; used = r.used }) p
    ∙ ap {B = Run} (λ (n : ℕ). record { state = s.state; seconds = n; used = r.used }) q
    ∙ ap {B = Run} (λ (n : ℕ). record { state = s.state; seconds = s.seconds; used = n }) u

only-on_line : (κs : _) (a : _) (r s : _) (x y : _) → on_line.Post κs a r x → on_line.Post κs a s y
    → (r ≡ s) × (x.1.1.0.now ≡ y.1.1.0.now) × (x.1.1.1.0.now ≡ y.1.1.1.0.now) × (x.1.1.1.1.0.now ≡ y.1.1.1.1.0.now) × (x.1.1.1.1.1.0.now ≡ y.1.1.1.1.1.0.now)
only-on_line κs a r s x y p q =
    let j = one-to-one r.state s.state x.1.1.0.now y.1.1.0.now (p.said.state ∙ sym q.said.state) (p.beyond ∙ sym q.beyond) in (
      run-one r s j.0 (p.said.seconds ∙ sym q.said.seconds) (p.said.text.place ∙ sym q.said.text.place),
      j.1,
      p.book ∙ sym q.book,
      p.out ∙ sym q.out,
      p.said.text.holds ∙ sym q.said.text.holds,
    )
