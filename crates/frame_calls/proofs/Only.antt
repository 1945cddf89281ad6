-- Any two results that a contract allows are equal.
use mathlib.Core.Path.{◌≡◌, refl, sym, ◌∙◌}
use Rattle.octets.proofs.Refusals.{told-apart, written-apart}
use Rattle.frame.proofs.Lent.{received-one-to-one}
use Rattle.frame_calls.proofs.receiver.fresh.Reads as fresh
use Rattle.frame_calls.proofs.receiver.octet.Reads as octet
use Rattle.frame_calls.proofs.receiver.stopped.Reads as stopped
use Rattle.frame_calls.proofs.receiver.line_idle.Reads as line-idle
use Rattle.frame_calls.proofs.decoder.possible.Reads as possible
use Rattle.frame_calls.proofs.decoder.idle_drops.Reads as idle-drops
use Rattle.frame_calls.proofs.decoder.info_goes_on.Reads as info-goes-on
use Rattle.frame_calls.proofs.writer.write_message.Reads as write-message
use Rattle.frame_calls.proofs.writer.refuses_message.Reads as refuses-message
use Rattle.frame_calls.proofs.writer.write_message_from.Reads as write-message-from
use Rattle.frame_calls.proofs.writer.write_ack.Reads as write-ack
use Rattle.frame_calls.proofs.writer.write_nak.Reads as write-nak

only-fresh : (κs : _) (a : _) (r s : _) (x y : _) → fresh.Post κs a r x → fresh.Post κs a s y → r ≡ s
only-fresh κs a r s x y p q = p ∙ sym q

only-octet : (κs : _) (a : _) (r s : _) (x y : _) → octet.Post κs a r x → octet.Post κs a s y → (r ≡ s) × (x.1.0.now ≡ y.1.0.now)
only-octet κs a r s x y p q = received-one-to-one r s x.1.0.now y.1.0.now (p.answer ∙ sym q.answer) (p.beyond ∙ sym q.beyond)

only-line_idle : (κs : _) (a : _) (r s : _) (x y : _) → line-idle.Post κs a r x → line-idle.Post κs a s y → r ≡ s
only-line_idle κs a r s x y p q = (received-one-to-one r s a.1.0.now a.1.0.now (p ∙ sym q) refl).0

only-stopped : (κs : _) (a : _) (r s : _) (x y : _) → stopped.Post κs a r x → stopped.Post κs a s y → r ≡ s
only-stopped κs a r s x y p q = p ∙ sym q

only-possible : (κs : _) (a : _) (r s : _) (x y : _) → possible.Post κs a r x → possible.Post κs a s y → r ≡ s
only-possible κs a r s x y p q = p ∙ sym q

only-info_goes_on : (κs : _) (a : _) (r s : _) (x y : _) → info-goes-on.Post κs a r x → info-goes-on.Post κs a s y → r ≡ s
only-info_goes_on κs a r s x y p q = p ∙ sym q

only-idle_drops : (κs : _) (a : _) (r s : _) (x y : _) → idle-drops.Post κs a r x → idle-drops.Post κs a s y → r ≡ s
only-idle_drops κs a r s x y p q = p ∙ sym q

only-write_message : (κs : _) (a : _) (r s : _) (x y : _) → write-message.Post κs a r x → write-message.Post κs a s y
    → (r ≡ s) × (x.1.1.1.0.now ≡ y.1.1.1.0.now)
only-write_message κs a r s x y p q = (written-apart r s (p.answer ∙ sym q.answer), p.out ∙ sym q.out)

only-refuses_message : (κs : _) (a : _) (r s : _) (x y : _) → refuses-message.Post κs a r x → refuses-message.Post κs a s y → r ≡ s
only-refuses_message κs a r s x y p q = told-apart r s (p 0 0 ∙ sym (q 0 0))

only-write_message_from : (κs : _) (a : _) (r s : _) (x y : _) → write-message-from.Post κs a r x → write-message-from.Post κs a s y
    → (r ≡ s) × (x.1.1.1.1.0.now ≡ y.1.1.1.1.0.now)
only-write_message_from κs a r s x y p q = (written-apart r s (p.answer ∙ sym q.answer), p.out ∙ sym q.out)

only-write_ack : (κs : _) (a : _) (r s : _) (x y : _) → write-ack.Post κs a r x → write-ack.Post κs a s y
    → (r ≡ s) × (x.1.1.0.now ≡ y.1.1.0.now)
only-write_ack κs a r s x y p q = (written-apart r s (p.answer ∙ sym q.answer), p.out ∙ sym q.out)

only-write_nak : (κs : _) (a : _) (r s : _) (x y : _) → write-nak.Post κs a r x → write-nak.Post κs a s y
    → (r ≡ s) × (x.1.1.1.0.now ≡ y.1.1.1.0.now)
only-write_nak κs a r s x y p q = (written-apart r s (p.answer ∙ sym q.answer), p.out ∙ sym q.out)
