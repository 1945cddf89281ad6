-- Any two results that a contract allows are equal.
use mathlib.Core.Path.{◌≡◌, sym, ◌∙◌}
use Rattle.octets.proofs.Refusals.{written-apart}
use Rattle.message.proofs.Answers.{readers-answer-so}
use Rattle.message_calls.proofs.info.Reader.open.Reads as «open»
use Rattle.message_calls.proofs.info.Reader.field.Reads as field
use Rattle.message_calls.proofs.layout.passes.Reads as passes
use Rattle.message_calls.proofs.reader.read.Reads as read
use Rattle.message_calls.proofs.writer.write.Reads as write

only-passes : (κs : _) (a : _) (r s : _) (x y : _) → passes.Post κs a r x → passes.Post κs a s y → r ≡ s
only-passes κs a r s x y p q = p ∙ sym q

only-read : (κs : _) (a : _) (r s : _) (x y : _) → read.Post κs a r x → read.Post κs a s y → r ≡ s
only-read κs a r s x y p q = readers-answer-so.apart r s (p ∙ sym q)

only-write : (κs : _) (a : _) (r s : _) (x y : _) → write.Post κs a r x → write.Post κs a s y → (r ≡ s) × (x.1.0.now ≡ y.1.0.now)
only-write κs a r s x y p q = (written-apart r s (p.answer ∙ sym q.answer), p.out ∙ sym q.out)

only-open : (κs : _) (a : _) (r s : _) (x y : _) → «open».Post κs a r x → «open».Post κs a s y → r ≡ s
only-open κs a r s x y p q = p ∙ sym q

only-field : (κs : _) (a : _) (r s : _) (x y : _) → field.Post κs a r x → field.Post κs a s y → r ≡ s
only-field κs a r s x y p q = p ∙ sym q
