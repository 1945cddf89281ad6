-- What is out stays what can be out: of a length that INFO can have, sent 1 to 5 times, and waiting for less than T seconds.
use Prim.Native.Nat.{ℕ, ◌≤◌}
use mathlib.Core.Path.{◌≡◌, refl, ap, ◌∙◌}
use mathlib.Core.Bool.{true, not}
use mathlib.Core.Logic.{inl, inr}
use mathlib.Core.List.{List}
use native.Mathlib.Omega.{arith}
use borrow.Author.Tests.{eq-eqb}
use lib.Dec.{eqb}
use lib.ListN.{length}
use lib.Seq.{length-sets}
use Rattle.octets.proofs.Laws.{pick-by, both_left, clash}
use Rattle.frame.specs.Frame.{message, ack, nak, info_least, info_most}
use Rattle.frame.specs.Run.{Outcome, nothing, refused, sound}
use Rattle.message.specs.Reader.{code_in}
use Rattle.controller.specs.declared.Event.{Event}
use Rattle.controller.specs.declared.Out.{Out}
use Rattle.controller.specs.declared.Turn.{Turn}
use Rattle.controller.specs.Memory.{is_repeat}
use Rattle.controller.specs.Sender.{Sender, wait_least, out_seq, sending, again_turn, answers_out, ack_turn, nak_turn, second_turn}
use Rattle.controller.specs.State.{State}
use Rattle.controller.specs.Handling.{reply_info, handling_of}
use Rattle.controller.specs.Replies.{for_us, is_answer, ResultAndBook, met_with_silence, replied_of, accepted_of, message_of, answered_of, brought_of}
use Rattle.controller.proofs.Judging.{OutParts, OutFits, SoundParts}
use Rattle.controller.proofs.Laws.{again_by, ack-by, nak-by, second-by}
use Rattle.controller.proofs.Replying.{reply-fits, reply-least}

-- an ACK or NAK answers what is out
pub answers-out : (ours : ℕ) (o : Out) (n : ℕ) → answers_out ours o n ≡ true → o.len ≡ 0 → ⊥
answers-out ours o n h e = clash (ap not (eq-eqb o.len 0 e)) (both_left (not (eqb o.len 0)) (eqb n (out_seq ours)) h)

module _ (t : ℕ) (o : Out) (h : wait_least ≤ t) where
  abbrev Right : Turn → Type 0
  Right r = OutFits t r.out

  again-fits : OutParts t o → Right (again_turn o)
  again-fits p =
      again_by o Right (λ l. inr (record { least = omega arith; most = omega arith; waited = omega arith; long = p.long; short = p.short })) (λ _. inl refl)

  -- where one is out, it is one that can be
  pub out-is : OutFits t o → (o.len ≡ 0 → ⊥) → OutParts t o
  out-is (inl e) n = absurd (n e)
  out-is (inr p) n = p

  module _ (f : OutFits t o) where
    pub ack-fits : (ours n : ℕ) → Right (ack_turn ours o n)
    ack-fits ours n = ack-by o Right ours n (λ _. inl refl) (λ _. f)

    pub nak-fits : (ours n : ℕ) → Right (nak_turn ours o n)
    nak-fits ours n = nak-by o Right ours n (λ h. again-fits (out-is f (answers-out ours o n h))) (λ _. f)

    pub second_fits : Right (second_turn t o)
    second_fits =
        second-by o t Right (λ _. f)
        (λ n l. let p = out-is f n in inr (record { least = p.least; most = p.most; waited = l; long = p.long; short = p.short }))
        (λ n _. again-fits (out-is f n))

-- the frame out and the octets of its INFO
abbrev pub SenderFits : ℕ → Sender → Type 0
SenderFits t q = (length q.info ≡ info_most) × OutFits t q.out

pub sending-fits : (t : ℕ) (q : Sender) (info : List ℕ) → wait_least ≤ t → length q.info ≡ info_most → info_least ≤ length info → length info ≤ info_most → SenderFits t (sending q info)
unfolding sending
sending-fits t q info h l least most =
    (length-sets q.info 0 info ∙ l, inr (record { least = omega arith; most = omega arith; waited = omega arith; long = least; short = most }))

-- after an octet
module _ (s : State) (p : SoundParts s) (book : List ℕ) where
  abbrev Fits : ResultAndBook → Type 0
  Fits w = SenderFits s.wait w.result.sender

  as-was : SenderFits s.wait s.sender
  as-was = (p.out_info, p.out)

  message-fits : (seq addr : ℕ) (info : List ℕ) → Fits (message_of s seq addr info book)
  unfolding message_of accepted_of replied_of
  message-fits seq addr info =
      pick-by Fits (for_us s.own addr)
      (λ _. pick-by Fits (is_repeat s.memory seq info) (λ _. as-was)
      (λ _. pick-by Fits (met_with_silence s addr info) (λ _. as-was)
      (λ _. pick-by Fits (is_answer (code_in info)) (λ _. as-was)
      (λ _. pick-by (SenderFits s.wait) (eqb addr s.own)
      (λ _. sending-fits s.wait s.sender (reply_info s book (handling_of s book info).handled.reply) p.wait.0 p.out_info (reply-least s book info p.running.checks) (reply-fits s book info p.running.checks))
      (λ _. as-was)))))
      (λ _. as-was)

  answered-fits : (addr : ℕ) (e : Event) (t : Turn) → OutFits s.wait t.out → Fits (answered_of s addr e t book)
  unfolding answered_of
  answered-fits addr e t f = pick-by Fits (eqb addr s.own) (λ _. (p.out_info, f)) (λ _. as-was)

  pub brought-fits : (o : Outcome) → Fits (brought_of o s book)
  brought-fits nothing = as-was
  brought-fits (refused n k seq addr) = as-was
  brought-fits (sound (message seq addr info)) = message-fits seq addr info
  brought-fits (sound (ack seq addr)) = answered-fits addr _ _ (ack-fits s.wait s.sender.out p.wait.0 p.out s.seq seq)
  brought-fits (sound (nak seq addr err)) = answered-fits addr _ _ (nak-fits s.wait s.sender.out p.wait.0 p.out s.seq seq)
