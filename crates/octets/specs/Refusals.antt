-- 01, "Replies": each refusal has its number, and a call that refuses gives one back.
use Rattle.std.specs.Prelude.{ℕ, ◌≡◌, Option, Some, None}
use Rattle.octets.specs.declared.refusal.Refusal.{Refusal}
use Rattle.octets.specs.declared.refusal.Refusal.TheVariants.{CksWrong, ClosingWrong, LenWrong, InfoWrong, FieldWrong, StartWrong, StateUnsound, BookWrong, OutputShort, CodeNotHandled, InfoLengthWrong, OutOfRange, NotReady, Disagree, SenderBusy, WaitWrong}
use Rattle.octets.specs.Refusal as refusal

abbrev pub refusal_number : Refusal → ℕ
refusal_number CksWrong = refusal.cks_wrong
refusal_number ClosingWrong = refusal.closing_wrong
refusal_number LenWrong = refusal.len_wrong
refusal_number InfoWrong = refusal.info_wrong
refusal_number FieldWrong = refusal.field_wrong
refusal_number StartWrong = refusal.start_wrong
refusal_number StateUnsound = refusal.state_unsound
refusal_number BookWrong = refusal.book_wrong
refusal_number OutputShort = refusal.output_short
refusal_number CodeNotHandled = refusal.code_not_handled
refusal_number InfoLengthWrong = refusal.info_length_wrong
refusal_number OutOfRange = refusal.out_of_range
refusal_number NotReady = refusal.not_ready
refusal_number Disagree = refusal.disagree
refusal_number SenderBusy = refusal.sender_busy
refusal_number WaitWrong = refusal.wait_wrong

-- 0 where nothing is refused
abbrev pub told_number : Option Refusal → ℕ
told_number None = refusal.none
told_number (Some r) = refusal_number r

-- Each name of the code stands for its row in 01's table, or in 02's.
pub record EachNamed : Type 0 where
  pub numbers : (refusal_number CksWrong ≡ 1) × (refusal_number ClosingWrong ≡ 2) × (refusal_number LenWrong ≡ 3) × (refusal_number InfoWrong ≡ 4) × (refusal_number FieldWrong ≡ 5)
      × (refusal_number StartWrong ≡ 6) × (refusal_number StateUnsound ≡ 7) × (refusal_number BookWrong ≡ 8) × (refusal_number OutputShort ≡ 9) × (refusal_number CodeNotHandled ≡ 10)
      × (refusal_number InfoLengthWrong ≡ 11) × (refusal_number OutOfRange ≡ 12) × (refusal_number NotReady ≡ 13) × (refusal_number Disagree ≡ 14) × (refusal_number SenderBusy ≡ 15)
      × (refusal_number WaitWrong ≡ 17)
  pub none : told_number None ≡ 0
  pub some : (r : Refusal) → told_number (Some r) ≡ refusal_number r
  -- no two have one number
  pub apart : (r s : Option Refusal) → told_number r ≡ told_number s → r ≡ s

abbrev pub RefusalsNamedSo : Type 0
RefusalsNamedSo = EachNamed
