-- 01, "Frames": "The decoder takes one octet a call."
use Rattle.std.specs.Prelude.{ℕ, ◌+◌, ◌-◌, Bool, true, false, not, List, [], ◌∷◌, ◌++◌, eqb, ltb, take, set}
use Rattle.octets.specs.Choice.{pick, both}
use Rattle.octets.specs.ExclusiveOr.{exclusive_or}
use Rattle.octets.specs.Refusal as refusal
use Rattle.octets.specs.declared.refusal.Refusal.{Refusal}
use Rattle.octets.specs.declared.refusal.Refusal.TheVariants as why
use Rattle.octets.specs.Word.{low_of, word_of}
use Rattle.frame.specs.declared.Kind.{Kind}
use Rattle.frame.specs.declared.Kind.TheVariants.{Message, Ack, Nak}
use Rattle.frame.specs.declared.decoder.Place.{Place}
use Rattle.frame.specs.declared.decoder.Place.TheVariants.{Idle, LoneAa, Seq, AddrHigh, AddrLow, LenHigh, LenLow, Info, InfoAa, CloseAa, CloseCc, Err, Cks}
use Rattle.frame.specs.declared.decoder.Head.{Head}
use Rattle.frame.specs.declared.decoder.Found.{Found}
use Rattle.frame.specs.declared.decoder.Found.TheVariants as found
use Rattle.frame.specs.declared.decoder.Stepped.{Stepped}
use Rattle.frame.specs.Frame.{len_fits, info_most, message_len, front}

-- The decoder: its head, and the octets that it keeps for INFO
pub record Decoder : Type 0 where
  pub head : Head
  pub info : List ℕ

-- what a call of it leaves: the refusal, the decoder, and what was found
pub record Taken : Type 0 where
  pub refusal : ℕ
  pub decoder : Decoder
  pub found : Found

-- A head with all its fields given
abbrev pub head_of : Place → Kind → ℕ → ℕ → ℕ → ℕ → ℕ → Head
head_of p k s e a n g = record { place = p; kind = k; seq = s; err = e; addr = a; len = n; filled = g }

-- a decoder at rest, whatever octets are kept
unfoldable pub fresh_head : Head
fresh_head = head_of Idle Message 0 0 0 0 0

abbrev pub fresh_decoder : List ℕ → Decoder
fresh_decoder info = record { head = fresh_head; info = info }

-- Which decoders are possible

-- a message whose LEN is right: no other frame has INFO
abbrev pub has_info : Kind → ℕ → Bool
has_info Message n = len_fits Message n
has_info Ack n = false
has_info Nak n = false

-- a message some of whose INFO is still to come
abbrev pub info_due : Kind → ℕ → ℕ → Bool
info_due k n g = both (has_info k n) (ltb g (n - message_len))

-- a message all of whose INFO is in
abbrev pub info_whole : Kind → ℕ → ℕ → Bool
info_whole k n g = both (has_info k n) (eqb g (n - message_len))

-- a NAK, whose ERR is still to come
abbrev pub err_due : Kind → ℕ → Bool
err_due Message n = false
err_due Ack n = false
err_due Nak n = len_fits Nak n

-- a frame all of which but CKS is in
abbrev pub cks_due : Kind → ℕ → ℕ → Bool
cks_due Message n g = info_whole Message n g
cks_due Ack n g = len_fits Ack n
cks_due Nak n g = len_fits Nak n

-- by the place, the kind, ADDR, LEN and the octets of INFO that are in
abbrev pub possible_at : Place → Kind → ℕ → ℕ → ℕ → Bool
possible_at Idle k a n g = true
possible_at LoneAa k a n g = true
possible_at Seq k a n g = true
possible_at AddrHigh k a n g = true
possible_at AddrLow k a n g = ltb a 256
possible_at LenHigh k a n g = true
possible_at LenLow k a n g = ltb n 256
possible_at Info k a n g = info_due k n g
possible_at InfoAa k a n g = info_due k n g
possible_at CloseAa k a n g = info_whole k n g
possible_at CloseCc k a n g = info_whole k n g
possible_at Err k a n g = err_due k n
possible_at Cks k a n g = cks_due k n g

unfoldable pub possible_of : Head → Bool
possible_of h = possible_at h.place h.kind h.addr h.len h.filled

-- What an octet does to the head, what it finds, and whether it is kept as one of INFO

abbrev pub stepped : Head → Found → Stepped
stepped h f = record { head = h; found = f; keeps = false }

-- the head at another place, of a frame of this kind
abbrev pub head_at : Head → Place → Kind → Head
head_at h p k = head_of p k h.seq h.err h.addr h.len h.filled

-- the same, and what was found
abbrev pub found_at : Head → Place → Kind → Found → Stepped
found_at h p k f = stepped (head_at h p k) f

-- another place, and nothing found
abbrev pub moved : Head → Place → Stepped
moved h p = found_at h p h.kind found.Nothing

-- idle again, after what was found
abbrev pub ended : Head → Found → Stepped
ended h f = found_at h Idle h.kind f

-- a frame of this kind is opened, after what was found
abbrev pub opened : Head → Kind → Found → Stepped
opened h k f = found_at h Seq k f

-- the refusal of the frame that is open
abbrev pub refused_by : Head → Refusal → Found
refused_by h r = found.Refused r h.kind h.seq h.addr

-- "Idle: AA is remembered, all else is dropped."
abbrev pub idle_octet : Head → ℕ → Stepped
idle_octet h b = pick (eqb b 0xAA) (moved h LoneAa) (moved h Idle)

-- is the octet dropped so?
abbrev pub idle_drops : Place → ℕ → Bool
idle_drops Idle b = not (eqb b 0xAA)
idle_drops LoneAa b = false
idle_drops Seq b = false
idle_drops AddrHigh b = false
idle_drops AddrLow b = false
idle_drops LenHigh b = false
idle_drops LenLow b = false
idle_drops Info b = false
idle_drops InfoAa b = false
idle_drops CloseAa b = false
idle_drops CloseCc b = false
idle_drops Err b = false
idle_drops Cks b = false

-- is the octet one of INFO, no AA, behind which others are still to come?
abbrev pub info_goes_on : Place → ℕ → ℕ → ℕ → Bool
info_goes_on Idle n g b = false
info_goes_on LoneAa n g b = false
info_goes_on Seq n g b = false
info_goes_on AddrHigh n g b = false
info_goes_on AddrLow n g b = false
info_goes_on LenHigh n g b = false
info_goes_on LenLow n g b = false
info_goes_on Info n g b = both (not (eqb b 0xAA)) (ltb (message_len + (g + 1)) n)
info_goes_on InfoAa n g b = false
info_goes_on CloseAa n g b = false
info_goes_on CloseCc n g b = false
info_goes_on Err n g b = false
info_goes_on Cks n g b = false

-- "After a lone AA: BB, DD or EE opens a frame, AA stays remembered, all else returns to idle."
abbrev pub after_aa : Head → ℕ → Found → Stepped
after_aa h b f =
    pick (eqb b 0xAA) (found_at h LoneAa h.kind f)
    (pick (eqb b 0xBB) (opened h Message f)
    (pick (eqb b 0xDD) (opened h Ack f)
    (pick (eqb b 0xEE) (opened h Nak f)
    (ended h f))))

-- SEQ, ADDR and LEN come in octet by octet, high octet first; ERR is one
abbrev pub with_seq : Head → ℕ → Stepped
with_seq h b = stepped (head_of AddrHigh h.kind b h.err h.addr h.len h.filled) found.Nothing

abbrev pub with_addr_high : Head → ℕ → Stepped
with_addr_high h b = stepped (head_of AddrLow h.kind h.seq h.err b h.len h.filled) found.Nothing

abbrev pub with_addr : Head → ℕ → Stepped
with_addr h addr = stepped (head_of LenHigh h.kind h.seq h.err addr h.len h.filled) found.Nothing

abbrev pub with_len_high : Head → ℕ → Stepped
with_len_high h b = stepped (head_of LenLow h.kind h.seq h.err h.addr b h.filled) found.Nothing

abbrev pub with_err : Head → ℕ → Stepped
with_err h b = stepped (head_of Cks h.kind h.seq b h.addr h.len h.filled) found.Nothing

-- what follows LEN
abbrev pub after_len : Kind → Place
after_len Message = Info
after_len Ack = Cks
after_len Nak = Err

-- "LEN is judged at its second octet."
abbrev pub len_judged : Head → ℕ → Stepped
len_judged h n =
    pick (len_fits h.kind n)
    (stepped (head_of (after_len h.kind) h.kind h.seq h.err h.addr n 0) found.Nothing)
    (ended h (refused_by h why.LenWrong))

-- "After n octets of INFO come AA and CC": the place where g of them are in
abbrev pub after_info : ℕ → ℕ → Place
after_info n g = pick (ltb (message_len + g) n) Info CloseAa

-- an octet of INFO is kept
abbrev pub kept : Head → Stepped
kept h =
    let g = h.filled + 1 in
    record { head = head_of (after_info h.len g) h.kind h.seq h.err h.addr h.len g; found = found.Nothing; keeps = true }

-- an AA of INFO comes twice: the first is not kept
abbrev pub info_octet : Head → ℕ → Stepped
info_octet h b = pick (eqb b 0xAA) (moved h InfoAa) (kept h)

-- "In INFO an AA followed by something else .. is refusal 2. The wrong octet after an AA is then judged as if it had
-- followed a lone AA"
abbrev pub info_aa_octet : Head → ℕ → Stepped
info_aa_octet h b = pick (eqb b 0xAA) (kept h) (after_aa h b (refused_by h why.ClosingWrong))

-- "or a wrong octet at the AA or CC of the end, is refusal 2"; "a wrong octet where the closing AA was due returns to
-- idle"
abbrev pub close_aa_octet : Head → ℕ → Stepped
close_aa_octet h b = pick (eqb b 0xAA) (moved h CloseCc) (ended h (refused_by h why.ClosingWrong))

-- "The wrong octet after an AA is then judged as if it had followed a lone AA": here too
abbrev pub close_cc_octet : Head → ℕ → Stepped
close_cc_octet h b = pick (eqb b 0xCC) (moved h Cks) (after_aa h b (refused_by h why.ClosingWrong))

-- the octets that are kept of the open frame: to LEN, and from there to CKS before doubling
unfoldable pub front_in : Head → List ℕ
front_in h = front h.kind h.seq h.addr h.len

abbrev pub body_by : Kind → ℕ → List ℕ → List ℕ
body_by Message e i = i ++ (0xAA ∷ 0xCC ∷ [])
body_by Ack e i = []
body_by Nak e i = e ∷ []

-- CKS as it should come, i being the octets kept for INFO
unfoldable pub cks_in : Head → List ℕ → ℕ
cks_in h i = exclusive_or 0 (front_in h ++ body_by h.kind h.err (take h.filled i))

-- the sound frame that has ended
abbrev pub sound_as : Kind → Head → Found
sound_as Message h = found.Message h.seq h.addr h.filled
sound_as Ack h = found.Ack h.seq h.addr
sound_as Nak h = found.Nak h.seq h.addr h.err

abbrev pub sound_by : Head → Found
sound_by h = sound_as h.kind h

-- "Refusals 1 and 3 and the end of a sound frame also leave it idle, with no AA remembered."
abbrev pub cks_octet : Head → List ℕ → ℕ → Stepped
cks_octet h i b = pick (eqb (cks_in h i) b) (ended h (sound_by h)) (ended h (refused_by h why.CksWrong))

abbrev pub step_at : Place → Head → List ℕ → ℕ → Stepped
step_at Idle h i b = idle_octet h b
step_at LoneAa h i b = after_aa h b found.Nothing
step_at Seq h i b = with_seq h b
step_at AddrHigh h i b = with_addr_high h b
step_at AddrLow h i b = with_addr h (word_of (low_of h.addr) b)
step_at LenHigh h i b = with_len_high h b
step_at LenLow h i b = len_judged h (word_of (low_of h.len) b)
step_at Info h i b = info_octet h b
step_at InfoAa h i b = info_aa_octet h b
step_at CloseAa h i b = close_aa_octet h b
step_at CloseCc h i b = close_cc_octet h b
step_at Err h i b = with_err h b
step_at Cks h i b = cks_octet h i b

abbrev pub taken : Head → List ℕ → Found → Taken
taken h i f = record { refusal = refusal.none; decoder = record { head = h; info = i }; found = f }

-- INFO once the octet b is kept, or not
abbrev pub info_then : Decoder → ℕ → Bool → List ℕ
info_then d b keeps = pick keeps (set d.info d.head.filled b) d.info

abbrev pub taken_as : Decoder → ℕ → Stepped → Taken
taken_as d b t = taken t.head (info_then d b t.keeps) t.found

unfoldable pub step_of : Decoder → ℕ → Taken
step_of d b = taken_as d b (step_at d.head.place d.head d.info b)

-- The calls

-- "state handed in is unsound (.. impossible decoder place)": "same state"
abbrev pub unsound : Decoder → Taken
unsound d = record { refusal = refusal.state_unsound; decoder = d; found = found.Nothing }

unfoldable pub taken_of : Decoder → ℕ → Taken
taken_of d b = pick (possible_of d.head) (step_of d b) (unsound d)

-- "A line-idle call, made by the host, returns the decoder to idle and changes nothing else."
unfoldable pub idled_of : Decoder → Taken
idled_of d = pick (possible_of d.head) (taken (head_at d.head Idle d.head.kind) d.info found.Nothing) (unsound d)

-- The octets of INFO are lent: the first 256 are the decoder's, those beyond are nobody's

abbrev pub joined_decoder : Head → List ℕ → Decoder
joined_decoder h kept = record { head = h; info = take info_most kept }
