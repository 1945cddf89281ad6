-- 01, "Messages": "count k", in the octets after a code and in a message, and the layout that a message has.
use Rattle.std.specs.Prelude.{ℕ, ◌≡◌, List, get_or}
use Rattle.message.specs.declared.Message.{Message}
use Rattle.message.specs.Layouts.{layout_at, number_of}
use Rattle.message.specs.Reader.{k_in}
use Rattle.message.specs.Writer.{number_in, k_of_message}

-- "k is 1 to 8": k is the octet at this place, from 0, and the value there, since the fields before it have one octet each
pub record CountAt (c place : ℕ) : Type 0 where
  pub octets : (os : List ℕ) → k_in (layout_at (number_of c)) os ≡ get_or os place 0
  pub values : (m : Message) → m.code ≡ c → k_of_message m ≡ get_or m.values place 0
  pub fewest : (layout_at (number_of c)).fewest ≡ 1
  pub most : (layout_at (number_of c)).most ≡ 8

-- nothing comes k times: k is 0, and no value has to do with it
pub record NoCount (c : ℕ) : Type 0 where
  pub octets : (os : List ℕ) → k_in (layout_at (number_of c)) os ≡ 0
  pub values : (m : Message) → m.code ≡ c → k_of_message m ≡ 0
  pub fewest : (layout_at (number_of c)).fewest ≡ 0
  pub most : (layout_at (number_of c)).most ≡ 0

-- "plan, count k, .." and "plan, direct, phase order, count k, .."
pub record EachCount : Type 0 where
  pub layout : (m : Message) → number_in m ≡ number_of m.code
  pub carried_out : NoCount 0x0F80
  pub refused : NoCount 0x0F81
  pub set_times : CountAt 0x5F14 1
  pub report_times : CountAt 0x5FC4 1
  pub set_plan : CountAt 0x5F15 3
  pub report_plan : CountAt 0x5FC5 3
  pub report_running : CountAt 0x5FC8 3
  pub run : NoCount 0x5F18
  pub query_times : NoCount 0x5F44
  pub query_plan : NoCount 0x5F45
  pub query_running : NoCount 0x5F48

abbrev pub CountsAsSaid : Type 0
CountsAsSaid = EachCount
