-- 01, "Lamps and seconds": what a lamp is, and the lamp rule over the whole table.
use Rattle.std.specs.Prelude.{ℕ, ◌+◌, ◌*◌, ◌-◌, ◌/◌, ◌%◌, ◌^◌, ◌<◌, ◌≡◌, Bool, true, false, ◌||◌, ◌⊎◌, List, [], ◌∷◌, eqb}
use Rattle.diagram.specs.declared.LampRow.{LampRow}
use Rattle.diagram.specs.Table.{approaches_of, lamp_row_of, steady_of, flashing_of}
use Rattle.diagram.specs.Known.{Step}

-- Lamps

abbrev pub bit : ℕ → ℕ → Bool
bit word i = eqb (word / 2 ^ i % 2) 1

-- "Lamp number m is bit m-1 of a 64-bit steady word and a flashing word."
abbrev pub lamp_in : ℕ → ℕ → Bool
lamp_in word m = bit word (m - 1)

-- a lamp is lit where it is steady or flashing
unfoldable pub lit : LampRow → ℕ → Bool
lit r m = lamp_in r.steady m || lamp_in r.flashing m

-- "Per approach A to D the lamps are red, yellow, left, round, straight, right green, red man, green man: 1 to 8 for A, 9 to 16 for B, on to 32."
-- Approach A is a = 0, on to H with a = 7: a word of 64 bits has eight approaches of eight lamps.
abbrev pub red_lit : LampRow → ℕ → Bool
red_lit r a = lit r (8 * a + 1)

abbrev pub yellow_lit : LampRow → ℕ → Bool
yellow_lit r a = lit r (8 * a + 2)

abbrev pub left_lit : LampRow → ℕ → Bool
left_lit r a = lit r (8 * a + 3)

abbrev pub round_lit : LampRow → ℕ → Bool
round_lit r a = lit r (8 * a + 4)

abbrev pub straight_lit : LampRow → ℕ → Bool
straight_lit r a = lit r (8 * a + 5)

abbrev pub right_lit : LampRow → ℕ → Bool
right_lit r a = lit r (8 * a + 6)

abbrev pub red_man_lit : LampRow → ℕ → Bool
red_man_lit r a = lit r (8 * a + 7)

abbrev pub green_man_of : ℕ → ℕ
green_man_of a = 8 * a + 8

abbrev pub green_man_lit : LampRow → ℕ → Bool
green_man_lit r a = lit r (green_man_of a)

-- any of the four greens
unfoldable pub green_lit : LampRow → ℕ → Bool
green_lit r a = left_lit r a || (round_lit r a || (straight_lit r a || right_lit r a))

-- the eight lamps of an approach, in 01's order
abbrev pub lamps_of : LampRow → ℕ → List Bool
lamps_of r a =
    red_lit r a ∷ yellow_lit r a ∷ left_lit r a ∷ round_lit r a ∷ straight_lit r a ∷ right_lit r a ∷ red_man_lit r a ∷ green_man_lit r a ∷ []

-- bit i is 1 in the steady word or in the flashing word
abbrev pub bit_lit : LampRow → ℕ → Bool
bit_lit r i = eqb (r.steady / 2 ^ i % 2) 1 || eqb (r.flashing / 2 ^ i % 2) 1

-- bit i and the seven after it
abbrev pub eight_bits : LampRow → ℕ → List Bool
eight_bits r i = bit_lit r i ∷ bit_lit r (i + 1) ∷ bit_lit r (i + 2) ∷ bit_lit r (i + 3) ∷ bit_lit r (i + 4) ∷ bit_lit r (i + 5) ∷ bit_lit r (i + 6) ∷ bit_lit r (i + 7) ∷ []

-- "1 to 8 for A, 9 to 16 for B, on to 32. Lamp number m is bit m-1": A has bits 0 to 7, B 8 to 15, C 16 to 23, D 24 to 31; and so on
-- for 02's "up to .. eight approaches".
pub record Numbered (r : LampRow) : Type 0 where
  pub a : lamps_of r 0 ≡ eight_bits r 0
  pub b : lamps_of r 1 ≡ eight_bits r 8
  pub c : lamps_of r 2 ≡ eight_bits r 16
  pub d : lamps_of r 3 ≡ eight_bits r 24
  pub e : lamps_of r 4 ≡ eight_bits r 32
  pub f : lamps_of r 5 ≡ eight_bits r 40
  pub g : lamps_of r 6 ≡ eight_bits r 48
  pub h : lamps_of r 7 ≡ eight_bits r 56
  pub word : (w m : ℕ) → lamp_in w m ≡ eqb (w / 2 ^ (m - 1) % 2) 1
  pub lamp : (m : ℕ) → lit r m ≡ bit_lit r (m - 1)
  -- "left, round, straight, right green" are four lamps: green is any of them
  pub green : (n : ℕ) → green_lit r n ≡ (bit_lit r (8 * n + 2) || (bit_lit r (8 * n + 3) || (bit_lit r (8 * n + 4) || bit_lit r (8 * n + 5))))
  -- the green man is an approach's last lamp, 8 for A, 16 for B
  pub green_man : (n : ℕ) → green_man_of n ≡ 8 * n + 8

abbrev pub LampsNumbered : Type 0
LampsNumbered = (r : LampRow) → Numbered r

-- The lamp rule

pub record RedAlone (r : LampRow) (a : ℕ) : Type 0 where
  pub red : red_lit r a ≡ true
  pub yellow : yellow_lit r a ≡ false
  pub green : green_lit r a ≡ false

pub record YellowAlone (r : LampRow) (a : ℕ) : Type 0 where
  pub red : red_lit r a ≡ false
  pub yellow : yellow_lit r a ≡ true
  pub green : green_lit r a ≡ false

pub record GreenAlone (r : LampRow) (a : ℕ) : Type 0 where
  pub red : red_lit r a ≡ false
  pub yellow : yellow_lit r a ≡ false
  pub green : green_lit r a ≡ true

pub record RedManAlone (r : LampRow) (a : ℕ) : Type 0 where
  pub red_man : red_man_lit r a ≡ true
  pub green_man : green_man_lit r a ≡ false

pub record GreenManAlone (r : LampRow) (a : ℕ) : Type 0 where
  pub red_man : red_man_lit r a ≡ false
  pub green_man : green_man_lit r a ≡ true

-- 02, E2: "each approach it uses shows red alone, yellow alone or green alone, and exactly one of its two men"
pub record Shows (r : LampRow) (a : ℕ) : Type 0 where
  pub vehicles : RedAlone r a ⊎ (YellowAlone r a ⊎ GreenAlone r a)
  pub men : RedManAlone r a ⊎ GreenManAlone r a

-- 02, E2: "An approach not used is dark."
pub record Dark (r : LampRow) (a : ℕ) : Type 0 where
  pub red : red_lit r a ≡ false
  pub yellow : yellow_lit r a ≡ false
  pub green : green_lit r a ≡ false
  pub red_man : red_man_lit r a ≡ false
  pub green_man : green_man_lit r a ≡ false

-- the directory says that the order uses the approach
abbrev pub uses : ℕ → ℕ → Bool
uses order a = bit (approaches_of order) a

pub record Ruled (order step a : ℕ) : Type 0 where
  pub used : uses order a ≡ true → Shows (lamp_row_of order step) a
  pub unused : uses order a ≡ false → Dark (lamp_row_of order step) a

-- At each step of each order, for each approach.
abbrev pub LampRule : Type 0
LampRule = (order step a : ℕ) → Step order step → a < 8 → Ruled order step a

-- The words

-- No lamp is both steady and flashing.
abbrev pub SteadyOrFlashing : Type 0
SteadyOrFlashing = (order step m : ℕ) → lamp_in (steady_of order step) m ≡ true → lamp_in (flashing_of order step) m ≡ false

-- No lamp has a number over 64: "a 64-bit steady word and a flashing word".
abbrev pub WordsFit : Type 0
WordsFit = (order step : ℕ) → (steady_of order step < 2 ^ 64) × (flashing_of order step < 2 ^ 64)
