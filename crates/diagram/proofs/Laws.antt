-- What follows from the definitions of specs/Table.antt, one law a way.
use Prim.Native.Nat.{ℕ, ◌+◌, ◌*◌, ◌-◌, ◌≤◌, ◌<◌}
use mathlib.Core.Path.{◌≡◌}
use native.Mathlib.Omega.{arith}
use borrow.Author.Tests.{le-leb, lt-leb}
use lib.ListN.{length, get_or, get_or-eq_default}
use Rattle.diagram.specs.Rows.{lamp_rows}
use Rattle.diagram.specs.Table.{dark_row, diagram_of, steps_of, row_number, lamp_row_of}

-- The numbers of 01, by name

-- the approaches of a word of 64 bits, the lamps of each, and of these the vehicles'
abbrev pub approaches_in_word : ℕ
approaches_in_word = 8

abbrev pub lamps_an_approach : ℕ
lamps_an_approach = 8

abbrev pub vehicle_lamps : ℕ
vehicle_lamps = 6

abbrev pub last_lamp : ℕ
last_lamp = lamps_an_approach * approaches_in_word

-- the places of the steps in a phase
abbrev pub green_place : ℕ
green_place = 1

abbrev pub walk_flash_place : ℕ
walk_flash_place = 2

abbrev pub red_man_place : ℕ
red_man_place = 3

abbrev pub yellow_place : ℕ
yellow_place = 4

-- Rows

module _ (order step : ℕ) where
  pub number-there : 1 ≤ step → step ≤ steps_of order → row_number order step ≡ (diagram_of order).first + (step - 1)
  unfolding row_number
  number-there h l = rw (le-leb 1 step h, le-leb step (steps_of order) l)

  pub number-none : step ≡ 0 → row_number order step ≡ length lamp_rows
  unfolding row_number
  number-none z = rw z

  pub number_past : steps_of order < step → row_number order step ≡ length lamp_rows
  unfolding row_number
  number_past h = rw (le-leb 1 step (omega arith), lt-leb step (steps_of order) h)

  pub row-there : 1 ≤ step → step ≤ steps_of order → lamp_row_of order step ≡ get_or lamp_rows ((diagram_of order).first + (step - 1)) dark_row
  unfolding lamp_row_of
  row-there h l = rw (number-there h l)

  pub row-past : length lamp_rows ≤ row_number order step → lamp_row_of order step ≡ dark_row
  unfolding lamp_row_of
  row-past h = get_or-eq_default lamp_rows dark_row {n = row_number order step} h
