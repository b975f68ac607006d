-- The moments that a machine has seen.
use Rattle.std.specs.Prelude.{ℕ, ◌+◌, Bool, true, max, nat_le, Option, None, Some}

pub record ClockState : Type 0 where
  -- the greatest moment seen, where one was
  pub greatest : Option ℕ
  -- how far another may lie after it, in milliseconds
  pub limit : ℕ

-- no moment was seen
abbrev pub new_clock : ℕ → ClockState
new_clock limit = record { greatest = None; limit = limit }

-- the first moment may be any; each other lies after the greatest one seen by so much at most
abbrev pub is_near : ℕ → ℕ → Option ℕ → Bool
is_near now limit None = true
is_near now limit (Some greatest) = nat_le now (greatest + limit)

abbrev pub accepts : ℕ → ClockState → Bool
accepts now c = is_near now c.limit c.greatest

-- a moment that lies before the greatest one seen counts as that one
abbrev pub greatest_of : ℕ → Option ℕ → ℕ
greatest_of now None = now
greatest_of now (Some greatest) = max greatest now

abbrev pub sees : ℕ → ClockState → ClockState
sees now c = record c { greatest = Some (greatest_of now c.greatest) }
