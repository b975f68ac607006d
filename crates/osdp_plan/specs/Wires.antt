-- What the figures of a plan say of a line, and its settings of the machines.
use Rattle.std.specs.Prelude.{◌≡◌, ◌≤◌, ◌<◌, ◌↔◌, ◌+◌, ◌*◌, ℕ, true}
use Rattle.osdp_controller.specs.Settings.{default_config}
use Rattle.osdp_frame.specs.declared.check_kind.CheckKind.TheVariants.{Crc}
use Rattle.osdp_plan.specs.declared.plan.Plan.{Plan}
use Rattle.osdp_plan.specs.Figures.{answered_time, wire_time}
use Rattle.osdp_plan.specs.Plans.{config_of, default_plan}

-- Bytes have ten bits each, and so many bits pass in a second: the bytes have passed in a time of milliseconds exactly where the time on the wire isn't longer.
abbrev pub IsLeastTime : Type 0
IsLeastTime = (rate bytes time : ℕ) → 0 < rate → (wire_time rate bytes ≤ time) ↔ (10000 * bytes ≤ rate * time)

-- an exchange: how many bytes its packet and its answer have, how long the reader thinks, and for how long each of the two is held back
pub record Exchange : Type 0 where
  pub packet : ℕ
  pub answer : ℕ
  pub thinks : ℕ
  pub held_there : ℕ
  pub held_back : ℕ

-- no part of it is longer than planned
pub record IsWithin (p : Plan) (e : Exchange) : Type 0 where
  pub packet : e.packet ≤ p.longest
  pub answer : e.answer ≤ p.longest
  pub thinks : e.thinks ≤ p.answer
  pub held_there : e.held_there ≤ p.hold
  pub held_back : e.held_back ≤ p.hold

abbrev pub time_of : Plan → Exchange → ℕ
time_of p e = wire_time p.rate (e.packet + e.answer) + e.thinks + e.held_there + e.held_back

-- the longest that is planned
abbrev pub longest_of : Plan → Exchange
longest_of p = record { packet = p.longest; answer = p.longest; thinks = p.answer; held_there = p.hold; held_back = p.hold }

-- an exchange that is within its plan takes no longer than the figure says, and the longest one takes as long
pub record AnswersWithinFigure : Type 0 where
  pub within : (p : Plan) (e : Exchange) → 0 < p.rate → IsWithin p e → time_of p e ≤ answered_time p
  pub reached : (p : Plan) → time_of p (longest_of p) ≡ answered_time p

-- a plan has the settings that a controller has in a panel where nobody sets one: those of a controller, and a POLL between any two orders
abbrev pub DefaultsAreTheMachines : Type 0
DefaultsAreTheMachines = config_of default_plan ≡ record (default_config 0 Crc) { poll_between_orders = true }
