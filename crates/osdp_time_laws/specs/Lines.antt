-- How long a line of several entries takes, by how long the exchange of each lasts at the most. They take turns: an exchange of each, and a late tick.
use Rattle.std.specs.Prelude.{ℕ, ◌+◌, ◌*◌, List, [], ◌∷◌}
use Rattle.osdp_controller.specs.declared.config.ControllerConfig.{ControllerConfig}
use Rattle.osdp_time_laws.specs.Bounds.{round_time}

-- a turn of each of these entries
abbrev pub turns_time : ℕ → List ℕ → ℕ
turns_time late [] = 0
turns_time late (exchange ∷ exchanges) = (exchange + late) + turns_time late exchanges

-- from an order's acceptance to its first frame, where so many commands of its entry wait before it
abbrev pub line_order_time : ℕ → ℕ → List ℕ → ℕ
line_order_time late before exchanges = (before + 1) * turns_time late exchanges

-- from an answer of an entry to the end of its next turn
abbrev pub poll_round_time : ControllerConfig → ℕ → List ℕ → ℕ
poll_round_time c late exchanges = c.poll_interval + late + turns_time late exchanges

-- from a card that a reader queues to its report, where so many cards and orders of the entry come before it, and its answers are read so soon
abbrev pub card_time : ControllerConfig → ℕ → ℕ → ℕ → List ℕ → ℕ
card_time c late before answered exchanges = (before + 1) * poll_round_time c late exchanges + answered

-- from the last answer of a device that falls silent until it is told lost, beside the exchanges of the others
abbrev pub line_silence_time : ControllerConfig → ℕ → List ℕ → ℕ
line_silence_time c late others = c.poll_interval + late + turns_time late others + (round_time c late + late)

-- from the beginning of a session to its first frame
abbrev pub line_opening_time : ControllerConfig → ℕ → List ℕ → ℕ
line_opening_time c late others = c.quiet_wait + late + turns_time late others
