-- How long an exchange lasts at the most, in milliseconds, where a program's ticks come so late.
use Rattle.std.specs.Prelude.{ℕ, ◌+◌, ◌*◌}
use Rattle.osdp_controller.specs.declared.config.ControllerConfig.{ControllerConfig}

-- a frame goes out as often as it may, and each time its answer is waited for
abbrev pub round_time : ControllerConfig → ℕ → ℕ
round_time c late = c.sends * (c.reply_wait + late)

-- an exchange that is answered BUSY so often: a round of sends, and after each BUSY its pause and another round
abbrev pub exchange_time : ControllerConfig → ℕ → ℕ → ℕ
exchange_time c late busies = round_time c late + busies * (c.busy_wait + late + round_time c late)

-- as often as the settings allow
abbrev pub longest_exchange : ControllerConfig → ℕ → ℕ
longest_exchange c late = exchange_time c late c.busy_limit

-- from the beginning of a session until it is open, or told lost
abbrev pub opening_time : ControllerConfig → ℕ → ℕ
opening_time c late = c.quiet_wait + late + longest_exchange c late

-- from the last answer of a device that falls silent until it is told lost
abbrev pub silence_time : ControllerConfig → ℕ → ℕ
silence_time c late = c.poll_interval + late + round_time c late
