-- What is kept of a session, and what one event makes of it. The moment of an event is the greatest one seen.
use Rattle.std.specs.Prelude.{ℕ, ◌+◌, ◌-◌, ◌^◌, Bool, false, ◌&&◌, min, max}
use Rattle.osdp_frame.specs.Packet.{Packet}
use Rattle.osdp_frame.specs.Packed.{packed}
use Rattle.osdp_controller.specs.declared.config.ControllerConfig.{ControllerConfig}
use Rattle.osdp_controller.specs.declared.exchange.Exchange.{Exchange}
use Rattle.osdp_controller.specs.declared.exchange.Outstanding.{Outstanding}
use Rattle.osdp_controller.specs.declared.report.LostCause.{LostCause}
use Rattle.osdp_controller.specs.declared.report.Report.{Report}
use Rattle.osdp_controller.specs.declared.report.Report.TheVariants.{Lost}
use Rattle.osdp_controller.specs.declared.session.Session.{Session}
use Rattle.osdp_controller.specs.declared.state.State.TheVariants.{Closed, Idle, Waiting}
use Rattle.osdp_controller.specs.Exchanges.{exchange_body, submitted_command}

-- no session yet
abbrev pub new_session : ControllerConfig → Session
new_session config = record { config = config; state = Closed; number = 0; asked = false; greatest = 0 }

-- a moment that lies before the greatest seen counts as that one
abbrev pub seen : ℕ → Session → Session
seen now s = record s { greatest = max s.greatest now }

-- where a POLL stands between any two orders, the next exchange is one if the last was an order
abbrev pub is_poll_next : Session → Bool
is_poll_next s = s.config.poll_between_orders && s.asked

-- so much later than the moment, and the last moment that there is where it would lie after that
abbrev pub later : ℕ → Session → ℕ
later wait s = min (s.greatest + wait) (2 ^ 64 - 1)

-- the frame of an exchange, without a security block and with reserved bits of zero
abbrev pub frame_of : Exchange → Session → Packet
frame_of x s = packed false s.config.address s.number s.config.check false 0 (exchange_body x)

-- the frame has gone out once more, as this send since the exchange began or was last answered BUSY
abbrev pub after_send : ℕ → Outstanding → Session → Session
after_send sends o s =
    record s { state = Waiting (later s.config.reply_wait s) sends (record o { sent = o.sent + 1 }) }

-- nothing is outstanding, and the next POLL is due after the interval
abbrev pub at_rest : Session → Session
at_rest s = record s { state = Idle (later s.config.poll_interval s) }

abbrev pub closed : Session → Session
closed s = record s { state = Closed }

-- the report of a session that ends: the outstanding command is unsettled
abbrev pub lost : LostCause → Outstanding → Report
lost cause o = Lost cause (submitted_command o.exchange)
