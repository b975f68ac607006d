-- How a session opens.
use Rattle.std.specs.Prelude.{◌≡◌, ℕ, false, [], ◌∷◌, Some}
use Rattle.osdp_frame.specs.Packed.{packed}
use Rattle.osdp_frame.specs.Packet.{Packet}
use Rattle.osdp_controller.specs.declared.exchange.Exchange.TheVariants.{Opening}
use Rattle.osdp_controller.specs.declared.session.Session.{Session}
use Rattle.osdp_controller.specs.declared.state.State.TheVariants.{Quiet}
use Rattle.osdp_controller.specs.Machine.{IsMachine, Machine}
use Rattle.osdp_controller_laws.specs.Laws.{exchange_in}
use Rattle.osdp_controller_laws.specs.Runs.{Tick, after_call, sent_by}

-- ID, whose data byte is 0, with number 0: to the reader's address, with the check of the settings, without a security block and with
-- reserved bits of zero
abbrev pub opening_frame : Session → Packet
opening_frame s = packed false s.config.address 0 s.config.check false 0 (0x61 ∷ 0 ∷ [])

-- it is what goes out when the line has been left quiet, and each time while nothing has opened the session
pub record OpensById (now : ℕ) (m : Machine) : Type 0 where
  pub first : (until : ℕ) (p : Packet) → m.session.state ≡ Quiet until → sent_by (Tick now) m ≡ Some p
      → p ≡ opening_frame (after_call (Tick now) m).session
  pub again : (p : Packet) → IsMachine m → sent_by (Tick now) m ≡ Some p → exchange_in (after_call (Tick now) m).session.state ≡ Some Opening
      → p ≡ opening_frame (after_call (Tick now) m).session
