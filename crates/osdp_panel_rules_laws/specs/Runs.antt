-- A panel of our controller, and a device in a tester's hand, over a line that loses and delays what it likes.
use Rattle.std.specs.Prelude.{◌≡◌, ℕ, true, List, [], ◌∷◌, Option, Some, None}
use Rattle.osdp_controller.specs.declared.config.ControllerConfig.{ControllerConfig}
use Rattle.osdp_controller.specs.Machine.{Machine, after_begin, after_frame, after_retarget, after_submit, after_tick, after_withdraw, begin_refusal, changed_unless, new_machine, retarget_refusal, submit_refusal}
use Rattle.osdp_controller.specs.Ticking.{ticks}
use Rattle.osdp_frame.specs.Packet.{Packet}
use Rattle.osdp_msg.specs.declared.command.Command.{Command}
use Rattle.osdp_msg.specs.declared.limits.Room.{Room}
use Rattle.osdp_panel_rules.specs.Line.{Line, came, device, said}
use Rattle.osdp_panel_rules_laws.specs.Before.{WasSaidTo}

-- the panel, the packet that it sent last, and what went over the line at the device
pub record Tested : Type 0 where
  pub panel : Machine
  pub sent : Option Packet
  pub line : Line

-- What becomes of a packet of the panel: it is lost, or the device hears bytes without a packet, or the packet, at a moment of its own clock, and answers
-- for the rule with this number.
pub data Arrival : Type 0 where
  lost : Arrival
  spoiled : ℕ → ℕ → Arrival
  whole : ℕ → ℕ → Arrival

-- What may happen. The panel starts anew with any settings; its calls are made, at any moments. What a tick sends arrives or doesn't. The device says a
-- packet, or bytes that hold none. The panel hears a packet at some moment. The device is tested anew.
pub data Move : Type 0 where
  Restart : ControllerConfig → Room → Move
  Submit : Command → Move
  Withdraw : Move
  Begin : ℕ → Move
  Retarget : ℕ → Move
  Tick : ℕ → Arrival → Move
  Say : Option Packet → Move
  Hear : Packet → ℕ → Move
  Anew : Move

-- the packet that a tick sends
abbrev pub sent_at : ℕ → Machine → Option Packet
sent_at now m = (ticks now m.session m.waiting).step.frame

abbrev pub arrives : Packet → Arrival → Line → Line
arrives f lost line = line
arrives f (spoiled number moment) line = came number moment None ∷ line
arrives f (whole number moment) line = came number moment (Some f) ∷ line

abbrev pub after_sending : Option Packet → Arrival → Tested → Tested
after_sending None arrival t = t
after_sending (Some f) arrival t = record t { sent = Some f; line = arrives f arrival t.line }

-- the address of the device
module _ (address : ℕ) where
  abbrev pub new_tested : ControllerConfig → Room → Tested
  new_tested config room = record { panel = new_machine config room.messages room.bytes; sent = None; line = device address ∷ [] }

  abbrev pub after_move : Move → Tested → Tested
  after_move (Restart config room) t = record t { panel = new_machine config room.messages room.bytes }
  after_move (Submit c) t = record t { panel = changed_unless (submit_refusal c t.panel) t.panel (after_submit c t.panel) }
  after_move Withdraw t = record t { panel = after_withdraw t.panel }
  after_move (Begin now) t = record t { panel = changed_unless (begin_refusal t.panel) t.panel (after_begin now t.panel) }
  after_move (Retarget to) t = record t { panel = changed_unless (retarget_refusal to t.panel) t.panel (after_retarget to t.panel) }
  after_move (Tick now arrival) t = after_sending (sent_at now t.panel) arrival (record t { panel = after_tick now t.panel })
  after_move (Say reply) t = record t { line = said reply ∷ t.line }
  after_move (Hear r now) t = record t { panel = after_frame r now t.panel }
  after_move Anew t = record t { line = device address ∷ t.line }

  -- Nobody else answers at the device's address. What it says reaches the panel, however late, while the packet to which it was said is the last that
  -- came to the device, and the last that the panel sent.
  abbrev pub IsAllowed : Move → Tested → Type 0
  IsAllowed (Hear r now) t = r.reply ≡ true → r.address ≡ address → (p : Packet) × (t.sent ≡ Some p) × WasSaidTo address t.line p r
  IsAllowed _ t = Unit {0}

  abbrev pub AreAllowed : List Move → Tested → Type 0
  AreAllowed [] t = Unit {0}
  AreAllowed (move ∷ moves) t = IsAllowed move t × AreAllowed moves (after_move move t)

  abbrev pub run : List Move → Tested → Tested
  run [] t = t
  run (move ∷ moves) t = run moves (after_move move t)
