-- A panel on two wires, and somebody who listens there: what may happen, and whom the listener accuses.
use Rattle.std.specs.Prelude.{◌≡◌, ◌≢◌, ℕ, Bool, true, false, List, [], ◌∷◌, ◌++◌, Option, Some, None, option_to_list}
use Rattle.osdp_controller.specs.declared.config.ControllerConfig.{ControllerConfig}
use Rattle.osdp_controller.specs.Machine.{Machine, after_begin, after_frame, after_retarget, after_submit, after_tick, after_withdraw, begin_refusal, changed_unless, new_machine, retarget_refusal, submit_refusal}
use Rattle.osdp_controller.specs.Ticking.{ticks}
use Rattle.osdp_frame.specs.Packet.{Packet}
use Rattle.osdp_frame.specs.Reading.{PacketItem, SkippedItem}
use Rattle.osdp_msg.specs.declared.command.Command.{Command}
use Rattle.osdp_msg.specs.declared.limits.Room.{Room}
use Rattle.osdp_monitor.specs.Line.{Knowledge, after_item, found_in, no_knowledge}
use Rattle.osdp_monitor.specs.declared.accusation.Accusation.{Accusation}

-- who reads a packet that the panel sends: the listener, whether or not a device does; a device alone; or nobody
pub data Reaches : Type 0 where
  TheListener : Reaches
  ADeviceAlone : Reaches
  Nobody : Reaches

-- who reads a packet that anybody else says
pub data Reads : Type 0 where
  Both : Reads
  PanelAlone : Reads
  ListenerAlone : Reads

-- our controller, whether somebody read the packet that it sent last, and what the listener knows
pub record PanelLine : Type 0 where
  pub panel : Machine
  pub reached : Bool
  pub known : Knowledge

-- What may happen. The panel starts anew, with any settings; its calls are made, at any moments. Anybody else says a packet, which the panel
-- hears at any moment. The listener skips a byte, or begins to listen: so it does after an item that was refused, too.
pub data PanelMove : Type 0 where
  Restart : ControllerConfig → Room → PanelMove
  Submit : Command → PanelMove
  Withdraw : PanelMove
  Begin : ℕ → PanelMove
  Retarget : ℕ → PanelMove
  Tick : ℕ → Reaches → PanelMove
  Say : Packet → ℕ → Reads → PanelMove
  Skip : ℕ → PanelMove
  Forget : PanelMove

-- a new controller, and a listener who knows nothing
abbrev pub new_line : ControllerConfig → Room → PanelLine
new_line config room = record { panel = new_machine config room.messages room.bytes; reached = true; known = no_knowledge }

-- what a device alone reads makes the listener forget everything
abbrev pub after_sent : Option Packet → Reaches → PanelLine → PanelLine
after_sent None reaches l = l
after_sent (Some p) TheListener l = record l { reached = true; known = after_item l.known (PacketItem p) }
after_sent (Some p) ADeviceAlone l = record l { reached = true; known = no_knowledge }
after_sent (Some p) Nobody l = record l { reached = false }

-- .. and so does what the panel alone reads
abbrev pub after_said : Packet → ℕ → Reads → PanelLine → PanelLine
after_said p now Both l =
    record l { panel = after_frame p now l.panel; known = after_item l.known (PacketItem p) }
after_said p now PanelAlone l = record l { panel = after_frame p now l.panel; known = no_knowledge }
after_said p now ListenerAlone l = record l { known = after_item l.known (PacketItem p) }

-- the packet that a tick sends
abbrev pub sent_at : ℕ → Machine → Option Packet
sent_at now m = (ticks now m.session m.waiting).step.frame

abbrev pub after_move : PanelMove → PanelLine → PanelLine
after_move (Restart config room) l = record l { panel = new_machine config room.messages room.bytes }
after_move (Submit command) l =
    record l { panel = changed_unless (submit_refusal command l.panel) l.panel (after_submit command l.panel) }
after_move Withdraw l = record l { panel = after_withdraw l.panel }
after_move (Begin now) l = record l { panel = changed_unless (begin_refusal l.panel) l.panel (after_begin now l.panel) }
after_move (Retarget address) l =
    record l { panel = changed_unless (retarget_refusal address l.panel) l.panel (after_retarget address l.panel) }
after_move (Tick now reaches) l =
    after_sent (sent_at now l.panel) reaches (record l { panel = after_tick now l.panel })
after_move (Say p now reads) l = after_said p now reads l
after_move (Skip b) l = record l { known = after_item l.known (SkippedItem b) }
after_move Forget l = record l { known = no_knowledge }

-- Two wires: no other panel speaks to its device, and no reply comes from there to a packet that nobody read. Whatever else comes, comes.
pub record MaySay (p : Packet) (l : PanelLine) : Type 0 where
  pub another : p.reply ≡ false → p.address ≢ l.panel.session.config.address
  pub asked : p.reply ≡ true → p.address ≡ l.panel.session.config.address → l.reached ≡ true

abbrev pub IsAllowed : PanelMove → PanelLine → Type 0
IsAllowed (Say p now reads) l = MaySay p l
IsAllowed _ l = Unit {0}

-- each move of a list, after those before it
abbrev pub AreAllowed : List PanelMove → PanelLine → Type 0
AreAllowed [] l = Unit {0}
AreAllowed (move ∷ moves) l = IsAllowed move l × AreAllowed moves (after_move move l)

-- the panel is accused of a packet that the listener reads
abbrev pub accused_of : Option Packet → Reaches → Knowledge → Option Accusation
accused_of (Some p) TheListener known = (found_in known p).accusation
accused_of _ _ known = None

abbrev pub panel_accused_by : PanelMove → PanelLine → Option Accusation
panel_accused_by (Tick now reaches) l = accused_of (sent_at now l.panel) reaches l.known
panel_accused_by _ l = None

-- all that the panel is accused of
abbrev pub panel_accusations : List PanelMove → PanelLine → List Accusation
panel_accusations [] l = []
panel_accusations (move ∷ moves) l = option_to_list (panel_accused_by move l) ++ panel_accusations moves (after_move move l)

-- whatever is called, whatever replies come, and however often it starts anew: the panel is accused of nothing
abbrev pub AccusesNoPanel : Type 0
AccusesNoPanel = (config : ControllerConfig) (room : Room) (moves : List PanelMove) → AreAllowed moves (new_line config room)
    → panel_accusations moves (new_line config room) ≡ []
