-- A panel of any maker on two wires, which keeps the rules, and somebody who listens there.
use Rattle.std.specs.Prelude.{◌≡◌, ◌≢◌, ◌⊎◌, ◌||◌, ℕ, Bool, true, false, List, [], ◌∷◌, ◌++◌, Option, Some, None, option_to_list}
use Rattle.osdp_frame.specs.Packet.{Packet, next_sequence}
use Rattle.osdp_frame.specs.Reading.{PacketItem, SkippedItem}
use Rattle.osdp_monitor.specs.declared.accusation.Accusation.{Accusation}
use Rattle.osdp_monitor.specs.declared.said.Said.TheVariants.{Answer}
use Rattle.osdp_monitor.specs.Line.{Knowledge, after_item, found_in, no_knowledge}
use Rattle.osdp_monitor.specs.Saying.{said}
use Rattle.osdp_monitor_laws.specs.PanelLine.{Reaches, TheListener, ADeviceAlone, Nobody, Reads, Both, PanelAlone, ListenerAlone}

-- the device that it speaks to, the packet that it sent there last, if any, and whether it has taken an answer to that since
pub record AnyPanel : Type 0 where
  pub address : ℕ
  pub last : Option Packet
  pub answered : Bool

-- it answers the last packet: any reply with the packet's number but BUSY, NAK 1 and NAK 4
pub record IsAnswer (r : AnyPanel) (x : Packet) : Type 0 where
  pub reply : x.reply ≡ true
  pub from : x.address ≡ r.address
  pub says : said x ≡ Answer
  pub last : Packet
  pub sent : r.last ≡ Some last
  pub number : x.sequence ≡ last.sequence

-- the panel, whether somebody has read a copy of its last packet, and what the listener knows
pub record AnyLine : Type 0 where
  pub panel : AnyPanel
  pub reached : Bool
  pub known : Knowledge

-- What may happen. The panel starts anew, for any device. It sends a packet, or its last one once more. Anybody else says a packet, at any moment, and
-- the panel takes it as the answer or doesn't. The listener skips a byte, or begins to listen.
pub data AnyMove : Type 0 where
  Restart : AnyPanel → AnyMove
  Send : Packet → Reaches → AnyMove
  Repeat : Packet → Reaches → AnyMove
  Say : Packet → Reads → Bool → AnyMove
  Skip : ℕ → AnyMove
  Forget : AnyMove

abbrev pub new_line : AnyPanel → AnyLine
new_line r = record { panel = r; reached = false; known = no_knowledge }

-- what a device alone reads makes the listener forget everything
abbrev pub known_of : Packet → Reaches → Knowledge → Knowledge
known_of p TheListener known = after_item known (PacketItem p)
known_of p ADeviceAlone known = no_knowledge
known_of p Nobody known = known

abbrev pub is_read : Reaches → Bool
is_read TheListener = true
is_read ADeviceAlone = true
is_read Nobody = false

-- .. and so does what the panel alone reads
abbrev pub known_by : Packet → Reads → Knowledge → Knowledge
known_by x Both known = after_item known (PacketItem x)
known_by x PanelAlone known = no_knowledge
known_by x ListenerAlone known = after_item known (PacketItem x)

abbrev pub after_move : AnyMove → AnyLine → AnyLine
after_move (Restart s) l = record l { panel = s }
after_move (Send p reaches) l =
    record { panel = record l.panel { last = Some p; answered = false }; reached = is_read reaches; known = known_of p reaches l.known }
after_move (Repeat p reaches) l =
    record { panel = record l.panel { answered = false }; reached = l.reached || is_read reaches; known = known_of p reaches l.known }
after_move (Say x reads takes) l =
    record l { panel = record l.panel { answered = l.panel.answered || takes }; known = known_by x reads l.known }
after_move (Skip b) l = record l { known = after_item l.known (SkippedItem b) }
after_move Forget l = record l { known = no_knowledge }

-- it sends to its device
pub record IsToIts (r : AnyPanel) (p : Packet) : Type 0 where
  pub command : p.reply ≡ false
  pub address : p.address ≡ r.address

-- number 0 at any time; or the next number, once its last packet was answered
abbrev pub IsNext : AnyPanel → Packet → Type 0
IsNext r p = (p.sequence ≡ 0) ⊎ ((r.answered ≡ true) × (last : Packet) × (r.last ≡ Some last) × (p.sequence ≡ next_sequence last.sequence))

-- Two wires: no other panel speaks to its device. What the panel takes as the answer is one, and it comes to a packet that somebody has read. Whatever
-- else comes, comes, and however late.
pub record MaySay (x : Packet) (takes : Bool) (l : AnyLine) : Type 0 where
  pub another : x.reply ≡ false → x.address ≢ l.panel.address
  pub answers : takes ≡ true → IsAnswer l.panel x
  pub asked : takes ≡ true → l.reached ≡ true

abbrev pub IsAllowed : AnyMove → AnyLine → Type 0
IsAllowed (Restart s) l = s.last ≡ None
IsAllowed (Send p reaches) l = IsToIts l.panel p × IsNext l.panel p
IsAllowed (Repeat p reaches) l = IsToIts l.panel p × (l.panel.last ≡ Some p)
IsAllowed (Say x reads takes) l = MaySay x takes l
IsAllowed _ l = Unit {0}

abbrev pub AreAllowed : List AnyMove → AnyLine → Type 0
AreAllowed [] l = Unit {0}
AreAllowed (move ∷ moves) l = IsAllowed move l × AreAllowed moves (after_move move l)

-- the panel is accused of a packet that the listener reads
abbrev pub accused_of : Packet → Reaches → Knowledge → Option Accusation
accused_of p TheListener known = (found_in known p).accusation
accused_of p _ known = None

abbrev pub accused_by : AnyMove → AnyLine → Option Accusation
accused_by (Send p reaches) l = accused_of p reaches l.known
accused_by (Repeat p reaches) l = accused_of p reaches l.known
accused_by _ l = None

abbrev pub accusations : List AnyMove → AnyLine → List Accusation
accusations [] l = []
accusations (move ∷ moves) l = option_to_list (accused_by move l) ++ accusations moves (after_move move l)

-- whatever it sends by the rules, and whatever replies come, however late: it is accused of nothing
abbrev pub AccusesNoPanelByTheRules : Type 0
AccusesNoPanelByTheRules = (r : AnyPanel) (moves : List AnyMove) → r.last ≡ None → AreAllowed moves (new_line r) → accusations moves (new_line r) ≡ []
