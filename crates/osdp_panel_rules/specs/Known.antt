-- What a device in a tester's hand knows of the panel that asks it.
use Rattle.std.specs.Prelude.{ℕ, ◌==◌, Bool, false, ◌&&◌, ◌||◌, if◌then◌else◌, Option, Some, None}
use Rattle.osdp_frame.specs.Packet.{Packet}
use Rattle.osdp_panel_rules.specs.declared.known.Known.{Known}
use Rattle.osdp_panel_rules.specs.declared.said.Said.{Said}
use Rattle.osdp_panel_rules.specs.declared.said.Said.TheVariants.{Silence, Noise, Astray}
use Rattle.osdp_panel_rules.specs.Saying.{is_answer, says}
use Rattle.osdp_rules.specs.Packets.{same_packet}

abbrev pub nothing_known : Known
nothing_known = record { last = None; moment = 0; answered = false; said = Silence }

abbrev pub is_last : Option Packet → Packet → Bool
is_last None q = false
is_last (Some p) q = same_packet p q

-- a packet to the device at a moment: nothing was said to it yet, and a copy counts as answered if an earlier one was
abbrev pub after_sent : ℕ → Known → Packet → Known
after_sent moment k q = record { last = Some q; moment = moment; answered = is_last k.last q && k.answered; said = Silence }

-- a packet of the line: a reply, and what goes to another device, tell nothing; whatever goes to 127 may change each device
abbrev pub after_packet : ℕ → ℕ → Known → Packet → Known
after_packet address moment k q =
    if q.reply then k
    else if q.address == address then after_sent moment k q
    else if q.address == 127 then nothing_known
    else k

-- the first that speaks to the panel counts
abbrev pub said_first : Said → Said → Said
said_first Silence s = s
said_first Noise s = s
said_first Astray s = s
said_first first s = first

abbrev pub said_to : Option Packet → Known → Packet → Known
said_to None k r = k
said_to (Some p) k r = record k { answered = k.answered || is_answer (says p r); said = said_first k.said (says p r) }

-- the device has said a packet, whether or not the panel heard it
abbrev pub after_said : Known → Packet → Known
after_said k r = said_to k.last k r

-- .. or bytes that hold none
abbrev pub after_noise : Known → Known
after_noise k = record k { said = said_first k.said Noise }
