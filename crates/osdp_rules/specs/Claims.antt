-- What a device says by CAP that it has.
use Rattle.std.specs.Prelude.{ℕ, ◌==◌, Bool, true, false, ◌&&◌, not, List, [], ◌∷◌, Option, Some, None, Result, Ok, if◌then◌else◌}
use Rattle.std.specs.Option.{option_map}
use Rattle.osdp_frame.specs.Packet.{Packet}
use Rattle.osdp_msg.specs.declared.capability.Capability.{Capability}
use Rattle.osdp_msg.specs.declared.command.Command.{Command}
use Rattle.osdp_msg.specs.declared.command.Command.TheVariants.{Cap}
use Rattle.osdp_msg.specs.declared.fault.MsgFault.{MsgFault}
use Rattle.osdp_msg.specs.declared.reply.Reply.{Reply}
use Rattle.osdp_msg.specs.declared.reply.Reply.TheVariants.{PdCap}
use Rattle.osdp_rules.specs.Known.{last_number, turn_of}
use Rattle.osdp_rules.specs.Packets.{asked, is_to, told}
use Rattle.osdp_rules.specs.declared.claims.Claims.{Claims}
use Rattle.osdp_rules.specs.declared.known.Known.{Known}
use Rattle.osdp_rules.specs.declared.known.Known.TheVariants.{Gone}
use Rattle.osdp_rules.specs.declared.known.Turn.{Turn}
use Rattle.osdp_rules.specs.declared.known.Turn.TheVariants.{New}

-- the first entry of a function
abbrev pub entry_of : ℕ → List Capability → Option Capability
entry_of function [] = None
entry_of function (c ∷ cs) = if c.function == function then Some c else entry_of function cs

-- how many there are of it
abbrev pub count_of : ℕ → List Capability → Option ℕ
count_of function caps = option_map (λ c. c.count) (entry_of function caps)

abbrev pub level_of : ℕ → List Capability → Option ℕ
level_of function caps = option_map (λ c. c.level) (entry_of function caps)

-- by the functions 1, 2, 4, 6 and 13 of the standard
abbrev pub claims_of : List Capability → Claims
claims_of caps = record {
  inputs = count_of 1 caps;
  outputs = count_of 2 caps;
  leds = count_of 4 caps;
  text = level_of 6 caps;
  readers = count_of 13 caps;
}

abbrev pub no_claims : Claims
no_claims = record { inputs = None; outputs = None; leds = None; text = None; readers = None }

abbrev pub is_new : Turn → Bool
is_new New = true
is_new turn = false

-- the packet is to the device, has no block, and its number is new: what is heard then is the answer to its command
abbrev pub is_anew : ℕ → Known → Packet → Bool
is_anew address Gone p = false
is_anew address k p = is_to address p && not p.block && is_new (turn_of (last_number k) p.sequence)

abbrev pub claims_told : Result Reply MsgFault → Claims → Claims
claims_told (Ok (PdCap caps)) claims = claims_of caps.capabilities.items
claims_told told claims = claims

abbrev pub claims_by : Result Command MsgFault → Option Packet → Claims → Claims
claims_by (Ok (Cap kept)) (Some a) claims = claims_told (told a) claims
claims_by asked heard claims = claims

-- .. after a packet and what was heard of it: the answer to the last CAP counts
abbrev pub claims_after : ℕ → Known → Packet → Option Packet → Claims → Claims
claims_after address k p heard claims = if is_anew address k p then claims_by (asked p) heard claims else claims
