-- The packets in bytes that were sent or heard.
use Rattle.std.specs.Prelude.{ℕ, ◌+◌, Bool, ◌||◌, not, if◌then◌else◌, List, [], ◌∷◌, filter, Option, Some, None}
use Rattle.osdp_frame.specs.Items.{packets_in}
use Rattle.osdp_frame.specs.Packet.{Packet}

-- all packets, or those of devices
abbrev pub is_wanted : Bool → Packet → Bool
is_wanted of_devices p = not of_devices || p.reply

abbrev pub packets_of : Bool → List ℕ → List Packet
packets_of of_devices run = filter (is_wanted of_devices) (packets_in run)

abbrev pub first_of : List Packet → Option Packet
first_of [] = None
first_of (p ∷ packets) = Some p

abbrev pub second_of : List Packet → Option Packet
second_of [] = None
second_of (p ∷ packets) = first_of packets

-- the first two of those that were found, and how many they are, with one more that may not be wanted
abbrev pub or_first : Option Packet → Packet → Option Packet
or_first (Some first) p = Some first
or_first None p = Some p

abbrev pub first_with : Bool → Option Packet → Packet → Option Packet
first_with of_devices first p = if is_wanted of_devices p then or_first first p else first

-- the second one stays empty until there is a first
abbrev pub or_second : Option Packet → Option Packet → Packet → Option Packet
or_second None second p = second
or_second (Some first) second p = or_first second p

abbrev pub second_with : Bool → Option Packet → Option Packet → Packet → Option Packet
second_with of_devices first second p = if is_wanted of_devices p then or_second first second p else second

abbrev pub count_with : Bool → ℕ → Packet → ℕ
count_with of_devices count p = if is_wanted of_devices p then count + 1 else count
