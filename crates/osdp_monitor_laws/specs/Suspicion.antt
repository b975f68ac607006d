-- Since when a panel is suspected, and for how long.
use Rattle.std.specs.Prelude.{◌≡◌, ◌≢◌, ◌-◌, ◌==◌, ◌&&◌, not, Bool, false, ℕ, List, [], ◌∷◌, ◌++◌, Some, count_by}
use Rattle.osdp_frame.specs.Packet.{Packet}
use Rattle.osdp_frame.specs.Reading.{RunItem, PacketItem, SkippedItem, RefusedItem}
use Rattle.osdp_monitor.specs.declared.accusation.Accusation.TheVariants.{NotAnswered}
use Rattle.osdp_monitor.specs.declared.found.Notice.TheVariants.{Unsure}
use Rattle.osdp_monitor.specs.Line.{Knowledge, after_item, found_in}
use Rattle.osdp_monitor_laws.specs.Misses.{IsTo, NothingForgotten, suspicion}
use Rattle.osdp_monitor_laws.specs.Panels.{IsDoubt}

-- After a doubt, whether it was told or accused, it is suspected for eight packets to the device.
abbrev pub SuspectsAfterDoubts : Type 0
SuspectsAfterDoubts = (line : Knowledge) (address : ℕ) (p : Packet) (items : List RunItem) (q : Packet)
    → IsTo address p → (line.devices address).last ≢ Some p → IsTo address q → IsDoubt address p items q → NothingForgotten address (PacketItem p ∷ items ++ PacketItem q ∷ []) line
    → suspicion line (PacketItem p ∷ items ++ PacketItem q ∷ []) address ≡ 8

-- a packet to the device
abbrev pub is_to : ℕ → RunItem → Bool
is_to address (PacketItem p) = not p.reply && p.address == address
is_to address (SkippedItem b) = false
is_to address (RefusedItem fault) = false

abbrev pub sent_to : ℕ → List RunItem → ℕ
sent_to address items = count_by (is_to address) items

-- no packet to the device is told or accused as a doubt
abbrev pub IsInNoDoubt : ℕ → RunItem → Knowledge → Type 0
IsInNoDoubt address (PacketItem p) line =
    IsTo address p → ((found_in line p).accusation ≢ Some NotAnswered) × ((found_in line p).notice ≢ Some Unsure)
IsInNoDoubt address (SkippedItem b) line = Unit {0}
IsInNoDoubt address (RefusedItem fault) line = Unit {0}

abbrev pub AreInNoDoubt : ℕ → List RunItem → Knowledge → Type 0
AreInNoDoubt address [] line = Unit {0}
AreInNoDoubt address (part ∷ parts) line = IsInNoDoubt address part line × AreInNoDoubt address parts (after_item line part)

-- Each packet to the device that is no doubt takes one away, until none is left; and nothing else does.
abbrev pub SuspectsForAWhile : Type 0
SuspectsForAWhile = (line : Knowledge) (address : ℕ) (p : Packet) (items : List RunItem) → IsTo address p
    → NothingForgotten address (PacketItem p ∷ items) line → AreInNoDoubt address items (after_item line (PacketItem p))
    → suspicion line (PacketItem p ∷ items) address ≡ suspicion line (PacketItem p ∷ []) address - sent_to address items
