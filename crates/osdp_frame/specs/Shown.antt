-- The items that callers see.
use Rattle.osdp_frame.specs.declared.item.Item.{Item}
use Rattle.osdp_frame.specs.declared.item.Item.TheVariants as shown
use Rattle.osdp_frame.specs.declared.read.ReadItem.{ReadItem}
use Rattle.osdp_frame.specs.declared.read.ReadItem.TheVariants as owned
use Rattle.osdp_frame.specs.Reading.{RunItem, PacketItem, SkippedItem, RefusedItem}

-- the item of a reading that is shown
abbrev pub item_of : Item → RunItem
item_of (shown.Packet p) = PacketItem p
item_of (shown.Skipped b) = SkippedItem b
item_of (shown.Refused f) = RefusedItem f

-- the same of one that holds its own packet
abbrev pub item_read : ReadItem → RunItem
item_read (owned.Packet p) = PacketItem p
item_read (owned.Skipped b) = SkippedItem b
item_read (owned.Refused f) = RefusedItem f
