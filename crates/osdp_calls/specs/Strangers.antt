-- A packet of others is nothing to our ends: no controller of ours hears it, and no device of ours answers it or changes.
use Rattle.std.specs.Prelude.{◌≡◌, ℕ, All, Some, None, slice_get}
use Rattle.osdp_frame.specs.Packet.{Packet}
use Rattle.osdp_frame.specs.Reading.{PacketItem}
use Rattle.osdp_msg.specs.declared.command.Command.{Command}
use Rattle.osdp_controller.specs.declared.report.Report.{Report}
use Rattle.osdp_bus.specs.Buses.{device_of}
use Rattle.osdp_bus.specs.Hearing.{hears_packet}
use Rattle.osdp_bus.specs.declared.entry.Entry.{Entry}
use Rattle.osdp_bus_laws.specs.Reports.{told_by_item}
use Rattle.osdp_reader.specs.Table.{hears, unchanged}
use Rattle.osdp_reader.specs.declared.handler.Answer.{Answer}
use Rattle.osdp_shared_line.specs.Line.{site_at}
use Rattle.osdp_calls.specs.Lines.{InUse, Station}
use Rattle.osdp_calls.specs.Premises.{IsOfOthers}

module _ {H : Type 0} (answer_of : H → Command → Answer) (after : H → Command → H) where
  -- this packet changes no controller of an entry of ours, none of them tells of it, and no device of ours changes by it or answers it
  pub record IsPassedOver (p : Packet) (l : InUse H) : Type 0 where
    pub controllers : (now k : ℕ) (t : Station H) (d : Entry) → site_at k l.stations ≡ Some t → device_of k l.bus ≡ Some d
        → slice_get (hears_packet p now l.bus.devices).entries k ≡ Some d
    pub told : (now : ℕ) → All (λ (x : ℕ × Report). site_at x.0 l.stations ≡ None) (told_by_item now (PacketItem p) l.bus.devices)
    pub devices : (k : ℕ) (t : Station H) → site_at k l.stations ≡ Some t → hears answer_of after t.reader p ≡ unchanged t.reader None

  -- each packet of others is passed over
  abbrev pub OthersArePassedOver : Type 0
  OthersArePassedOver = (l : InUse H) (p : Packet) → IsOfOthers l p → IsPassedOver p l
