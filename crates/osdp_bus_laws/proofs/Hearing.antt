-- What holds of the devices of a bus through what comes in: what each packet to a device keeps.
use Rattle.osdp_bus_laws.proofs.Common.{◌≡◌, ℕ, List, [], ◌∷◌, Option, Some, None, refl, slice_get, Packet, RunItem, PacketItem, SkippedItem, RefusedItem, Entry, Devices, first_from, is_at, hears_at, hears_item, hears_items, hears_with}

module _ (now : ℕ) (P : Devices → Type 0)
    (kept : (p : Packet) (i : ℕ) (d : Entry) (ds : Devices) → slice_get ds.entries i ≡ Some d → P ds → P (hears_with p now i (Some d) ds)) where
  with_keeps : (p : Packet) (i : ℕ) (o : Option Entry) (ds : Devices) → slice_get ds.entries i ≡ o → P ds → P (hears_with p now i o ds)
  with_keeps p i None ds at is = is
  with_keeps p i (Some d) ds at is = kept p i d ds at is

  at_keeps : (p : Packet) (o : Option ℕ) (ds : Devices) → P ds → P (hears_at p now o ds)
  at_keeps p None ds is = is
  at_keeps p (Some i) ds is = with_keeps p i (slice_get ds.entries i) ds refl is

  pub item_keeps : (part : RunItem) (ds : Devices) → P ds → P (hears_item now part ds)
  item_keeps (PacketItem p) ds is = at_keeps p (first_from 0 (is_at p.address) ds.entries) ds is
  item_keeps (SkippedItem byte) ds is = is
  item_keeps (RefusedItem fault) ds is = is

  pub items_keep : (parts : List RunItem) (ds : Devices) → P ds → P (hears_items now parts ds)
  items_keep [] ds is = is
  items_keep (part ∷ parts) ds is = items_keep parts (hears_item now part ds) (item_keeps part ds is)
