-- A line in use as a net: the bus's controllers are those of the sites, what was said and may still be read is on its way.
use Rattle.osdp_calls.proofs.Common.{◌≡◌, ◌≤◌, ℕ, max, not, true, List, length, Option, Some, None, IfSome, Packet, Machine, Closed, Quiet, BusState, Entry, Received, Each, ReaderState, Net, Site, Burst, InUse, Opening, Station, ahead_of_device, ahead_of_panel}
use Rattle.osdp_controller.specs.Sessions.{later, seen}
use Rattle.osdp_calls.proofs.Matching.{Match}

-- the same controller, that has seen another moment; and closed
abbrev pub at_moment : ℕ → Machine → Machine
at_moment g m = record m { session = record m.session { greatest = g } }

abbrev pub closed_at : ℕ → Machine → Machine
closed_at g m = record m { session = record m.session { state = Closed; greatest = g } }

-- a controller of the bus, and that of its site: the same from this moment on
pub record IsSame (top : ℕ) (m c : Machine) : Type 0 where
  pub moment : ℕ
  pub same : c ≡ at_moment moment m
  pub later : (x : ℕ) → top ≤ x → max moment x ≡ max m.session.greatest x

-- a session was to begin at a moment: that of its site has not begun
pub record IsToOpen (began top : ℕ) (m c : Machine) : Type 0 where
  pub moment : ℕ
  pub same : c ≡ closed_at moment m
  pub quiet : m.session.state ≡ Quiet (later m.session.config.quiet_wait (seen began (at_moment moment m).session))
  pub later : (x : ℕ) → top ≤ x → max (max moment began) x ≡ max m.session.greatest x

abbrev pub Controls : Option ℕ → ℕ → Machine → Machine → Type 0
Controls None top m c = IsSame top m c
Controls (Some began) top m c = IsToOpen began top m c

-- replies are said by devices, and commands by the panel
abbrev pub IsRightly : Burst → Type 0
IsRightly b = b.packet.reply ≡ not b.by_panel

module _ {H : Type 0} where
  -- an entry, its station and its site
  pub record IsSiteOf (openings : List Opening) (said : List Burst) (top i : ℕ) (d : Entry) (t : Station H) (s : Site H) : Type 0 where
    pub controller : Controls t.begun top d.controller s.controller
    pub reserved : s.reserved ≡ d.reserved
    pub reader : s.reader ≡ t.reader
    pub coming : s.coming ≡ ahead_of_device i t.place openings said
    pub place : t.place ≤ length said
    pub stored : IfSome t.reader.stored (λ p. p.reply ≡ true)

  -- the controller changes, and what is kept for it: the device and what was said stay
  pub controlled_so : {openings : List Opening} {said : List Burst} {old top i : ℕ} {d : Entry} {t : Station H} {s : Site H} {begun : Option ℕ}
      {m c : Machine} {kept reserved : Option ℕ} → IsSiteOf openings said old i d t s → Controls begun top m c → reserved ≡ kept
      → IsSiteOf openings said top i (record { controller = m; reserved = kept }) (record t { begun = begun }) (record s { controller = c; reserved = reserved })
  controlled_so is controller reserved =
      record { controller = controller; reserved = reserved; reader = is.reader; coming = is.coming; place = is.place; stored = is.stored }

  -- the device changes
  pub read_so : {openings : List Opening} {said : List Burst} {top i : ℕ} {d : Entry} {t : Station H} {s : Site H} {r q : ReaderState H} {line : Received}
      → IsSiteOf openings said top i d t s → q ≡ r → IfSome r.stored (λ p. p.reply ≡ true)
      → IsSiteOf openings said top i d (record t { reader = r; line = line }) (record s { reader = q })
  read_so is reader stored =
      record { controller = is.controller; reserved = is.reserved; reader = reader; coming = is.coming; place = is.place; stored = stored }

  -- what was said changes, or how far the device has read
  pub placed_so : {openings more : List Opening} {said told : List Burst} {top i : ℕ} {d : Entry} {t : Station H} {s : Site H} {place : ℕ}
      {coming : List (ℕ × Packet)} → IsSiteOf openings said top i d t s → coming ≡ ahead_of_device i place more told → place ≤ length told
      → IsSiteOf more told top i d (record t { place = place }) (record s { coming = coming })
  placed_so is coming place =
      record { controller = is.controller; reserved = is.reserved; reader = is.reader; coming = coming; place = place; stored = is.stored }

  pub record IsNetOf (l : InUse H) (n : Net H) : Type 0 where
    pub sites : Match (IsSiteOf l.openings l.said l.bus.greatest) 0 l.bus.devices.entries l.stations n.sites
    pub to_panel : n.to_panel ≡ ahead_of_panel l.place l.openings l.said
    pub place : l.place ≤ length l.said
    pub openings : Each (λ (o : Opening). o.place ≤ length l.said) l.openings
    pub said : Each IsRightly l.said

  -- the bus, its stations and the sites change, and what was said stays
  pub sites_so : {l : InUse H} {n : Net H} {bus : BusState} {stations : List (Station H)} {sites : List (Site H)} → IsNetOf l n
      → Match (IsSiteOf l.openings l.said bus.greatest) 0 bus.devices.entries stations sites
      → IsNetOf (record l { bus = bus; stations = stations }) (record n { sites = sites })
  sites_so h sites = record { sites = sites; to_panel = h.to_panel; place = h.place; openings = h.openings; said = h.said }
