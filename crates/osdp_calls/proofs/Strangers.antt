-- Packets of others: no controller is at their address, whatever the panel has read before in the same call, and no device answers them.
use Rattle.osdp_calls.proofs.Common.{◌≡◌, ◌≢◌, ◌≤◌, ◌+◌, ℕ, zero, suc, Bool, true, false, cond, not, ◌||◌, List, [], ◌∷◌, length, Option, Some, None, refl, sym, subst, ap, ◌∙◌, arith, inl, inr, ◌==◌, slice_get, slice_set, items, Packet, RunItem, PacketItem, SkippedItem, RefusedItem, Command, hears, Report, Session, BusState, Devices, is_silent, ends_run, ends_silent, hears_at, hears_items, hears_packet, hears_with, Entry, told_at, told_by_entry, told_with, speaks, both, each_all, is_false, Each, ReaderState, kind_by_number, kind_of, outcome, Answer, Kind, Sets, Somewhere, option_to_list, outstanding_command, Site, site_at, hears_well, some_same, first_answered, Burst, InUse, Station, AreInOrder, IsAsked, IsOfOthers, IsThere}
use Rattle.osdp_bus.specs.Entries.{address_of, entry_hears, first_from, is_at, told_of}
use Rattle.osdp_reader.specs.declared.kind.Kind.TheVariants as kind
use Rattle.osdp_shared_line.proofs.Lists.{somewhere_front, somewhere_rest}
use Rattle.osdp_calls.specs.Strangers.{OthersArePassedOver}
use Rattle.osdp_calls.proofs.Matching.{Match, none_past, set_other}
use Rattle.osdp_calls.proofs.Same.{IsSiteOf}
use Rattle.osdp_calls.proofs.Noticing.{got_other}

-- ---- the same order, with more that need none

pub order_of : (O Q : Packet → Type 0) (said : List Burst) → ((p : Packet) → O p → Q p) → (ps : List Packet) (places : List ℕ) (before : ℕ)
    → AreInOrder O said ps places before → AreInOrder Q said ps places before
order_of O Q said f [] [] before order = tt
order_of O Q said f [] (i ∷ places) before order = absurd order
order_of O Q said f (p ∷ ps) [] before order = (f p order.0, order_of O Q said f ps [] before order.1)
order_of O Q said f (p ∷ ps) (i ∷ places) before (inl ours) =
    inl (ours.0, ours.1, ours.2, ours.3, order_of O Q said f ps places i ours.4)
order_of O Q said f (p ∷ ps) (i ∷ places) before (inr others) =
    inr (f p others.0, order_of O Q said f ps (i ∷ places) before others.1)

-- ---- no controller is at an address, nor may a COMSET that is outstanding take one there

abbrev pub IsOff : ℕ → Session → Type 0
IsOff a s = (s.config.address ≢ a) × (Somewhere (Sets a) (option_to_list (outstanding_command s.state)) → ⊥)

heard_off : (a : ℕ) (p : Packet) (now : ℕ) (s : Session) → IsOff a s → IsOff a (hears p now s).session
heard_off a p now s off =
    let well = hears_well p now s in (
      λ e. elim well.goes [
        | inl stays ↦ off.0 (sym stays ∙ e)
        | inr goes ↦ off.1 (subst (λ b. Somewhere (Sets b) (option_to_list (outstanding_command s.state))) e goes.2)
      ],
      λ asked. off.1 (subst (Somewhere (Sets a)) (sym well.left.1) (somewhere_rest (Sets a) well.left.0 (option_to_list (outstanding_command (hears p now s).session.state)) asked)),
    )

-- of so many devices none is at the packet's address
abbrev pub IsElsewhere : ℕ → List Entry → Packet → Type 0
IsElsewhere zero ds p = Unit {0}
IsElsewhere (suc m) [] p = Unit {0}
IsElsewhere (suc m) (d ∷ ds) p = IsOff p.address d.controller.session × IsElsewhere m ds p

set_elsewhere : (p : Packet) (m k : ℕ) (e : Entry) (ds : List Entry)
    → ((d : Entry) → slice_get ds k ≡ Some d → IsOff p.address d.controller.session → IsOff p.address e.controller.session)
    → IsElsewhere m ds p → IsElsewhere m (slice_set ds k e) p
set_elsewhere p zero k e ds f all = tt
set_elsewhere p (suc m) k e [] f all = tt
set_elsewhere p (suc m) zero e (d ∷ ds) f all = (f d refl all.0, all.1)
set_elsewhere p (suc m) (suc k) e (d ∷ ds) f all = (all.0, set_elsewhere p m k e ds f all.1)

-- .. nor after they have heard another packet
heard_elsewhere : (p q : Packet) (now m : ℕ) (ds : Devices) → IsElsewhere m ds.entries p → IsElsewhere m (hears_packet q now ds).entries p
heard_elsewhere p q now m ds off = by_place (first_from 0 (is_at q.address) ds.entries)
  where
    by_entry : (k : ℕ) (o : Option Entry) → slice_get ds.entries k ≡ o → IsElsewhere m (hears_with q now k o ds).entries p
    by_entry k None is = off
    by_entry k (Some d) is =
        set_elsewhere p m k (entry_hears q now d) ds.entries (λ e at was.
        heard_off p.address q now d.controller.session (subst (λ (f : Entry). IsOff p.address f.controller.session) (some_same e d (sym at ∙ is)) was)) off

    by_place : (o : Option ℕ) → IsElsewhere m (hears_at q now o ds).entries p
    by_place None = off
    by_place (Some k) = by_entry k (slice_get ds.entries k) refl

items_elsewhere : (p : Packet) (now m : ℕ) (parts : List RunItem) (ds : Devices) → IsElsewhere m ds.entries p → IsElsewhere m (hears_items now parts ds).entries p
items_elsewhere p now m [] ds off = off
items_elsewhere p now m (PacketItem q ∷ parts) ds off = items_elsewhere p now m parts (hears_packet q now ds) (heard_elsewhere p q now m ds off)
items_elsewhere p now m (SkippedItem byte ∷ parts) ds off = items_elsewhere p now m parts ds off
items_elsewhere p now m (RefusedItem fault ∷ parts) ds off = items_elsewhere p now m parts ds off

silent_elsewhere : (p : Packet) (m : ℕ) (b : BusState) → IsElsewhere m b.devices.entries p → IsElsewhere m (ends_silent b).devices.entries p
silent_elsewhere p m b off =
    both (λ (c : BusState). IsElsewhere m c.devices.entries p) (is_silent b) (ends_run b) b
    (items_elsewhere p b.greatest m (items true b.held) b.devices off) off

pub from_least : (test : Entry → Bool) (at j : ℕ) (ds : List Entry) → first_from at test ds ≡ Some j → at ≤ j
from_least test at j [] is = absurd (let e = is in cc)
from_least test at j (d ∷ ds) is = by_test (test d) is (λ further. from_least test (at + 1) j ds further)
  where
    by_test : (b : Bool) → cond b (Some at) (first_from (at + 1) test ds) ≡ Some j → (first_from (at + 1) test ds ≡ Some j → at + 1 ≤ j) → at ≤ j
    by_test true here least = let same = some_same at j here in omega (arith, same)
    by_test false further least = let more = least further in omega (arith, more)

-- only a controller past these hears such a packet
heard_past : (p : Packet) (m at j : ℕ) (ds : List Entry) → IsElsewhere m ds p → first_from at (is_at p.address) ds ≡ Some j → at + m ≤ j
heard_past p zero at j ds off is = let least = from_least (is_at p.address) at j ds is in omega (arith, least)
heard_past p (suc m) at j [] off is = absurd (let e = is in cc)
heard_past p (suc m) at j (d ∷ ds) off is =
    let further = sym (ap (λ b. cond b (Some at) (first_from (at + 1) (is_at p.address) ds)) (is_false (address_of d) p.address off.0.0)) ∙ is in
    let rest = heard_past p m (at + 1) j ds off.1 further in omega (arith, rest)

module _ {H : Type 0} where
  -- ---- what the panel reads is in order, but what is for none of its controllers

  abbrev pub Ordered : InUse H → List Packet → List ℕ → Type 0
  Ordered l ps places = AreInOrder (IsElsewhere (length l.stations) l.bus.devices.entries) l.said ps places l.place

  -- the order that is left when a packet has been heard, or a run is over
  pub ordered_heard : (q : Packet) (l : InUse H) (ps : List Packet) (places : List ℕ) (before : ℕ)
      → AreInOrder (IsElsewhere (length l.stations) l.bus.devices.entries) l.said ps places before
      → AreInOrder (IsElsewhere (length l.stations) (hears_packet q l.bus.greatest l.bus.devices).entries) l.said ps places before
  ordered_heard q l ps places before order =
      let m = length l.stations in
      order_of (IsElsewhere m l.bus.devices.entries) (IsElsewhere m (hears_packet q l.bus.greatest l.bus.devices).entries) l.said
      (λ p off. heard_elsewhere p q l.bus.greatest m l.bus.devices off) ps places before order

  pub ordered_silent : (l : InUse H) (ps : List Packet) (places : List ℕ) (before : ℕ)
      → AreInOrder (IsElsewhere (length l.stations) l.bus.devices.entries) l.said ps places before
      → AreInOrder (IsElsewhere (length l.stations) (ends_silent l.bus).devices.entries) l.said ps places before
  ordered_silent l ps places before order =
      let m = length l.stations in
      order_of (IsElsewhere m l.bus.devices.entries) (IsElsewhere m (ends_silent l.bus).devices.entries) l.said (λ p off. silent_elsewhere p m l.bus off)
      ps places before order

  elsewhere_from : (p : Packet) (ts : List (Station H)) (ds : List Entry)
      → ((k : ℕ) (t : Station H) (d : Entry) → site_at k ts ≡ Some t → slice_get ds k ≡ Some d → IsOff p.address d.controller.session)
      → IsElsewhere (length ts) ds p
  elsewhere_from p [] ds f = tt
  elsewhere_from p (t ∷ ts) [] f = tt
  elsewhere_from p (t ∷ ts) (d ∷ ds) f = (f 0 t d refl refl, elsewhere_from p ts ds (λ k u e there at. f (suc k) u e there at))

  pub elsewhere : (l : InUse H) (p : Packet) → IsOfOthers l p → IsElsewhere (length l.stations) l.bus.devices.entries p
  elsewhere l p others =
      elsewhere_from p l.stations l.bus.devices.entries (λ k t d there at. (
        others.entries k t d there at,
        λ asked. others.devices k (IsAsked t d there at (somewhere_front (Sets p.address) (option_to_list (outstanding_command d.controller.session.state)) d.controller.waiting asked)),
      ))

  pub ordered : (l : InUse H) (ps : List Packet) (places : List ℕ) → AreInOrder (IsOfOthers l) l.said ps places l.place → Ordered l ps places
  ordered l ps places order =
      order_of (IsOfOthers l) (IsElsewhere (length l.stations) l.bus.devices.entries) l.said (λ p others. elsewhere l p others) ps places l.place order

  -- ---- what a device reads is in order, but what it doesn't answer

  abbrev pub IsUnanswered : ReaderState H → Packet → Type 0
  IsUnanswered r p = speaks (kind_of r p) ≡ false

  -- .. and then it is not the first that is answered
  pub unanswered_first : (r : ReaderState H) (p : Packet) (ps : List Packet) → IsUnanswered r p → first_answered r (p ∷ ps) ≡ first_answered r ps
  unanswered_first r p ps silent = ap (λ b. cond b (Some p) (first_answered r ps)) silent

  silent : (r : ReaderState H) (p : Packet) → r.config.address ≢ p.address → p.address ≢ 127 → kind_of r p ≡ kind.Silent
  silent r p here all =
      (λ i. by_tests p.reply (is_false p.address r.config.address (λ e. here (sym e)) i) (is_false p.address 127 all i)) ∙ by_reply p.reply
    where
      by_tests : Bool → Bool → Bool → Kind
      by_tests x y z = cond (x || not (y || z)) kind.Silent (cond p.block kind.Secured (cond (p.sequence == 0) (cond r.busy kind.Busy kind.Zero) (kind_by_number r.last p.sequence r.busy)))

      by_reply : (x : Bool) → by_tests x false false ≡ kind.Silent
      by_reply true = refl
      by_reply false = refl

  silent_to_others : (k : ℕ) (t : Station H) (l : InUse H) → site_at k l.stations ≡ Some t → (p : Packet) → IsOfOthers l p → kind_of t.reader p ≡ kind.Silent
  silent_to_others k t l is p others = silent t.reader p (λ same. others.devices k (IsThere t is same)) others.to_one

  pub order_for_device : (k : ℕ) (t : Station H) (l : InUse H) → site_at k l.stations ≡ Some t → (ps : List Packet) (places : List ℕ)
      → AreInOrder (IsOfOthers l) l.said ps places t.place → AreInOrder (IsUnanswered t.reader) l.said ps places t.place
  order_for_device k t l is ps places order =
      order_of (IsOfOthers l) (IsUnanswered t.reader) l.said (λ p others. ap speaks (silent_to_others k t l is p others)) ps places t.place order

  -- ---- no entry with a station hears a packet of others

  -- what is told is told of entries without a station
  abbrev pub AreOfOthers : List (ℕ × Report) → List (Station H) → Type 0
  AreOfOthers told ts = Each (λ (x : ℕ × Report). site_at x.0 ts ≡ None) told

  told_of_others : (j : ℕ) (r : Option Report) (ts : List (Station H)) → site_at j ts ≡ None → AreOfOthers (told_at j r) ts
  told_of_others j None ts none = tt
  told_of_others j (Some r) ts none = (none, tt)

  -- the entry that hears it, if any
  pub record HearsOther (p : Packet) (now : ℕ) (o : Option ℕ) (l : InUse H) : Type 0 where
    pub told : AreOfOthers (told_by_entry p now o l.bus.devices) l.stations
    pub entries : (k : ℕ) (t : Station H) → site_at k l.stations ≡ Some t
        → slice_get (hears_at p now o l.bus.devices).entries k ≡ slice_get l.bus.devices.entries k
    pub keeps : (ss : List (Site H)) → Match (IsSiteOf l.openings l.said l.bus.greatest) 0 l.bus.devices.entries l.stations ss
        → Match (IsSiteOf l.openings l.said l.bus.greatest) 0 (hears_at p now o l.bus.devices).entries l.stations ss

  pub hears_other : (p : Packet) (now : ℕ) (o : Option ℕ) (l : InUse H) → ((j : ℕ) → o ≡ Some j → site_at j l.stations ≡ None) → HearsOther p now o l
  hears_other p now None l none = record { told = tt; entries = λ k t is. refl; keeps = λ ss m. m }
  hears_other p now (Some j) l none = by_entry (slice_get l.bus.devices.entries j) refl
    where
      by_entry : (q : Option Entry) → slice_get l.bus.devices.entries j ≡ q → HearsOther p now (Some j) l
      by_entry None is = record {
        told = subst (λ q. AreOfOthers (told_with p now j q) l.stations) (sym is) tt;
        entries = λ k t there. ap (λ q. slice_get (hears_with p now j q l.bus.devices).entries k) is;
        keeps = λ ss m. subst (λ q. Match (IsSiteOf l.openings l.said l.bus.greatest) 0 (hears_with p now j q l.bus.devices).entries l.stations ss) (sym is) m;
      }
      by_entry (Some d) is = record {
        told = subst (λ q. AreOfOthers (told_with p now j q) l.stations) (sym is) (told_of_others j (told_of p now d) l.stations (none j refl));
        entries = λ k t there. ap (λ q. slice_get (hears_with p now j q l.bus.devices).entries k) is
            ∙ got_other k j (entry_hears p now d) l.bus.devices.entries
            (λ same. let here = subst (λ i. site_at i l.stations ≡ Some t) same there in absurd (let e = sym (none j refl) ∙ here in cc));
        keeps = λ ss m. subst (λ q. Match (IsSiteOf l.openings l.said l.bus.greatest) 0 (hears_with p now j q l.bus.devices).entries l.stations ss) (sym is)
            (set_other (IsSiteOf l.openings l.said l.bus.greatest) j (entry_hears p now d) l.bus.devices.entries l.stations ss (none j refl) m);
      }

  pub others_hear : (p : Packet) (now : ℕ) (l : InUse H) → IsElsewhere (length l.stations) l.bus.devices.entries p
      → HearsOther p now (first_from 0 (is_at p.address) l.bus.devices.entries) l
  others_hear p now l off =
      hears_other p now (first_from 0 (is_at p.address) l.bus.devices.entries) l (λ j is.
      let past = heard_past p (length l.stations) 0 j l.bus.devices.entries off is in none_past j l.stations (omega (arith, past)))

  pub passed_over : (answer_of : H → Command → Answer) (after : H → Command → H) → OthersArePassedOver answer_of after
  passed_over answer_of after l p others = record {
    controllers = λ now k t d there at. (others_hear p now l (elsewhere l p others)).entries k t there ∙ at;
    told = λ now.
        let h = others_hear p now l (elsewhere l p others) in
        each_all (λ (x : ℕ × Report). site_at x.0 l.stations ≡ None) (told_by_entry p now (first_from 0 (is_at p.address) l.bus.devices.entries) l.bus.devices) h.told;
    devices = λ k t is. ap (λ x. outcome answer_of after x t.reader p) (silent_to_others k t l is p others);
  }
