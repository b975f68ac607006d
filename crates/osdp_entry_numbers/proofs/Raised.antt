-- The greatest moment that a controller has seen is nothing to a bus that has seen it, too. Buses whose controllers differ by it alone do and tell the same.
use Rattle.osdp_entry_numbers.proofs.Common.{◌≡◌, ◌+◌, ℕ, zero, suc, Bool, cond, max, List, [], ◌∷◌, ◌++◌, map, take, drop, slice_get, slice_set, Option, Some, None, refl, sym, subst, ap, ◌∙◌, inl, inr, arith, option_map, Packet, RunItem, PacketItem, SkippedItem, RefusedItem, Heard, BusState, Devices, waiting_after, entry_hears, entry_ticks, first_from, is_at, is_entry_due, step_of, told_of, reserved_after, hears_at, hears_items, hears_packet, hears_with, Entry, told_by_entry, told_by_item, told_by_items, told_at, told_with}
use Rattle.std.specs.Prelude.{◌≤◌}
use Rattle.osdp_controller.specs.Answers.{meaning_of}
use Rattle.osdp_controller.specs.Hearing.{hears, hears_in, ignores, is_from_reader}
use Rattle.osdp_controller.specs.Machine.{acts}
use Rattle.osdp_controller.specs.Ticking.{Ticked, ticks, ticks_in}
use Rattle.osdp_controller.specs.declared.session.Session.{Session}
use Rattle.osdp_controller_laws.proofs.Kept.{hears_at_moment}
use Rattle.osdp_bus.specs.Entries.{first_around}
use Rattle.osdp_bus_laws.proofs.Places.{replaced}
use Rattle.std.specs.Option.{option_or}
use Rattle.osdp_entry_numbers.specs.Numbers.{as_seen}

-- each controller as if it had seen this moment
abbrev pub raised : ℕ → Devices → Devices
raised m ds = record ds { entries = map (as_seen m) ds.entries }

-- .. each, as if it had seen what the bus has
abbrev pub caught_up : BusState → BusState
caught_up b = record b { devices = raised b.greatest b.devices }

-- none has seen a later one
abbrev pub IsReached : ℕ → Devices → Type 0
IsReached m ds = (i : ℕ) (d : Entry) → slice_get ds.entries i ≡ Some d → d.controller.session.greatest ≤ m

-- ---- lists

pub get_raised : (m : ℕ) (ds : List Entry) (i : ℕ) → slice_get (map (as_seen m) ds) i ≡ option_map (as_seen m) (slice_get ds i)
get_raised m [] i = refl
get_raised m (d ∷ ds) zero = refl
get_raised m (d ∷ ds) (suc i) = get_raised m ds i

set_raised : (m : ℕ) (ds : List Entry) (i : ℕ) (e : Entry) → map (as_seen m) (slice_set ds i e) ≡ slice_set (map (as_seen m) ds) i (as_seen m e)
set_raised m [] i e = refl
set_raised m (d ∷ ds) zero e = refl
set_raised m (d ∷ ds) (suc i) e = ap (λ es. as_seen m d ∷ es) (set_raised m ds i e)

pub raise_twice : (m k : ℕ) (ds : List Entry) → map (as_seen m) (map (as_seen k) ds) ≡ map (as_seen m) ds
raise_twice m k [] = refl
raise_twice m k (d ∷ ds) = ap (λ es. as_seen m d ∷ es) (raise_twice m k ds)

pub take_raised : (m n : ℕ) (ds : List Entry) → take n (map (as_seen m) ds) ≡ map (as_seen m) (take n ds)
take_raised m zero ds = refl
take_raised m (suc n) [] = refl
take_raised m (suc n) (d ∷ ds) = ap (λ es. as_seen m d ∷ es) (take_raised m n ds)

pub drop_raised : (m n : ℕ) (ds : List Entry) → drop n (map (as_seen m) ds) ≡ map (as_seen m) (drop n ds)
drop_raised m zero ds = refl
drop_raised m (suc n) [] = refl
drop_raised m (suc n) (d ∷ ds) = drop_raised m n ds

abbrev pub AreReached : ℕ → List Entry → Type 0
AreReached m [] = Unit {0}
AreReached m (d ∷ ds) = (d.controller.session.greatest ≤ m) × AreReached m ds

pub all_reached : (m : ℕ) (ds : List Entry) → ((i : ℕ) (d : Entry) → slice_get ds i ≡ Some d → d.controller.session.greatest ≤ m) → AreReached m ds
all_reached m [] all = tt
all_reached m (d ∷ ds) all = (all 0 d refl, all_reached m ds (λ i. all (suc i)))

take_reached : (m n : ℕ) (ds : List Entry) → AreReached m ds → AreReached m (take n ds)
take_reached m zero ds all = tt
take_reached m (suc n) [] all = tt
take_reached m (suc n) (d ∷ ds) all = (all.0, take_reached m n ds all.1)

drop_reached : (m n : ℕ) (ds : List Entry) → AreReached m ds → AreReached m (drop n ds)
drop_reached m zero ds all = all
drop_reached m (suc n) [] all = tt
drop_reached m (suc n) (d ∷ ds) all = drop_reached m n ds all.1

-- the first that passes a test by which the moment is nothing
pub first_raised : (test : Entry → Bool) (m n : ℕ) (ds : List Entry) → AreReached m ds → ((d : Entry) → d.controller.session.greatest ≤ m → test (as_seen m d) ≡ test d)
    → first_from n test (map (as_seen m) ds) ≡ first_from n test ds
first_raised test m n [] all same = refl
first_raised test m n (d ∷ ds) all same = (λ i. cond (same d all.0 i) (Some n) (first_raised test m (n + 1) ds all.1 same i))

pub around_raised : (test : Entry → Bool) (m first : ℕ) (ds : List Entry) → AreReached m ds → ((d : Entry) → d.controller.session.greatest ≤ m → test (as_seen m d) ≡ test d)
    → first_around first test (map (as_seen m) ds) ≡ first_around first test ds
around_raised test m first ds all same =
    (λ i. option_or (first_from first test (drop_raised m first ds i)) (first_from 0 test (take_raised m first ds i)))
    ∙ (λ i. option_or (first_raised test m first (drop first ds) (drop_reached m first ds all) same i) (first_raised test m 0 (take first ds) (take_reached m first ds all) same i))

-- ---- one controller

moment : (g m : ℕ) → g ≤ m → max m m ≡ max g m
moment g m le = omega (arith, le)

hears_raised : (p : Packet) (m : ℕ) (d : Entry) → d.controller.session.greatest ≤ m → hears p m (as_seen m d).controller.session ≡ hears p m d.controller.session
hears_raised p m d le = ap (heard_at d.controller.session) (moment d.controller.session.greatest m le)
  where
    heard_at : Session → ℕ → Heard
    heard_at s g = cond (is_from_reader p s) (hears_in s.state p.sequence (meaning_of p) (record s { greatest = g })) (ignores (record s { greatest = g }))

ticks_raised : (m : ℕ) (d : Entry) → d.controller.session.greatest ≤ m
    → ticks m (as_seen m d).controller.session d.controller.waiting ≡ ticks m d.controller.session d.controller.waiting
ticks_raised m d le = ap (ticked_at d.controller.session) (moment d.controller.session.greatest m le)
  where
    ticked_at : Session → ℕ → Ticked
    ticked_at s g = ticks_in s.state (record s { greatest = g }) d.controller.waiting

hears_same : (p : Packet) (m : ℕ) (d : Entry) → d.controller.session.greatest ≤ m → entry_hears p m (as_seen m d) ≡ entry_hears p m d
hears_same p m d le =
    ap (λ (h : Heard). record { controller = record d.controller { session = h.session }; reserved = reserved_after h.report d.reserved }) (hears_raised p m d le)

told_same : (p : Packet) (m : ℕ) (d : Entry) → d.controller.session.greatest ≤ m → told_of p m (as_seen m d) ≡ told_of p m d
told_same p m d le = ap (λ (h : Heard). h.report) (hears_raised p m d le)

pub ticks_same : (m : ℕ) (d : Entry) → d.controller.session.greatest ≤ m → entry_ticks m (as_seen m d) ≡ entry_ticks m d
ticks_same m d le = ap (λ (t : Ticked). record {
  controller = record d.controller { session = t.session; waiting = t.waiting };
  reserved = reserved_after t.step.report d.reserved;
}) (ticks_raised m d le)

pub step_same : (m : ℕ) (d : Entry) → d.controller.session.greatest ≤ m → step_of m (as_seen m d) ≡ step_of m d
step_same m d le = ap (λ (t : Ticked). t.step) (ticks_raised m d le)

pub due_same : (m : ℕ) (d : Entry) → d.controller.session.greatest ≤ m → is_entry_due m (as_seen m d) ≡ is_entry_due m d
due_same m d le = ap (λ (t : Ticked). acts t.step) (ticks_raised m d le)

heard_reached : (p : Packet) (m : ℕ) (d : Entry) → d.controller.session.greatest ≤ m → (entry_hears p m d).controller.session.greatest ≤ m
heard_reached p m d le = let is = hears_at_moment p m d.controller.session in omega (arith, is, le)

-- ---- an entry changes

pub set_reached : (m : ℕ) (ds : List Entry) (i : ℕ) (e : Entry) → e.controller.session.greatest ≤ m
    → ((j : ℕ) (d : Entry) → slice_get ds j ≡ Some d → d.controller.session.greatest ≤ m)
    → (j : ℕ) (d : Entry) → slice_get (slice_set ds i e) j ≡ Some d → d.controller.session.greatest ≤ m
set_reached m ds i e le all j d at = elim (replaced ds i e j d at) [
  | inl here ↦ subst (λ (x : Entry). x.controller.session.greatest ≤ m) (sym here.1) le
  | inr was ↦ all j d was.1
]

-- of the raised list and of the list itself, where what it becomes is the same but for the moment
pub set_twice : (m : ℕ) (ds : List Entry) (i : ℕ) (e f : Entry) → as_seen m e ≡ as_seen m f
    → map (as_seen m) (slice_set (map (as_seen m) ds) i e) ≡ map (as_seen m) (slice_set ds i f)
set_twice m ds i e f same =
    set_raised m (map (as_seen m) ds) i e ∙ (λ j. slice_set (raise_twice m m ds j) i (same j)) ∙ sym (set_raised m ds i f)

-- ---- packets

module _ (m : ℕ) where
  abbrev SamePacket : Packet → Option ℕ → Devices → Type 0
  SamePacket p o ds = (raised m (hears_at p m o (raised m ds)) ≡ raised m (hears_at p m o ds)) × (told_by_entry p m o (raised m ds) ≡ told_by_entry p m o ds)

  twice : (ds : Devices) → raised m (raised m ds) ≡ raised m ds
  twice ds = ap (λ es. record ds { entries = es }) (raise_twice m m ds.entries)

  packet_with : (p : Packet) (i : ℕ) (ds : Devices) → IsReached m ds → SamePacket p (Some i) ds
  packet_with p i ds reached =
      subst (λ q. (raised m (hears_with p m i q (raised m ds)) ≡ raised m (hears_at p m (Some i) ds)) × (told_with p m i q ≡ told_by_entry p m (Some i) ds))
      (sym (get_raised m ds.entries i)) (by_entry (slice_get ds.entries i) refl)
    where
      by_entry : (q : Option Entry) → slice_get ds.entries i ≡ q
          → (raised m (hears_with p m i (option_map (as_seen m) q) (raised m ds)) ≡ raised m (hears_with p m i q ds)) × (told_with p m i (option_map (as_seen m) q) ≡ told_with p m i q)
      by_entry None at = (twice ds, refl)
      by_entry (Some d) at =
          let le = reached i d at in
          let told = told_same p m d le in (
            (λ j. record {
              entries = set_twice m ds.entries i (entry_hears p m (as_seen m d)) (entry_hears p m d) (ap (as_seen m) (hears_same p m d le)) j;
              report = waiting_after i (told j) ds.report;
            }),
            ap (told_at i) told,
          )

  packet_at : (p : Packet) (o : Option ℕ) (ds : Devices) → IsReached m ds → SamePacket p o ds
  packet_at p None ds reached = (twice ds, refl)
  packet_at p (Some i) ds reached = packet_with p i ds reached

  packet_raised : (p : Packet) (ds : Devices) → IsReached m ds
      → (raised m (hears_packet p m (raised m ds)) ≡ raised m (hears_packet p m ds)) × (told_by_item m (PacketItem p) (raised m ds) ≡ told_by_item m (PacketItem p) ds)
  packet_raised p ds reached =
      let o = first_from 0 (is_at p.address) ds.entries in
      let same = first_raised (is_at p.address) m 0 ds.entries (all_reached m ds.entries reached) (λ d le. refl) in
      subst (λ q. (raised m (hears_at p m q (raised m ds)) ≡ raised m (hears_at p m o ds)) × (told_by_entry p m q (raised m ds) ≡ told_by_entry p m o ds)) (sym same)
      (packet_at p o ds reached)

  packet_reached : (p : Packet) (ds : Devices) → IsReached m ds → IsReached m (hears_packet p m ds)
  packet_reached p ds reached = by_first (first_from 0 (is_at p.address) ds.entries)
    where
      by_entry : (i : ℕ) (q : Option Entry) → slice_get ds.entries i ≡ q → IsReached m (hears_with p m i q ds)
      by_entry i None at = reached
      by_entry i (Some d) at = set_reached m ds.entries i (entry_hears p m d) (heard_reached p m d (reached i d at)) reached

      by_first : (o : Option ℕ) → IsReached m (hears_at p m o ds)
      by_first None = reached
      by_first (Some i) = by_entry i (slice_get ds.entries i) refl

  pub raised_reached : (ds : Devices) → IsReached m (raised m ds)
  raised_reached ds i d at = by_entry (slice_get ds.entries i) (sym (get_raised m ds.entries i) ∙ at)
    where
      by_entry : (q : Option Entry) → option_map (as_seen m) q ≡ Some d → d.controller.session.greatest ≤ m
      by_entry None is = absurd (let e = is in cc)
      by_entry (Some e) is = let same : as_seen m e ≡ d = cc in subst (λ (x : Entry). x.controller.session.greatest ≤ m) same (omega arith)

  -- devices that differ by the moments alone
  pub record AreAlike (ds es : Devices) : Type 0 where
    pub same : raised m ds ≡ raised m es
    pub here : IsReached m ds
    pub there : IsReached m es

  pub alike_packet : (p : Packet) (ds es : Devices) → AreAlike ds es
      → AreAlike (hears_packet p m ds) (hears_packet p m es) × (told_by_item m (PacketItem p) ds ≡ told_by_item m (PacketItem p) es)
  alike_packet p ds es a =
      let x = packet_raised p ds a.here in
      let y = packet_raised p es a.there in (
        record {
          same = sym x.0 ∙ ap (λ (fs : Devices). raised m (hears_packet p m fs)) a.same ∙ y.0;
          here = packet_reached p ds a.here;
          there = packet_reached p es a.there;
        },
        sym x.1 ∙ ap (λ (fs : Devices). told_by_item m (PacketItem p) fs) a.same ∙ y.1,
      )

  pub alike_items : (parts : List RunItem) (ds es : Devices) → AreAlike ds es
      → AreAlike (hears_items m parts ds) (hears_items m parts es) × (told_by_items m parts ds ≡ told_by_items m parts es)
  alike_items [] ds es a = (a, refl)
  alike_items (PacketItem p ∷ parts) ds es a =
      let one = alike_packet p ds es a in
      let rest = alike_items parts (hears_packet p m ds) (hears_packet p m es) one.0 in
      (rest.0, λ i. one.1 i ++ rest.1 i)
  alike_items (SkippedItem byte ∷ parts) ds es a = alike_items parts ds es a
  alike_items (RefusedItem fault ∷ parts) ds es a = alike_items parts ds es a
