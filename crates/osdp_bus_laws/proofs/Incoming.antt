-- Packets go to the device of their address, and cuts change nothing.
use Rattle.osdp_bus_laws.proofs.Common.{◌≡◌, ◌∙◌, ap, sym, subst, inl, ℕ, ◌-◌, ◌≤◌, Bool, true, false, max, List, [], ◌∷◌, ◌++◌, Option, Some, None, refl, arith, append_assoc, append-nil, ◌≢◌, if◌then◌else◌, slice_get, eqb-true, eq-eqb, lt-leb, items, left_over, Packet, BusConfig, Entry, BusState, Devices, is_silent, seen, address_of, entry_hears, first_from, is_at, after_bytes, ends_run, ends_silent, hears_at, hears_bytes, hears_items, hears_packet, hears_with, left_over-append, IsFound, found}
use Rattle.osdp_frame.specs.Bytes.{AreBytes}
use Rattle.osdp_frame.specs.Silence.{is_silent_for}
use Rattle.osdp_frame_laws.proofs.Readings.{items-append}
use Rattle.osdp_frame.proofs.Head.{AreBytes-append}
use Rattle.osdp_bus.proofs.Runs.{hears_items-append}
use Rattle.osdp_bus_laws.specs.Packets.{CutsChangeNothing, GoesToItsAddress, PacketsGoToTheirAddress}
use Rattle.osdp_bus_laws.proofs.Changing.{Sound}
use Rattle.osdp_controller_laws.proofs.Kept.{hears_at_moment}
use Rattle.osdp_bus_laws.proofs.Places.{none_at}
use Rattle.osdp_bus_laws.proofs.Sound.{SoundBus, sound_items}
use Rattle.osdp_bus_laws.proofs.Turning.{set_here, set_other}

-- ---- whose a packet is

module _ (p : Packet) (now : ℕ) (ds : Devices) (sound : Sound ds) where
  abbrev found_as : Option ℕ → Type 0
  found_as o = first_from 0 (is_at p.address) ds.entries ≡ o

  at_found : (n : ℕ) → found_as (Some n) → (d : Entry) × (slice_get ds.entries n ≡ Some d) × (address_of d ≡ p.address)
  at_found n h =
      let here = subst (IsFound (is_at p.address) 0 ds.entries) h (found (is_at p.address) 0 ds.entries) in
      let place : n ≡ here.0 = (let e = here.1.1.0 in omega arith) in
      (here.1.0, ap (slice_get ds.entries) place ∙ here.1.1.1, eqb-true (address_of here.1.0) p.address here.1.1.2)

  not_found : found_as None → (entry : ℕ) (d : Entry) → slice_get ds.entries entry ≡ Some d → address_of d ≢ p.address
  not_found h entry d at same =
      let none = none_at (is_at p.address) ds.entries entry d (subst (IsFound (is_at p.address) 0 ds.entries) h (found (is_at p.address) 0 ds.entries)) at in
      let some = eq-eqb (address_of d) p.address same in
      cc

  heard : (o : Option ℕ) → found_as o → hears_packet p now ds ≡ hears_at p now o ds
  heard o h = ap (λ n. hears_at p now n ds) h

  own_heard : (entry : ℕ) (d : Entry) → slice_get ds.entries entry ≡ Some d → address_of d ≡ p.address → (o : Option ℕ) → found_as o
      → hears_packet p now ds ≡ hears_with p now entry (Some d) ds
  own_heard entry d at same None h = absurd (not_found h entry d at same)
  own_heard entry d at same (Some n) h =
      let other = at_found n h in
      let place : n ≡ entry = sound.apart p.address n entry other.0 d other.1 at (inl other.2) (inl same) in
      heard (Some n) h ∙ ap (λ k. hears_with p now k (slice_get ds.entries k) ds) place ∙ ap (λ k. hears_with p now entry k ds) at

  others_kept : (entry : ℕ) (d : Entry) → slice_get ds.entries entry ≡ Some d → address_of d ≢ p.address → (o : Option ℕ) → found_as o
      → slice_get (hears_packet p now ds).entries entry ≡ Some d
  others_kept entry d at differs None h = ap (λ (e : Devices). slice_get e.entries entry) (heard None h) ∙ at
  others_kept entry d at differs (Some n) h =
      let other = at_found n h in
      let apart : entry ≢ n = (λ same. differs (let one : Some d ≡ Some other.0 = sym at ∙ ap (slice_get ds.entries) same ∙ other.1 in
      let is : d ≡ other.0 = cc in ap address_of is ∙ other.2)) in
      ap (λ (e : Devices). slice_get e.entries entry) (heard (Some n) h ∙ ap (λ k. hears_with p now n k ds) other.1)
      ∙ set_other ds.entries n entry (entry_hears p now other.0) apart ∙ at

  nobody_hears : ((entry : ℕ) (d : Entry) → slice_get ds.entries entry ≡ Some d → address_of d ≢ p.address) → (o : Option ℕ) → found_as o
      → hears_packet p now ds ≡ ds
  nobody_hears none None h = heard None h
  nobody_hears none (Some n) h = absurd (let other = at_found n h in none n other.0 other.1 other.2)

  pub goes_to_its_address : GoesToItsAddress p now ds
  goes_to_its_address = record {
    own = λ entry d at same. own_heard entry d at same (first_from 0 (is_at p.address) ds.entries) refl;
    seen = λ entry d at same. (
      entry_hears p now d,
      ap (λ (e : Devices). slice_get e.entries entry) (own_heard entry d at same (first_from 0 (is_at p.address) ds.entries) refl)
          ∙ set_here ds.entries entry d (entry_hears p now d) at,
      hears_at_moment p now d.controller.session,
    );
    others = λ entry d at differs. others_kept entry d at differs (first_from 0 (is_at p.address) ds.entries) refl;
    nobody = λ none. nobody_hears none (first_from 0 (is_at p.address) ds.entries) refl;
  }

pub packets_go_to_their_address : (b : BusState) → SoundBus b → PacketsGoToTheirAddress b
packets_go_to_their_address b is before p now =
    goes_to_its_address p now (hears_items now before b.devices) (sound_items now before b.devices is.devices)

-- ---- cuts

seen_again : (now : ℕ) (b : BusState) → seen now (seen now b) ≡ seen now b
seen_again now b =
    let same : max (max b.greatest now) now ≡ max b.greatest now = omega arith in
    ap (λ g. record b { greatest = g }) same

-- what was silent long enough or not: the moments stay, and the bytes held are bytes still
abbrev EndedAs : BusState → BusState → Type 0
EndedAs b e = (e.greatest ≡ b.greatest) × (e.config ≡ b.config) × (AreBytes b.held → AreBytes e.held)

ended_as : (b : BusState) → EndedAs b (ends_silent b)
ended_as b = by_test (is_silent b)
  where
    by_test : (t : Bool) → EndedAs b (if t then ends_run b else b)
    by_test true = (refl, refl, λ h place. omega arith)
    by_test false = (refl, refl, λ h. h)

-- more bytes of the same run
on_and_on : (front back : List ℕ) (e : BusState) → AreBytes e.held → AreBytes (front ++ back) → hears_bytes back (hears_bytes front e) ≡ hears_bytes (front ++ back) e
on_and_on front back e held fits =
    let all : AreBytes ((e.held ++ front) ++ back) = subst AreBytes (sym (append_assoc e.held front back)) (AreBytes-append e.held (front ++ back) held fits) in
    let g = e.greatest in
    let heard : hears_items g (items false (left_over (e.held ++ front) ++ back)) (hears_items g (items false (e.held ++ front)) e.devices)
    ≡ hears_items g (items false (e.held ++ (front ++ back))) e.devices =
    sym (hears_items-append g (items false (e.held ++ front)) (items false (left_over (e.held ++ front) ++ back)) e.devices)
    ∙ ap (λ l. hears_items g l e.devices) (sym (items-append false (e.held ++ front) back all))
    ∙ ap (λ l. hears_items g (items false l) e.devices) (append_assoc e.held front back) in
    let left : left_over (left_over (e.held ++ front) ++ back) ≡ left_over (e.held ++ (front ++ back)) =
    sym (left_over-append (e.held ++ front) back all) ∙ ap left_over (append_assoc e.held front back) in
    (λ i. record e { devices = heard i; held = left i; last = e.greatest })

no_gap : (gap n : ℕ) → 1 ≤ gap → is_silent_for gap n n ≡ false
no_gap gap n some = lt-leb gap (n - n) (omega arith)

-- bytes that come at the moment of the last ones: the run goes on
goes_on : (front : List ℕ) (now : ℕ) (e : BusState) → 1 ≤ e.config.gap → e.greatest ≡ max e.greatest now
    → ends_silent (seen now (hears_bytes front e)) ≡ hears_bytes front e
goes_on front now e some same =
    let h = hears_bytes front e in
    let again : seen now h ≡ h = ap (λ g. record h { greatest = g }) (sym same) in
    ap ends_silent again ∙ ap (λ t. if t then ends_run h else h) (no_gap e.config.gap e.greatest some)

greatest_seen : (now : ℕ) (b : BusState) → (ends_silent (seen now b)).greatest ≡ max (ends_silent (seen now b)).greatest now
greatest_seen now b =
    let is = (ended_as (seen now b)).0 in
    let same : max b.greatest now ≡ max (max b.greatest now) now = omega arith in
    is ∙ same ∙ ap (λ g. max g now) (sym is)

cut_after : (b : BusState) (byte : ℕ) (front back : List ℕ) (now : ℕ) → 1 ≤ b.config.gap → AreBytes b.held → AreBytes ((byte ∷ front) ++ back)
    → after_bytes back now (after_bytes (byte ∷ front) now b) ≡ after_bytes ((byte ∷ front) ++ back) now b
cut_after b byte front [] now some held fits =
    let e = ends_silent (seen now b) in
    let h = hears_bytes (byte ∷ front) e in
    ap (λ g. record h { greatest = g }) (sym (greatest_seen now b)) ∙ ap (λ l. hears_bytes (byte ∷ l) e) (sym (append-nil front))
cut_after b byte front (next ∷ back) now some held fits =
    let e = ends_silent (seen now b) in
    let kept = ended_as (seen now b) in
    ap (hears_bytes (next ∷ back)) (goes_on (byte ∷ front) now e (subst (λ (c : BusConfig). 1 ≤ c.gap) (sym kept.1) some) (greatest_seen now b))
    ∙ on_and_on (byte ∷ front) (next ∷ back) e (kept.2 held) fits

cut_before : (b : BusState) (back : List ℕ) (now : ℕ) → after_bytes back now (seen now b) ≡ after_bytes back now b
cut_before b [] now = seen_again now b
cut_before b (byte ∷ back) now = ap (λ s. hears_bytes (byte ∷ back) (ends_silent s)) (seen_again now b)

pub cuts_change_nothing : (b : BusState) → SoundBus b → CutsChangeNothing b
cuts_change_nothing b is [] back now held fits = cut_before b back now
cuts_change_nothing b is (byte ∷ front) back now held fits = cut_after b byte front back now is.config.gap.0 held fits
