-- A run of bytes that comes to a bus, and is over: what it holds is heard by the first controller at its address.
use Rattle.osdp_bus_links.proofs.Common.{◌≡◌, ◌⊎◌, All, ◌+◌, ℕ, zero, suc, max, Bool, true, false, cond, List, [], ◌∷◌, ◌++◌, map, Option, Some, None, refl, sym, subst, ap, ◌∙◌, inl, inr, arith, eqb_tells, append-nil, slice_get, slice_set, Packet, Report, silent_frame, first_from, is_at, after_silence, hears_at, hears_bytes, hears_items, hears_packet, hears_with, nothing_silent, IsPlainlySaid, each_of, heard_so, Site, changed, first_gets, gets, site_at, HearsAsAMove, IsHeard, IsNoRefusalOf, TellsEach, device_of, heard, told_by_first}
use Rattle.osdp_frame.specs.Bytes.{AreBytes}
use Rattle.osdp_frame.specs.Items.{items, left_over, packets_in, reading, whole_packets}
use Rattle.osdp_frame.specs.Reading.{RunItem, PacketItem, SkippedItem, RefusedItem}
use Rattle.osdp_controller.specs.Machine as controllers
use Rattle.osdp_bus.specs.Buses.{BusState, Devices, seen, waiting_after}
use Rattle.osdp_bus.specs.Entries as devices
use Rattle.osdp_bus.proofs.Runs.{hears_items-append}
use Rattle.osdp_shared_line.specs.Line as line
use Rattle.osdp_bus_links.proofs.Devices.{freed_same, get_device, set_device}
use Rattle.osdp_bus_links.proofs.Telling.{EndsAreTold, refuses_none, told_nothing, told_one}

-- ---- the packets among items

none_heard : (now : ℕ) (parts : List RunItem) (ds : Devices) → whole_packets parts ≡ [] → hears_items now parts ds ≡ ds
none_heard now [] ds none = refl
none_heard now (PacketItem p ∷ parts) ds none = absurd cc
none_heard now (SkippedItem b ∷ parts) ds none = none_heard now parts ds none
none_heard now (RefusedItem fault ∷ parts) ds none = none_heard now parts ds none

one_heard : (now : ℕ) (p : Packet) (parts : List RunItem) (ds : Devices) → whole_packets parts ≡ p ∷ [] → hears_items now parts ds ≡ hears_packet p now ds
one_heard now p [] ds is = absurd cc
one_heard now p (PacketItem q ∷ parts) ds is =
    let same : q ≡ p = cc in
    let none : whole_packets parts ≡ [] = cc in
    none_heard now parts (hears_packet q now ds) none ∙ ap (λ r. hears_packet r now ds) same
one_heard now p (SkippedItem b ∷ parts) ds is = one_heard now p parts ds is
one_heard now p (RefusedItem fault ∷ parts) ds is = one_heard now p parts ds is

-- ---- the whole run

abbrev InPieces : Type 0
InPieces = (ended : Bool) (bytes more : List ℕ) → AreBytes (bytes ++ more) → items ended (bytes ++ more) ≡ items false bytes ++ items ended (left_over bytes ++ more)

max_again : (a n : ℕ) → max (max a n) n ≡ max a n
max_again a n = omega arith

pieces : InPieces → (bytes : List ℕ) → AreBytes bytes → items false bytes ++ items true (left_over bytes) ≡ reading bytes
pieces law bytes fits =
    ap (λ l. items false bytes ++ items true l) (sym (append-nil (left_over bytes)))
    ∙ sym (law true bytes [] (subst AreBytes (sym (append-nil bytes)) fits))
    ∙ ap (items true) (append-nil bytes)

run_heard : InPieces → (b : BusState) (now : ℕ) (bytes : List ℕ) → AreBytes bytes → b.held ≡ []
    → (heard bytes now b).devices ≡ hears_items (max b.greatest now) (reading bytes) b.devices
run_heard law b now [] fits held =
    ap (λ l. hears_items (max (max b.greatest now) now) (items true l) b.devices) held
    ∙ ap (λ m. hears_items m (items true []) b.devices) (max_again b.greatest now)
run_heard law b now (byte ∷ rest) fits held =
    let bytes = byte ∷ rest in
    let g = max b.greatest now in
    ap (λ (c : BusState). (after_silence now (hears_bytes bytes c)).devices) (nothing_silent (seen now b) held)
    ∙ ap (λ l. hears_items (max g now) (items true (left_over (l ++ bytes))) (hears_items g (items false (l ++ bytes)) b.devices)) held
    ∙ ap (λ m. hears_items m (items true (left_over bytes)) (hears_items g (items false bytes) b.devices)) (max_again b.greatest now)
    ∙ sym (hears_items-append g (items false bytes) (items true (left_over bytes)) b.devices)
    ∙ ap (λ parts. hears_items g parts b.devices) (pieces law bytes fits)

module _ {H : Type 0} (ends : EndsAreTold) where
  -- ---- who is at the packet's address

  abbrev Found : Packet → ℕ → ℕ → List (Site H) → Type 0
  Found p now at ss =
      ((first_from at (is_at p.address) (map device_of ss) ≡ None) × (first_gets p now ss ≡ ss) × (told_by_first at p now ss ≡ None))
      ⊎ ((k : ℕ) × (s : Site H) × (first_from at (is_at p.address) (map device_of ss) ≡ Some (at + k)) × (site_at k ss ≡ Some s)
      × (first_gets p now ss ≡ changed k (gets p now s) ss) × (told_by_first at p now ss ≡ waiting_after (at + k) (devices.told_of p now (device_of s)) None))

  found : (p : Packet) (now at : ℕ) (ss : List (Site H)) → Found p now at ss
  found p now at [] = inl (refl, refl, refl)
  found p now at (s ∷ ss) =
      elim (eqb_tells (line.address_of s) p.address) [
        | inl here ↦
            let first : at ≡ at + 0 = omega arith in
            inr (
              zero,
              s,
              ap (λ b. cond b (Some at) (first_from (at + 1) (is_at p.address) (map device_of ss))) here.0 ∙ ap Some first,
              refl,
              ap (λ b. cond b (gets p now s ∷ ss) (s ∷ first_gets p now ss)) here.0,
              ap (λ b. cond b (waiting_after at (devices.told_of p now (device_of s)) None) (told_by_first (at + 1) p now ss)) here.0
                  ∙ ap (λ m. waiting_after m (devices.told_of p now (device_of s)) None) first,
            )
        | inr other ↦ elim (found p now (at + 1) ss) [
          | inl none ↦ inl (
            ap (λ b. cond b (Some at) (first_from (at + 1) (is_at p.address) (map device_of ss))) other.0 ∙ none.0,
            ap (λ b. cond b (gets p now s ∷ ss) (s ∷ first_gets p now ss)) other.0 ∙ ap (λ us. s ∷ us) none.1,
            ap (λ b. cond b (waiting_after at (devices.told_of p now (device_of s)) None) (told_by_first (at + 1) p now ss)) other.0 ∙ none.2,
          )
          | inr (k, t, some, is, got, told) ↦
              let next : at + 1 + k ≡ at + suc k = omega arith in
              inr (
                suc k,
                t,
                ap (λ b. cond b (Some at) (first_from (at + 1) (is_at p.address) (map device_of ss))) other.0 ∙ some ∙ ap Some next,
                is,
                ap (λ b. cond b (gets p now s ∷ ss) (s ∷ first_gets p now ss)) other.0 ∙ ap (λ us. s ∷ us) got,
                ap (λ b. cond b (waiting_after at (devices.told_of p now (device_of s)) None) (told_by_first (at + 1) p now ss)) other.0 ∙ told
                    ∙ ap (λ m. waiting_after m (devices.told_of p now (device_of t)) None) next,
              )
        ]
      ]

  record Hears (Plain : Type 0) (report : Option (ℕ × Report)) (ds : Devices) (ss next : List (Site H)) : Type 0 where
    entries : ds.entries ≡ map device_of next
    report_is : ds.report ≡ report
    told : TellsEach ds.report [] ss next
    plain : Plain → IsNoRefusalOf ds.report

  packet_heard : (p : Packet) (now : ℕ) (ds : Devices) (ss : List (Site H)) → ds.entries ≡ map device_of ss → ds.report ≡ None
      → Hears (IsPlainlySaid p) (told_by_first 0 p now ss) (hears_packet p now ds) ss (first_gets p now ss)
  packet_heard p now ds ss entries report =
      elim (found p now 0 ss) [
        | inl none ↦
            subst (λ o. Hears (IsPlainlySaid p) (told_by_first 0 p now ss) (hears_at p now o ds) ss (first_gets p now ss)) (sym (ap (first_from 0 (is_at p.address)) entries ∙ none.0))
            (subst (Hears (IsPlainlySaid p) (told_by_first 0 p now ss) ds ss) (sym none.1) (record {
              entries = entries;
              report_is = report ∙ sym none.2;
              told = subst (λ o. TellsEach o [] ss ss) (sym report) (told_nothing ss);
              plain = λ said. subst IsNoRefusalOf (sym report) tt;
            }))
        | inr (k, s, some, is, got, tells) ↦
            let here : 0 + k ≡ k = omega arith in
            subst (λ o. Hears (IsPlainlySaid p) (told_by_first 0 p now ss) (hears_at p now o ds) ss (first_gets p now ss)) (sym (ap (first_from 0 (is_at p.address)) entries ∙ some ∙ ap Some here))
            (subst (λ d. Hears (IsPlainlySaid p) (told_by_first 0 p now ss) (hears_with p now k d ds) ss (first_gets p now ss)) (sym (ap (λ es. slice_get es k) entries ∙ get_device k s ss is))
            (subst (Hears (IsPlainlySaid p) (told_by_first 0 p now ss) (hears_with p now k (Some (device_of s)) ds) ss) (sym got) (record {
              report_is = ap (waiting_after k (devices.told_of p now (device_of s))) report
                  ∙ sym (tells ∙ ap (λ m. waiting_after m (devices.told_of p now (device_of s)) None) here);
              entries = ap (λ es. slice_set es k (devices.entry_hears p now (device_of s))) entries
                  ∙ ap (λ r. slice_set (map device_of ss) k (record { controller = controllers.after_frame p now s.controller; reserved = r }))
                  (freed_same (devices.told_of p now (device_of s)) s.reserved)
                  ∙ set_device k (gets p now s) ss;
              told = subst (λ o. TellsEach (waiting_after k (devices.told_of p now (device_of s)) o) [] ss (changed k (gets p now s) ss)) (sym report)
                  (told_one k (devices.told_of p now (device_of s)) s (gets p now s) ss is (record {
                    reader = refl;
                    coming = sym (append-nil s.coming);
                    closes = (ends now s.controller.session).closed_by_frame p;
                    once = silent_frame p now s.controller.session;
                  }));
              plain = λ said. subst (λ o. IsNoRefusalOf (waiting_after k (devices.told_of p now (device_of s)) o)) (sym report)
                  (refuses_none k (devices.told_of p now (device_of s)) (heard_so p now s.controller.session said));
            })))
      ]

  as_heard : (b : BusState) (now : ℕ) (bytes : List ℕ) (report : Option (ℕ × Report)) (ss next : List (Site H))
      → Hears (All IsPlainlySaid (packets_in bytes)) report (heard bytes now b).devices ss next → IsHeard b now bytes report ss next
  as_heard b now bytes report ss next h = record {
    bus = record { entries = h.entries; held = refl; report = refl };
    told = h.told;
    report_is = h.report_is;
    plain = h.plain;
  }

  pub hears_as_a_move : InPieces → HearsAsAMove H
  hears_as_a_move law b ss now bytes h fits = (
    λ none. as_heard b now bytes None ss ss
        (subst (λ ds. Hears (All IsPlainlySaid (packets_in bytes)) None ds ss ss)
        (sym (run_heard law b now bytes fits h.held ∙ none_heard (max b.greatest now) (reading bytes) b.devices none)) (record {
          entries = h.entries;
          report_is = h.report;
          told = subst (λ o. TellsEach o [] ss ss) (sym h.report) (told_nothing ss);
          plain = λ said. subst IsNoRefusalOf (sym h.report) tt;
        })),
    λ p one.
        let g = max b.greatest now in
        let heard_one = packet_heard p g b.devices ss h.entries h.report in
        as_heard b now bytes (told_by_first 0 p g ss) ss (first_gets p g ss)
        (subst (λ ds. Hears (All IsPlainlySaid (packets_in bytes)) (told_by_first 0 p g ss) ds ss (first_gets p g ss))
        (sym (run_heard law b now bytes fits h.held ∙ one_heard g p (reading bytes) b.devices one)) (record {
          entries = heard_one.entries;
          report_is = heard_one.report_is;
          told = heard_one.told;
          plain = λ said. heard_one.plain (each_of IsPlainlySaid (p ∷ []) (subst (All IsPlainlySaid) one said)).0;
        })),
  )
