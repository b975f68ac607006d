-- The line on which the first sessions of a bus's readers begin, as sites: it is set up, and the simulation begins as these.
use Rattle.osdp_sim_bus_laws.proofs.Common.{◌≡◌, ◌≢◌, ◌<◌, ◌&&◌, ◌||◌, not, ℕ, zero, suc, Bool, true, false, All, List, [], ◌∷◌, length, map, Some, None, refl, sym, subst, ap, ◌∙◌, arith, leb-true, nat_le, slice_get, list_all, list_any, most_entries, BusConfig, Begins, Each, is_true, site_at, IsSetUp, view, device_of, NothingIsKept, AreSettings, are_apart, is_at, is_reader_in_range, Given, address_of, begun_device, new_site, set_up, begins, FollowsSites, SitesOf, first_net, first_site}
use Rattle.std.proofs.lemmas.Bool.{and_parts}
use Rattle.osdp_bus.specs.Settings.{controller_config}
use Rattle.osdp_link_laws.specs.Progress.{NoComset}
use Rattle.osdp_shared_line.specs.Line as line
use Rattle.osdp_reader_laws.specs.Storing.{StoresItsOwn}

-- ---- tests of lists

neither : (a b : Bool) → not (a || b) ≡ true → (a ≡ true → ⊥) × (not b ≡ true)
neither true b e = absurd cc
neither false b e = (λ is. absurd cc, e)

module _ {H : Type 0} where
  in_range : (k : ℕ) (given : Given H) (readers : List (Given H)) → list_all is_reader_in_range readers ≡ true
      → site_at k readers ≡ Some given → address_of given < 127
  in_range k given [] all is = absurd cc
  in_range zero given (g ∷ readers) all is =
      let same : g ≡ given = cc in
      let range = (and_parts (is_reader_in_range g) (list_all is_reader_in_range readers) all).0 in
      let below = leb-true (address_of g) 126 (and_parts (nat_le (address_of g) 126) (nat_le 1 g.1 && nat_le g.1 1024) range).0 in
      subst (λ (h : Given H). address_of h < 127) same (omega (arith, below))
  in_range (suc k) given (g ∷ readers) all is =
      in_range k given readers (and_parts (is_reader_in_range g) (list_all is_reader_in_range readers) all).1 is

  nobody_at : (address k : ℕ) (given : Given H) (readers : List (Given H)) → not (list_any (is_at address) readers) ≡ true
      → site_at k readers ≡ Some given → address_of given ≢ address
  nobody_at address k given [] none is = absurd cc
  nobody_at address zero given (g ∷ readers) none is =
      let same : g ≡ given = cc in
      subst (λ (h : Given H). address_of h ≢ address) same
      (λ there. (neither (is_at address g) (list_any (is_at address) readers) none).0 (is_true (address_of g) address there))
  nobody_at address (suc k) given (g ∷ readers) none is =
      nobody_at address k given readers (neither (is_at address g) (list_any (is_at address) readers) none).1 is

  apart : (j k : ℕ) (g h : Given H) (readers : List (Given H)) → j ≢ k → are_apart readers ≡ true → site_at j readers ≡ Some g
      → site_at k readers ≡ Some h → address_of g ≢ address_of h
  apart j k g h [] other all at_j at_k = absurd cc
  apart zero zero g h (r ∷ readers) other all at_j at_k = absurd (other refl)
  apart zero (suc k) g h (r ∷ readers) other all at_j at_k =
      let same : r ≡ g = cc in
      let none = (and_parts (not (list_any (is_at (address_of r)) readers)) (are_apart readers) all).0 in
      λ is. nobody_at (address_of r) k h readers none at_k (sym is ∙ sym (ap (λ (p : Given H). address_of p) same))
  apart (suc j) zero g h (r ∷ readers) other all at_j at_k =
      let same : r ≡ h = cc in
      let none = (and_parts (not (list_any (is_at (address_of r)) readers)) (are_apart readers) all).0 in
      λ is. nobody_at (address_of r) j g readers none at_j (is ∙ sym (ap (λ (p : Given H). address_of p) same))
  apart (suc j) (suc k) g h (r ∷ readers) other all at_j at_k =
      apart j k g h readers (λ e. other (ap suc e)) (and_parts (not (list_any (is_at (address_of r)) readers)) (are_apart readers) all).1 at_j at_k

  -- ---- the sites

  abbrev first_sites : BusConfig → List (Given H) → List (line.Site H)
  first_sites config readers = map (first_site config) readers

  -- each of them is that of a reader, and each reader has one
  site_of : (config : BusConfig) (k : ℕ) (s : line.Site H) (readers : List (Given H)) → site_at k (first_sites config readers) ≡ Some s
      → (given : Given H) × (site_at k readers ≡ Some given) × (first_site config given ≡ s)
  site_of config k s [] is = absurd cc
  site_of config zero s (g ∷ readers) is = (g, refl, cc)
  site_of config (suc k) s (g ∷ readers) is = site_of config k s readers is

  pub has_site : (config : BusConfig) (k : ℕ) (given : Given H) (readers : List (Given H)) → slice_get readers k ≡ Some given
      → site_at k (first_sites config readers) ≡ Some (first_site config given)
  has_site config k given [] is = absurd cc
  has_site config zero given (g ∷ readers) is = let same : g ≡ given = cc in ap (λ (h : Given H). Some (first_site config h)) same
  has_site config (suc k) given (g ∷ readers) is = has_site config k given readers is

  -- what holds of each first site holds of each site
  each_first : (P : line.Site H → Type 0) (config : BusConfig) (readers : List (Given H)) → ((given : Given H) → P (first_site config given))
      → (k : ℕ) (s : line.Site H) → site_at k (first_sites config readers) ≡ Some s → P s
  each_first P config readers all k s is = let its = site_of config k s readers is in subst P its.2 (all its.0)

  pub nothing_is_kept : (config : BusConfig) (readers : List (Given H)) → NothingIsKept (first_net config readers)
  nothing_is_kept config readers = record {
    addresses = each_first (λ (s : line.Site H). s.reserved ≡ None) config readers (λ given. refl);
    replies = each_first (λ (s : line.Site H). s.reader.stored ≡ None) config readers (λ given. refl);
  }

  pub is_set_up : (config : BusConfig) (readers : List (Given H)) → AreSettings config readers → IsSetUp (first_net config readers)
  is_set_up config readers settings = record {
    coming = each_first (λ (s : line.Site H). s.coming ≡ []) config readers (λ given. refl);
    to_panel = refl;
    begins = λ k s is.
        let its = site_of config k s readers is in
        let alone = begins (record {
          reader = its.0.0;
          events = its.0.1;
          controller = controller_config (address_of its.0) config;
          commands = config.room.messages;
        }) its.0.2 (in_range k its.0 readers all its.1) in
        subst (λ (u : line.Site H). Begins (view k u (first_net config readers))) its.2
        (record {
          quiet = alone.quiet;
          address = alone.address;
          waiting = alone.waiting;
          to_reader = alone.to_reader;
          to_controller = alone.to_controller;
        });
    together = each_first (λ (s : line.Site H). s.reader.config.address ≡ line.address_of s) config readers (λ given. refl);
    stored = each_first (λ (s : line.Site H). StoresItsOwn s.reader) config readers (λ given. tt);
    waiting = each_first (λ (s : line.Site H). All NoComset s.controller.waiting) config readers (λ given k d lt. absurd (omega (arith, lt)));
    apart = λ j k s t other at_j at_k.
        let first = site_of config j s readers at_j in
        let second = site_of config k t readers at_k in
        subst (λ (u : line.Site H). line.address_of u ≢ line.address_of t) first.2
        (subst (λ (u : line.Site H). line.address_of (first_site config first.0) ≢ line.address_of u) second.2
        (apart j k first.0 second.0 readers other away first.1 second.1));
  }
    where
      both : (list_all is_reader_in_range readers && are_apart readers) ≡ true
      both = (and_parts (nat_le (length readers) most_entries) (list_all is_reader_in_range readers && are_apart readers) settings.each).1

      all : list_all is_reader_in_range readers ≡ true
      all = (and_parts (list_all is_reader_in_range readers) (are_apart readers) both).0

      away : are_apart readers ≡ true
      away = (and_parts (list_all is_reader_in_range readers) (are_apart readers) both).1

  -- ---- the simulation begins as these sites

  devices_are : (config : BusConfig) (readers : List (Given H)) → map (begun_device config) readers ≡ map device_of (first_sites config readers)
  devices_are config [] = refl
  devices_are config (g ∷ readers) = ap (λ ds. begun_device config g ∷ ds) (devices_are config readers)

  sites_are : (config : BusConfig) (readers : List (Given H)) → SitesOf (map new_site readers) (first_sites config readers)
  sites_are config [] = tt
  sites_are config (g ∷ readers) =
      (record { reader = refl; ended = refl; causes = tt }, sites_are config readers)

  none_come : (config : BusConfig) (readers : List (Given H)) → Each (λ (s : line.Site H). s.coming ≡ []) (first_sites config readers)
  none_come config [] = tt
  none_come config (g ∷ readers) = (refl, none_come config readers)

  pub follows_first : (config : BusConfig) (readers : List (Given H)) → FollowsSites (set_up config readers) (first_net config readers)
  follows_first config readers = record {
    bus = record { entries = devices_are config readers; held = refl; report = refl };
    sites = sites_are config readers;
    said = [];
    coming = none_come config readers;
    to_readers = refl;
    to_bus = refl;
    asked = tt;
    answered = tt;
  }
