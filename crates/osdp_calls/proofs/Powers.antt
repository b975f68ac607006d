-- Restarts: a device made anew, and the panel made anew with its devices at their addresses.
use Rattle.osdp_calls.proofs.Common.{◌≡◌, ◌≢◌, ◌<◌, ◌≤◌, ◌⊎◌, ℕ, zero, suc, ◌+◌, List, [], ◌∷◌, length, map, All, Option, Some, None, refl, sym, subst, ap, ◌∙◌, arith, inl, inr, Room, Packet, AreRoom, Command, AreSettings, Machine, new_machine, ControllerConfig, new_device, IsBusConfig, controller_config, BusConfig, Entry, each_of, ReaderState, ReaderConfig, Answer, IsNameOf, Somewhere, Net, RestartPanel, RestartReader, Site, after_net, all_restart, restarts, site_at, some_same, NewDevice, NewPanel, all_forget, on_station, panel_made_anew, InUse, Station, IsFreeFor, PanelIsApart, at_length, forgets, does}
use Rattle.osdp_link_laws.specs.Link as link
use Rattle.osdp_shared_line.specs.Addresses as addresses
use Rattle.osdp_shared_line.specs.Line as line
use Rattle.osdp_calls.proofs.Controllers.{config_same, equal_same}
use Rattle.osdp_calls.proofs.Matching.{And, Done, Match}
use Rattle.osdp_calls.proofs.Nexts.{each_at}
use Rattle.osdp_calls.proofs.Orders.{no_other}
use Rattle.osdp_calls.proofs.Same.{Controls, IsNetOf, IsSiteOf, controlled_so, read_so, sites_so}
use Rattle.osdp_calls.proofs.Stations.{OfSite, Sites, both_change, of_site}
use Rattle.osdp_calls.proofs.Steps.{StepsTo, by_own}

-- the settings of the controllers of a bus with these addresses
abbrev pub address_at : ℕ → List ℕ → ℕ
address_at k [] = 0
address_at zero (a ∷ xs) = a
address_at (suc k) (a ∷ xs) = address_at k xs

abbrev pub settings_of : BusConfig → List ℕ → ℕ → ControllerConfig × Room
settings_of config xs k = (controller_config (address_at k xs) config, config.room)

pub there_is : (k : ℕ) (xs : List ℕ) → k < length xs → site_at k xs ≡ Some (address_at k xs)
there_is k [] lt = absurd (omega (arith, lt))
there_is zero (a ∷ xs) lt = refl
there_is (suc k) (a ∷ xs) lt = there_is k xs (omega (arith, lt))

pub are_settings : (config : BusConfig) (a : ℕ) → IsBusConfig config → a < 127 → AreSettings (controller_config a config) config.room.messages config.room.bytes
are_settings config a is lt = record {
  config_in_range = record {
    address = lt;
    reply_wait = is.controllers.config_in_range.reply_wait;
    poll_interval = is.controllers.config_in_range.poll_interval;
    busy_wait = is.controllers.config_in_range.busy_wait;
    quiet_wait = is.controllers.config_in_range.quiet_wait;
    sends = is.controllers.config_in_range.sends;
    busy_limit = is.controllers.config_in_range.busy_limit;
  };
  room = is.controllers.room;
  limit = is.controllers.limit;
  bytes = is.controllers.bytes;
}

pub outstanding_same : (o : Option ℕ) (top : ℕ) (m c : Machine) → Controls o top m c → link.outstanding_command c.session.state ≡ link.outstanding_command m.session.state
outstanding_same None top m c is = ap (λ (x : Machine). link.outstanding_command x.session.state) is.same
outstanding_same (Some began) top m c is = ap (λ (x : Machine). link.outstanding_command x.session.state) is.same ∙ sym (ap link.outstanding_command is.quiet)

module _ {H : Type 0} where
  -- how many sites there are
  pub as_many : (P : ℕ → Entry → Station H → Site H → Type 0) (i : ℕ) (ds : List Entry) (ts : List (Station H)) (ss : List (Site H))
      → Match P i ds ts ss → length ss ≡ length ts
  as_many P i ds1 ts1 ss1 (Done i1 ds) = refl
  as_many P i ds1 ts1 ss1 (And i1 d t s ds ts ss is rest) = let more = as_many P (suc i) ds ts ss rest in omega (arith, more)

  module _ (answer_of : H → Command → Answer) (after : H → Command → H) where
    -- ---- a device

    pub new_device_is : (k : ℕ) (config : ReaderConfig) (handler : H) (room : Room) (gap : ℕ) (l : InUse H) (n : Net H) → IsNetOf l n
        → IsNetOf (on_station k (does answer_of after (NewDevice k config handler room gap)) l) (after_net answer_of after (RestartReader k config handler room) n)
    new_device_is k config handler room gap l n h =
        both_change k (does answer_of after (NewDevice k config handler room gap)) (line.calls answer_of after (link.RestartReader config handler room)) l n h (λ d t s is.
        read_so is refl tt)

    pub new_device_fits : (k : ℕ) (config : ReaderConfig) (handler : H) (room : Room) (l : InUse H) (n : Net H) → IsNetOf l n
        → ((t : Station H) → site_at k l.stations ≡ Some t → (t.reader.config.address ≡ config.address) ⊎ IsFreeFor k config.address t l)
        → (config.address < 127) × AreRoom room.messages room.bytes → addresses.NetMoveFits answer_of after (RestartReader k config handler room) n
    new_device_fits k config handler room l n h free fits =
        λ s at. (fits, by_site s (of_site k s l n h at))
      where
        by_site : (s : Site H) → OfSite k s l → (s.reader.config.address ≡ config.address) ⊎ addresses.IsFreeFor k config.address s n
        by_site s it = elim (free it.station it.there) [
          | inl here ↦ inl (ap (λ (r : ReaderState H). r.config.address) it.is.reader ∙ here)
          | inr frees ↦ inr (record {
            others = λ j u other there name. by_name frees j u other there (of_site j u l n h there) name;
            coming = subst (λ qs. All (λ (q : ℕ × Packet). q.0 ≢ k → q.1.address ≢ config.address) qs) (sym it.is.coming) frees.said;
          })
        ]
          where
            by_name : {t : Station H} → IsFreeFor k config.address t l → (j : ℕ) (u : Site H) → j ≢ k → site_at j n.sites ≡ Some u
                → OfSite j u l → IsNameOf config.address j u → ⊥
            by_name frees j u other there of_it (inl is) =
                frees.entries j of_it.station of_it.device other of_it.there of_it.entry
                (sym (ap (λ (x : _). x.address) (config_same of_it.station.begun l.bus.greatest of_it.device.controller u.controller of_it.is.controller)) ∙ is)
            by_name frees j u other there of_it (inr may) = no_other k config.address l n h frees.devices j u other there may

    pub device_anew : (k : ℕ) (config : ReaderConfig) (handler : H) (room : Room) (gap : ℕ) (l : InUse H) (n : Net H) → IsNetOf l n
        → ((t : Station H) → site_at k l.stations ≡ Some t → (t.reader.config.address ≡ config.address) ⊎ IsFreeFor k config.address t l)
        → (config.address < 127) × AreRoom room.messages room.bytes → StepsTo answer_of after (NewDevice k config handler room gap) l n (on_station k (does answer_of after (NewDevice k config handler room gap)) l)
    device_anew k config handler room gap l n h free fits =
        by_own answer_of after (NewDevice k config handler room gap) (RestartReader k config handler room) l n (on_station k (does answer_of after (NewDevice k config handler room gap)) l)
        (gap, refl) refl (new_device_fits k config handler room l n h free fits) (new_device_is k config handler room gap l n h)

    -- ---- the panel

    each_made : (config : BusConfig) (settings : ℕ → ControllerConfig × Room) (l : InUse H) (i : ℕ) (xs : List ℕ) (ds : List Entry) (ts : List (Station H)) (ss : List (Site H))
        → length ts ≤ length xs → ((k a : ℕ) → site_at k xs ≡ Some a → settings (i + k) ≡ (controller_config a config, config.room))
        → Match (Sites l) i ds ts ss
        → Match (IsSiteOf l.openings l.said 0) i (map (λ a. new_device a config) xs) (all_forget ds ts) (all_restart answer_of after i settings ss)
    each_made config settings l i xs ds1 ts1 ss1 same set_so (Done i1 []) = Done i (map (λ a. new_device a config) xs)
    each_made config settings l i xs ds1 ts1 ss1 same set_so (Done i1 (d ∷ ds)) = Done i (map (λ a. new_device a config) xs)
    each_made config settings l i [] ds1 ts1 ss1 same set_so (And i1 d t s ds ts ss is rest) = absurd (omega (arith, same))
    each_made config settings l i (a ∷ xs) ds1 ts1 ss1 same set_so (And i1 d t s ds ts ss is rest) =
        let here : settings i ≡ (controller_config a config, config.room) =
        ap settings (let e : i ≡ i + 0 = omega arith in e) ∙ set_so 0 a refl in
        And i (new_device a config) (forgets t) (restarts answer_of after (settings i) s)
        (map (λ b. new_device b config) xs) (all_forget ds ts) (all_restart answer_of after (suc i) settings ss)
        (controlled_so is (equal_same 0 (new_machine (controller_config a config) config.room.messages config.room.bytes) (new_machine (settings i).0 (settings i).1.messages (settings i).1.bytes)
        (λ x. new_machine (here x).0 (here x).1.messages (here x).1.bytes)) refl)
        (each_made config settings l (suc i) xs ds ts ss (omega (arith, same))
        (λ k b is2. ap settings (let e : suc i + k ≡ i + suc k = omega arith in e) ∙ set_so (suc k) b is2) rest)

    set_at : (config : BusConfig) (ys xs : List ℕ) (k a : ℕ) → site_at k xs ≡ Some a → settings_of config xs (0 + k) ≡ (controller_config a config, config.room)
    set_at config ys xs k a is =
        ap (settings_of config xs) (let e : 0 + k ≡ k = omega arith in e)
        ∙ ap (λ b. (controller_config b config, config.room)) (some_same (address_at k xs) a (sym (there_is k xs (at_length k a xs is)) ∙ is))

    pub panel_anew : (config : BusConfig) (xs : List ℕ) (l : InUse H) (n : Net H) → IsNetOf l n → PanelIsApart xs l
        → IsBusConfig config × All (λ a. a < 127) xs × (length l.stations ≤ length xs) → StepsTo answer_of after (NewPanel config xs) l n (panel_made_anew config xs l)
    panel_anew config xs l n h apart fits =
        by_own answer_of after (NewPanel config xs) (RestartPanel (settings_of config xs)) l n (panel_made_anew config xs l)
        (config, xs, refl)
        (settings_of config xs, refl, λ k a is. some_same (address_at k xs) a (sym (there_is k xs (at_length k a xs is)) ∙ is))
        (λ k s at. (
          are_settings config (address_at k xs) fits.0 (each_at (λ a. a < 127) k (address_at k xs) xs (each_of (λ a. a < 127) xs fits.1) (there_is k xs (count k s at))),
          λ j t other there. by_name k j (of_site k s l n h at).station (of_site k s l n h at).there other (there_is k xs (count k s at)) t there (of_site j t l n h there),
        ))
        (sites_so h (each_made config (settings_of config xs) l 0 xs l.bus.devices.entries l.stations n.sites fits.2 (set_at config [] xs) h.sites))
      where
        count : (k : ℕ) (s : Site H) → site_at k n.sites ≡ Some s → k < length xs
        count k s at =
            let less = at_length k s n.sites at in
            let many = as_many (Sites l) 0 l.bus.devices.entries l.stations n.sites h.sites in
            let same = fits.2 in
            omega (arith, less, many, same)

        by_name : (k j : ℕ) (u : Station H) → site_at k l.stations ≡ Some u → j ≢ k → site_at k xs ≡ Some (address_at k xs) → (t : Site H) → site_at j n.sites ≡ Some t
            → OfSite j t l → IsNameOf (address_at k xs) j (restarts answer_of after (settings_of config xs j) t) → ⊥
        by_name k j u mine other here t there it (inl is) =
            apart.own j k (address_at j xs) (address_at k xs) it.station u other (there_is j xs (count j t there)) here it.there mine is
        by_name k j u mine other here t there it (inr (addresses.IsThere is)) =
            apart.there j k (address_at k xs) it.station u other here it.there mine (sym (ap (λ (r : ReaderState H). r.config.address) it.is.reader) ∙ is)
        by_name k j u mine other here t there it (inr (addresses.IsAsked none)) = absurd none
        by_name k j u mine other here t there it (inr (addresses.IsSaid is)) =
            apart.said j k (address_at k xs) it.station u other here it.there mine
            (subst (Somewhere (λ (q : ℕ × Packet). (q.0 ≡ j) × addresses.SetsReader (address_at k xs) q.1)) it.is.coming is)
