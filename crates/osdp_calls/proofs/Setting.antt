-- A line as it is set up is a net whose panel has just been made anew.
use Rattle.osdp_calls.proofs.Common.{◌≡◌, ◌≢◌, ◌⊎◌, ◌≤◌, ◌<◌, ℕ, zero, suc, true, ◌+◌, List, [], ◌∷◌, ◌++◌, length, map, All, Option, Some, None, IfSome, refl, sym, subst, ap, ◌∙◌, arith, inl, inr, Room, Packet, Command, new_machine, new_session, ControllerConfig, Quiet, new_device, controller_config, BusConfig, Answer, IsNameOf, Net, RestartPanel, Site, after_net, all_restart, restarts, site_at, some_same, InUse, Opening, Burst, Station, ahead_of_device, ahead_of_panel}
use Rattle.osdp_reader_laws.specs.Storing.{StoresItsOwn}
use Rattle.osdp_shared_line.specs.Addresses as addresses
use Rattle.osdp_calls.specs.Premises.{IsSetUp}
use Rattle.osdp_calls.proofs.Controllers.{equal_same}
use Rattle.osdp_calls.proofs.Matching.{And, Done, Match}
use Rattle.osdp_calls.proofs.Powers.{address_at, are_settings, settings_of}
use Rattle.osdp_calls.proofs.Same.{Controls, IsNetOf, IsRightly, IsSiteOf}

-- what is stored is a reply
as_reply : (o : Option Packet) (here : ℕ) → IfSome o (λ (p : Packet). (p.reply ≡ true) × ((p.address ≡ here) ⊎ (p.address ≡ 127)))
    → IfSome o (λ (p : Packet). p.reply ≡ true)
as_reply None here is = tt
as_reply (Some p) here is = is.0

module _ {H : Type 0} where
  abbrev pub address_of : Station H → ℕ
  address_of t = t.reader.config.address

  -- a site whose first session has begun
  abbrev pub first_site : BusConfig → Station H → Site H
  first_site config t = record {
    controller = record {
      session = record (new_session (controller_config (address_of t) config)) { state = Quiet 0 };
      waiting = [];
      capacity = config.room.messages;
      room = config.room.bytes;
    };
    reserved = None;
    reader = t.reader;
    coming = [];
  }

  abbrev pub first_net : BusConfig → List (Station H) → Net H
  first_net config ts = record { sites = map (first_site config) ts; to_panel = [] }

  pub first_from : (config : BusConfig) (k : ℕ) (s : Site H) (ts : List (Station H)) → site_at k (map (first_site config) ts) ≡ Some s
      → (t : Station H) × (site_at k ts ≡ Some t) × (s ≡ first_site config t)
  first_from config k s [] is = absurd cc
  first_from config zero s (t ∷ ts) is = (t, refl, some_same s (first_site config t) (sym is))
  first_from config (suc k) s (t ∷ ts) is = first_from config k s ts is

  pub first_there : (config : BusConfig) (k : ℕ) (t : Station H) (ts : List (Station H)) → site_at k ts ≡ Some t
      → site_at k (map (first_site config) ts) ≡ Some (first_site config t)
  first_there config k t [] is = absurd cc
  first_there config zero t (u ∷ ts) is = ap (λ x. Some (first_site config x)) (some_same u t is)
  first_there config (suc k) t (u ∷ ts) is = first_there config k t ts is

  pub address_there : (k : ℕ) (t : Station H) (ts : List (Station H)) → site_at k ts ≡ Some t → address_at k (map address_of ts) ≡ address_of t
  address_there k t [] is = absurd cc
  address_there zero t (u ∷ ts) is = ap address_of (some_same u t is)
  address_there (suc k) t (u ∷ ts) is = address_there k t ts is

  -- a station that is as at set-up
  pub record IsFresh (t : Station H) : Type 0 where
    pub stored : IfSome t.reader.stored (λ (p : Packet). p.reply ≡ true)
    pub place : t.place ≡ 0
    pub begun : t.begun ≡ None

  module _ (answer_of : H → Command → Answer) (after : H → Command → H) where
    made_first : (config : BusConfig) (others : List ℕ) (settings : ℕ → ControllerConfig × Room) (os : List Opening) (said : List Burst) (i : ℕ) (ts : List (Station H)) → said ≡ []
        → ((k : ℕ) (t : Station H) → site_at k ts ≡ Some t → settings (i + k) ≡ (controller_config (address_of t) config, config.room))
        → ((k : ℕ) (t : Station H) → site_at k ts ≡ Some t → IsFresh t)
        → Match (IsSiteOf os said 0) i (map (λ a. new_device a config) (map address_of ts ++ others)) ts (all_restart answer_of after i settings (map (first_site config) ts))
    made_first config others settings os said i [] none set_so fresh = Done i (map (λ a. new_device a config) others)
    made_first config others settings os said i (t ∷ ts) none set_so fresh =
        let here : settings i ≡ (controller_config (address_of t) config, config.room) =
        ap settings (let e : i ≡ i + 0 = omega arith in e) ∙ set_so 0 t refl in
        let f = fresh 0 t refl in
        And i (new_device (address_of t) config) t (restarts answer_of after (settings i) (first_site config t))
        (map (λ a. new_device a config) (map address_of ts ++ others)) ts (all_restart answer_of after (suc i) settings (map (first_site config) ts))
        (record {
          controller = subst (λ o. Controls o 0 (new_machine (controller_config (address_of t) config) config.room.messages config.room.bytes) (new_machine (settings i).0 (settings i).1.messages (settings i).1.bytes)) (sym f.begun)
              (equal_same 0 (new_machine (controller_config (address_of t) config) config.room.messages config.room.bytes) (new_machine (settings i).0 (settings i).1.messages (settings i).1.bytes)
              (λ x. new_machine (here x).0 (here x).1.messages (here x).1.bytes));
          reserved = refl;
          reader = refl;
          coming = ap (ahead_of_device i t.place os) (sym none);
          place = subst (λ p. p ≤ length said) (sym f.place) (omega arith);
          stored = f.stored;
        })
        (made_first config others settings os said (suc i) ts none (λ k u is. ap settings (let e : suc i + k ≡ i + suc k = omega arith in e) ∙ set_so (suc k) u is)
        (λ k u is. fresh (suc k) u is))

    pub record Starts (l : InUse H) : Type 0 where
      pub config : BusConfig
      pub is_set_up : addresses.IsSetUp (first_net config l.stations)
      pub settings : ℕ → ControllerConfig × Room
      pub given : (k : ℕ) (t : Station H) → site_at k l.stations ≡ Some t → (settings k).0.address ≡ address_of t
      pub fits : addresses.NetMoveFits answer_of after (RestartPanel settings) (first_net config l.stations)
      pub same : IsNetOf l (after_net answer_of after (RestartPanel settings) (first_net config l.stations))

    pub starts : (l : InUse H) → IsSetUp l → Starts l
    starts l up = record {
      config = up.config;
      is_set_up = record {
        coming = λ k s is. let t = first_from up.config k s l.stations is in ap (λ (u : Site H). u.coming) t.2;
        to_panel = refl;
        begins = λ k s is. let t = first_from up.config k s l.stations is in
            subst (λ (u : Site H). Rattle.osdp_link_laws.specs.Beginning.Begins (Rattle.osdp_shared_line.specs.Views.view k u (first_net up.config l.stations))) (sym t.2) (record {
              quiet = (0, refl);
              address = up.devices k t.0 t.1;
              waiting = Rattle.osdp_link_laws.proofs.Lines.each_all Rattle.osdp_link_laws.specs.Beginning.MaySubmit [] tt;
              to_reader = refl;
              to_controller = refl;
            });
        together = λ k s is. let t = first_from up.config k s l.stations is in
            ap (λ (u : Site H). u.reader.config.address) t.2 ∙ sym (ap (λ (u : Site H). u.controller.session.config.address) t.2);
        stored = λ k s is. let t = first_from up.config k s l.stations is in
            subst (λ (u : Site H). StoresItsOwn u.reader) (sym t.2) (up.stored k t.0 t.1);
        waiting = λ k s is. let t = first_from up.config k s l.stations is in
            subst (λ (u : Site H). All Rattle.osdp_link_laws.specs.Progress.NoComset u.controller.waiting) (sym t.2)
            (Rattle.osdp_link_laws.proofs.Lines.each_all Rattle.osdp_link_laws.specs.Progress.NoComset [] tt);
        apart = λ j k s u other at there e.
            let a = first_from up.config j s l.stations at in
            let b = first_from up.config k u l.stations there in
            up.apart j k a.0 b.0 other a.1 b.1
            (sym (ap (λ (x : Site H). x.controller.session.config.address) a.2) ∙ e ∙ ap (λ (x : Site H). x.controller.session.config.address) b.2);
      };
      settings = settings_of up.config (map address_of l.stations);
      given = λ k t is. address_there k t l.stations is;
      fits = fits;
      same = subst (λ b. IsNetOf (record l { bus = b }) n1) (sym up.bus) (record {
        sites = made_first up.config up.others (settings_of up.config (map address_of l.stations)) l.openings l.said 0 l.stations up.said
            (λ k t is. ap (settings_of up.config (map address_of l.stations)) (let e : 0 + k ≡ k = omega arith in e)
            ∙ ap (λ a. (controller_config a up.config, up.config.room)) (address_there k t l.stations is))
            (λ k t is. record {
              stored = as_reply t.reader.stored t.reader.config.address (up.stored k t is);
              place = (up.place k t is).0;
              begun = (up.place k t is).1;
            });
        to_panel = ap (ahead_of_panel l.place l.openings) (sym up.said);
        place = subst (λ p. p ≤ length l.said) (sym up.read) (omega arith);
        openings = subst (Rattle.osdp_link_laws.proofs.Stages.Each (λ (o : Opening). o.place ≤ length l.said)) (sym up.openings) tt;
        said = subst (Rattle.osdp_link_laws.proofs.Stages.Each IsRightly) (sym up.said) tt;
      });
    }
      where
        n0 : Net H
        n0 = first_net up.config l.stations

        n1 : Net H
        n1 = after_net answer_of after (RestartPanel (settings_of up.config (map address_of l.stations))) (first_net up.config l.stations)

        by_name : (j k : ℕ) (a b : Station H) → j ≢ k → site_at j l.stations ≡ Some a → site_at k l.stations ≡ Some b
            → IsNameOf (address_at k (map address_of l.stations)) j (restarts answer_of after (settings_of up.config (map address_of l.stations) j) (first_site up.config a)) → ⊥
        by_name j k a b other at there (inl is) =
            up.apart j k a b other at there (sym (address_there j a l.stations at) ∙ is ∙ address_there k b l.stations there)
        by_name j k a b other at there (inr (addresses.IsThere is)) = up.apart j k a b other at there (is ∙ address_there k b l.stations there)
        by_name j k a b other at there (inr (addresses.IsAsked none)) = absurd none
        by_name j k a b other at there (inr (addresses.IsSaid none)) = absurd none

        fits : addresses.NetMoveFits answer_of after (RestartPanel (settings_of up.config (map address_of l.stations))) (first_net up.config l.stations)
        fits k s is =
            let b = first_from up.config k s l.stations is in (
              are_settings up.config (address_at k (map address_of l.stations)) up.settings
                  (subst (λ a. a < 127) (sym (address_there k b.0 l.stations b.1)) (up.devices k b.0 b.1)),
              λ j u other there name.
                  let a = first_from up.config j u l.stations there in
                  by_name j k a.0 b.0 other a.1 b.1
                  (subst (λ x. IsNameOf (address_at k (map address_of l.stations)) j (restarts answer_of after (settings_of up.config (map address_of l.stations) j) x)) a.2 name),
            )
