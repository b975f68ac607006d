-- From the rule for programs, as it is said of a line in use, follows the rule on its net's moves, and so the premise on addresses.
use Rattle.osdp_calls.proofs.Common.{◌≡◌, ◌≢◌, ◌<◌, ◌||◌, ℕ, true, false, not, List, ◌++◌, All, length, Option, Some, None, sym, subst, ap, ◌∙◌, arith, inl, inr, ◌≤◌, is_some, Room, Packet, CommandFits, Command, Communication, has_comset, comset_of, Machine, retarget_refusal, submit_refusal, State, Closed, ControllerConfig, device_of, IsBusConfig, BusConfig, Entry, each_of, ReaderState, Answer, HasNoOther, IsNameOf, IsSetUp, NetMoveFits, Sets, Somewhere, Net, RestartPanel, Retarget, Site, Submit, restarts, site_at, Note, RuleSuffices, some_same, InUse, Station, IsAsked, IsNoOthers, IsSaid, IsThere, PanelIsApart, IsKnown, KeepsRule, PanelKeepsRule, NewPanel, begun_of, at_length, or_parts}
use Rattle.osdp_controller.specs.Machine as controllers
use Rattle.osdp_bus.specs.Entries as devices
use Rattle.osdp_bus.specs.Machine as bus
use Rattle.osdp_bus_laws.specs.Calls as panel
use Rattle.osdp_shared_line.specs.Addresses as addresses
use Rattle.osdp_shared_line.specs.Line as line
use Rattle.osdp_shared_line.specs.Programs as programs
use Rattle.osdp_calls.proofs.Agreeing.{AllAgree, at_entry}
use Rattle.osdp_calls.proofs.Along.{Path, next_fits}
use Rattle.osdp_calls.proofs.Controllers.{closed_of, config_same, waiting_same}
use Rattle.osdp_calls.proofs.Nexts.{each_at}
use Rattle.osdp_calls.proofs.Noticing.{Agrees}
use Rattle.osdp_calls.proofs.Orders.{asked_same, beside_free, no_device_none, not_begun, or_taken_none, refused_free, refusal_same, unrefused}
use Rattle.osdp_calls.proofs.Powers.{address_at, are_settings, settings_of, there_is}
use Rattle.osdp_calls.proofs.Same.{Controls, IsNetOf, IsSame}
use Rattle.osdp_calls.proofs.Stations.{Sites, of_site, of_station}

module _ {H : Type 0} where
  -- ---- the same addresses are known

  to_site : (k a : ℕ) (d : Entry) (t : Station H) (s : Site H) (l : InUse H) (o : Option ℕ) (st : State) (x y : Note) → Sites l k d t s → Agrees o st x y
      → IsKnown a d x → programs.IsKnown a s y
  to_site k a d t s l o st x y is agree (inl here) =
      inl (ap (λ (c : _). c.address) (config_same t.begun l.bus.greatest d.controller s.controller is.controller) ∙ here)
  to_site k a d t s l o st x y is agree (inr noted) = inr (subst (Somewhere (λ b. b ≡ a)) (sym agree.addresses) noted)

  from_site : (k a : ℕ) (d : Entry) (t : Station H) (s : Site H) (l : InUse H) (o : Option ℕ) (st : State) (x y : Note) → Sites l k d t s → Agrees o st x y
      → programs.IsKnown a s y → IsKnown a d x
  from_site k a d t s l o st x y is agree (inl here) =
      inl (sym (ap (λ (c : _). c.address) (config_same t.begun l.bus.greatest d.controller s.controller is.controller)) ∙ here)
  from_site k a d t s l o st x y is agree (inr noted) = inr (subst (Somewhere (λ b. b ≡ a)) agree.addresses noted)

  -- ---- what the bus accepts, the net does

  module _ (answer_of : H → Command → Answer) (after : H → Command → H) where
    pub command_accepted : (k : ℕ) (command : Command) (d : Entry) (t : Station H) (s : Site H) (l : InUse H) (n : Net H) → IsNetOf l n
        → device_of k l.bus ≡ Some d → Sites l k d t s → bus.submit_refusal_at k command l.bus ≡ None → line.is_command_accepted k command s n.sites ≡ true
    command_accepted k command d t s l n h a has none =
        let accepted = unrefused answer_of after (bus.is_comset_refused (comset_of command) k d l.bus) (submit_refusal command d.controller)
        (sym (ap (λ o. bus.submit_refusal_of k command o l.bus) a) ∙ none) in
        let unrefused_too : line.is_comset_refused k (comset_of command) s n.sites ≡ false = refused_free answer_of after (comset_of command) k d t s l n h has accepted.0 in
        let same : submit_refusal command s.controller ≡ None = refusal_same answer_of after command t.begun l.bus.greatest d.controller s.controller has.controller ∙ accepted.1 in
        (λ i. not (unrefused_too i || is_some (same i)))

    pub retarget_accepted : (k address : ℕ) (d : Entry) (t : Station H) (s : Site H) (l : InUse H) (n : Net H) → IsNetOf l n
        → device_of k l.bus ≡ Some d → Sites l k d t s → bus.retarget_refusal_at k address l.bus ≡ None → line.is_retarget_accepted k address s n.sites ≡ true
    retarget_accepted k address d t s l n h a has none =
        let taken = devices.is_taken_beside k address l.bus.devices.entries || has_comset d.controller.waiting in
        let accepted = or_taken_none answer_of after (retarget_refusal address d.controller) taken (sym (ap (λ o. bus.retarget_refusal_of k address o l.bus) a) ∙ none) in
        let shut : d.controller.session.state ≡ Closed =
        closed_of d.controller.session.state (no_device_none answer_of after (controllers.refused_unless_closed d.controller.session.state) address accepted.0) in
        let begun : t.begun ≡ None = not_begun t.begun l.bus.greatest d.controller s.controller has.controller shut in
        let control : IsSame l.bus.greatest d.controller s.controller = subst (λ o. Controls o l.bus.greatest d.controller s.controller) begun has.controller in
        let same : retarget_refusal address s.controller ≡ None = ap (retarget_refusal address) control.same ∙ accepted.0 in
        let untaken : line.is_retarget_refused k address s n.sites ≡ false =
        (let free = or_parts (devices.is_taken_beside k address l.bus.devices.entries) (has_comset d.controller.waiting) accepted.1 in
        (λ i. beside_free k address l n h free.0 i || (ap (λ (x : Machine). has_comset x.waiting) control.same ∙ free.1) i)) in
        (λ i. not (untaken i || is_some (same i)))

  -- ---- no other device is there

  no_others : (k address : ℕ) (l : InUse H) (n : Net H) → IsNetOf l n → HasNoOther k address n → IsNoOthers k address l
  no_others k address l n h none j other (IsThere t at is) =
      let e = of_station j t l n h at in
      none j e.site other e.at (addresses.IsThere (ap (λ (r : ReaderState H). r.config.address) e.is.reader ∙ is))
  no_others k address l n h none j other (IsAsked t d there at asked) =
      let e = at_entry j d l n h (ap is_some there) at in
      let control = e.is.controller in
      none j e.site other e.at (addresses.IsAsked (subst (Somewhere (Sets address))
      (λ i. sym (asked_same e.station.begun l.bus.greatest d.controller e.site.controller control) i
      ++ sym (waiting_same e.station.begun l.bus.greatest d.controller e.site.controller control) i) asked))
  no_others k address l n h none j other (IsSaid t at said) =
      let e = of_station j t l n h at in
      none j e.site other e.at (addresses.IsSaid (subst (Somewhere (λ (q : ℕ × Packet). (q.0 ≡ j) × addresses.SetsReader address q.1)) (sym e.is.coming) said))

  -- ---- the rule on moves

  pub submit_rule : (k : ℕ) (command : Command) (l : InUse H) (n : Net H) (notes noted : ℕ → Note) → IsNetOf l n → AllAgree l notes noted
      → PanelKeepsRule (panel.Submit k command) l.bus notes → bus.submit_refusal_at k command l.bus ≡ None → programs.KeepsRule (Submit k command) n noted
  submit_rule k command l n notes noted h agree rule none s asked at accepted asks j u other there known =
      let it = of_site j u l n h there in
      rule none asked asks j it.device other it.entry
      (from_site j asked.address it.device it.station u l (begun_of (site_at j l.stations)) it.device.controller.session.state
      (notes j) (noted j) it.is (agree j it.device (ap is_some it.there) it.entry) known)

  pub retarget_rule : (k address : ℕ) (l : InUse H) (n : Net H) (notes noted : ℕ → Note) → IsNetOf l n → AllAgree l notes noted
      → PanelKeepsRule (panel.Retarget k address) l.bus notes → bus.retarget_refusal_at k address l.bus ≡ None → programs.KeepsRule (Retarget k address) n noted
  retarget_rule k address l n notes noted h agree rule none s at accepted =
      let it = of_site k s l n h at in
      to_site k address it.device it.station s l (begun_of (site_at k l.stations)) it.device.controller.session.state
      (notes k) (noted k) it.is (agree k it.device (ap is_some it.there) it.entry) (rule none it.device it.entry)

  pub panel_rule : (config : BusConfig) (xs : List ℕ) (settings : ℕ → ControllerConfig × Room) (l : InUse H) (n : Net H) (notes noted : ℕ → Note) → IsNetOf l n
      → AllAgree l notes noted → KeepsRule (NewPanel config xs) l notes → length l.stations ≤ length xs
      → ((k a : ℕ) → site_at k xs ≡ Some a → (settings k).0.address ≡ a) → programs.KeepsRule (RestartPanel settings) n noted
  panel_rule config xs settings l n notes noted h agree rule many set k s at =
      let it = of_site k s l n h at in
      let less = at_length k it.station l.stations it.there in
      let here = there_is k xs (omega (arith, less, many)) in
      subst (λ a. programs.IsKnown a s (noted k)) (sym (set k (address_at k xs) here))
      (to_site k (address_at k xs) it.device it.station s l (begun_of (site_at k l.stations))
      it.device.controller.session.state (notes k) (noted k) it.is (agree k it.device (ap is_some it.there) it.entry) (rule k (address_at k xs) it.device here it.entry))

  -- ---- the premise

  module _ (answer_of : H → Command → Answer) (after : H → Command → H) (suffices : RuleSuffices answer_of after) (n0 : Net H) (up : IsSetUp n0)
      (l : InUse H) (n : Net H) (notes noted : ℕ → Note) (h : IsNetOf l n) (path : Path answer_of after n0 n noted) (agree : AllAgree l notes noted) where
    pub submit_premise : (k : ℕ) (command : Command) → CommandFits command → PanelKeepsRule (panel.Submit k command) l.bus notes
        → (u : Station H) → site_at k l.stations ≡ Some u → bus.submit_refusal_at k command l.bus ≡ None → (asked : Communication) → comset_of command ≡ Some asked → IsNoOthers k asked.address l
    submit_premise k command range rule u there none asked asks =
        let it = of_station k u l n h there in
        let fits = next_fits answer_of after suffices n0 up n noted path (Submit k command) range (submit_rule k command l n notes noted h agree rule none) in
        no_others k asked.address l n h (fits.1 it.site asked it.at (command_accepted answer_of after k command it.device u it.site l n h it.entry it.is none) asks)

    pub retarget_premise : (k address : ℕ) → PanelKeepsRule (panel.Retarget k address) l.bus notes
        → (u : Station H) → site_at k l.stations ≡ Some u → bus.retarget_refusal_at k address l.bus ≡ None → IsNoOthers k address l
    retarget_premise k address rule u there none =
        let it = of_station k u l n h there in
        let fits = next_fits answer_of after suffices n0 up n noted path (Retarget k address) tt (retarget_rule k address l n notes noted h agree rule none) in
        no_others k address l n h (fits it.site it.at (retarget_accepted answer_of after k address it.device u it.site l n h it.entry it.is none))

    panel_fits : (config : BusConfig) (xs : List ℕ) → IsBusConfig config × All (λ a. a < 127) xs × (length l.stations ≤ length xs)
        → KeepsRule (NewPanel config xs) l notes → NetMoveFits answer_of after (RestartPanel (settings_of config xs)) n
    panel_fits config xs range rule =
        next_fits answer_of after suffices n0 up n noted path (RestartPanel (settings_of config xs))
        (λ k s at.
        let it = of_site k s l n h at in
        let less = at_length k it.station l.stations it.there in
        let many = range.2 in
        are_settings config (address_at k xs) range.0
        (each_at (λ a. a < 127) k (address_at k xs) xs (each_of (λ a. a < 127) xs range.1) (there_is k xs (omega (arith, less, many)))))
        (panel_rule config xs (settings_of config xs) l n notes noted h agree rule range.2
        (λ k a is. some_same (address_at k xs) a (sym (there_is k xs (at_length k a xs is)) ∙ is)))

    pub panel_premise : (config : BusConfig) (xs : List ℕ) → IsBusConfig config × All (λ a. a < 127) xs × (length l.stations ≤ length xs)
        → KeepsRule (NewPanel config xs) l notes → PanelIsApart xs l
    panel_premise config xs range rule = record {
      own = λ j k a b t v other at there tj vk e.
          let s = of_station j t l n h tj in
          let u = of_station k v l n h vk in
          apart j k s.site u.site other s.at u.at (inl (address_is j a at ∙ e ∙ sym (address_is k b there)));
      there = λ j k a t v other at there vk e.
          let it = of_station j t l n h there in
          let u = of_station k v l n h vk in
          apart j k it.site u.site other it.at u.at
          (inr (addresses.IsThere (ap (λ (r : ReaderState H). r.config.address) it.is.reader ∙ e ∙ sym (address_is k a at))));
      said = λ j k a t v other at there vk said.
          let it = of_station j t l n h there in
          let u = of_station k v l n h vk in
          apart j k it.site u.site other it.at u.at
          (inr (addresses.IsSaid (subst (λ to. Somewhere (λ (q : ℕ × Packet). (q.0 ≡ j) × addresses.SetsReader to q.1) it.site.coming) (sym (address_is k a at))
          (subst (Somewhere (λ (q : ℕ × Packet). (q.0 ≡ j) × addresses.SetsReader a q.1)) (sym it.is.coming) said))));
    }
      where
        apart : (j k : ℕ) (s u : Site H) → j ≢ k → site_at j n.sites ≡ Some s → site_at k n.sites ≡ Some u
            → IsNameOf (address_at k xs) j (restarts answer_of after (settings_of config xs j) s) → ⊥
        apart j k s u other at there name = (panel_fits config xs range rule k u there).1 j s other at name

        address_is : (k a : ℕ) → site_at k xs ≡ Some a → address_at k xs ≡ a
        address_is k a is = some_same (address_at k xs) a (sym (there_is k xs (at_length k a xs is)) ∙ is)
