-- So programs that keep to the rule keep the premise on addresses, over every list of calls.
use Rattle.std.proofs.Common.{◌≡◌, ℕ, zero, suc, List, [], ◌∷◌, length, map, Option, Some, None, refl, sym, subst, ap, ◌∙◌, inl, inr, ◌++◌, is_some, ◌≤◌}
use Rattle.osdp_calls.proofs.Common.{Command, Room, State, Closed, device_of, BusConfig, Entry, ReadsWhatIsAsked, Each, ReaderState, ReaderConfig, Answer, IsSetUp, NetMovesFit, NobodyElseHears, Net, NetMove, RestartPanel, RestartReader, after_net, site_at, KeepRule, Note, RuleSuffices, no_notes, noted_at, Call, Next, NewDevice, NewPanel, OfPanel, SetBusy, SetHandler, Step, SubmitEvent, after_call, after_next, begun_of, nexts, on_station, LapseEvent, WithdrawEvent, InUse, Station, InOrder, InRange, QuietOpening, AllKeepRule, CallsRuleSuffices, KeepsRule, first_note, first_notes, noted_of, notes_after, some_same, each_map, device_called, does, on_called}
use Rattle.osdp_bus.specs.Entries as devices
use Rattle.osdp_bus_laws.specs.Calls as panel
use Rattle.osdp_shared_line.specs.Line as line
use Rattle.osdp_shared_line.specs.Programs as programs
use Rattle.osdp_calls.specs.Premises as premises
use Rattle.osdp_calls.proofs.Accepting.{panel_rule}
use Rattle.osdp_calls.proofs.Agreeing.{AllAgree, Ruled, begun_change, begun_changed}
use Rattle.osdp_calls.proofs.Along.{IsFree, Path, free_rule, notes_along, still_free}
use Rattle.osdp_calls.proofs.Heeded.{by_rest, by_steps, bytes_ruled, call_addresses, retarget_ruled, silence_ruled, submit_ruled, tick_ruled}
use Rattle.osdp_calls.proofs.Heeding.{all_carried, as_it_was, begin_agrees, new_at, panel_agrees, withdraw_agrees}
use Rattle.osdp_calls.proofs.Holding.{one_call}
use Rattle.osdp_calls.proofs.Losing.{IsStill}
use Rattle.osdp_calls.proofs.Noticing.{Agrees}
use Rattle.osdp_calls.proofs.Same.{IsNetOf}
use Rattle.osdp_calls.proofs.Setting.{Starts, first_from, first_net, first_site, first_there, starts}
use Rattle.osdp_calls.proofs.Setting as setting
use Rattle.osdp_calls.proofs.Stations.{of_site, of_station}
use Rattle.osdp_calls.proofs.Steps.{StepsTo, device_moves}
use Rattle.osdp_calls.proofs.Lasting.{change_keeps, call_keeps}
use Rattle.osdp_calls.proofs.Matching.{is_there}

mapped_front : {A B : Type 0} (f : A → B) (others : List B) (k : ℕ) (x : A) (xs : List A) → site_at k xs ≡ Some x → site_at k (map f xs ++ others) ≡ Some (f x)
mapped_front f others k x [] is = absurd (let e = is in cc)
mapped_front f others zero x (y ∷ ys) is = ap (λ z. Some (f z)) (some_same y x is)
mapped_front f others (suc k) x (y ∷ ys) is = mapped_front f others k x ys is

module _ {H : Type 0} where
  -- a call of a device comes to still moves, unless it is made anew
  stills : (call : Call H) → Each IsStill (device_moves call)
  stills (SubmitEvent k event) = (tt, tt)
  stills (SetBusy k busy) = (tt, tt)
  stills (SetHandler k handler) = (tt, tt)
  stills (WithdrawEvent k) = (tt, tt)
  stills (LapseEvent k) = (tt, tt)
  stills _ = tt

  module _ (answer_of : H → Command → Answer) (after : H → Command → H) where
    next_begun : (j k : ℕ) (places : List ℕ) (o : Option (Station H)) (l : InUse H) → site_at k l.stations ≡ o
        → begun_of (site_at j (after_next answer_of after k places o l).stations) ≡ begun_of (site_at j l.stations)
    next_begun j k places None l is = refl
    next_begun j k places (Some t) l is =
        begun_changed j k (nexts answer_of after k places t) t l.stations is refl

    next_entries : (k : ℕ) (places : List ℕ) (o : Option (Station H)) (l : InUse H)
        → (after_next answer_of after k places o l).bus.devices.entries ≡ l.bus.devices.entries
    next_entries k places None l = refl
    next_entries k places (Some t) l = refl

    module _ (suffices : RuleSuffices answer_of after) (nobody : NobodyElseHears answer_of after) (reads : ReadsWhatIsAsked) (n0 : Net H) (up : IsSetUp n0)
        (l : InUse H) (n : Net H) (notes noted : ℕ → Note) (h : IsNetOf l n) (path : Path answer_of after n0 n noted) (agree : AllAgree l notes noted) where
      -- what a call comes to
      steps_to : (call : Call H) (places : List ℕ) → InOrder call places l → QuietOpening call places l → KeepsRule call l notes → InRange answer_of after call l
          → StepsTo answer_of after call l n (after_call answer_of after call places l)
      steps_to call places order quiet rule range =
          one_call answer_of after call places l n h order quiet (call_addresses answer_of after suffices nobody reads n0 up l n notes noted h path agree call rule range) range

      rests : (call : Call H) (next : InUse H) (s : StepsTo answer_of after call l n next) → Each IsStill s.moves
          → next.bus.devices.entries ≡ l.bus.devices.entries → ((j : ℕ) → begun_of (site_at j next.stations) ≡ begun_of (site_at j l.stations))
          → ((j : ℕ) (d : Entry) → noted_of j (Some d) call l (notes j) ≡ notes j)
          → ((j : ℕ) → is_some (site_at j next.stations) ≡ is_some (site_at j l.stations)) → Ruled answer_of after n0 next (notes_after call l notes)
      rests call next s still entries begun mine keeps =
          by_rest answer_of after suffices nobody reads n0 up l n notes noted h path agree call next s still entries begun mine keeps

      -- a call that changes a station alone, and not the moment at which its session was to begin
      station_ruled : (call : Call H) (o : Option ℕ) (change : Station H → Station H) → ((t : Station H) → (change t).begun ≡ t.begun)
          → ((j : ℕ) (d : Entry) → noted_of j (Some d) call l (notes j) ≡ notes j) → (s : StepsTo answer_of after call l n (on_called o change l))
          → Each IsStill s.moves → Ruled answer_of after n0 (on_called o change l) (notes_after call l notes)
      station_ruled call None change begun mine s still = rests call l s still refl (λ j. refl) mine (λ j. refl)
      station_ruled call (Some k) change begun mine s still =
          rests call (on_station k change l) s still refl (λ j. begun_change j k change l.stations begun) mine (λ j. change_keeps j k change l.stations)

      panel_ruled : (call : panel.Call) (places : List ℕ) → InOrder (OfPanel call) places l → QuietOpening (OfPanel call) places l
          → KeepsRule (OfPanel call) l notes → InRange answer_of after (OfPanel call) l
          → Ruled answer_of after n0 (after_call answer_of after (OfPanel call) places l) (notes_after (OfPanel call) l notes)
      panel_ruled (panel.Add address) places order quiet rule range = absurd range
      panel_ruled (panel.Begin k now) places order quiet rule range =
          let s = steps_to (OfPanel (panel.Begin k now)) places order quiet rule range in
          let still = subst (Each IsStill) (sym s.made) tt in
          by_steps answer_of after suffices nobody reads n0 up l n notes noted h path agree (OfPanel (panel.Begin k now))
          (after_call answer_of after (OfPanel (panel.Begin k now)) places l) s
          (free_rule answer_of after s.moves n noted (each_map IsStill IsFree still_free s.moves still) s.fit)
          (begin_agrees answer_of after k now l n n notes noted s.moves h still agree)
      panel_ruled (panel.Submit k command) places order quiet rule range =
          submit_ruled answer_of after suffices nobody reads n0 up l n notes noted h path agree k command places rule range
          (steps_to (OfPanel (panel.Submit k command)) places order quiet rule range)
      panel_ruled (panel.Withdraw k) places order quiet rule range =
          let s = steps_to (OfPanel (panel.Withdraw k)) places order quiet rule range in
          let still : Each IsStill s.moves =
          subst (Each IsStill) (sym s.made) (tt, tt) in
          by_steps answer_of after suffices nobody reads n0 up l n notes noted h path agree (OfPanel (panel.Withdraw k))
          (after_call answer_of after (OfPanel (panel.Withdraw k)) places l) s
          (free_rule answer_of after s.moves n noted (each_map IsStill IsFree still_free s.moves still) s.fit)
          (withdraw_agrees answer_of after k l n notes noted s.moves still agree)
      panel_ruled (panel.Retarget k address) places order quiet rule range =
          retarget_ruled answer_of after suffices nobody reads n0 up l n notes noted h path agree k address places rule
          (steps_to (OfPanel (panel.Retarget k address)) places order quiet rule range)
      panel_ruled (panel.OnBytes bytes now) places order quiet rule range =
          bytes_ruled answer_of after suffices nobody reads n0 up l n notes noted h path agree bytes now places order quiet
      panel_ruled (panel.OnSilence now) places order quiet rule range =
          silence_ruled answer_of after suffices nobody reads n0 up l n notes noted h path agree now places order quiet
      panel_ruled (panel.Tick now) places order quiet rule range =
          tick_ruled answer_of after suffices nobody reads n0 up l n notes noted h path agree now places order quiet
      panel_ruled panel.NextReport places order quiet rule range =
          let s = steps_to (OfPanel panel.NextReport) places order quiet rule range in
          rests (OfPanel panel.NextReport) (after_call answer_of after (OfPanel panel.NextReport) places l) s (subst (Each IsStill) (sym s.made) tt) refl (λ j. refl) (λ j d. refl)
          (λ j. refl)

      device_ruled : (k : ℕ) (config : ReaderConfig) (handler : H) (room : Room) (gap : ℕ) (places : List ℕ)
          → KeepsRule (NewDevice k config handler room gap) l notes
          → StepsTo answer_of after (NewDevice k config handler room gap) l n (after_call answer_of after (NewDevice k config handler room gap) places l)
          → Ruled answer_of after n0 (after_call answer_of after (NewDevice k config handler room gap) places l) (notes_after (NewDevice k config handler room gap) l notes)
      device_ruled k config handler room gap places rule s =
          let call : Call H = NewDevice k config handler room gap in
          let next = after_call answer_of after call places l in
          let made : s.moves ≡ RestartReader k config handler room ∷ [] = s.made in
          let fit = subst (λ ms. NetMovesFit answer_of after ms n) made s.fit in
          by_steps answer_of after suffices nobody reads n0 up l n notes noted h path agree call next s
          (subst (λ ms. KeepRule answer_of after ms n noted) (sym made) (
            (λ u at.
                let it = of_site k u l n h at in
                ((fit.0 u at).0, ap (λ (r : ReaderState H). r.config.address) it.is.reader ∙ rule it.station it.there)),
            tt,
            tt,
          ))
          (subst (λ ms. AllAgree next (notes_after call l notes) (notes_along answer_of after ms n noted)) (sym made)
          (all_carried call l next notes noted (notes_along answer_of after (RestartReader k config handler room ∷ []) n noted) agree
          (λ j. change_keeps j k (does answer_of after (NewDevice k config handler room gap)) l.stations) (λ j e own at.
          as_it_was call l next notes noted (notes_along answer_of after (RestartReader k config handler room ∷ []) n noted) j e e at refl
          (begun_change j k (does answer_of after (NewDevice k config handler room gap)) l.stations (λ t. refl)) refl (unnoted j (site_at j n.sites)))))
        where
          unnoted : (j : ℕ) (o : Option (line.Site H)) → noted_at j o (RestartReader k config handler room) n (noted j) ≡ noted j
          unnoted j None = refl
          unnoted j (Some u) = refl

      new_panel_ruled : (config : BusConfig) (xs : List ℕ) (places : List ℕ) → KeepsRule (NewPanel config xs) l notes
          → InRange answer_of after (NewPanel config xs) l
          → StepsTo answer_of after (NewPanel config xs) l n (after_call answer_of after (NewPanel config xs) places l)
          → Ruled answer_of after n0 (after_call answer_of after (NewPanel config xs) places l) (notes_after (NewPanel config xs) l notes)
      new_panel_ruled config xs places rule range s =
          let call : Call H = NewPanel config xs in
          let next = after_call answer_of after call places l in
          let settings = s.made.0 in
          let made = s.made.1 in
          let fit = subst (λ ms. NetMovesFit answer_of after ms n) made s.fit in
          let many : length l.stations ≤ length xs = range.2 in
          by_steps answer_of after suffices nobody reads n0 up l n notes noted h path agree call next s
          (subst (λ ms. KeepRule answer_of after ms n noted) (sym made)
          ((λ k u at. (fit.0 k u at).0), panel_rule config xs settings l n notes noted h agree rule many s.made.2, tt))
          (subst (λ ms. AllAgree next (notes_after call l notes) (notes_along answer_of after ms n noted)) (sym made)
          (panel_agrees answer_of after config xs settings l n notes noted h (λ k a own is.
          let t = is_there (site_at k l.stations) own in
          let it = of_station k t.0 l n h t.1 in
          (it.device, it.entry)) agree))

      call_ruled : (call : Call H) (places : List ℕ) → InOrder call places l → QuietOpening call places l → KeepsRule call l notes → InRange answer_of after call l
          → Ruled answer_of after n0 (after_call answer_of after call places l) (notes_after call l notes)
      call_ruled (OfPanel call) places order quiet rule range = panel_ruled call places order quiet rule range
      call_ruled (Next k) places order quiet rule range =
          let s = steps_to (Next k) places order quiet rule range in
          rests (Next k) (after_call answer_of after (Next k) places l) s s.made (next_entries k places (site_at k l.stations) l)
          (λ j. next_begun j k places (site_at k l.stations) l refl) (λ j d. refl) (λ j. call_keeps j answer_of after (Next k) places l)
      call_ruled (NewDevice k config handler room gap) places order quiet rule range =
          device_ruled k config handler room gap places rule (steps_to (NewDevice k config handler room gap) places order quiet rule range)
      call_ruled (NewPanel config xs) places order quiet rule range =
          new_panel_ruled config xs places rule range (steps_to (NewPanel config xs) places order quiet rule range)
      call_ruled call places order quiet rule range =
          let s = steps_to call places order quiet rule range in
          station_ruled call (device_called call) (does answer_of after call) (λ t. refl) (λ j d. refl) s (subst (Each IsStill) (sym s.made) (stills call))

    -- ---- a list of calls

    module _ (suffices : RuleSuffices answer_of after) (nobody : NobodyElseHears answer_of after) (reads : ReadsWhatIsAsked) where
      all_keep : (n0 : Net H) → IsSetUp n0 → (steps : List (Step H)) (l : InUse H) (n : Net H) (notes noted : ℕ → Note) → IsNetOf l n
          → Path answer_of after n0 n noted → AllAgree l notes noted → AllKeepRule answer_of after steps l notes → premises.AllKeep answer_of after steps l
      all_keep n0 up [] l n notes noted h path agree keep = tt
      all_keep n0 up (step ∷ steps) l n notes noted h path agree keep =
          let k = keep.0 in
          let r = call_ruled suffices nobody reads n0 up l n notes noted h path agree step.call step.places k.in_order k.quiet_opening k.rule k.in_range in (
            record {
              in_order = k.in_order;
              quiet_opening = k.quiet_opening;
              addresses = call_addresses answer_of after suffices nobody reads n0 up l n notes noted h path agree step.call k.rule k.in_range;
              in_range = k.in_range;
            },
            all_keep n0 up steps (after_call answer_of after step.call step.places l) r.net (notes_after step.call l notes) r.noted r.same r.path r.agree keep.1,
          )

      first_agree : (l : InUse H) → premises.IsSetUp l → (s : Starts answer_of after l)
          → AllAgree l (first_notes l) (programs.notes_after (RestartPanel s.settings) (first_net s.config l.stations) no_notes)
      first_agree l up s k d own at =
          let made = new_at up.config k d (map setting.address_of l.stations ++ up.others) (sym (ap (λ b. device_of k b) up.bus) ∙ at) in
          let there = is_there (site_at k l.stations) own in
          let t : (u : Station H) × (site_at k l.stations ≡ Some u) × (made.0 ≡ setting.address_of u) =
          (there.0, there.1, some_same made.0 (setting.address_of there.0) (sym made.1 ∙ mapped_front setting.address_of up.others k there.0 l.stations there.1)) in
          let f = first_site s.config t.0 in
          let begun : begun_of (site_at k l.stations) ≡ None = ap begun_of t.1 ∙ (up.place k t.0 t.1).1 in
          let mine : first_notes l k ≡ first_note (Some d) = ap first_note at in
          let its : programs.notes_after (RestartPanel s.settings) (first_net s.config l.stations) no_notes k
          ≡ programs.also_at (setting.address_of t.0 ∷ []) (no_notes k) =
          ap (λ o. noted_at k o (RestartPanel s.settings) (first_net s.config l.stations) (no_notes k)) (first_there s.config k t.0 l.stations t.1) in
          let state : d.controller.session.state ≡ Closed = ap (λ (e : Entry). e.controller.session.state) made.2 in
          let address : setting.address_of t.0 ≡ devices.address_of d = sym (ap devices.address_of made.2 ∙ t.2) in
          subst (λ (q : Option ℕ × State × Note × Note). Agrees q.0 q.1 q.2 q.3) (λ i. (sym begun i, sym state i, sym mine i, sym its i))
          (record { addresses = ap (λ a. a ∷ []) address; begun = tt; opening = λ b. tt })

      pub calls_rule_suffices : CallsRuleSuffices answer_of after
      calls_rule_suffices l steps up keep =
          let s = starts answer_of after l up in
          let n0 = first_net s.config l.stations in
          let restart : NetMove H = RestartPanel s.settings in
          all_keep n0 s.is_set_up steps l (after_net answer_of after restart n0) (first_notes l) (programs.notes_after restart n0 no_notes) s.same
          (record {
            moves = restart ∷ [];
            rule = (
              (λ k u at. (s.fits k u at).0),
              (λ k u at.
                  let t = first_from s.config k u l.stations at in
                  inl (ap (λ (x : line.Site H). line.address_of x) t.2 ∙ sym (s.given k t.0 t.1))),
              tt,
            );
            is = refl;
            noted = refl;
          })
          (first_agree l up s) keep
