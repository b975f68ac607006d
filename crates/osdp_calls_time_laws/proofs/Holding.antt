-- Call after call each packet is read in time, so each opening is quiet.
use Rattle.osdp_calls_time_laws.proofs.Common.{◌≡◌, ◌+◌, ◌<◌, ◌≤◌, ℕ, List, [], Option, None, Some, ◌∷◌, length, refl, sym, subst, ap, ◌∙◌, arith, ◌++◌, ◌^◌, map, slice_get, Command, BusState, address_of, IsBusConfig, BusConfig, Entry, ReadsWhatIsAsked, each_of, Each, Answer, Net, RestartPanel, after_net, site_at, Apart, apart_after, apart_all, apart_first, Call, NewPanel, Next, OfPanel, after_call, begun_of, InUse, Station, bus_with, AllKeep, InOrder, InRange, IsSetUp, QuietOpening, begun_change, new_at, one_call, IsNetOf, LedgerHoldsOnce, TimelyCallsOpenQuietly, TimelyLedgerHoldsOnce, steps_of, AllKeepElse, AllTimely, Clock, KeepsClock, Timed, WaitsTwice, clock_after, clock_at, device_called, does, on_called}
use Rattle.osdp_calls.proofs.Setting.{first_net, starts}
use Rattle.osdp_calls_time_laws.proofs.Devices.{of_new}
use Rattle.osdp_calls_time_laws.proofs.Nexts.{runs_next}
use Rattle.osdp_calls_time_laws.proofs.Panel.{is_quiet, runs_panel}
use Rattle.osdp_calls_time_laws.proofs.Quiet.{ReadAt, opens_quietly}
use Rattle.osdp_calls_time_laws.proofs.Waits.{AllWait, IsKept, IsOf, IsPast, Runs, Waits, runs_silent}

-- a time is no matter to a clock that has just begun
short : (q : ℕ) → q ≤ 3600000 → 0 + q < 2 ^ 64
short q le = omega (arith, le)

new_kept : (w start at : ℕ) (config : BusConfig) (addresses : List ℕ) → IsBusConfig config → WaitsTwice w config → start ≤ at → IsKept w start at (bus_with config addresses)
new_kept w start at config addresses settings waits le = record {
  patient = waits;
  clock = omega (arith, le);
  far = short config.quiet_wait settings.controllers.config_in_range.quiet_wait.1;
  kept = λ k d there. let a = new_at config k d addresses there in subst (IsOf config.quiet_wait 0) (sym a.2) (of_new 0 a.0 config);
}

module _ {H : Type 0} where
  -- no session of a new panel is to begin
  none_wait : (w start : ℕ) (stamps : List ℕ) (config : BusConfig) (addresses : List ℕ) (l : InUse H) (n : Net H) → IsNetOf l n → l.bus ≡ bus_with config addresses
      → AllWait w start stamps l.bus.devices.entries l.stations l.said
  none_wait w start stamps config addresses l n h is k d began entry begun =
      let q = is_quiet k began l n h begun in
      let a = new_at config k q.device addresses (sym (ap (λ (b : BusState). slice_get b.devices.entries k) is) ∙ q.there) in
      absurd (let e = sym q.state ∙ ap (λ (x : Entry). x.controller.session.state) a.2 in cc)

  module _ (answer_of : H → Command → Answer) (after : H → Command → H) (reads : ReadsWhatIsAsked) (w : ℕ) where
    module _ (t : Timed H) (c : Clock) (l : InUse H) (n : Net H) (h : IsNetOf l n) (apart : Apart n) (r : Runs w c l) (later : c.now ≤ t.at) where
      device_kept : t.start ≡ c.start → IsKept w t.start t.at l.bus
      device_kept start =
          let k = r.bus in
          let clock = k.clock in record { patient = k.patient; clock = omega (arith, clock, start, later); far = k.far; kept = k.kept }

      -- a call of a device that says nothing
      pub rests : (next : InUse H) → t.start ≡ c.start → next.bus ≡ l.bus → next.said ≡ l.said → next.openings ≡ l.openings
          → ((k : ℕ) → begun_of (site_at k next.stations) ≡ begun_of (site_at k l.stations)) → Runs w (clock_after t c next) next
      rests next start bus said openings begun =
          runs_silent w t c l next r later (subst (IsKept w t.start t.at) (sym bus) (device_kept start)) said openings
          (λ k d began entry is.
          subst (λ s. Waits w l.said c.said k (address_of d) (s + began)) (sym start)
          (r.waits k d began (sym (ap (λ (b : BusState). slice_get b.devices.entries k) bus) ∙ entry) (sym (begun k) ∙ is)))

      called_changes : (o : Option ℕ) (change : Station H → Station H) → t.start ≡ c.start → ((u : Station H) → (change u).begun ≡ u.begun)
          → Runs w (clock_after t c (on_called o change l)) (on_called o change l)
      called_changes None change start same = rests l start refl refl refl (λ j. refl)
      called_changes (Some k) change start same =
          rests (on_called (Some k) change l) start refl refl refl (λ j. begun_change j k change l.stations same)

      pub runs_call : (call : Call H) (places : List ℕ) → InOrder call places l → QuietOpening call places l → InRange answer_of after call l
          → KeepsClock w call t c l → Each (ReadAt w t.at c.said) places → (m : Net H) → IsNetOf (after_call answer_of after call places l) m
          → Runs w (clock_after t c (after_call answer_of after call places l)) (after_call answer_of after call places l)
      runs_call (OfPanel call) places order quiet range clock read m same =
          runs_panel answer_of after reads w t c l n h apart r later clock.0 call places order quiet range clock.1
      runs_call (Next k) places order quiet range clock read m same =
          runs_next answer_of after w t c l n h apart r later clock k places (site_at k l.stations) refl order read (device_kept clock)
          (rests l clock refl refl refl (λ j. refl))
      runs_call (NewPanel config addresses) places order quiet range clock read m same =
          let next = after_call answer_of after (NewPanel config addresses) places l in
          runs_silent w t c l next r later (new_kept w t.start t.at config addresses range.0 clock.1 clock.0) refl refl
          (none_wait w t.start c.said config addresses next m same refl)
      runs_call call places order quiet range clock read m same = called_changes (device_called call) (does answer_of after call) clock (λ u. refl)

    -- ---- a list of calls

    all_keep : (ts : List (Timed H)) (c : Clock) (l : InUse H) (n : Net H) → IsNetOf l n → Apart n → Runs w c l → AllTimely answer_of after w ts c l
        → AllKeepElse answer_of after ts l → AllKeep answer_of after (steps_of ts) l
    all_keep [] c l n h apart r timely keep = tt
    all_keep (t ∷ ts) c l n h apart r timely keep =
        let call = t.step.call in
        let places = t.step.places in
        let is = timely.0 in
        let k = keep.0 in
        let read = each_of (ReadAt w t.at c.said) places is.read in
        let quiet = opens_quietly w c l r t.at is.in_turn call places read in
        let next = after_call answer_of after call places l in
        let s = one_call answer_of after call places l n h k.in_order quiet k.addresses k.in_range in
        let apart_then : Apart s.net = subst Apart s.run (apart_all answer_of after reads s.moves n s.fit apart) in
        let run = runs_call t c l n h apart r is.in_turn call places k.in_order quiet k.in_range is.clock read s.net s.same in (
          record { in_order = k.in_order; quiet_opening = quiet; addresses = k.addresses; in_range = k.in_range },
          all_keep ts (clock_after t c next) next s.net s.same apart_then run timely.1 keep.1,
        )

  module _ (answer_of : H → Command → Answer) (after : H → Command → H) where
    -- a line at set-up
    pub record Begins (w start : ℕ) (l : InUse H) : Type 0 where
      pub net : Net H
      pub same : IsNetOf l net
      pub apart : Apart net
      pub runs : Runs w (clock_at start) l

    pub begins : ReadsWhatIsAsked → (w start : ℕ) (l : InUse H) → IsSetUp l → WaitsTwice w l.bus.config → Begins w start l
    begins reads w start l up waits =
        let s = starts answer_of after l up in
        let n0 = first_net s.config l.stations in
        let n1 = after_net answer_of after (RestartPanel s.settings) n0 in
        let none : l.said ≡ [] = up.said in
        let addresses = map (λ (t : Station H). t.reader.config.address) l.stations ++ up.others in
        let patient : WaitsTwice w up.config = subst (λ (b : BusState). WaitsTwice w b.config) up.bus waits in
        record {
          net = n1;
          same = s.same;
          apart = apart_after answer_of after reads (RestartPanel s.settings) n0 s.fits (apart_first n0 s.is_set_up);
          runs = record {
            stamps = ap length (sym none);
            past = λ i m there. absurd (let e = there in cc);
            bus = subst (IsKept w start start) (sym up.bus) (new_kept w start start up.config addresses up.settings patient (omega arith));
            waits = none_wait w start [] up.config addresses l n1 s.same up.bus;
            opened = subst (Each (IsPast w l.said [] start)) (sym up.openings) tt;
          };
        }

    pub open_quietly : ReadsWhatIsAsked → TimelyCallsOpenQuietly answer_of after
    open_quietly reads w start l ts up waits timely keep =
        let b = begins reads w start l up waits in all_keep answer_of after reads w ts (clock_at start) l b.net b.same b.apart b.runs timely keep

    pub hold_once : TimelyCallsOpenQuietly answer_of after → LedgerHoldsOnce answer_of after → TimelyLedgerHoldsOnce answer_of after
    hold_once quiet holds w start l ts up waits timely keep = holds l (steps_of ts) up (quiet w start l ts up waits timely keep)
