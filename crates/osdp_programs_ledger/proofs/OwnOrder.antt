-- What programs call is what the panel's own bus and our devices go by, whatever the numbers of its entries are.
use Rattle.osdp_programs_ledger.proofs.Common.{◌≡◌, ℕ, cond, List, [], ◌∷◌, map, Option, Some, None, refl, sym, subst, ap, ◌∙◌, inl, inr, Command, BusState, device_of, new_device, BusConfig, Entry, Answer, site_at, some_same, Call, OfPanel, Step, GoByTheirOwn, Held, device_after, device_after_all, held_by, is_of_device, InUse, Station, CallTheLine, DeviceKind, PanelKind, after_each, bus_after, bus_after_each, each_bus}
use Rattle.osdp_entry_numbers.specs.Including.{AnyCallsKeep, same_step}
use Rattle.osdp_entry_numbers.specs.Numbers.{IsIdle}
use Rattle.osdp_entry_numbers.specs.OwnOrder.{OwnLine, OwnStep, after_all_own, after_own, in_order, own_after, own_view, turned}
use Rattle.osdp_entry_numbers.specs.Promises.{IsOfPanel, OwnOrderKeepsLedger}
use Rattle.osdp_programs_ledger.specs.OwnOrder.{AnyProgramsKeep, OwnProgramsHoldOnce}

new_idle : (config : BusConfig) → IsIdle (new_device 0 config)
new_idle config = record { closed = refl; waiting = refl; reserved = refl }

module _ {H : Type 0} where
  -- the same calls, as those of any line
  abbrev plain : List (OwnStep H) → List (Step H)
  plain [] = []
  plain (step ∷ steps) = record { call = step.call; places = step.places } ∷ plain steps

  plain_calls : (steps : List (OwnStep H)) → map (λ (step : Step H). step.call) (plain steps) ≡ map (λ (step : OwnStep H). step.call) steps
  plain_calls [] = refl
  plain_calls (step ∷ steps) = ap (λ calls. step.call ∷ calls) (plain_calls steps)

  same_calls : (steps : List (Step H)) → map (λ (step : OwnStep H). step.call) (map same_step steps) ≡ map (λ (step : Step H). step.call) steps
  same_calls [] = refl
  same_calls (step ∷ steps) = ap (λ calls. step.call ∷ calls) (same_calls steps)

  -- the panel's own bus after a call
  bus_same : (call : Call H) (b : BusState) → own_after call b ≡ bus_after call b
  bus_same (OfPanel call) b = refl
  bus_same _ b = refl

  module _ (answer_of : H → Command → Answer) (after : H → Command → H) where
    own_bus : (steps : List (OwnStep H)) (a : OwnLine H) → (after_all_own answer_of after steps a).bus ≡ bus_after_each (map (λ (step : OwnStep H). step.call) steps) a.bus
    own_bus [] a = refl
    own_bus (step ∷ steps) a =
        own_bus steps (after_own answer_of after step a)
        ∙ ap (bus_after_each (map (λ (step : OwnStep H). step.call) steps)) (bus_same step.call a.bus)

    -- what a call is to a device is no matter of numbers
    device_same : (k : ℕ) (call : Call H) (ordered : List ℕ) (a : OwnLine H) (d : Held H)
        → cond (is_of_device k (in_order call ordered a)) (device_after answer_of after (in_order call ordered a) d) d
        ≡ cond (is_of_device k call) (device_after answer_of after call d) d
    device_same k (OfPanel call) ordered a d = refl
    device_same k _ ordered a d = refl

    module _ (own : (l : InUse H) → GoByTheirOwn answer_of after l) where
      own_device : (steps : List (OwnStep H)) (a : OwnLine H) (k : ℕ) (t : Station H) → site_at k a.line.stations ≡ Some t
          → (u : Station H) × (site_at k (after_all_own answer_of after steps a).line.stations ≡ Some u)
          × (held_by u ≡ device_after_all answer_of after k (plain steps) (held_by t))
      own_device [] a k t at = (t, at, refl)
      own_device (step ∷ steps) a k t at =
          let call = in_order step.call step.ordered a in
          let one = (own (turned step.call a)).device (record { call = call; places = step.places } ∷ []) k t at in
          let rest = own_device steps (after_own answer_of after step a) k one.0 one.1 in (
            rest.0,
            rest.1,
            rest.2 ∙ ap (device_after_all answer_of after k (plain steps)) (one.2 ∙ device_same k step.call step.ordered a (held_by t)),
          )

      module _ (P : PanelKind H) (D : DeviceKind H) where
        -- the entry that the panel has of a device
        entry_of : (k : ℕ) (a : OwnLine H) (o : Option Entry) → device_of (a.numbers.own k) a.bus ≡ o → (entry : Entry) × IsOfPanel k entry a
        entry_of k a None none = (new_device 0 a.bus.config, inr (none, new_idle a.bus.config))
        entry_of k a (Some d) is = (d, inl is)

        pub own_programs_hold : CallTheLine P D answer_of after → OwnOrderKeepsLedger answer_of after → OwnProgramsHoldOnce P D answer_of after
        own_programs_hold call holds own_calls w a steps are keep k first d at there =
            let end = after_all_own answer_of after steps a in
            let ends = after_each P D own_calls w in
            let same = plain_calls steps in
            let goes = call own_calls w (own_view a) (plain steps) are.fit are.line (same ∙ are.calls) in
            let bus : end.bus ≡ P.bus ends.panel =
            own_bus steps a ∙ ap (λ calls. bus_after_each calls a.bus) (sym same) ∙ sym (each_bus answer_of after own (plain steps) (own_view a)) ∙ goes.bus in
            let its = goes.devices k d there in
            let beside = (own (own_view a)).device (plain steps) k first at in
            let last = own_device steps a k first at in
            let held : held_by last.0 ≡ D.held d =
            last.2 ∙ sym beside.2 ∙ ap held_by (some_same beside.0 its.1 (sym beside.1 ∙ its.2)) ∙ its.3 in
            let entry = entry_of k end (device_of (end.numbers.own k) end.bus) refl in
            let kept = holds a steps are.up keep k first last.0 entry.0 at last.1 entry.1 in
            record {
              entry = entry.0;
              has = subst (λ b. IsOfPanel k entry.0 (record end { bus = b })) bus entry.1;
              station = last.0;
              held = held;
              allowed = kept.0;
              holds = kept.1;
            }

    pub any_programs_keep : (P : PanelKind H) (D : DeviceKind H) → AnyCallsKeep answer_of after → AnyProgramsKeep P D answer_of after
    any_programs_keep P D keeps own w l steps config addresses are settings is none_refused stand keep =
        let both = keeps l steps config addresses are.up settings is none_refused stand keep in
        (record { fit = are.fit; line = are.line; calls = same_calls steps ∙ are.calls; up = both.0 }, both.1)
