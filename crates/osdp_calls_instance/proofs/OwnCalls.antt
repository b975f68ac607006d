-- Whatever programs call by calls of their own, the line in use goes where they go.
use Rattle.osdp_calls_instance.proofs.Common.{◌≡◌, ◌≢◌, ℕ, true, false, cond, List, [], ◌∷◌, ◌++◌, map, Option, Some, None, refl, sym, subst, ap, ◌∙◌, inl, inr, ◌==◌, eqb_tells, Command, BusState, each_all, each_of, Each, Answer, changed, site_at, at_changed, at_other, some_same, Call, NewPanel, OfPanel, Step, after_call, after_calls, GoByTheirOwn, Held, KeepsPanel, device_after, device_after_all, held_by, is_of_device, panel_calls, InUse, AreDeviceCalls, ArePanelCalls, AtDevice, AtPanel, CallTheLine, DeviceKind, FitsAt, IsLineOf, IsOfDevice, IsOfPanel, OwnCall, OwnFits, PanelKind, Programs, after_each, after_own, all_calls, bus_after, bus_after_each, calls_at, calls_by, device_after_each, devices_after, eqb-true, ne_eqb}
use Rattle.osdp_calls.specs.Calls.{device_called}
use Rattle.osdp_calls.specs.Ends.{is_called}
use Rattle.osdp_bus_laws.specs.Calls as bus

-- ---- lists of steps

pub record Splits {A B : Type 0} (f : A → B) (xs ys : List B) (steps : List A) : Type 0 where
  pub first : List A
  pub rest : List A
  pub both : steps ≡ first ++ rest
  pub firsts : map f first ≡ xs
  pub rests : map f rest ≡ ys

pub splits : {A B : Type 0} (f : A → B) (xs ys : List B) (steps : List A) → map f steps ≡ xs ++ ys → Splits f xs ys steps
splits f [] ys steps are = record { first = []; rest = steps; both = refl; firsts = refl; rests = are }
splits f (x ∷ xs) ys [] are = absurd (let e = are in cc)
splits f (x ∷ xs) ys (step ∷ steps) are =
    let heads : f step ≡ x = cc in
    let tails : map f steps ≡ xs ++ ys = cc in
    let s = splits f xs ys steps tails in
    record {
      first = step ∷ s.first;
      rest = s.rest;
      both = ap (λ l. step ∷ l) s.both;
      firsts = ap (λ l. f step ∷ l) s.firsts ∙ ap (λ y. y ∷ xs) heads;
      rests = s.rests;
    }

-- a place that is this one is no other
is_other : (i k j : ℕ) → (i == k) ≡ true → j ≢ k → (i == j) ≡ false
is_other i k j is differ = ne_eqb i j (λ e. differ (sym e ∙ eqb-true i k is))

module _ {H : Type 0} where
  abbrev call_of : Step H → Call H
  call_of step = step.call

  module _ (answer_of : H → Command → Answer) (after : H → Command → H) where
    pub more_steps : (first rest : List (Step H)) (l : InUse H)
        → after_calls answer_of after (first ++ rest) l ≡ after_calls answer_of after rest (after_calls answer_of after first l)
    more_steps [] rest l = refl
    more_steps (step ∷ first) rest l = more_steps first rest (after_call answer_of after step.call step.places l)

    -- ---- one step

    abbrev one : Call H → List ℕ → List (Step H)
    one call places = record { call = call; places = places } ∷ []

    module _ (own : (l : InUse H) → GoByTheirOwn answer_of after l) where
      keeps_bus : (call : Call H) (places : List ℕ) (l : InUse H) → KeepsPanel call
          → (after_call answer_of after call places l).bus ≡ bus.after_calls (panel_calls (one call places)) l.bus
      keeps_bus call places l keeps = (own l).panel (one call places) (each_all (λ (step : Step H). KeepsPanel step.call) (one call places) (keeps, tt))

      -- the bus after a call
      bus_is : (call : Call H) (places : List ℕ) (l : InUse H) → (after_call answer_of after call places l).bus ≡ bus_after call l.bus
      bus_is (NewPanel config addresses) places l = refl
      bus_is call places l = keeps_bus call places l tt

      -- the bus after a list of steps
      pub each_bus : (steps : List (Step H)) (l : InUse H) → (after_calls answer_of after steps l).bus ≡ bus_after_each (map call_of steps) l.bus
      each_bus [] l = refl
      each_bus (step ∷ steps) l =
          each_bus steps (after_call answer_of after step.call step.places l)
          ∙ ap (bus_after_each (map call_of steps)) (bus_is step.call step.places l)

  -- ---- whose calls they are

  other_device : (k j : ℕ) (call : Call H) → j ≢ k → IsOfDevice k call → is_of_device j call ≡ false
  other_device k j call differ is = by_entry (device_called call) is
    where
      by_entry : (o : Option ℕ) → is_called k o ≡ true → is_called j o ≡ false
      by_entry None none = refl
      by_entry (Some i) mine = is_other i k j mine differ

  no_device : (k : ℕ) (call : Call H) → IsOfPanel call → is_of_device k call ≡ false
  no_device k (OfPanel call) is = refl
  no_device k (NewPanel config addresses) is = refl
  no_device k _ is = absurd is

  no_panel : (k : ℕ) (call : Call H) (b : BusState) → IsOfDevice k call → bus_after call b ≡ b
  no_panel k (OfPanel call) b is = absurd (let e = is in cc)
  no_panel k (NewPanel config addresses) b is = absurd (let e = is in cc)
  no_panel k _ b is = refl

  no_panels : (k : ℕ) (calls : List (Call H)) (b : BusState) → Each (IsOfDevice k) calls → bus_after_each calls b ≡ b
  no_panels k [] b are = refl
  no_panels k (call ∷ calls) b are = ap (bus_after_each calls) (no_panel k call b are.0) ∙ no_panels k calls b are.1

  abbrev pub IsOther : ℕ → Call H → Type 0
  IsOther k call = is_of_device k call ≡ false

  pub others : (k j : ℕ) (calls : List (Call H)) → j ≢ k → Each (IsOfDevice k) calls → Each (IsOther j) calls
  others k j [] differ are = tt
  others k j (call ∷ calls) differ are = (other_device k j call differ are.0, others k j calls differ are.1)

  no_devices : (k : ℕ) (calls : List (Call H)) → Each IsOfPanel calls → Each (IsOther k) calls
  no_devices k [] are = tt
  no_devices k (call ∷ calls) are = (no_device k call are.0, no_devices k calls are.1)

  module _ (answer_of : H → Command → Answer) (after : H → Command → H) where
    pub of_device : (k : ℕ) (steps : List (Step H)) (d : Held H) → Each (IsOfDevice k) (map call_of steps)
        → device_after_all answer_of after k steps d ≡ device_after_each answer_of after (map call_of steps) d
    of_device k [] d are = refl
    of_device k (step ∷ steps) d are =
        ap (λ b. device_after_all answer_of after k steps (cond b (device_after answer_of after step.call d) d)) are.0
        ∙ of_device k steps (device_after answer_of after step.call d) are.1

    of_others : (k : ℕ) (steps : List (Step H)) (d : Held H) → Each (IsOther k) (map call_of steps)
        → device_after_all answer_of after k steps d ≡ d
    of_others k [] d are = refl
    of_others k (step ∷ steps) d are =
        ap (λ b. device_after_all answer_of after k steps (cond b (device_after answer_of after step.call d) d)) are.0
        ∙ of_others k steps d are.1

    -- ---- programs

    module _ (own : (l : InUse H) → GoByTheirOwn answer_of after l) (P : PanelKind H) (D : DeviceKind H) (panels : ArePanelCalls P)
        (devices : AreDeviceCalls answer_of after D) where
      panel_step : (call : P.Own) (w : Programs P D) (l : InUse H) (steps : List (Step H)) → P.Fits call w.panel → IsLineOf P D w l
          → map call_of steps ≡ P.calls call w.panel → IsLineOf P D (after_own P D (AtPanel call) w) (after_calls answer_of after steps l)
      panel_step call w l steps fits is are =
          let none : (k : ℕ) → Each (IsOther k) (map call_of steps) =
          λ k. subst (Each (IsOther k)) (sym are) (no_devices k (P.calls call w.panel) (each_of IsOfPanel (P.calls call w.panel) (panels.end call w.panel))) in
          record {
            bus = each_bus answer_of after own steps l ∙ ap (λ calls. bus_after_each calls l.bus) are
                ∙ ap (bus_after_each (P.calls call w.panel)) is.bus ∙ sym (panels.bus call w.panel fits);
            devices = λ k d at.
                let was = is.devices k d at in
                let goes = (own l).device steps k was.1 was.2 in
                (was.0, goes.0, goes.1, goes.2 ∙ of_others k steps (held_by was.1) (none k) ∙ was.3);
          }

      device_step : (k : ℕ) (call : D.Own) (o : Option D.Program) (w : Programs P D) (l : InUse H) (steps : List (Step H)) → site_at k w.devices ≡ o
          → FitsAt P D call o → IsLineOf P D w l → map call_of steps ≡ calls_at P D k call o
          → IsLineOf P D (record w { devices = devices_after P D k call o w.devices }) (after_calls answer_of after steps l)
      device_step k call None w l steps at fits is are =
          let none : (j : ℕ) → Each (IsOther j) (map call_of steps) = λ j. subst (Each (IsOther j)) (sym are) tt in
          record {
            bus = each_bus answer_of after own steps l ∙ ap (λ calls. bus_after_each calls l.bus) are ∙ is.bus;
            devices = λ j d there.
                let was = is.devices j d there in
                let goes = (own l).device steps j was.1 was.2 in
                (was.0, goes.0, goes.1, goes.2 ∙ of_others j steps (held_by was.1) (none j) ∙ was.3);
          }
      device_step k call (Some d) w l steps at fits is are =
          let mine : Each (IsOfDevice k) (D.calls k call d) = each_of (IsOfDevice k) (D.calls k call d) (devices.end k call d) in
          let here : Each (IsOfDevice k) (map call_of steps) = subst (Each (IsOfDevice k)) (sym are) mine in
          let was = is.devices k d at in
          record {
            bus = each_bus answer_of after own steps l ∙ no_panels k (map call_of steps) l.bus here ∙ is.bus;
            devices = λ j e there. elim (eqb_tells j k) [
              | inl same ↦
                  let changed_at : site_at j (changed k (D.after call d) w.devices) ≡ Some (D.after call d) =
                  subst (λ i. site_at i (changed k (D.after call d) w.devices) ≡ Some (D.after call d)) (sym same.1) (at_changed k (D.after call d) d w.devices at) in
                  let is_e : D.after call d ≡ e = some_same (D.after call d) e (sym changed_at ∙ there) in
                  let goes = (own l).device steps k was.1 was.2 in (
                    subst D.Sound is_e (devices.sound call d fits was.0),
                    goes.0,
                    subst (λ i. site_at i (after_calls answer_of after steps l).stations ≡ Some goes.0) (sym same.1) goes.1,
                    goes.2 ∙ of_device k steps (held_by was.1) here ∙ ap (λ calls. device_after_each answer_of after calls (held_by was.1)) are
                        ∙ ap (device_after_each answer_of after (D.calls k call d)) was.3 ∙ sym (devices.device k call d fits was.0) ∙ ap D.held is_e,
                  )
              | inr differs ↦
                  let old = is.devices j e (sym (at_other j k (D.after call d) w.devices differs.1) ∙ there) in
                  let goes = (own l).device steps j old.1 old.2 in
                  (old.0, goes.0, goes.1, goes.2 ∙ of_others j steps (held_by old.1) (others k j (map call_of steps) differs.1 here) ∙ old.3)
            ];
          }

      own_step : (call : OwnCall P D) (w : Programs P D) (l : InUse H) (steps : List (Step H)) → OwnFits P D call w → IsLineOf P D w l
          → map call_of steps ≡ calls_by P D call w → IsLineOf P D (after_own P D call w) (after_calls answer_of after steps l)
      own_step (AtPanel call) w l steps fits is are = panel_step call w l steps fits is are
      own_step (AtDevice k call) w l steps fits is are = device_step k call (site_at k w.devices) w l steps refl fits is are

      pub call_the_line : CallTheLine P D answer_of after
      call_the_line [] w l [] fit is are = is
      call_the_line [] w l (step ∷ steps) fit is are = absurd (let e = are in cc)
      call_the_line (call ∷ more) w l steps fit is are =
          let s = splits call_of (calls_by P D call w) (all_calls P D more (after_own P D call w)) steps are in
          let first = own_step call w l s.first fit.0 is s.firsts in
          let rest = call_the_line more (after_own P D call w) (after_calls answer_of after s.first l) s.rest fit.1 first s.rests in
          let joined : after_calls answer_of after steps l ≡ after_calls answer_of after s.rest (after_calls answer_of after s.first l) =
          ap (λ all. after_calls answer_of after all l) s.both ∙ more_steps answer_of after s.first s.rest l in
          subst (IsLineOf P D (after_each P D (call ∷ more) w)) (sym joined) rest
