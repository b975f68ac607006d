-- The calls of a panel are calls of its bus, and those of a program that holds a panel are calls of this panel.
use Rattle.osdp_calls_instance.proofs.Common.{true, ◌==◌, eq-eqb, ◌≡◌, ℕ, List, [], ◌∷◌, ◌++◌, map, refl, sym, ap, ◌∙◌, Command, BusState, new_bus, BusConfig, each_all, each_of, Each, Answer, Call, OfPanel, AddsMakeTheBus, AreDeviceCalls, ArePanelCalls, IsOfDevice, IsOfPanel, bus_after_each}
use Rattle.osdp_bus_laws.specs.Calls as bus
use Rattle.osdp_calls.specs.Lines.{bus_with}
use Rattle.osdp_panel.specs.Orders.{PanelState}
use Rattle.osdp_panel.specs.Panels.{new_panel, panel_config}
use Rattle.osdp_panel_laws.specs.Calls.{after_call as after_panel_call, bus_calls, bus_calls_along}
use Rattle.osdp_panel_laws.proofs.Calling.{all_calls, one_call}
use Rattle.osdp_calls_instance.specs.Panels.{AreCallsOfPanel, Calls, DeviceUse, EachFits, FirstEntry, FallsSilent, HandleKind, HasHandler, IsBusy, IsMadeAnew, Lapses, LooksAhead, MadeAnew, PanelUse, PanelFits, ReadsNext, Submits, Takes, Ticks, Withdraws, adding, addresses_of, after_each_of_panel, after_panel, by_panel, call_of_device, calls_along_panel, calls_of_panel, panel_made, rattle_device, rattle_panel}

pub own_device : (k : ℕ) → (k == k) ≡ true
own_device k = eq-eqb k k refl

pub panels_own : (H : Type 0) (calls : List bus.Call) → Each (IsOfPanel {H = H}) (map OfPanel calls)
panels_own H [] = tt
panels_own H (call ∷ calls) = (tt, panels_own H calls)

pub bus_same : (H : Type 0) (calls : List bus.Call) (b : BusState) → bus.after_calls calls b ≡ bus_after_each {H = H} (map OfPanel calls) b
bus_same H [] b = refl
bus_same H (call ∷ calls) b = bus_same H calls (bus.after_call call b)

-- ---- a panel made anew

-- it was made by the calls that add its entries
added_by : (entries : List FirstEntry) (p : PanelState) → bus_calls_along (adding entries) p ≡ map bus.Add (addresses_of entries)
added_by [] p = refl
added_by (e ∷ entries) p = ap (λ calls. bus.Add e.address ∷ calls) (added_by entries (after_panel_call (Rattle.osdp_panel_laws.specs.Calls.Add e.address e.next) p))

pub bus_made : AddsMakeTheBus → (config : BusConfig) (entries : List FirstEntry) (p : PanelState) → PanelFits (MadeAnew config entries) p
    → (panel_made config entries).bus ≡ bus_with (panel_config config) (addresses_of entries)
bus_made adds config entries p fits =
    all_calls (adding entries) (new_panel config)
    ∙ ap (λ calls. bus.after_calls calls (new_bus (panel_config config))) (added_by entries (new_panel config))
    ∙ adds (panel_config config) (addresses_of entries) fits

-- ---- the calls of a panel

panel_own : (H : Type 0) (call : PanelUse) (p : PanelState) → Each (IsOfPanel {H = H}) (calls_of_panel call p)
panel_own H (Calls call) p = panels_own H (bus_calls call p)
panel_own H (MadeAnew config entries) p = (tt, tt)

panel_bus : (H : Type 0) → AddsMakeTheBus → (call : PanelUse) (p : PanelState) → PanelFits call p
    → (after_panel call p).bus ≡ bus_after_each {H = H} (calls_of_panel call p) p.bus
panel_bus H adds (Calls call) p fits = one_call call p ∙ bus_same H (bus_calls call p) p.bus
panel_bus H adds (MadeAnew config entries) p fits = bus_made adds config entries p fits

pub panel_is : {H : Type 0} → AddsMakeTheBus → ArePanelCalls (rattle_panel {H = H})
panel_is {H} adds = record {
  end = λ call p. each_all (IsOfPanel {H = H}) (calls_of_panel call p) (panel_own H call p);
  bus = λ call p fits. panel_bus H adds call p fits;
}

-- ---- a program that holds one

both_own : (H : Type 0) (xs ys : List (Call H)) → Each (IsOfPanel {H = H}) xs → Each (IsOfPanel {H = H}) ys → Each (IsOfPanel {H = H}) (xs ++ ys)
both_own H [] ys a b = b
both_own H (x ∷ xs) ys a b = (a.0, both_own H xs ys a.1 b)

along_own : (H : Type 0) (calls : List PanelUse) (p : PanelState) → Each (IsOfPanel {H = H}) (calls_along_panel calls p)
along_own H [] p = tt
along_own H (call ∷ calls) p =
    both_own H (calls_of_panel call p) (calls_along_panel calls (after_panel call p)) (panel_own H call p) (along_own H calls (after_panel call p))

more_calls : (H : Type 0) (xs ys : List (Call H)) (b : BusState) → bus_after_each (xs ++ ys) b ≡ bus_after_each ys (bus_after_each xs b)
more_calls H [] ys b = refl
more_calls H (x ∷ xs) ys b = more_calls H xs ys (Rattle.osdp_calls_instance.specs.OwnCalls.bus_after x b)

along_bus : (H : Type 0) → AddsMakeTheBus → (calls : List PanelUse) (p : PanelState) → EachFits calls p
    → (after_each_of_panel calls p).bus ≡ bus_after_each {H = H} (calls_along_panel calls p) p.bus
along_bus H adds [] p fits = refl
along_bus H adds (call ∷ calls) p fits =
    along_bus H adds calls (after_panel call p) fits.1
    ∙ ap (bus_after_each {H = H} (calls_along_panel calls (after_panel call p))) (panel_bus H adds call p fits.0)
    ∙ sym (more_calls H (calls_of_panel call p) (calls_along_panel calls (after_panel call p)) p.bus)

-- a kind whose calls are calls of the panel is one whose calls are those of a bus
pub handles_are_calls : {H : Type 0} → AddsMakeTheBus → (h : HandleKind) → AreCallsOfPanel h → ArePanelCalls (by_panel {H = H} h)
handles_are_calls {H} adds h are = record {
  end = λ own p. each_all (IsOfPanel {H = H}) (calls_along_panel (h.calls own p) (h.panel p)) (along_own H (h.calls own p) (h.panel p));
  bus = λ own p fits.
      ap (λ (q : PanelState). q.bus) (are.panel own p fits) ∙ along_bus H adds (h.calls own p) (h.panel p) (are.fit own p fits);
}

-- ---- a device

module _ {H : Type 0} (answer_of : H → Command → Answer) (after : H → Command → H) where
  -- which entry a call is for says nothing of what it does
  same_call : (k : ℕ) (call : DeviceUse H) (d : Rattle.osdp_calls.specs.Calls.Held H)
      → Rattle.osdp_calls.specs.Calls.device_after answer_of after (call_of_device 0 call) d ≡ Rattle.osdp_calls.specs.Calls.device_after answer_of after (call_of_device k call) d
  same_call k (Submits event) d = refl
  same_call k (IsBusy busy) d = refl
  same_call k (HasHandler handler) d = refl
  same_call k Withdraws d = refl
  same_call k Lapses d = refl
  same_call k (Takes bytes now) d = refl
  same_call k (Ticks now) d = refl
  same_call k (FallsSilent now) d = refl
  same_call k ReadsNext d = refl
  same_call k LooksAhead d = refl
  same_call k (IsMadeAnew config handler room gap) d = refl

  device_own : (k : ℕ) (call : DeviceUse H) → Each (IsOfDevice {H = H} k) (call_of_device k call ∷ [])
  device_own k (Submits event) = (own_device k, tt)
  device_own k (IsBusy busy) = (own_device k, tt)
  device_own k (HasHandler handler) = (own_device k, tt)
  device_own k Withdraws = (own_device k, tt)
  device_own k Lapses = (own_device k, tt)
  device_own k (Takes bytes now) = (own_device k, tt)
  device_own k (Ticks now) = (own_device k, tt)
  device_own k (FallsSilent now) = (own_device k, tt)
  device_own k ReadsNext = (own_device k, tt)
  device_own k LooksAhead = (own_device k, tt)
  device_own k (IsMadeAnew config handler room gap) = (own_device k, tt)

  pub device_is : AreDeviceCalls answer_of after (rattle_device answer_of after)
  device_is = record {
    end = λ k call d. each_all (IsOfDevice {H = H} k) (call_of_device k call ∷ []) (device_own k call);
    device = λ k call d fits sound. same_call k call d;
    sound = λ call d fits sound. tt;
  }
