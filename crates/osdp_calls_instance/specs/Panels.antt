-- Programs in Rattle: the calls of an `osdp_panel::Panel` and of devices, and which calls of a line in use they are. And programs that hold such a panel and call it by calls
-- of their own, as those for C, or lines of text.
use Rattle.std.specs.Prelude.{◌≡◌, ℕ, Bool, true, false, List, [], ◌∷◌, ◌++◌, map}
use Rattle.osdp_msg.specs.declared.command.Command.{Command}
use Rattle.osdp_msg.specs.declared.event.Event.{Event}
use Rattle.osdp_msg.specs.declared.limits.Room.{Room}
use Rattle.osdp_bus.specs.Buses.{new_bus}
use Rattle.osdp_bus.specs.declared.config.BusConfig.{BusConfig}
use Rattle.osdp_reader.specs.declared.config.ReaderConfig.{ReaderConfig}
use Rattle.osdp_reader.specs.declared.handler.Answer.{Answer}
use Rattle.osdp_panel.specs.Orders.{PanelState}
use Rattle.osdp_panel.specs.Panels.{new_panel, panel_config}
use Rattle.osdp_panel_laws.specs.Calls.{Add, after_call as after_panel_call, after_calls as after_panel_calls, bus_calls}
use Rattle.osdp_panel_laws.specs.Calls as panel
use Rattle.osdp_calls.specs.Calls.{Call, Held, NewDevice, NewPanel, Next, OfPanel, Pending, SetBusy, SetHandler, Silence, SubmitEvent, Take, TickDevice, LapseEvent, WithdrawEvent, device_after}
use Rattle.osdp_calls.specs.Sayings.{NoneRefused}
use Rattle.osdp_calls_instance.specs.OwnCalls.{ArePanelCalls, DeviceKind, PanelKind}

-- ---- a panel

-- an entry of a panel that is made: the address of its device, and the number of its first order
pub record FirstEntry : Type 0 where
  pub address : ℕ
  pub next : ℕ

-- how a program in Rattle uses a panel: it calls it; or makes it anew, with these settings and these entries
pub data PanelUse : Type 0 where
  Calls : panel.Call → PanelUse
  MadeAnew : BusConfig → List FirstEntry → PanelUse

-- the addresses of entries
abbrev pub addresses_of : List FirstEntry → List ℕ
addresses_of entries = map (λ (e : FirstEntry). e.address) entries

-- the calls that add them
abbrev pub adding : List FirstEntry → List panel.Call
adding entries = map (λ (e : FirstEntry). Add e.address e.next) entries

-- a panel that was made with these settings, and to which these devices were added
abbrev pub panel_made : BusConfig → List FirstEntry → PanelState
panel_made config entries = after_panel_calls (adding entries) (new_panel config)

-- the panel after such a call
abbrev pub after_panel : PanelUse → PanelState → PanelState
after_panel (Calls call) p = after_panel_call call p
after_panel (MadeAnew config entries) p = panel_made config entries

-- a panel may be made anew with entries that can be added as they stand
abbrev pub PanelFits : PanelUse → PanelState → Type 0
PanelFits (Calls call) p = Unit {0}
PanelFits (MadeAnew config entries) p = NoneRefused (addresses_of entries) (new_bus (panel_config config))

-- Which calls of a line in use it is: the calls of its bus that it is. A burst that a tick gives and that is withheld, since the last moment of its order has passed, was said,
-- and is lost on the line: nobody reads it.
abbrev pub calls_of_panel : {H : Type 0} → PanelUse → PanelState → List (Call H)
calls_of_panel (Calls call) p = map OfPanel (bus_calls call p)
calls_of_panel (MadeAnew config entries) p = NewPanel (panel_config config) (addresses_of entries) ∷ []

-- the kind of an `osdp_panel::Panel`
abbrev pub rattle_panel : {H : Type 0} → PanelKind H
rattle_panel = record {
  Program = PanelState;
  bus = λ p. p.bus;
  Own = PanelUse;
  after = after_panel;
  Fits = PanelFits;
  calls = calls_of_panel;
}

-- what the calls of a panel are beside any devices
abbrev pub PanelIsCalled : Type 0 → Type 0
PanelIsCalled H = ArePanelCalls (rattle_panel {H = H})

-- ---- a program that holds one

-- the panel after a list of such calls
abbrev pub after_each_of_panel : List PanelUse → PanelState → PanelState
after_each_of_panel [] p = p
after_each_of_panel (call ∷ calls) p = after_each_of_panel calls (after_panel call p)

-- each of them fits where those before it have brought the panel
abbrev pub EachFits : List PanelUse → PanelState → Type 0
EachFits [] p = Unit {0}
EachFits (call ∷ calls) p = PanelFits call p × EachFits calls (after_panel call p)

-- the calls of a line in use that they are
abbrev pub calls_along_panel : {H : Type 0} → List PanelUse → PanelState → List (Call H)
calls_along_panel [] p = []
calls_along_panel (call ∷ calls) p = calls_of_panel call p ++ calls_along_panel calls (after_panel call p)

-- a kind of program that holds a panel: what such a program is, and the panel in it; its own calls, what each makes of it, when it is one, and which calls of its panel it is
pub record HandleKind : Type 1 where
  pub Program : Type 0
  pub panel : Program → PanelState
  pub Own : Type 0
  pub after : Own → Program → Program
  pub Fits : Own → Program → Type 0
  pub calls : Own → Program → List PanelUse

-- such a kind as one of a panel's program
abbrev pub by_panel : {H : Type 0} → HandleKind → PanelKind H
by_panel h = record {
  Program = h.Program;
  bus = λ p. (h.panel p).bus;
  Own = h.Own;
  after = h.after;
  Fits = h.Fits;
  calls = λ own p. calls_along_panel (h.calls own p) (h.panel p);
}

-- the own calls of programs of such a kind are calls of the panel that they hold, which do to it what they do
pub record AreCallsOfPanel (h : HandleKind) : Type 0 where
  pub fit : (own : h.Own) (p : h.Program) → h.Fits own p → EachFits (h.calls own p) (h.panel p)
  pub panel : (own : h.Own) (p : h.Program) → h.Fits own p → h.panel (h.after own p) ≡ after_each_of_panel (h.calls own p) (h.panel p)

-- ---- a device

-- how it uses a device: a call of an `osdp_device::Device`, or of the reader in it; or the device is made anew, with these settings, its handler, its room for events and its gap, be it the same
-- or another in its place
pub data DeviceUse (H : Type 0) : Type 0 where
  Submits : Event → DeviceUse H
  IsBusy : Bool → DeviceUse H
  HasHandler : H → DeviceUse H
  Withdraws : DeviceUse H
  Lapses : DeviceUse H
  Takes : List ℕ → ℕ → DeviceUse H
  Ticks : ℕ → DeviceUse H
  FallsSilent : ℕ → DeviceUse H
  ReadsNext : DeviceUse H
  LooksAhead : DeviceUse H
  IsMadeAnew : ReaderConfig → H → Room → ℕ → DeviceUse H

module _ {H : Type 0} where
  -- the call of a line in use that it is, at the entry of its device
  abbrev pub call_of_device : ℕ → DeviceUse H → Call H
  call_of_device k (Submits event) = SubmitEvent k event
  call_of_device k (IsBusy busy) = SetBusy k busy
  call_of_device k (HasHandler handler) = SetHandler k handler
  call_of_device k Withdraws = WithdrawEvent k
  call_of_device k Lapses = LapseEvent k
  call_of_device k (Takes bytes now) = Take k bytes now
  call_of_device k (Ticks now) = TickDevice k now
  call_of_device k (FallsSilent now) = Silence k now
  call_of_device k ReadsNext = Next k
  call_of_device k LooksAhead = Pending k
  call_of_device k (IsMadeAnew config handler room gap) = NewDevice k config handler room gap

  -- the kind of an `osdp_device::Device`, whatever its handler is: each call is one of a line in use, and does what that one does
  abbrev pub rattle_device : (H → Command → Answer) → (H → Command → H) → DeviceKind H
  rattle_device answer_of after = record {
    Program = Held H;
    held = λ d. d;
    Sound = λ d. Unit {0};
    Own = DeviceUse H;
    after = λ call d. device_after answer_of after (call_of_device 0 call) d;
    Fits = λ call d. Unit {0};
    calls = λ k call d. call_of_device k call ∷ [];
  }
