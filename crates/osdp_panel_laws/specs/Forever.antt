-- A panel all of whose orders may be sent for ever does what its bus does.
use Rattle.std.specs.Prelude.{◌≡◌, ℕ, ◌<◌, ◌^◌, false, All, List, Option, None}
use Rattle.osdp_bus.specs.declared.asking.Question.{Question}
use Rattle.osdp_bus.specs.declared.config.BusConfig.{BusConfig}
use Rattle.osdp_bus.specs.Ticking.{bus_ticks}
use Rattle.osdp_panel.specs.Giving.{late_at}
use Rattle.osdp_panel.specs.Orders.{PanelState, never}
use Rattle.osdp_panel.specs.Panels.{new_panel}
use Rattle.osdp_panel.specs.Sending.{sent_at, until_by}
use Rattle.osdp_panel_laws.specs.Calls.{Call, Submit, after_calls}

-- an order that is given is given for ever
abbrev pub IsForever : Call → Type 0
IsForever (Submit entry command until) = until ≡ never
IsForever _ = Unit {0}

-- no order is late at any moment, so none is told as expired. What the bus sends at a tick the panel sends, but for a turn whose bytes brought a report; and it has no
-- last moment, so it isn't withheld
pub record IsAsItsBus (p : PanelState) : Type 0 where
  pub expires : (now : ℕ) → now < 2 ^ 64 → late_at now p ≡ None
  pub sends : (now : ℕ) → now < 2 ^ 64 → p.bus.greatest < 2 ^ 64 → p.brought ≡ false → sent_at now p ≡ (bus_ticks now p.bus).sent
  pub lasts : (question : Option Question) → until_by question p ≡ never

abbrev pub ForeverIsAsItsBus : Type 0
ForeverIsAsItsBus = (config : BusConfig) (calls : List Call) → All IsForever calls → IsAsItsBus (after_calls calls (new_panel config))
