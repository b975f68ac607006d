-- Until when a packet is given out.
use Rattle.std.specs.Prelude.{◌≡◌, ◌≢◌, ℕ, ◌≤◌, true, max, List, [], ◌∷◌, ◌++◌, is_some}
use Rattle.osdp_bus.specs.declared.config.BusConfig.{BusConfig}
use Rattle.osdp_bus.specs.Asking.{question}
use Rattle.osdp_panel.specs.Orders.{PanelState}
use Rattle.osdp_panel.specs.Panels.{new_panel}
use Rattle.osdp_panel.specs.Sending.{sent_at, until_by, written}
use Rattle.osdp_panel_laws.specs.Calls.{Call, Tick, after_call, after_calls}

-- bytes are given out after some calls at a moment: a tick among these calls sent a packet, and neither the moment of that tick nor this one is after the last moment of what it asks,
-- which is the one that the order was given until where it asks one
pub record IsInTime (calls : List Call) (now : ℕ) (p : PanelState) : Type 0 where
  pub before : List Call
  pub at : ℕ
  pub after : List Call
  pub until : ℕ
  pub whole : calls ≡ before ++ Tick at ∷ after
  pub sent : is_some (sent_at at (after_calls before p)) ≡ true
  pub asked : until ≡ until_by (question (after_call (Tick at) (after_calls before p)).bus) (after_call (Tick at) (after_calls before p))
  pub ticked : max (after_calls before p).bus.greatest at ≤ until
  pub written : max (after_calls calls p).bus.greatest now ≤ until

abbrev pub GivesInTime : Type 0
GivesInTime = (config : BusConfig) (calls : List Call) (now : ℕ) (burst : List ℕ)
    → written now burst (after_calls calls (new_panel config)) ≢ [] → IsInTime calls now (new_panel config)
