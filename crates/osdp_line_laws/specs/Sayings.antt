-- What a line says: one call, or none.
use Rattle.std.specs.Prelude.{◌↔◌, ℕ, List, Some, None}
use Rattle.osdp_line_calls.specs.Calls.{IsSaid}
use Rattle.osdp_line_calls.specs.declared.panel_call.PanelCall.{PanelCall}
use Rattle.osdp_line_calls.specs.declared.reader_call.ReaderCall.{ReaderCall}
use Rattle.osdp_line_calls.specs.PanelCalls as to_panel
use Rattle.osdp_line_calls.specs.ReaderCalls as to_device

-- a line is counted as no call exactly where it says none
pub record SaysACallOrNone : Type 0 where
  pub panel : (line : List ℕ)
      → IsSaid to_panel.call_words to_panel.CallFits line None
      ↔ ((call : PanelCall) → IsSaid to_panel.call_words to_panel.CallFits line (Some call) → ⊥)
  pub device : (line : List ℕ)
      → IsSaid to_device.call_words to_device.CallFits line None
      ↔ ((call : ReaderCall) → IsSaid to_device.call_words to_device.CallFits line (Some call) → ⊥)
