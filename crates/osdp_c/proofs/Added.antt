-- What adding a device comes to, by what the handle held.
use Rattle.osdp_c.proofs.Common.{◌≡◌, ℕ, Option, Some, Result, ◌∙◌, ap, subst, AddsTo, added_entry, added_status, number}
use Rattle.osdp_bus.specs.declared.fault.BusFault.{BusFault}
use Rattle.osdp_panel.specs.Panels.{AddEnds}
use Rattle.osdp_c_values.specs.declared.machine.PanelMachine.{PanelMachine}

pub added_in : (address next : ℕ) (m m' : PanelMachine) (r : Result ℕ BusFault) (held after : Option PanelMachine) (answer out out' : ℕ) → Some m ≡ held
    → AddEnds address next m.panel m'.panel r → m' ≡ record m { panel = m'.panel } → answer ≡ number (added_status r) → after ≡ Some m'
    → out' ≡ added_entry r out → AddsTo address next held answer after out out'
added_in address next m m' r held after answer out out' there ends same told left written =
    subst (λ (h : Option PanelMachine). AddsTo address next h answer after out out') there
    (r, m'.panel, ends, told, left ∙ ap (λ (x : PanelMachine). Some x) same, written)
