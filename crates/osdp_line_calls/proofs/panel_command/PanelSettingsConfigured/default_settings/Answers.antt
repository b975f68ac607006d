use Rattle.osdp_line_calls.proofs.Common.{ap, arith, subst, sym, ◌∙◌, Crc}
use Rattle.osdp_bus.specs.Settings.{IsBusConfig, default_config}
use Rattle.osdp_line_calls.proofs.Ranges.{bus_in_range}
use Rattle.osdp_line_calls.proofs.panel_command.PanelSettingsConfigured.default_settings.Goals as goal

pub returns-clause-range : goal.returns-clause-range
returns-clause-range c = subst IsBusConfig (sym (c.new.ensures ∙ ap (default_config Crc) (c.of.ensures.room (omega arith)))) bus_in_range
