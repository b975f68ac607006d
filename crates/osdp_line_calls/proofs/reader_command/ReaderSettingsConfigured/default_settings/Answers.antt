use Rattle.std.proofs.Common.{subst, sym}
use Rattle.osdp_line_calls.specs.ReaderSettings.{AreInRange}
use Rattle.osdp_line_calls.proofs.Ranges.{reader_in_range}
use Rattle.osdp_line_calls.proofs.reader_command.ReaderSettingsConfigured.default_settings.Goals as goal

pub returns-clause-range : goal.returns-clause-range
returns-clause-range c = subst AreInRange (sym c.default_settings.ensures) reader_in_range
