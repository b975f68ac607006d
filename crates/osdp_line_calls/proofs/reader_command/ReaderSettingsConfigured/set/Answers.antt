use Rattle.std.proofs.Common.{sym, ◌∙◌}
use Rattle.osdp_line_calls.proofs.Ranges.{put_in_range}
use Rattle.osdp_line_calls.proofs.reader_command.ReaderSettingsConfigured.set.Goals as goal

pub returns-clause-range : goal.returns-clause-range
returns-clause-range c = λ next fits is h. put_in_range c.args.setting c.args.self next fits (sym c.set.ensures ∙ is) h
