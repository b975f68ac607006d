use Rattle.osdp_reader.specs.Table.{kind_of}
use Rattle.osdp_reader_laws.proofs.Settings.{outcome_settings}
use Rattle.osdp_reader_laws.proofs.changes_by_acting.Goals as goal

pub returns-clause-settings : goal.returns-clause-settings
returns-clause-settings g c r p = outcome_settings g.H.Handler.answer_of g.H.Handler.after (kind_of r p) r p
