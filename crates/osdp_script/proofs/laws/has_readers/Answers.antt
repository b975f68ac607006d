use Rattle.osdp_script.proofs.Settings.{readers_named}
use Rattle.osdp_script.proofs.laws.has_readers.Goals as goal

pub returns : goal.returns
returns c = readers_named
