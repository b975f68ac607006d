use Rattle.osdp_script.proofs.Switching.{last_counts}
use Rattle.osdp_script.proofs.laws.last_record_counts.Goals as goal

pub returns : goal.returns
returns c = last_counts
