use Rattle.osdp_tool.proofs.JobLemmas.{ChoosesJobByWords-all}
use Rattle.osdp_tool.proofs.laws.words_choose_jobs.Goals as goal

pub returns : goal.returns
returns c = ChoosesJobByWords-all
