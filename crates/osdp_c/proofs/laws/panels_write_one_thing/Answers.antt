use Rattle.osdp_c.proofs.OneAnswer.{deadlines_are_told, one_burst}
use Rattle.osdp_c.proofs.laws.panels_write_one_thing.Goals as goal

pub returns-clause-bursts : goal.returns-clause-bursts
returns-clause-bursts c = one_burst

pub returns-clause-deadlines : goal.returns-clause-deadlines
returns-clause-deadlines c = deadlines_are_told
