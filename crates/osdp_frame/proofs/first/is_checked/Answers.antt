use Rattle.osdp_frame.proofs.first.is_checked.Goals as goal

pub returns : goal.returns
returns c = cc
