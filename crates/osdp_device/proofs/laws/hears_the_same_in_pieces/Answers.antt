use Rattle.osdp_device.proofs.Pieces.{all_read_after, same_in_pieces}
use Rattle.osdp_device.proofs.laws.hears_the_same_in_pieces.Goals as goal

pub returns-clause-same : goal.returns-clause-same
returns-clause-same g c = λ xs ys now r l is all fits. same_in_pieces g.H.Handler.answer_of g.H.Handler.after xs ys now r l is all fits

pub returns-clause-read : goal.returns-clause-read
returns-clause-read g c = λ bytes now r l is all fits. all_read_after g.H.Handler.answer_of g.H.Handler.after bytes now r l is all fits
