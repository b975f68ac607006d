use Rattle.osdp_device.proofs.Pieces.{all_read, fewer_turns, takes_in_turn}
use Rattle.osdp_device.proofs.laws.takes_in_turn.Goals as goal

pub returns-clause-fewer : goal.returns-clause-fewer
returns-clause-fewer g c = λ bytes now r l is all fits some. fewer_turns g.H.Handler.answer_of g.H.Handler.after bytes now r l is all fits some

pub returns-clause-read : goal.returns-clause-read
returns-clause-read g c = λ r l is. all_read g.H.Handler.answer_of g.H.Handler.after r l is

pub returns-clause-whole : goal.returns-clause-whole
returns-clause-whole g c = λ bytes now r l is all fits. takes_in_turn g.H.Handler.answer_of g.H.Handler.after bytes now r l is all fits
