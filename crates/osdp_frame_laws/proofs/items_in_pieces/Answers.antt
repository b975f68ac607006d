use Rattle.osdp_frame_laws.proofs.Common.{false, left_over, undecided_none}
use Rattle.osdp_frame_laws.proofs.Readings.{items-append, left_undecided}
use Rattle.osdp_frame_laws.proofs.items_in_pieces.Goals as goal

pub returns-clause-items : goal.returns-clause-items
returns-clause-items c = λ ended bytes more fits. items-append ended bytes more fits

pub returns-clause-left : goal.returns-clause-left
returns-clause-left c = λ bytes fits. undecided_none false (left_over bytes) (left_undecided bytes fits)
