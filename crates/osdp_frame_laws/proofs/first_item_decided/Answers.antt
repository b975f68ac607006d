use Rattle.osdp_frame.proofs.Decided.{first_decided, decided_first, undecided_none, none_undecided}
use Rattle.osdp_frame_laws.proofs.first_item_decided.Goals as goal

pub returns-clause-some : goal.returns-clause-some
returns-clause-some c = λ ended bytes part fits. (
  λ is. first_decided ended bytes part fits is,
  λ first. decided_first ended bytes part fits first,
)

pub returns-clause-none : goal.returns-clause-none
returns-clause-none c = λ ended bytes fits. (
  λ is. undecided_none ended bytes is,
  λ wants. none_undecided ended bytes fits wants,
)
