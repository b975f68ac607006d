use Rattle.osdp_frame.proofs.Spelled.{same_beginning}
use Rattle.osdp_frame_laws.proofs.one_beginning.Goals as goal

pub returns : goal.returns
returns c = λ p q a b x y s t e. same_beginning p q a b x y s t e
