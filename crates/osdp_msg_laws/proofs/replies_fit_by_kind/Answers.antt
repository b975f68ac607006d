use Rattle.osdp_msg_laws.proofs.OtherLaws.{fits_by_kind}
use Rattle.osdp_msg_laws.proofs.replies_fit_by_kind.Goals as goal

pub returns : goal.returns
returns c = fits_by_kind
