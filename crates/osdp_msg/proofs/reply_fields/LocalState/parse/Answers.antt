use Rattle.osdp_msg.proofs.Common.{refl, LocalStateFits, local_state_at, local_state_data, local_state_words}
use Rattle.osdp_msg.proofs.ParsedRows.{local_state_made}
use Rattle.osdp_msg.proofs.TakenParts.{AreNumbers, made_read, numbers_words}
use Rattle.osdp_msg.proofs.reply_fields.LocalState.parse.Goals as goal

pub returns-in_err-tamper : goal.returns-in_err-tamper
returns-in_err-tamper c = made_read numbers_words (AreNumbers 2) local_state_words LocalStateFits local_state_at local_state_data local_state_made _ _ _ c.in_err-tamper.ensures c.from_residual.ensures

pub returns : goal.returns
returns c = made_read numbers_words (AreNumbers 2) local_state_words LocalStateFits local_state_at local_state_data local_state_made _ _ _ c.in_ok-tamper.ensures refl
