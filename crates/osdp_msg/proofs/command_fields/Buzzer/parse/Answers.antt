use Rattle.osdp_msg.proofs.Common.{refl, BuzzerFits, buzzer_at, buzzer_data, buzzer_words}
use Rattle.osdp_msg.proofs.ParsedRows.{buzzer_made}
use Rattle.osdp_msg.proofs.TakenParts.{AreNumbers, made_read, numbers_words}
use Rattle.osdp_msg.proofs.command_fields.Buzzer.parse.Goals as goal

pub returns-in_err-reader : goal.returns-in_err-reader
returns-in_err-reader c = made_read numbers_words (AreNumbers 5) buzzer_words BuzzerFits buzzer_at buzzer_data buzzer_made _ _ _ c.in_err-reader.ensures c.from_residual.ensures

pub returns : goal.returns
returns c = made_read numbers_words (AreNumbers 5) buzzer_words BuzzerFits buzzer_at buzzer_data buzzer_made _ _ _ c.in_ok-reader.ensures refl
