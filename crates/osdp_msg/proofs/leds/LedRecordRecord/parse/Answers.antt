use Rattle.osdp_msg.proofs.Common.{refl, AreWithin, numbers, LedFits, led_word}
use Rattle.osdp_msg.proofs.RecordTexts.{word_made}
use Rattle.osdp_msg.proofs.RecordWordRows.{led_from, led_limits, led_made, led_numbers}
use Rattle.osdp_msg.proofs.leds.LedRecordRecord.parse.Goals as goal

pub returns-in_err-numbers : goal.returns-in_err-numbers
returns-in_err-numbers c = word_made numbers (AreWithin led_limits) led_word LedFits led_from led_numbers led_made _ _ _ c.in_err-numbers.ensures c.from_residual.ensures

pub returns : goal.returns
returns c = word_made numbers (AreWithin led_limits) led_word LedFits led_from led_numbers led_made _ _ _ c.in_ok-numbers.ensures refl
