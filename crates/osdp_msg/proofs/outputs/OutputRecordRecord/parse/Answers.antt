use Rattle.osdp_msg.proofs.Common.{refl, AreWithin, numbers, OutputFits, output_word}
use Rattle.osdp_msg.proofs.RecordTexts.{word_made}
use Rattle.osdp_msg.proofs.RecordWordRows.{output_from, output_limits, output_made, output_numbers}
use Rattle.osdp_msg.proofs.outputs.OutputRecordRecord.parse.Goals as goal

pub returns-in_err-output : goal.returns-in_err-output
returns-in_err-output c = word_made numbers (AreWithin output_limits) output_word OutputFits output_from output_numbers output_made _ _ _ c.in_err-output.ensures c.from_residual.ensures

pub returns : goal.returns
returns c = word_made numbers (AreWithin output_limits) output_word OutputFits output_from output_numbers output_made _ _ _ c.in_ok-output.ensures refl
