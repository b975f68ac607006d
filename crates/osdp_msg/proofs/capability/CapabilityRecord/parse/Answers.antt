use Rattle.osdp_msg.proofs.Common.{refl, AreWithin, numbers, CapabilityFits, capability_at, capability_data, capability_word}
use Rattle.osdp_msg.proofs.RecordTexts.{word_made}
use Rattle.osdp_msg.proofs.RecordWordRows.{capability_limits, capability_made}
use Rattle.osdp_msg.proofs.capability.CapabilityRecord.parse.Goals as goal

pub returns-in_err-function : goal.returns-in_err-function
returns-in_err-function c = word_made numbers (AreWithin capability_limits) capability_word CapabilityFits capability_at capability_data capability_made _ _ _ c.in_err-function.ensures c.from_residual.ensures

pub returns : goal.returns
returns c = word_made numbers (AreWithin capability_limits) capability_word CapabilityFits capability_at capability_data capability_made _ _ _ c.in_ok-function.ensures refl
