use Rattle.osdp_msg.proofs.Common.{◌^◌, CommunicationFits, communication_words}
use Rattle.osdp_msg.proofs.ParsedRows.{communication_from, communication_made, communication_parts}
use Rattle.osdp_msg.proofs.TakenParts.{IsBelow, number_words, two_no_back, two_no_front, two_whole}
use Rattle.osdp_msg.proofs.command_fields.Communication.parse.Goals as goal

pub returns-in_err-address : goal.returns-in_err-address
returns-in_err-address c =
    two_no_front number_words (IsBelow (2 ^ 8)) number_words (IsBelow (2 ^ 32)) communication_words CommunicationFits communication_from communication_parts communication_made _ _ _ c.in_err-address.ensures c.from_residual.ensures

pub returns-in_err-baud_rate : goal.returns-in_err-baud_rate
returns-in_err-baud_rate c =
    two_no_back number_words (IsBelow (2 ^ 8)) number_words (IsBelow (2 ^ 32)) communication_words CommunicationFits communication_from communication_parts communication_made _ _ _ _ _ c.in_ok-address.ensures c.in_err-baud_rate.ensures c.from_residual-in_err-baud_rate.ensures

pub returns : goal.returns
returns c =
    two_whole number_words (IsBelow (2 ^ 8)) number_words (IsBelow (2 ^ 32)) communication_words CommunicationFits communication_from communication_parts communication_made _ _ _ _ _ _ _ c.in_ok-address.ensures c.in_ok-baud_rate.ensures c.is_empty.ensures c.then_some.ensures
