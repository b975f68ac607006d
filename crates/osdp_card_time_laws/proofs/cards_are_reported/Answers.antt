use Rattle.osdp_card_time_laws.proofs.Common.{new_bus, after_calls, always_well}
use Rattle.osdp_card_time_laws.proofs.Figures.{cards_by_figures}
use Rattle.osdp_card_time_laws.proofs.Reported.{cards_are_reported, cards_in_time}
use Rattle.osdp_card_time_laws.proofs.cards_are_reported.Goals as goal

pub returns : goal.returns
returns c = record {
  turns = λ config calls is. cards_are_reported (after_calls calls (new_bus config)) (always_well config calls is);
  figures = λ config calls is. cards_by_figures (after_calls calls (new_bus config)) (always_well config calls is);
  answered = λ config calls is. cards_in_time (after_calls calls (new_bus config)) (always_well config calls is);
}
