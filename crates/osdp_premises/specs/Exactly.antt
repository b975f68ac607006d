-- When the premises on the calls of a line in use hold: exactly where these tests say so.
use Rattle.std.specs.Prelude.{◌≡◌, true, List, [], ◌∷◌}
use Rattle.std.specs.Bool.{Decides}
use Rattle.osdp_msg.specs.declared.command.Command.{Command}
use Rattle.osdp_reader.specs.declared.handler.Answer.{Answer}
use Rattle.osdp_calls.specs.Calls.{Step, after_call}
use Rattle.osdp_calls.specs.Lines.{InUse}
use Rattle.osdp_calls.specs.Premises.{Addresses, AllKeep, InOrder, InRange, QuietOpening}
use Rattle.osdp_premises.specs.Deciding.{are_fair, has_addresses, is_in_order, is_quiet}

-- each of the three premises, of each call and each line
pub record PremisesAreExact (H : Type 0) : Type 0 where
  pub order : (step : Step H) (l : InUse H) → Decides (is_in_order step.call step.places l) (InOrder step.call step.places l)
  pub quiet : (step : Step H) (l : InUse H) → Decides (is_quiet step.call step.places l) (QuietOpening step.call step.places l)
  pub addresses : (step : Step H) (l : InUse H) → Decides (has_addresses step.call l) (Addresses step.call l)

module _ {H : Type 0} (answer_of : H → Command → Answer) (after : H → Command → H) where
  -- values are in their ranges, at each call of a list
  abbrev pub AllInRange : List (Step H) → InUse H → Type 0
  AllInRange [] l = Unit {0}
  AllInRange (step ∷ steps) l =
      InRange answer_of after step.call l × AllInRange steps (after_call answer_of after step.call step.places l)

  -- So a list of calls keeps all premises where each passes these tests, and has its values in their ranges.
  abbrev pub FairCallsKeep : Type 0
  FairCallsKeep = (steps : List (Step H)) (l : InUse H) → are_fair answer_of after steps l ≡ true → AllInRange steps l → AllKeep answer_of after steps l
