-- The steps that are left of a script that is run.
use Rattle.std.specs.Prelude.{List, [], ◌∷◌, ◌++◌}
use Rattle.osdp_sim.specs.declared.step.Move.TheVariants.{Deliver}
use Rattle.osdp_sim.specs.declared.step.SimStep.{SimStep}
use Rattle.osdp_sim.specs.declared.step.SimStep.TheVariants as steps
use Rattle.osdp_sim.specs.Rounds.{rounds}
use Rattle.osdp_script.specs.declared.schedule.Phase.{Phase}
use Rattle.osdp_script.specs.declared.schedule.Phase.TheVariants.{Over, ToReader, ToController}
use Rattle.osdp_script.specs.declared.schedule.ScriptSteps.{ScriptSteps}
use Rattle.osdp_script.specs.Script.{lines_steps}

-- what is left of a round
abbrev pub round_left : Phase → List SimStep
round_left Over = []
round_left ToReader = steps.ToReader Deliver ∷ steps.ToController Deliver ∷ []
round_left ToController = steps.ToController Deliver ∷ []

-- the rest of a round, the rounds after it, and the lines after them
abbrev pub steps_left : ScriptSteps → List SimStep
steps_left s = round_left s.phase ++ (rounds s.rounds 50 ++ lines_steps s.rest)
