-- Rounds that lose nothing.
use Rattle.std.specs.Prelude.{ℕ, zero, suc, List, [], ◌∷◌, ◌++◌}
use Rattle.osdp_sim.specs.declared.step.Move.TheVariants.{Deliver}
use Rattle.osdp_sim.specs.declared.step.SimStep.{SimStep}
use Rattle.osdp_sim.specs.declared.step.SimStep.TheVariants.{ToController, ToReader, Wait}

-- a round that loses nothing: time passes, then the burst to the reader comes through, and the one to the controller
abbrev pub round : ℕ → List SimStep
round wait = Wait wait ∷ ToReader Deliver ∷ ToController Deliver ∷ []

abbrev pub rounds : ℕ → ℕ → List SimStep
rounds zero wait = []
rounds (suc m) wait = round wait ++ rounds m wait

-- the opening, and n rounds after it, in which nothing is lost
abbrev pub clean : ℕ → List SimStep
clean n = round 400 ++ rounds n 50
