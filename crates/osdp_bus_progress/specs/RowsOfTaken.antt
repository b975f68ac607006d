-- What is taken and not yet settled, over the link of a script with one reader.
use Rattle.std.specs.Prelude.{◌≡◌, All, List, [], ◌∷◌, Ok}
use Rattle.osdp_msg.specs.declared.command.Command.{Command}
use Rattle.osdp_msg.specs.declared.reply.Reply.{Reply}
use Rattle.osdp_msg.specs.declared.reply.Reply.TheVariants.{Ack}
use Rattle.osdp_script.specs.Handler.{handler_after, handler_answer, new_handler}
use Rattle.osdp_sim.specs.Account.{lists_of}
use Rattle.osdp_sim.specs.declared.account.Account as declared
use Rattle.osdp_sim.specs.declared.step.SimStep.{SimStep}
use Rattle.osdp_sim_laws.specs.Accounts.{IsAnswer, IsInSession}
use Rattle.osdp_bus_progress.specs.RowsOfRounds.{buz, config, out}

-- whatever is lost in one session: where an OUT and a BUZ were taken, the OUT was settled by ACK
abbrev pub OfTwoTakenOneIsSettled : Type 0
OfTwoTakenOneIsSettled = (steps : List SimStep) (account : declared.Account) → IsAnswer handler_answer handler_after config new_handler steps (Ok account)
    → All IsInSession steps → (lists_of account).taken ≡ out ∷ buz ∷ []
    → (rest : List (Command × Reply)) × ((lists_of account).settled ≡ (out, Ack) ∷ rest)
