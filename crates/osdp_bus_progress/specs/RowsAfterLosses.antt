-- A line that is cleared after a loss, and rounds without losses: over the link of a script with one reader, and over the bus of one with two.
use Rattle.std.specs.Prelude.{◌≡◌, List, [], ◌∷◌, ◌++◌, Ok, Some, slice_get}
use Rattle.std.specs.Global.{Vec}
use Rattle.osdp_bus.specs.Settings.{default_config}
use Rattle.osdp_bus.specs.declared.config.BusConfig.{BusConfig}
use Rattle.osdp_bus_progress.specs.Progress as buses
use Rattle.osdp_frame.specs.declared.check_kind.CheckKind.TheVariants.{Crc}
use Rattle.osdp_msg.specs.declared.reply.Reply.TheVariants.{Ack}
use Rattle.osdp_script.specs.Handler.{handler_after, handler_answer, new_handler}
use Rattle.osdp_script.specs.Identity.{script_config}
use Rattle.osdp_script.specs.declared.handler.ScriptReader.{ScriptReader}
use Rattle.osdp_sim.specs.Account.{Account, lists_of}
use Rattle.osdp_sim.specs.Rounds.{rounds}
use Rattle.osdp_sim.specs.State.{room_for}
use Rattle.osdp_sim.specs.declared.account.Account as declared
use Rattle.osdp_sim.specs.declared.step.Move.TheVariants.{Drop}
use Rattle.osdp_sim.specs.declared.step.SimStep.{SimStep}
use Rattle.osdp_sim.specs.declared.step.SimStep.TheVariants.{Issue, Queue, ToReader, Wait}
use Rattle.osdp_sim_bus.specs.Runs.{lists_of_all}
use Rattle.osdp_sim_bus.specs.State.{Given}
use Rattle.osdp_sim_bus_laws.specs.Accounts as accounts
use Rattle.osdp_sim_laws.specs.Accounts.{IsAnswer}
use Rattle.osdp_sim_laws.specs.Progress.{clear}
use Rattle.osdp_bus_progress.specs.RowsOfRounds.{buz, config, first_key, out}

-- an OUT, a BUZ and an event, of which nothing has come through; the first frame is lost
abbrev pub one_lost : List SimStep
one_lost = Issue 1 out ∷ Issue 1 buz ∷ Queue 1 first_key ∷ Wait 400 ∷ ToReader Drop ∷ []

-- what the row of one reader prints
pub record IsOfOne (a : Account) : Type 0 where
  pub issued : a.issued ≡ out ∷ buz ∷ []
  pub settled : a.settled ≡ (out, Ack) ∷ (buz, Ack) ∷ []
  pub queued : a.queued ≡ first_key ∷ []
  pub reported : a.reported ≡ first_key ∷ []

-- four rounds of 400 ms after it: the first opens the session, and each other brings one
abbrev pub FourRoundsBringThree : Type 0
FourRoundsBringThree = (account : declared.Account)
    → IsAnswer handler_answer handler_after config new_handler ((one_lost ++ clear one_lost) ++ rounds 4 400) (Ok account)
    → (lists_of account).ends ≡ [] → IsOfOne (lists_of account)

-- ---- two readers

-- the settings of `check crc`, `reader 5 4`, `reader 6 4`: those by default, and room for 64 commands
abbrev pub bus : BusConfig
bus = default_config Crc (room_for 64)

-- the readers of the row, at 5 and 6, each with room for 4 events
abbrev pub readers : List (Given ScriptReader)
readers = (script_config 1 5, 4, new_handler) ∷ (script_config 2 6, 4, new_handler) ∷ []

-- an OUT for the first reader, a BUZ and an event for the second; the first frame is lost
abbrev pub both_lost : List SimStep
both_lost = Issue 1 out ∷ Issue 2 buz ∷ Queue 2 first_key ∷ Wait 400 ∷ ToReader Drop ∷ []

-- what the row prints of the first reader
pub record IsOfFirst (a : Account) : Type 0 where
  pub issued : a.issued ≡ out ∷ []
  pub settled : a.settled ≡ (out, Ack) ∷ []
  pub queued : a.queued ≡ []
  pub reported : a.reported ≡ []

-- what the row prints of the second reader
pub record IsOfSecond (a : Account) : Type 0 where
  pub issued : a.issued ≡ buz ∷ []
  pub settled : a.settled ≡ (buz, Ack) ∷ []
  pub queued : a.queued ≡ first_key ∷ []
  pub reported : a.reported ≡ first_key ∷ []

-- six rounds of 400 ms after it, three for each reader: the first of each opens its session, and each other brings one
abbrev pub SixRoundsBringThreeOfTwo : Type 0
SixRoundsBringThreeOfTwo = (told : Vec declared.Account)
    → accounts.IsAnswer handler_answer handler_after bus readers ((both_lost ++ buses.clear 2 both_lost) ++ rounds 6 400) (Ok told)
    → (a b : Account) → slice_get (lists_of_all told.items) 0 ≡ Some a → slice_get (lists_of_all told.items) 1 ≡ Some b
    → a.ends ≡ [] → b.ends ≡ [] → IsOfFirst a × IsOfSecond b
