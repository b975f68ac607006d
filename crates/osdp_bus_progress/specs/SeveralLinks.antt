-- What the laws of progress stand on: the moves of a schedule, the theory of one link and of several, progress of one link and its ledger.
use Rattle.osdp_msg.specs.declared.command.Command.{Command}
use Rattle.osdp_controller_laws.specs.Calls.{ComesDue, StaysInRange}
use Rattle.osdp_reader.specs.declared.handler.Answer.{Answer}
use Rattle.osdp_link_laws.specs.Addresses.{StayWhereTheyAre}
use Rattle.osdp_link_laws.specs.Peers.{ReadsWhatIsAsked}
use Rattle.osdp_link_laws.specs.Progress.{ComesThroughFromRest, ComesThroughInTime, ComesToRest, ForgetsNone}
use Rattle.osdp_shared_line.specs.Runs.{EachIsALink}
use Rattle.osdp_sim_bus.specs.Laws.{HasAnAccountEach}
use Rattle.osdp_sim_laws.specs.OneLink.{KeepsLedger, ReadsPackets}
use Rattle.osdp_sim_bus_laws.specs.Moves.{SchedulesAreMoves}

module _ {H : Type 0} (answer_of : H → Command → Answer) (after : H → Command → H) where
  -- of one link
  pub record LinkLaws : Type 0 where
    pub known : ReadsWhatIsAsked
    pub rests : ComesToRest answer_of after
    pub in_time : ComesThroughInTime answer_of after
    pub from_rest : ComesThroughFromRest answer_of after
    pub forgets : ForgetsNone answer_of after
    pub stays : StayWhereTheyAre answer_of after

  -- of several links, with the premises on what one link does
  pub record SeveralLinks : Type 0 where
    pub reads : ReadsPackets
    pub schedules : SchedulesAreMoves answer_of after
    pub counts : HasAnAccountEach answer_of after
    pub links : EachIsALink answer_of after
    pub laws : LinkLaws
    pub ledger : KeepsLedger answer_of after
    pub ranges : StaysInRange
    pub comes : ComesDue
