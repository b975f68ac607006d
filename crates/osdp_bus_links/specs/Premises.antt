-- What a bus sees to by itself: where nobody restarts, nothing is withdrawn or lapses, and no address is set but by COMSETs, no address is given
-- where another device may come.
use Rattle.std.specs.Prelude.{◌≡◌, ℕ, All, List, [], ◌∷◌, Some, None}
use Rattle.osdp_msg.specs.CommandTable.{CommandFits}
use Rattle.osdp_msg.specs.declared.command.Command.{Command}
use Rattle.osdp_reader.specs.declared.handler.Answer.{Answer}
use Rattle.osdp_link_laws.specs.Beginning.{SaysWhatFitsIf}
use Rattle.osdp_shared_line.specs.Addresses.{IsSetUp, NetMovesFit, in_front}
use Rattle.osdp_shared_line.specs.Line.{LoseToPanel, LoseToReader, Net, NetMove, Queue, Reopen, RestartPanel, RestartReader, Retarget, SetBusy, SetHandler, Site, Submit, Tick, ToPanel, ToReader, Withdraw, LapseEvent, WithdrawEvent, after_net, site_at}
use Rattle.osdp_shared_line.specs.Views.{OpensQuietly}

module _ {H : Type 0} where
  -- a move of a schedule: nothing is withdrawn or lapses, no address is set but by a COMSET, nobody restarts, no device is changed, and nothing is
  -- lost out of the middle
  abbrev pub IsScheduled : NetMove H → Type 0
  IsScheduled (SetHandler k handler) = ⊥
  IsScheduled (Withdraw k) = ⊥
  IsScheduled (WithdrawEvent k) = ⊥
  IsScheduled (LapseEvent k) = ⊥
  IsScheduled (Retarget k address) = ⊥
  IsScheduled (LoseToReader k place) = ⊥
  IsScheduled (LoseToPanel place) = ⊥
  IsScheduled (RestartReader k config handler room) = ⊥
  IsScheduled (RestartPanel settings) = ⊥
  IsScheduled (Submit k command) = Unit {0}
  IsScheduled (Queue k event) = Unit {0}
  IsScheduled (SetBusy k busy) = Unit {0}
  IsScheduled (Tick k now) = Unit {0}
  IsScheduled (ToReader k how) = Unit {0}
  IsScheduled (ToPanel how now) = Unit {0}
  IsScheduled (Reopen k now) = Unit {0}

  -- no address is kept for a COMSET yet, and no device stores a reply of sessions before
  pub record NothingIsKept (n : Net H) : Type 0 where
    pub addresses : (k : ℕ) (s : Site H) → site_at k n.sites ≡ Some s → s.reserved ≡ None
    pub replies : (k : ℕ) (s : Site H) → site_at k n.sites ≡ Some s → s.reader.stored ≡ None

  module _ (answer_of : H → Command → Answer) (after : H → Command → H) where
    -- what is asked beside addresses: fields are in their ranges, and sessions begin again on a quiet line
    abbrev pub OthersFit : NetMove H → Net H → Type 0
    OthersFit (Submit k command) n = CommandFits command
    OthersFit (ToReader k how) n =
        (s : Site H) → site_at k n.sites ≡ Some s → SaysWhatFitsIf answer_of after how (in_front s.coming) s.reader
    OthersFit move n = OpensQuietly move n

    -- this is so of each of these moves, at the line that the moves before it have come to
    abbrev pub AllOthersFit : List (NetMove H) → Net H → Type 0
    AllOthersFit [] n = Unit {0}
    AllOthersFit (move ∷ moves) n = OthersFit move n × AllOthersFit moves (after_net answer_of after move n)

    -- where it is so of moves of a schedule, from a line that is set up, all premises of the line hold of them
    abbrev pub BusSuffices : Type 0
    BusSuffices = (n : Net H) (moves : List (NetMove H)) → IsSetUp n → NothingIsKept n → All IsScheduled moves → AllOthersFit moves n
        → NetMovesFit answer_of after moves n
