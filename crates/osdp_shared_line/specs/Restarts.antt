-- Moves by which a device of a line never changes, or neither of its ends restarts; and a site whose reader never restarts refuses no number.
use Rattle.std.specs.Prelude.{◌≡◌, ◌≢◌, ℕ, All, List, Some}
use Rattle.osdp_msg.specs.declared.command.Command.{Command}
use Rattle.osdp_reader.specs.declared.handler.Answer.{Answer}
use Rattle.osdp_link_laws.specs.Refusals.{IsNoRefusal}
use Rattle.osdp_link_laws.specs.Reports.{reports}
use Rattle.osdp_shared_line.specs.Addresses.{IsSetUp, NetMovesFit}
use Rattle.osdp_shared_line.specs.Line.{Net, NetMove, RestartPanel, RestartReader, SetHandler, Site, Withdraw, LapseEvent, WithdrawEvent, site_at}
use Rattle.osdp_shared_line.specs.Runs.{moves_of}
use Rattle.osdp_shared_line.specs.Views.{view}

module _ {H : Type 0} where
  -- the reader of the site at this place doesn't restart
  abbrev pub KeepsReaderOf : ℕ → NetMove H → Type 0
  KeepsReaderOf k (RestartReader i config handler room) = i ≢ k
  KeepsReaderOf k _ = Unit {0}

  -- .. and its handler isn't set
  abbrev pub KeepsDeviceOf : ℕ → NetMove H → Type 0
  KeepsDeviceOf k (SetHandler i handler) = i ≢ k
  KeepsDeviceOf k (RestartReader i config handler room) = i ≢ k
  KeepsDeviceOf k _ = Unit {0}

  -- neither of its ends restarts, no command or event of it is withdrawn, and no event of it lapses
  abbrev pub IsOrdinaryOf : ℕ → NetMove H → Type 0
  IsOrdinaryOf k (Withdraw i) = i ≢ k
  IsOrdinaryOf k (WithdrawEvent i) = i ≢ k
  IsOrdinaryOf k (LapseEvent i) = i ≢ k
  IsOrdinaryOf k (RestartReader i config handler room) = i ≢ k
  IsOrdinaryOf k (RestartPanel settings) = ⊥
  IsOrdinaryOf k _ = Unit {0}

  module _ (answer_of : H → Command → Answer) (after : H → Command → H) where
    abbrev pub EachRefusesNoneWithoutRestart : Type 0
    EachRefusesNoneWithoutRestart = (n : Net H) (moves : List (NetMove H)) → IsSetUp n → NetMovesFit answer_of after moves n
        → (k : ℕ) (s : Site H) → site_at k n.sites ≡ Some s → All (KeepsReaderOf k) moves
        → All IsNoRefusal (reports answer_of after (moves_of answer_of after k moves n) (view k s n))
