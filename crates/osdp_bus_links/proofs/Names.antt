-- The addresses of a link beside others on the line: those of its ends, and that of a COMSET under way.
use Rattle.osdp_bus_links.proofs.Common.{◌≡◌, ◌≢◌, ◌⊎◌, ◌<◌, ℕ, List, [], ◌∷◌, Option, Some, None, Ok, All, Packet, Command, Communication, said_by, comset_of, Plain, ControllerFault, Report, command_in, new_address, Answer, Begins, NoComset, told_by, each_map, Each}
use Rattle.osdp_msg.specs.declared.reply.Reply.TheVariants as reply
use Rattle.osdp_controller.specs.Machine.{submit_refusal}
use Rattle.osdp_controller.specs.declared.report.Report.TheVariants as report
use Rattle.osdp_link_laws.specs.Link as link
use Rattle.osdp_link_laws.specs.Link.{Link, Move, Submit, after_move}
use Rattle.osdp_link_laws.specs.Ordinary.{IsSteady}

-- a COMSET that sends the reader that it names to another address
pub record MovesReader (to : ℕ) (p : Packet) : Type 0 where
  pub command : Command
  pub read : command_in p ≡ Ok command
  pub sets : new_address command ≡ Some to
  pub other : to ≢ p.address

-- the COM that sends the controller of the reader that it names to another address
pub record MovesController (to : ℕ) (p : Packet) : Type 0 where
  pub answered : Communication
  pub read : said_by p ≡ Plain (reply.Com answered)
  pub sets : answered.address ≡ to
  pub device : to < 127
  pub other : to ≢ p.address

-- ---- the address of a COMSET under way

-- it is kept for this link from the moment when the COMSET is accepted ..
abbrev pub asked_for : Option Communication → Option ℕ → Option ℕ
asked_for None reserved = reserved
asked_for (Some asked) reserved = Some asked.address

abbrev pub accepted_for : Option ControllerFault → Command → Option ℕ → Option ℕ
accepted_for None command reserved = asked_for (comset_of command) reserved
accepted_for (Some fault) command reserved = reserved

-- .. until it is told settled or moved; where it is lost the reader may be there or not
abbrev pub freed_for : Option Communication → Option ℕ → Option ℕ
freed_for None reserved = reserved
freed_for (Some asked) reserved = None

abbrev pub freed_by : Option Report → Option ℕ → Option ℕ
freed_by (Some (report.Settled command answer)) reserved = freed_for (comset_of command) reserved
freed_by (Some (report.Moved command answered)) reserved = freed_for (comset_of command) reserved
freed_by _ reserved = reserved

-- no second COMSET is submitted meanwhile
abbrev pub MayAsk : Option Communication → Option ℕ → Type 0
MayAsk None reserved = Unit {0}
MayAsk (Some asked) reserved = reserved ≡ None

-- an address of this link: its controller's, or that of the COMSET
abbrev pub IsName : ℕ → Option ℕ → ℕ → Type 0
IsName here reserved address = (address ≡ here) ⊎ (reserved ≡ Some address)

module _ {H : Type 0} where
  -- a move that a schedule comes to for one link
  abbrev pub IsUsual : Move H → Type 0
  IsUsual (link.SetHandler handler) = ⊥
  IsUsual link.Withdraw = ⊥
  IsUsual link.WithdrawEvent = ⊥
  IsUsual link.LapseEvent = ⊥
  IsUsual (link.Retarget address) = ⊥
  IsUsual (link.RestartReader config handler room) = ⊥
  IsUsual (link.RestartController config room) = ⊥
  IsUsual (link.LoseToReader place) = ⊥
  IsUsual (link.LoseToController place) = ⊥
  IsUsual _ = Unit {0}

  usual_steady : (m : Move H) → IsUsual m → IsSteady m
  usual_steady (link.SetHandler handler) usual = absurd usual
  usual_steady link.Withdraw usual = absurd usual
  usual_steady link.WithdrawEvent usual = absurd usual
  usual_steady link.LapseEvent usual = absurd usual
  usual_steady (link.Retarget address) usual = absurd usual
  usual_steady (link.RestartReader config handler room) usual = absurd usual
  usual_steady (link.RestartController config room) usual = absurd usual
  usual_steady (link.LoseToReader place) usual = absurd usual
  usual_steady (link.LoseToController place) usual = absurd usual
  usual_steady m usual = tt

  pub are_steady : (ms : List (Move H)) → Each IsUsual ms → Each IsSteady ms
  are_steady ms usual = each_map IsUsual IsSteady usual_steady ms usual

  -- .. of moves in which nobody restarts, nothing is withdrawn or lapses, and no address is set
  abbrev pub reserved_after : Move H → Link H → Option ℕ → Option ℕ
  reserved_after (Submit command) l reserved = accepted_for (submit_refusal command l.controller) command reserved
  reserved_after move l reserved = freed_by (told_by move l) reserved

  abbrev pub MayMove : Move H → Option ℕ → Type 0
  MayMove (Submit command) reserved = MayAsk (comset_of command) reserved
  MayMove _ reserved = Unit {0}

  -- both ends begin at one address, with no COMSET and no reply of earlier times
  pub record BeginsTogether (l : Link H) : Type 0 where
    pub begins : Begins l
    pub together : l.reader.config.address ≡ l.controller.session.config.address
    pub stored : l.reader.stored ≡ None
    pub waiting : All NoComset l.controller.waiting

  module _ (answer_of : H → Command → Answer) (after : H → Command → H) where
    abbrev pub reserved_after_moves : List (Move H) → Link H → Option ℕ → Option ℕ
    reserved_after_moves [] l reserved = reserved
    reserved_after_moves (move ∷ moves) l reserved = reserved_after_moves moves (after_move answer_of after move l) (reserved_after move l reserved)

    abbrev pub MayMoves : List (Move H) → Link H → Option ℕ → Type 0
    MayMoves [] l reserved = Unit {0}
    MayMoves (move ∷ moves) l reserved = MayMove move reserved × MayMoves moves (after_move answer_of after move l) (reserved_after move l reserved)
