-- The addresses of several sites: what their program makes sure of when it gives one, and that nobody else hears what a site says.
use Rattle.std.specs.Prelude.{◌≡◌, ◌≢◌, ◌⊎◌, ℕ, true, All, List, [], ◌∷◌, Option, Some, None, Result, Ok, Err}
use Rattle.osdp_frame.specs.Packet.{Packet}
use Rattle.osdp_msg.specs.CommandTable.{CommandFits}
use Rattle.osdp_msg.specs.declared.command.Command.{Command}
use Rattle.osdp_msg.specs.declared.command_fields.Communication.{Communication}
use Rattle.osdp_msg.specs.declared.fault.MsgFault.{MsgFault}
use Rattle.osdp_controller.specs.Hearing.{comset_of}
use Rattle.osdp_controller.specs.Machine.{AreSettings}
use Rattle.osdp_reader.specs.Table.{command_in, new_address}
use Rattle.osdp_reader.specs.declared.handler.Answer.{Answer}
use Rattle.osdp_reader_laws.specs.Storing.{StoresItsOwn}
use Rattle.osdp_link_laws.specs.Ahead.{ahead}
use Rattle.osdp_link_laws.specs.Beginning.{Begins, MoveFits, SaysWhatFitsIf}
use Rattle.osdp_link_laws.specs.Link as link
use Rattle.osdp_link_laws.specs.Progress.{NoComset}
use Rattle.osdp_shared_line.specs.Line.{LoseToPanel, LoseToReader, Net, NetMove, Queue, Reopen, RestartPanel, RestartReader, Retarget, SetBusy, SetHandler, Site, Submit, Tick, ToPanel, ToReader, Withdraw, LapseEvent, WithdrawEvent, address_of, after_net, is_command_accepted, is_retarget_accepted, restarts, run, site_at}
use Rattle.osdp_shared_line.specs.Views.{HeardByOwn, OpensQuietly, view}

-- one of a list
abbrev pub Somewhere : {A : Type 0} → (A → Type 0) → List A → Type 0
Somewhere P [] = ⊥
Somewhere P (x ∷ xs) = P x ⊎ Somewhere P xs

-- ---- COMSETs to a device's address

abbrev pub Sets : ℕ → Command → Type 0
Sets to command = new_address command ≡ Some to

abbrev pub address_in : Result Command MsgFault → Option ℕ
address_in (Ok command) = new_address command
address_in (Err fault) = None

-- a packet that is one: a reader that hears it goes there
abbrev pub SetsReader : ℕ → Packet → Type 0
SetsReader to p = address_in (command_in p) ≡ Some to

-- what takes the reader of this place to another address stands after all that others said to that address: none of them is left once it
-- is read
abbrev pub IsInOrder : ℕ → List (ℕ × Packet) → Type 0
IsInOrder k [] = Unit {0}
IsInOrder k (p ∷ ps) =
    All (λ (q : ℕ × Packet). p.0 ≡ k → q.0 ≢ k → (to : ℕ) → SetsReader to p.1 → q.1.address ≢ to) ps × IsInOrder k ps

-- the packet in front, whoever sent it
abbrev pub in_front : List (ℕ × Packet) → List Packet
in_front [] = []
in_front (p ∷ ps) = p.1 ∷ []

module _ {H : Type 0} where
  -- ---- the addresses of a site

  -- the commands of its user that have not ended: the one that is outstanding, and those that wait
  abbrev pub unended : Site H → List Command
  unended s = ahead s.controller

  -- where its reader is, or where a COMSET that it has not read may take it: one that has not ended, or one that was said
  pub data MayComeTo (address k : ℕ) (s : Site H) : Type 0 where
    IsThere : s.reader.config.address ≡ address → MayComeTo address k s
    IsAsked : Somewhere (Sets address) (unended s) → MayComeTo address k s
    IsSaid : Somewhere (λ (q : ℕ × Packet). (q.0 ≡ k) × SetsReader address q.1) s.coming → MayComeTo address k s

  -- an address of the site at this place: its controller's, or one where its reader may come
  abbrev pub IsNameOf : ℕ → ℕ → Site H → Type 0
  IsNameOf address k s = (address_of s ≡ address) ⊎ MayComeTo address k s

  -- none is an address of two sites
  abbrev pub AreApart : List (Site H) → Type 0
  AreApart ss = (j k : ℕ) (s t : Site H) → j ≢ k → site_at j ss ≡ Some s → site_at k ss ≡ Some t
      → (address : ℕ) → IsNameOf address j s → IsNameOf address k t → ⊥

  -- none is an address of two sites; nobody else hears what a site says; and no COMSET takes a reader to where it would
  pub record IsHeardByNobodyElse (n : Net H) : Type 0 where
    pub addresses : AreApart n.sites
    pub heard : HeardByOwn n
    pub order : (k : ℕ) (s : Site H) → site_at k n.sites ≡ Some s → IsInOrder k s.coming

  -- ---- what a program makes sure of

  -- no other reader may come to the address
  abbrev pub HasNoOther : ℕ → ℕ → Net H → Type 0
  HasNoOther k address n = (j : ℕ) (t : Site H) → j ≢ k → site_at j n.sites ≡ Some t → MayComeTo address j t → ⊥

  -- it is no address of another site, and what others said to it this site's reader reads no more
  pub record IsFreeFor (k address : ℕ) (s : Site H) (n : Net H) : Type 0 where
    pub others : (j : ℕ) (t : Site H) → j ≢ k → site_at j n.sites ≡ Some t → IsNameOf address j t → ⊥
    pub coming : All (λ (q : ℕ × Packet). q.0 ≢ k → q.1.address ≢ address) s.coming

  -- Nothing is on the line, the controllers are at different addresses, each with its reader, and begin their first session. A reader may have
  -- had sessions before, and store a reply of theirs.
  pub record IsSetUp (n : Net H) : Type 0 where
    pub coming : (k : ℕ) (s : Site H) → site_at k n.sites ≡ Some s → s.coming ≡ []
    pub to_panel : n.to_panel ≡ []
    pub begins : (k : ℕ) (s : Site H) → site_at k n.sites ≡ Some s → Begins (view k s n)
    pub together : (k : ℕ) (s : Site H) → site_at k n.sites ≡ Some s → s.reader.config.address ≡ address_of s
    pub stored : (k : ℕ) (s : Site H) → site_at k n.sites ≡ Some s → StoresItsOwn s.reader
    pub waiting : (k : ℕ) (s : Site H) → site_at k n.sites ≡ Some s → All NoComset s.controller.waiting
    pub apart : (j k : ℕ) (s t : Site H) → j ≢ k → site_at j n.sites ≡ Some s → site_at k n.sites ≡ Some t → address_of s ≢ address_of t

  module _ (answer_of : H → Command → Answer) (after : H → Command → H) where
    -- A command's fields are in their ranges, and so are those of what a reader says anew. An address is given by a COMSET or by `Retarget`,
    -- where it is accepted, or by a restart, and no other reader may come there. That it is no other controller's the bus sees to by itself
    -- where it takes a COMSET or a `Retarget`; a restart asks for it too. Nothing is asked of a reader that restarts where it is. Sessions
    -- begin again on a quiet line.
    abbrev pub NetMoveFits : NetMove H → Net H → Type 0
    NetMoveFits (Submit k command) n =
        CommandFits command
        × ((s : Site H) (asked : Communication) → site_at k n.sites ≡ Some s → is_command_accepted k command s n.sites ≡ true
        → comset_of command ≡ Some asked → HasNoOther k asked.address n)
    NetMoveFits (Queue k event) n = Unit {0}
    NetMoveFits (SetBusy k busy) n = Unit {0}
    NetMoveFits (WithdrawEvent k) n = Unit {0}
    NetMoveFits (LapseEvent k) n = Unit {0}
    NetMoveFits (SetHandler k handler) n = Unit {0}
    NetMoveFits (Withdraw k) n = Unit {0}
    NetMoveFits (Retarget k address) n =
        (s : Site H) → site_at k n.sites ≡ Some s → is_retarget_accepted k address s n.sites ≡ true → HasNoOther k address n
    NetMoveFits (Tick k now) n = Unit {0}
    NetMoveFits (ToReader k how) n =
        (s : Site H) → site_at k n.sites ≡ Some s → SaysWhatFitsIf answer_of after how (in_front s.coming) s.reader
    NetMoveFits (ToPanel how now) n = Unit {0}
    NetMoveFits (LoseToReader k place) n = Unit {0}
    NetMoveFits (LoseToPanel place) n = Unit {0}
    NetMoveFits (Reopen k now) n = OpensQuietly (Reopen k now) n
    NetMoveFits (RestartReader k config handler room) n =
        (s : Site H) → site_at k n.sites ≡ Some s
        → MoveFits answer_of after (link.RestartReader config handler room) (view k s n)
        × ((s.reader.config.address ≡ config.address) ⊎ IsFreeFor k config.address s n)
    NetMoveFits (RestartPanel settings) n =
        (k : ℕ) (s : Site H) → site_at k n.sites ≡ Some s
        → AreSettings (settings k).0 (settings k).1.messages (settings k).1.bytes
        × ((j : ℕ) (t : Site H) → j ≢ k → site_at j n.sites ≡ Some t
        → IsNameOf (settings k).0.address j (restarts answer_of after (settings j) t) → ⊥)

    abbrev pub NetMovesFit : List (NetMove H) → Net H → Type 0
    NetMovesFit [] n = Unit {0}
    NetMovesFit (move ∷ moves) n = NetMoveFits move n × NetMovesFit moves (after_net answer_of after move n)

    -- ---- nobody else hears, whatever happens

    abbrev pub NobodyElseHears : Type 0
    NobodyElseHears = (n : Net H) (moves : List (NetMove H)) → IsSetUp n → NetMovesFit moves n
        → IsHeardByNobodyElse (run answer_of after moves n)

    -- no two devices are ever at one address
    abbrev pub NoTwoAreTogether : Type 0
    NoTwoAreTogether = (n : Net H) (moves : List (NetMove H)) → IsSetUp n → NetMovesFit moves n
        → (j k : ℕ) (s t : Site H) → j ≢ k → site_at j (run answer_of after moves n).sites ≡ Some s
        → site_at k (run answer_of after moves n).sites ≡ Some t → s.reader.config.address ≢ t.reader.config.address
