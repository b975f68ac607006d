-- A rule for programs. Until an entry's next session has opened, neither the address that a COMSET, a `Retarget` or a restart left nor the one
-- that it set goes to another entry; and `Retarget` is called for no other reason than to try one of them. Calls that are refused count for
-- nothing. A program that keeps to the rule gives no address where another device may come.
use Rattle.std.specs.Prelude.{◌≡◌, ◌≢◌, ◌&&◌, ℕ, Bool, true, false, ◌==◌, if◌then◌else◌, List, [], ◌∷◌, ◌++◌, Option, Some, None}
use Rattle.osdp_frame.specs.Packet.{Packet}
use Rattle.osdp_msg.specs.CommandTable.{CommandFits}
use Rattle.osdp_msg.specs.declared.command.Command.{Command}
use Rattle.osdp_msg.specs.declared.command_fields.Communication.{Communication}
use Rattle.osdp_controller.specs.Hearing.{comset_of, hears}
use Rattle.osdp_controller.specs.Machine.{AreSettings}
use Rattle.osdp_controller.specs.States.{is_closed}
use Rattle.osdp_controller.specs.declared.report.Report.{Report}
use Rattle.osdp_controller.specs.declared.report.Report.TheVariants as report
use Rattle.osdp_reader.specs.declared.handler.Answer.{Answer}
use Rattle.osdp_link_laws.specs.Beginning.{MoveFits}
use Rattle.osdp_link_laws.specs.Link as link
use Rattle.osdp_link_laws.specs.Link.{Delivered, Delivery, Lost, Repeated}
use Rattle.osdp_shared_line.specs.Addresses.{IsSetUp, NetMoveFits, NetMovesFit, Somewhere}
use Rattle.osdp_shared_line.specs.Line.{Net, NetMove, Reopen, RestartPanel, RestartReader, Retarget, Site, Submit, ToPanel, address_of, after_net, is_command_accepted, is_retarget_accepted, site_at}
use Rattle.osdp_shared_line.specs.Views.{view}

-- what a program notes of an entry: whether a session was begun that hasn't opened yet, and the addresses beside its controller's at which its
-- device may be
pub record Note : Type 0 where
  pub begun : Bool
  pub addresses : List ℕ

abbrev pub also_at : List ℕ → Note → Note
also_at more note = record note { addresses = more ++ note.addresses }

-- a COMSET: where the controller is, and where it asks the device to go
abbrev pub two_addresses : ℕ → Option Communication → List ℕ
two_addresses here None = []
two_addresses here (Some asked) = here ∷ asked.address ∷ []

-- of commands that wait
abbrev pub all_addresses : ℕ → List Command → List ℕ
all_addresses here [] = []
all_addresses here (command ∷ commands) = two_addresses here (comset_of command) ++ all_addresses here commands

abbrev pub is_opened : Option Report → Bool
is_opened (Some (report.Opened id)) = true
is_opened _ = false

-- the first sessions are begun, and nothing is noted
abbrev pub no_notes : ℕ → Note
no_notes j = record { begun = true; addresses = [] }

module _ {H : Type 0} where
  -- a session that was begun has opened: all is forgotten but COMSETs that wait
  abbrev pub noted_opened : Packet → ℕ → Site H → Note → Note
  noted_opened p now s note =
      if address_of s == p.address && is_opened (hears p now s.controller.session).report && note.begun
      then record { begun = false; addresses = all_addresses (address_of s) s.controller.waiting }
      else note

  abbrev pub noted_panel : List (ℕ × Packet) → Delivery → ℕ → Site H → Note → Note
  noted_panel [] how now s note = note
  noted_panel (p ∷ rest) Delivered now s note = noted_opened p.1 now s note
  noted_panel (p ∷ rest) Lost now s note = note
  noted_panel (p ∷ rest) Repeated now s note = noted_opened p.1 now s note

  -- what is noted of the site at this place after a move
  abbrev pub note_after : ℕ → Site H → NetMove H → Net H → Note → Note
  note_after j s (Submit k command) n note =
      if k == j && is_command_accepted k command s n.sites then also_at (two_addresses (address_of s) (comset_of command)) note else note
  note_after j s (Retarget k address) n note =
      if k == j && is_retarget_accepted k address s n.sites then also_at (address_of s ∷ []) note else note
  note_after j s (ToPanel how now) n note = noted_panel n.to_panel how now s note
  note_after j s (Reopen k now) n note =
      if k == j then (if is_closed s.controller.session.state then record note { begun = true } else note) else note
  note_after j s (RestartPanel settings) n note = also_at (address_of s ∷ []) note
  note_after j s _ n note = note

  abbrev pub noted_at : ℕ → Option (Site H) → NetMove H → Net H → Note → Note
  noted_at j None move n note = note
  noted_at j (Some s) move n note = note_after j s move n note

  abbrev pub notes_after : NetMove H → Net H → (ℕ → Note) → ℕ → Note
  notes_after move n notes j = noted_at j (site_at j n.sites) move n (notes j)

  -- an address of this entry, as the program knows it
  abbrev pub IsKnown : ℕ → Site H → Note → Type 0
  IsKnown address s note = Somewhere (λ a. a ≡ address) (address_of s ∷ note.addresses)

  -- a COMSET that is accepted goes to no address of another entry; a `Retarget` that is accepted and a restart of the panel set none but one
  -- of the own
  abbrev pub KeepsRule : NetMove H → Net H → (ℕ → Note) → Type 0
  KeepsRule (Submit k command) n notes =
      (s : Site H) (asked : Communication) → site_at k n.sites ≡ Some s → is_command_accepted k command s n.sites ≡ true
      → comset_of command ≡ Some asked
      → (j : ℕ) (t : Site H) → j ≢ k → site_at j n.sites ≡ Some t → IsKnown asked.address t (notes j) → ⊥
  KeepsRule (Retarget k address) n notes =
      (s : Site H) → site_at k n.sites ≡ Some s → is_retarget_accepted k address s n.sites ≡ true → IsKnown address s (notes k)
  KeepsRule (RestartPanel settings) n notes = (k : ℕ) (s : Site H) → site_at k n.sites ≡ Some s → IsKnown (settings k).0.address s (notes k)
  KeepsRule _ n notes = Unit {0}

  module _ (answer_of : H → Command → Answer) (after : H → Command → H) where
    -- what is asked beside addresses; readers restart where they are
    abbrev pub RestFits : NetMove H → Net H → Type 0
    RestFits (Submit k command) n = CommandFits command
    RestFits (Retarget k address) n = Unit {0}
    RestFits (RestartReader k config handler room) n =
        (s : Site H) → site_at k n.sites ≡ Some s
        → MoveFits answer_of after (link.RestartReader config handler room) (view k s n) × (s.reader.config.address ≡ config.address)
    RestFits (RestartPanel settings) n = (k : ℕ) (s : Site H) → site_at k n.sites ≡ Some s → AreSettings (settings k).0 (settings k).1.messages (settings k).1.bytes
    RestFits move n = NetMoveFits answer_of after move n

    abbrev pub KeepRule : List (NetMove H) → Net H → (ℕ → Note) → Type 0
    KeepRule [] n notes = Unit {0}
    KeepRule (move ∷ moves) n notes =
        RestFits move n × KeepsRule move n notes × KeepRule moves (after_net answer_of after move n) (notes_after move n notes)

    abbrev pub RuleSuffices : Type 0
    RuleSuffices = (n : Net H) (moves : List (NetMove H)) → IsSetUp n → KeepRule moves n no_notes → NetMovesFit answer_of after moves n
