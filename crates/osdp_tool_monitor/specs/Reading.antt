-- How an input is read piece by piece.
use Rattle.std.specs.Prelude.{◌≡◌, ◌≤◌, ◌+◌, ◌*◌, ◌^◌, ℕ, Bool, true, false, List, [], ◌∷◌, ◌++◌, length, take, Option, Some, Result, Ok, Err}
use Rattle.std.specs.Io.KnownBytes.{Appends, IsAtEnd, Keeps}
use Rattle.osdp_tool_streams.specs.declared.fault.ToolFault.{ToolFault}
use Rattle.osdp_tool_streams.specs.declared.fault.ToolFault.TheVariants.{TooLong, ReadFailed, WriteFailed, NoMemory}
use Rattle.osdp_tool_monitor.specs.declared.open_line.OpenLine.{OpenLine}
use Rattle.osdp_tool_monitor.specs.Hearing.{Hears, IsOpen, LineEvent, after_events, events_report, hearing_of, nothing_yet, line_detail}
use Rattle.osdp_tool_monitor.specs.declared.mode.MonitorMode.{MonitorMode}
use Rattle.osdp_tool_monitor.specs.declared.session.Session.{Session}
use Rattle.osdp_tool_monitor.specs.Ending.{CameIn, IsToldInPart, IsTooLong}
use Rattle.osdp_tool_monitor.specs.Events.{Piece, after_pieces, bytes_of, are_good, bad_in, nothing_cut, pieces_events}
use Rattle.osdp_tool_monitor.specs.Session.{IsReady, TakesPiece, cut_of, weight}

-- ---- a text that is written, and flushed

abbrev pub Wrote : List ℕ → Option (List ℕ) → Option (List ℕ) → Bool → Result (Unit {0}) ToolFault → Type 0
Wrote text before after failed (Ok done) = Appends before after text × (failed ≡ false)
Wrote text before after failed (Err WriteFailed) = (count : ℕ) × Appends before after (take count text) × (failed ≡ true)
Wrote text before after failed (Err fault) = ⊥

-- a failed read is told before a failed write, and out of memory before it
abbrev pub after_failed_read : ToolFault → ToolFault
after_failed_read WriteFailed = ReadFailed
after_failed_read fault = NoMemory

-- ---- one piece

-- what is told of it was written, or a beginning of that
abbrev pub TellsPiece : Piece → Session → Session → Option (List ℕ) → Option (List ℕ) → Bool → Result Bool ToolFault → Type 0
TellsPiece piece old new before after failed (Ok good) =
    (text : List ℕ) × TakesPiece good piece old new [] text × Appends before after text × (failed ≡ false)
    × (weight new ≤ weight old + 5 * length piece.bytes)
TellsPiece piece old new before after failed (Err WriteFailed) =
    (good : Bool) × (next : Session) × (text : List ℕ) × (count : ℕ) × TakesPiece good piece old next [] text
    × Appends before after (take count text) × (failed ≡ true)
TellsPiece piece old new before after failed (Err NoMemory) = Keeps before after × (failed ≡ false)
TellsPiece piece old new before after failed (Err TooLong) =
    Keeps before after × (failed ≡ false) × (2 ^ 60 ≤ weight old + 5 * length piece.bytes)
TellsPiece piece old new before after failed (Err fault) = ⊥

-- ---- events that end it

-- what is told of them was written, or a beginning of that
abbrev pub TellsEvents : {T : Type 0} → List LineEvent → Session → Session → Option (List ℕ) → Option (List ℕ) → Bool → Result T ToolFault → Type 0
TellsEvents events old new before after failed (Ok x) =
    (text : List ℕ) × Hears events old.line new.line [] text × Appends before after text × (failed ≡ false)
TellsEvents events old new before after failed (Err WriteFailed) =
    (next : OpenLine) × (text : List ℕ) × (count : ℕ) × Hears events old.line next [] text × Appends before after (take count text) × (failed ≡ true)
TellsEvents events old new before after failed (Err NoMemory) = Keeps before after × (failed ≡ false)
TellsEvents events old new before after failed (Err TooLong) = Keeps before after × (failed ≡ false) × (2 ^ 60 ≤ weight old + 5)
TellsEvents events old new before after failed (Err fault) = ⊥

-- ---- one after the other

-- these events were told, and nothing else was written
pub record HasTold (mode : MonitorMode) (events : List LineEvent) (s : Session) (start now : Option (List ℕ)) : Type 0 where
  pub heard : hearing_of s.line ≡ after_events (nothing_yet mode.standard) events
  pub prints : line_detail s.line ≡ mode.detail
  pub is_open : IsOpen s.line
  pub written : Appends start now (events_report mode.detail (nothing_yet mode.standard) events)

-- these pieces were told, in which no bad line has ended
pub record HasToldPieces (mode : MonitorMode) (pieces : List Piece) (s : Session) (start now : Option (List ℕ)) : Type 0 where
  pub mode_is : s.mode ≡ mode
  pub cut : cut_of s ≡ after_pieces mode nothing_cut pieces
  pub told : HasTold mode (pieces_events mode nothing_cut pieces) s start now
  pub good : are_good mode nothing_cut pieces ≡ true
  pub ready : IsReady s
  pub weighs : weight s ≤ 5 * length (bytes_of pieces)

-- a bad line has ended in the last of them
pub record Broke (mode : MonitorMode) (front : List Piece) (piece : Piece) (s : Session) (start now : Option (List ℕ)) : Type 0 where
  pub told : HasTold mode (pieces_events mode nothing_cut (front ++ piece ∷ [])) s start now
  pub good : are_good mode nothing_cut front ≡ true
  pub bad : bad_in mode.hex (after_pieces mode nothing_cut front) piece ≡ Some s.ended
  pub weighs : weight s ≤ 5 * length (bytes_of (front ++ piece ∷ []))

module _ {M : Type 0} (tells : M → ℕ → M → Type 0) (mode : MonitorMode) (clock_before clock_after : M)
    (input_before input_after before after : Option (List ℕ)) where
  pub record HasRead (s : Session) : Type 0 where
    pub pieces : List Piece
    pub came : CameIn tells clock_before clock_after input_before input_after pieces
    pub follows : HasToldPieces mode pieces s before after

  pub record HasBroken (s : Session) : Type 0 where
    pub front : List Piece
    pub piece : Piece
    pub came : CameIn tells clock_before clock_after input_before input_after (front ++ piece ∷ [])
    pub broke : Broke mode front piece s before after

abbrev pub ReadsAll : {M : Type 0} → (M → ℕ → M → Type 0) → MonitorMode → M → M → Option (List ℕ) → Option (List ℕ) → Bool → Option (List ℕ) → Option (List ℕ) → Bool
    → Session → Result Bool ToolFault → Type 0
ReadsAll tells mode clock_before clock_after input_before input_after input_failed before after failed s (Ok true) =
    HasRead tells mode clock_before clock_after input_before input_after before after s × IsAtEnd input_after × (input_failed ≡ false) × (failed ≡ false)
ReadsAll tells mode clock_before clock_after input_before input_after input_failed before after failed s (Ok false) =
    HasBroken tells mode clock_before clock_after input_before input_after before after s × (input_failed ≡ false) × (failed ≡ false)
ReadsAll tells mode clock_before clock_after input_before input_after input_failed before after failed s (Err ReadFailed) =
    HasRead tells mode clock_before clock_after input_before input_after before after s × (input_failed ≡ true) × (failed ≡ false)
ReadsAll tells mode clock_before clock_after input_before input_after input_failed before after failed s (Err WriteFailed) =
    IsToldInPart tells mode clock_before clock_after input_before input_after before after × (input_failed ≡ false) × (failed ≡ true)
ReadsAll tells mode clock_before clock_after input_before input_after input_failed before after failed s (Err NoMemory) =
    IsToldInPart tells mode clock_before clock_after input_before input_after before after × (input_failed ≡ false) × (failed ≡ false)
ReadsAll tells mode clock_before clock_after input_before input_after input_failed before after failed s (Err TooLong) =
    IsTooLong tells mode clock_before clock_after input_before input_after before after × (input_failed ≡ false) × (failed ≡ false)
ReadsAll tells mode clock_before clock_after input_before input_after input_failed before after failed s (Err fault) = ⊥
