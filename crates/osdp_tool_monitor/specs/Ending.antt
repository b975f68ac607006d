-- What is printed of an input, and how the command ends.
use Rattle.std.specs.Prelude.{◌≡◌, ◌⊎◌, ℕ, ◌^◌, ◌≤◌, Bool, true, false, List, [], ◌∷◌, ◌++◌, length, take, Option, None, Some, Result, Ok, Err}
use Rattle.std.specs.Io.KnownBytes.{Appends, Consumes, IsAtEnd}
use Rattle.osdp_tool_streams.specs.declared.fault.ToolFault.{ToolFault}
use Rattle.osdp_tool_streams.specs.declared.fault.ToolFault.TheVariants.{NotHex, TooLong, BadWords, BadStep}
use Rattle.osdp_tool_streams.specs.declared.fault.ToolFault.TheVariants.{HoldsPacket, NotQuiet, ReadFailed}
use Rattle.osdp_tool_streams.specs.declared.fault.ToolFault.TheVariants.{WriteFailed, NoMemory}
use Rattle.osdp_tool_monitor.specs.Hearing.{after_events, events_report, nothing_yet}
use Rattle.osdp_tool_monitor.specs.Listening.{is_wrong}
use Rattle.osdp_tool_monitor.specs.declared.mode.MonitorMode.{MonitorMode}
use Rattle.osdp_tool_monitor.specs.Events.{Broken, End, Following, More, Piece, after_pieces, are_good, bad_at_end, bad_in, bytes_of, input_events, moments_of, nothing_cut}

-- a source told these moments, one after the other
abbrev pub Told : {M : Type 0} → (M → ℕ → M → Type 0) → M → List ℕ → M → Type 0
Told tells old [] new = new ≡ old
Told {M} tells old (moment ∷ moments) new = (next : M) × tells old moment next × Told tells next moments new

-- what is printed
abbrev pub input_report : Following → MonitorMode → List Piece → List ℕ
input_report following mode pieces = events_report mode.detail (nothing_yet mode.standard) (input_events following mode pieces)

-- somebody is accused in it, or something refused
abbrev pub is_wrong_input : Following → MonitorMode → List Piece → Bool
is_wrong_input following mode pieces = is_wrong (after_events (nothing_yet mode.standard) (input_events following mode pieces)).heard

-- no bad line has ended in these pieces, but for the last of them
pub record OnlyLastIsBad (mode : MonitorMode) (pieces : List Piece) : Type 0 where
  pub front : List Piece
  pub end : List Piece
  pub split : pieces ≡ front ++ end
  pub one : length end ≤ 1
  pub good : are_good mode nothing_cut front ≡ true

-- the bytes that were read came in these pieces, and one moment was asked for after each
pub record CameIn {M : Type 0} (tells : M → ℕ → M → Type 0) (clock_before clock_after : M) (input_before input_after : Option (List ℕ))
    (pieces : List Piece) : Type 0 where
  pub taken : Consumes input_before input_after (bytes_of pieces)
  pub moments : Told tells clock_before (moments_of pieces) clock_after

module _ {M : Type 0} (tells : M → ℕ → M → Type 0) (mode : MonitorMode) (clock_before clock_after : M)
    (input_before input_after before after : Option (List ℕ)) where
  -- all of them were told, and what follows them
  pub record IsTold (following : Following) : Type 0 where
    pub pieces : List Piece
    pub came : CameIn tells clock_before clock_after input_before input_after pieces
    pub written : Appends before after (input_report following mode pieces)

  -- a fault stopped it in the last piece or at the end: what was written is a beginning of what is told, and of the other pieces all of it
  pub record IsToldInPart : Type 0 where
    pub earlier : List Piece
    pub later : List Piece
    pub few : length later ≤ 1
    pub came : CameIn tells clock_before clock_after input_before input_after (earlier ++ later)
    pub bad : OnlyLastIsBad mode (earlier ++ later)
    pub following : Following
    pub count : ℕ
    pub least : length (input_report More mode earlier) ≤ count
    pub written : Appends before after (take count (input_report following mode (earlier ++ later)))

  -- and 2^57 bytes were read, or more
  pub record IsTooLong : Type 0 where
    pub part : IsToldInPart
    pub long : 2 ^ 57 ≤ length (bytes_of (part.earlier ++ part.later))

  -- where bad words stand in an input: at its end, or in the last piece of it that was read
  abbrev pub IsBadAt : ℕ → Type 0
  IsBadAt number =
      ((all : IsTold End) × (are_good mode nothing_cut all.pieces ≡ true) × (bad_at_end mode.hex (after_pieces mode nothing_cut all.pieces) ≡ Some number) × IsAtEnd input_after)
      ⊎ ((all : IsTold Broken) × (front : List Piece) × (piece : Piece) × (all.pieces ≡ front ++ piece ∷ []) × (are_good mode nothing_cut front ≡ true)
      × (bad_in mode.hex (after_pieces mode nothing_cut front) piece ≡ Some number))

-- By the answer: at the end of the input, true where somebody was accused or something refused; at a bad line its number; at a failed read
-- what was read is told, and the table.
abbrev pub Ends : {M : Type 0} → (M → ℕ → M → Type 0) → MonitorMode → M → M → Option (List ℕ) → Option (List ℕ) → Bool → Option (List ℕ) → Option (List ℕ) → Bool
    → Result Bool ToolFault → Type 0
Ends tells mode clock_before clock_after input_before input_after input_failed before after failed (Ok wrong) =
    (all : IsTold tells mode clock_before clock_after input_before input_after before after End) × (are_good mode nothing_cut all.pieces ≡ true)
    × (bad_at_end mode.hex (after_pieces mode nothing_cut all.pieces) ≡ None) × (wrong ≡ is_wrong_input End mode all.pieces) × IsAtEnd input_after
    × (input_failed ≡ false) × (failed ≡ false)
Ends tells mode clock_before clock_after input_before input_after input_failed before after failed (Err (NotHex number)) =
    IsBadAt tells mode clock_before clock_after input_before input_after before after number × (input_failed ≡ false) × (failed ≡ false)
Ends tells mode clock_before clock_after input_before input_after input_failed before after failed (Err ReadFailed) =
    (((all : IsTold tells mode clock_before clock_after input_before input_after before after Broken) × (are_good mode nothing_cut all.pieces ≡ true) × (failed ≡ false))
    ⊎ (IsToldInPart tells mode clock_before clock_after input_before input_after before after × (failed ≡ true)))
    × (input_failed ≡ true)
Ends tells mode clock_before clock_after input_before input_after input_failed before after failed (Err TooLong) =
    IsTooLong tells mode clock_before clock_after input_before input_after before after × (failed ≡ false)
Ends tells mode clock_before clock_after input_before input_after input_failed before after failed (Err NoMemory) =
    IsToldInPart tells mode clock_before clock_after input_before input_after before after × (failed ≡ false)
Ends tells mode clock_before clock_after input_before input_after input_failed before after failed (Err WriteFailed) =
    IsToldInPart tells mode clock_before clock_after input_before input_after before after × (input_failed ≡ false) × (failed ≡ true)
Ends tells mode clock_before clock_after input_before input_after input_failed before after failed (Err BadWords) = ⊥
Ends tells mode clock_before clock_after input_before input_after input_failed before after failed (Err (BadStep number)) = ⊥
Ends tells mode clock_before clock_after input_before input_after input_failed before after failed (Err (HoldsPacket number)) = ⊥
Ends tells mode clock_before clock_after input_before input_after input_failed before after failed (Err (NotQuiet number)) = ⊥
