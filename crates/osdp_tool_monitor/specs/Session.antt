-- A session of listening: what stands in it, and what each piece of the input makes of it.
use Rattle.std.specs.Prelude.{◌≡◌, ◌+◌, ◌*◌, ℕ, length, Bool, true, false, if◌then◌else◌, List, [], Option, None, Some}
use Rattle.osdp_tool_streams.specs.Line.{kept}
use Rattle.osdp_tool_monitor.specs.Hearing.{Hears, IsOpen, LineEvent, hearing_of, load, nothing_yet, line_detail}
use Rattle.osdp_tool_monitor.specs.declared.session.Session.{Session}
use Rattle.osdp_tool_monitor.specs.Events.{Cut, Piece, after_bytes, after_piece, bad_at_end, bad_in, bytes_events, closing_events, end_events, nothing_cut, piece_events}

-- what counts of the pieces so far
abbrev pub cut_of : Session → Cut
cut_of s = record { last = s.last; tabled = s.tabled; line = s.characters.items; ended = s.ended }

-- all that is counted of it, with five for each byte that is held, for each character that counts of the line that has not ended, and for each line
-- that has: no more than five for each byte of the input
abbrev pub weight : Session → ℕ
weight s = load (hearing_of s.line) + (5 * length s.characters.items + 5 * s.ended)

-- it can take a piece: its line is open, and where lines of digits are read each run has ended with its line
pub record IsReady (s : Session) : Type 0 where
  pub is_open : IsOpen s.line
  pub counts : kept s.characters.items ≡ s.characters.items
  pub none : s.mode.hex ≡ true → s.line.framer.bytes ≡ []

-- it went on by these events, to this cut
pub record Goes (events : List LineEvent) (next : Cut) (old new : Session) (before after : List ℕ) : Type 0 where
  pub mode : new.mode ≡ old.mode
  pub cut : cut_of new ≡ next
  pub hears : Hears events old.line new.line before after
  pub ready : IsReady new

-- it went on by these events, to a bad line: the last that has ended
pub record Breaks (events : List LineEvent) (bad : Option ℕ) (old new : Session) (before after : List ℕ) : Type 0 where
  pub mode : new.mode ≡ old.mode
  pub bad_is : bad ≡ Some new.ended
  pub hears : Hears events old.line new.line before after

-- by whether no bad line has ended
abbrev pub GoesOrBreaks : Bool → List LineEvent → Option ℕ → Cut → Session → Session → List ℕ → List ℕ → Type 0
GoesOrBreaks true events bad next old new before after = Goes events next old new before after × (bad ≡ None)
GoesOrBreaks false events bad next old new before after = Breaks events bad old new before after

-- what the bytes of a piece bring
abbrev pub TakesBytes : Bool → Piece → Session → Session → List ℕ → List ℕ → Type 0
TakesBytes good piece old new before after =
    GoesOrBreaks good (bytes_events old.mode (cut_of old) piece) (bad_in old.mode.hex (cut_of old) piece)
    (after_bytes old.mode (cut_of old) piece) old new before after

abbrev pub TakesPiece : Bool → Piece → Session → Session → List ℕ → List ℕ → Type 0
TakesPiece good piece old new before after =
    GoesOrBreaks good (piece_events old.mode (cut_of old) piece) (bad_in old.mode.hex (cut_of old) piece) (after_piece old.mode (cut_of old) piece)
    old new before after

-- the input has ended, and with it its run or its last line
pub record EndsInput (good : Bool) (old new : Session) (before after : List ℕ) : Type 0 where
  pub hears : Hears (closing_events old.mode.hex (cut_of old)) old.line new.line before after
  pub bad : bad_at_end old.mode.hex (cut_of old) ≡ (if good then None else Some new.ended)

-- and the table is told
pub record EndsAll (good : Bool) (old new : Session) (before after : List ℕ) : Type 0 where
  pub hears : Hears (end_events old.mode.hex (cut_of old)) old.line new.line before after
  pub bad : bad_at_end old.mode.hex (cut_of old) ≡ (if good then None else Some new.ended)

-- nothing was heard yet
pub record IsNew (s : Session) : Type 0 where
  pub cut : cut_of s ≡ nothing_cut
  pub heard : hearing_of s.line ≡ nothing_yet s.mode.standard
  pub prints : line_detail s.line ≡ s.mode.detail
