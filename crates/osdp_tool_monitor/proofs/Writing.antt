-- Texts that are written, in whole or in part.
use Rattle.osdp_tool_monitor.proofs.Common.{◌≡◌, ℕ, ◌||◌, Bool, true, false, is_err, List, [], length, Option, Result, Ok, Err, sym, subst, ap, ◌∙◌, arith, Appends-kept, take_all, Appends, Keeps, IsOkUnless, ToolFault, WriteFailed, Hears, LineEvent, Session, Piece, TellsEvents, TellsPiece, Wrote, TakesPiece}

-- a flush after a write
pub wrote_flushed : (text : List ℕ) (before mid after : Option (List ℕ)) (was failed : Bool) (r : Result (Unit {0}) ToolFault) → Appends before mid text → Keeps mid after
    → IsOkUnless r WriteFailed → failed ≡ (was || is_err r) → was ≡ false → Wrote text before after failed r
wrote_flushed text before mid after was failed (Ok done) appends kept is ill well =
    (Appends-kept before mid after text appends kept, ill ∙ ap (λ (b : Bool). b || false) well)
wrote_flushed text before mid after was failed (Err fault) appends kept is ill well =
    subst (λ f. Wrote text before after failed (Err f)) (sym is) (
      length text,
      subst (λ l. Appends before after l) (sym (take_all (length text) text (omega arith))) (Appends-kept before mid after text appends kept),
      ill ∙ ap (λ (b : Bool). b || true) well,
    )

-- ---- one piece

pub piece_part : (piece : Piece) (old new : Session) (good : Bool) (text : List ℕ) (before after : Option (List ℕ)) (failed : Bool) (fault : ToolFault)
    → TakesPiece good piece old new [] text → Wrote text before after failed (Err fault) → TellsPiece piece old new before after failed (Err fault)
piece_part piece old new good text before after failed WriteFailed takes (count, appends, ill) = (good, new, text, count, takes, appends, ill)
piece_part piece old new good text before after failed fault takes wrote = absurd wrote

-- ---- events that end it

pub events_wrote : (events : List LineEvent) (old new : Session) (text : List ℕ) (before after : Option (List ℕ)) (failed : Bool) (r : Result (Unit {0}) ToolFault)
    → Hears events old.line new.line [] text → Wrote text before after failed r → TellsEvents events old new before after failed r
events_wrote events old new text before after failed (Ok done) hears (appends, well) = (text, hears, appends, well)
events_wrote events old new text before after failed (Err WriteFailed) hears (count, appends, ill) = (new.line, text, count, hears, appends, ill)
events_wrote events old new text before after failed (Err fault) hears wrote = absurd wrote

pub events_part : (T : Type 0) (events : List LineEvent) (old new other : Session) (text : List ℕ) (before after : Option (List ℕ)) (failed : Bool) (fault : ToolFault)
    → Hears events old.line new.line [] text → Wrote text before after failed (Err fault) → TellsEvents {T = T} events old other before after failed (Err fault)
events_part T events old new other text before after failed WriteFailed hears (count, appends, ill) = (new.line, text, count, hears, appends, ill)
events_part T events old new other text before after failed fault hears wrote = absurd wrote
