-- The text of an account: lines, each of which is a list of words.
use Rattle.std.specs.Prelude.{◌≡◌, ℕ, ◌+◌, Bool, true, false, List, [], ◌∷◌, ◌++◌, codes, length, map}
use Rattle.osdp_controller.specs.Causes.{cause_name}
use Rattle.osdp_msg.specs.declared.command.Command.{Command}
use Rattle.osdp_msg.specs.declared.event.Event.{Event}
use Rattle.osdp_msg.specs.declared.reply.Reply.{Reply}
use Rattle.osdp_msg.specs.CommandText.{command_words}
use Rattle.osdp_msg.specs.Events.{event_words}
use Rattle.osdp_msg.specs.ReplyText.{reply_words}
use Rattle.osdp_sim.specs.declared.account.End.{End}
use Rattle.osdp_sim.specs.declared.account.End.TheVariants.{Lost, Moved}
use Rattle.osdp_sim.specs.Account.{Account}
use Rattle.osdp_words.specs.Word.{Word, number, plain, text_of}

-- the counts of the reader of this number
abbrev pub counts_line : ℕ → Account → List Word
counts_line reader a =
    plain (codes "reader") ∷ number reader ∷ plain (codes "issued") ∷ number (length a.issued)
    ∷ plain (codes "taken") ∷ number (length a.taken) ∷ plain (codes "settled") ∷ number (length a.settled)
    ∷ plain (codes "unsettled") ∷ number (length a.unsettled) ∷ plain (codes "queued") ∷ number (length a.queued)
    ∷ plain (codes "reported") ∷ number (length a.reported) ∷ []

-- a command of the list of this name
abbrev pub command_line : List ℕ → Command → List Word
command_line name command = plain name ∷ command_words command

-- a command that was settled, and its answer
abbrev pub settled_words : Command × Reply → List Word
settled_words (command, answer) = command_words command ++ plain (codes "=") ∷ reply_words answer

-- the line of a command that was settled, with its answer
abbrev pub settled_line : Command × Reply → List Word
settled_line pair = plain (codes "settled") ∷ settled_words pair

-- the line of an event that was reported
abbrev pub reported_line : Event → List Word
reported_line event = plain (codes "reported") ∷ event_words event

-- the word for how a session ended: the name of the cause of its loss, or "moved"
abbrev pub end_name : End → List ℕ
end_name (Lost cause) = cause_name cause
end_name Moved = codes "moved"

-- the words of an end, which is one
abbrev pub end_words : End → List Word
end_words end = plain (end_name end) ∷ []

-- the line of an end
abbrev pub ended_line : End → List Word
ended_line end = plain (codes "ended") ∷ end_words end

-- the counts, and then the lists in this order; what was issued and what was queued is only counted
abbrev pub account_lines : ℕ → Account → List (List Word)
account_lines reader a =
    counts_line reader a ∷ (map (command_line (codes "taken")) a.taken
    ++ (map settled_line a.settled
    ++ (map (command_line (codes "unsettled")) a.unsettled
    ++ (map reported_line a.reported
    ++ map ended_line a.ends))))

-- words with one space between each two, and a line feed after them
abbrev pub line_text : List Word → List ℕ
line_text words = text_of words ++ codes "\n"

-- the text of these lines, one after the other
abbrev pub lines_text : List (List Word) → List ℕ
lines_text [] = []
lines_text (line ∷ lines) = line_text line ++ lines_text lines

-- lines that begin by the name of their list
abbrev pub named : List ℕ → List (List Word) → List (List Word)
named name lines = map (λ words. plain name ∷ words) lines

-- of these lines the first is added to a text, after the name of its list, and the others are left; or none is left
abbrev pub AddsNext : List (List Word) → List (List Word) → List ℕ → List ℕ → List ℕ → Bool → Type 0
AddsNext [] after name old new added = (added ≡ false) × (after ≡ []) × (new ≡ old)
AddsNext (words ∷ others) after name old new added = (added ≡ true) × (after ≡ others) × (new ≡ old ++ line_text (plain name ∷ words))

-- the text of an account, whose reader has this number
abbrev pub account_text : ℕ → Account → List ℕ
account_text reader a = lines_text (account_lines reader a)

-- the texts of these accounts, one after the other; the first is that of the reader of this number
abbrev pub texts_from : ℕ → List Account → List ℕ
texts_from number [] = []
texts_from number (account ∷ others) = account_text number account ++ texts_from (number + 1) others
