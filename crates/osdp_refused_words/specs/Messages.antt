-- The texts of commands and of replies.
use Rattle.std.specs.Prelude.{◌≡◌, ℕ, ◌+◌, ◌/◌, ◌≤◌, List, ◌∷◌}
use Rattle.osdp_msg.specs.CommandTable.{CommandFits}
use Rattle.osdp_msg.specs.CommandText.{command_words}
use Rattle.osdp_msg.specs.ReplyTable.{ReplyFits}
use Rattle.osdp_msg.specs.ReplyText.{reply_words}
use Rattle.osdp_words.specs.Word.{StandsFor, number}
use Rattle.osdp_refused_words.specs.Stops.{SaysValue}

abbrev pub SaysCommand : List (List ℕ) → Type 0
SaysCommand = SaysValue command_words CommandFits

abbrev pub SaysReply : List (List ℕ) → Type 0
SaysReply = SaysValue reply_words ReplyFits

-- .. with this name
abbrev pub SaysCommandOf : List ℕ → List (List ℕ) → Type 0
SaysCommandOf name more = SaysCommand (name ∷ more)

abbrev pub SaysReplyOf : List ℕ → List (List ℕ) → Type 0
SaysReplyOf name more = SaysReply (name ∷ more)

-- no command has this name, and no reply
abbrev pub HasNoCommand : List ℕ → Type 0
HasNoCommand name = (more : List (List ℕ)) → SaysCommandOf name more → ⊥

abbrev pub HasNoReply : List ℕ → Type 0
HasNoReply name = (more : List (List ℕ)) → SaysReplyOf name more → ⊥

-- the words after the name of a card tell so many bytes by their count of bits, where a card may have as many bits
abbrev pub IsCountOf : List (List ℕ) → ℕ → Type 0
IsCountOf given count = (reader format bits : List ℕ) (more : List (List ℕ)) (n : ℕ) → given ≡ reader ∷ format ∷ bits ∷ more → n ≤ 11424 → StandsFor (number n) bits
    → count ≡ (n + 7) / 8
