-- How messages are kept in little memory: the bytes of each, one after the other in a row, and how many are its own.
use Rattle.std.specs.Prelude.{ℕ, ◌+◌, Bool, List, [], ◌∷◌, take, drop, map, zip}
use Rattle.osdp_msg.specs.declared.command.Command.{Command}
use Rattle.osdp_msg.specs.declared.event.Event.{Event}
use Rattle.osdp_msg.specs.declared.reply.Reply.{Reply}
use Rattle.osdp_msg.specs.Kept.{command_kept, event_kept, reply_kept}

-- What is kept as small places and a row of bytes: each place's own bytes are the first that are left, and it tells how many these are.
abbrev pub parts : {S T : Type 0} → (S → ℕ) → (S → List ℕ → T) → List S → List ℕ → List T
parts size_of part_of [] row = []
parts size_of part_of (place ∷ places) row =
    part_of place (take (size_of place) row) ∷ parts size_of part_of places (drop (size_of place) row)

-- how many bytes they have together
abbrev pub total : {S : Type 0} → (S → ℕ) → List S → ℕ
total size_of [] = 0
total size_of (place ∷ places) = size_of place + total size_of places

-- the bytes of messages, which are kept as how many each has, and these
abbrev pub strings : List ℕ → List ℕ → List (List ℕ)
strings sizes row = parts (λ size. size) (λ size bytes. bytes) sizes row

abbrev pub all_sizes : List ℕ → ℕ
all_sizes sizes = total (λ size. size) sizes

-- a list as its users see it: its items, and whether there is a place for one more, however long
pub record Keeping (M : Type 0) : Type 0 where
  pub items : List M
  pub has_place : Bool

-- the messages that strings of bytes are
abbrev pub commands_of : List (List ℕ) → List Command
commands_of kept = map command_kept kept

abbrev pub events_of : List (List ℕ) → List Event
events_of kept = map event_kept kept

-- commands, each with its answer
abbrev pub settled_of : List (List ℕ) → List (List ℕ) → List (Command × Reply)
settled_of commands answers = zip (commands_of commands) (map reply_kept answers)
