-- The answer in what was heard: the first reply from the address to which the last packet went.
use Rattle.std.specs.Prelude.{◌≡◌, ◌==◌, ◌&&◌, ℕ, Bool, true, false, not, List, [], ◌∷◌, drop, Option, Some, None}
use Rattle.osdp_frame.specs.Packet.{Packet}
use Rattle.osdp_frame.specs.Reading.{RunItem, PacketItem, Stands, item_size}
use Rattle.osdp_test_script.specs.declared.run.Exchange.{Exchange}

-- a reply from the address to which the last packet went; where no packet went out, nothing answers it
abbrev pub is_reply_to : Option Exchange → Packet → Bool
is_reply_to None p = false
is_reply_to (Some x) p = p.reply && p.address == x.sent.address

-- an item that is no such reply: another byte, a command, or a reply from another address
abbrev pub is_passed : Option Exchange → RunItem → Bool
is_passed x (PacketItem p) = not (is_reply_to x p)
is_passed x part = true

-- these items stand first, none of them an answer, and these bytes follow them
abbrev pub PassesTo : Option Exchange → List ℕ → List RunItem → List ℕ → Type 0
PassesTo x bytes [] rest = bytes ≡ rest
PassesTo x bytes (part ∷ parts) rest = Stands bytes part × (is_passed x part ≡ true) × PassesTo x (drop (item_size part) bytes) parts rest

-- what stands then: an answer, or nothing
abbrev pub EndsWith : Option Exchange → List ℕ → Option Packet → Type 0
EndsWith x rest (Some a) = Stands rest (PacketItem a) × (is_reply_to x a ≡ true)
EndsWith x rest None = rest ≡ []

pub record IsAnswerIn (x : Option Exchange) (bytes : List ℕ) (answer : Option Packet) : Type 0 where
  pub parts : List RunItem
  pub rest : List ℕ
  pub passed : PassesTo x bytes parts rest
  pub ends : EndsWith x rest answer
