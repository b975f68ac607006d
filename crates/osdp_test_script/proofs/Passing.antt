-- Items that are passed over.
use Rattle.osdp_test_script.proofs.Common.{◌≡◌, ℕ, ◌≤◌, true, List, [], ◌∷◌, Option, Some, None, drop, length, refl, subst, Packet, packet_length, RunItem, PacketItem, Stands, item_size, IsAnswerIn, is_reply_to, is_passed}
use Rattle.osdp_test_script.specs.declared.run.Exchange.{Exchange}
use Rattle.osdp_frame.proofs.Head.{Tells-Begins}

-- an item that is passed over stands before the answer
pub passed : (x : Option Exchange) (bytes : List ℕ) (part : RunItem) (answer : Option Packet) → Stands bytes part → is_passed x part ≡ true
    → IsAnswerIn x (drop (item_size part) bytes) answer → IsAnswerIn x bytes answer
passed x bytes part answer stands is h = record { parts = part ∷ h.parts; rest = h.rest; passed = (stands, is, h.passed); ends = h.ends }

pub found : (x : Option Exchange) (bytes : List ℕ) (a : Packet) → Stands bytes (PacketItem a) → is_reply_to x a ≡ true → IsAnswerIn x bytes (Some a)
found x bytes a stands is = record { parts = []; rest = bytes; passed = refl; ends = (stands, is) }

pub nothing : (x : Option Exchange) → IsAnswerIn x [] None
nothing x = record { parts = []; rest = []; passed = refl; ends = refl }

-- a packet that stands there has room
pub has_room : (bytes : List ℕ) (p : Packet) → Stands bytes (PacketItem p) → packet_length p ≤ length bytes
has_room bytes p stands = (Tells-Begins p bytes stands).long

-- the same, where the answer in the rest of a run is the answer in all of it
pub passed_at : (x : Option Exchange) (run rest next : List ℕ) (part : RunItem) (answer : Option Packet) → ((a : Option Packet) → IsAnswerIn x rest a → IsAnswerIn x run a)
    → Stands rest part → is_passed x part ≡ true → next ≡ drop (item_size part) rest → IsAnswerIn x next answer → IsAnswerIn x run answer
passed_at x run rest next part answer all stands is cut h =
    all answer (passed x rest part answer stands is (subst (λ (bytes : List ℕ). IsAnswerIn x bytes answer) cut h))
