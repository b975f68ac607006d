-- What words order, and that it is a packet.
use Rattle.osdp_tool.proofs.Common.{◌≡◌, ◌<◌, ◌≤◌, ℕ, Bool, List, length, Option, Some, None, refl, ap, arith, IsSome, CheckKind, Sum, Crc, AreBytes, check_size, IsPacket, packed, AllStandFor, CommandValue, CommandFits, command_words, Message, Command, Reply, MessageFits, message_body, message_words}
use Rattle.std.specs.Option.{SomeIff}
use Rattle.osdp_words.specs.Reading.{ReadsWords}
use Rattle.osdp_tool.proofs.Names.{not_both}

-- a command that is read is the message that is read
pub read_command : (c : CommandValue) (given : List (List ℕ)) → AllStandFor (command_words c) given × CommandFits c
    → ((m : CommandValue) → CommandFits m → AllStandFor (command_words m) given → c ≡ m)
    → ReadsWords message_words MessageFits given (Some (Command c))
read_command c given v one = record { value = v; only = only }
  where
    only : (a : Message) → MessageFits a → AllStandFor (message_words a) given → Some (Command c) ≡ Some a
    only (Command m) fits stand = ap (λ x. Some (Command x)) (one m fits stand)
    only (Reply r) fits stand = absurd (not_both c r given v.0 stand)

pub some_if : {T : Type 0} (o : Option T) (P : Type 0) (v : T) → SomeIff o P v → P → IsSome o
some_if None P v h p = absurd (h p)
some_if (Some x) P v h p = refl

some_code : (m : Message) → 0 < length (message_body m)
some_code (Command m) = omega arith
some_code (Reply m) = omega arith

small_check : (kind : CheckKind) → check_size kind ≤ 2
small_check Sum = omega arith
small_check Crc = omega arith

-- a message and its fields make a packet
pub is_packet : (reply : Bool) (address sequence : ℕ) (kind : CheckKind) (block : Bool) (reserved : ℕ) (m : Message) (body : List ℕ) → address < 128 → sequence < 4 → reserved < 16 → body ≡ message_body m → AreBytes body → length body ≤ 1433
    → IsPacket (packed reply address sequence kind block reserved body)
is_packet reply address sequence kind block reserved m body a s r is bytes short = record {
  address = a;
  sequence = s;
  reserved = r;
  body = bytes;
  code = omega (arith, some_code m, ap length is);
  room = omega (arith, small_check kind);
}
