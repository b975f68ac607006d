-- What an answer says of an expectation.
use Rattle.std.specs.Prelude.{ℕ, ◌+◌, ◌%◌, ◌==◌, ◌&&◌, ◌||◌, Bool, true, false, nat_le, List, length, take, slice_get, ◌∷◌, Option, Some, None, if◌then◌else◌}
use Rattle.std.specs.Str.{bytes_eq}
use Rattle.osdp_frame.specs.Packet.{Packet}
use Rattle.osdp_msg.specs.ReplyTable.{reply_code, reply_data}
use Rattle.osdp_msg.specs.declared.reply.Reply.{Reply}
use Rattle.osdp_rules.specs.Packets.{code_of, has_reason, is_busy, same_packet}
use Rattle.osdp_test_script.specs.Awaited.{awaited_code}
use Rattle.osdp_test_script.specs.declared.awaited.Awaited.{Awaited}
use Rattle.osdp_test_script.specs.declared.awaited.Awaited.TheVariants.{Silence, Same}
use Rattle.osdp_test_script.specs.declared.call.Term.{Term}
use Rattle.osdp_test_script.specs.declared.call.Term.TheVariants.{Within}
use Rattle.osdp_test_script.specs.declared.seen.Seen.{Seen}
use Rattle.osdp_test_script.specs.declared.seen.Seen.TheVariants.{Ok, Broken, Unclear}

-- the device is busy, or the packet came damaged: that shows nothing, where it isn't expected
abbrev pub puts_off : Packet → Bool
puts_off a = is_busy a || has_reason 1 a

abbrev pub otherwise : Packet → Seen
otherwise a = if puts_off a then Unclear else Broken

abbrev pub is_code : Option ℕ → ℕ → Bool
is_code None code = false
is_code (Some wanted) code = wanted == code

abbrev pub by_code : Option ℕ → Packet → Seen
by_code wanted a = if is_code wanted (code_of a) then Ok else otherwise a

-- the bytes of the answer that the packet had the first time
abbrev pub same_seen : Option Packet → Packet → Seen
same_seen None a = Unclear
same_seen (Some first) a = if same_packet first a then Ok else otherwise a

abbrev pub is_in_time : Term → ℕ → Bool
is_in_time (Within time) delay = nat_le delay time
is_in_time _ delay = true

-- what comes too late is broken
abbrev pub timely : Bool → Seen → Seen
timely false Ok = Broken
timely _ seen = seen

-- NAK 1 is no answer to the packet: it came damaged
abbrev pub answer_seen : Awaited → Option Packet → Packet → Seen
answer_seen Silence first a = if has_reason 1 a then Ok else Broken
answer_seen Same first a = same_seen first a
answer_seen awaited first a = by_code (awaited_code awaited) a

abbrev pub silence_seen : Awaited → Seen
silence_seen Silence = Ok
silence_seen _ = Unclear

-- what was heard of a packet: its first answer, this one, and how late it was
abbrev pub expected_seen : Awaited → Term → Option Packet → Option Packet → ℕ → Seen
expected_seen awaited term first None delay = silence_seen awaited
expected_seen awaited term first (Some a) delay = timely (is_in_time term delay) (answer_seen awaited first a)

abbrev pub begins_with : List ℕ → List ℕ → Bool
begins_with front bytes = nat_le (length front) (length bytes) && bytes_eq (take (length front) bytes) front

abbrev pub reads_seen : Reply → Option Packet → Seen
reads_seen reply None = Unclear
reads_seen reply (Some a) = if begins_with (reply_code reply ∷ reply_data reply) a.body then Ok else otherwise a

-- the byte of an answer's data at a place: the code stands at 0
abbrev pub kept_byte : ℕ → Option Packet → Option ℕ
kept_byte place None = None
kept_byte place (Some a) = slice_get a.body place

abbrev pub is_byte : Option ℕ → ℕ → Bool
is_byte None b = false
is_byte (Some a) b = a == b

-- so many more than was kept, by the last eight bits
abbrev pub counts_seen : Option ℕ → ℕ → ℕ → Option Packet → Seen
counts_seen (Some kept) place more (Some a) = if is_byte (kept_byte place (Some a)) ((kept + more) % 256) then Ok else otherwise a
counts_seen _ place more _ = Unclear
