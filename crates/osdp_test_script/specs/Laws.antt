-- What verdicts come to, in the words of those who read a report.
use Rattle.std.specs.Prelude.{◌≡◌, ◌≢◌, ◌⊎◌, ◌↔◌, ⊤, ℕ, ◌+◌, ◌-◌, ◌^◌, ◌<◌, ◌≤◌, List, [], Option, Some, None, true, false}
use Rattle.osdp_frame.specs.Packet.{Packet}
use Rattle.osdp_frame.specs.Spelling.{spelling}
use Rattle.osdp_msg.specs.ReplyTable.{reply_code}
use Rattle.osdp_msg.specs.ReplyText.{reply_row}
use Rattle.osdp_msg.specs.declared.reply.Reply.{Reply}
use Rattle.osdp_msg.specs.declared.command.Command.{Command}
use Rattle.osdp_rules.specs.Packets.{code_of, has_reason, is_busy, same_packet}
use Rattle.osdp_test_script.specs.Answers.{IsAnswerIn}
use Rattle.osdp_test_script.specs.Awaited.{awaited_code, awaited_name}
use Rattle.osdp_test_script.specs.Permits.{is_allowed}
use Rattle.osdp_test_script.specs.Runs.{counted, hears, refuses, sends_to}
use Rattle.osdp_test_script.specs.Seen.{expected_seen}
use Rattle.osdp_test_script.specs.declared.awaited.Awaited.{Awaited}
use Rattle.osdp_test_script.specs.declared.awaited.Awaited.TheVariants.{Same}
use Rattle.osdp_test_script.specs.declared.call.Term.{Term}
use Rattle.osdp_test_script.specs.declared.call.Term.TheVariants.{Within}
use Rattle.osdp_test_script.specs.declared.refusal.Refusal.TheVariants.{NotAllowed}
use Rattle.osdp_test_script.specs.declared.run.Awaits.TheVariants as awaits
use Rattle.osdp_test_script.specs.declared.run.Counts.{Counts as Tally}
use Rattle.osdp_test_script.specs.declared.run.Exchange.{Exchange}
use Rattle.osdp_test_script.specs.declared.run.Fault.{Fault}
use Rattle.osdp_test_script.specs.declared.run.Fault.TheVariants.{Whole}
use Rattle.osdp_test_script.specs.declared.run.Heard.{Heard as Answer}
use Rattle.osdp_test_script.specs.declared.run.ScriptRun.{ScriptRun}
use Rattle.osdp_test_script.specs.declared.seen.Seen.{Seen}
use Rattle.osdp_test_script.specs.declared.seen.Seen.TheVariants.{Ok, Broken, Unclear}
use Rattle.osdp_test_script.specs.Texts.{send_line}

-- silence breaks no expectation: what wasn't heard may be lost
abbrev pub SilenceBreaksNothing : Type 0
SilenceBreaksNothing = (awaited : Awaited) (t : Term) (first : Option Packet) (delay : ℕ) → expected_seen awaited t first None delay ≢ Broken

-- nor does BUSY, nor NAK 1, where a reply is expected
abbrev pub PutsOff : Type 0
PutsOff = (awaited : Awaited) (t : Term) (first : Option Packet) (a : Packet) (delay code : ℕ) → awaited_code awaited ≡ Some code → code_of a ≢ code
    → (is_busy a ≡ true) ⊎ (has_reason 1 a ≡ true) → expected_seen awaited t first (Some a) delay ≢ Broken

-- a reply that is expected within a time is seen exactly where the answer has its code and began in that time
abbrev pub SeesItsReply : Type 0
SeesItsReply = (awaited : Awaited) (time : ℕ) (first : Option Packet) (a : Packet) (delay code : ℕ) → awaited_code awaited ≡ Some code
    → (expected_seen awaited (Within time) first (Some a) delay ≡ Ok) ↔ ((code_of a ≡ code) × (delay ≤ time))

-- another answer than the first one breaks the expectation of the same, and the first one doesn't
abbrev pub SeesTheSame : Type 0
SeesTheSame = (t : Term) (first a : Packet) (delay : ℕ) → same_packet first a ≡ false → is_busy a ≡ false → has_reason 1 a ≡ false
    → expected_seen Same t (Some first) (Some a) delay ≡ Broken

-- what changes something of a device is refused where it isn't allowed, and nothing is sent
abbrev pub MovesNothingUnsaid : Type 0
MovesNothingUnsaid = (command : Command) (address : ℕ) (s : ScriptRun) → is_allowed s.permits command ≡ false
    → sends_to command address s ≡ refuses NotAllowed s

-- of what was heard one answer alone fits, or none
abbrev pub OneAnswer : Type 0
OneAnswer = (last : Option Exchange) (heard : List ℕ) (a b : Option Packet) → IsAnswerIn last heard a → IsAnswerIn last heard b → a ≡ b

-- what counts as the answer is a reply from the address to which the packet went: no other device answers for it
abbrev pub AnswersItself : Type 0
AnswersItself = (x : Exchange) (heard : List ℕ) (a : Packet) → IsAnswerIn (Some x) heard (Some a) → (a.reply ≡ true) × (a.address ≡ x.sent.address)

-- what is awaited by its code has the name with which a reply of that code is printed
abbrev pub AwaitsByName : Type 0
AwaitsByName = (awaited : Awaited) (code : ℕ) (m : Reply) → awaited_code awaited ≡ Some code → reply_code m ≡ code → awaited_name awaited ≡ (reply_row m).0

abbrev pub count_of : Seen → Tally → ℕ
count_of Ok c = c.ok
count_of Broken c = c.broken
count_of Unclear c = c.unclear

-- a verdict counts once among its own, as far as numbers go, and not among the others
abbrev pub CountsEachVerdict : Type 0
CountsEachVerdict = (v : Seen) (c : Tally) → count_of v c < 2 ^ 64 - 1
    → (count_of v (counted v c) ≡ count_of v c + 1) × ((w : Seen) → (w ≡ v → ⊥) → count_of w (counted v c) ≡ count_of w c)

-- nothing was heard, or BUSY
abbrev pub IsUnanswered : Option Packet → Type 0
IsUnanswered None = ⊤
IsUnanswered (Some a) = is_busy a ≡ true

-- of a packet that went out, for which so many tries are left, this was heard
pub record IsTriedSo (f : Fault) (left : ℕ) (h : Answer) (x : Exchange) (s : ScriptRun) : Type 0 where
  pub again : f ≡ Whole → 0 < left → IsUnanswered h.answer
      → ((hears h s).text ≡ send_line (spelling x.sent)) × ((hears h s).run.awaits ≡ awaits.Answer f (left - 1))
  pub done : (f ≡ Whole → ⊥) ⊎ ((left ≡ 0) ⊎ (IsUnanswered h.answer → ⊥)) → ((hears h s).text ≡ []) × ((hears h s).run.awaits ≡ awaits.Nothing)

-- A packet that was whole goes out again where nothing is heard of it, or BUSY, with one try less, until none is left. Otherwise nothing goes out, and nothing more is awaited.
abbrev pub TriesAgain : Type 0
TriesAgain = (f : Fault) (left : ℕ) (h : Answer) (x : Exchange) (s : ScriptRun) → s.awaits ≡ awaits.Answer f left → s.exchange ≡ Some x → IsTriedSo f left h x s
