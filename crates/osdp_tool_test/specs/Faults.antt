-- What is printed of what broke a rule.
use Rattle.std.specs.Prelude.{ℕ, List, ◌++◌, codes}
use Rattle.std.specs.Fmt.{decimal}
use Rattle.osdp_rules.specs.declared.aspect.Aspect.{Aspect}
use Rattle.osdp_rules.specs.declared.aspect.Aspect.TheVariants.{Address, Check, Number, Plain, Turn, Fit, Served, Code, Length, Read, Busy, Repeat, Wrong, Block, Quiet, Deaf, Single, Prompt, Listed, Beyond}
use Rattle.osdp_words.specs.Word.{bytes, printed}
use Rattle.osdp_tool_test.specs.declared.exchange.Exchange.{Exchange}
use Rattle.osdp_tool_test.specs.declared.report.Form.{Form}
use Rattle.osdp_tool_test.specs.declared.report.Form.TheVariants as form

abbrev pub expected : Aspect → List ℕ
expected Address = codes "an answer with the address of the packet"
expected Check = codes "an answer with the check of the packet"
expected Number = codes "an answer with the number of the packet"
expected Plain = codes "an answer without a security block"
expected Turn = codes "the answer to the command, and not NAK 4"
expected Fit = codes "a reply that answers this command, BUSY or a NAK"
expected Served = codes "the reply to the command, and no NAK"
expected Code = codes "NAK 3"
expected Length = codes "NAK 2"
expected Read = codes "a reply with as many bytes as its code asks"
expected Busy = codes "BUSY with number 0"
expected Repeat = codes "the answer that this packet had before, byte for byte"
expected Wrong = codes "NAK 4"
expected Block = codes "NAK 5"
expected Quiet = codes "silence"
expected Deaf = codes "silence, or a NAK"
expected Single = codes "one answer"
expected Prompt = codes "an answer within 200 ms"
expected Listed = codes "as many entries as CAP tells"
expected Beyond = codes "a NAK"

-- what stands before each line: for other programs it makes a comment of it
abbrev pub mark : Form → List ℕ
mark form.Plain = codes "  "
mark form.Tap = codes "# "

abbrev pub sent_line : List ℕ → Exchange → List ℕ
sent_line m x = m ++ (codes "at " ++ (decimal x.moment ++ (codes " ms sent " ++ (printed (bytes x.sent.items) ++ codes "\n"))))

abbrev pub expected_line : List ℕ → Aspect → List ℕ
expected_line m aspect = m ++ (codes "expected " ++ (expected aspect ++ codes "\n"))

abbrev pub heard_line : List ℕ → Exchange → List ℕ
heard_line m x = m ++ (codes "read " ++ (printed (bytes x.heard.items) ++ (codes " after " ++ (decimal x.delay ++ codes " ms\n"))))

-- what somebody beside the line saw of a rule
unfoldable pub why_line : Form → List ℕ → List ℕ
why_line f why = mark f ++ (why ++ codes "\n")

-- what was sent and when, what is expected then, and what was read
unfoldable pub fault_text : Form → Aspect → Exchange → List ℕ
fault_text f aspect x = sent_line (mark f) x ++ (expected_line (mark f) aspect ++ heard_line (mark f) x)
