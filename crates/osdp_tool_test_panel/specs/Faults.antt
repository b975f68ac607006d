-- What is printed of a packet that broke a rule.
use Rattle.std.specs.Prelude.{ℕ, List, [], ◌++◌, codes, Option, Some, None}
use Rattle.std.specs.Fmt.{decimal}
use Rattle.osdp_panel_rules.specs.declared.aspect.Aspect.{Aspect}
use Rattle.osdp_panel_rules.specs.declared.aspect.Aspect.TheVariants.{Asks, Reserved, Plain, Turn, Copy, Answer, Silence, Order, Noise, Astray, Busy, Damage, Refusal, Lapse, Wait, Online}
use Rattle.osdp_words.specs.Word.{bytes, printed}
use Rattle.osdp_tool_test.specs.Faults.{mark}
use Rattle.osdp_tool_test.specs.declared.report.Form.{Form}
use Rattle.osdp_tool_test.specs.declared.exchange.Exchange.{Exchange}

abbrev pub expected : Aspect → List ℕ
expected Asks = codes "an address without bit 7"
expected Reserved = codes "reserved bits of 0"
expected Plain = codes "a packet without a security block"
expected Turn = codes "number 0, the last number or the next"
expected Copy = codes "the last packet once more, byte for byte, or another number"
expected Answer = codes "the next number"
expected Silence = codes "the packet before once more, or number 0"
expected Order = codes "the packet before once more, or number 0"
expected Noise = codes "the packet before once more, or number 0"
expected Astray = codes "the packet before once more, or number 0"
expected Busy = codes "the packet before once more, or number 0"
expected Damage = codes "the packet before once more, or number 0"
expected Refusal = codes "number 0"
expected Lapse = codes "number 0"
expected Wait = codes "at least 200 ms since the packet before"
expected Online = codes "at most 8 seconds since the packet before"

-- a packet that was read, and what was said to it
abbrev pub read_line : List ℕ → Exchange → List ℕ
read_line m x = m ++ (codes "at " ++ (decimal x.moment ++ (codes " ms read " ++ (printed (bytes x.sent.items) ++ codes "\n"))))

abbrev pub said_line : List ℕ → Exchange → List ℕ
said_line m x = m ++ (codes "said " ++ (printed (bytes x.heard.items) ++ (codes " after " ++ (decimal x.delay ++ codes " ms\n"))))

abbrev pub expected_line : List ℕ → Aspect → List ℕ
expected_line m aspect = m ++ (codes "expected " ++ (expected aspect ++ codes "\n"))

-- the packet before, where there was one
unfoldable pub before_lines : List ℕ → Option Exchange → List ℕ
before_lines m None = []
before_lines m (Some x) = read_line m x ++ said_line m x

-- the packet before and what was said to it, what is expected then, and what was read
unfoldable pub fault_text : Form → Aspect → Option Exchange → Exchange → List ℕ
fault_text form aspect before x = before_lines (mark form) before ++ (expected_line (mark form) aspect ++ read_line (mark form) x)
