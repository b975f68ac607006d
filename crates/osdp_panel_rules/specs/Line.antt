-- What went over the line at a device in a tester's hand, and what a rule comes to by it.
use Rattle.std.specs.Prelude.{ℕ, ◌==◌, ◌||◌, Bool, if◌then◌else◌, List, [], ◌∷◌, Option, Some, None}
use Rattle.osdp_frame.specs.Packet.{Packet}
use Rattle.osdp_panel_rules.specs.Judging.{judged}
use Rattle.osdp_panel_rules.specs.Known.{after_noise, after_packet, after_said, nothing_known}
use Rattle.osdp_panel_rules.specs.declared.aspect.Aspect.{Aspect}
use Rattle.osdp_panel_rules.specs.declared.known.Known.{Known}
use Rattle.osdp_rules.specs.Verdicts.{verdict_after}
use Rattle.osdp_rules.specs.declared.finding.Finding.{Finding}
use Rattle.osdp_rules.specs.declared.finding.Finding.TheVariants.{Nothing}
use Rattle.osdp_rules.specs.declared.verdict.Verdict.{Verdict}
use Rattle.osdp_rules.specs.declared.verdict.Verdict.TheVariants.{Unclear}

-- The device gets an address: all that was before counts no more. The panel sends bytes at a moment, with this packet in them or none, and the device
-- answers them for the rule with this number, or for none at 0. The device says bytes, with this packet in them or none.
pub data Event : Type 0 where
  device : ℕ → Event
  came : ℕ → ℕ → Option Packet → Event
  said : Option Packet → Event

-- the latest first
abbrev pub Line : Type 0
Line = List Event

-- the device's address: 0 until it gets one
abbrev pub address_of : Line → ℕ
address_of [] = 0
address_of (device address ∷ earlier) = address
address_of (_ ∷ earlier) = address_of earlier

-- the rule for which the panel's last bytes were answered
abbrev pub asked_in : Line → ℕ
asked_in [] = 0
asked_in (device address ∷ earlier) = 0
asked_in (came number moment sent ∷ earlier) = number
asked_in (said reply ∷ earlier) = asked_in earlier

-- a rule: its number, what it looks at, and whether it looks at each packet; else it looks at what comes after bytes that were answered for it
pub record Rule : Type 0 where
  pub number : ℕ
  pub aspect : Aspect
  pub is_always : Bool

abbrev pub looks : Rule → Line → Bool
looks rule earlier = rule.is_always || rule.number == asked_in earlier

-- ---- what the device at an address knows after it

abbrev pub after_event : ℕ → Event → Known → Known
after_event address (device other) k = nothing_known
after_event address (came number moment None) k = k
after_event address (came number moment (Some q)) k = after_packet address moment k q
after_event address (said None) k = after_noise k
after_event address (said (Some r)) k = after_said k r

abbrev pub known_of : ℕ → Line → Known
known_of address [] = nothing_known
known_of address (event ∷ earlier) = after_event address event (known_of address earlier)

-- ---- what it shows of a rule

abbrev pub shown : Rule → Event → Line → Finding
shown rule (came number moment (Some q)) earlier =
    if looks rule earlier then judged rule.aspect (address_of earlier) (known_of (address_of earlier) earlier) q moment else Nothing
shown rule _ earlier = Nothing

abbrev pub verdict_of : Rule → Line → Verdict
verdict_of rule [] = Unclear
verdict_of rule (event ∷ earlier) = verdict_after (verdict_of rule earlier) (shown rule event earlier)
