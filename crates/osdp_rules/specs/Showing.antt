-- What an exchange shows of a rule.
use Rattle.std.specs.Prelude.{ℕ, Option, Some, None, is_some, if◌then◌else◌}
use Rattle.osdp_frame.specs.Packet.{Packet}
use Rattle.osdp_rules.specs.Claiming.{claim_judged}
use Rattle.osdp_rules.specs.Findings.{prompt_finding}
use Rattle.osdp_rules.specs.Judging.{count_judged, judged, noise_judged}
use Rattle.osdp_rules.specs.declared.aspect.Aspect.{Aspect}
use Rattle.osdp_rules.specs.declared.aspect.Aspect.TheVariants.{Single, Prompt, Listed, Beyond}
use Rattle.osdp_rules.specs.declared.claims.Claims.{Claims}
use Rattle.osdp_rules.specs.declared.finding.Finding.{Finding}
use Rattle.osdp_rules.specs.declared.finding.Finding.TheVariants.{Nothing}
use Rattle.osdp_rules.specs.declared.known.Known.{Known}

-- by what the device said by CAP, or by what is known of its numbers
abbrev pub packet_shown : Aspect → ℕ → Known → Claims → Packet → Option Packet → Finding
packet_shown Listed address k claims p answer = claim_judged Listed address k claims p answer
packet_shown Beyond address k claims p answer = claim_judged Beyond address k claims p answer
packet_shown aspect address k claims p answer = judged aspect address k p answer

-- a packet, or bytes that hold none, and what was heard
abbrev pub bytes_shown : Aspect → ℕ → Known → Claims → Option Packet → Option Packet → Finding
bytes_shown aspect address k claims (Some p) answer = packet_shown aspect address k claims p answer
bytes_shown aspect address k claims None answer = noise_judged aspect answer

abbrev pub shown : Aspect → ℕ → Known → Claims → Option Packet → Option Packet → ℕ → ℕ → Finding
shown Single address k claims packet answer count delay = count_judged Single count
shown Prompt address k claims packet answer count delay = if is_some answer then prompt_finding delay else Nothing
shown aspect address k claims packet answer count delay = bytes_shown aspect address k claims packet answer
