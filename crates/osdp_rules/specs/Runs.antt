-- What was sent and heard in a test of a device, and the verdict that it comes to.
use Rattle.std.specs.Prelude.{ℕ, Bool, true, false, List, [], ◌∷◌, length, Option, Some, None}
use Rattle.osdp_frame.specs.Packet.{Packet}
use Rattle.osdp_rules.specs.Claims.{claims_after, no_claims}
use Rattle.osdp_rules.specs.Known.{known_after}
use Rattle.osdp_rules.specs.Showing.{shown}
use Rattle.osdp_rules.specs.Verdicts.{verdict_after}
use Rattle.osdp_rules.specs.declared.aspect.Aspect.{Aspect}
use Rattle.osdp_rules.specs.declared.claims.Claims.{Claims}
use Rattle.osdp_rules.specs.declared.finding.Finding.{Finding}
use Rattle.osdp_rules.specs.declared.known.Known.{Known}
use Rattle.osdp_rules.specs.declared.known.Known.TheVariants.{Unknown}
use Rattle.osdp_rules.specs.declared.verdict.Verdict.{Verdict}
use Rattle.osdp_rules.specs.declared.verdict.Verdict.TheVariants.{Unclear}

-- what went over the line: a packet that was sent, or bytes that hold none, and what came back before the next was sent
pub record Sent : Type 0 where
  -- whether the rule of its scenario is judged by it
  pub asks : Bool
  pub packet : Option Packet
  pub answers : List Packet
  -- after how many milliseconds the first answer began
  pub delay : ℕ

abbrev pub first_answer : List Packet → Option Packet
first_answer [] = None
first_answer (a ∷ more) = Some a

abbrev pub heard : Sent → Option Packet
heard x = first_answer x.answers

-- bytes without a packet change nothing of what is known
abbrev pub known_next : ℕ → Option Packet → Option Packet → Known → Known
known_next address None answer known = known
known_next address (Some p) answer known = known_after address p answer known

abbrev pub claims_next : ℕ → Known → Option Packet → Option Packet → Claims → Claims
claims_next address known None answer claims = claims
claims_next address known (Some p) answer claims = claims_after address known p answer claims

-- what is known after all of these, and what the device then says by CAP
abbrev pub known_along : ℕ → Known → List Sent → Known
known_along address k [] = k
known_along address k (x ∷ xs) = known_along address (known_next address x.packet (heard x) k) xs

abbrev pub claims_along : ℕ → Known → Claims → List Sent → Claims
claims_along address k claims [] = claims
claims_along address k claims (x ∷ xs) =
    claims_along address (known_next address x.packet (heard x) k) (claims_next address k x.packet (heard x) claims) xs

-- what one of them shows of a rule, by what is known before it
abbrev pub found : Aspect → ℕ → Known → Claims → Sent → Finding
found aspect address k claims x = shown aspect address k claims x.packet (heard x) (length x.answers) x.delay

abbrev pub verdict_with : Bool → Finding → Verdict → Verdict
verdict_with true f v = verdict_after v f
verdict_with false f v = v

abbrev pub verdict_from : Aspect → ℕ → Known → Claims → Verdict → List Sent → Verdict
verdict_from aspect address k claims v [] = v
verdict_from aspect address k claims v (x ∷ xs) =
    verdict_from aspect address (known_next address x.packet (heard x) k) (claims_next address k x.packet (heard x) claims)
    (verdict_with x.asks (found aspect address k claims x) v) xs

-- the verdict on a rule by its scenario, after what was sent and heard before it
abbrev pub verdict_on : Aspect → ℕ → List Sent → List Sent → Verdict
verdict_on aspect address earlier scenario =
    verdict_from aspect address (known_along address Unknown earlier) (claims_along address Unknown no_claims earlier) Unclear scenario
