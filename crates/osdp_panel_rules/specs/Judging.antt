-- What a packet of a panel shows of a rule, by what is known before it.
use Rattle.std.specs.Prelude.{ℕ, ◌-◌, ◌==◌, if◌then◌else◌, Option, Some, None}
use Rattle.osdp_frame.specs.Packet.{Packet}
use Rattle.osdp_panel_rules.specs.Findings.{again_finding, copy_finding, damage_finding, is_order, lapse_finding, online_finding, refusal_finding, sequel_of, taken_finding, turn_finding, wait_finding}
use Rattle.osdp_panel_rules.specs.Saying.{is_answer}
use Rattle.osdp_panel_rules.specs.declared.aspect.Aspect.{Aspect}
use Rattle.osdp_panel_rules.specs.declared.aspect.Aspect.TheVariants as rule
use Rattle.osdp_panel_rules.specs.declared.known.Known.{Known}
use Rattle.osdp_panel_rules.specs.declared.said.Said.{Said}
use Rattle.osdp_panel_rules.specs.declared.said.Said.TheVariants.{Silence, Noise, Astray, Busy, Damage, Refusal}
use Rattle.osdp_panel_rules.specs.declared.sequel.Sequel.{Sequel}
use Rattle.osdp_panel_rules.specs.declared.sequel.Sequel.TheVariants.{Again, Next}
use Rattle.osdp_rules.specs.declared.finding.Finding.{Finding}
use Rattle.osdp_rules.specs.declared.finding.Finding.TheVariants.{Nothing, Kept, Either, Broken}

-- after what was said to a packet that has no answer
abbrev pub unanswered_judged : Aspect → Said → Packet → ℕ → Sequel → Finding
unanswered_judged rule.Silence Silence p number s = again_finding s
unanswered_judged rule.Order Silence p number s = if is_order p then again_finding s else Nothing
unanswered_judged rule.Lapse Silence p number s = lapse_finding number s
unanswered_judged rule.Noise Noise p number s = again_finding s
unanswered_judged rule.Astray Astray p number s = again_finding s
unanswered_judged rule.Busy Busy p number s = again_finding s
unanswered_judged rule.Damage Damage p number s = damage_finding s
unanswered_judged rule.Refusal Refusal p number s = refusal_finding number s
unanswered_judged _ _ p number s = Nothing

-- a copy to which nothing was said: at number 0 a panel may have started anew
abbrev pub wait_judged : Said → Sequel → ℕ → ℕ → Finding
wait_judged Silence Again number wait = if number == 0 then Nothing else wait_finding wait
wait_judged _ _ number wait = Nothing

-- the next number shows that the session lasts
abbrev pub online_judged : Sequel → ℕ → Finding
online_judged Next wait = online_finding wait
online_judged _ wait = Nothing

-- a packet that follows another one so, with this number, so many milliseconds later
abbrev pub last_judged : Aspect → Known → Packet → ℕ → Sequel → ℕ → Finding
last_judged rule.Turn k p number s wait = turn_finding s
last_judged rule.Copy k p number s wait = copy_finding s
last_judged rule.Answer k p number s wait = if is_answer k.said then taken_finding s else Nothing
last_judged rule.Wait k p number s wait = if k.answered then Nothing else wait_judged k.said s number wait
last_judged rule.Online k p number s wait = if k.answered then online_judged s wait else Nothing
last_judged aspect k p number s wait = if k.answered then Nothing else unanswered_judged aspect k.said p number s

abbrev pub after_judged : Option Packet → Aspect → Known → Packet → ℕ → Finding
after_judged None aspect k q moment = Nothing
after_judged (Some p) aspect k q moment = last_judged aspect k p q.sequence (sequel_of p q) (moment - k.moment)

-- a packet to the device
abbrev pub sent_judged : Aspect → Known → Packet → ℕ → Finding
sent_judged rule.Asks k q moment = Kept
sent_judged rule.Reserved k q moment = if q.reserved == 0 then Kept else Either
sent_judged rule.Plain k q moment = if q.block then Either else Kept
sent_judged aspect k q moment = after_judged k.last aspect k q moment

-- a packet that is one of the device itself by its bit 7
abbrev pub reply_judged : Aspect → Finding
reply_judged rule.Asks = Broken
reply_judged _ = Nothing

-- what a packet shows of a rule that comes at a moment
abbrev pub judged : Aspect → ℕ → Known → Packet → ℕ → Finding
judged aspect address k q moment =
    if q.address == address then (if q.reply then reply_judged aspect else sent_judged aspect k q moment) else Nothing
