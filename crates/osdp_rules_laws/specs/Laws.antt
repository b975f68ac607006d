-- What the rules come to: whom they never accuse, and what they find.
use Rattle.std.specs.Prelude.{◌≡◌, ◌≢◌, ◌⊎◌, ◌≤◌, ℕ, true, false, List, ◌++◌, Some, None, Err}
use Rattle.osdp_frame.specs.Packet.{Packet}
use Rattle.osdp_msg.specs.declared.command.Command.{Command}
use Rattle.osdp_msg.specs.declared.fault.MsgFault.TheVariants.{UnknownCode}
use Rattle.osdp_reader.specs.declared.handler.Answer.{Answer}
use Rattle.osdp_reader.specs.State.{ReaderState}
use Rattle.osdp_rules.specs.Findings.{is_answer}
use Rattle.osdp_rules.specs.Judging.{judged, noise_judged}
use Rattle.osdp_rules.specs.Packets.{code_of, has_reason, is_busy, is_nak, is_to, told}
use Rattle.osdp_rules.specs.Runs.{Sent, verdict_on}
use Rattle.osdp_rules.specs.declared.aspect.Aspect.{Aspect}
use Rattle.osdp_rules.specs.declared.aspect.Aspect.TheVariants as rule
use Rattle.osdp_rules.specs.declared.finding.Finding.TheVariants.{Broken}
use Rattle.osdp_rules.specs.declared.known.Known.{Known}
use Rattle.osdp_rules.specs.declared.verdict.Verdict.TheVariants as verdict
use Rattle.osdp_rules_laws.specs.Runs.{Exchange, Follows, WereSaid}

-- all rules but those about CAP
abbrev pub IsNotOfCap : Aspect → Type 0
IsNotOfCap rule.Listed = ⊥
IsNotOfCap rule.Beyond = ⊥
IsNotOfCap aspect = Unit {0}

module _ {H : Type 0} (answer_of : H → Command → Answer) (after : H → Command → H) where
  -- whatever is sent to a reader of ours in whatever state, whatever its device does, and whatever is lost: no rule is broken, in whatever scenarios this is judged
  abbrev pub BreaksNoRule : Type 0
  BreaksNoRule = (aspect : Aspect) (r : ReaderState H) (xs : List (Exchange H)) (earlier scenario : List Sent) → IsNotOfCap aspect
      → Follows answer_of after r xs → WereSaid answer_of after xs (earlier ++ scenario)
      → verdict_on aspect r.config.address earlier scenario ≢ verdict.Broken

-- ---- what shows nothing, and what the standard leaves open

-- silence breaks no rule: what wasn't heard may be lost
abbrev pub SilenceBreaksNothing : Type 0
SilenceBreaksNothing = (aspect : Aspect) (address : ℕ) (k : Known) (p : Packet) → judged aspect address k p None ≢ Broken

-- nor does NAK 1: the packet came damaged
abbrev pub DamageBreaksNothing : Type 0
DamageBreaksNothing = (aspect : Aspect) (address : ℕ) (k : Known) (p a : Packet) → is_to address p ≡ true → has_reason 1 a ≡ true
    → judged aspect address k p (Some a) ≢ Broken

-- a refusal with another reason than ours, where one is asked
abbrev pub AnyRefusalIsOne : Type 0
AnyRefusalIsOne = (aspect : Aspect) (address : ℕ) (k : Known) (p a : Packet) → is_to address p ≡ true → is_nak a ≡ true
    → (aspect ≡ rule.Code) ⊎ (aspect ≡ rule.Length) ⊎ (aspect ≡ rule.Wrong) ⊎ (aspect ≡ rule.Block) ⊎ (aspect ≡ rule.Fit)
    → judged aspect address k p (Some a) ≢ Broken

-- a device that is busy says so at any packet, also at one that comes again: with number 0 or that of its packet
abbrev pub MayBeBusy : Type 0
MayBeBusy = (aspect : Aspect) (address : ℕ) (k : Known) (p a : Packet) → is_to address p ≡ true → is_busy a ≡ true
    → (a.sequence ≡ 0) ⊎ (a.sequence ≡ p.sequence)
    → (aspect ≡ rule.Number) ⊎ (aspect ≡ rule.Busy) ⊎ (aspect ≡ rule.Repeat) ⊎ (aspect ≡ rule.Wrong) ⊎ (aspect ≡ rule.Turn) ⊎ (aspect ≡ rule.Fit)
    → judged aspect address k p (Some a) ≢ Broken

-- a command from code 60 on that our tables don't have may be one that the standard has, or a maker's: whatever is answered
abbrev pub OtherCodesBreakNothing : Type 0
OtherCodesBreakNothing = (address : ℕ) (k : Known) (p a : Packet) → is_to address p ≡ true → 0x60 ≤ code_of p
    → judged rule.Code address k p (Some a) ≢ Broken

-- What else is left to a device: from 127 it may answer with its own address. A reply that our tables don't have is no answer of another command, and its maker reads it.
-- A security block may be answered by anything, and noise by a NAK.
pub record MayDiffer (address : ℕ) (k : Known) (p a : Packet) : Type 0 where
  pub own_address : p.address ≡ 127 → judged rule.Address address k p (Some a) ≢ Broken
  pub other_answers : is_answer (code_of a) ≡ false → judged rule.Fit address k p (Some a) ≢ Broken
  pub other_replies : told a ≡ Err UnknownCode → judged rule.Read address k p (Some a) ≢ Broken
  pub block : judged rule.Block address k p (Some a) ≢ Broken
  pub noise : is_nak a ≡ true → noise_judged rule.Deaf (Some a) ≢ Broken

abbrev pub DevicesMayDiffer : Type 0
DevicesMayDiffer = (address : ℕ) (k : Known) (p a : Packet) → is_to address p ≡ true → MayDiffer address k p a
