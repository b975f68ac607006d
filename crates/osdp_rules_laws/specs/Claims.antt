-- What the rules about CAP come to: whom they never accuse, and what they find.
use Rattle.std.specs.Prelude.{◌≡◌, ◌≢◌, ℕ, false, List, [], ◌∷◌, ◌++◌, length, Some, Ok}
use Rattle.osdp_frame.specs.Packet.{Packet}
use Rattle.osdp_msg.specs.Values.{Held, NakValue, TextValue}
use Rattle.osdp_msg.specs.declared.capability.Capability.{Capability}
use Rattle.osdp_msg.specs.declared.command.Command.{Command}
use Rattle.osdp_msg.specs.declared.command.Command.TheVariants.{InputStatus, OutputStatus, ReaderStatus, Output, Led, Text}
use Rattle.osdp_msg.specs.declared.leds.LedRecord.{LedRecord}
use Rattle.osdp_msg.specs.declared.outputs.OutputRecord.{OutputRecord}
use Rattle.osdp_msg.specs.declared.reply.Reply.TheVariants.{Nak}
use Rattle.osdp_reader.specs.declared.handler.Answer.{Answer}
use Rattle.osdp_reader.specs.declared.handler.Answer.TheVariants as answer
use Rattle.osdp_reader.specs.State.{ReaderState}
use Rattle.osdp_rules.specs.Claiming.{are_leds, are_outputs, claim_judged}
use Rattle.osdp_rules.specs.Claims.{claims_of}
use Rattle.osdp_rules.specs.Packets.{asked, told}
use Rattle.osdp_rules.specs.Runs.{Sent, verdict_on}
use Rattle.osdp_rules.specs.declared.aspect.Aspect.{Aspect}
use Rattle.osdp_rules.specs.declared.claims.Claims.{Claims}
use Rattle.osdp_rules.specs.declared.finding.Finding.TheVariants.{Broken}
use Rattle.osdp_rules.specs.declared.known.Known.{Known}
use Rattle.osdp_rules.specs.declared.verdict.Verdict.TheVariants as verdict
use Rattle.osdp_rules_laws.specs.Runs.{Exchange, Follows, WereSaid}

module _ {H : Type 0} (answer_of : H → Command → Answer) where
  -- a handler that does what CAP says: its lists have as many entries, and what there isn't it doesn't do
  pub record KeepsClaims (claims : Claims) : Type 0 where
    pub inputs : (h : H) (n : ℕ) (states : Held) → claims.inputs ≡ Some n → answer_of h InputStatus ≡ answer.List states → length states.items ≡ n
    pub outputs : (h : H) (n : ℕ) (states : Held) → claims.outputs ≡ Some n → answer_of h OutputStatus ≡ answer.List states → length states.items ≡ n
    pub no_output : (h : H) (n : ℕ) (records : List OutputRecord) → claims.outputs ≡ Some n → are_outputs n records ≡ false
        → answer_of h (Output records) ≢ answer.Done
    pub no_led : (h : H) (n : ℕ) (records : List LedRecord) → claims.leds ≡ Some n → are_leds n records ≡ false
        → answer_of h (Led records) ≢ answer.Done
    pub no_display : (h : H) (text : TextValue) → claims.text ≡ Some 0 → answer_of h (Text text) ≢ answer.Done

module _ {H : Type 0} where
  -- its CAP stays what it is
  abbrev pub SaysStill : List Capability → List (Exchange H) → Type 0
  SaysStill caps [] = Unit {0}
  SaysStill caps (x ∷ xs) = (x.reader.config.caps.items ≡ caps) × SaysStill caps xs

  module _ (answer_of : H → Command → Answer) (after : H → Command → H) where
    -- a reader of ours whose handler does what its CAP says: whatever is sent, in whatever state it is, and whatever is lost
    abbrev pub BreaksNoClaim : Type 0
    BreaksNoClaim = (aspect : Aspect) (r : ReaderState H) (xs : List (Exchange H)) (earlier scenario : List Sent) → Follows answer_of after r xs
        → SaysStill r.config.caps.items xs → KeepsClaims answer_of (claims_of r.config.caps.items)
        → WereSaid answer_of after xs (earlier ++ scenario) → verdict_on aspect r.config.address earlier scenario ≢ verdict.Broken

-- ---- what they leave open: to refuse is never a lie, and a device may count itself among its readers or not

abbrev pub RefusalIsNoLie : Type 0
RefusalIsNoLie = (aspect : Aspect) (address : ℕ) (k : Known) (claims : Claims) (p a : Packet) (n : NakValue) → told a ≡ Ok (Nak n)
    → claim_judged aspect address k claims p (Some a) ≢ Broken

abbrev pub ReadersAreOpen : Type 0
ReadersAreOpen = (aspect : Aspect) (address : ℕ) (k : Known) (claims : Claims) (p a : Packet) → asked p ≡ Ok ReaderStatus
    → claim_judged aspect address k claims p (Some a) ≢ Broken
