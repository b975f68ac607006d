-- What a place in a list of what was sent and heard shows of each rule: that it breaks the rule, keeps it, or does what the standard leaves open.
use Rattle.std.specs.Prelude.{◌≡◌, ◌≢◌, ◌⊎◌, ◌<◌, ◌≤◌, ℕ, true, false, List, [], length, Some, None, Ok, Err}
use Rattle.osdp_frame.specs.Packet.{Packet}
use Rattle.osdp_msg.specs.Fitting.{fitting_codes}
use Rattle.osdp_msg.specs.declared.command.Command.{Command}
use Rattle.osdp_msg.specs.declared.fault.MsgFault.TheVariants.{UnknownCode, Length, Count}
use Rattle.osdp_msg.specs.declared.reply.Reply.{Reply}
use Rattle.osdp_rules.specs.Packets.{asked, told}
use Rattle.osdp_rules.specs.Runs.{Sent, heard}
use Rattle.osdp_rules.specs.declared.aspect.Aspect.{Aspect}
use Rattle.osdp_rules.specs.declared.aspect.Aspect.TheVariants as rule
use Rattle.osdp_rules.specs.declared.finding.Finding.{Finding}
use Rattle.osdp_rules.specs.declared.finding.Finding.TheVariants.{Nothing, Kept, Either, Broken}
use Rattle.osdp_rules_laws.specs.Caps.{BeyondShows, ListedShows}
use Rattle.osdp_rules_laws.specs.Lists.{IsAgain, IsAnswered, IsNew, IsOutOfTurn, NoComset}
use Rattle.osdp_rules_laws.specs.Terms.{IsBusy, IsNak, IsNakOf, IsOneOf, IsServed, IsTo, answer_codes, code}

-- ---- how a finding follows

-- kept where this holds, and broken elsewhere
abbrev pub KeptIf : Type 0 → Finding → Type 0
KeptIf P Kept = P
KeptIf P Broken = P → ⊥
KeptIf P Either = ⊥
KeptIf P Nothing = ⊥

-- kept where the first holds, else left open where the second does, and broken elsewhere
abbrev pub KeptOrOpen : Type 0 → Type 0 → Finding → Type 0
KeptOrOpen P Q Kept = P
KeptOrOpen P Q Either = (P → ⊥) × Q
KeptOrOpen P Q Broken = (P → ⊥) × (Q → ⊥)
KeptOrOpen P Q Nothing = ⊥

-- ---- what an answer to a packet with a new number shows

-- it has the address of the packet; from 127 a device may answer with its own
abbrev pub AddressShows : Finding → Packet → Packet → Type 0
AddressShows Kept p a = (p.address ≢ 127) × (a.address ≡ p.address)
AddressShows Broken p a = (p.address ≢ 127) × (a.address ≢ p.address)
AddressShows Either p a = p.address ≡ 127
AddressShows Nothing p a = ⊥

-- the number of the packet; BUSY has a rule of its own
abbrev pub NumberShows : Finding → Packet → Packet → Type 0
NumberShows f p a = (IsBusy a → ⊥) × KeptIf (a.sequence ≡ p.sequence) f

-- a code that fits the command; the answer of another command is none, and what else a maker answers is left open
abbrev pub CodeFits : Finding → Command → ℕ → Type 0
CodeFits Kept c n = IsOneOf (fitting_codes c) n
CodeFits Broken c n = (IsOneOf (fitting_codes c) n → ⊥) × IsOneOf answer_codes n
CodeFits Either c n = (IsOneOf (fitting_codes c) n → ⊥) × (IsOneOf answer_codes n → ⊥)
CodeFits Nothing c n = ⊥

abbrev pub FitShows : Finding → Packet → Packet → Type 0
FitShows f p a = (c : Command) × (asked p ≡ Ok c) × CodeFits f c (code a)

-- POLL, ID and CAP are not refused
abbrev pub ServedShows : Finding → Packet → Packet → Type 0
ServedShows f p a = IsServed p × KeptIf (code a ≢ 0x41) f

-- a refusal with this reason is asked; one with another, and BUSY, are left open
abbrev pub RefusalShows : ℕ → Finding → Packet → Type 0
RefusalShows reason f a = KeptOrOpen (IsNakOf reason a) (IsNak a ⊎ IsBusy a) f

-- a code below 60 that no command has
abbrev pub CodeShows : Finding → Packet → Packet → Type 0
CodeShows f p a = (asked p ≡ Err UnknownCode) × (code p < 0x60) × RefusalShows 3 f a

-- a command with a wrong length or count
abbrev pub LengthShows : Finding → Packet → Packet → Type 0
LengthShows f p a = ((asked p ≡ Err Length) ⊎ (asked p ≡ Err Count)) × RefusalShows 2 f a

-- a reply of the table has a length and counts that it allows; other replies their maker reads
abbrev pub ReadShows : Finding → Packet → Type 0
ReadShows Kept a = (x : Reply) × (told a ≡ Ok x)
ReadShows Broken a = (told a ≡ Err Length) ⊎ (told a ≡ Err Count)
ReadShows Either a = told a ≡ Err UnknownCode
ReadShows Nothing a = ⊥

-- BUSY has number 0; with the number of its packet it is understood too
abbrev pub BusyShows : Finding → Packet → Packet → Type 0
BusyShows f p a = IsBusy a × KeptOrOpen (a.sequence ≡ 0) (a.sequence ≡ p.sequence) f

-- ---- what another answer shows

-- a packet that comes again has the answer that it had, byte for byte; whether a busy device says BUSY then is left open
abbrev pub AgainShows : Finding → Packet → Packet → Type 0
AgainShows f first a = KeptOrOpen (a ≡ first) (IsBusy a) f

-- a security block is refused by NAK 5; what else a device does with one is left open
abbrev pub BlockShows : Finding → Packet → Type 0
BlockShows Kept a = IsNakOf 5 a
BlockShows Either a = IsNakOf 5 a → ⊥
BlockShows Broken a = ⊥
BlockShows Nothing a = ⊥

-- NAK 4 to a packet with a new number breaks its rule, and each other answer keeps it
abbrev pub TurnShows : Finding → Packet → Type 0
TurnShows Kept a = IsNakOf 4 a → ⊥
TurnShows Broken a = IsNakOf 4 a
TurnShows Either a = ⊥
TurnShows Nothing a = ⊥

-- ---- silence, second answers, and times

-- what isn't to the device it doesn't answer
abbrev pub QuietShows : Finding → Sent → Type 0
QuietShows f x = KeptIf (x.answers ≡ []) f

-- bytes that hold no packet it doesn't answer; a NAK is left open
abbrev pub DeafShows : Finding → Sent → Type 0
DeafShows f x = KeptOrOpen (x.answers ≡ []) ((a : Packet) × (heard x ≡ Some a) × IsNak a) f

-- a packet has one answer; where none came nothing is shown
abbrev pub SingleShows : Finding → Sent → Type 0
SingleShows f x = (1 ≤ length x.answers) × KeptIf (length x.answers ≤ 1) f

-- an answer begins within 200 ms
abbrev pub PromptShows : Finding → Sent → Type 0
PromptShows f x = (1 ≤ length x.answers) × KeptIf (x.delay ≤ 200) f

-- ---- the rules

module _ (address : ℕ) where
  -- the answer to a packet with a new number; NAK 4 says that the number was refused
  abbrev pub ToNew : (Packet → Packet → Type 0) → List Sent → Sent → Type 0
  ToNew Shows past x =
      (p : Packet) × (a : Packet) × IsAnswered address past x p a × (p.block ≡ false) × IsNew address past p × (IsNakOf 4 a → ⊥) × Shows p a

  abbrev pub ToNumber : (Packet → Type 0) → List Sent → Sent → Type 0
  ToNumber Shows past x = (p : Packet) × (a : Packet) × IsAnswered address past x p a × (p.block ≡ false) × IsNew address past p × Shows a

  abbrev pub ToAgain : (Packet → Packet → Type 0) → List Sent → Sent → Type 0
  ToAgain Shows past x =
      (p : Packet) × (a : Packet) × (first : Packet) × IsAnswered address past x p a × (p.block ≡ false) × IsAgain address past p first × Shows first a

  abbrev pub ToOutOfTurn : (Packet → Type 0) → List Sent → Sent → Type 0
  ToOutOfTurn Shows past x =
      (p : Packet) × (a : Packet) × IsAnswered address past x p a × (p.block ≡ false) × IsOutOfTurn address past p × Shows a

  abbrev pub ToBlock : (Packet → Type 0) → List Sent → Sent → Type 0
  ToBlock Shows past x = (p : Packet) × (a : Packet) × IsAnswered address past x p a × (p.block ≡ true) × Shows a

  abbrev pub ToOthers : (Sent → Type 0) → List Sent → Sent → Type 0
  ToOthers Shows past x = NoComset past × ((p : Packet) × (x.packet ≡ Some p) × (IsTo address p → ⊥)) × Shows x

  -- what a place shows of each rule
  abbrev pub Shows : Aspect → Finding → List Sent → Sent → Type 0
  Shows rule.Address f past x = ToNew (AddressShows f) past x
  Shows rule.Check f past x = ToNew (λ p a. KeptIf (a.check ≡ p.check) f) past x
  Shows rule.Number f past x = ToNew (NumberShows f) past x
  Shows rule.Plain f past x = ToNew (λ p a. KeptIf (a.block ≡ false) f) past x
  Shows rule.Turn f past x = ToNumber (TurnShows f) past x
  Shows rule.Fit f past x = ToNew (FitShows f) past x
  Shows rule.Served f past x = ToNew (ServedShows f) past x
  Shows rule.Code f past x = ToNew (CodeShows f) past x
  Shows rule.Length f past x = ToNew (LengthShows f) past x
  Shows rule.Read f past x = ToNew (λ p a. ReadShows f a) past x
  Shows rule.Busy f past x = ToNew (BusyShows f) past x
  Shows rule.Repeat f past x = ToAgain (AgainShows f) past x
  Shows rule.Wrong f past x = ToOutOfTurn (RefusalShows 4 f) past x
  Shows rule.Block f past x = ToBlock (BlockShows f) past x
  Shows rule.Quiet f past x = ToOthers (QuietShows f) past x
  Shows rule.Deaf f past x = (x.packet ≡ None) × DeafShows f x
  Shows rule.Single f past x = SingleShows f x
  Shows rule.Prompt f past x = PromptShows f x
  Shows rule.Listed f past x = ToNew (λ p a. (IsBusy a → ⊥) × ListedShows address f past (asked p) (told a)) past x
  Shows rule.Beyond f past x = ToNew (λ p a. (IsBusy a → ⊥) × BeyondShows address f past (asked p) (told a)) past x
