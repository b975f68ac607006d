-- What the rules of panels come to: whom they never accuse, and what they find, by what went over the line alone.
use Rattle.std.specs.Prelude.{◌≡◌, ◌≢◌, ◌⊎◌, ◌↔◌, ℕ, Bool, true, false, List, [], ◌∷◌, ◌++◌, Some}
use Rattle.osdp_controller.specs.declared.config.ControllerConfig.{ControllerConfig}
use Rattle.osdp_frame.specs.Packet.{Packet}
use Rattle.osdp_msg.specs.declared.limits.Room.{Room}
use Rattle.osdp_panel_rules.specs.Line.{Line, Rule, came, verdict_of}
use Rattle.osdp_panel_rules.specs.declared.aspect.Aspect.{Aspect}
use Rattle.osdp_panel_rules.specs.declared.aspect.Aspect.TheVariants as rule
use Rattle.osdp_rules.specs.Packets.{code_of}
use Rattle.osdp_rules.specs.declared.verdict.Verdict.TheVariants.{Unclear, Ok, Either, Broken}
use Rattle.osdp_panel_rules_laws.specs.Before.{IsAt, WasFor}
use Rattle.osdp_panel_rules_laws.specs.Breaks.{Breaks, IsOrder, Keeps, LeavesOpen}
use Rattle.osdp_panel_rules_laws.specs.Runs.{AreAllowed, Move, new_tested, run}

-- ---- what each rule finds, and whom it never accuses

-- a rule looks at each packet, or at the next one after what was answered for it
abbrev pub Looks : Rule → Line → Type 0
Looks rule earlier = (rule.is_always ≡ true) ⊎ WasFor rule.number earlier

-- at some place of the line, at which the rule looks, a packet came that does this, whatever came later
pub record Somewhere (Does : ℕ → Line → ℕ → Packet → Aspect → Type 0) (rule : Rule) (line : Line) : Type 0 where
  pub later : Line
  pub number : ℕ
  pub moment : ℕ
  pub packet : Packet
  pub earlier : Line
  pub whole : line ≡ later ++ came number moment (Some packet) ∷ earlier
  pub there : Looks rule earlier
  pub address : ℕ
  pub at : IsAt address earlier
  pub does : Does address earlier moment packet rule.aspect

abbrev pub IsNowhere : (ℕ → Line → ℕ → Packet → Aspect → Type 0) → Rule → Line → Type 0
IsNowhere Does rule line = Somewhere Does rule line → ⊥

-- rules are numbered from 1
abbrev pub IsNumbered : Rule → Type 0
IsNumbered rule = rule.number ≢ 0

-- broken where a packet breaks the rule
abbrev pub Finds : Type 0
Finds = (rule : Rule) (line : Line) → IsNumbered rule → Somewhere Breaks rule line → verdict_of rule line ≡ Broken

-- .. and only there
abbrev pub NeverAccuses : Type 0
NeverAccuses = (rule : Rule) (line : Line) → IsNumbered rule → IsNowhere Breaks rule line → verdict_of rule line ≢ Broken

-- left open where none does, and one leaves it open
abbrev pub TellsOpen : Type 0
TellsOpen = (rule : Rule) (line : Line) → IsNumbered rule
    → (verdict_of rule line ≡ Either) ↔ (IsNowhere Breaks rule line × Somewhere LeavesOpen rule line)

-- ok where none does either, and one keeps it
abbrev pub TellsOk : Type 0
TellsOk = (rule : Rule) (line : Line) → IsNumbered rule
    → (verdict_of rule line ≡ Ok) ↔ (IsNowhere Breaks rule line × IsNowhere LeavesOpen rule line × Somewhere Keeps rule line)

-- unclear where none does anything of these
abbrev pub TellsUnclear : Type 0
TellsUnclear = (rule : Rule) (line : Line) → IsNumbered rule
    → (verdict_of rule line ≡ Unclear) ↔ (IsNowhere Breaks rule line × IsNowhere LeavesOpen rule line × IsNowhere Keeps rule line)

-- ---- our own panel

-- two rules are judged by the clock
abbrev pub needs_clock : Aspect → Bool
needs_clock rule.Wait = true
needs_clock rule.Online = true
needs_clock _ = false

-- whatever its settings, whatever is called at whatever moments, whatever the device says, and whatever is lost or late: our panel breaks no other rule
abbrev pub BreaksNoRule : Type 0
BreaksNoRule = (rule : Rule) → needs_clock rule.aspect ≡ false → (address : ℕ) (config : ControllerConfig) (room : Room) (moves : List Move)
    → AreAllowed address moves (new_tested address config room)
    → verdict_of rule (run address moves (new_tested address config room)).line ≢ Broken

-- ---- which packets are orders

-- packets with these codes are orders, or aren't
abbrev pub AreOrders : List ℕ → Type 0
AreOrders [] = Unit {0}
AreOrders (code ∷ codes) = ((p : Packet) → code_of p ≡ code → IsOrder p) × AreOrders codes

abbrev pub AreNoOrders : List ℕ → Type 0
AreNoOrders [] = Unit {0}
AreNoOrders (code ∷ codes) = ((p : Packet) → code_of p ≡ code → IsOrder p → ⊥) × AreNoOrders codes

-- OUT, LED, BUZ, TEXT, COMSET and MFG are
abbrev pub KnowsOrders : Type 0
KnowsOrders = AreOrders (0x68 ∷ 0x69 ∷ 0x6A ∷ 0x6B ∷ 0x6E ∷ 0x80 ∷ [])

-- POLL, ID, CAP, LSTAT, ISTAT, OSTAT and RSTAT aren't
abbrev pub KnowsQuestions : Type 0
KnowsQuestions = AreNoOrders (0x60 ∷ 0x61 ∷ 0x62 ∷ 0x64 ∷ 0x65 ∷ 0x66 ∷ 0x67 ∷ [])
