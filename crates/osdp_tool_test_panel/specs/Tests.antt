-- A test of a panel: what each line adds to it.
use Rattle.std.specs.Prelude.{ℕ, ◌==◌, ◌||◌, false, if◌then◌else◌, List, [], ◌∷◌, map, Option, Some, None}
use Rattle.osdp_frame.specs.Packet.{Packet}
use Rattle.osdp_panel_rules.specs.Judging.{judged}
use Rattle.osdp_panel_rules.specs.Known.{after_noise, after_packet, after_said as said_after, nothing_known}
use Rattle.osdp_panel_rules.specs.declared.known.Known.{Known}
use Rattle.osdp_tool_test.specs.Entries.{Told, after_finding, told}
use Rattle.osdp_tool_test.specs.Lines.{LeftOut}
use Rattle.osdp_tool_test.specs.Rules.{rule_in}
use Rattle.osdp_tool_test.specs.Runs.{first_of, packets_of}
use Rattle.osdp_tool_test.specs.Saying.{IsFirstBad, LinesFind, RefusesSaid, ShowsByRows, TakesSaid}
use Rattle.osdp_tool_test.specs.declared.exchange.Exchange.{Exchange}
use Rattle.osdp_tool_test.specs.declared.report.Form.{Form}
use Rattle.osdp_tool_test_panel.specs.Faults.{fault_text}
use Rattle.osdp_tool_test_panel.specs.Lines.{Line, SaidFits, device, hears, said_words, says, skips}
use Rattle.osdp_tool_test_panel.specs.Rules.{fresh_from}
use Rattle.osdp_tool_test_panel.specs.Table.{panel_rules, row}
use Rattle.osdp_tool_test_panel.specs.declared.rules.PanelRule.{PanelRule}
use Rattle.osdp_tool_test_panel.specs.declared.tested.Tested.{Tested}

-- the device's address, what it knows of the panel, the exchange before, and what was found of each rule
pub record PanelTest : Type 0 where
  pub form : Form
  pub rules : List PanelRule
  pub address : ℕ
  pub known : Known
  pub before : Option Exchange
  pub entries : List Told

abbrev pub model : Tested → PanelTest
model t = record { form = t.form; rules = t.rules.now; address = t.address; known = t.known; before = t.before; entries = map told t.entries.items }

abbrev pub new_test : Form → List PanelRule → PanelTest
new_test form rules = record { form = form; rules = rules; address = 0; known = nothing_known; before = None; entries = fresh_from 1 rules }

-- ---- a packet of the panel

-- the rule for which the device spoke before it; 0 where for none
abbrev pub asked_for : Option Exchange → ℕ
asked_for None = 0
asked_for (Some x) = x.number

-- a rule that is judged by all packets, or the one for which the device spoke before this one
abbrev pub judged_by : Form → ℕ → Known → Option Exchange → Packet → Exchange → Told → Option PanelRule → Told
judged_by form address known before p x e None = e
judged_by form address known before p x e (Some rule) =
    if rule.is_always || e.number == asked_for before
    then after_finding (judged rule.aspect address known p x.moment) (fault_text form rule.aspect before x) e
    else e

abbrev pub judged_entry : Form → List PanelRule → ℕ → Known → Option Exchange → Packet → Exchange → Told → Told
judged_entry form rules address known before p x e = judged_by form address known before p x e (rule_in rules e.number)

-- each rule is judged by it, and what is known follows it
abbrev pub after_packet_of : Exchange → Option Packet → PanelTest → PanelTest
after_packet_of x None t = t
after_packet_of x (Some p) t =
    record t { entries = map (judged_entry t.form t.rules t.address t.known t.before p x) t.entries; known = after_packet t.address x.moment t.known p }

-- ---- what the device says

abbrev pub after_first : Option Packet → Known → Known
after_first None k = after_noise k
after_first (Some r) k = said_after k r

abbrev pub after_bytes : List ℕ → Known → Known
after_bytes [] k = k
after_bytes (b ∷ bytes) k = after_first (first_of (packets_of false (b ∷ bytes))) k

abbrev pub after_hearing : List ℕ → PanelTest → PanelTest
after_hearing bytes t = record t { known = after_bytes bytes t.known }

-- ---- a line

-- the device gets an address: what was before counts no more
abbrev pub after_naming : ℕ → PanelTest → PanelTest
after_naming address t = record t { address = address; known = nothing_known; before = None }

abbrev pub after_exchange : Exchange → PanelTest → PanelTest
after_exchange x t =
    record (after_hearing x.heard.items (after_packet_of x (first_of (packets_of false x.sent.items)) t)) { before = Some x }

abbrev pub skipped_entry : LeftOut → Told → Told
skipped_entry x e = if e.number == x.number then record e { skipped = x.why } else e

abbrev pub after_said : Option Line → PanelTest → PanelTest
after_said None t = t
after_said (Some (device address)) t = after_naming address t
after_said (Some (hears x)) t = after_exchange x t
after_said (Some (says x)) t = after_hearing x.said.items t
after_said (Some (skips x)) t = record t { entries = map (skipped_entry x) t.entries }

abbrev pub entries_of : PanelTest → List Told
entries_of t = t.entries

-- what the lines of a test of a panel show of its rules
abbrev pub PanelFinds : Form → List PanelRule → List (List ℕ) → List Told → Type 0
PanelFinds form rules = LinesFind said_words SaidFits after_said (new_test form rules) entries_of

-- .. by the rules of a panel
abbrev pub PanelShows : Form → List (List ℕ) → List Told → Type 0
PanelShows = ShowsByRows row panel_rules PanelFinds

abbrev pub PanelStops : List (List ℕ) → ℕ → Type 0
PanelStops = IsFirstBad said_words SaidFits

-- the words of a line are taken, or they are those of none
abbrev pub Takes : Tested → List (List ℕ) → Tested → Type 0
Takes = TakesSaid said_words SaidFits model after_said

abbrev pub Refuses : List (List ℕ) → Type 0
Refuses = RefusesSaid said_words SaidFits
