-- What the lines of a test of a panel say went over the line, and that the verdicts are told by it.
use Rattle.std.specs.Prelude.{◌≡◌, ℕ, ◌+◌, ◌==◌, false, if◌then◌else◌, List, [], ◌∷◌, map, Option, Some, None}
use Rattle.osdp_panel_rules.specs.Line.{Line as Happened, Rule, came, device as named, said as spoke, verdict_of}
use Rattle.osdp_rules.specs.declared.verdict.Verdict.{Verdict}
use Rattle.osdp_tool_test.specs.Entries.{Told}
use Rattle.osdp_tool_test.specs.Runs.{first_of, packets_of}
use Rattle.osdp_tool_test.specs.Saying.{LinesSay}
use Rattle.osdp_tool_test.specs.declared.report.Form.{Form}
use Rattle.osdp_tool_test_panel.specs.Lines.{Line, SaidFits, device, hears, said_words, says, skips}
use Rattle.osdp_tool_test_panel.specs.Table.{Row, panel_rules}
use Rattle.osdp_tool_test_panel.specs.Tests.{PanelShows}

-- the device has said bytes: the first packet in them counts; of none it has said nothing
abbrev pub spoken : List ℕ → Happened → Happened
spoken [] line = line
spoken (b ∷ bytes) line = spoke (first_of (packets_of false (b ∷ bytes))) ∷ line

-- what a line says, the latest first: of an exchange the first packet in what was read, and then what was said to it
abbrev pub happened : Option Line → Happened → Happened
happened None line = line
happened (Some (device address)) line = named address ∷ line
happened (Some (hears x)) line = spoken x.heard.items (came x.number x.moment (first_of (packets_of false x.sent.items)) ∷ line)
happened (Some (says x)) line = spoken x.said.items line
happened (Some (skips x)) line = line

abbrev pub happened_along : List (Option Line) → Happened → Happened
happened_along [] line = line
happened_along (said ∷ more) line = happened_along more (happened said line)

-- the rules of these rows, the first of which has this number
abbrev pub rule_of_row : ℕ → Row → Rule
rule_of_row number row = record { number = number; aspect = row.0; is_always = row.2 }

-- why a rule's scenario was left out: what the last line says that leaves it out, and nothing where none does
abbrev pub left_out : Option Line → (ℕ → List ℕ) → ℕ → List ℕ
left_out (Some (skips x)) why number = if number == x.number then x.why else why number
left_out _ why number = why number

abbrev pub left_out_along : List (Option Line) → (ℕ → List ℕ) → ℕ → List ℕ
left_out_along [] why = why
left_out_along (said ∷ more) why = left_out_along more (left_out said why)

-- of each rule the verdict, and why it was left out
abbrev pub told_by : ℕ → List Row → Happened → (ℕ → List ℕ) → List (Verdict × List ℕ)
told_by number [] line why = []
told_by number (row ∷ rows) line why = (verdict_of (rule_of_row number row) line, why number) ∷ told_by (number + 1) rows line why

-- each rule has the verdict of what the lines say went over the line, and of nothing else; where it is unclear it is skipped if a line left it out
abbrev pub TellsByTheLine : Type 0
TellsByTheLine = (form : Form) (lines : List (List ℕ)) (entries : List Told) → PanelShows form lines entries
    → (said : List (Option Line)) × LinesSay said_words SaidFits lines said
    × (map (λ (e : Told). (e.verdict, e.skipped)) entries ≡ told_by 1 panel_rules (happened_along said []) (left_out_along said (λ number. [])))
