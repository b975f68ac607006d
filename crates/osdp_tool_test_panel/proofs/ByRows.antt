-- What a line adds to a test of a panel goes by the rows of the rules alone.
use Rattle.osdp_tool_test_panel.proofs.Common.{◌≡◌, ◌∙◌, ℕ, ◌+◌, false, List, [], ◌∷◌, map, Option, Some, None, refl, sym, ap, Told, new_entry, Exchange, GoesByRows, all_plain, plain_by, plain_rule, Line, SaidFits, device, hears, said_words, says, skips, fresh_from, Row, row, PanelTest, after_hearing, after_packet_of, after_said, entries_of, judged_by, judged_entry, new_test, PanelRule}
use Rattle.std.specs.Option.{option_map}
use Rattle.osdp_frame.specs.Packet.{Packet}
use Rattle.osdp_panel_rules.specs.Known.{after_packet}
use Rattle.osdp_panel_rules.specs.declared.known.Known.{Known}
use Rattle.osdp_tool_test.specs.Rules.{rule_in}
use Rattle.osdp_tool_test.specs.Runs.{first_of, packets_of}
use Rattle.osdp_tool_test.specs.declared.report.Form.{Form}
use Rattle.osdp_tool_test_panel.proofs.OneLine.{lines_named}

abbrev pub of_row : Row → PanelRule
of_row r = record { aspect = r.0; ground = r.1; is_always = r.2; says = record { ref_ptr = (0, 0); now = r.3 } }

abbrev plain : PanelRule → PanelRule
plain = plain_by row of_row

abbrev pub plainly : PanelTest → PanelTest
plainly t = record t { rules = all_plain row of_row t.rules }

judged_same : (form : Form) (address : ℕ) (known : Known) (before : Option Exchange) (p : Packet) (x : Exchange) (e : Told) (o : Option PanelRule)
    → judged_by form address known before p x e o ≡ judged_by form address known before p x e (option_map plain o)
judged_same form address known before p x e None = refl
judged_same form address known before p x e (Some rule) = refl

map_alike : (change other : Told → Told) → ((e : Told) → change e ≡ other e) → (entries : List Told) → map change entries ≡ map other entries
map_alike change other alike [] = refl
map_alike change other alike (e ∷ entries) =
    ap (λ (y : Told). y ∷ map change entries) (alike e) ∙ ap (λ (l : List Told). other e ∷ l) (map_alike change other alike entries)

packet_same : (x : Exchange) (o : Option Packet) (t : PanelTest) → plainly (after_packet_of x o t) ≡ after_packet_of x o (plainly t)
packet_same x None t = refl
packet_same x (Some p) t =
    ap (λ (entries : List Told). record (plainly t) { entries = entries; known = after_packet t.address x.moment t.known p })
    (map_alike (judged_entry t.form t.rules t.address t.known t.before p x) (judged_entry t.form (all_plain row of_row t.rules) t.address t.known t.before p x)
    (λ e. judged_same t.form t.address t.known t.before p x e (rule_in t.rules e.number)
    ∙ ap (judged_by t.form t.address t.known t.before p x e) (sym (plain_rule row of_row t.rules e.number))) t.entries)

-- what a line adds goes by the rows of the rules alone
said_same : (said : Option Line) (t : PanelTest) → plainly (after_said said t) ≡ after_said said (plainly t)
said_same None t = refl
said_same (Some (device address)) t = refl
said_same (Some (hears x)) t =
    ap (λ (u : PanelTest). record (after_hearing x.heard.items u) { before = Some x }) (packet_same x (first_of (packets_of false x.sent.items)) t)
said_same (Some (says x)) t = refl
said_same (Some (skips x)) t = refl

fresh_same : (n : ℕ) (rules : List PanelRule) → fresh_from n rules ≡ fresh_from n (all_plain row of_row rules)
fresh_same n [] = refl
fresh_same n (rule ∷ rules) = ap (λ (l : List Told). new_entry n rule.says.now rule.ground ∷ l) (fresh_same (n + 1) rules)

begun_same : (form : Form) (rules : List PanelRule) → plainly (new_test form rules) ≡ new_test form (all_plain row of_row rules)
begun_same form rules = ap (λ (entries : List Told). record (new_test form (all_plain row of_row rules)) { entries = entries }) (fresh_same 1 rules)

pub panel_by_rows : GoesByRows said_words SaidFits after_said entries_of new_test row of_row plainly
panel_by_rows = record { named = lines_named; begun_same = begun_same; adds_same = said_same; found_same = λ t. refl }
