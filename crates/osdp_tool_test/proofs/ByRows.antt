-- What a line adds to a test of a device goes by the rows of the rules alone.
use Rattle.osdp_tool_test.proofs.Common.{◌≡◌, ◌∙◌, ℕ, Bool, true, false, List, [], ◌∷◌, Option, Some, None, refl, sym, ap, option_map, Told, LeftOut, Line, SaidFits, asks, breaks, device, keeps, opens, said_words, skips, times, rule_in, Row, row, DeviceTest, after_breaks, after_each, after_exchange, after_keeps, after_said, after_seen, after_times, all_entries, begun_done, begun_entry, broken_entry, judged_entry, left_out, new_test, timed_entry, with_entry, with_known, with_finding, with_run, Exchange}
use Rattle.osdp_rules.specs.declared.finding.Finding.TheVariants.{Kept}
use Rattle.osdp_tool_test.specs.Seen.{Seen, is_answered, seen_in}
use Rattle.osdp_tool_test.specs.declared.rules.Rule.{Rule}
use Rattle.osdp_tool_test.proofs.OneLine.{lines_named}
use Rattle.osdp_tool_test.proofs.OneReport.{GoesByRows, all_plain, plain as plain_by, plain_rule as plain_rule_by}

abbrev pub of_row : Row → Rule
of_row r = record { aspect = r.0; ground = r.1; says = record { ref_ptr = (0, 0); now = r.2 } }

abbrev plain : Rule → Rule
plain = plain_by row of_row

abbrev pub plainly : DeviceTest → DeviceTest
plainly t = record t { rules = all_plain row of_row t.rules }

plain_rule : (rules : List Rule) (n : ℕ) → rule_in (all_plain row of_row rules) n ≡ option_map plain (rule_in rules n)
plain_rule = plain_rule_by row of_row

begun_same : (n : ℕ) (rule : Rule) (o : Option Told) → begun_entry n rule o ≡ begun_entry n (plain rule) o
begun_same n rule None = refl
begun_same n rule (Some e) = refl

entry_same : (n : ℕ) (rule : Rule) (change other : Told → Told) → ((e : Told) → change e ≡ other e) → (t : DeviceTest)
    → plainly (with_entry n rule change t) ≡ with_entry n (plain rule) other (plainly t)
entry_same n rule change other alike t =
    ap (λ (e : Told). record (plainly t) { done = begun_done n t.done t.current; current = Some e })
    (alike (begun_entry n rule t.current) ∙ ap other (begun_same n rule t.current))

judged_same : (asked : Bool) (x : Exchange) (rule : Rule) (s : Seen) (t : DeviceTest) (e : Told)
    → judged_entry asked x rule s t e ≡ judged_entry asked x (plain rule) s (plainly t) e
judged_same true x rule s t e = refl
judged_same false x rule s t e = refl

seen_same : (asked : Bool) (x : Exchange) (rule : Rule) (s : Seen) (t : DeviceTest)
    → plainly (after_seen asked x rule s t) ≡ after_seen asked x (plain rule) s (plainly t)
seen_same asked x rule s t =
    ap (with_known s.packet s.answer) (entry_same x.number rule (judged_entry asked x rule s t) (judged_entry asked x (plain rule) s (plainly t)) (judged_same asked x rule s t) t)

each_same : (asked : Bool) (x : Exchange) (rule : Rule) (all : List Seen) (t : DeviceTest)
    → plainly (after_each asked x rule all t) ≡ after_each asked x (plain rule) all (plainly t)
each_same asked x rule [] t = refl
each_same asked x rule (s ∷ all) t =
    each_same asked x rule all (after_seen asked x rule s t) ∙ ap (after_each asked x (plain rule) all) (seen_same asked x rule s t)

exchange_same : (asked : Bool) (x : Exchange) (o : Option Rule) (t : DeviceTest) → plainly (after_exchange asked x o t) ≡ after_exchange asked x (option_map plain o) (plainly t)
exchange_same asked x None t = refl
exchange_same asked x (Some rule) t = each_same asked x rule (seen_in x) (with_run x (is_answered x) t)

left_same : (x : LeftOut) (o : Option Rule) (t : DeviceTest) → plainly (left_out x o t) ≡ left_out x (option_map plain o) (plainly t)
left_same x None t = refl
left_same x (Some rule) t = entry_same x.number rule (λ e. record e { skipped = x.why }) (λ e. record e { skipped = x.why }) (λ e. refl) t

times_same : (n : ℕ) (o : Option Rule) (t : DeviceTest) → plainly (after_times n o t) ≡ after_times n (option_map plain o) (plainly t)
times_same n None t = refl
times_same n (Some rule) t = entry_same n rule (timed_entry t.form t.run) (timed_entry t.form t.run) (λ e. refl) t

keeps_same : (n : ℕ) (o : Option Rule) (t : DeviceTest) → plainly (after_keeps n o t) ≡ after_keeps n (option_map plain o) (plainly t)
keeps_same n None t = refl
keeps_same n (Some rule) t = entry_same n rule (with_finding Kept) (with_finding Kept) (λ e. refl) t

breaks_same : (x : LeftOut) (o : Option Rule) (t : DeviceTest) → plainly (after_breaks x o t) ≡ after_breaks x (option_map plain o) (plainly t)
breaks_same x None t = refl
breaks_same x (Some rule) t = entry_same x.number rule (broken_entry t.form x.why) (broken_entry t.form x.why) (λ e. refl) t

-- what a line adds goes by the rows of the rules alone
said_same : (said : Option Line) (t : DeviceTest) → plainly (after_said said t) ≡ after_said said (plainly t)
said_same None t = refl
said_same (Some (device address)) t = refl
said_same (Some (opens x)) t = exchange_same false x (rule_in t.rules x.number) t ∙ ap (λ (o : Option Rule). after_exchange false x o (plainly t)) (sym (plain_rule t.rules x.number))
said_same (Some (asks x)) t = exchange_same true x (rule_in t.rules x.number) t ∙ ap (λ (o : Option Rule). after_exchange true x o (plainly t)) (sym (plain_rule t.rules x.number))
said_same (Some (skips x)) t = left_same x (rule_in t.rules x.number) t ∙ ap (λ (o : Option Rule). left_out x o (plainly t)) (sym (plain_rule t.rules x.number))
said_same (Some (times n)) t = times_same n (rule_in t.rules n) t ∙ ap (λ (o : Option Rule). after_times n o (plainly t)) (sym (plain_rule t.rules n))
said_same (Some (keeps n)) t = keeps_same n (rule_in t.rules n) t ∙ ap (λ (o : Option Rule). after_keeps n o (plainly t)) (sym (plain_rule t.rules n))
said_same (Some (breaks x)) t = breaks_same x (rule_in t.rules x.number) t ∙ ap (λ (o : Option Rule). after_breaks x o (plainly t)) (sym (plain_rule t.rules x.number))

pub device_by_rows : GoesByRows said_words SaidFits after_said all_entries new_test row of_row plainly
device_by_rows = record { named = lines_named; begun_same = λ form rules. refl; adds_same = said_same; found_same = λ t. refl }
