-- The verdicts of a test of a panel are those of what went over the line.
use Rattle.osdp_tool_test_panel.proofs.Common.{◌≡◌, ◌∙◌, ◌<◌, ℕ, ◌+◌, List, [], ◌∷◌, ◌++◌, length, map, Option, Some, None, refl, sym, subst, ap, arith, append_assoc, Told, new_entry, Exchange, Line, SaidFits, device, hears, said_words, says, skips, fresh_from, Row, row, PanelTest, after_hearing, after_packet_of, after_said, entries_of, judged_by, judged_entry, new_test, PanelRule}
use Rattle.std.proofs.Common.{Bool, cond, true, false, eqb}
use Rattle.std.proofs.lemmas.Bool.{cond-false, ne_eqb}
use Rattle.std.proofs.Common.{◌-◌, length-append}
use Rattle.osdp_tool_test.specs.Lines.{LeftOut}
use Rattle.std.specs.Prelude.{slice_get, ◌||◌}
use Rattle.osdp_frame.specs.Packet.{Packet}
use Rattle.osdp_panel_rules.specs.Judging.{judged}
use Rattle.osdp_panel_rules.specs.Known.{after_noise, after_packet, after_said as said_after}
use Rattle.osdp_panel_rules.specs.Line.{Event, Line as Happened, Rule, address_of, asked_in, came, device as named, known_of, looks, said as spoke, shown, verdict_of}
use Rattle.osdp_panel_rules.specs.declared.known.Known.{Known}
use Rattle.osdp_rules.specs.Verdicts.{verdict_after}
use Rattle.osdp_rules.specs.declared.finding.Finding.{Finding}
use Rattle.osdp_rules.specs.declared.finding.Finding.TheVariants.{Nothing}
use Rattle.osdp_rules.specs.declared.verdict.Verdict.{Verdict}
use Rattle.osdp_rules.specs.declared.verdict.Verdict.TheVariants as verdict
use Rattle.osdp_tool_test.specs.Entries.{after_finding}
use Rattle.osdp_tool_test.specs.Rules.{rule_in}
use Rattle.osdp_tool_test.specs.Runs.{first_of, packets_of}
use Rattle.osdp_tool_test.specs.Saying.{after_all}
use Rattle.osdp_tool_test.specs.declared.report.Form.{Form}
use Rattle.osdp_tool_test_panel.specs.Faults.{fault_text}
use Rattle.osdp_tool_test_panel.specs.Tests.{after_first, asked_for, skipped_entry}
use Rattle.osdp_tool_test_panel.specs.Table.{panel_rules}
use Rattle.osdp_tool_test_panel.specs.TheLine.{TellsByTheLine, happened, happened_along, left_out, left_out_along, rule_of_row, spoken, told_by}

abbrev rule_at : ℕ → PanelRule → Rule
rule_at number rule = rule_of_row number (row rule)

-- each entry has its rule's number, the verdict on it, and why it was left out
abbrev AreOf : ℕ → List PanelRule → List Told → Happened → (ℕ → List ℕ) → Type 0
AreOf n [] [] line why = Unit {0}
AreOf n (rule ∷ rules) (e ∷ entries) line why =
    (e.number ≡ n) × (e.verdict ≡ verdict_of (rule_at n rule) line) × (e.skipped ≡ why n) × AreOf (n + 1) rules entries line why
AreOf n _ _ line why = ⊥

record Matches (rules : List PanelRule) (t : PanelTest) (line : Happened) (why : ℕ → List ℕ) : Type 0 where
  pub held : t.rules ≡ rules
  pub address : t.address ≡ address_of line
  pub known : t.known ≡ known_of (address_of line) line
  pub asked : asked_for t.before ≡ asked_in line
  pub entries : AreOf 1 rules t.entries line why

-- ---- what changes no verdict

same_verdict : (v : Verdict) → verdict_after v Nothing ≡ v
same_verdict verdict.Unclear = refl
same_verdict verdict.Ok = refl
same_verdict verdict.Either = refl
same_verdict verdict.Broken = refl

-- an event that shows nothing
are_later : (n : ℕ) (rules : List PanelRule) (entries : List Told) (line : Happened) (why : ℕ → List ℕ) (e : Event)
    → ((rule : Rule) → shown rule e line ≡ Nothing) → AreOf n rules entries line why → AreOf n rules entries (e ∷ line) why
are_later n [] [] line why e none are = tt
are_later n (rule ∷ rules) (entry ∷ entries) line why e none are = (
  are.0,
  are.1 ∙ sym (ap (verdict_after (verdict_of (rule_at n rule) line)) (none (rule_at n rule)) ∙ same_verdict (verdict_of (rule_at n rule) line)),
  are.2,
  are_later (n + 1) rules entries line why e none are.3,
)
are_later n [] (entry ∷ entries) line why e none are = absurd are
are_later n (rule ∷ rules) [] line why e none are = absurd are

-- .. and a rule that is left out
skip_same : (x : LeftOut) (why : ℕ → List ℕ) (n : ℕ) (e : Told) → e.number ≡ n → e.skipped ≡ why n
    → ((skipped_entry x e).number ≡ n) × ((skipped_entry x e).verdict ≡ e.verdict) × ((skipped_entry x e).skipped ≡ left_out (Some (skips x)) why n)
skip_same x why n e is left =
    let h = by_number (eqb e.number x.number) in
    (h.0 ∙ is, h.1, h.2 ∙ ap (cond (eqb e.number x.number) x.why) left ∙ ap (λ m. cond (eqb m x.number) x.why (why n)) is)
  where
    by_number : (b : Bool)
        → ((cond b (record e { skipped = x.why }) e).number ≡ e.number)
        × ((cond b (record e { skipped = x.why }) e).verdict ≡ e.verdict)
        × ((cond b (record e { skipped = x.why }) e).skipped ≡ cond b x.why e.skipped)
    by_number true = (refl, refl, refl)
    by_number false = (refl, refl, refl)

are_skipped : (n : ℕ) (rules : List PanelRule) (entries : List Told) (line : Happened) (why : ℕ → List ℕ) (x : LeftOut)
    → AreOf n rules entries line why → AreOf n rules (map (skipped_entry x) entries) line (left_out (Some (skips x)) why)
are_skipped n [] [] line why x are = tt
are_skipped n (rule ∷ rules) (entry ∷ entries) line why x are =
    let h = skip_same x why n entry are.0 are.2 in
    (h.0, h.1 ∙ are.1, h.2, are_skipped (n + 1) rules entries line why x are.3)
are_skipped n [] (entry ∷ entries) line why x are = absurd are
are_skipped n (rule ∷ rules) [] line why x are = absurd are

-- ---- a packet

slice_past : (front : List PanelRule) (rule : PanelRule) (rest : List PanelRule) → slice_get (front ++ rule ∷ rest) (length front) ≡ Some rule
slice_past [] rule rest = refl
slice_past (x ∷ front) rule rest = slice_past front rule rest

rule_there : (front : List PanelRule) (rule : PanelRule) (rest : List PanelRule) (n : ℕ) → n ≡ length front + 1 → rule_in (front ++ rule ∷ rest) n ≡ Some rule
rule_there front rule rest n is =
    let place : n - 1 ≡ length front = omega (arith, is) in
    cond-false (eqb n 0) None (slice_get (front ++ rule ∷ rest) (n - 1)) (ne_eqb n 0 (λ zero. omega (arith, is, zero)))
    ∙ ap (slice_get (front ++ rule ∷ rest)) place
    ∙ slice_past front rule rest

by_looks : (b : Bool) (f : Finding) (lines : List ℕ) (e : Told)
    → ((cond b (after_finding f lines e) e).number ≡ e.number)
    × ((cond b (after_finding f lines e) e).verdict ≡ verdict_after e.verdict (cond b f Nothing))
    × ((cond b (after_finding f lines e) e).skipped ≡ e.skipped)
by_looks true f lines e = (refl, refl, refl)
by_looks false f lines e = (refl, sym (same_verdict e.verdict), refl)

module _ (form : Form) (address : ℕ) (known : Known) (before : Option Exchange) (p : Packet) (x : Exchange) (line : Happened)
    (at : address ≡ address_of line) (knows : known ≡ known_of (address_of line) line) (asked : asked_for before ≡ asked_in line) where
  found_same : (rule : PanelRule) → judged rule.aspect address known p x.moment ≡ judged rule.aspect (address_of line) (known_of (address_of line) line) p x.moment
  found_same rule =
      ap (λ a. judged rule.aspect a known p x.moment) at ∙ ap (λ k. judged rule.aspect (address_of line) k p x.moment) knows

  looks_same : (rule : PanelRule) (n : ℕ) (e : Told) → e.number ≡ n → (rule.is_always || eqb e.number (asked_for before)) ≡ looks (rule_at n rule) line
  looks_same rule n e is =
      ap (λ m. rule.is_always || eqb m (asked_for before)) is ∙ ap (λ m. rule.is_always || eqb n m) asked

  entry_judged : (rule : PanelRule) (n : ℕ) (e : Told) → e.number ≡ n → e.verdict ≡ verdict_of (rule_at n rule) line
      → ((judged_by form address known before p x e (Some rule)).number ≡ n)
      × ((judged_by form address known before p x e (Some rule)).verdict ≡ verdict_of (rule_at n rule) (came x.number x.moment (Some p) ∷ line))
      × ((judged_by form address known before p x e (Some rule)).skipped ≡ e.skipped)
  entry_judged rule n e is verdict =
      let b = rule.is_always || eqb e.number (asked_for before) in
      let f = judged rule.aspect address known p x.moment in
      let h = by_looks b f (fault_text form rule.aspect before x) e in (
        h.0 ∙ is,
        h.1
            ∙ ap (λ v. verdict_after v (cond b f Nothing)) verdict
            ∙ ap (λ c. verdict_after (verdict_of (rule_at n rule) line) (cond c f Nothing)) (looks_same rule n e is)
            ∙ ap (λ g. verdict_after (verdict_of (rule_at n rule) line) (cond (looks (rule_at n rule) line) g Nothing)) (found_same rule),
        h.2,
      )

  are_judged : (all front rules : List PanelRule) (n : ℕ) (entries : List Told) (why : ℕ → List ℕ) → all ≡ front ++ rules → n ≡ length front + 1
      → AreOf n rules entries line why → AreOf n rules (map (judged_entry form all address known before p x) entries) (came x.number x.moment (Some p) ∷ line) why
  are_judged all front [] n [] why whole is are = tt
  are_judged all front (rule ∷ rules) n (e ∷ entries) why whole is are =
      let there : rule_in all e.number ≡ Some rule =
      ap (λ (l : List PanelRule). rule_in l e.number) whole ∙ rule_there front rule rules e.number (are.0 ∙ is) in
      let h = entry_judged rule n e are.0 are.1 in
      let same = ap (judged_by form address known before p x e) there in
      let long : n + 1 ≡ length (front ++ rule ∷ []) + 1 = ap (λ m. m + 1) (is ∙ sym (length-append front (rule ∷ []))) in (
        ap (λ (y : Told). y.number) same ∙ h.0,
        ap (λ (y : Told). y.verdict) same ∙ h.1,
        ap (λ (y : Told). y.skipped) same ∙ h.2 ∙ are.2,
        are_judged all (front ++ rule ∷ []) rules (n + 1) entries why (whole ∙ sym (append_assoc front (rule ∷ []) rules)) long are.3,
      )
  are_judged all front [] n (e ∷ entries) why whole is are = absurd are
  are_judged all front (rule ∷ rules) n [] why whole is are = absurd are

-- ---- each line

heard_matches : (rules : List PanelRule) (bytes : List ℕ) (t : PanelTest) (line : Happened) (why : ℕ → List ℕ) → Matches rules t line why
    → Matches rules (after_hearing bytes t) (spoken bytes line) why
heard_matches rules [] t line why h = record { held = h.held; address = h.address; known = h.known; asked = h.asked; entries = h.entries }
heard_matches rules (b ∷ bytes) t line why h = by_first (first_of (packets_of false (b ∷ bytes)))
  where
    by_first : (o : Option Packet) → Matches rules (record t { known = after_first o t.known }) (spoke o ∷ line) why
    by_first None = record {
      held = h.held;
      address = h.address;
      known = ap after_noise h.known;
      asked = h.asked;
      entries = are_later 1 rules t.entries line why (spoke None) (λ rule. refl) h.entries;
    }
    by_first (Some r) = record {
      held = h.held;
      address = h.address;
      known = ap (λ k. said_after k r) h.known;
      asked = h.asked;
      entries = are_later 1 rules t.entries line why (spoke (Some r)) (λ rule. refl) h.entries;
    }

came_matches : (rules : List PanelRule) (x : Exchange) (o : Option Packet) (t : PanelTest) (line : Happened) (why : ℕ → List ℕ) → Matches rules t line why
    → Matches rules (record (after_packet_of x o t) { before = Some x }) (came x.number x.moment o ∷ line) why
came_matches rules x None t line why h = record {
  held = h.held;
  address = h.address;
  known = h.known;
  asked = refl;
  entries = are_later 1 rules t.entries line why (came x.number x.moment None) (λ rule. refl) h.entries;
}
came_matches rules x (Some p) t line why h = record {
  held = h.held;
  address = h.address;
  known = ap (λ a. after_packet a x.moment t.known p) h.address ∙ ap (λ k. after_packet (address_of line) x.moment k p) h.known;
  asked = refl;
  entries = are_judged t.form t.address t.known t.before p x line h.address h.known h.asked t.rules [] rules 1 t.entries why h.held refl h.entries;
}

line_matches : (rules : List PanelRule) (said : Option Line) (t : PanelTest) (line : Happened) (why : ℕ → List ℕ) → Matches rules t line why
    → Matches rules (after_said said t) (happened said line) (left_out said why)
line_matches rules None t line why h = h
line_matches rules (Some (device address)) t line why h = record {
  held = h.held;
  address = refl;
  known = refl;
  asked = refl;
  entries = are_later 1 rules t.entries line why (named address) (λ rule. refl) h.entries;
}
line_matches rules (Some (hears x)) t line why h =
    let o = first_of (packets_of false x.sent.items) in
    heard_matches rules x.heard.items (record (after_packet_of x o t) { before = Some x }) (came x.number x.moment o ∷ line) why (came_matches rules x o t line why h)
line_matches rules (Some (says x)) t line why h = heard_matches rules x.said.items t line why h
line_matches rules (Some (skips x)) t line why h = record {
  held = h.held;
  address = h.address;
  known = h.known;
  asked = h.asked;
  entries = are_skipped 1 rules t.entries line why x h.entries;
}

lines_match : (rules : List PanelRule) (start : PanelTest) (said : List (Option Line)) (t : PanelTest) (line : Happened) (why : ℕ → List ℕ) → Matches rules t line why
    → Matches rules (after_all said_words SaidFits after_said start entries_of said t) (happened_along said line) (left_out_along said why)
lines_match rules start [] t line why h = h
lines_match rules start (s ∷ said) t line why h =
    lines_match rules start said (after_said s t) (happened s line) (left_out s why) (line_matches rules s t line why h)

fresh_are : (n : ℕ) (rules : List PanelRule) → AreOf n rules (fresh_from n rules) [] (λ number. [])
fresh_are n [] = tt
fresh_are n (rule ∷ rules) = (refl, refl, refl, fresh_are (n + 1) rules)

begun_matches : (form : Form) (rules : List PanelRule) → Matches rules (new_test form rules) [] (λ number. [])
begun_matches form rules = record { held = refl; address = refl; known = refl; asked = refl; entries = fresh_are 1 rules }

abbrev pair : Verdict → List ℕ → Verdict × List ℕ
pair v why = (v, why)

pair_same : (v w : Verdict) (a b : List ℕ) → v ≡ w → a ≡ b → pair v a ≡ pair w b
pair_same v w a b same left = ap (λ x. pair x a) same ∙ ap (λ y. pair w y) left

are_told : (n : ℕ) (rules : List PanelRule) (entries : List Told) (line : Happened) (why : ℕ → List ℕ) → AreOf n rules entries line why
    → map (λ (e : Told). (e.verdict, e.skipped)) entries ≡ told_by n (map row rules) line why
are_told n [] [] line why are = refl
are_told n (rule ∷ rules) (e ∷ entries) line why are =
    ap (λ (v : Verdict × List ℕ). v ∷ map (λ (e : Told). (e.verdict, e.skipped)) entries)
    (pair_same e.verdict (verdict_of (rule_at n rule) line) e.skipped (why n) are.1 are.2)
    ∙ ap (λ (l : List (Verdict × List ℕ)). pair (verdict_of (rule_at n rule) line) (why n) ∷ l) (are_told (n + 1) rules entries line why are.3)
are_told n [] (e ∷ entries) line why are = absurd are
are_told n (rule ∷ rules) [] line why are = absurd are

pub tells_by_the_line : TellsByTheLine
tells_by_the_line form lines entries shows =
    let rules = shows.0 in
    let finds = shows.2 in
    let said = finds.0 in
    let why = left_out_along said (λ number. []) in (
      said,
      finds.1,
      ap (map (λ (e : Told). (e.verdict, e.skipped))) finds.2
          ∙ are_told 1 rules (after_all said_words SaidFits after_said (new_test form rules) entries_of said (new_test form rules)).entries (happened_along said [])
          why (lines_match rules (new_test form rules) said (new_test form rules) [] (λ number. []) (begun_matches form rules)).entries
          ∙ ap (λ (rows : List Row). told_by 1 rows (happened_along said []) why) shows.1,
    )
