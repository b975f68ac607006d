-- What a test remembers is what the list of what was sent and heard comes to, place by place.
use Rattle.osdp_tool_test.proofs.Common.{◌≡◌, ◌∙◌, ap, sym, refl, ℕ, Bool, true, false, if◌then◌else◌, List, [], ◌∷◌, ◌++◌, map, append-nil, Option, Some, None, subst, Told, asks, breaks, device, keeps, opens, skips, times, Line, rule_in, after_breaks, after_each, after_exchange, after_keeps, after_said, after_seen, after_times, begun_entry, judged_entry, left_out, new_test, with_entry, with_run, DeviceTest, Exchange}
use Rattle.std.proofs.Common.{append_assoc}
use Rattle.std.proofs.lemmas.Bool.{eq-eqb, eqb-true}
use Rattle.std.specs.Prelude.{◌==◌}
use Rattle.osdp_rules.specs.Claims.{no_claims}
use Rattle.osdp_rules.specs.Runs.{Sent, claims_along, claims_next, found, heard, known_along, known_next, verdict_from, verdict_with}
use Rattle.osdp_rules.specs.Verdicts.{verdict_after}
use Rattle.osdp_rules.specs.declared.claims.Claims.{Claims}
use Rattle.osdp_rules.specs.declared.finding.Finding.{Finding}
use Rattle.osdp_rules.specs.declared.finding.Finding.TheVariants as finding
use Rattle.osdp_rules.specs.declared.known.Known.{Known}
use Rattle.osdp_rules.specs.declared.known.Known.TheVariants.{Unknown}
use Rattle.osdp_rules.specs.declared.verdict.Verdict.{Verdict}
use Rattle.osdp_rules.specs.declared.verdict.Verdict.TheVariants as verdict
use Rattle.osdp_tool_test.specs.Entries.{by_ground, new_entry, with_finding}
use Rattle.osdp_tool_test.specs.Lists.{AllName, EndElsewhere, IsScenario, JudgesByTheList, after_lines, all_places, line_places, named, places_in, verdict_by, why_skipped}
use Rattle.osdp_tool_test.specs.Tests.{broken_entry, entries_with, timed_entry}
use Rattle.osdp_tool_test.specs.Seen.{Seen, answers, is_answered, sent}
use Rattle.osdp_tool_test.specs.declared.rules.Rule.{Rule}
use Rattle.osdp_tool_test.proofs.Places.{AllAre, all_are, claims_both, claims_more, ground_after, ground_first, known_both, known_more, places_seen, seen_as, some_places, verdict_more}

-- ---- what the test remembers

record Knows (rules : List Rule) (address : ℕ) (past : List Sent) (t : DeviceTest) : Type 0 where
  rules_are : t.rules ≡ rules
  address_is : t.address ≡ address
  known : t.known ≡ known_along address Unknown past
  claims : t.claims ≡ claims_along address Unknown no_claims past

-- the entry whose lines are read, or are to be read next
abbrev entry_of : ℕ → Rule → DeviceTest → Told
entry_of n rule t = begun_entry n rule t.current

record Has (n : ℕ) (rule : Rule) (v : Verdict) (why : List ℕ) (t : DeviceTest) : Type 0 where
  verdict : (entry_of n rule t).verdict ≡ verdict_by rule.ground v
  skipped : (entry_of n rule t).skipped ≡ why

record Reads (n : ℕ) (t : DeviceTest) : Type 0 where
  entry : Told
  current : t.current ≡ Some entry
  number : entry.number ≡ n

-- ---- an entry that begins, or goes on

begun_number : (n : ℕ) (rule : Rule) (o : Option Told) → (begun_entry n rule o).number ≡ n
begun_number n rule None = refl
begun_number n rule (Some e) = by_same (e.number == n) refl
  where
    by_same : (t : Bool) → (e.number == n) ≡ t → (if t then e else new_entry n rule.says.now rule.ground).number ≡ n
    by_same true same = eqb-true e.number n same
    by_same false other = refl

goes_on : (n : ℕ) (rule : Rule) (e : Told) → e.number ≡ n → begun_entry n rule (Some e) ≡ e
goes_on n rule e same = ap (λ (t : Bool). if t then e else new_entry n rule.says.now rule.ground) (eq-eqb e.number n same)

begins_anew : (n : ℕ) (rule : Rule) (e : Told) → (e.number == n) ≡ false → begun_entry n rule (Some e) ≡ new_entry n rule.says.now rule.ground
begins_anew n rule e other = ap (λ (t : Bool). if t then e else new_entry n rule.says.now rule.ground) other

judged_number : (asked : Bool) (x : Exchange) (rule : Rule) (s : Seen) (t : DeviceTest) (e : Told) → (judged_entry asked x rule s t e).number ≡ e.number
judged_number true x rule s t e = refl
judged_number false x rule s t e = refl

judged_skipped : (asked : Bool) (x : Exchange) (rule : Rule) (s : Seen) (t : DeviceTest) (e : Told) → (judged_entry asked x rule s t e).skipped ≡ e.skipped
judged_skipped true x rule s t e = refl
judged_skipped false x rule s t e = refl

judged_verdict : (asked : Bool) (x : Exchange) (rule : Rule) (y : Sent) (t : DeviceTest) (e : Told) (v : Verdict) → e.verdict ≡ verdict_by rule.ground v
    → (judged_entry asked x rule (seen_as y) t e).verdict ≡ verdict_by rule.ground (verdict_with asked (found rule.aspect t.address t.known t.claims y) v)
judged_verdict true x rule y t e v is =
    let f = found rule.aspect t.address t.known t.claims y in
    ap (λ w. verdict_after w (by_ground rule.ground f)) is ∙ ground_after rule.ground v f
judged_verdict false x rule y t e v is = is

-- ---- one place

module _ (asked : Bool) (x : Exchange) (rule : Rule) (y : Sent) (t : DeviceTest) where
  abbrev next : DeviceTest
  next = after_seen asked x rule (seen_as y) t

  place_reads : Reads x.number next
  place_reads =
      let e = begun_entry x.number rule t.current in
      record {
        entry = judged_entry asked x rule (seen_as y) t e;
        current = refl;
        number = judged_number asked x rule (seen_as y) t e ∙ begun_number x.number rule t.current;
      }

  place_knows : (rules : List Rule) (address : ℕ) (past : List Sent) → Knows rules address past t → Knows rules address (past ++ y ∷ []) next
  place_knows rules address past k = record {
    rules_are = k.rules_are;
    address_is = k.address_is;
    known =
        ap (λ (a : ℕ). known_next a y.packet (heard y) t.known) k.address_is ∙ ap (known_next address y.packet (heard y)) k.known ∙ sym (known_more address Unknown past y);
    claims =
        ap (λ (a : ℕ). claims_next a t.known y.packet (heard y) t.claims) k.address_is ∙ ap (λ (l : Known). claims_next address l y.packet (heard y) t.claims) k.known
        ∙ ap (claims_next address (known_along address Unknown past) y.packet (heard y)) k.claims ∙ sym (claims_more address Unknown no_claims past y);
  }

  place_has : (v : Verdict) (why : List ℕ) → Has x.number rule v why t
      → Has x.number rule (verdict_with asked (found rule.aspect t.address t.known t.claims y) v) why next
  place_has v why h =
      let e = begun_entry x.number rule t.current in
      let f = judged_entry asked x rule (seen_as y) t e in
      let on = goes_on x.number rule f (judged_number asked x rule (seen_as y) t e ∙ begun_number x.number rule t.current) in
      record {
        verdict = ap (λ (r : Told). r.verdict) on ∙ judged_verdict asked x rule y t e v h.verdict;
        skipped = ap (λ (r : Told). r.skipped) on ∙ judged_skipped asked x rule (seen_as y) t e ∙ h.skipped;
      }

-- ---- the places of an exchange

each_knows : (asked : Bool) (x : Exchange) (rule : Rule) (ys : List Sent) (t : DeviceTest) (rules : List Rule) (address : ℕ) (past : List Sent) → Knows rules address past t
    → Knows rules address (past ++ ys) (after_each asked x rule (map seen_as ys) t)
each_knows asked x rule [] t rules address past k = subst (λ l. Knows rules address l t) (sym (append-nil past)) k
each_knows asked x rule (y ∷ ys) t rules address past k =
    subst (λ l. Knows rules address l (after_each asked x rule (map seen_as (y ∷ ys)) t)) (append_assoc past (y ∷ []) ys)
    (each_knows asked x rule ys (after_seen asked x rule (seen_as y) t) rules address (past ++ y ∷ []) (place_knows asked x rule y t rules address past k))

each_reads : (asked : Bool) (x : Exchange) (rule : Rule) (ys : List Sent) (t : DeviceTest) → Reads x.number t → Reads x.number (after_each asked x rule (map seen_as ys) t)
each_reads asked x rule [] t r = r
each_reads asked x rule (y ∷ ys) t r = each_reads asked x rule ys (after_seen asked x rule (seen_as y) t) (place_reads asked x rule y t)

module _ (rules : List Rule) (address : ℕ) (rule : Rule) (earlier : List Sent) where
  abbrev so_far : List Sent → Verdict
  so_far done = verdict_from rule.aspect address (known_along address Unknown earlier) (claims_along address Unknown no_claims earlier) verdict.Unclear done

  -- the scenario so far
  record Judged (n : ℕ) (done : List Sent) (why : List ℕ) (t : DeviceTest) : Type 0 where
    knows : Knows rules address (earlier ++ done) t
    has : Has n rule (so_far done) why t

  one_judged : (asked : Bool) (x : Exchange) (y : Sent) (t : DeviceTest) (done : List Sent) (why : List ℕ) → y.asks ≡ asked → Judged x.number done why t
      → Judged x.number (done ++ y ∷ []) why (after_seen asked x rule (seen_as y) t)
  one_judged asked x y t done why is j =
      let k = j.knows in
      let known : t.known ≡ known_along address (known_along address Unknown earlier) done = k.known ∙ known_both address Unknown earlier done in
      let claims : t.claims ≡ claims_along address (known_along address Unknown earlier) (claims_along address Unknown no_claims earlier) done =
      k.claims ∙ claims_both address Unknown no_claims earlier done in
      let f = found rule.aspect address (known_along address (known_along address Unknown earlier) done)
      (claims_along address (known_along address Unknown earlier) (claims_along address Unknown no_claims earlier) done) y in
      let finds : found rule.aspect t.address t.known t.claims y ≡ f =
      ap (λ (a : ℕ). found rule.aspect a t.known t.claims y) k.address_is ∙ ap (λ (l : Known). found rule.aspect address l t.claims y) known
      ∙ ap (λ (c : Claims). found rule.aspect address (known_along address (known_along address Unknown earlier) done) c y) claims in
      let goes : verdict_with asked (found rule.aspect t.address t.known t.claims y) (so_far done) ≡ so_far (done ++ y ∷ []) =
      ap (λ (g : Finding). verdict_with asked g (so_far done)) finds ∙ ap (λ (b : Bool). verdict_with b f (so_far done)) (sym is)
      ∙ sym (verdict_more rule.aspect address (known_along address Unknown earlier) (claims_along address Unknown no_claims earlier) verdict.Unclear done y) in
      record {
        knows = subst (λ l. Knows rules address l (after_seen asked x rule (seen_as y) t)) (append_assoc earlier done (y ∷ []))
            (place_knows asked x rule y t rules address (earlier ++ done) k);
        has = subst (λ (v : Verdict). Has x.number rule v why (after_seen asked x rule (seen_as y) t)) goes (place_has asked x rule y t (so_far done) why j.has);
      }

  each_judged : (asked : Bool) (x : Exchange) (ys : List Sent) (t : DeviceTest) (done : List Sent) (why : List ℕ) → AllAre asked ys → Judged x.number done why t
      → Judged x.number (done ++ ys) why (after_each asked x rule (map seen_as ys) t)
  each_judged asked x [] t done why all j = subst (λ l. Judged x.number l why t) (sym (append-nil done)) j
  each_judged asked x (y ∷ ys) t done why all j =
      subst (λ l. Judged x.number l why (after_each asked x rule (map seen_as (y ∷ ys)) t)) (append_assoc done (y ∷ []) ys)
      (each_judged asked x ys (after_seen asked x rule (seen_as y) t) (done ++ y ∷ []) why all.1 (one_judged asked x y t done why all.0 j))

-- ---- an exchange

with_run_knows : (x : Exchange) (answered : Bool) (t : DeviceTest) (rules : List Rule) (address : ℕ) (past : List Sent) → Knows rules address past t
    → Knows rules address past (with_run x answered t)
with_run_knows x answered t rules address past k = record { rules_are = k.rules_are; address_is = k.address_is; known = k.known; claims = k.claims }

as_places : (asked : Bool) (x : Exchange) (rule : Rule) (t : DeviceTest)
    → after_exchange asked x (Some rule) t ≡ after_each asked x rule (map seen_as (places_in asked x)) (with_run x (is_answered x) t)
as_places asked x rule t =
    ap (λ (ss : List Seen). after_each asked x rule ss (with_run x (is_answered x) t)) (sym (places_seen asked x.delay (sent x) (answers x)))

exchange_knows : (asked : Bool) (x : Exchange) (rule : Rule) (t : DeviceTest) (rules : List Rule) (address : ℕ) (past : List Sent) → Knows rules address past t
    → Knows rules address (past ++ places_in asked x) (after_exchange asked x (Some rule) t)
exchange_knows asked x rule t rules address past k =
    subst (Knows rules address (past ++ places_in asked x)) (sym (as_places asked x rule t))
    (each_knows asked x rule (places_in asked x) (with_run x (is_answered x) t) rules address past (with_run_knows x (is_answered x) t rules address past k))

exchange_reads : (asked : Bool) (x : Exchange) (rule : Rule) (t : DeviceTest) → Reads x.number (after_exchange asked x (Some rule) t)
exchange_reads asked x rule t =
    subst (Reads x.number) (sym (as_places asked x rule t))
    (by_some (places_in asked x) (some_places asked x.delay (sent x) (answers x)))
  where
    by_some : (all : List Sent) → ((y : Sent) × (ys : List Sent) × (all ≡ y ∷ ys)) → Reads x.number (after_each asked x rule (map seen_as all) (with_run x (is_answered x) t))
    by_some all (y, ys, is) =
        subst (λ (l : List Sent). Reads x.number (after_each asked x rule (map seen_as l) (with_run x (is_answered x) t))) (sym is)
        (each_reads asked x rule ys (after_seen asked x rule (seen_as y) (with_run x (is_answered x) t)) (place_reads asked x rule y (with_run x (is_answered x) t)))

-- ---- a line of a scenario

abbrev IsAsked : List Rule → ℕ → Rule → Type 0
IsAsked rules n rule = rule_in rules n ≡ Some rule

there_is : (t : DeviceTest) (rules : List Rule) (m n : ℕ) (rule : Rule) → t.rules ≡ rules → m ≡ n → IsAsked rules n rule → rule_in t.rules m ≡ Some rule
there_is t rules m n rule are same is = ap (λ (rs : List Rule). rule_in rs m) are ∙ ap (rule_in rules) same ∙ is

module _ (rules : List Rule) (address : ℕ) (rule : Rule) (earlier : List Sent) (n : ℕ) (is : IsAsked rules n rule) where
  abbrev JudgedSo : List Sent → List ℕ → DeviceTest → Type 0
  JudgedSo done why t = Judged rules address rule earlier n done why t

  exchange_judged : (asked : Bool) (x : Exchange) (t : DeviceTest) (done : List Sent) (why : List ℕ) → x.number ≡ n → JudgedSo done why t
      → JudgedSo (done ++ places_in asked x) why (after_exchange asked x (rule_in t.rules x.number) t) × Reads n (after_exchange asked x (rule_in t.rules x.number) t)
  exchange_judged asked x t done why same j =
      let k = j.knows in
      let here = there_is t rules x.number n rule k.rules_are same is in
      let mine : Judged rules address rule earlier x.number done why t = subst (λ (m : ℕ). Judged rules address rule earlier m done why t) (sym same) j in
      let h = mine.has in
      let runs : Judged rules address rule earlier x.number done why (with_run x (is_answered x) t) = record {
        knows = with_run_knows x (is_answered x) t rules address (earlier ++ done) k;
        has = record { verdict = h.verdict; skipped = h.skipped };
      } in
      let all = each_judged rules address rule earlier asked x (places_in asked x) (with_run x (is_answered x) t) done why
      (all_are asked x.delay (sent x) (answers x)) runs in
      let after_it = subst (Judged rules address rule earlier x.number (done ++ places_in asked x) why) (sym (as_places asked x rule t)) all in (
        subst (λ (o : Option Rule). JudgedSo (done ++ places_in asked x) why (after_exchange asked x o t)) (sym here)
            (subst (λ (m : ℕ). Judged rules address rule earlier m (done ++ places_in asked x) why (after_exchange asked x (Some rule) t)) same after_it),
        subst (λ (o : Option Rule). Reads n (after_exchange asked x o t)) (sym here)
            (subst (λ (m : ℕ). Reads m (after_exchange asked x (Some rule) t)) same (exchange_reads asked x rule t)),
      )

  -- another word on why it is left out
  left_judged : (m : ℕ) (why next : List ℕ) (t : DeviceTest) (done : List Sent) → m ≡ n → JudgedSo done why t
      → JudgedSo done next (with_entry m rule (λ e. record e { skipped = next }) t) × Reads n (with_entry m rule (λ e. record e { skipped = next }) t)
  left_judged m why next t done same j =
      subst (λ (i : ℕ). JudgedSo done next (with_entry i rule (λ e. record e { skipped = next }) t) × Reads n (with_entry i rule (λ e. record e { skipped = next }) t)) (sym same)
      (
      let k = j.knows in
      let h = j.has in
      let e = begun_entry n rule t.current in
      let f : Told = record e { skipped = next } in
      let on = goes_on n rule f (begun_number n rule t.current) in (
        record {
          knows = record { rules_are = k.rules_are; address_is = k.address_is; known = k.known; claims = k.claims };
          has = record { verdict = ap (λ (r : Told). r.verdict) on ∙ h.verdict; skipped = ap (λ (r : Told). r.skipped) on };
        },
        record { entry = f; current = refl; number = begun_number n rule t.current },
      )
      )

  line_judged : (line : Line) (t : DeviceTest) (done : List Sent) (why : List ℕ) → IsScenario n (line ∷ []) → JudgedSo done why t
      → JudgedSo (done ++ line_places line) (why_skipped why (line ∷ [])) (after_said (Some line) t) × Reads n (after_said (Some line) t)
  line_judged (opens x) t done why scenario j = exchange_judged false x t done why scenario.0 j
  line_judged (asks x) t done why scenario j = exchange_judged true x t done why scenario.0 j
  line_judged (skips x) t done why scenario j =
      let k = j.knows in
      subst (λ (l : List Sent). JudgedSo l x.why (left_out x (rule_in t.rules x.number) t) × Reads n (left_out x (rule_in t.rules x.number) t)) (sym (append-nil done))
      (subst (λ (o : Option Rule). JudgedSo done x.why (left_out x o t) × Reads n (left_out x o t)) (sym (there_is t rules x.number n rule k.rules_are scenario.0 is))
      (left_judged x.number why x.why t done scenario.0 j))
  line_judged (device a) t done why scenario j = absurd scenario
  line_judged (times m) t done why scenario j = absurd scenario
  line_judged (keeps m) t done why scenario j = absurd scenario
  line_judged (breaks x) t done why scenario j = absurd scenario

  first_of_scenario : (line : Line) (lines : List Line) → IsScenario n (line ∷ lines) → IsScenario n (line ∷ []) × IsScenario n lines
  first_of_scenario (opens x) lines scenario = ((scenario.0, tt), scenario.1)
  first_of_scenario (asks x) lines scenario = ((scenario.0, tt), scenario.1)
  first_of_scenario (skips x) lines scenario = ((scenario.0, tt), scenario.1)
  first_of_scenario (device a) lines scenario = absurd scenario
  first_of_scenario (times m) lines scenario = absurd scenario
  first_of_scenario (keeps m) lines scenario = absurd scenario
  first_of_scenario (breaks x) lines scenario = absurd scenario

  why_more : (why : List ℕ) (line : Line) (lines : List Line) → why_skipped (why_skipped why (line ∷ [])) lines ≡ why_skipped why (line ∷ lines)
  why_more why (opens x) lines = refl
  why_more why (asks x) lines = refl
  why_more why (skips x) lines = refl
  why_more why (device a) lines = refl
  why_more why (times m) lines = refl
  why_more why (keeps m) lines = refl
  why_more why (breaks x) lines = refl

  scenario_judged : (line : Line) (lines : List Line) (t : DeviceTest) (done : List Sent) (why : List ℕ) → IsScenario n (line ∷ lines) → JudgedSo done why t
      → JudgedSo (done ++ all_places (line ∷ lines)) (why_skipped why (line ∷ lines)) (after_lines (line ∷ lines) t) × Reads n (after_lines (line ∷ lines) t)
  scenario_judged line [] t done why scenario j =
      let one = line_judged line t done why scenario j in
      (subst (λ (l : List Sent). JudgedSo (done ++ l) (why_skipped why (line ∷ [])) (after_said (Some line) t)) (sym (append-nil (line_places line))) one.0, one.1)
  scenario_judged line (second ∷ lines) t done why scenario j =
      let parts = first_of_scenario line (second ∷ lines) scenario in
      let one = line_judged line t done why parts.0 j in
      let all = scenario_judged second lines (after_said (Some line) t) (done ++ line_places line) (why_skipped why (line ∷ [])) parts.1 one.0 in (
        subst (λ (w : List ℕ). JudgedSo (done ++ all_places (line ∷ second ∷ lines)) w (after_lines (line ∷ second ∷ lines) t)) (why_more why line (second ∷ lines))
            (subst (λ (l : List Sent). JudgedSo l (why_skipped (why_skipped why (line ∷ [])) (second ∷ lines)) (after_lines (line ∷ second ∷ lines) t))
            (append_assoc done (line_places line) (all_places (second ∷ lines))) all.0),
        all.1,
      )

-- ---- the lines before it

same_number : (m n : ℕ) → Some m ≡ Some n → m ≡ n
same_number m n is = cc

module _ (rules : List Rule) (address : ℕ) where
  abbrev IsOfRule : Line → Type 0
  IsOfRule line = (n : ℕ) × (rule : Rule) × (named line ≡ Some n) × (rule_in rules n ≡ Some rule)

  changed_knows : (m : ℕ) (rule : Rule) (change : Told → Told) (t : DeviceTest) (past : List Sent) → Knows rules address past t
      → Knows rules address (past ++ []) (with_entry m rule change t)
  changed_knows m rule change t past k =
      subst (λ (l : List Sent). Knows rules address l (with_entry m rule change t)) (sym (append-nil past))
      (record { rules_are = k.rules_are; address_is = k.address_is; known = k.known; claims = k.claims })

  -- the rule of a line, as the test finds it
  found_so : (m n : ℕ) (rule : Rule) (t : DeviceTest) (past : List Sent) → Knows rules address past t → Some m ≡ Some n → rule_in rules n ≡ Some rule → rule_in t.rules m ≡ Some rule
  found_so m n rule t past k same is = there_is t rules m n rule k.rules_are (same_number m n same) is

  line_knows : (line : Line) (t : DeviceTest) (past : List Sent) → IsOfRule line → Knows rules address past t
      → Knows rules address (past ++ line_places line) (after_said (Some line) t)
  line_knows (device a) t past (n, rule, name, is) k = absurd (let none = name in cc)
  line_knows (opens x) t past (n, rule, name, is) k =
      subst (λ (o : Option Rule). Knows rules address (past ++ places_in false x) (after_exchange false x o t)) (sym (found_so x.number n rule t past k name is))
      (exchange_knows false x rule t rules address past k)
  line_knows (asks x) t past (n, rule, name, is) k =
      subst (λ (o : Option Rule). Knows rules address (past ++ places_in true x) (after_exchange true x o t)) (sym (found_so x.number n rule t past k name is))
      (exchange_knows true x rule t rules address past k)
  line_knows (skips x) t past (n, rule, name, is) k =
      subst (λ (o : Option Rule). Knows rules address (past ++ []) (left_out x o t)) (sym (found_so x.number n rule t past k name is))
      (changed_knows x.number rule (λ e. record e { skipped = x.why }) t past k)
  line_knows (times m) t past (n, rule, name, is) k =
      subst (λ (o : Option Rule). Knows rules address (past ++ []) (after_times m o t)) (sym (found_so m n rule t past k name is)) (changed_knows m rule (timed_entry t.form t.run) t past k)
  line_knows (keeps m) t past (n, rule, name, is) k =
      subst (λ (o : Option Rule). Knows rules address (past ++ []) (after_keeps m o t)) (sym (found_so m n rule t past k name is)) (changed_knows m rule (with_finding finding.Kept) t past k)
  line_knows (breaks x) t past (n, rule, name, is) k =
      subst (λ (o : Option Rule). Knows rules address (past ++ []) (after_breaks x o t)) (sym (found_so x.number n rule t past k name is))
      (changed_knows x.number rule (broken_entry t.form x.why) t past k)

  line_reads : (line : Line) (t : DeviceTest) (past : List Sent) (of : IsOfRule line) → Knows rules address past t → Reads of.0 (after_said (Some line) t)
  line_reads (device a) t past (n, rule, name, is) k = absurd (let none = name in cc)
  line_reads (opens x) t past (n, rule, name, is) k =
      subst (λ (o : Option Rule). Reads n (after_exchange false x o t)) (sym (found_so x.number n rule t past k name is))
      (subst (λ (m : ℕ). Reads m (after_exchange false x (Some rule) t)) (same_number x.number n name) (exchange_reads false x rule t))
  line_reads (asks x) t past (n, rule, name, is) k =
      subst (λ (o : Option Rule). Reads n (after_exchange true x o t)) (sym (found_so x.number n rule t past k name is))
      (subst (λ (m : ℕ). Reads m (after_exchange true x (Some rule) t)) (same_number x.number n name) (exchange_reads true x rule t))
  line_reads (skips x) t past (n, rule, name, is) k =
      subst (λ (o : Option Rule). Reads n (left_out x o t)) (sym (found_so x.number n rule t past k name is))
      (record { entry = _; current = refl; number = begun_number x.number rule t.current ∙ same_number x.number n name })
  line_reads (times m) t past (n, rule, name, is) k =
      subst (λ (o : Option Rule). Reads n (after_times m o t)) (sym (found_so m n rule t past k name is))
      (record { entry = _; current = refl; number = begun_number m rule t.current ∙ same_number m n name })
  line_reads (keeps m) t past (n, rule, name, is) k =
      subst (λ (o : Option Rule). Reads n (after_keeps m o t)) (sym (found_so m n rule t past k name is))
      (record { entry = _; current = refl; number = begun_number m rule t.current ∙ same_number m n name })
  line_reads (breaks x) t past (n, rule, name, is) k =
      subst (λ (o : Option Rule). Reads n (after_breaks x o t)) (sym (found_so x.number n rule t past k name is))
      (record { entry = _; current = refl; number = begun_number x.number rule t.current ∙ same_number x.number n name })

  lines_know : (lines : List Line) (t : DeviceTest) (past : List Sent) → AllName rules lines → Knows rules address past t
      → Knows rules address (past ++ all_places lines) (after_lines lines t)
  lines_know [] t past names k = subst (λ (l : List Sent). Knows rules address l t) (sym (append-nil past)) k
  lines_know (line ∷ lines) t past names k =
      subst (λ (l : List Sent). Knows rules address l (after_lines (line ∷ lines) t)) (append_assoc past (line_places line) (all_places lines))
      (lines_know lines (after_said (Some line) t) (past ++ line_places line) names.1 (line_knows line t past names.0 k))

  -- the rule begins anew after them
  module _ (n : ℕ) (rule : Rule) where
    abbrev IsFresh : DeviceTest → Type 0
    IsFresh t = begun_entry n rule t.current ≡ new_entry n rule.says.now rule.ground

    fresh_by : (m : ℕ) (t : DeviceTest) → Reads m t → (m ≡ n → ⊥) → IsFresh t
    fresh_by m t r other = by_same (r.entry.number == n) refl
      where
        by_same : (b : Bool) → (r.entry.number == n) ≡ b → IsFresh t
        by_same true same = absurd (other (sym r.number ∙ eqb-true r.entry.number n same))
        by_same false apart = ap (λ (o : Option Told). begun_entry n rule o) r.current ∙ begins_anew n rule r.entry apart

    lines_end : (line : Line) (lines : List Line) (t : DeviceTest) (past : List Sent) → AllName rules (line ∷ lines) → EndElsewhere n (line ∷ lines)
        → Knows rules address past t → IsFresh (after_lines (line ∷ lines) t)
    lines_end line [] t past names ends k =
        let of = names.0 in
        fresh_by of.0 (after_said (Some line) t) (line_reads line t past of k) (λ same. ends (of.2 ∙ ap (λ (m : ℕ). Some m) same))
    lines_end line (second ∷ lines) t past names ends k =
        lines_end second lines (after_said (Some line) t) (past ++ line_places line) names.1 ends (line_knows line t past names.0 k)

    fresh_after : (lines : List Line) (t : DeviceTest) → AllName rules lines → EndElsewhere n lines → Knows rules address [] t → IsFresh t → IsFresh (after_lines lines t)
    fresh_after [] t names ends k fresh = fresh
    fresh_after (line ∷ lines) t names ends k fresh = lines_end line lines t [] names ends k

-- ---- the law

pub judges_by_the_list : JudgesByTheList
judges_by_the_list form rules address n rule earlier first scenario names ends is all =
    let start = after_said (Some (device address)) (new_test form rules) in
    let knows : Knows rules address [] start = record { rules_are = refl; address_is = refl; known = refl; claims = refl } in
    let t = after_lines earlier start in
    let fresh = fresh_after rules address n rule earlier start names ends knows refl in
    let before = all_places earlier in
    let known : Knows rules address (before ++ []) t =
    subst (λ (l : List Sent). Knows rules address l t) (sym (append-nil before)) (lines_know rules address earlier start [] names knows) in
    let judged : Judged rules address rule before n [] [] t = record {
      knows = known;
      has = record { verdict = ap (λ (e : Told). e.verdict) fresh ∙ ground_first rule.ground; skipped = ap (λ (e : Told). e.skipped) fresh };
    } in
    let end = scenario_judged rules address rule before n is first scenario t [] [] all judged in
    let last = after_lines (first ∷ scenario) t in
    let reads = end.1 in
    let has = (let j = end.0 in j.has) in
    let here : begun_entry n rule last.current ≡ reads.entry = ap (λ (o : Option Told). begun_entry n rule o) reads.current ∙ goes_on n rule reads.entry reads.number in
    record {
      before = last.done;
      entry = reads.entry;
      last = ap (λ (o : Option Told). entries_with last.done o) reads.current;
      number = reads.number;
      verdict = sym (ap (λ (e : Told). e.verdict) here) ∙ has.verdict;
      skipped = sym (ap (λ (e : Told). e.skipped) here) ∙ has.skipped;
    }
