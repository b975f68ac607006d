-- What is told after the table: a line for each diagnosis that holds.
use Rattle.osdp_tool_monitor_laws.proofs.Common.{◌≡◌, ◌⊎◌, inl, inr, ◌<◌, ◌+◌, ◌*◌, ◌/◌, ℕ, zero, suc, Bool, true, false, cond, eqb, ltb, leb, ◌&&◌, ◌||◌, not, List, [], ◌∷◌, ◌++◌, length, drop, count_by, filter, flat_map, codes, decimal, refl, sym, ap, ◌∙◌, subst, arith, append_assoc, append-nil, and_parts, cases_Bool, cond-false, cond-true, lt-ltb, drop_all, drop_more, sum_by-cons, RunItem, PacketItem, SkippedItem, RefusedItem, is_packet, is_skipped, tally_after, Tally, Counts, is_ghost, no_counts, Listening, heard_item, heard_items, nothing_heard}
use Rattle.std.proofs.Math.Path.{fun_ext}
use Rattle.osdp_tool_show.specs.ItemText.{is_refusal}
use Rattle.osdp_tool_monitor.specs.Diagnoses.{answer_lines, are_all, copy_lines, damage_lines, device_lines, diagnoses_text, has_damage, is_absent, is_alone, is_common, is_echoed, is_measured, is_mute, is_noise, is_shared, is_touched, is_worn, lines_from, loses, lost, loss_lines, loss_words, repeat_lines, setting_lines, survey_of, told_at, told_count, told_if, told_share}
use Rattle.osdp_tool_monitor.specs.InTurn.{after_all}
use Rattle.osdp_tool_monitor_laws.specs.Told.{AreSeveral, Diagnosis, Noise, AllHit, Of, Fault, NeverAnswers, ComesTwice, Loses, LosesAlone, Restarts, IsTwo, IsHitAlone, IsRepeated, Demands, Speaks, IsSet, Heard, Holds, IsHurt, IsMeasured, IsOnly, IsSilent, IsSo, IsTouched, LosesAnswers, TellsDiagnoses, every, fault_words, asked, of_device, of_devices, share, told_line}
use Rattle.osdp_tool_monitor_laws.proofs.Holding.{Tells, at_most, below, both, doubled_tells, either, equal, given, hurt_tells, loses_tells, lost_is, measured_tells, mute_tells, none, read, repeated_tells, row_is, row_of, same, shared_tells, silent_tells, there_tells, touched_tells}
use Rattle.osdp_tool_monitor_laws.proofs.Counting.{from_none}
use Rattle.osdp_tool_monitor_laws.proofs.Many.{all_are, as_many, at_least_two, one_only, only_one, two}
use Rattle.osdp_tool_monitor_laws.proofs.Surveyed.{damaged_are, is_losing, losing_are, measured_are, rows_are, touched_are}

-- ---- the lines of the diagnoses that hold

module _ (line : Heard) (holds : Diagnosis → Bool) where
  abbrev text_of : List Diagnosis → List ℕ
  text_of ds = flat_map (told_line line) (filter holds ds)

  abbrev one : Diagnosis → List ℕ
  one d = cond (holds d) (told_line line d) []

  pick : (d : Diagnosis) (ds : List Diagnosis) → text_of (d ∷ ds) ≡ one d ++ text_of ds
  pick d ds = by_test (cases_Bool (holds d))
    where
      by_test : (holds d ≡ true) ⊎ (holds d ≡ false) → text_of (d ∷ ds) ≡ one d ++ text_of ds
      by_test (inl is) =
          ap (flat_map (told_line line)) (cond-true (holds d) (d ∷ filter holds ds) (filter holds ds) is)
          ∙ sym (ap (λ t. t ++ text_of ds) (cond-true (holds d) (told_line line d) [] is))
      by_test (inr never) =
          ap (flat_map (told_line line)) (cond-false (holds d) (d ∷ filter holds ds) (filter holds ds) never)
          ∙ sym (ap (λ t. t ++ text_of ds) (cond-false (holds d) (told_line line d) [] never))

  pick_all : (ds es : List Diagnosis) → text_of (ds ++ es) ≡ text_of ds ++ text_of es
  pick_all [] es = refl
  pick_all (d ∷ ds) es =
      pick d (ds ++ es) ∙ ap (λ t. one d ++ t) (pick_all ds es) ∙ sym (append_assoc (one d) (text_of ds) (text_of es)) ∙ sym (ap (λ t. t ++ text_of es) (pick d ds))

  -- those of a device, one after the other
  eleven : (a : ℕ)
      → text_of (of_device a)
      ≡ one (Of a NeverAnswers) ++ (one (Of a ComesTwice) ++ (one (Of a Loses) ++ (one (Of a LosesAlone) ++ (one (Of a Restarts) ++ (one (Of a IsTwo)
      ++ (one (Of a IsHitAlone) ++ (one (Of a IsRepeated) ++ (one (Of a Demands) ++ (one (Of a Speaks) ++ (one (Of a IsSet) ++ []))))))))))
  eleven a =
      let d11 = Of a IsSet ∷ [] in
      let d10 = Of a Speaks ∷ d11 in
      let d9 = Of a Demands ∷ d10 in
      let d8 = Of a IsRepeated ∷ d9 in
      let d7 = Of a IsHitAlone ∷ d8 in
      let d6 = Of a IsTwo ∷ d7 in
      let d5 = Of a Restarts ∷ d6 in
      let d4 = Of a LosesAlone ∷ d5 in
      let d3 = Of a Loses ∷ d4 in
      let d2 = Of a ComesTwice ∷ d3 in
      pick (Of a NeverAnswers) d2
      ∙ ap (λ t. one (Of a NeverAnswers) ++ t) (pick (Of a ComesTwice) d3
      ∙ ap (λ t. one (Of a ComesTwice) ++ t) (pick (Of a Loses) d4
      ∙ ap (λ t. one (Of a Loses) ++ t) (pick (Of a LosesAlone) d5
      ∙ ap (λ t. one (Of a LosesAlone) ++ t) (pick (Of a Restarts) d6
      ∙ ap (λ t. one (Of a Restarts) ++ t) (pick (Of a IsTwo) d7
      ∙ ap (λ t. one (Of a IsTwo) ++ t) (pick (Of a IsHitAlone) d8
      ∙ ap (λ t. one (Of a IsHitAlone) ++ t) (pick (Of a IsRepeated) d9
      ∙ ap (λ t. one (Of a IsRepeated) ++ t) (pick (Of a Demands) d10
      ∙ ap (λ t. one (Of a Demands) ++ t) (pick (Of a Speaks) d11
      ∙ ap (λ t. one (Of a Speaks) ++ t) (pick (Of a IsSet) []))))))))))

-- eleven texts, as they stand in the definition and one after the other
in_a_row : (x1 x2 x3 x4 x5 x6 x7 x8 x9 x10 x11 : List ℕ)
    → ((x1 ++ x2) ++ ((x3 ++ x4) ++ x5)) ++ ((x6 ++ (x7 ++ x8)) ++ ((x9 ++ x10) ++ x11))
    ≡ x1 ++ (x2 ++ (x3 ++ (x4 ++ (x5 ++ (x6 ++ (x7 ++ (x8 ++ (x9 ++ (x10 ++ (x11 ++ []))))))))))
in_a_row x1 x2 x3 x4 x5 x6 x7 x8 x9 x10 x11 =
    let end = x9 ++ (x10 ++ (x11 ++ [])) in
    let last : (x9 ++ x10) ++ x11 ≡ end = append_assoc x9 x10 x11 ∙ ap (λ t. x9 ++ (x10 ++ t)) (sym (append-nil x11)) in
    let middle : (x6 ++ (x7 ++ x8)) ++ ((x9 ++ x10) ++ x11) ≡ x6 ++ (x7 ++ (x8 ++ end)) =
    ap (λ t. (x6 ++ (x7 ++ x8)) ++ t) last ∙ append_assoc x6 (x7 ++ x8) end ∙ ap (λ t. x6 ++ t) (append_assoc x7 x8 end) in
    let all = x6 ++ (x7 ++ (x8 ++ end)) in
    ap (λ t. ((x1 ++ x2) ++ ((x3 ++ x4) ++ x5)) ++ t) middle ∙ append_assoc (x1 ++ x2) ((x3 ++ x4) ++ x5) all
    ∙ ap (λ t. (x1 ++ x2) ++ t) (append_assoc (x3 ++ x4) x5 all ∙ append_assoc x3 x4 (x5 ++ all))
    ∙ append_assoc x1 x2 (x3 ++ (x4 ++ (x5 ++ all)))

-- ---- the tests

test : ℕ → List Counts → Counts → Fault → Bool
test a cs c NeverAnswers = is_absent a c
test a cs c ComesTwice = is_echoed c
test a cs c Loses = loses c && not (is_alone (survey_of cs) (survey_of cs).losing)
test a cs c LosesAlone = loses c && is_alone (survey_of cs) (survey_of cs).losing
test a cs c Restarts = leb 2 c.restarted
test a cs c IsTwo = is_shared c
test a cs c IsHitAlone = is_worn (survey_of cs) c
test a cs c IsRepeated = is_common c.needless c.asked
test a cs c Demands = leb 1 c.demands
test a cs c Speaks = leb 1 c.secured
test a cs c IsSet = leb 1 c.rate

-- of all faults of a device, one after the other
in_order : (Fault → List ℕ) → List ℕ
in_order g =
    g NeverAnswers ++ (g ComesTwice ++ (g Loses ++ (g LosesAlone ++ (g Restarts ++ (g IsTwo ++ (g IsHitAlone ++ (g IsRepeated ++ (g Demands ++ (g Speaks ++ (g IsSet ++ []))))))))))

-- ---- the same lines, each by its words

-- the words of a device's line, laid out
around : (before address after : List ℕ)
    → codes "diagnosis: " ++ (before ++ (address ++ (after ++ codes "\n"))) ≡ codes "diagnosis: " ++ ((before ++ (address ++ after)) ++ codes "\n")
around before address after =
    ap (λ t. codes "diagnosis: " ++ t)
    (ap (λ t. before ++ t) (sym (append_assoc address after (codes "\n"))) ∙ sym (append_assoc before (address ++ after) (codes "\n")))

module _ (line : Heard) (cs : List Counts) (a : ℕ) where
  abbrev c : Counts
  c = read line a

  abbrev it : Bool → Fault → List ℕ
  it test fault = cond test (told_line line (Of a fault)) []

  mute_line : told_at (is_absent a c) (codes "") a (codes " never answered") ≡ it (is_absent a c) NeverAnswers
  unfolding told_at told_line
  mute_line = ap (λ t. cond (is_absent a c) t []) (ap (λ t. codes "diagnosis: " ++ t) (sym (append_assoc (decimal a) (codes " never answered") (codes "\n"))))

  twice_line : told_at (is_echoed c) (codes "each packet to ") a (codes " comes twice: an echo of the adapter?") ≡ it (is_echoed c) ComesTwice
  unfolding told_at told_line
  twice_line = ap (λ t. cond (is_echoed c) t []) (around (codes "each packet to ") (decimal a) (codes " comes twice: an echo of the adapter?"))

  counted : (test : Bool) (before : List ℕ) (count : ℕ) (after : List ℕ) (fault : Fault)
      → fault_words line a fault ≡ decimal a ++ (before ++ (decimal count ++ after)) → told_count test a before count after ≡ it test fault
  unfolding told_count told_line
  counted test before count after fault is =
      ap (λ t. cond test t [])
      (ap (λ t. codes "diagnosis: " ++ t)
      (ap (λ t. decimal a ++ (before ++ t)) (sym (append_assoc (decimal count) after (codes "\n")))
      ∙ ap (λ t. decimal a ++ t) (sym (append_assoc before (decimal count ++ after) (codes "\n")))
      ∙ sym (append_assoc (decimal a) (before ++ (decimal count ++ after)) (codes "\n"))
      ∙ sym (ap (λ t. t ++ codes "\n") is)))

  abbrev alone : Bool
  alone = is_alone (survey_of cs) (survey_of cs).losing

  loss_line : told_count (loses c) a (codes " loses ") (told_share c) (loss_words alone) ≡ it (loses c && not alone) Loses ++ it (loses c && alone) LosesAlone
  unfolding told_count
  loss_line = by_test (loses c) refl alone
    where
      shared_out : loses c ≡ true → told_share c ≡ share line a
      shared_out is = cond-true (loses c) ((100 * lost c) / c.asked) 0 is ∙ ap (λ n. (100 * n) / asked line a) (lost_is line a (row_of line a))

      by_test : (t : Bool) → loses c ≡ t → (other : Bool)
          → told_count t a (codes " loses ") (told_share c) (loss_words other) ≡ it (t && not other) Loses ++ it (t && other) LosesAlone
      by_test true is true =
          counted true (codes " loses ") (told_share c) (loss_words true) LosesAlone
          (ap (λ n. decimal a ++ (codes " loses " ++ (decimal n ++ codes "% of answers, others none"))) (sym (shared_out is)))
      by_test true is false =
          counted true (codes " loses ") (told_share c) (loss_words false) Loses
          (ap (λ n. decimal a ++ (codes " loses " ++ (decimal n ++ codes "% of answers"))) (sym (shared_out is)))
          ∙ sym (append-nil (told_line line (Of a Loses)))
      by_test false is other = refl

  answers_told : answer_lines (survey_of cs) a c
      ≡ (it (is_absent a c) NeverAnswers ++ it (is_echoed c) ComesTwice) ++ ((it (loses c && not alone) Loses ++ it (loses c && alone) LosesAlone) ++ it (leb 2 c.restarted) Restarts)
  unfolding copy_lines loss_lines
  answers_told =
      ap (λ t. (t ++ told_at (is_echoed c) (codes "each packet to ") a (codes " comes twice: an echo of the adapter?")) ++ loss_lines (survey_of cs) a c) mute_line
      ∙ ap (λ t. (it (is_absent a c) NeverAnswers ++ t) ++ loss_lines (survey_of cs) a c) twice_line
      ∙ ap (λ t. (it (is_absent a c) NeverAnswers ++ it (is_echoed c) ComesTwice) ++ (t ++ told_count (leb 2 c.restarted) a (codes " restarted ") c.restarted (codes " times"))) loss_line
      ∙ ap (λ t. (it (is_absent a c) NeverAnswers ++ it (is_echoed c) ComesTwice) ++ ((it (loses c && not alone) Loses ++ it (loses c && alone) LosesAlone) ++ t))
      (counted (leb 2 c.restarted) (codes " restarted ") c.restarted (codes " times") Restarts refl)

  shared_line : told_at (is_shared c) (codes "two devices may answer at ") a (codes "") ≡ it (is_shared c) IsTwo
  unfolding told_at told_line
  shared_line =
      ap (λ t. cond (is_shared c) t []) (ap (λ t. codes "diagnosis: " ++ t) (sym (append_assoc (codes "two devices may answer at ") (decimal a) (codes "\n"))))

  alone_line : told_at (is_worn (survey_of cs) c) (codes "damage on ") a (codes " alone") ≡ it (is_worn (survey_of cs) c) IsHitAlone
  unfolding told_at told_line
  alone_line = ap (λ t. cond (is_worn (survey_of cs) c) t []) (around (codes "damage on ") (decimal a) (codes " alone"))

  repeated_line : told_at (is_common c.needless c.asked) (codes "packets to ") a (codes " are repeated although answered") ≡ it (is_common c.needless c.asked) IsRepeated
  unfolding told_at told_line
  repeated_line = ap (λ t. cond (is_common c.needless c.asked) t []) (around (codes "packets to ") (decimal a) (codes " are repeated although answered"))

  damage_told : damage_lines (survey_of cs) a c ≡ it (is_shared c) IsTwo ++ (it (is_worn (survey_of cs) c) IsHitAlone ++ it (is_common c.needless c.asked) IsRepeated)
  unfolding repeat_lines
  damage_told =
      ap (λ t. t ++ repeat_lines (is_worn (survey_of cs) c) a c) shared_line
      ∙ ap (λ t. it (is_shared c) IsTwo ++ (t ++ told_at (is_common c.needless c.asked) (codes "packets to ") a (codes " are repeated although answered"))) alone_line
      ∙ ap (λ t. it (is_shared c) IsTwo ++ (it (is_worn (survey_of cs) c) IsHitAlone ++ t)) repeated_line

  demands_line : told_at (leb 1 c.demands) (codes "") a (codes " demands Secure Channel") ≡ it (leb 1 c.demands) Demands
  unfolding told_at told_line
  demands_line = ap (λ t. cond (leb 1 c.demands) t []) (ap (λ t. codes "diagnosis: " ++ t) (sym (append_assoc (decimal a) (codes " demands Secure Channel") (codes "\n"))))

  speaks_line : told_at (leb 1 c.secured) (codes "") a (codes " speaks Secure Channel, which is not judged") ≡ it (leb 1 c.secured) Speaks
  unfolding told_at told_line
  speaks_line =
      ap (λ t. cond (leb 1 c.secured) t []) (ap (λ t. codes "diagnosis: " ++ t) (sym (append_assoc (decimal a) (codes " speaks Secure Channel, which is not judged") (codes "\n"))))

  settings_told : setting_lines a c ≡ (it (leb 1 c.demands) Demands ++ it (leb 1 c.secured) Speaks) ++ it (leb 1 c.rate) IsSet
  settings_told =
      ap (λ t. (t ++ told_at (leb 1 c.secured) (codes "") a (codes " speaks Secure Channel, which is not judged")) ++ told_count (leb 1 c.rate) a (codes " was set to ") c.rate (codes " bits a second")) demands_line
      ∙ ap (λ t. (it (leb 1 c.demands) Demands ++ t) ++ told_count (leb 1 c.rate) a (codes " was set to ") c.rate (codes " bits a second")) speaks_line
      ∙ ap (λ t. (it (leb 1 c.demands) Demands ++ it (leb 1 c.secured) Speaks) ++ t) (counted (leb 1 c.rate) (codes " was set to ") c.rate (codes " bits a second") IsSet refl)

  all_told : answer_lines (survey_of cs) a c ++ (damage_lines (survey_of cs) a c ++ setting_lines a c) ≡ in_order (λ fault. it (test a cs c fault) fault)
  unfolding in_order test
  all_told =
      let answers =
      (it (is_absent a c) NeverAnswers ++ it (is_echoed c) ComesTwice) ++ ((it (loses c && not alone) Loses ++ it (loses c && alone) LosesAlone) ++ it (leb 2 c.restarted) Restarts) in
      let damages = it (is_shared c) IsTwo ++ (it (is_worn (survey_of cs) c) IsHitAlone ++ it (is_common c.needless c.asked) IsRepeated) in
      ap (λ t. t ++ (damage_lines (survey_of cs) a c ++ setting_lines a c)) answers_told ∙ ap (λ t. answers ++ (t ++ setting_lines a c)) damage_told
      ∙ ap (λ t. answers ++ (damages ++ t)) settings_told
      ∙ in_a_row (it (is_absent a c) NeverAnswers) (it (is_echoed c) ComesTwice) (it (loses c && not alone) Loses) (it (loses c && alone) LosesAlone) (it (leb 2 c.restarted) Restarts)
      (it (is_shared c) IsTwo) (it (is_worn (survey_of cs) c) IsHitAlone) (it (is_common c.needless c.asked) IsRepeated) (it (leb 1 c.demands) Demands) (it (leb 1 c.secured) Speaks)
      (it (leb 1 c.rate) IsSet)

-- ---- all that is heard

module _ (line : Heard) where
  abbrev counts : List Counts
  counts = (heard_items (nothing_heard line.standard) line.items).counts

  abbrev tally : Tally
  tally = (heard_items (nothing_heard line.standard) line.items).tally

  long : length counts ≡ 128
  long = rows_are line.standard line.items

  holds : Diagnosis → Bool
  holds Noise = is_noise tally
  holds AllHit = are_all (survey_of counts) (survey_of counts).damaged
  holds (Of a fault) = ltb a 128 && (not (is_ghost (read line a)) && test a counts (read line a) fault)

  -- ---- how many devices are so

  measured_at : (b : ℕ) → b < 128 → Tells (is_measured (row_of line b)) (IsMeasured line b)
  measured_at b within = subst (λ c. Tells (is_measured c) (IsMeasured line b)) (sym (row_is line b within)) (measured_tells line b (row_of line b))

  several_tells : Tells (leb 2 (survey_of counts).measured) (AreSeveral line)
  several_tells =
      subst (λ n. Tells (leb 2 n) (AreSeveral line)) (sym (measured_are counts long))
      (same (at_most 2 (count_by is_measured counts)) (
        (λ many.
            let found = two is_measured no_counts counts many in
            let a = found.0 in let b = found.1 in
            let first : a < 128 = subst (λ n. a < n) long found.2.0 in
            let second : b < 128 = subst (λ n. b < n) long found.3.0 in
            (a, b, first, second, found.4, (measured_at a first).0 found.2.1, (measured_at b second).0 found.3.1)),
        (λ are.
            at_least_two is_measured no_counts counts are.0 are.1
            (subst (λ n. are.0 < n) (sym long) are.2, (measured_at are.0 are.2).1 are.5)
            (subst (λ n. are.1 < n) (sym long) are.3, (measured_at are.1 are.3).1 are.6) are.4),
      ))

  only_tells : (kind : Counts → Bool) (P : ℕ → Type 0) → ((b : ℕ) → b < 128 → Tells (kind (row_of line b)) (IsMeasured line b × P b))
      → (a : ℕ) → a < 128 → IsMeasured line a → P a → Tells (leb 2 (survey_of counts).measured && eqb (count_by kind counts) 1) (IsOnly line P a)
  only_tells kind P at a within measured so =
      same (both several_tells (equal (count_by kind counts) 1)) (
        (λ are. (
          are.0,
          λ b inside is_measured_too is.
              only_one kind no_counts counts a b are.1 (subst (λ n. a < n) (sym long) within, (at a within).1 (measured, so))
              (subst (λ n. b < n) (sym long) inside, (at b inside).1 (is_measured_too, is)),
        )),
        (λ are. (
          are.0,
          one_only kind no_counts counts a (subst (λ n. a < n) (sym long) within, (at a within).1 (measured, so))
              (λ b is.
              let inside : b < 128 = subst (λ n. b < n) long is.0 in
              let both_are = (at b inside).0 is.1 in
              are.1 b inside both_are.0 both_are.1),
        )),
      )

  silent_at : (b : ℕ) → b < 128 → Tells (is_losing (row_of line b)) (IsMeasured line b × IsSilent line b)
  silent_at b within =
      subst (λ c. Tells (is_losing c) (IsMeasured line b × IsSilent line b)) (sym (row_is line b within))
      (both (measured_tells line b (row_of line b)) (silent_tells line b (row_of line b)))

  touched_at : (b : ℕ) → b < 128 → Tells (is_touched (row_of line b)) (IsMeasured line b × IsTouched line b)
  touched_at b within =
      subst (λ c. Tells (is_touched c) (IsMeasured line b × IsTouched line b)) (sym (row_is line b within))
      (same (touched_tells line b (row_of line b)) ((λ is. (is.0, is)), (λ are. are.1)))

  hurt_at : (b : ℕ) → b < 128 → Tells (has_damage (row_of line b)) (IsHurt line b)
  hurt_at b within = subst (λ c. Tells (has_damage c) (IsHurt line b)) (sym (row_is line b within)) (hurt_tells line b (row_of line b))

  all_hit_tells : Tells (are_all (survey_of counts) (survey_of counts).damaged) (Holds line AllHit)
  all_hit_tells =
      subst (λ n. Tells (leb 2 (survey_of counts).measured && eqb n (survey_of counts).measured) (Holds line AllHit)) (sym (damaged_are counts long))
      (subst (λ n. Tells (leb 2 (survey_of counts).measured && eqb (count_by has_damage counts) n) (Holds line AllHit)) (sym (measured_are counts long))
      (same (both several_tells (equal (count_by has_damage counts) (count_by is_measured counts))) (
        (λ are. (
          are.0,
          λ a within measured.
              (hurt_at a within).0
              (all_are has_damage is_measured no_counts among counts a are.1 (subst (λ n. a < n) (sym long) within) ((measured_at a within).1 measured)),
        )),
        (λ are. (
          are.0,
          as_many has_damage is_measured no_counts among counts
              (λ a within is.
              let inside : a < 128 = subst (λ n. a < n) long within in
              (hurt_at a inside).1 (are.1 a inside ((measured_at a inside).0 is))),
        )),
      )))
    where
      among : (c : Counts) → has_damage c ≡ true → is_measured c ≡ true
      among c is = (and_parts (is_measured c) (is_common c.damaged c.asked) is).0

  -- ---- a device

  module _ (a : ℕ) (within : a < 128) where
    alone_tells : LosesAnswers line a → Tells (is_alone (survey_of counts) (survey_of counts).losing) (IsOnly line (IsSilent line) a)
    alone_tells is =
        subst (λ n. Tells (leb 2 (survey_of counts).measured && eqb n 1) (IsOnly line (IsSilent line) a)) (sym (losing_are counts long))
        (only_tells is_losing (IsSilent line) silent_at a within is.0 (inl is))

    is_touched_too : IsHurt line a → IsTouched line a
    is_touched_too is = let many = is.1 in let often = is.2 in (is.0, omega (arith, many), omega (arith, often))

    worn_tells : Tells (is_worn (survey_of counts) (read line a)) (IsSo line a IsHitAlone)
    unfolding is_worn
    worn_tells =
        same
        (given (both (hurt_tells line a (row_of line a)) (none (shared_tells line a (row_of line a))))
        (λ are.
        subst (λ n. Tells (leb 2 (survey_of counts).measured && eqb n 1) (IsOnly line (IsTouched line) a)) (sym (touched_are counts long))
        (only_tells is_touched (IsTouched line) touched_at a within are.0.0 (is_touched_too are.0))))
        ((λ are. (are.0.0, are.0.1, are.1)), (λ are. ((are.0, are.1), are.2)))

    test_tells : (fault : Fault) → Tells (test a counts (read line a) fault) (IsSo line a fault)
    unfolding test
    test_tells NeverAnswers = both (mute_tells line a (row_of line a)) (none (equal a 127))
    test_tells ComesTwice = doubled_tells line a (row_of line a)
    test_tells Loses = given (loses_tells line a (row_of line a)) (λ is. none (alone_tells is))
    test_tells LosesAlone = given (loses_tells line a (row_of line a)) alone_tells
    test_tells Restarts = at_most 2 (read line a).restarted
    test_tells IsTwo = shared_tells line a (row_of line a)
    test_tells IsHitAlone = worn_tells
    test_tells IsRepeated = repeated_tells line a (row_of line a)
    test_tells Demands = at_most 1 (read line a).demands
    test_tells Speaks = at_most 1 (read line a).secured
    test_tells IsSet = at_most 1 (read line a).rate

    -- its lines
    device_told : device_lines (survey_of counts) a (row_of line a) ≡ text_of line holds (of_device a)
    unfolding holds in_order test
    device_told =
        ap (device_lines (survey_of counts) a) (row_is line a within) ∙ by_test (is_ghost (read line a)) refl ∙ sym (eleven line holds a)
      where
        held : (fault : Fault) (t : Bool) → is_ghost (read line a) ≡ t → holds (Of a fault) ≡ (not t && test a counts (read line a) fault)
        held fault t is =
            ap (λ x. x && (not (is_ghost (read line a)) && test a counts (read line a) fault)) (lt-ltb a 128 within)
            ∙ ap (λ x. not x && test a counts (read line a) fault) is

        by_test : (t : Bool) → is_ghost (read line a) ≡ t
            → cond t [] (answer_lines (survey_of counts) a (read line a) ++ (damage_lines (survey_of counts) a (read line a) ++ setting_lines a (read line a))) ≡ in_order (λ fault. one line holds (Of a fault))
        by_test true is = sym (ap in_order (fun_ext (λ fault. ap (λ t. cond t (told_line line (Of a fault)) []) (held fault true is))))
        by_test false is =
            all_told line counts a ∙ sym (ap in_order (fun_ext (λ fault. ap (λ t. cond t (told_line line (Of a fault)) []) (held fault false is))))

  of_tells : (a : ℕ) (fault : Fault) → Tells (holds (Of a fault)) (Holds line (Of a fault))
  unfolding holds
  of_tells a fault =
      same (given (below a 128) (λ within. both (there_tells line a (row_of line a)) (test_tells a within fault))) ((λ are. (are.0, are.1.0, are.1.1)), (λ are. (are.0, (are.1, are.2))))

  -- ---- the line

  tally_along : (f : Tally → ℕ) (kind : RunItem → Bool) → ((t : Tally) (part : RunItem) → f (tally_after t part) ≡ f t + cond (kind part) 1 0)
      → (items : List RunItem) (l : Listening) → f (heard_items l items).tally ≡ f l.tally + count_by kind items
  unfolding after_all
  tally_along f kind step [] l = omega arith
  tally_along f kind step (part ∷ items) l =
      let rest = tally_along f kind step items (heard_item l part) in
      let here : f (heard_item l part).tally ≡ f l.tally + cond (kind part) 1 0 = step l.tally part in
      let first = sum_by-cons (λ (x : RunItem). cond (kind x) 1 0) part items in
      omega (arith, rest, here, first)

  noise_tells : Tells (is_noise tally) (Holds line Noise)
  noise_tells =
      subst (λ n. Tells (eqb n 0 && (leb 20 tally.skipped || leb 3 tally.refused)) (Holds line Noise))
      (sym (tally_along (λ t. t.packets) is_packet packets_step line.items (nothing_heard line.standard) ∙ from_none (count_by is_packet line.items)))
      (subst (λ n. Tells (eqb (count_by is_packet line.items) 0 && (leb 20 n || leb 3 tally.refused)) (Holds line Noise))
      (sym (tally_along (λ t. t.skipped) is_skipped skipped_step line.items (nothing_heard line.standard) ∙ from_none (count_by is_skipped line.items)))
      (subst (λ n. Tells (eqb (count_by is_packet line.items) 0 && (leb 20 (count_by is_skipped line.items) || leb 3 n)) (Holds line Noise))
      (sym (tally_along (λ t. t.refused) is_refusal refused_step line.items (nothing_heard line.standard) ∙ from_none (count_by is_refusal line.items)))
      (both (equal (count_by is_packet line.items) 0) (either (at_most 20 (count_by is_skipped line.items)) (at_most 3 (count_by is_refusal line.items))))))
    where
      packets_step : (t : Tally) (part : RunItem) → (tally_after t part).packets ≡ t.packets + cond (is_packet part) 1 0
      packets_step t (PacketItem p) = refl
      packets_step t (SkippedItem b) = omega arith
      packets_step t (RefusedItem fault) = omega arith

      skipped_step : (t : Tally) (part : RunItem) → (tally_after t part).skipped ≡ t.skipped + cond (is_skipped part) 1 0
      skipped_step t (PacketItem p) = omega arith
      skipped_step t (SkippedItem b) = refl
      skipped_step t (RefusedItem fault) = omega arith

      refused_step : (t : Tally) (part : RunItem) → (tally_after t part).refused ≡ t.refused + cond (is_refusal part) 1 0
      refused_step t (PacketItem p) = refl
      refused_step t (SkippedItem b) = omega arith
      refused_step t (RefusedItem fault) = refl

  each_tells : (d : Diagnosis) → Tells (holds d) (Holds line d)
  unfolding holds
  each_tells Noise = noise_tells
  each_tells AllHit = all_hit_tells
  each_tells (Of a fault) = of_tells a fault

  -- ---- all lines

  devices_told : (n k : ℕ) → k + n ≡ 128 → lines_from (survey_of counts) k (drop k counts) ≡ text_of line holds (of_devices k n)
  unfolding lines_from of_devices
  devices_told zero k all = ap (lines_from (survey_of counts) k) (drop_all k counts (omega (arith, long, all)))
  devices_told (suc n) k all =
      let within : k < 128 = omega (arith, all) in
      ap (lines_from (survey_of counts) k) (drop_more counts k no_counts (subst (λ m. k < m) (sym long) within))
      ∙ ap (λ t. t ++ lines_from (survey_of counts) (k + 1) (drop (k + 1) counts)) (device_told k within)
      ∙ ap (λ t. text_of line holds (of_device k) ++ t) (devices_told n (k + 1) (omega (arith, all)))
      ∙ sym (pick_all line holds (of_device k) (of_devices (k + 1) n))

  noise_line : told_if (is_noise tally) (codes "nothing but noise: another rate?") ≡ one line holds Noise
  unfolding told_if told_line holds
  noise_line = refl

  all_line : told_if (are_all (survey_of counts) (survey_of counts).damaged) (codes "damage on all alike") ≡ one line holds AllHit
  unfolding told_if told_line holds
  all_line = refl

  text_told : diagnoses_text tally counts ≡ text_of line holds every
  text_told =
      ap (λ t. (t ++ told_if (are_all (survey_of counts) (survey_of counts).damaged) (codes "damage on all alike")) ++ lines_from (survey_of counts) 0 counts) noise_line
      ∙ ap (λ t. (one line holds Noise ++ t) ++ lines_from (survey_of counts) 0 counts) all_line
      ∙ ap (λ t. (one line holds Noise ++ one line holds AllHit) ++ t) (devices_told 128 0 refl)
      ∙ append_assoc (one line holds Noise) (one line holds AllHit) (text_of line holds (of_devices 0 128))
      ∙ sym (pick line holds Noise (AllHit ∷ of_devices 0 128) ∙ ap (λ t. one line holds Noise ++ t) (pick line holds AllHit (of_devices 0 128)))

pub tells_diagnoses : TellsDiagnoses
tells_diagnoses line = (holds line, each_tells line, text_told line)
