-- Skipped bytes that are counted at once.
use Rattle.osdp_tool_show.proofs.Common.{◌≡◌, ◌≢◌, ℕ, ◌+◌, ◌-◌, ◌*◌, cond, false, List, [], ◌∷◌, length, map, take, drop, Option, Some, refl, sym, subst, ap, ◌∙◌, arith, ne_eqb, drop_all, Appends-nil, Appends, AllByRecursion, AreBytes, SkippedItem, total_size, items, start_of_message, AreBytes-drop, AreBytes-take, decided_nothing, items_undecided, items_decided, Refusals, tally_after_all, counted, shown_lines, Report, Tells, Drained, Took}
use Rattle.osdp_frame.specs.Held.{begun, decided, new_run}
use Rattle.osdp_tool_show.proofs.PassedItems.{after_passed, lines_passed}
use Rattle.osdp_tool_show.proofs.WholeItems.{settled_new, took_drained}

abbrev pub AreSkipped : List ℕ → Type 0
AreSkipped bytes = AllByRecursion (λ b. b ≢ start_of_message) bytes

decided_passed : (b : ℕ) (bytes : List ℕ) → b ≢ start_of_message → decided false (b ∷ bytes) ≡ Some (SkippedItem b)
unfolding decided
decided_passed b bytes other = ap (λ t. cond t (begun false (b ∷ bytes)) (Some (SkippedItem b))) (ne_eqb b start_of_message other)

items_passed : (bytes : List ℕ) → AreBytes bytes → AreSkipped bytes → items false bytes ≡ map SkippedItem bytes
items_passed [] fits h = items_undecided false [] (decided_nothing false)
items_passed (b ∷ bytes) fits h =
    items_decided false (b ∷ bytes) (SkippedItem b) fits (decided_passed b bytes h.0)
    ∙ ap (λ l. SkippedItem b ∷ l) (items_passed bytes (AreBytes-drop 1 (b ∷ bytes) fits) h.1)

size_passed : (bytes : List ℕ) → total_size (map SkippedItem bytes) ≡ length bytes
size_passed [] = refl
size_passed (b ∷ bytes) = let rest = size_passed bytes in omega arith

tells_passed : (old new : Report) (now : Option (List ℕ)) (bytes : List ℕ) → old.detail ≡ Refusals → new.detail ≡ old.detail
    → new.tally ≡ tally_after_all old.tally (map SkippedItem bytes) → Tells old new now now (map SkippedItem bytes)
tells_passed old new now bytes alone detail tally = record {
  detail = detail;
  tally = tally;
  lines = subst (Appends now now) (sym (ap (λ f. shown_lines f old.tally (map SkippedItem bytes)) alone ∙ lines_passed old.tally bytes)) (Appends-nil now);
}

drained_passed : (old new : Report) (now : Option (List ℕ)) (bytes : List ℕ) → AreBytes bytes → AreSkipped bytes
    → new.tally ≡ tally_after_all old.tally (map SkippedItem bytes) → Tells old new now now (map SkippedItem bytes)
    → Drained (record { bytes = bytes; ended = false }) new_run old new now now
drained_passed old new now bytes fits skipped tally tells =
    let parts = items_passed bytes fits skipped in
    let size : total_size (items false bytes) ≡ length bytes = ap total_size parts ∙ size_passed bytes in
    let nothing : drop (total_size (items false bytes)) bytes ≡ [] = drop_all (total_size (items false bytes)) bytes (omega arith) in
    let counts : counted new.tally ≡ counted old.tally + 2 * length bytes =
    ap counted (tally ∙ after_passed old.tally bytes) ∙ omega arith in
    record {
      tells = subst (Tells old new now now) (sym parts) tells;
      held = ap (λ (l : List ℕ). record { bytes = l; ended = false }) (sym nothing);
      settled = decided_nothing false;
      counts = omega arith;
    }

pub took_passed : (bytes : List ℕ) (count : ℕ) (old new : Report) (now : Option (List ℕ)) → AreBytes bytes → AreSkipped (take count bytes)
    → old.detail ≡ Refusals → new.detail ≡ old.detail → new.tally ≡ tally_after_all old.tally (map SkippedItem (take count bytes))
    → Took (take count bytes) new_run new_run old new now now
took_passed bytes count old new now fits skipped alone detail tally =
    let front = take count bytes in
    let front_fits = AreBytes-take count bytes fits in
    took_drained front new_run new_run old new now now front_fits settled_new
    (drained_passed old new now front front_fits skipped tally (tells_passed old new now front alone detail tally))
