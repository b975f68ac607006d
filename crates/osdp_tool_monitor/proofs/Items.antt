-- The items of a run, one after the other.
use Rattle.osdp_tool_monitor.proofs.Common.{◌≡◌, ℕ, ◌+◌, ◌-◌, ◌*◌, ◌≤◌, false, List, [], ◌∷◌, ◌++◌, length, take, drop, refl, sym, ◌∙◌, ap, subst, append_assoc, append-nil, take-append-drop, arith, length-drop, IsTrue, drop_all, drop-drop, take_all, AreBytes, reading, IsFirst, RunItem, Stands, item_size, AreBytes-drop, is_reading, item_size-positive, reading_is, sizes_reading, Detail, Listener, ToolFault, NoMemory, TooLong, counted, counted-tally_after, HearsFirst, IsLineFault, Listening, heard_item, heard_items, item_report, items_report, listening_of, detail_of}
use Rattle.osdp_tool_monitor.specs.InTurn.{after_all, report_of_all}

not_true : IsTrue false → ⊥
not_true never = cc

-- what stands first in every run that begins so stands first in this one
stands_first : (rest : List ℕ) (part : RunItem) → IsFirst false (take (item_size part) rest) part → Stands rest part
stands_first rest part first =
    subst (λ l. Stands l part) (take-append-drop (item_size part) rest) (first (drop (item_size part) rest) (λ never. absurd (not_true never)))

pub stands_in_run : (run : List ℕ) (at : ℕ) (part : RunItem)
    → IsFirst false (take (item_size part) (take (length run - at) (drop at run))) part → Stands (drop at run) part
stands_in_run run at part first =
    let whole : take (length run - at) (drop at run) ≡ drop at run = take_all (length run - at) (drop at run) (omega (arith, length-drop at run)) in
    stands_first (drop at run) part (subst (λ l. IsFirst false (take (item_size part) l) part) whole first)

-- the reading goes on after its first item
reading_next : (rest : List ℕ) (part : RunItem) → AreBytes rest → Stands rest part → reading rest ≡ part ∷ reading (drop (item_size part) rest)
reading_next rest part fits stands =
    sym (reading_is rest (part ∷ reading (drop (item_size part) rest)) fits (stands, is_reading (drop (item_size part) rest) (AreBytes-drop (item_size part) rest fits)))

reading_nothing : reading [] ≡ []
reading_nothing = sym (reading_is [] [] (λ place. omega arith) refl)

heard_cons : (l : Listening) (part : RunItem) (parts : List RunItem) → heard_items l (part ∷ parts) ≡ heard_items (heard_item l part) parts
unfolding after_all
heard_cons l part parts = refl

heard_nil : (l : Listening) → heard_items l [] ≡ l
unfolding after_all
heard_nil l = refl

report_cons : (detail : Detail) (l : Listening) (part : RunItem) (parts : List RunItem)
    → items_report detail l (part ∷ parts) ≡ item_report detail l part ++ items_report detail (heard_item l part) parts
unfolding report_of_all
report_cons detail l part parts = refl

report_nil : (detail : Detail) (l : Listening) → items_report detail l [] ≡ []
unfolding report_of_all
report_nil detail l = refl

-- ---- one more item of a run

on_by_first : (run : List ℕ) (at size : ℕ) (part : RunItem) → AreBytes run → Stands (drop at run) part → size ≡ item_size part
    → reading (drop at run) ≡ part ∷ reading (drop (at + size) run)
on_by_first run at size part fits stands is =
    reading_next (drop at run) part (AreBytes-drop at run fits) stands
    ∙ ap (λ l. part ∷ reading l) (drop-drop (item_size part) at run ∙ ap (λ n. drop (at + n) run) (sym is))

pub heard_step : (run : List ℕ) (at size : ℕ) (old new : Listener) (before after : List ℕ) (all : Listening) → AreBytes run
    → HearsFirst (drop at run) old new before after size → heard_items (listening_of old) (reading (drop at run)) ≡ all
    → heard_items (listening_of new) (reading (drop (at + size) run)) ≡ all
heard_step run at size old new before after all fits first so_far =
    let next = on_by_first run at size first.part fits first.stands first.size_is in
    ap (λ l. heard_items l (reading (drop (at + size) run))) first.hears.heard
    ∙ sym (heard_cons (listening_of old) first.part (reading (drop (at + size) run)))
    ∙ ap (heard_items (listening_of old)) (sym next) ∙ so_far

pub text_step : (run : List ℕ) (at size : ℕ) (detail : Detail) (old new : Listener) (before after all : List ℕ) → AreBytes run
    → HearsFirst (drop at run) old new before after size → detail_of old ≡ detail
    → before ++ items_report detail (listening_of old) (reading (drop at run)) ≡ all
    → after ++ items_report detail (listening_of new) (reading (drop (at + size) run)) ≡ all
text_step run at size detail old new before after all fits first tells so_far =
    let next = on_by_first run at size first.part fits first.stands first.size_is in
    let rest = items_report detail (heard_item (listening_of old) first.part) (reading (drop (at + size) run)) in
    ap (λ l. after ++ items_report detail l (reading (drop (at + size) run))) first.hears.heard
    ∙ ap (λ t. t ++ rest) (first.hears.text ∙ ap (λ p. before ++ item_report p (listening_of old) first.part) tells)
    ∙ append_assoc before (item_report detail (listening_of old) first.part) rest
    ∙ ap (λ t. before ++ t) (sym (report_cons detail (listening_of old) first.part (reading (drop (at + size) run))))
    ∙ ap (λ parts. before ++ items_report detail (listening_of old) parts) (sym next) ∙ so_far

pub within_step : (run : List ℕ) (at size : ℕ) (part : RunItem) → AreBytes run → at ≤ length run → Stands (drop at run) part → size ≡ item_size part
    → at + size ≤ length run
within_step run at size part fits within stands is =
    let whole = sizes_reading (drop at run) (part ∷ reading (drop (item_size part) (drop at run)))
    (stands, is_reading (drop (item_size part) (drop at run)) (AreBytes-drop (item_size part) (drop at run) (AreBytes-drop at run fits))) in
    omega (arith, whole, length-drop at run)

-- ---- the end of a run

pub heard_end : (run : List ℕ) (at : ℕ) (l all : Listening) → length run ≤ at → heard_items l (reading (drop at run)) ≡ all → l ≡ all
heard_end run at l all past so_far =
    sym (heard_nil l) ∙ ap (heard_items l) (sym (ap reading (drop_all at run past) ∙ reading_nothing)) ∙ so_far

pub text_end : (run : List ℕ) (at : ℕ) (detail : Detail) (l : Listening) (text all : List ℕ) → length run ≤ at
    → text ++ items_report detail l (reading (drop at run)) ≡ all → text ≡ all
text_end run at detail l text all past so_far =
    sym (append-nil text)
    ∙ ap (λ t. text ++ t) (sym (ap (λ r. items_report detail l (reading r)) (drop_all at run past) ∙ ap (items_report detail l) reading_nothing ∙ report_nil detail l))
    ∙ so_far

-- ---- what is counted

pub count_step : (run : List ℕ) (at size : ℕ) (old new : Listener) (before after : List ℕ) (count : ℕ) → HearsFirst (drop at run) old new before after size
    → at + size ≤ length run → counted old.tally + 5 * (length run - at) ≤ count → counted new.tally + 5 * (length run - (at + size)) ≤ count
count_step run at size old new before after count first within so_far =
    let tally : counted new.tally ≡ counted (heard_item (listening_of old) first.part).tally = ap (λ (l : Listening). counted l.tally) first.hears.heard in
    let is = first.size_is in
    omega (arith, counted-tally_after old.tally first.part, item_size-positive first.part)

pub fault_more : (a b : ℕ) (fault : ToolFault) → a ≤ b → IsLineFault a fault → IsLineFault b fault
fault_more a b NoMemory more is = is
fault_more a b TooLong more is = omega arith
fault_more a b fault more is = absurd is
