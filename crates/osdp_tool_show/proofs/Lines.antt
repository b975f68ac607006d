-- Lines and counts, piece by piece.
use Rattle.osdp_tool_show.proofs.Common.{◌≡◌, ℕ, ◌+◌, ◌*◌, ◌<◌, ◌≤◌, ◌==◌, cond, Bool, true, false, List, [], ◌∷◌, ◌++◌, length, drop, refl, ap, arith, append-nil, length-drop, eqb-true, eqb-false, RunItem, PacketItem, SkippedItem, RefusedItem, item_size, reading, Detail, Tally, is_refusal}
use Rattle.osdp_tool_show.proofs.OneByOne.{GoesOneByOne, TellsOneByOne, goes-append, tells-append}
use Rattle.osdp_tool_show.specs.Tally.{one_if, tally_after, tally_after_all, after_run, counted}
use Rattle.osdp_tool_show.specs.ToldItems.{shown_line, shown_lines, after_runs, runs_lines}

-- ---- items, one after the other

pub tally_after_all-nil : (tally : Tally) → tally_after_all tally [] ≡ tally
unfolding tally_after_all
tally_after_all-nil tally = refl

pub tally_after_all-cons : (tally : Tally) (part : RunItem) (parts : List RunItem) → tally_after_all tally (part ∷ parts) ≡ tally_after_all (tally_after tally part) parts
unfolding tally_after_all
tally_after_all-cons tally part parts = refl

pub shown_lines-nil : (detail : Detail) (tally : Tally) → shown_lines detail tally [] ≡ []
unfolding shown_lines
shown_lines-nil detail tally = refl

pub shown_lines-cons : (detail : Detail) (tally : Tally) (part : RunItem) (parts : List RunItem)
    → shown_lines detail tally (part ∷ parts) ≡ shown_line detail tally part ++ shown_lines detail (tally_after tally part) parts
unfolding shown_lines
shown_lines-cons detail tally part parts = refl

count_items_in_turn : GoesOneByOne tally_after tally_after_all
count_items_in_turn = record { none = tally_after_all-nil; more = tally_after_all-cons }

pub tally_after_all-append : (tally : Tally) (xs ys : List RunItem) → tally_after_all tally (xs ++ ys) ≡ tally_after_all (tally_after_all tally xs) ys
tally_after_all-append = goes-append tally_after tally_after_all count_items_in_turn

pub shown_lines-append : (detail : Detail) (tally : Tally) (xs ys : List RunItem)
    → shown_lines detail tally (xs ++ ys) ≡ shown_lines detail tally xs ++ shown_lines detail (tally_after_all tally xs) ys
shown_lines-append detail =
    tells-append tally_after tally_after_all (shown_line detail) (shown_lines detail) count_items_in_turn
    (record { none = shown_lines-nil detail; more = shown_lines-cons detail })

-- ---- runs, one after the other

abbrev after_one_run : Tally → List ℕ → Tally
after_one_run tally run = after_run (tally_after_all tally (reading run))

count_runs_in_turn : GoesOneByOne after_one_run after_runs
unfolding after_runs
count_runs_in_turn = record { none = λ tally. refl; more = λ tally run runs. refl }

pub after_runs-append : (tally : Tally) (xs ys : List (List ℕ)) → after_runs tally (xs ++ ys) ≡ after_runs (after_runs tally xs) ys
after_runs-append = goes-append after_one_run after_runs count_runs_in_turn

tell_runs_in_turn : (detail : Detail) → TellsOneByOne after_one_run (λ tally run. shown_lines detail tally (reading run)) (runs_lines detail)
unfolding runs_lines
tell_runs_in_turn detail = record { none = λ tally. refl; more = λ tally run runs. refl }

pub runs_lines-append : (detail : Detail) (tally : Tally) (xs ys : List (List ℕ))
    → runs_lines detail tally (xs ++ ys) ≡ runs_lines detail tally xs ++ runs_lines detail (after_runs tally xs) ys
runs_lines-append detail =
    tells-append after_one_run after_runs (λ tally run. shown_lines detail tally (reading run)) (runs_lines detail) count_runs_in_turn
    (tell_runs_in_turn detail)

-- one run
pub after_runs-one : (tally : Tally) (run : List ℕ) → after_runs tally (run ∷ []) ≡ after_run (tally_after_all tally (reading run))
unfolding after_runs
after_runs-one tally run = refl

pub runs_lines-one : (detail : Detail) (tally : Tally) (run : List ℕ) → runs_lines detail tally (run ∷ []) ≡ shown_lines detail tally (reading run)
unfolding runs_lines
runs_lines-one detail tally run = append-nil (shown_lines detail tally (reading run))

-- ---- places

-- a run begins at place 0
pub after_run-place : (tally : Tally) → (after_run tally).place ≡ 0
after_run-place tally = by_test (tally.place == 0) refl
  where
    by_test : (t : Bool) → (tally.place == 0) ≡ t → (cond t tally (record tally { runs = tally.runs + 1; place = 0 })).place ≡ 0
    by_test true e = eqb-true tally.place 0 e
    by_test false e = refl

pub after_runs-place : (tally : Tally) (runs : List (List ℕ)) → tally.place ≡ 0 → (after_runs tally runs).place ≡ 0
unfolding after_runs
after_runs-place tally [] h = h
after_runs-place tally (run ∷ runs) h =
    after_runs-place (after_run (tally_after_all tally (reading run))) runs (after_run-place (tally_after_all tally (reading run)))

-- where nothing has come of a run its end changes nothing
pub after_run-none : (tally : Tally) → tally.place ≡ 0 → after_run tally ≡ tally
after_run-none tally h = ap (λ n. cond (n == 0) tally (record tally { runs = tally.runs + 1; place = 0 })) h

-- ---- bounds

one_if-le : (t : Bool) → one_if t ≤ 1
one_if-le true = omega arith
one_if-le false = omega arith

-- an item of some bytes counts for at most that many and two more
pub counted-tally_after : (tally : Tally) (part : RunItem) → counted (tally_after tally part) ≤ counted tally + (item_size part + 2)
counted-tally_after tally (PacketItem p) = let b = one_if-le (is_refusal (PacketItem p)) in omega arith
counted-tally_after tally (SkippedItem b) = omega arith
counted-tally_after tally (RefusedItem fault) = omega arith

-- so what is counted and five times the bytes that are left do not grow
pub counted-later : (tally : Tally) (part : RunItem) (bytes : List ℕ) → 0 < item_size part → item_size part ≤ length bytes
    → counted (tally_after tally part) + 5 * length (drop (item_size part) bytes) ≤ counted tally + 5 * length bytes
counted-later tally part bytes some short = omega (arith, counted-tally_after tally part, length-drop (item_size part) bytes)

pub counted-after_run : (tally : Tally) → counted (after_run tally) ≤ counted tally
counted-after_run tally = by_test (tally.place == 0) refl
  where
    by_test : (t : Bool) → (tally.place == 0) ≡ t → counted (cond t tally (record tally { runs = tally.runs + 1; place = 0 })) ≤ counted tally
    by_test true e = omega arith
    by_test false e = let ne = eqb-false tally.place 0 e in omega arith
