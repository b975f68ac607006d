-- What is heard beside the bus: the lines of items, one after the other.
use Rattle.osdp_line_calls.proofs.Common.{◌≡◌, ℕ, ◌+◌, ◌<◌, Bool, true, false, List, [], ◌∷◌, ◌++◌, length, drop, Some, Result, Ok, Err, inl, inr, ◌≤◌, sym, ap, ◌∙◌, arith, append_assoc, append-nil, drop_more, items, rest_of, Received, ends_run, over_items, over_leaves, first_from, Listening}
use Rattle.std.specs.Prelude.{flat_map, slice_get, if◌then◌else◌, OnOk}
use Rattle.std.specs.Option.{option_map_or}
use Rattle.std.proofs.lemmas.Option.{slice_get_cases}
use Rattle.std.proofs.lemmas.Grind.{flat_map-append}
use Rattle.osdp_frame.specs.Reading.{RunItem}
use Rattle.osdp_bus.specs.declared.entry.Entry.{Entry}

module _ (line : RunItem → List ℕ) where
  -- the lines of items are written after what was written before
  abbrev pub written : List RunItem → List ℕ → List ℕ
  written parts t = t ++ flat_map line parts

  pub written-append : (xs ys : List RunItem) (t : List ℕ) → written (xs ++ ys) t ≡ written ys (written xs t)
  written-append xs ys t = ap (λ l. t ++ l) (flat_map-append line xs ys) ∙ sym (append_assoc t (flat_map line xs) (flat_map line ys))

  -- one item's line
  pub line_written : (part : RunItem) (t0 t1 : List ℕ) → t1 ≡ t0 ++ line part → t1 ≡ written (part ∷ []) t0
  line_written part t0 t1 writes = writes ∙ sym (ap (λ l. t0 ++ l) (append-nil (line part)))

  -- no item is left
  pub all_written : (before t : List ℕ) (parts : List RunItem) → parts ≡ [] → written parts t ≡ before → t ≡ before
  all_written before t parts none so_far = sym (append-nil t) ∙ sym (ap (λ l. t ++ flat_map line l) none) ∙ so_far

  -- the run is over
  pub end_text : {A E : Type 0} (r : Result A E) (t0 t1 : List ℕ) (l over : Received) → over ≡ ends_run l
      → OnOk r (t1 ≡ written (items over.held.ended over.held.bytes) t0) → OnOk r (t1 ≡ written (items true l.held.bytes) t0)
  end_text (Ok x) t0 t1 l over ends writes = writes ∙ ap (λ parts. t0 ++ flat_map line parts) (over_items l over ends)
  end_text (Err e) t0 t1 l over ends writes = tt

-- what a listener with this receiver has heard
abbrev heard_by : Received → List Bool → Listening
heard_by l opened = record { held = l.held.bytes; gap = l.gap; last = l.last; greatest = l.greatest; opened = opened }

-- what was held has gone, and nothing else has changed
pub end_after : {A E : Type 0} (r : Result A E) (l over new : Received) (opened : List Bool) (s : Listening) → over ≡ ends_run l
    → new ≡ record over { held = new.held } → heard_by l opened ≡ s → OnOk r (new.held.bytes ≡ rest_of over.held.ended over.held.bytes)
    → OnOk r (heard_by new opened ≡ record s { held = [] })
end_after (Ok x) l over new opened s ends same is lefts =
    ap (λ (bytes : List ℕ). record (heard_by new opened) { held = bytes }) (lefts ∙ over_leaves l over ends)
    ∙ ap (λ (r : Received). record (heard_by r opened) { held = [] }) (same ∙ ap (λ (r : Received). record r { held = new.held }) ends)
    ∙ ap (λ (t : Listening). record t { held = [] }) is
end_after (Err e) l over new opened s ends same is lefts = tt

-- ---- entries

-- the device of an entry is tested, and then those after it
first_step : (test : Entry → Bool) (ds : List Entry) (i : ℕ) → i < length ds
    → first_from i test (drop i ds) ≡ (if option_map_or test (slice_get ds i) false then Some i else first_from (i + 1) test (drop (i + 1) ds))
first_step test ds i within = elim (slice_get_cases ds i).1 [
  | inl here ↦ ap (first_from i test) (drop_more ds i here.0 here.1 ∙ ap (λ d. d ∷ drop (i + 1) ds) here.3) ∙ sym (ap (λ o. if option_map_or test o false then Some i else first_from (i + 1) test (drop (i + 1) ds)) here.2)
  | inr past ↦ absurd (omega (arith, within, past.0))
]

pub found : (test : Entry → Bool) (ds : List Entry) (i : ℕ) → i < length ds → option_map_or test (slice_get ds i) false ≡ true
    → first_from i test (drop i ds) ≡ Some i
found test ds i within is = first_step test ds i within ∙ ap (λ (b : Bool). if b then Some i else first_from (i + 1) test (drop (i + 1) ds)) is

pub not_found : (test : Entry → Bool) (ds : List Entry) (i : ℕ) → i < length ds → option_map_or test (slice_get ds i) false ≡ false
    → first_from i test (drop i ds) ≡ first_from (i + 1) test (drop (i + 1) ds)
not_found test ds i within is = first_step test ds i within ∙ ap (λ (b : Bool). if b then Some i else first_from (i + 1) test (drop (i + 1) ds)) is
