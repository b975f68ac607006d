-- What the survey of a line has: how many devices are measured, and how many of them are so.
use Rattle.osdp_tool_monitor_laws.proofs.Common.{◌≡◌, ◌≤◌, ◌+◌, ℕ, Bool, cond, List, [], ◌∷◌, length, count_by, Option, Some, None, refl, ap, ◌∙◌, arith, length-replicate, length-set, count_by-le-length, sum_by-cons, RunItem, PacketItem, SkippedItem, RefusedItem, copies_last, Counts, after_damage, after_packet, counts_after_damage, more_if, no_counts, add, has_damage, is_measured, is_mute, is_touched, loses, survey_of, Listening, heard_item, heard_items, nothing_heard, told_in, after_bad, hit_by, is_clean, capped}
use Rattle.osdp_tool_monitor.specs.InTurn.{after_all}
use Rattle.std.specs.Prelude.{slice_index_or, ◌&&◌, ◌||◌}
use Rattle.osdp_tool_monitor_laws.proofs.Counting.{from_none, more}

-- ---- there are 128 rows

damage_long : (o : Option ℕ) (cs : List Counts) → length (counts_after_damage o cs) ≡ length cs
damage_long None cs = refl
damage_long (Some b) cs = length-set cs b (after_damage (slice_index_or cs b no_counts))

items_long : (items : List RunItem) (l : Listening) → length (heard_items l items).counts ≡ length l.counts
unfolding after_all
items_long [] l = refl
items_long (PacketItem p ∷ items) l =
    items_long items (heard_item l (PacketItem p))
    ∙ length-set l.counts p.address (after_packet p (is_clean l.trail.bad) (copies_last l.knowledge p) (told_in l p) (slice_index_or l.counts p.address no_counts))
items_long (SkippedItem b ∷ items) l = items_long items (heard_item l (SkippedItem b)) ∙ damage_long (hit_by l.trail (after_bad l.trail.bad)) l.counts
items_long (RefusedItem fault ∷ items) l = items_long items (heard_item l (RefusedItem fault)) ∙ damage_long (hit_by l.trail 7) l.counts

pub rows_are : (standard : Bool) (items : List RunItem) → length (heard_items (nothing_heard standard) items).counts ≡ 128
rows_are standard items = items_long items (nothing_heard standard) ∙ length-replicate 128 no_counts

-- ---- each number of the survey

module _ {S : Type 0} (adds : S → Counts → S) (start : S) (f : S → ℕ) (kind : Counts → Bool) (step : (s : S) (c : Counts) → f (adds s c) ≡ more_if (kind c) (f s)) where
  along : (cs : List Counts) (s : S) (n : ℕ) → f s ≡ capped n → f (after_all adds s cs) ≡ capped (n + count_by kind cs)
  unfolding after_all
  along [] s n so_far = so_far ∙ ap capped (omega arith)
  along (c ∷ cs) s n so_far =
      let first = sum_by-cons (λ (x : Counts). cond (kind x) 1 0) c cs in
      along cs (adds s c) (n + cond (kind c) 1 0) (step s c ∙ ap (more_if (kind c)) so_far ∙ more (kind c) n) ∙ ap capped (omega (arith, first))

  few_stay : (n : ℕ) → n ≤ 128 → capped n ≡ n
  few_stay n few = omega (arith, few)

  pub surveyed : (cs : List Counts) → length cs ≡ 128 → f start ≡ 0 → f (after_all adds start cs) ≡ count_by kind cs
  surveyed cs long none =
      let few = count_by-le-length kind cs in
      along cs start 0 none ∙ ap capped (from_none (count_by kind cs)) ∙ few_stay (count_by kind cs) (omega (arith, few, long))

abbrev pub is_losing : Counts → Bool
is_losing c = is_measured c && (loses c || is_mute c)

pub measured_are : (cs : List Counts) → length cs ≡ 128 → (survey_of cs).measured ≡ count_by is_measured cs
unfolding after_all
measured_are cs long = surveyed add (survey_of []) (λ s. s.measured) is_measured (λ s c. refl) cs long refl

pub losing_are : (cs : List Counts) → length cs ≡ 128 → (survey_of cs).losing ≡ count_by is_losing cs
unfolding after_all
losing_are cs long = surveyed add (survey_of []) (λ s. s.losing) is_losing (λ s c. refl) cs long refl

pub damaged_are : (cs : List Counts) → length cs ≡ 128 → (survey_of cs).damaged ≡ count_by has_damage cs
unfolding after_all
damaged_are cs long = surveyed add (survey_of []) (λ s. s.damaged) has_damage (λ s c. refl) cs long refl

pub touched_are : (cs : List Counts) → length cs ≡ 128 → (survey_of cs).touched ≡ count_by is_touched cs
unfolding after_all
touched_are cs long = surveyed add (survey_of []) (λ s. s.touched) is_touched (λ s c. refl) cs long refl
