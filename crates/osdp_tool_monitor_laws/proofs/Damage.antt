-- Damage before the packets of a device, and after those to it.
use Rattle.osdp_tool_monitor_laws.proofs.Common.{◌≡◌, inl, inr, ◌+◌, ℕ, min, Bool, true, false, cond, eqb, ltb, leb, ◌&&◌, ◌||◌, not, List, [], ◌∷◌, count_by, Option, Some, None, refl, sym, ap, ◌∙◌, arith, cases_Bool, cond-false, cond-true, ltb-false, ltb-true, leb-false, leb-true, lt-ltb, le-ltb, le-leb, lt-leb, sum_by-cons, Packet, RunItem, PacketItem, SkippedItem, RefusedItem, Found, copies_last, is_skipped, Counts, after_damage, after_packet, counts_after_damage, more_if, after_bad, hit_by, is_clean, Listening, heard_item, heard_items, told_in, capped}
use Rattle.osdp_tool_monitor.specs.declared.trail.Trail.{Trail}
use Rattle.osdp_tool_monitor.specs.InTurn.{after_all}
use Rattle.osdp_tool_monitor_laws.specs.Faults.{is_bad, is_hit, is_whole, up_to_packet, with_last, with_next}
use Rattle.osdp_tool_monitor_laws.proofs.OneRow.{is_at, row, row_hit, row_taken, undamaged, within_of}
use Rattle.osdp_tool_monitor_laws.proofs.Counting.{by_reply, from_none, kept_long, long_after, more, more_to, then_or}

module _ (p : Packet) (clean copy : Bool) (found : Found) (c : Counts) where
  clean_step : (after_packet p clean copy found c).clean ≡ more_if clean c.clean
  clean_step = by_reply (λ b. (then_or p clean copy found c b).clean ≡ more_if clean c.clean) refl refl p.reply

  damaged_step : (after_packet p clean copy found c).damaged ≡ c.damaged
  damaged_step = by_reply (λ b. (then_or p clean copy found c b).damaged ≡ c.damaged) refl refl p.reply

module _ (a : ℕ) where
  abbrev skipped_in : List RunItem → ℕ
  skipped_in items = count_by is_skipped items

  abbrev bad_in : List RunItem → ℕ
  bad_in items = count_by is_bad items

  one_skipped : (part : RunItem) (items : List RunItem) → skipped_in (part ∷ items) ≡ cond (is_skipped part) 1 0 + skipped_in items
  one_skipped part items = sum_by-cons (λ (x : RunItem). cond (is_skipped x) 1 0) part items

  one_bad : (part : RunItem) (items : List RunItem) → bad_in (part ∷ items) ≡ cond (is_bad part) 1 0 + bad_in items
  one_bad part items = sum_by-cons (λ (x : RunItem). cond (is_bad x) 1 0) part items

  -- damage is still to come after the last packet, which went to the device
  abbrev is_coming : Bool → ℕ → ℕ → ℕ → Bool
  is_coming here bad skipped refused_are = here && (ltb bad 7 && (leb 7 (bad + skipped) || ltb 0 refused_are))

  abbrev coming : Listening → List RunItem → Bool
  coming l items = is_coming (is_at a l.trail.asked) l.trail.bad (skipped_in (up_to_packet items)) (bad_in (up_to_packet items))

  is_hit_by : (trail : Trail) (bad : ℕ) → is_at a (hit_by trail bad) ≡ (is_at a trail.asked && (ltb trail.bad 7 && not (ltb bad 7)))
  is_hit_by trail bad = by_test (ltb trail.bad 7 && not (ltb bad 7)) trail.asked
    where
      by_test : (t : Bool) (o : Option ℕ) → is_at a (cond t o None) ≡ (is_at a o && t)
      by_test true None = refl
      by_test true (Some b) = one (eqb b a)
        where
          one : (x : Bool) → x ≡ (x && true)
          one true = refl
          one false = refl
      by_test false None = refl
      by_test false (Some b) = none (eqb b a)
        where
          none : (x : Bool) → false ≡ (x && false)
          none true = refl
          none false = refl

  hit_now : (l : Listening) (bad : ℕ) → within_of a l
      → (row a (counts_after_damage (hit_by l.trail bad) l.counts)).damaged ≡ more_if (is_at a l.trail.asked && (ltb l.trail.bad 7 && not (ltb bad 7))) (row a l.counts).damaged
  hit_now l bad within =
      ap (λ (c : Counts). c.damaged) (row_hit a (hit_by l.trail bad) l.counts within) ∙ by_test (is_at a (hit_by l.trail bad)) (row a l.counts)
      ∙ ap (λ t. more_if t (row a l.counts).damaged) (is_hit_by l.trail bad)
    where
      by_test : (t : Bool) (c : Counts) → (cond t (after_damage c) c).damaged ≡ more_if t c.damaged
      by_test true c = refl
      by_test false c = refl

  skip_adds : (here : Bool) (bad k r : ℕ)
      → cond (here && (ltb bad 7 && not (ltb (after_bad bad) 7))) 1 0 + cond (is_coming here (after_bad bad) k r) 1 0 ≡ cond (is_coming here bad (1 + k) r) 1 0
  skip_adds false bad k r = refl
  skip_adds true bad k r = elim (cases_Bool (ltb bad 7)) [
    | inl few ↦ elim (cases_Bool (ltb (bad + 1) 7)) [
      | inl few_still ↦
          ap (λ n. cond (ltb bad 7 && not (ltb n 7)) 1 0 + cond (ltb n 7 && (leb 7 (n + k) || ltb 0 r)) 1 0) (cond-true (ltb bad 7) (bad + 1) bad few)
          ∙ ap (λ t. cond (ltb bad 7 && not t) 1 0 + cond (t && (leb 7 ((bad + 1) + k) || ltb 0 r)) 1 0) few_still
          ∙ ap (λ t. cond (t && false) 1 0 + cond (leb 7 ((bad + 1) + k) || ltb 0 r) 1 0) few
          ∙ from_none (cond (leb 7 ((bad + 1) + k) || ltb 0 r) 1 0)
          ∙ ap (λ n. cond (leb 7 n || ltb 0 r) 1 0) (omega arith)
          ∙ sym (ap (λ t. cond (t && (leb 7 (bad + (1 + k)) || ltb 0 r)) 1 0) few)
      | inr full ↦
          ap (λ n. cond (ltb bad 7 && not (ltb n 7)) 1 0 + cond (ltb n 7 && (leb 7 (n + k) || ltb 0 r)) 1 0) (cond-true (ltb bad 7) (bad + 1) bad few)
          ∙ ap (λ t. cond (ltb bad 7 && not t) 1 0 + cond (t && (leb 7 ((bad + 1) + k) || ltb 0 r)) 1 0) full
          ∙ ap (λ t. cond (t && true) 1 0 + 0) few
          ∙ sym (ap (λ t. cond (t && true) 1 0) few)
          ∙ sym (ap (λ t. cond (ltb bad 7 && (t || ltb 0 r)) 1 0) (le-leb 7 (bad + (1 + k)) (let is = ltb-false (bad + 1) 7 full in omega (arith, is))))
    ]
    | inr full ↦
        ap (λ n. cond (ltb bad 7 && not (ltb n 7)) 1 0 + cond (ltb n 7 && (leb 7 (n + k) || ltb 0 r)) 1 0) (cond-false (ltb bad 7) (bad + 1) bad full)
        ∙ ap (λ t. cond (t && not t) 1 0 + cond (t && (leb 7 (bad + k) || ltb 0 r)) 1 0) full
        ∙ sym (ap (λ t. cond (t && (leb 7 (bad + (1 + k)) || ltb 0 r)) 1 0) full)
  ]

  refuse_adds : (here : Bool) (bad k r : ℕ) → cond (here && (ltb bad 7 && true)) 1 0 + cond (is_coming here 7 k r) 1 0 ≡ cond (is_coming here bad k (1 + r)) 1 0
  refuse_adds false bad k r = refl
  refuse_adds true bad k r =
      by_test (ltb bad 7) (leb 7 (bad + k)) ∙ ap (λ t. cond (ltb bad 7 && (leb 7 (bad + k) || t)) 1 0) (sym (lt-ltb 0 (1 + r) (omega arith)))
    where
      by_test : (x y : Bool) → cond (x && true) 1 0 + 0 ≡ cond (x && (y || true)) 1 0
      by_test true true = refl
      by_test true false = refl
      by_test false y = refl

  -- without anything after the packet none comes
  nothing_comes : (here : Bool) (bad : ℕ) → ◌≡◌ {A = ℕ} (cond (is_coming here bad 0 0) 1 0) 0
  nothing_comes false bad = refl
  nothing_comes true bad = elim (cases_Bool (ltb bad 7)) [
    | inl few ↦ ap (λ t. cond (ltb bad 7 && (t || false)) 1 0) (lt-leb 7 (bad + 0) (let is = ltb-true bad 7 few in omega (arith, is))) ∙ ap (λ t. cond (t && false) 1 0) few
    | inr full ↦ ap (λ t. cond (t && (leb 7 (bad + 0) || false)) 1 0) full
  ]

  pub hit_along : (items : List RunItem) (l : Listening) (n : ℕ) → within_of a l → (row a l.counts).damaged ≡ capped n
      → (row a (heard_items l items).counts).damaged ≡ capped ((n + cond (coming l items) 1 0) + count_by (is_hit a) (with_next items))
  unfolding after_all up_to_packet with_next
  hit_along [] l n within so_far = so_far ∙ ap capped (let none = nothing_comes (is_at a l.trail.asked) l.trail.bad in omega (arith, none))
  hit_along (PacketItem p ∷ items) l n within so_far =
      let next = heard_item l (PacketItem p) in
      let none : ◌≡◌ {A = ℕ} (cond (coming l (PacketItem p ∷ items)) 1 0) 0 = nothing_comes (is_at a l.trail.asked) l.trail.bad in
      let after : ◌≡◌ {A = ℕ} (cond (coming next items) 1 0) (cond (is_hit a (p, up_to_packet items)) 1 0) = ap (λ t. cond t 1 0) (goes p.reply (skipped_in (up_to_packet items)) (bad_in (up_to_packet items))) in
      let first = sum_by-cons (λ (x : Packet × List RunItem). cond (is_hit a x) 1 0) (p, up_to_packet items) (with_next items) in
      hit_along items next n (long_after a l p within)
      (ap (λ (c : Counts). c.damaged) (row_taken a p (is_clean l.trail.bad) (copies_last l.knowledge p) (told_in l p) l.counts within) ∙ by_place (eqb p.address a) ∙ so_far)
      ∙ ap capped (omega (arith, none, after, first))
    where
      by_place : (here : Bool)
          → (cond here (after_packet p (is_clean l.trail.bad) (copies_last l.knowledge p) (told_in l p) (row a l.counts)) (row a l.counts)).damaged ≡ (row a l.counts).damaged
      by_place true = damaged_step p (is_clean l.trail.bad) (copies_last l.knowledge p) (told_in l p) (row a l.counts)
      by_place false = refl

      goes : (b : Bool) (k r : ℕ) → is_coming (is_at a (cond b None (Some p.address))) 0 k r ≡ ((not b && eqb p.address a) && (leb 7 k || ltb 0 r))
      goes true k r = refl
      goes false k r = ap (λ n. eqb p.address a && (leb 7 n || ltb 0 r)) (from_none k)
  hit_along (SkippedItem b ∷ items) l n within so_far =
      let bad = after_bad l.trail.bad in
      let next = heard_item l (SkippedItem b) in
      let here = is_at a l.trail.asked in
      let rest = up_to_packet items in
      let test = here && (ltb l.trail.bad 7 && not (ltb bad 7)) in
      let adds = skip_adds here l.trail.bad (skipped_in rest) (bad_in rest) in
      let same : ◌≡◌ {A = ℕ} (cond (coming l (SkippedItem b ∷ items)) 1 0) (cond (is_coming here l.trail.bad (1 + skipped_in rest) (bad_in rest)) 1 0) =
      ap (λ k. cond (is_coming here l.trail.bad k (bad_in (SkippedItem b ∷ rest))) 1 0) (one_skipped (SkippedItem b) rest)
      ∙ ap (λ r. cond (is_coming here l.trail.bad (1 + skipped_in rest) r) 1 0) (one_bad (SkippedItem b) rest ∙ from_none (bad_in rest)) in
      hit_along items next (n + cond test 1 0) (kept_long (hit_by l.trail bad) l.counts within) (hit_now l bad within ∙ ap (more_if test) so_far ∙ more test n)
      ∙ ap capped (omega (arith, adds, same))
  hit_along (RefusedItem fault ∷ items) l n within so_far =
      let next = heard_item l (RefusedItem fault) in
      let here = is_at a l.trail.asked in
      let rest = up_to_packet items in
      let test = here && (ltb l.trail.bad 7 && true) in
      let adds = refuse_adds here l.trail.bad (skipped_in rest) (bad_in rest) in
      let same : ◌≡◌ {A = ℕ} (cond (coming l (RefusedItem fault ∷ items)) 1 0) (cond (is_coming here l.trail.bad (skipped_in rest) (1 + bad_in rest)) 1 0) =
      ap (λ k. cond (is_coming here l.trail.bad k (bad_in (RefusedItem fault ∷ rest))) 1 0) (one_skipped (RefusedItem fault) rest ∙ from_none (skipped_in rest))
      ∙ ap (λ r. cond (is_coming here l.trail.bad (skipped_in rest) r) 1 0) (one_bad (RefusedItem fault) rest) in
      hit_along items next (n + cond test 1 0) (kept_long (hit_by l.trail 7) l.counts within) (hit_now l 7 within ∙ ap (more_if test) so_far ∙ more test n)
      ∙ ap capped (omega (arith, adds, same))

  -- how many bad bytes these are, at most seven
  abbrev bad_of : ℕ → ℕ → ℕ
  bad_of k r = cond (ltb 0 r) 7 (min k 7)

  bad_skip : (k r : ℕ) → after_bad (bad_of k r) ≡ bad_of (1 + k) r
  bad_skip k r = by_test (ltb 0 r)
    where
      by_test : (t : Bool) → after_bad (cond t 7 (min k 7)) ≡ cond t 7 (min (1 + k) 7)
      by_test true = refl
      by_test false = more_to 7 true k ∙ ap (λ n. min n 7) (omega arith)

  bad_clean : (k r : ℕ) → ltb (bad_of k r) 7 ≡ not (leb 7 k || ltb 0 r)
  bad_clean k r = by_test (ltb 0 r)
    where
      whole : (x : Bool) → false ≡ not (x || true)
      whole true = refl
      whole false = refl

      few : (x : Bool) → not x ≡ not (x || false)
      few true = refl
      few false = refl

      by_test : (t : Bool) → ltb (cond t 7 (min k 7)) 7 ≡ not (leb 7 k || t)
      by_test true = whole (leb 7 k)
      by_test false = elim (cases_Bool (leb 7 k)) [
        | inl many ↦ le-ltb (min k 7) 7 (let is = leb-true 7 k many in omega (arith, is)) ∙ sym (ap (λ t. not (t || false)) many)
        | inr some ↦ lt-ltb (min k 7) 7 (let is = leb-false 7 k some in omega (arith, is)) ∙ sym (ap (λ t. not (t || false)) some)
      ]

  bad_refused : (k r : ℕ) → 7 ≡ bad_of k (1 + r)
  bad_refused k r = sym (cond-true (ltb 0 (1 + r)) 7 (min k 7) (lt-ltb 0 (1 + r) (omega arith)))

  pub clean_along : (items : List RunItem) (l : Listening) (between : List RunItem) (n : ℕ) → within_of a l → (row a l.counts).clean ≡ capped n
      → l.trail.bad ≡ bad_of (skipped_in between) (bad_in between)
      → (row a (heard_items l items).counts).clean ≡ capped (n + count_by (is_whole a) (with_last between items))
  unfolding after_all with_last
  clean_along [] l between n within so_far bad = so_far ∙ ap capped (omega arith)
  clean_along (PacketItem p ∷ items) l between n within so_far bad =
      let x : Packet × List RunItem = (p, between) in
      let rest = with_last [] items in
      let first = sum_by-cons (λ (y : Packet × List RunItem). cond (is_whole a y) 1 0) x rest in
      clean_along items (heard_item l (PacketItem p)) [] (n + cond (is_whole a x) 1 0) (long_after a l p within)
      (ap (λ (c : Counts). c.clean) (row_taken a p (is_clean l.trail.bad) (copies_last l.knowledge p) (told_in l p) l.counts within)
      ∙ by_place (eqb p.address a)
      ∙ ap (λ t. more_if (eqb p.address a && t) (row a l.counts).clean) (ap (λ m. ltb m 7) bad ∙ bad_clean (skipped_in between) (bad_in between))
      ∙ ap (more_if (is_whole a x)) so_far ∙ more (is_whole a x) n) refl
      ∙ ap capped (omega (arith, first))
    where
      by_place : (here : Bool)
          → (cond here (after_packet p (is_clean l.trail.bad) (copies_last l.knowledge p) (told_in l p) (row a l.counts)) (row a l.counts)).clean
          ≡ more_if (here && ltb l.trail.bad 7) (row a l.counts).clean
      by_place true = clean_step p (is_clean l.trail.bad) (copies_last l.knowledge p) (told_in l p) (row a l.counts)
      by_place false = refl
  clean_along (SkippedItem b ∷ items) l between n within so_far bad =
      let o = hit_by l.trail (after_bad l.trail.bad) in
      clean_along items (heard_item l (SkippedItem b)) (SkippedItem b ∷ between) n (kept_long o l.counts within) (undamaged a (λ c. c.clean) (λ c. refl) o l.counts within ∙ so_far)
      (ap after_bad bad ∙ bad_skip (skipped_in between) (bad_in between)
      ∙ sym (ap (λ k. bad_of k (bad_in (SkippedItem b ∷ between))) (one_skipped (SkippedItem b) between)
      ∙ ap (λ r. bad_of (1 + skipped_in between) r) (one_bad (SkippedItem b) between ∙ from_none (bad_in between))))
  clean_along (RefusedItem fault ∷ items) l between n within so_far bad =
      let o = hit_by l.trail 7 in
      clean_along items (heard_item l (RefusedItem fault)) (RefusedItem fault ∷ between) n (kept_long o l.counts within) (undamaged a (λ c. c.clean) (λ c. refl) o l.counts within ∙ so_far)
      (bad_refused (skipped_in between) (bad_in between)
      ∙ sym (ap (λ k. bad_of k (bad_in (RefusedItem fault ∷ between))) (one_skipped (RefusedItem fault) between ∙ from_none (skipped_in between))
      ∙ ap (λ r. bad_of (skipped_in between) r) (one_bad (RefusedItem fault) between)))
