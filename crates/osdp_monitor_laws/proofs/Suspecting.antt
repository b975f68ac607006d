-- Since when a panel is suspected, and for how long.
use Rattle.osdp_monitor_laws.proofs.Common.{◌≡◌, ◌≢◌, ◌⊎◌, inl, inr, ℕ, ◌+◌, ◌-◌, Bool, true, false, cond, eqb, not, List, [], ◌∷◌, ◌++◌, Some, refl, sym, ap, ◌∙◌, arith, and_from, and_left, and_parts, and_right, cases_Bool, cond_both, eq-eqb, eqb-true, false≢true, lt-ltb, ne_eqb, not-true, not_from_false, not_from_true, is_some, Sum, Packet, next_sequence, RunItem, PacketItem, SkippedItem, RefusedItem, smallest, NotAnswered, Unsure, Said, Answer, Known, after_another, after_copy, after_sent, is_doubt, keeps_number, left_waiting, panel_accused, after_reply_of, repeat_reply, is_foreign, said, packet_is, IsRemembered, IsTo, LeavesUnanswered, NothingForgotten, same_packet}
use Rattle.std.proofs.lemmas.List.Sums.{sum_by-cons}
use Rattle.osdp_monitor.specs.Line.{Knowledge, after_item, after_items, after_packet, found_in}
use Rattle.osdp_monitor_laws.proofs.Agreeing.{sent_asked}
use Rattle.osdp_monitor_laws.proofs.Late.{by_fate, by_number}
use Rattle.osdp_monitor_laws.proofs.Missing.{IsUnanswered, by_suspicion, device_of, first_is_unanswered, in_doubt, is_first, next_accused, sent_found, sent_told, unanswered_step}
use Rattle.osdp_monitor_laws.proofs.Numbers.{next_differs}
use Rattle.osdp_monitor_laws.proofs.PanelLines.{last_by}
use Rattle.osdp_monitor_laws.proofs.Remembering.{after_append, after_one, at_remembered, forgotten_append, items_keep, sent_remembered}
use Rattle.osdp_monitor_laws.specs.Suspicion.{AreInNoDoubt, IsInNoDoubt, SuspectsAfterDoubts, SuspectsForAWhile, is_to, sent_to}

-- ---- after a doubt

doubt_suspected : (k : Known) (old p : Packet) → k.last ≡ Some old → is_doubt old k.answered p ≡ true → (after_sent (Some old) k p).suspected ≡ 8
doubt_suspected k old p last doubt =
    cond_both (same_packet old p) (after_copy k) (after_another (keeps_number old k p) (left_waiting old k) k p) (λ j. j.suspected ≡ 8)
    (λ same. absurd (next_differs old.sequence (sym (eqb-true p.sequence (next_sequence old.sequence) (and_parts (eqb p.sequence (next_sequence old.sequence)) (not k.answered) doubt).0)
    ∙ sym (ap (λ (x : Packet). x.sequence) (packet_is old p same)))))
    (λ _. rw (last, doubt))

doubted : (a : ℕ) (p : Packet) (line : Knowledge) (q : Packet) → IsTo a q → q.sequence ≡ next_sequence p.sequence → IsUnanswered p (line.devices a)
    → IsRemembered a (PacketItem q) line → ((after_packet line q).devices a).suspected ≡ 8
doubted a p line q to next known is =
    let k = line.devices a in
    sent_remembered a (λ j. j.suspected ≡ 8) line q to is
    (ap (λ o. (after_sent o k q).suspected) known.0 ∙ doubt_suspected k p q known.0 (in_doubt p q k.answered next known.1))

nothing_more : (line : Knowledge) → after_items line [] ≡ line
unfolding after_items
nothing_more line = refl

pub suspects_after_doubts : SuspectsAfterDoubts
suspects_after_doubts line a p items q to first next doubt nothing =
    let line0 = after_packet line p in
    let now = after_items line0 items in
    let rest = forgotten_append a line0 items (PacketItem q ∷ []) nothing.1 in
    let known = items_keep a (IsUnanswered p) (LeavesUnanswered p) (unanswered_step a p to.0) items line0 (first_is_unanswered a line p to first nothing.0) rest.0 doubt.1 in
    ap (λ (l : Knowledge). (l.devices a).suspected)
    (after_one line (PacketItem p) (items ++ PacketItem q ∷ []) ∙ after_append line0 items (PacketItem q ∷ []) ∙ after_one now (PacketItem q) []
    ∙ nothing_more (after_packet now q))
    ∙ doubted a p now q next doubt.0 known rest.1.0

-- ---- for a while

-- some packet was sent
abbrev IsAsked : Known → Type 0
IsAsked k = (p : Packet) × (k.last ≡ Some p)

-- .. and so many are taken away
abbrev IsLess : ℕ → ℕ → Known → Type 0
IsLess n away k = IsAsked k × (k.suspected ≡ n - away)

none_away : (b : Bool) (n : ℕ) → b ≡ false → n ≡ n - cond b 1 0
none_away true n is = absurd (false≢true (sym is))
none_away false n is = omega arith

one_away : (b : Bool) (n : ℕ) → b ≡ true → n - 1 ≡ n - cond b 1 0
one_away true n is = refl
one_away false n is = absurd (false≢true is)

-- a packet that is told and accused as no doubt is none
certain : (line : Knowledge) (a : ℕ) (x old : Packet) → IsTo a x → a ≢ 127 → is_foreign x ≡ false → (line.devices a).last ≡ Some old
    → (found_in line x).accusation ≢ Some NotAnswered → (found_in line x).notice ≢ Some Unsure → is_doubt old (line.devices a).answered x ≡ false
certain line a x old to device plain last innocent quiet = elim (cases_Bool (is_doubt old (line.devices a).answered x)) [
  | inl doubt ↦ absurd (by doubt (cases_Bool (eqb (line.devices a).suspected 0)))
  | inr none ↦ none
]
  where
    by : is_doubt old (line.devices a).answered x ≡ true → ((eqb (line.devices a).suspected 0 ≡ true) ⊎ (eqb (line.devices a).suspected 0 ≡ false)) → ⊥
    by doubt (inl none) =
        quiet (sent_told line a x to device plain ∙ rw (last, is_first (line.devices a) old x doubt (eqb-true (line.devices a).suspected 0 none)))
    by doubt (inr some) =
        let parts = and_parts (eqb x.sequence (next_sequence old.sequence)) (not (line.devices a).answered) doubt in
        innocent (sent_found line a x (Some NotAnswered) to device plain
        (ap (λ o. panel_accused o (line.devices a) x) last ∙ by_suspicion (line.devices a) old x (λ zero. false≢true (sym some ∙ eq-eqb (line.devices a).suspected 0 zero))
        ∙ next_accused old x (line.devices a).answered (not-true (line.devices a).answered parts.1) (eqb-true x.sequence (next_sequence old.sequence) parts.0)))

certain_less : (k : Known) (old p : Packet) → k.last ≡ Some old → is_doubt old k.answered p ≡ false → (after_sent (Some old) k p).suspected ≡ k.suspected - 1
certain_less k old p last none =
    cond_both (same_packet old p) (after_copy k) (after_another (keeps_number old k p) (left_waiting old k) k p) (λ j. j.suspected ≡ k.suspected - 1)
    (λ _. refl) (λ _. rw (last, none))

reply_less : (s : Said) (k : Known) (p x : Packet) → (after_reply_of s k p x).suspected ≡ k.suspected
reply_less Answer k p x = by_number (λ j. j.suspected ≡ k.suspected) (is_some (repeat_reply k p)) p.sequence k x (λ _. refl) (λ _. refl)
reply_less _ k p x = refl

step : (a : ℕ) (line : Knowledge) (x : Packet) → IsAsked (line.devices a) → IsRemembered a (PacketItem x) line → IsInNoDoubt a (PacketItem x) line
    → IsLess (line.devices a).suspected (cond (is_to a (PacketItem x)) 1 0) ((after_packet line x).devices a)
step a line x known is free =
    let k = line.devices a in
    let goes = is_to a (PacketItem x) in
    at_remembered a (IsLess k.suspected (cond goes 1 0)) line x is
    (λ away. (known, none_away goes k.suspected (and_right (not x.reply) (eqb x.address a) (ne_eqb x.address a away))))
    (λ _ reply _. (known, none_away goes k.suspected (and_left (not x.reply) (eqb x.address a) (not_from_true x.reply reply))))
    (λ here command.
    let none = certain line a x known.0 (command, here) (device_of line a x here is) (is.1 here) known.1 (free (command, here)).0 (free (command, here)).1 in (
      (x, (sent_asked k x).last),
      ap (λ o. (after_sent o k x).suspected) known.1 ∙ certain_less k known.0 x known.1 none
          ∙ one_away goes k.suspected (and_from (not x.reply) (eqb x.address a) (not_from_false x.reply command) (eq-eqb x.address a here)),
    ))
    (λ _ reply last before heard.
    let same = none_away goes k.suspected (and_left (not x.reply) (eqb x.address a) (not_from_true x.reply reply)) in
    by_fate (IsLess k.suspected (cond goes 1 0)) k last x (λ _. (known, same)) (λ unheard. absurd (false≢true (sym heard ∙ unheard)))
    ((known.0, last_by (said x) k last x ∙ known.1), reply_less (said x) k last x ∙ same))

-- a skipped byte changes nothing
skipped : (a : ℕ) (line : Knowledge) (b : ℕ) → IsRemembered a (SkippedItem b) line → (after_item line (SkippedItem b)).devices a ≡ line.devices a
skipped a line b is =
    rw (lt-ltb (line.skipped + 1) (smallest Sum) is)

one_more : (a : ℕ) (x : RunItem) (items : List RunItem) (n : ℕ) → (n - cond (is_to a x) 1 0) - sent_to a items ≡ n - sent_to a (x ∷ items)
one_more a x items n = let first = sum_by-cons (λ (y : RunItem). cond (is_to a y) 1 0) x items in omega (arith, first)

no_more : (a : ℕ) (n : ℕ) → n ≡ n - sent_to a []
no_more a n = omega arith

less : (a : ℕ) (items : List RunItem) (line : Knowledge) → IsAsked (line.devices a) → NothingForgotten a items line → AreInNoDoubt a items line
    → ((after_items line items).devices a).suspected ≡ (line.devices a).suspected - sent_to a items
unfolding after_items
less a [] line known nothing free = no_more a (line.devices a).suspected
less a (PacketItem x ∷ items) line known nothing free =
    let now = step a line x known nothing.0 free.0 in
    less a items (after_packet line x) now.0 nothing.1 free.1 ∙ ap (λ n. n - sent_to a items) now.1 ∙ one_more a (PacketItem x) items (line.devices a).suspected
less a (SkippedItem b ∷ items) line known nothing free =
    let same = skipped a line b nothing.0 in
    less a items (after_item line (SkippedItem b)) (known.0, ap (λ (k : Known). k.last) same ∙ known.1) nothing.1 free.1
    ∙ ap (λ (k : Known). k.suspected - sent_to a items) same ∙ ap (λ n. n - sent_to a items) (none_away false (line.devices a).suspected refl)
    ∙ one_more a (SkippedItem b) items (line.devices a).suspected
less a (RefusedItem fault ∷ items) line known nothing free = absurd nothing.0

pub suspects_for_a_while : SuspectsForAWhile
suspects_for_a_while line a p items to nothing free =
    let line0 = after_packet line p in
    let asked : IsAsked (line0.devices a) =
    sent_remembered a IsAsked line p to nothing.0 (p, (sent_asked (line.devices a) p).last) in
    ap (λ (l : Knowledge). (l.devices a).suspected) (after_one line (PacketItem p) items)
    ∙ less a items line0 asked nothing.1 free
    ∙ ap (λ (l : Knowledge). (l.devices a).suspected - sent_to a items) (sym (after_one line (PacketItem p) [] ∙ nothing_more line0))
