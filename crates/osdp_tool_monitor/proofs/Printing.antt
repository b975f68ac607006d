-- Whoever is accused is named in what is printed.
use Rattle.osdp_tool_monitor.proofs.Common.{◌≡◌, ◌⊎◌, inl, inr, ◌&&◌, ℕ, ◌+◌, Bool, true, false, List, [], ◌∷◌, ◌++◌, Option, Some, None, refl, sym, ◌∙◌, ap, append_assoc, Packet, PacketItem, Found, detail_after, Listening, heard_item, item_report, items_report, told_in, accusation_line, accused_text, expected_bytes, expected_lines, is_left_out, is_profile, notice_line}
use Rattle.std.proofs.lemmas.Bool.{and_left, and_right, cond-false, cond_both}
use Rattle.osdp_monitor.specs.declared.accusation.Accusation.{Accusation}
use Rattle.osdp_monitor.specs.declared.accusation.Basis.TheVariants.{Standard}
use Rattle.osdp_monitor.specs.Accused.{basis}
use Rattle.osdp_monitor.specs.Line.{after_items, expected_in, found_in}
use Rattle.osdp_tool_show.specs.ToldItems.{shown_line}
use Rattle.osdp_tool_monitor.specs.Laws.{PrintsAccusations, both_packets, culprit, naming_line}
use Rattle.osdp_tool_monitor.specs.Talk.{talk_line}
use Rattle.osdp_tool_monitor.specs.InTurn.{after_all, report_of_all}

in_parts : (s k n a e r : List ℕ) → (s ++ (k ++ (n ++ (a ++ e)))) ++ r ≡ s ++ (k ++ (n ++ (a ++ (e ++ r))))
in_parts s k n a e r =
    append_assoc s (k ++ (n ++ (a ++ e))) r
    ∙ ap (λ t. s ++ t) (append_assoc k (n ++ (a ++ e)) r ∙ ap (λ t. k ++ t) (append_assoc n (a ++ e) r ∙ ap (λ t. n ++ t) (append_assoc a e r)))

party_is : (reply : Bool) → accused_text reply ≡ culprit reply
party_is true = refl
party_is false = refl

named_is : (runs place : ℕ) (p : Packet) (accusation : Accusation) → accusation_line (runs + 1) place p (Some accusation) ≡ naming_line runs place p accusation
named_is runs place p accusation = rw (party_is p.reply) refl

both_are : (expected : Option Packet) (p : Packet) → expected_lines (expected_bytes expected) p ≡ both_packets expected p
both_are None p = refl
both_are (Some e) p = refl

-- it isn't left out
kept_in : (standard : Bool) (a : Accusation) → (standard ≡ false) ⊎ (basis a ≡ Standard) → (standard && is_profile (basis a)) ≡ false
kept_in standard a (inl all) = and_left standard (is_profile (basis a)) all
kept_in standard a (inr by) = and_right standard (is_profile (basis a)) (ap is_profile by)

left_out : (standard : Bool) (o : Option Accusation) (a : Accusation) → o ≡ Some a → (standard ≡ false) ⊎ (basis a ≡ Standard) → is_left_out standard o ≡ false
left_out standard o a is counts = ap (is_left_out standard) is ∙ kept_in standard a counts

is_told : (l : Listening) (p : Packet) (a : Accusation) → (found_in l.knowledge p).accusation ≡ Some a → (l.standard ≡ false) ⊎ (basis a ≡ Standard)
    → (told_in l p).accusation ≡ Some a
is_told l p a is counts =
    let found = found_in l.knowledge p in
    ap (λ (f : Found). f.accusation)
    (cond-false (is_left_out l.standard found.accusation) (record found { accusation = None }) found (left_out l.standard found.accusation a is counts)) ∙ is

-- what else is worth a look is told all the same
notice_is : (l : Listening) (p : Packet) → (told_in l p).notice ≡ (found_in l.knowledge p).notice
notice_is l p =
    let found = found_in l.knowledge p in
    cond_both (is_left_out l.standard found.accusation) (record found { accusation = None }) found (λ (f : Found). f.notice ≡ found.notice) (λ _. refl) (λ _. refl)

pub prints_lem : PrintsAccusations
unfolding after_items after_all report_of_all
prints_lem detail l [] rest p accusation accused counts =
    let is : (told_in l p).accusation ≡ Some accusation = is_told l p accusation accused counts in
    let run = l.tally.runs + 1 in
    let found = told_in l p in
    let shown = shown_line (detail_after l.trail detail) l.tally (PacketItem p) in
    let talk = talk_line detail run l.tally.place l.trail (PacketItem p) in
    let notice = notice_line run l.tally.place p.address found.notice in
    let expected = expected_lines (expected_bytes (expected_in l.knowledge p)) p in
    let others = items_report detail (heard_item l (PacketItem p)) rest in
    in_parts shown talk notice (accusation_line run l.tally.place p found.accusation) expected others
    ∙ ap (λ a. shown ++ (talk ++ (notice ++ (accusation_line run l.tally.place p a ++ (expected ++ others))))) is
    ∙ ap (λ t. shown ++ (talk ++ (notice ++ (t ++ (expected ++ others))))) (named_is l.tally.runs l.tally.place p accusation)
    ∙ ap (λ t. shown ++ (talk ++ (notice ++ (naming_line l.tally.runs l.tally.place p accusation ++ (t ++ others))))) (both_are (expected_in l.knowledge p) p)
    ∙ ap (λ n. shown ++ (talk ++ (notice_line run l.tally.place p.address n ++ (naming_line l.tally.runs l.tally.place p accusation ++ (both_packets (expected_in l.knowledge p) p ++ others))))) (notice_is l p)
prints_lem detail l (part ∷ front) rest p accusation accused counts =
    ap (λ t. item_report detail l part ++ t) (prints_lem detail (heard_item l part) front rest p accusation accused counts)
    ∙ sym (append_assoc (item_report detail l part) (items_report detail (heard_item l part) front) _)
