-- Any panel that keeps the rules, and a listener on two wires: what the listener knows fits the panel, whatever happens.
use Rattle.osdp_monitor_laws.proofs.Common.{◌≡◌, ◌≢◌, inl, inr, ◌+◌, Bool, true, false, cond, eqb, ◌||◌, List, [], ◌∷◌, ◌++◌, Option, Some, None, refl, sym, subst, ap, ◌∙◌, cond_both, eq-eqb, false≢true, ne_eqb, nat_lt, option_to_list, Sum, Packet, next_sequence, smallest, AnotherPacket, NotAnswered, SentOutOfTurn, Known, nothing_known, Knowledge, after_packet, no_knowledge, is_first_doubt, panel_accused, sent_after, after_reply, said, is_packet, ADeviceAlone, Both, ListenerAlone, Nobody, PanelAlone, Reaches, Reads, TheListener, same_packet}
use Rattle.osdp_monitor_laws.proofs.Agreeing.{none_some, same_some, sent_asked}
use Rattle.osdp_monitor_laws.proofs.Knowing.{at_address, sent_in_order}
use Rattle.osdp_monitor_laws.proofs.Late.{by_fate}
use Rattle.osdp_monitor_laws.proofs.Numbers.{next_above_zero, next_differs}
use Rattle.osdp_monitor_laws.proofs.PanelLines.{answered_by, answers, last_by}
use Rattle.osdp_monitor_laws.specs.AnyPanel.{AccusesNoPanelByTheRules, AnyLine, AnyMove, AnyPanel, AreAllowed, Forget, IsAllowed, IsAnswer, IsNext, IsToIts, MaySay, Repeat, Restart, Say, Send, Skip, accusations, accused_by, accused_of, after_move, new_line}

-- What is known of the last packet, beside the panel's own: it is the same, where somebody has read that. Else the panel's may come next.
abbrev FitsBy : Bool → Bool → Bool → Packet → Packet → Type 0
FitsBy true taken answered q p = (q ≡ p) × (taken ≡ true → answered ≡ true)
FitsBy false taken answered q p = (taken ≡ false) × (sent_after q answered p ≡ None)

abbrev Fits : AnyPanel → Bool → Known → Type 0
Fits r reached k = (q p : Packet) → k.last ≡ Some q → r.last ≡ Some p → FitsBy reached r.answered k.answered q p

abbrev Holds : AnyLine → Type 0
Holds l = Fits l.panel l.reached (l.known.devices l.panel.address)

unknown_fits : (r : AnyPanel) (reached : Bool) (k : Known) → k.last ≡ None → Fits r reached k
unknown_fits r reached k none q p is last = absurd (none_some q (sym none ∙ is))

new_fits : (r : AnyPanel) (reached : Bool) (k : Known) → r.last ≡ None → Fits r reached k
new_fits r reached k none q p is last = absurd (none_some p (sym none ∙ last))

-- ---- what it may send

zero_fine : (q : Packet) (answered : Bool) (p : Packet) → p.sequence ≡ 0 → sent_after q answered p ≡ None
zero_fine q answered p zero = rw (eq-eqb p.sequence 0 zero)

next_fine : (q p : Packet) → p.sequence ≡ next_sequence q.sequence → sent_after q true p ≡ None
next_fine q p next =
    rw (
      ne_eqb p.sequence 0 (λ zero. next_above_zero q.sequence (sym next ∙ zero)),
      ne_eqb p.sequence q.sequence (λ same. next_differs q.sequence (sym next ∙ same)),
      eq-eqb p.sequence (next_sequence q.sequence) next,
    )

copy_fine : (p : Packet) (answered : Bool) → sent_after p answered p ≡ None
copy_fine p answered =
    cond_both (eqb p.sequence 0) None (cond (eqb p.sequence p.sequence) (cond (same_packet p p) None (Some AnotherPacket)) (cond (eqb p.sequence (next_sequence p.sequence)) (cond answered None (Some NotAnswered)) (Some SentOutOfTurn)))
    (λ o. o ≡ None) (λ _. refl)
    (λ _. rw (is_packet p, eq-eqb p.sequence p.sequence refl))

-- once it is in order, an answer changes nothing
still_fine : (q : Packet) (before after : Bool) (p : Packet) → (before ≡ true → after ≡ true) → sent_after q before p ≡ None → sent_after q after p ≡ None
still_fine q true after p stays = λ fine. subst (λ b. sent_after q b p ≡ None) (sym (stays refl)) fine
still_fine q false true p stays =
    cond_both (eqb p.sequence 0) None (cond (eqb p.sequence q.sequence) (cond (same_packet q p) None (Some AnotherPacket)) (cond (eqb p.sequence (next_sequence q.sequence)) (Some NotAnswered) (Some SentOutOfTurn)))
    (λ o. o ≡ None → sent_after q true p ≡ None) (λ zero _. rw zero)
    (λ above. cond_both (eqb p.sequence q.sequence) (cond (same_packet q p) None (Some AnotherPacket)) (cond (eqb p.sequence (next_sequence q.sequence)) (Some NotAnswered) (Some SentOutOfTurn))
    (λ o. o ≡ None → sent_after q true p ≡ None)
    (λ same fine. rw (above, same) fine)
    (λ _. cond_both (eqb p.sequence (next_sequence q.sequence)) (Some NotAnswered) (Some SentOutOfTurn) (λ o. o ≡ None → sent_after q true p ≡ None)
    (λ _ none. absurd cc) (λ _ none. absurd cc)))
still_fine q false false p stays = λ fine. fine

-- the next packet is in order after the last that is known
sends_fine : (r : AnyPanel) (reached : Bool) (k : Known) (p q : Packet) → Fits r reached k → IsNext r p → k.last ≡ Some q → sent_after q k.answered p ≡ None
sends_fine r reached k p q fits (inl zero) is = zero_fine q k.answered p zero
sends_fine r reached k p q fits (inr next) is = by reached (fits q next.1 is next.2)
  where
    by : (b : Bool) → FitsBy b r.answered k.answered q next.1 → sent_after q k.answered p ≡ None
    by true both =
        subst (λ a. sent_after q a p ≡ None) (sym (both.1 next.0)) (next_fine q p (next.3 ∙ ap (λ (x : Packet). next_sequence x.sequence) (sym both.0)))
    by false both = absurd (false≢true (sym both.0 ∙ next.0))

repeats_fine : (r : AnyPanel) (reached : Bool) (k : Known) (p q : Packet) → Fits r reached k → r.last ≡ Some p → k.last ≡ Some q → sent_after q k.answered p ≡ None
repeats_fine r reached k p q fits last is = by reached (fits q p is last)
  where
    by : (b : Bool) → FitsBy b r.answered k.answered q p → sent_after q k.answered p ≡ None
    by true both = subst (λ (x : Packet). sent_after x k.answered p ≡ None) (sym both.0) (copy_fine p k.answered)
    by false both = both.1

by_last : (o : Option Packet) (k : Known) (p : Packet) → ((q : Packet) → o ≡ Some q → sent_after q k.answered p ≡ None) → panel_accused o k p ≡ None
by_last None k p fine = refl
by_last (Some q) k p fine =
    cond_both (is_first_doubt (Some q) k p) None (sent_after q k.answered p) (λ o. o ≡ None) (λ _. refl) (λ _. fine q refl)

innocent : (reaches : Reaches) (r : AnyPanel) (known : Knowledge) (p : Packet) → IsToIts r p
    → ((q : Packet) → (known.devices r.address).last ≡ Some q → sent_after q (known.devices r.address).answered p ≡ None)
    → accused_of p reaches known ≡ None
innocent TheListener r known p to fine =
    sent_in_order known p to.command (subst (λ a. panel_accused (known.devices a).last (known.devices a) p ≡ None) (sym to.address)
    (by_last (known.devices r.address).last (known.devices r.address) p fine))
innocent ADeviceAlone r known p to fine = refl
innocent Nobody r known p to fine = refl

-- ---- what is known then

-- it is the last packet that is known, if any
now_last : (r : AnyPanel) (known : Knowledge) (p : Packet) → IsToIts r p → (q : Packet) → ((after_packet known p).devices r.address).last ≡ Some q → q ≡ p
now_last r known p to =
    at_address (λ k. (q : Packet) → k.last ≡ Some q → q ≡ p) known p r.address
    (λ q is. absurd (none_some q is)) (λ other. absurd (other to.address)) (λ _ reply. absurd (false≢true (sym to.command ∙ reply)))
    (λ _ _ _ q is. same_some q p (sym is ∙ (sent_asked (known.devices r.address) p).last)) (λ _ reply. absurd (false≢true (sym to.command ∙ reply)))

untaken : (answered : Bool) → false ≡ true → answered ≡ true
untaken answered never = absurd (false≢true never)

sent_holds : (reaches : Reaches) (l : AnyLine) (p : Packet) → Holds l → IsToIts l.panel p → IsNext l.panel p → Holds (after_move (Send p reaches) l)
sent_holds TheListener l p holds to next =
    λ q x is last. (now_last l.panel l.known p to q is ∙ same_some p x last, untaken ((after_packet l.known p).devices l.panel.address).answered)
sent_holds ADeviceAlone l p holds to next = unknown_fits (record l.panel { last = Some p; answered = false }) true nothing_known refl
sent_holds Nobody l p holds to next =
    let k = l.known.devices l.panel.address in
    λ q x is last. (refl, subst (λ y. sent_after q k.answered y ≡ None) (same_some p x last) (sends_fine l.panel l.reached k p q holds next is))

unread : (reached : Bool) (taken answered : Bool) (q p : Packet) → FitsBy reached taken answered q p → FitsBy (reached || false) false answered q p
unread true taken answered q p fits = (fits.0, untaken answered)
unread false taken answered q p fits = (refl, fits.1)

read_now : (reached : Bool) (answered : Bool) (q p : Packet) → q ≡ p → FitsBy (reached || true) false answered q p
read_now true answered q p same = (same, untaken answered)
read_now false answered q p same = (same, untaken answered)

repeated_holds : (reaches : Reaches) (l : AnyLine) (p : Packet) → Holds l → IsToIts l.panel p → l.panel.last ≡ Some p → Holds (after_move (Repeat p reaches) l)
repeated_holds TheListener l p holds to sent =
    λ q x is last. read_now l.reached ((after_packet l.known p).devices l.panel.address).answered q x
    (now_last l.panel l.known p to q is ∙ same_some p x (sym sent ∙ last))
repeated_holds ADeviceAlone l p holds to sent = unknown_fits (record l.panel { answered = false }) (l.reached || true) nothing_known refl
repeated_holds Nobody l p holds to sent =
    λ q x is last. unread l.reached l.panel.answered (l.known.devices l.panel.address).answered q x (holds q x is last)

-- ---- what anybody else says

-- nothing is taken from it
kept : (reached taken : Bool) (before after : Bool) (q p : Packet) → (before ≡ true → after ≡ true) → FitsBy reached taken before q p
    → FitsBy reached (taken || false) after q p
kept true true before after q p stays fits = (fits.0, λ _. stays (fits.1 refl))
kept true false before after q p stays fits = (fits.0, untaken after)
kept false true before after q p stays fits = absurd (false≢true (sym fits.0))
kept false false before after q p stays fits = (refl, still_fine q before after p stays fits.1)

taken_now : (reached taken : Bool) (before after : Bool) (q p : Packet) → reached ≡ true → after ≡ true → FitsBy reached taken before q p
    → FitsBy reached (taken || true) after q p
taken_now true taken before after q p read answered fits = (fits.0, λ _. answered)
taken_now false taken before after q p read answered fits = absurd (false≢true read)

-- after a reply from its device, whatever the panel makes of it
module _ (k : Known) (x : Packet) where
  replied_last : (last q : Packet) → k.last ≡ Some last → (after_reply k last x).last ≡ Some q → k.last ≡ Some q
  replied_last last q before =
      by_fate (λ j. j.last ≡ Some q → k.last ≡ Some q) k last x (λ _ is. is) (λ _ is. absurd (none_some q is)) (λ is. sym (last_by (said x) k last x) ∙ is)

  replied_answered : (last q : Packet) → (after_reply k last x).last ≡ Some q → k.answered ≡ true → (after_reply k last x).answered ≡ true
  replied_answered last q =
      by_fate (λ j. j.last ≡ Some q → k.answered ≡ true → j.answered ≡ true) k last x (λ _ _ is. is) (λ _ is. absurd (none_some q is))
      (λ _ is. answered_by (said x) k last x is)

-- it takes nothing
passed : (l : AnyLine) (x : Packet) → Holds l → (x.reply ≡ false → x.address ≢ l.panel.address)
    → Fits (record l.panel { answered = l.panel.answered || false }) l.reached ((after_packet l.known x).devices l.panel.address)
passed l x holds another =
    let a = l.panel.address in
    let k = l.known.devices a in
    let now = record l.panel { answered = l.panel.answered || false } in
    at_address (Fits now l.reached) l.known x a (unknown_fits now l.reached nothing_known refl)
    (λ _ q p is last. kept l.reached l.panel.answered k.answered k.answered q p (λ y. y) (holds q p is last))
    (λ _ _ none q p is. absurd (none_some q (sym none ∙ is))) (λ here command. absurd (another command here))
    (λ _ _ old before q p is last.
    kept l.reached l.panel.answered k.answered (after_reply k old x).answered q p (replied_answered k x old q is)
    (holds q p (replied_last k x old q before is) last))

-- it takes it as the answer
taking : (l : AnyLine) (x : Packet) → Holds l → IsAnswer l.panel x → l.reached ≡ true
    → Fits (record l.panel { answered = l.panel.answered || true }) l.reached ((after_packet l.known x).devices l.panel.address)
taking l x holds answer reached =
    let a = l.panel.address in
    let k = l.known.devices a in
    let now = record l.panel { answered = l.panel.answered || true } in
    at_address (Fits now l.reached) l.known x a (unknown_fits now l.reached nothing_known refl)
    (λ other. absurd (other answer.from)) (λ _ _ none q p is. absurd (none_some q (sym none ∙ is)))
    (λ _ command. absurd (false≢true (sym command ∙ answer.reply)))
    (λ _ _ old before q p is last.
    let known = replied_last k x old q before is in
    let fits = holds q p known last in
    let same : q ≡ p = (subst (λ b. FitsBy b l.panel.answered k.answered q p) reached fits).0 in
    let number : x.sequence ≡ old.sequence =
    answer.number ∙ ap (λ (y : Packet). y.sequence) (same_some answer.last p (sym answer.sent ∙ last) ∙ sym same ∙ same_some q old (sym known ∙ before)) in
    taken_now l.reached l.panel.answered k.answered (after_reply k old x).answered q p reached (answers k old x answer.says number) fits)

said_holds : (reads : Reads) (takes : Bool) (l : AnyLine) (x : Packet) → Holds l → MaySay x takes l → Holds (after_move (Say x reads takes) l)
said_holds PanelAlone takes l x holds may = unknown_fits (record l.panel { answered = l.panel.answered || takes }) l.reached nothing_known refl
said_holds Both true l x holds may = taking l x holds (may.answers refl) (may.asked refl)
said_holds Both false l x holds may = passed l x holds may.another
said_holds ListenerAlone true l x holds may = taking l x holds (may.answers refl) (may.asked refl)
said_holds ListenerAlone false l x holds may = passed l x holds may.another

-- ---- each move

move_holds : (move : AnyMove) (l : AnyLine) → Holds l → IsAllowed move l → Holds (after_move move l)
move_holds (Restart s) l holds allowed = new_fits s l.reached (l.known.devices s.address) allowed
move_holds (Send p reaches) l holds allowed = sent_holds reaches l p holds allowed.0 allowed.1
move_holds (Repeat p reaches) l holds allowed = repeated_holds reaches l p holds allowed.0 allowed.1
move_holds (Say x reads takes) l holds allowed = said_holds reads takes l x holds allowed
move_holds (Skip b) l holds allowed =
    cond_both (nat_lt (l.known.skipped + 1) (smallest Sum)) (record l.known { skipped = l.known.skipped + 1 }) no_knowledge
    (λ (known : Knowledge). Fits l.panel l.reached (known.devices l.panel.address)) (λ _. holds) (λ _. unknown_fits l.panel l.reached nothing_known refl)
move_holds Forget l holds allowed = unknown_fits l.panel l.reached nothing_known refl

move_innocent : (move : AnyMove) (l : AnyLine) → Holds l → IsAllowed move l → accused_by move l ≡ None
move_innocent (Send p reaches) l holds allowed =
    innocent reaches l.panel l.known p allowed.0 (λ q. sends_fine l.panel l.reached (l.known.devices l.panel.address) p q holds allowed.1)
move_innocent (Repeat p reaches) l holds allowed =
    innocent reaches l.panel l.known p allowed.0 (λ q. repeats_fine l.panel l.reached (l.known.devices l.panel.address) p q holds allowed.1)
move_innocent move l holds allowed = refl

all_innocent : (moves : List AnyMove) (l : AnyLine) → Holds l → AreAllowed moves l → accusations moves l ≡ []
all_innocent [] l holds allowed = refl
all_innocent (move ∷ moves) l holds allowed =
    ap (λ o. option_to_list o ++ accusations moves (after_move move l)) (move_innocent move l holds allowed.0)
    ∙ all_innocent moves (after_move move l) (move_holds move l holds allowed.0) allowed.1

pub accuses_no_panel_by_the_rules : AccusesNoPanelByTheRules
accuses_no_panel_by_the_rules r moves none allowed = all_innocent moves (new_line r) (new_fits r false nothing_known none) allowed
