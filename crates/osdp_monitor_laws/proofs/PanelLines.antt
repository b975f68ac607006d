-- A panel and a listener on two wires: what the listener knows fits the panel, whatever happens.
use Rattle.osdp_monitor_laws.proofs.Common.{◌≡◌, inl, inr, ℕ, ◌+◌, Bool, true, false, eqb, ◌&&◌, not, List, [], ◌∷◌, ◌++◌, Option, Some, None, refl, sym, subst, ap, ◌∙◌, cond_both, eqb-true, false≢true, or_from, is_some, nat_lt, option_to_list, ControllerConfig, Session, State, Closed, Quiet, Idle, Waiting, Pausing, seen, Sum, Packet, smallest, Said, Answer, Known, nothing_known, Knowledge, after_packet, no_knowledge, after_reply, after_reply_of, is_late, is_stray, repeat_reply, said}
use Rattle.osdp_controller.specs.declared.exchange.Exchange.{Exchange}
use Rattle.osdp_controller.specs.declared.fault.ControllerFault.{ControllerFault}
use Rattle.osdp_controller.specs.Hearing.{hears, is_from_reader}
use Rattle.osdp_controller.specs.Machine.{Machine, after_begin, after_frame, after_retarget, after_submit, after_tick, begin_refusal, changed_unless, or_no_device, refused_unless_closed, retarget_refusal, submit_refusal}
use Rattle.osdp_monitor_laws.proofs.Agreeing.{none_some, same_some, sent_asked}
use Rattle.osdp_monitor_laws.proofs.Knowing.{at_address, sent_in_order}
use Rattle.osdp_monitor_laws.proofs.Late.{by_fate, by_number, no_stray, own_counts, own_in_time}
use Rattle.osdp_monitor_laws.proofs.PanelFits.{Fits, FitsIn, IsOut, IsTaken, MaySend, Sends, TickFits, frame, hear_fits, tick_fits}
use Rattle.osdp_monitor_laws.specs.PanelLine.{AccusesNoPanel, ADeviceAlone, AreAllowed, Begin, Both, Forget, IsAllowed, ListenerAlone, MaySay, Nobody, PanelAlone, PanelLine, PanelMove, Reaches, Reads, Restart, Retarget, Say, Skip, Submit, TheListener, Tick, Withdraw, accused_of, after_move, after_said, after_sent, new_line, panel_accusations, panel_accused_by, sent_at}

-- ---- what a reply leaves

pub last_by : (s : Said) (k : Known) (p q : Packet) → (after_reply_of s k p q).last ≡ k.last
last_by Answer k p q = by_number (λ j. j.last ≡ k.last) (is_some (repeat_reply k p)) p.sequence k q (λ _. refl) (λ _. refl)
last_by _ k p q = refl

pub answered_by : (s : Said) (k : Known) (p q : Packet) → k.answered ≡ true → (after_reply_of s k p q).answered ≡ true
answered_by Answer k p q is = by_number (λ j. j.answered ≡ true) (is_some (repeat_reply k p)) p.sequence k q (λ _. refl) (λ _. is)
answered_by _ k p q is = is

pub answers : (k : Known) (p q : Packet) → said q ≡ Answer → q.sequence ≡ p.sequence → (after_reply k p q).answered ≡ true
answers k p q says number =
    ap (λ j. j.answered) (own_counts k p q says number)
    ∙ subst (λ s. (after_reply_of s k p q).answered ≡ true) (sym says)
    (by_number (λ j. j.answered ≡ true) (is_some (repeat_reply k p)) p.sequence k q (λ _. refl) (λ other. absurd (other number)))

-- ---- the panel beside what is known

unknown_fits : (state : State) (number : ℕ) (config : ControllerConfig) (reached : Bool) (k : Known) → k.last ≡ None → FitsIn state number config reached k
unknown_fits Closed number config reached k none = tt
unknown_fits (Quiet until) number config reached k none = tt
unknown_fits (Idle due) number config reached k none = λ q is. absurd (none_some q (sym none ∙ is))
unknown_fits (Waiting until sends o) number config reached k none = inl (λ q is. absurd (none_some q (sym none ∙ is)))
unknown_fits (Pausing until o) number config reached k none = inl (λ q is. absurd (none_some q (sym none ∙ is)))

replied_out : (k : Known) (last p f : Packet) (reached : Bool) → reached ≡ true → IsOut reached k f → IsOut reached (after_reply_of (said p) k last p) f
replied_out k last p f reached is (inl same) = inl (λ q e. same q (sym (last_by (said p) k last p) ∙ e))
replied_out k last p f reached is (inr free) = absurd (false≢true (sym free.0 ∙ is))

judged_fits : (state : State) (number : ℕ) (config : ControllerConfig) (reached : Bool) (k : Known) (last p : Packet) → reached ≡ true
    → FitsIn state number config reached k → FitsIn state number config reached (after_reply_of (said p) k last p)
judged_fits Closed number config reached k last p is fits = tt
judged_fits (Quiet until) number config reached k last p is fits = tt
judged_fits (Idle due) number config reached k last p is fits = λ q e.
    let rest = fits q (sym (last_by (said p) k last p) ∙ e) in
    (rest.0, answered_by (said p) k last p rest.1)
judged_fits (Waiting until sends o) number config reached k last p is fits = replied_out k last p (frame number config o.exchange) reached is fits
judged_fits (Pausing until o) number config reached k last p is fits = replied_out k last p (frame number config o.exchange) reached is fits

replied_fits : (state : State) (number : ℕ) (config : ControllerConfig) (reached : Bool) (k : Known) (last p : Packet) → reached ≡ true
    → FitsIn state number config reached k → FitsIn state number config reached (after_reply k last p)
replied_fits state number config reached k last p is fits =
    by_fate (FitsIn state number config reached) k last p (λ _. fits) (λ _. unknown_fits state number config reached nothing_known refl)
    (judged_fits state number config reached k last p is fits)

-- what is known of the address of its device
abbrev HoldsOf : Machine → Bool → Knowledge → Type 0
HoldsOf m reached known = Fits m.session reached (known.devices m.session.config.address)

abbrev Holds : PanelLine → Type 0
Holds l = HoldsOf l.panel l.reached l.known

forgotten : (m : Machine) (reached : Bool) → HoldsOf m reached no_knowledge
forgotten m reached = unknown_fits m.session.state m.session.number m.session.config reached nothing_known refl

unless : (o : Option ControllerFault) (m n : Machine) (reached : Bool) (known : Knowledge) → HoldsOf m reached known
    → (o ≡ None → HoldsOf n reached known) → HoldsOf (changed_unless o m n) reached known
unless None m n reached known old new = new refl
unless (Some fault) m n reached known old new = old

retargeted : (state : State) (address : ℕ) (number : ℕ) (config : ControllerConfig) (reached : Bool) (k : Known)
    → or_no_device (refused_unless_closed state) address ≡ None → FitsIn state number config reached k
retargeted Closed address number config reached k none = tt
retargeted (Quiet until) address number config reached k none = tt
retargeted _ address number config reached k none = absurd cc

-- ---- a packet that anybody else says

said_fits : (p : Packet) (l : PanelLine) → Holds l → MaySay p l
    → Fits l.panel.session l.reached ((after_packet l.known p).devices l.panel.session.config.address)
said_fits p l holds may =
    let s = l.panel.session in
    let a = s.config.address in
    at_address (λ k. Fits s l.reached k) l.known p a (unknown_fits s.state s.number s.config l.reached nothing_known refl)
    (λ _. holds) (λ _ _ _. holds) (λ here command. absurd (may.another command here))
    (λ here reply last is. replied_fits s.state s.number s.config l.reached (l.known.devices a) last p (may.asked reply here) holds)

-- it answers the last packet that is known
answers_last : (known : Knowledge) (p : Packet) (a : ℕ) → p.reply ≡ true → p.address ≡ a → (q : Packet)
    → ((after_packet known p).devices a).last ≡ Some q → p.sequence ≡ q.sequence → said p ≡ Answer → ((after_packet known p).devices a).answered ≡ true
answers_last known p a reply here =
    at_address (λ k. (q : Packet) → k.last ≡ Some q → p.sequence ≡ q.sequence → said p ≡ Answer → k.answered ≡ true) known p a
    (λ q is. absurd (none_some q is)) (λ other. absurd (other here)) (λ _ _ none q is. absurd (none_some q (sym none ∙ is)))
    (λ _ command. absurd (false≢true (sym command ∙ reply)))
    (λ _ _ last before.
    let k = known.devices a in
    by_fate (λ j. (q : Packet) → j.last ≡ Some q → p.sequence ≡ q.sequence → said p ≡ Answer → j.answered ≡ true) k last p
    (λ late q is number says.
    absurd (false≢true (sym (or_from (is_late k last p) (is_stray k p) (own_in_time k last p (number ∙ ap (λ x. x.sequence) (same_some q last (sym is ∙ before)))) (no_stray k p says)) ∙ late)))
    (λ _ q is. absurd (none_some q is))
    (λ q is number says.
    let own : p.sequence ≡ last.sequence = number ∙ ap (λ x. x.sequence) (same_some q last (sym is ∙ last_by (said p) k last p ∙ before)) in
    ap (λ j. j.answered) (sym (own_counts k last p says own)) ∙ answers k last p says own))

from_parts : (a b c : Bool) → (a && b && c) ≡ true → (a ≡ true) × (b ≡ true)
from_parts true true c is = (refl, refl)
from_parts true false c is = absurd (false≢true is)
from_parts false b c is = absurd (false≢true is)

taken_of : (p : Packet) (l : PanelLine) → MaySay p l → is_from_reader p l.panel.session ≡ true → (x : Exchange)
    → let k = (after_packet l.known p).devices l.panel.session.config.address in
    IsOut l.reached k (frame l.panel.session.number l.panel.session.config x)
    → IsTaken l.reached k l.panel.session.number l.panel.session.config p x
taken_of p l may from x out =
    let s = l.panel.session in
    let parts = from_parts p.reply (eqb p.address s.config.address) (not p.block) from in
    let here = eqb-true p.address s.config.address parts.1 in
    elim out [
      | inl same ↦ λ q last. (
        same q last,
        λ number says.
            answers_last l.known p s.config.address parts.0 here q last (number ∙ sym (ap (λ y. y.sequence) (same q last))) says,
      )
      | inr free ↦ absurd (false≢true (sym free.0 ∙ may.asked parts.0 here))
    ]

said_holds : (p : Packet) (now : ℕ) (reads : Reads) (l : PanelLine) → Holds l → MaySay p l → Holds (after_said p now reads l)
said_holds p now Both l holds may =
    let s = l.panel.session in
    let known = after_packet l.known p in
    let heard = hears p now s in
    elim (hear_fits l.reached (known.devices s.config.address) p now s (said_fits p l holds may) (taken_of p l may)) [
      | inl stays ↦ subst (λ (c : ControllerConfig). Fits heard.session l.reached (known.devices c.address)) (sym stays.0) stays.1
      | inr closed ↦ subst (λ state. FitsIn state heard.session.number heard.session.config l.reached (known.devices heard.session.config.address)) (sym closed) tt
    ]
said_holds p now PanelAlone l holds may = forgotten (after_frame p now l.panel) l.reached
said_holds p now ListenerAlone l holds may = said_fits p l holds may

-- ---- a tick

module _ (l : PanelLine) (now : ℕ) where
  abbrev s : Session
  s = l.panel.session

  abbrev ticked : PanelLine
  ticked = record l { panel = after_tick now l.panel }

  abbrev t : Session
  t = ticked.panel.session

  abbrev before : Known
  before = l.known.devices s.config.address

  -- the frame is the last one then
  is_sent : (f : Packet) → Sends (seen now s) t before f → (q : Packet) → ((after_packet l.known f).devices t.config.address).last ≡ Some q → q ≡ f
  is_sent f sends =
      let here : f.address ≡ t.config.address = sends.address ∙ sym (ap (λ (c : ControllerConfig). c.address) sends.config) in
      at_address (λ k. (q : Packet) → k.last ≡ Some q → q ≡ f) l.known f t.config.address
      (λ q is. absurd (none_some q is)) (λ other. absurd (other here)) (λ _ reply. absurd (false≢true (sym sends.command ∙ reply)))
      (λ _ _ _ q is. same_some q f (sym is ∙ (sent_asked (l.known.devices t.config.address) f).last))
      (λ _ reply. absurd (false≢true (sym sends.command ∙ reply)))

  tick_by : (o : Option Packet) (reaches : Reaches) → TickFits o (seen now s) t l.reached before → Holds (after_sent o reaches ticked)
  tick_by None reaches stays =
      subst (λ (c : ControllerConfig). Fits t l.reached (l.known.devices c.address)) (sym stays.config) stays.fits
  tick_by (Some f) TheListener sends = sends.out true ((after_packet l.known f).devices t.config.address) (inl (is_sent f sends))
  tick_by (Some f) ADeviceAlone sends = forgotten ticked.panel true
  tick_by (Some f) Nobody sends =
      subst (λ (c : ControllerConfig). Fits t false (l.known.devices c.address)) (sym sends.config) (sends.out false before (inr (refl, sends.may)))

  innocent_by : (o : Option Packet) (reaches : Reaches) → TickFits o (seen now s) t l.reached before → accused_of o reaches l.known ≡ None
  innocent_by None TheListener stays = refl
  innocent_by None ADeviceAlone stays = refl
  innocent_by None Nobody stays = refl
  innocent_by (Some f) TheListener sends =
      sent_in_order l.known f sends.command (subst (λ a. MaySend (l.known.devices a) f) (sym sends.address) sends.may)
  innocent_by (Some f) ADeviceAlone sends = refl
  innocent_by (Some f) Nobody sends = refl

-- ---- each move

move_holds : (move : PanelMove) (l : PanelLine) → Holds l → IsAllowed move l → Holds (after_move move l)
move_holds (Restart config room) l holds allowed = tt
move_holds (Submit c) l holds allowed =
    unless (submit_refusal c l.panel) l.panel (after_submit c l.panel) l.reached l.known holds (λ _. holds)
move_holds Withdraw l holds allowed = holds
move_holds (Begin now) l holds allowed = unless (begin_refusal l.panel) l.panel (after_begin now l.panel) l.reached l.known holds (λ _. tt)
move_holds (Retarget address) l holds allowed =
    unless (retarget_refusal address l.panel) l.panel (after_retarget address l.panel) l.reached l.known holds
    (retargeted l.panel.session.state address l.panel.session.number (record l.panel.session.config { address = address }) l.reached (l.known.devices address))
move_holds (Tick now reaches) l holds allowed =
    tick_by l now (sent_at now l.panel) reaches (tick_fits l.reached (before l now) now l.panel.session l.panel.waiting holds)
move_holds (Say p now reads) l holds allowed = said_holds p now reads l holds allowed
move_holds (Skip b) l holds allowed =
    cond_both (nat_lt (l.known.skipped + 1) (smallest Sum)) (record l.known { skipped = l.known.skipped + 1 }) no_knowledge
    (λ known. HoldsOf l.panel l.reached known) (λ _. holds) (λ _. forgotten l.panel l.reached)
move_holds Forget l holds allowed = forgotten l.panel l.reached

move_innocent : (move : PanelMove) (l : PanelLine) → Holds l → panel_accused_by move l ≡ None
move_innocent (Tick now reaches) l holds =
    innocent_by l now (sent_at now l.panel) reaches (tick_fits l.reached (before l now) now l.panel.session l.panel.waiting holds)
move_innocent move l holds = refl

all_innocent : (moves : List PanelMove) (l : PanelLine) → Holds l → AreAllowed moves l → panel_accusations moves l ≡ []
all_innocent [] l holds allowed = refl
all_innocent (move ∷ moves) l holds allowed =
    ap (λ o. option_to_list o ++ panel_accusations moves (after_move move l)) (move_innocent move l holds)
    ∙ all_innocent moves (after_move move l) (move_holds move l holds allowed.0) allowed.1

pub accuses_no_panel : AccusesNoPanel
accuses_no_panel config room moves allowed = all_innocent moves (new_line config room) tt allowed
