-- What is known of the address of a panel's device fits the panel, whatever it sends and hears.
use Rattle.osdp_monitor_laws.proofs.Common.{◌≡◌, ◌⊎◌, inl, inr, ℕ, ◌+◌, Bool, true, false, cond, eqb, ◌&&◌, List, [], ◌∷◌, Option, Some, None, refl, sym, subst, ap, ◌∙◌, and_parts, cond_both, eq-eqb, eqb-true, false≢true, ne_eqb, or_cases, nat_le, nat_lt, is_not_taken, meaning_of, ControllerConfig, Session, State, Closed, Quiet, Idle, Waiting, Pausing, later, seen, Packet, next_sequence, Command, Reply, AnotherPacket, NotAnswered, SentOutOfTurn, Answer, Known, is_first_doubt, panel_accused, sent_after, said, said_by, is_packet, same_packet}
use Rattle.osdp_controller.specs.declared.exchange.Exchange.{Exchange}
use Rattle.osdp_controller.specs.declared.exchange.Exchange.TheVariants.{Opening, Polling, Asking}
use Rattle.osdp_controller.specs.declared.exchange.Outstanding.{Outstanding}
use Rattle.osdp_controller.specs.declared.meaning.ReplyMeaning.{ReplyMeaning}
use Rattle.osdp_controller.specs.declared.meaning.ReplyMeaning.TheVariants.{NotTaken, Damaged, NumberRefused, Plain, Unreadable}
use Rattle.osdp_controller.specs.declared.report.LostCause.TheVariants as causes
use Rattle.osdp_controller.specs.Exchanges.{exchange_body}
use Rattle.osdp_controller.specs.Hearing.{Heard, answered, answered_unread, command_answered, com_of, comset_of, hears, hears_in, ignores, is_from_reader, is_numbered, loses, moved_by, opening_answered, pausing_hears, pd_id_of, waiting_hears}
use Rattle.osdp_controller.specs.Ticking.{Ticked, begins, gives_up, idle_ticks, sends_frame, stays, ticks, ticks_in, tries_again}
use Rattle.osdp_frame.specs.Packed.{packed}
use Rattle.osdp_msg.specs.declared.command_fields.Communication.{Communication}
use Rattle.osdp_msg.specs.declared.reply_fields.PdId.{PdId}
use Rattle.osdp_monitor_laws.proofs.Numbers.{next_above_zero, next_differs}
use Rattle.osdp_controller.proofs.Idling.{idle_way}

-- the frame of an exchange
abbrev pub frame : ℕ → ControllerConfig → Exchange → Packet
frame number config x = packed false config.address number config.check false 0 (exchange_body x)

-- it may be sent
abbrev pub MaySend : Known → Packet → Type 0
MaySend k f = panel_accused k.last k f ≡ None

-- an exchange is outstanding: its frame is the last packet that is known, or nobody read it, and it may be sent
abbrev pub IsOut : Bool → Known → Packet → Type 0
IsOut reached k f = ((q : Packet) → k.last ≡ Some q → q ≡ f) ⊎ ((reached ≡ false) × MaySend k f)

-- none is: the last packet that is known has the number, and is answered
abbrev pub IsAtRest : Known → ℕ → Type 0
IsAtRest k number = (q : Packet) → k.last ≡ Some q → (q.sequence ≡ number) × (k.answered ≡ true)

abbrev pub FitsIn : State → ℕ → ControllerConfig → Bool → Known → Type 0
FitsIn Closed number config reached k = Unit {0}
FitsIn (Quiet until) number config reached k = Unit {0}
FitsIn (Idle due) number config reached k = IsAtRest k number
FitsIn (Waiting until sends o) number config reached k = IsOut reached k (frame number config o.exchange)
FitsIn (Pausing until o) number config reached k = IsOut reached k (frame number config o.exchange)

abbrev pub Fits : Session → Bool → Known → Type 0
Fits s reached k = FitsIn s.state s.number s.config reached k

-- ---- what it sends

-- a frame goes out that may be sent, and its exchange is outstanding
pub record Sends (s t : Session) (k : Known) (f : Packet) : Type 0 where
  pub command : f.reply ≡ false
  pub address : f.address ≡ s.config.address
  pub may : MaySend k f
  pub config : t.config ≡ s.config
  pub out : (reached : Bool) (j : Known) → IsOut reached j f → Fits t reached j

-- or nothing does
pub record Stays (s t : Session) (reached : Bool) (k : Known) : Type 0 where
  pub config : t.config ≡ s.config
  pub fits : Fits t reached k

abbrev pub TickFits : Option Packet → Session → Session → Bool → Known → Type 0
TickFits None s t reached k = Stays s t reached k
TickFits (Some f) s t reached k = Sends s t k f

abbrev pub Ticks : Session → Ticked → Bool → Known → Type 0
Ticks s t reached k = TickFits t.step.frame s t.session reached k

-- number 0 may be sent always
-- a first doubt is accused of nothing, so the rules alone are to say so
by_rules : (k : Known) (q f : Packet) → sent_after q k.answered f ≡ None → panel_accused (Some q) k f ≡ None
by_rules k q f fine = cond_both (is_first_doubt (Some q) k f) None (sent_after q k.answered f) (λ o. o ≡ None) (λ _. refl) (λ _. fine)

zero_may : (k : Known) (f : Packet) (o : Option Packet) → f.sequence ≡ 0 → panel_accused o k f ≡ None
zero_may k f None zero = refl
zero_may k f (Some q) zero =
    by_rules k q f (rw (eq-eqb f.sequence 0 zero))

-- the last packet once more
again_after : (f : Packet) (answered : Bool) → sent_after f answered f ≡ None
again_after f answered =
    cond_both (eqb f.sequence 0) None
    (cond (eqb f.sequence f.sequence) (cond (same_packet f f) None (Some AnotherPacket)) (cond (eqb f.sequence (next_sequence f.sequence)) (cond answered None (Some NotAnswered)) (Some SentOutOfTurn)))
    (λ a. a ≡ None) (λ _. refl)
    (λ _. rw (is_packet f, eq-eqb f.sequence f.sequence refl))

again_may : (k : Known) (f : Packet) (o : Option Packet) → ((q : Packet) → o ≡ Some q → q ≡ f) → panel_accused o k f ≡ None
again_may k f None same = refl
again_may k f (Some q) same = by_rules k q f (subst (λ x. sent_after x k.answered f ≡ None) (sym (same q refl)) (again_after f k.answered))

out_may : (reached : Bool) (k : Known) (f : Packet) → IsOut reached k f → MaySend k f
out_may reached k f (inl same) = again_may k f k.last same
out_may reached k f (inr free) = free.1

-- the next number, after an answer
next_may : (k : Known) (f : Packet) (number : ℕ) (o : Option Packet) → k.last ≡ o → f.sequence ≡ next_sequence number → IsAtRest k number
    → panel_accused o k f ≡ None
next_may k f number None is next rest = refl
next_may k f number (Some q) is next rest =
    let last = rest q is in
    by_rules k q f
    (rw (
      ne_eqb f.sequence 0 (λ zero. next_above_zero number (sym next ∙ zero)),
      ne_eqb f.sequence q.sequence (λ same. next_differs number (sym next ∙ same ∙ last.0)),
      eq-eqb f.sequence (next_sequence q.sequence) (next ∙ ap next_sequence (sym last.0)),
      last.1,
    ))

module _ (reached : Bool) (k : Known) where
  begin_fits : (x : Exchange) (number : ℕ) (s : Session) (waiting : List Command) → MaySend k (frame number s.config x)
      → Ticks s (begins x number s waiting) reached k
  begin_fits x number s waiting may = record { command = refl; address = refl; may = may; config = refl; out = λ r j out. out }

  idle_fits : (waiting : List Command) (due : ℕ) (s : Session) → IsAtRest k s.number → s.state ≡ Idle due → Ticks s (idle_ticks waiting due s) reached k
  idle_fits waiting due s fits is =
      idle_way (λ t. Ticks s t reached k) due s waiting
      (λ _. begin_fits Polling (next_sequence s.number) s waiting (next_may k (frame (next_sequence s.number) s.config Polling) s.number k.last refl refl fits))
      (λ _. record { config = refl; fits = subst (λ state. FitsIn state s.number s.config reached k) (sym is) fits })
      (λ c rest e. begin_fits (Asking c) (next_sequence s.number) s rest (next_may k (frame (next_sequence s.number) s.config (Asking c)) s.number k.last refl refl fits))

  send_fits : (sends : ℕ) (o : Outstanding) (s : Session) (waiting : List Command) → IsOut reached k (frame s.number s.config o.exchange)
      → Ticks s (sends_frame sends o s waiting) reached k
  send_fits sends o s waiting out =
      record { command = refl; address = refl; may = out_may reached k (frame s.number s.config o.exchange) out; config = refl; out = λ r j is. is }

  tick_in : (state : State) (s : Session) (waiting : List Command) → s.state ≡ state → FitsIn state s.number s.config reached k
      → Ticks s (ticks_in state s waiting) reached k
  tick_in Closed s waiting is fits = record { config = refl; fits = subst (λ state. FitsIn state s.number s.config reached k) (sym is) fits }
  tick_in (Quiet until) s waiting is fits =
      cond_both (nat_le until s.greatest) (begins Opening 0 s waiting) (stays s waiting) (λ t. Ticks s t reached k)
      (λ _. begin_fits Opening 0 s waiting (zero_may k (frame 0 s.config Opening) k.last refl))
      (λ _. record { config = refl; fits = subst (λ state. FitsIn state s.number s.config reached k) (sym is) fits })
  tick_in (Idle due) s waiting is fits = idle_fits waiting due s fits is
  tick_in (Waiting until sends o) s waiting is fits =
      cond_both (nat_le until s.greatest) (tries_again sends o s waiting) (stays s waiting) (λ t. Ticks s t reached k)
      (λ _. cond_both (nat_lt sends s.config.sends) (sends_frame (sends + 1) o s waiting) (gives_up o s waiting) (λ t. Ticks s t reached k)
      (λ _. send_fits (sends + 1) o s waiting fits) (λ _. record { config = refl; fits = tt }))
      (λ _. record { config = refl; fits = subst (λ state. FitsIn state s.number s.config reached k) (sym is) fits })
  tick_in (Pausing until o) s waiting is fits =
      cond_both (nat_le until s.greatest) (sends_frame 1 o s waiting) (stays s waiting) (λ t. Ticks s t reached k)
      (λ _. send_fits 1 o s waiting fits)
      (λ _. record { config = refl; fits = subst (λ state. FitsIn state s.number s.config reached k) (sym is) fits })

  pub tick_fits : (now : ℕ) (s : Session) (waiting : List Command) → Fits s reached k → Ticks (seen now s) (ticks now s waiting) reached k
  tick_fits now s waiting fits = tick_in s.state (seen now s) waiting refl fits

  -- ---- what it hears

  -- the packet, where it answers the exchange, has been taken as an answer
  abbrev pub IsTaken : ℕ → ControllerConfig → Packet → Exchange → Type 0
  IsTaken number config p x = (q : Packet) → k.last ≡ Some q → (q ≡ frame number config x) × (p.sequence ≡ number → said p ≡ Answer → k.answered ≡ true)

  -- it fits where the address stays, or the session has ended
  abbrev HearFits : Session → Heard → Type 0
  HearFits s h = ((h.session.config ≡ s.config) × Fits h.session reached k) ⊎ (h.session.state ≡ Closed)

  at_rest_of : (s : Session) (p : Packet) (x : Exchange) → IsTaken s.number s.config p x → p.sequence ≡ s.number → said p ≡ Answer → IsAtRest k s.number
  at_rest_of s p x taken number says q last = (ap (λ y. y.sequence) (taken q last).0, (taken q last).1 number says)

  ignored : (s : Session) → Fits s reached k → HearFits s (ignores s)
  ignored s fits = inl (refl, fits)

  opening_fits : (id : Option PdId) (s : Session) → IsAtRest k s.number → Fits s reached k → HearFits s (opening_answered id s)
  opening_fits (Some id) s rest fits = inl (refl, rest)
  opening_fits None s rest fits = ignored s fits

  command_fits : (to : Option Communication) (c : Command) (reply : Reply) (s : Session) → IsAtRest k s.number → HearFits s (command_answered to c reply s)
  command_fits (Some to) c reply s rest = inr refl
  command_fits None c reply s rest = inl (refl, rest)

  answered_fits : (x : Exchange) (reply : Reply) (s : Session) → IsAtRest k s.number → Fits s reached k → HearFits s (answered x reply s)
  answered_fits Opening reply s rest fits = opening_fits (pd_id_of reply) s rest fits
  answered_fits Polling reply s rest fits = inl (refl, rest)
  answered_fits (Asking c) reply s rest fits = command_fits (moved_by (comset_of c) (com_of reply)) c reply s rest

  unread_fits : (x : Exchange) (code : ℕ) (s : Session) → IsAtRest k s.number → Fits s reached k → HearFits s (answered_unread x code s)
  unread_fits Opening code s rest fits = ignored s fits
  unread_fits Polling code s rest fits = inl (refl, rest)
  unread_fits (Asking c) code s rest fits = inl (refl, rest)

  numbered : (p : Packet) (s : Session) (answer : ReplyMeaning) → is_not_taken answer ≡ false → is_numbered p.sequence answer s ≡ true → p.sequence ≡ s.number
  numbered p s answer taken is =
      elim (or_cases (eqb p.sequence s.number) (eqb p.sequence 0 && is_not_taken answer) is) [
        | inl same ↦ eqb-true p.sequence s.number same
        | inr busy ↦ absurd (false≢true (sym taken ∙ (and_parts (eqb p.sequence 0) (is_not_taken answer) busy).1))
      ]

  module _ (p : Packet) (s : Session) (fits : Fits s reached k) where
    waiting_fits : (answer : ReplyMeaning) (sends : ℕ) (o : Outstanding) → meaning_of p ≡ answer → is_numbered p.sequence answer s ≡ true
        → IsOut reached k (frame s.number s.config o.exchange) → IsTaken s.number s.config p o.exchange → HearFits s (waiting_hears answer sends o s)
    waiting_fits NotTaken sends o says number out taken =
        cond_both (nat_lt s.config.busy_limit (o.busies + 1)) (loses causes.TooBusy o s)
        (record { session = record s { state = Pausing (later s.config.busy_wait s) (record o { busies = o.busies + 1 }) }; report = None })
        (HearFits s) (λ _. inr refl) (λ _. inl (refl, out))
    waiting_fits Damaged sends o says number out taken = inl (refl, out)
    waiting_fits NumberRefused sends o says number out taken = inr refl
    waiting_fits (Plain reply) sends o says number out taken =
        answered_fits o.exchange reply s (at_rest_of s p o.exchange taken (numbered p s (Plain reply) refl number) (ap said_by says)) fits
    waiting_fits (Unreadable code) sends o says number out taken =
        unread_fits o.exchange code s (at_rest_of s p o.exchange taken (numbered p s (Unreadable code) refl number) (ap said_by says)) fits

    pausing_fits : (answer : ReplyMeaning) (o : Outstanding) → meaning_of p ≡ answer → is_numbered p.sequence answer s ≡ true
        → IsTaken s.number s.config p o.exchange → HearFits s (pausing_hears answer o s)
    pausing_fits NotTaken o says number taken = ignored s fits
    pausing_fits Damaged o says number taken = ignored s fits
    pausing_fits NumberRefused o says number taken = inr refl
    pausing_fits (Plain reply) o says number taken =
        answered_fits o.exchange reply s (at_rest_of s p o.exchange taken (numbered p s (Plain reply) refl number) (ap said_by says)) fits
    pausing_fits (Unreadable code) o says number taken =
        unread_fits o.exchange code s (at_rest_of s p o.exchange taken (numbered p s (Unreadable code) refl number) (ap said_by says)) fits

    hear_in : (state : State) → s.state ≡ state → ((x : Exchange) → IsOut reached k (frame s.number s.config x) → IsTaken s.number s.config p x)
        → HearFits s (hears_in state p.sequence (meaning_of p) s)
    hear_in (Waiting until sends o) is taken =
        let out : IsOut reached k (frame s.number s.config o.exchange) = subst (λ state. FitsIn state s.number s.config reached k) is fits in
        cond_both (is_numbered p.sequence (meaning_of p) s) (waiting_hears (meaning_of p) sends o s) (ignores s) (HearFits s)
        (λ number. waiting_fits (meaning_of p) sends o refl number out (taken o.exchange out)) (λ _. ignored s fits)
    hear_in (Pausing until o) is taken =
        let out : IsOut reached k (frame s.number s.config o.exchange) = subst (λ state. FitsIn state s.number s.config reached k) is fits in
        cond_both (is_numbered p.sequence (meaning_of p) s) (pausing_hears (meaning_of p) o s) (ignores s) (HearFits s)
        (λ number. pausing_fits (meaning_of p) o refl number (taken o.exchange out)) (λ _. ignored s fits)
    hear_in _ is taken = ignored s fits

  pub hear_fits : (p : Packet) (now : ℕ) (s : Session) → Fits s reached k
      → (is_from_reader p s ≡ true → (x : Exchange) → IsOut reached k (frame s.number s.config x) → IsTaken s.number s.config p x)
      → HearFits (seen now s) (hears p now s)
  hear_fits p now s fits taken =
      cond_both (is_from_reader p s) (hears_in s.state p.sequence (meaning_of p) (seen now s)) (ignores (seen now s)) (HearFits (seen now s))
      (λ from. hear_in p (seen now s) fits s.state refl (taken from)) (λ _. ignored (seen now s) fits)
