-- What the device knows fits our controller, whatever it sends and hears.
use Rattle.osdp_panel_rules_laws.proofs.Common.{◌≡◌, ◌⊎◌, inl, inr, ℕ, ◌+◌, true, false, eqb, ◌&&◌, List, [], ◌∷◌, Option, Some, None, refl, sym, subst, ap, ◌∙◌, and_parts, cond_both, eqb-true, false≢true, or_cases, nat_le, nat_lt, is_not_taken, meaning_of, ControllerConfig, Session, State, Closed, Quiet, Idle, Waiting, Pausing, Heard, answered, answered_unread, command_answered, com_of, comset_of, hears, hears_in, ignores, is_from_reader, is_numbered, loses, moved_by, opening_answered, pausing_hears, pd_id_of, waiting_hears, later, seen, Packet, next_sequence, Reply, Known, IsAnswer}
use Rattle.osdp_controller.specs.declared.exchange.Exchange.{Exchange}
use Rattle.osdp_controller.specs.declared.exchange.Exchange.TheVariants.{Opening, Polling, Asking}
use Rattle.osdp_controller.specs.declared.exchange.Outstanding.{Outstanding}
use Rattle.osdp_controller.specs.declared.meaning.ReplyMeaning.{ReplyMeaning}
use Rattle.osdp_controller.specs.declared.meaning.ReplyMeaning.TheVariants.{NotTaken, Damaged, NumberRefused, Plain, Unreadable}
use Rattle.osdp_controller.specs.declared.report.LostCause.TheVariants as causes
use Rattle.osdp_controller.specs.Exchanges.{exchange_body}
use Rattle.osdp_controller.specs.Ticking.{Ticked, begins, gives_up, idle_ticks, sends_frame, stays, ticks, ticks_in, tries_again}
use Rattle.osdp_frame.specs.Packed.{packed}
use Rattle.osdp_msg.specs.declared.command.Command.{Command}
use Rattle.osdp_msg.specs.declared.command_fields.Communication.{Communication}
use Rattle.osdp_msg.specs.declared.reply_fields.PdId.{PdId}
use Rattle.osdp_controller.proofs.Idling.{idle_way}

-- a packet follows the last one in order
abbrev pub Suits : Known → Packet → Type 0
Suits k q = (p : Packet) → k.last ≡ Some p
    → (p ≡ q) ⊎ (q.sequence ≡ 0) ⊎ ((q.sequence ≡ next_sequence p.sequence) × (k.answered ≡ true))

-- the frame of an exchange
abbrev pub frame : ℕ → ControllerConfig → Exchange → Packet
frame number config x = packed false config.address number config.check false 0 (exchange_body x)

-- an exchange is outstanding: its frame was sent last, and follows what the device knows
abbrev pub IsOut : Option Packet → Known → Packet → Type 0
IsOut sent k f = (sent ≡ Some f) × Suits k f

-- none is: the last packet that the device knows has the number, and is answered
abbrev pub IsAtRest : Known → ℕ → Type 0
IsAtRest k number = (p : Packet) → k.last ≡ Some p → (p.sequence ≡ number) × (k.answered ≡ true)

abbrev pub FitsIn : State → ℕ → ControllerConfig → Option Packet → Known → Type 0
FitsIn Closed number config sent k = Unit {0}
FitsIn (Quiet until) number config sent k = Unit {0}
FitsIn (Idle due) number config sent k = IsAtRest k number
FitsIn (Waiting until sends o) number config sent k = IsOut sent k (frame number config o.exchange)
FitsIn (Pausing until o) number config sent k = IsOut sent k (frame number config o.exchange)

abbrev pub Fits : Session → Option Packet → Known → Type 0
Fits s sent k = FitsIn s.state s.number s.config sent k

-- All of it holds where the panel asks the device, and not another.
module _ (Here : Type 0) (sent : Option Packet) (k : Known) where
  -- ---- what it sends

  -- a frame that follows what is known, and its exchange is outstanding
  pub record Sends (s t : Session) (f : Packet) : Type 0 where
    pub command : f.reply ≡ false
    pub address : f.address ≡ s.config.address
    pub config : t.config ≡ s.config
    pub suits : Here → Suits k f
    pub out : (last : Option Packet) (j : Known) → IsOut last j f → Fits t last j

  -- or nothing
  pub record Stays (s t : Session) : Type 0 where
    pub config : t.config ≡ s.config
    pub fits : Here → Fits t sent k

  abbrev pub TickFits : Option Packet → Session → Session → Type 0
  TickFits None s t = Stays s t
  TickFits (Some f) s t = Sends s t f

  abbrev pub Ticks : Session → Ticked → Type 0
  Ticks s t = TickFits t.step.frame s t.session

  begin_fits : (x : Exchange) (number : ℕ) (s : Session) (waiting : List Command) → (Here → Suits k (frame number s.config x))
      → Ticks s (begins x number s waiting)
  begin_fits x number s waiting suits = record { command = refl; address = refl; config = refl; suits = suits; out = λ last j out. out }

  next_suits : (f : Packet) (number : ℕ) → f.sequence ≡ next_sequence number → IsAtRest k number → Suits k f
  next_suits f number next rest p last =
      let is = rest p last in
      inr (inr (next ∙ ap next_sequence (sym is.0), is.1))

  idle_fits : (waiting : List Command) (due : ℕ) (s : Session) → (Here → IsAtRest k s.number) → s.state ≡ Idle due → Ticks s (idle_ticks waiting due s)
  idle_fits waiting due s fits is =
      idle_way (λ t. Ticks s t) due s waiting
      (λ _. begin_fits Polling (next_sequence s.number) s waiting (λ here. next_suits (frame (next_sequence s.number) s.config Polling) s.number refl (fits here)))
      (λ _. record { config = refl; fits = λ here. subst (λ state. FitsIn state s.number s.config sent k) (sym is) (fits here) })
      (λ c rest e. begin_fits (Asking c) (next_sequence s.number) s rest (λ here. next_suits (frame (next_sequence s.number) s.config (Asking c)) s.number refl (fits here)))

  send_fits : (sends : ℕ) (o : Outstanding) (s : Session) (waiting : List Command) → (Here → IsOut sent k (frame s.number s.config o.exchange))
      → Ticks s (sends_frame sends o s waiting)
  send_fits sends o s waiting out =
      record { command = refl; address = refl; config = refl; suits = λ here. (out here).1; out = λ last j is. is }

  tick_in : (state : State) (s : Session) (waiting : List Command) → s.state ≡ state → (Here → FitsIn state s.number s.config sent k)
      → Ticks s (ticks_in state s waiting)
  tick_in Closed s waiting is fits = record { config = refl; fits = λ here. subst (λ state. FitsIn state s.number s.config sent k) (sym is) (fits here) }
  tick_in (Quiet until) s waiting is fits =
      cond_both (nat_le until s.greatest) (begins Opening 0 s waiting) (stays s waiting) (λ t. Ticks s t)
      (λ _. begin_fits Opening 0 s waiting (λ here p last. inr (inl refl)))
      (λ _. record { config = refl; fits = λ here. subst (λ state. FitsIn state s.number s.config sent k) (sym is) (fits here) })
  tick_in (Idle due) s waiting is fits = idle_fits waiting due s fits is
  tick_in (Waiting until sends o) s waiting is fits =
      cond_both (nat_le until s.greatest) (tries_again sends o s waiting) (stays s waiting) (λ t. Ticks s t)
      (λ _. cond_both (nat_lt sends s.config.sends) (sends_frame (sends + 1) o s waiting) (gives_up o s waiting) (λ t. Ticks s t)
      (λ _. send_fits (sends + 1) o s waiting fits) (λ _. record { config = refl; fits = λ here. tt }))
      (λ _. record { config = refl; fits = λ here. subst (λ state. FitsIn state s.number s.config sent k) (sym is) (fits here) })
  tick_in (Pausing until o) s waiting is fits =
      cond_both (nat_le until s.greatest) (sends_frame 1 o s waiting) (stays s waiting) (λ t. Ticks s t)
      (λ _. send_fits 1 o s waiting fits)
      (λ _. record { config = refl; fits = λ here. subst (λ state. FitsIn state s.number s.config sent k) (sym is) (fits here) })

  pub tick_fits : (now : ℕ) (s : Session) (waiting : List Command) → (Here → Fits s sent k) → Ticks (seen now s) (ticks now s waiting)
  tick_fits now s waiting fits = tick_in s.state (seen now s) waiting refl fits

  -- ---- what it hears

  -- .. and then the device knows that it has answered
  abbrev pub AreTaken : Packet → Session → Type 0
  AreTaken p s = (x : Exchange) → sent ≡ Some (frame s.number s.config x) → p.sequence ≡ s.number → IsAnswer (meaning_of p) → IsAtRest k s.number

  -- it fits where the address stays, or the session has ended
  abbrev pub HearFits : Session → Heard → Type 0
  HearFits s h = ((h.session.config ≡ s.config) × (Here → Fits h.session sent k)) ⊎ (h.session.state ≡ Closed)

  ignored : (s : Session) → (Here → Fits s sent k) → HearFits s (ignores s)
  ignored s fits = inl (refl, fits)

  opening_fits : (id : Option PdId) (s : Session) → (Here → IsAtRest k s.number) → (Here → Fits s sent k) → HearFits s (opening_answered id s)
  opening_fits (Some id) s rest fits = inl (refl, rest)
  opening_fits None s rest fits = ignored s fits

  command_fits : (to : Option Communication) (c : Command) (reply : Reply) (s : Session) → (Here → IsAtRest k s.number)
      → HearFits s (command_answered to c reply s)
  command_fits (Some to) c reply s rest = inr refl
  command_fits None c reply s rest = inl (refl, rest)

  answered_fits : (x : Exchange) (reply : Reply) (s : Session) → (Here → IsAtRest k s.number) → (Here → Fits s sent k) → HearFits s (answered x reply s)
  answered_fits Opening reply s rest fits = opening_fits (pd_id_of reply) s rest fits
  answered_fits Polling reply s rest fits = inl (refl, rest)
  answered_fits (Asking c) reply s rest fits = command_fits (moved_by (comset_of c) (com_of reply)) c reply s rest

  unread_fits : (x : Exchange) (code : ℕ) (s : Session) → (Here → IsAtRest k s.number) → (Here → Fits s sent k) → HearFits s (answered_unread x code s)
  unread_fits Opening code s rest fits = ignored s fits
  unread_fits Polling code s rest fits = inl (refl, rest)
  unread_fits (Asking c) code s rest fits = inl (refl, rest)

  numbered : (p : Packet) (s : Session) (answer : ReplyMeaning) → is_not_taken answer ≡ false → is_numbered p.sequence answer s ≡ true → p.sequence ≡ s.number
  numbered p s answer taken is =
      elim (or_cases (eqb p.sequence s.number) (eqb p.sequence 0 && is_not_taken answer) is) [
        | inl same ↦ eqb-true p.sequence s.number same
        | inr busy ↦ absurd (false≢true (sym taken ∙ (and_parts (eqb p.sequence 0) (is_not_taken answer) busy).1))
      ]

  module _ (p : Packet) (s : Session) (fits : Here → Fits s sent k) (taken : Here → AreTaken p s) where
    rest_after : (answer : ReplyMeaning) (x : Exchange) → meaning_of p ≡ answer → IsAnswer answer → p.sequence ≡ s.number
        → (Here → IsOut sent k (frame s.number s.config x)) → Here → IsAtRest k s.number
    rest_after answer x says is number out here = taken here x (out here).0 number (subst IsAnswer (sym says) is)

    waiting_fits : (answer : ReplyMeaning) (sends : ℕ) (o : Outstanding) → meaning_of p ≡ answer → is_numbered p.sequence answer s ≡ true
        → (Here → IsOut sent k (frame s.number s.config o.exchange)) → HearFits s (waiting_hears answer sends o s)
    waiting_fits NotTaken sends o says number out =
        cond_both (nat_lt s.config.busy_limit (o.busies + 1)) (loses causes.TooBusy o s)
        (record { session = record s { state = Pausing (later s.config.busy_wait s) (record o { busies = o.busies + 1 }) }; report = None })
        (HearFits s) (λ _. inr refl) (λ _. inl (refl, out))
    waiting_fits Damaged sends o says number out = inl (refl, out)
    waiting_fits NumberRefused sends o says number out = inr refl
    waiting_fits (Plain reply) sends o says number out =
        answered_fits o.exchange reply s (rest_after (Plain reply) o.exchange says tt (numbered p s (Plain reply) refl number) out) fits
    waiting_fits (Unreadable code) sends o says number out =
        unread_fits o.exchange code s (rest_after (Unreadable code) o.exchange says tt (numbered p s (Unreadable code) refl number) out) fits

    pausing_fits : (answer : ReplyMeaning) (o : Outstanding) → meaning_of p ≡ answer → is_numbered p.sequence answer s ≡ true
        → (Here → IsOut sent k (frame s.number s.config o.exchange)) → HearFits s (pausing_hears answer o s)
    pausing_fits NotTaken o says number out = ignored s fits
    pausing_fits Damaged o says number out = ignored s fits
    pausing_fits NumberRefused o says number out = inr refl
    pausing_fits (Plain reply) o says number out =
        answered_fits o.exchange reply s (rest_after (Plain reply) o.exchange says tt (numbered p s (Plain reply) refl number) out) fits
    pausing_fits (Unreadable code) o says number out =
        unread_fits o.exchange code s (rest_after (Unreadable code) o.exchange says tt (numbered p s (Unreadable code) refl number) out) fits

    hear_in : (state : State) → s.state ≡ state → HearFits s (hears_in state p.sequence (meaning_of p) s)
    hear_in (Waiting until sends o) is =
        cond_both (is_numbered p.sequence (meaning_of p) s) (waiting_hears (meaning_of p) sends o s) (ignores s) (HearFits s)
        (λ number. waiting_fits (meaning_of p) sends o refl number (λ here. subst (λ state. FitsIn state s.number s.config sent k) is (fits here)))
        (λ _. ignored s fits)
    hear_in (Pausing until o) is =
        cond_both (is_numbered p.sequence (meaning_of p) s) (pausing_hears (meaning_of p) o s) (ignores s) (HearFits s)
        (λ number. pausing_fits (meaning_of p) o refl number (λ here. subst (λ state. FitsIn state s.number s.config sent k) is (fits here)))
        (λ _. ignored s fits)
    hear_in _ is = ignored s fits

  pub hear_fits : (p : Packet) (now : ℕ) (s : Session) → (Here → Fits s sent k) → (Here → is_from_reader p s ≡ true → AreTaken p s)
      → HearFits (seen now s) (hears p now s)
  hear_fits p now s fits taken =
      cond_both (is_from_reader p s) (hears_in s.state p.sequence (meaning_of p) (seen now s)) (ignores (seen now s)) (HearFits (seen now s))
      (λ from. hear_in p (seen now s) fits (λ here. taken here from) s.state refl) (λ _. ignored (seen now s) fits)
