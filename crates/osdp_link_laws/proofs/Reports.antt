-- What the controller's user is told by a tick, and by a packet that says BUSY or a reply that settles.
use Rattle.osdp_link_laws.proofs.Common.{◌≡◌, ◌+◌, ℕ, leb, ltb, List, ◌∷◌, Option, Some, None, refl, sym, subst, inl, inr, Packet, Command, Communication, Event, Reply, PdId, said_by, event_in, Heard, answered, com_of, command_answered, comset_of, hears, hears_busy, hears_in, ignores, is_ack, is_from_reader, is_numbered, loses, moved_by, opening_answered, pausing_hears, pd_id_of, poll_told, waiting_hears, later, lost, seen, Ticked, begins, idle_way, gives_up, sends_frame, stays, ticks_in, tries_again, NotTaken, Plain, Exchange, Opening, Polling, Asking, Outstanding, NoReply, TooBusy, Report, Session, State, Closed, Quiet, Idle, Waiting, Pausing, Delivered, Delivery, Repeated, IsPlainlySaid, told_by_front}
use Rattle.osdp_controller.specs.declared.report.Report.TheVariants as report
use Rattle.osdp_link_laws.proofs.Lines.{both}
use Rattle.osdp_link_laws.proofs.Stages.{Each}

-- a tick tells nothing, or that a session ends without a reply
module _ (P : Option Report → Type 0) (nothing : P None) (silent : (o : Outstanding) → P (Some (lost NoReply o))) where
  abbrev TickedSo : Ticked → Type 0
  TickedSo t = P t.step.report

  pub tick_so : (state : State) (s : Session) (waiting : List Command) → P (ticks_in state s waiting).step.report
  tick_so Closed s waiting = nothing
  tick_so (Quiet until) s waiting = both TickedSo (leb until s.greatest) (begins Opening 0 s waiting) (stays s waiting) nothing nothing
  tick_so (Idle due) s waiting = idle_way TickedSo due s waiting (λ e. nothing) (λ e. nothing) (λ c rest e. nothing)
  tick_so (Waiting until k o) s waiting =
      both TickedSo (leb until s.greatest) (tries_again k o s waiting) (stays s waiting)
      (both TickedSo (ltb k s.config.sends) (sends_frame (k + 1) o s waiting) (gives_up o s waiting) nothing (silent o)) nothing
  tick_so (Pausing until o) s waiting = both TickedSo (leb until s.greatest) (sends_frame 1 o s waiting) (stays s waiting) nothing nothing

-- what such a packet may bring: no COMSET is settled whose COM moves the reader, each reply is read, and a session ends as too busy alone
abbrev pub MayBring : Option Report → Type 0
MayBring (Some (report.Settled c a)) = moved_by (comset_of c) (com_of a) ≡ None
MayBring (Some (report.Unread c code)) = ⊥
MayBring (Some (report.Lost cause c)) = cause ≡ TooBusy
MayBring _ = Unit {0}

abbrev HeardSo : Heard → Type 0
HeardSo h = MayBring h.report

opened_so : (id : Option PdId) (s : Session) → HeardSo (opening_answered id s)
opened_so None s = tt
opened_so (Some id) s = tt

polled_so : (event : Option Event) (a : Reply) → MayBring (poll_told a event)
polled_so (Some event) a = tt
polled_so None a = both MayBring (is_ack a) None (Some (report.PollAnswered a)) tt tt

command_so : (to : Option Communication) (c : Command) (a : Reply) (s : Session) → moved_by (comset_of c) (com_of a) ≡ to → HeardSo (command_answered to c a s)
command_so None c a s is = is
command_so (Some d) c a s is = tt

answered_so : (x : Exchange) (a : Reply) (s : Session) → HeardSo (answered x a s)
answered_so Opening a s = opened_so (pd_id_of a) s
answered_so Polling a s = polled_so (event_in a) a
answered_so (Asking c) a s = command_so (moved_by (comset_of c) (com_of a)) c a s refl

busy_so : (state : State) (number : ℕ) (s : Session) → HeardSo (hears_in state number NotTaken s)
busy_so (Waiting until k o) number s =
    both HeardSo (is_numbered number NotTaken s) (hears_busy o s) (ignores s)
    (both HeardSo (ltb s.config.busy_limit (o.busies + 1)) (loses TooBusy o s)
    (record { session = record s { state = Pausing (later s.config.busy_wait s) (record o { busies = o.busies + 1 }) }; report = None })
    refl tt) tt
busy_so (Pausing until o) number s = both HeardSo (is_numbered number NotTaken s) (ignores s) (ignores s) tt tt
busy_so _ number s = tt

plain_so : (state : State) (number : ℕ) (a : Reply) (s : Session) → HeardSo (hears_in state number (Plain a) s)
plain_so (Waiting until k o) number a s =
    both HeardSo (is_numbered number (Plain a) s) (waiting_hears (Plain a) k o s) (ignores s) (answered_so o.exchange a s) tt
plain_so (Pausing until o) number a s =
    both HeardSo (is_numbered number (Plain a) s) (pausing_hears (Plain a) o s) (ignores s) (answered_so o.exchange a s) tt
plain_so _ number a s = tt

pub heard_so : (p : Packet) (now : ℕ) (s : Session) → IsPlainlySaid p → MayBring (hears p now s).report
heard_so p now s (inl busy) =
    both HeardSo (is_from_reader p s) (hears_in s.state p.sequence (said_by p) (seen now s)) (ignores (seen now s))
    (subst (λ a. HeardSo (hears_in s.state p.sequence a (seen now s))) (sym busy) (busy_so s.state p.sequence (seen now s))) tt
heard_so p now s (inr (a, plain)) =
    both HeardSo (is_from_reader p s) (hears_in s.state p.sequence (said_by p) (seen now s)) (ignores (seen now s))
    (subst (λ b. HeardSo (hears_in s.state p.sequence b (seen now s))) (sym plain) (plain_so s.state p.sequence a (seen now s))) tt

pub front_so : (how : Delivery) (ps : List Packet) (now : ℕ) (s : Session) → Each IsPlainlySaid ps → MayBring (told_by_front how ps now s)
front_so Delivered (p ∷ ps) now s plain = heard_so p now s plain.0
front_so Repeated (p ∷ ps) now s plain = heard_so p now s plain.0
front_so how ps now s plain = tt
