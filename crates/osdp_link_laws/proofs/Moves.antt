-- What holds of a session holds after each move.
use Rattle.osdp_link_laws.proofs.Common.{◌≡◌, ◌≢◌, ◌<◌, ℕ, Bool, true, false, List, [], ◌∷◌, ◌++◌, Option, Some, None, Ok, refl, sym, subst, ap, ◌∙◌, inl, inr, arith, append-nil, Packet, CommandFits, ReplyFits, Command, Machine, submit_refusal, Event, Reply, meaning_by_reply, exchange_command, event_in, ticks, Plain, ControllerConfig, Session, Exchange, Opening, Polling, Asking, ControllerFault, Answer, ReaderState, after_submit, after_withdraw_event, command_in, AnswersPlainly, IsPlain, MaySubmit, Link, TellsItsEvent, after_lapse_event}
use Rattle.std.specs.Prelude.{drop, if◌then◌else◌, option_to_list, take}
use Rattle.osdp_msg.specs.declared.command.Command.TheVariants as command
use Rattle.osdp_controller.specs.Answers as packets
use Rattle.osdp_reader.specs.Queue.{Queue, lapsed, queued, withdrawn}
use Rattle.osdp_link_laws.specs.Link as link
use Rattle.osdp_link_laws.proofs.Coming.{BeginsFrom, KeepsOrders, TicksTo}
use Rattle.osdp_link_laws.proofs.Lines.{each_append, each_rest, runs_append, runs_first}
use Rattle.osdp_link_laws.proofs.Stages.{After, Before, Behind, ControllerAt, Each, Fresh, HasActed, IsAsked, IsFrame, IsOldFrame, IsPast, Knows, Level, Never, Now, Offers, OffersEvent, Past, ReaderAt, ReaderBehind, Rest, Restarted, Runs, SaysOld, Stage, Start, ToReaderAt, answer, frame, number_after, pending, pending_at}
use Rattle.osdp_link_laws.proofs.Parts.{At, with_reader}
use Rattle.osdp_link_laws.proofs.Ticks.{Begun, RestsOn, Unchanged, WaitsOn, ticks_asking, ticks_resting, ticks_waiting}

pub runs_last : (P Q : Packet → Type 0) (ps : List Packet) → Each Q ps → Runs P Q ps
runs_last P Q [] all = tt
runs_last P Q (p ∷ ps) all = inr (all.0, all.1)

-- POLL is refused
pub not_poll : (c : Command) (m : Machine) → submit_refusal c m ≡ None → c ≢ command.Poll
not_poll c m e poll = refused (subst (λ d. submit_refusal d m ≡ None) poll e)
  where
    refused : submit_refusal command.Poll m ≢ None
    refused e = absurd cc

pub asked_fits : (past : Past) (x : Exchange) → IsAsked past x → CommandFits (exchange_command x)
asked_fits Start Opening asked = omega arith
asked_fits Start Polling asked = absurd asked
asked_fits Start (Asking c) asked = absurd asked
asked_fits (After n y b) Opening asked = absurd asked
asked_fits (After n y b) Polling asked = tt
asked_fits (After n y b) (Asking c) asked = asked.fits

offers_more : (told : Option Event) (event : Event) (q : Queue) → OffersEvent told q → OffersEvent told (queued event q)
offers_more None event q off = off
offers_more (Some e) event q (inl (on, ever, (rest, is))) = inl (on, ever, (rest ++ event ∷ [], ap (λ l. l ++ event ∷ []) is))
offers_more (Some e) event q (inr off) = inr off

-- what is offered stays in front
offers_less : (told : Option Event) (q : Queue) → OffersEvent told q → OffersEvent told (withdrawn q)
offers_less None q off = off
offers_less (Some e) q (inr off) = inr off
offers_less (Some e) q (inl (on, ever, (rest, is))) = inl (
  on,
  ever,
  (
    drop 1 rest,
    ap (λ b. if b then take 1 q.events ++ drop 2 q.events else drop 1 q.events) ever ∙ ap (λ es. take 1 es ++ drop 2 es) is,
  ),
)

offers_by : (x : Exchange) (a : Reply) (events : List Event) (capacity room : ℕ) (offered ever : Bool)
    → let q : Queue = record { events = events; capacity = capacity; room = room; offered = offered; ever_offered = ever } in Offers x a q → Offers x a (lapsed q)
offers_by x a events capacity room offered false is = is
offers_by Opening a events capacity room offered true is = refl
offers_by Polling a events capacity room offered true is = by_event (event_in a)
  where
    by_event : (told : Option Event) → OffersEvent told (lapsed (record { events = events; capacity = capacity; room = room; offered = offered; ever_offered = true }))
    by_event None = refl
    by_event (Some e) = inr refl
offers_by (Asking c) a events capacity room offered true is = refl

-- what is offered is so still, or has lapsed
offers_lapsed : (x : Exchange) (a : Reply) (q : Queue) → Offers x a q → Offers x a (lapsed q)
offers_lapsed x a q is = offers_by x a q.events q.capacity q.room q.offered q.ever_offered is

still_offers : (x : Exchange) (a : Reply) (event : Event) (q : Queue) → Offers x a q → Offers x a (queued event q)
still_offers Opening a event q offers = offers
still_offers Polling a event q offers = offers_more (event_in a) event q offers
still_offers (Asking c) a event q offers = offers

module _ (fixed : ControllerConfig) {H : Type 0} where
  -- what a reader keeps of its last command: no event, no BUSY and no other handler changes it
  acted_queues : (n : ℕ) (x : Exchange) (a : Reply) (event : Event) (r : ReaderState H) → HasActed fixed n x a r → HasActed fixed n x a (after_submit event r)
  acted_queues n Opening a event r acted = record { here = acted.here; offer = acted.offer }
  acted_queues n Polling a event r acted = record { here = acted.here; offer = still_offers Polling a event r.queue acted.offer }
  acted_queues n (Asking c) a event r acted = record { here = acted.here; offer = acted.offer }

  knows_queues : (since : Restarted) (n : ℕ) (x : Exchange) (a : Reply) (event : Event) (r : ReaderState H) → Knows fixed since n x a r
      → Knows fixed since n x a (after_submit event r)
  knows_queues Never n x a event r acted = acted_queues n x a event r acted
  knows_queues Before n x a event r acted = acted_queues n x a event r acted
  knows_queues Now n x a event r none = none

  -- .. nor does an event that is taken back
  acted_withdraws : (n : ℕ) (x : Exchange) (a : Reply) (r : ReaderState H) → HasActed fixed n x a r → HasActed fixed n x a (after_withdraw_event r)
  acted_withdraws n Opening a r acted = record { here = acted.here; offer = acted.offer }
  acted_withdraws n Polling a r acted = record { here = acted.here; offer = offers_less (event_in a) r.queue acted.offer }
  acted_withdraws n (Asking c) a r acted = record { here = acted.here; offer = acted.offer }

  knows_withdraws : (since : Restarted) (n : ℕ) (x : Exchange) (a : Reply) (r : ReaderState H) → Knows fixed since n x a r
      → Knows fixed since n x a (after_withdraw_event r)
  knows_withdraws Never n x a r acted = acted_withdraws n x a r acted
  knows_withdraws Before n x a r acted = acted_withdraws n x a r acted
  knows_withdraws Now n x a r none = none

  -- .. nor does one that lapses
  acted_lapses : (n : ℕ) (x : Exchange) (a : Reply) (r : ReaderState H) → HasActed fixed n x a r → HasActed fixed n x a (after_lapse_event r)
  acted_lapses n Opening a r acted = record { here = acted.here; offer = offers_lapsed Opening a r.queue acted.offer }
  acted_lapses n Polling a r acted = record { here = acted.here; offer = offers_lapsed Polling a r.queue acted.offer }
  acted_lapses n (Asking c) a r acted = record { here = acted.here; offer = offers_lapsed (Asking c) a r.queue acted.offer }

  knows_lapses : (since : Restarted) (n : ℕ) (x : Exchange) (a : Reply) (r : ReaderState H) → Knows fixed since n x a r
      → Knows fixed since n x a (after_lapse_event r)
  knows_lapses Never n x a r acted = acted_lapses n x a r acted
  knows_lapses Before n x a r acted = acted_lapses n x a r acted
  knows_lapses Now n x a r none = none

  -- .. whether it is busy, and its handler, are no matter
  abbrev otherwise : Bool → H → ReaderState H → ReaderState H
  otherwise busy handler r = record r { busy = busy; handler = handler }

  acted_otherwise : (n : ℕ) (x : Exchange) (a : Reply) (busy : Bool) (handler : H) (r : ReaderState H) → HasActed fixed n x a r
      → HasActed fixed n x a (otherwise busy handler r)
  acted_otherwise n Opening a busy handler r acted = record { here = acted.here; offer = acted.offer }
  acted_otherwise n Polling a busy handler r acted = record { here = acted.here; offer = acted.offer }
  acted_otherwise n (Asking c) a busy handler r acted = record { here = acted.here; offer = acted.offer }

  knows_otherwise : (since : Restarted) (n : ℕ) (x : Exchange) (a : Reply) (busy : Bool) (handler : H) (r : ReaderState H) → Knows fixed since n x a r
      → Knows fixed since n x a (otherwise busy handler r)
  knows_otherwise Never n x a busy handler r acted = acted_otherwise n x a busy handler r acted
  knows_otherwise Before n x a busy handler r acted = acted_otherwise n x a busy handler r acted
  knows_otherwise Now n x a busy handler r none = none

  reader_changes : (since : Restarted) (r s : ReaderState H) → ((n : ℕ) (x : Exchange) (a : Reply) → Knows fixed since n x a r → Knows fixed since n x a s)
      → (at : Stage) → ReaderAt fixed since at r → ReaderAt fixed since at s
  reader_changes since r s change Fresh is = tt
  reader_changes since r s change (Behind Start x) is = tt
  reader_changes since r s change (Behind (After n y b) x) is = change n y b is
  reader_changes since r s change (Level past x a) is = change (number_after past) x a is
  reader_changes since r s change (Rest n x a) is = change n x a is

module _ (fixed : ControllerConfig) {H : Type 0} (answer_of : H → Command → Answer) (after : H → Command → H) where
  -- what the ends read of each other's packets, and that a reader's answers are plain
  pub record Premises : Type 0 where
    pub device : fixed.address < 127
    pub reads : (x : Exchange) (n : ℕ) → CommandFits (exchange_command x) → command_in (frame fixed x n) ≡ Ok (exchange_command x)
    pub hears : (n : ℕ) (r : Reply) → ReplyFits r → packets.meaning_of (answer fixed n r) ≡ meaning_by_reply r
    pub plain : (r : Reply) → IsPlain r → meaning_by_reply r ≡ Plain r
    pub tells : TellsItsEvent
    pub plainly : AnswersPlainly answer_of after

module _ (fixed : ControllerConfig) {H : Type 0} (answer_of : H → Command → Answer) (after : H → Command → H) (since : Restarted) where
  abbrev AtStage : Stage → Link H → Type 0
  AtStage at l = At fixed answer_of after since at l

  pub submitting : (refusal : Option ControllerFault) (c : Command) (at : Stage) (l : Link H) → (refusal ≡ None → MaySubmit c) → AtStage at l
      → AtStage at (link.submits refusal c l)
  submitting (Some fault) c at l may h = h
  submitting None c at l may h =
      record {
        stage = h.stage;
        controller = h.controller;
        waiting = each_append MaySubmit l.controller.waiting (c ∷ []) h.waiting (may refl, tt);
        reader = h.reader;
        to_reader = h.to_reader;
        to_controller = h.to_controller;
      }

  pub queueing : (full : Bool) (e : Event) (at : Stage) (l : Link H) → AtStage at l → AtStage at (link.queues full e l)
  queueing true e at l h = h
  queueing false e at l h =
      with_reader fixed answer_of after since at l (after_submit e l.reader) h
      (reader_changes fixed since l.reader (after_submit e l.reader) (λ n x a. knows_queues fixed since n x a e l.reader) at h.reader)

  -- the oldest event that was never offered is taken back
  pub withdrawing : (at : Stage) (l : Link H) → AtStage at l → AtStage at (link.withdraws_event l)
  withdrawing at l h =
      with_reader fixed answer_of after since at l (after_withdraw_event l.reader) h
      (reader_changes fixed since l.reader (after_withdraw_event l.reader) (λ n x a. knows_withdraws fixed since n x a l.reader) at h.reader)

  -- the front goes, where it was ever offered
  pub lapsing : (at : Stage) (l : Link H) → AtStage at l → AtStage at (link.lapses_event l)
  lapsing at l h =
      with_reader fixed answer_of after since at l (after_lapse_event l.reader) h
      (reader_changes fixed since l.reader (after_lapse_event l.reader) (λ n x a. knows_lapses fixed since n x a l.reader) at h.reader)

  -- BUSY on or off, or another handler
  pub being_otherwise : (busy : Bool) (handler : H) (at : Stage) (l : Link H) → AtStage at l
      → AtStage at (record l { reader = record l.reader { busy = busy; handler = handler } })
  being_otherwise busy handler at l h =
      with_reader fixed answer_of after since at l (otherwise fixed busy handler l.reader) h
      (reader_changes fixed since l.reader (otherwise fixed busy handler l.reader) (λ n x a. knows_otherwise fixed since n x a busy handler l.reader) at h.reader)

  -- ---- a tick

  -- how far the session has come then, and what it makes of the commands
  abbrev TicksFrom : ℕ → Stage → Link H → Type 0
  TicksFrom now at l =
      let t = ticks now l.controller.session l.controller.waiting in
      (to : Stage)
      × (TicksTo t at to × KeepsOrders at to l.controller.waiting t.waiting) × AtStage to (link.ticked t l)

  -- a tick that begins no exchange
  same_exchange : (at : Stage) (now : ℕ) (l : Link H) → let t = ticks now l.controller.session l.controller.waiting in
      t.waiting ≡ l.controller.waiting → ControllerAt fixed at t.session → ToReaderAt fixed at (l.to_reader ++ option_to_list t.step.frame) → AtStage at l → TicksFrom now at l
  same_exchange at now l waits stands line h = (
    at,
    (inl refl, ap (λ vs. pending_at at ++ vs) waits),
    record {
      stage = h.stage;
      controller = stands;
      waiting = subst (Each MaySubmit) (sym waits) h.waiting;
      reader = h.reader;
      to_reader = line;
      to_controller = h.to_controller;
    },
  )

  -- .. and says nothing
  quiet : (at : Stage) (now : ℕ) (l : Link H) (P : Session → Type 0) → ((s : Session) → P s → ControllerAt fixed at s)
      → Unchanged fixed P l.controller.waiting (ticks now l.controller.session l.controller.waiting) → AtStage at l → TicksFrom now at l
  quiet at now l P stands (waits, silent, told, on) h =
      let t = ticks now l.controller.session l.controller.waiting in
      same_exchange at now l waits (stands t.session on)
      (subst (λ o. ToReaderAt fixed at (l.to_reader ++ option_to_list o)) (sym silent) (subst (ToReaderAt fixed at) (sym (append-nil l.to_reader)) h.to_reader)) h

  -- an exchange begins after another
  begins : (at : Stage) (past : Past) (now : ℕ) (l : Link H) → ((x : Exchange) → BeginsFrom at (Behind past x)) → pending_at at ≡ []
      → IsPast past → ReaderBehind fixed since past l.reader
      → Each (IsOldFrame fixed past) l.to_reader → Each (SaysOld fixed since past) l.to_controller → AtStage at l
      → Begun fixed past (number_after past) l.controller.waiting (ticks now l.controller.session l.controller.waiting) → TicksFrom now at l
  begins at past now l from none acted knows frames said h (x, asked, waits, sent, told, asks) =
      let s = l.controller.session in
      let ws = l.controller.waiting in
      let t = ticks now s ws in
      let n = number_after past in (
        Behind past x,
        (
          inr (from x, record { frame = frame fixed x n; sent = sent; told = told }),
          sym waits ∙ ap (λ cs. cs ++ ws) (sym none),
        ),
        record {
          stage = (acted, asked);
          controller = asks;
          waiting = each_rest MaySubmit (pending x) t.waiting (subst (Each MaySubmit) waits h.waiting);
          reader = knows;
          to_reader = subst (λ o. Runs (IsOldFrame fixed past) (IsFrame fixed x n) (l.to_reader ++ option_to_list o)) (sym sent)
              (runs_first (IsOldFrame fixed past) (IsFrame fixed x n) l.to_reader (frame fixed x n ∷ []) frames (refl, tt));
          to_controller = said;
        },
      )

  pub ticking : (at : Stage) (now : ℕ) (l : Link H) → AtStage at l → TicksFrom now at l
  ticking Fresh now l h =
      elim (ticks_waiting fixed l.controller.session l.controller.waiting now h.controller) [
        | inl begun ↦ begins Fresh Start now l (λ x. (x, refl)) refl tt tt (subst (Each (IsOldFrame fixed Start)) (sym h.to_reader) tt)
            (subst (Each (SaysOld fixed since Start)) (sym h.to_controller) tt) h begun
        | inr unchanged ↦ quiet Fresh now l (WaitsOn fixed) (λ s on. on) unchanged h
      ]
  ticking (Behind past x) now l h =
      let t = ticks now l.controller.session l.controller.waiting in
      let w = ticks_asking fixed (number_after past) x l.controller.session l.controller.waiting now h.controller in
      same_exchange (Behind past x) now l w.0 w.2
      (runs_append (IsOldFrame fixed past) (IsFrame fixed x (number_after past)) l.to_reader (option_to_list t.step.frame) h.to_reader w.1) h
  ticking (Level past x a) now l h =
      let t = ticks now l.controller.session l.controller.waiting in
      let w = ticks_asking fixed (number_after past) x l.controller.session l.controller.waiting now h.controller in
      same_exchange (Level past x a) now l w.0 w.2
      (each_append (IsFrame fixed x (number_after past)) l.to_reader (option_to_list t.step.frame) h.to_reader w.1) h
  ticking (Rest n x a) now l h =
      elim (ticks_resting fixed n x a l.controller.session l.controller.waiting now h.controller h.waiting) [
        | inl begun ↦ begins (Rest n x a) (After n x a) now l (λ y. (y, refl)) refl h.stage h.reader h.to_reader h.to_controller h begun
        | inr unchanged ↦ quiet (Rest n x a) now l (RestsOn fixed n) (λ s on. on) unchanged h
      ]
