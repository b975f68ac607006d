-- A session that lasts forgets none: what is accepted in it is told, or left.
use Rattle.osdp_link_laws.proofs.Common.{◌≡◌, ◌≢◌, ◌<◌, ◌+◌, ◌==◌, ℕ, Bool, true, false, List, [], ◌∷◌, ◌++◌, length, Option, Some, None, Ok, refl, sym, subst, ap, ◌∙◌, inl, inr, arith, eqb_tells, length-append, Packet, Command, Event, Reply, exchange_command, Ticked, ticks, ControllerConfig, Exchange, Opening, Polling, Asking, ControllerFault, Report, Closed, is_closed, lacks_room, Quiet, ReaderState, begun, event_for, event_or_answer, offering, released, reply_packet, kind_of, moved, new_address, outcome, taken, Answer, Kind, Silent, MaySubmit, MoveFits, MovesFit, Delivered, Delivery, Link, Lost, Move, QueueEvent, Reopen, Repeated, RestartController, RestartReader, Retarget, Submit, Tick, ToController, ToReader, Withdraw, WithdrawEvent, LapseEvent, after_move, run, IsOrdinary, ReadEachOther, accepted, all_begun, all_queued, all_submitted, queued, reports, submitted, told_by, told_by_front, told_in, unless_full}
use Rattle.osdp_controller.specs.Machine as controllers
use Rattle.osdp_reader.specs.declared.kind.Kind.TheVariants as kind
use Rattle.osdp_link_laws.specs.Link as link
use Rattle.osdp_link_laws.specs.Progress.{ForgetsNone}
use Rattle.osdp_link_laws.specs.Sessions as sessions
use Rattle.osdp_link_laws.proofs.Acting.{kind_away}
use Rattle.osdp_link_laws.proofs.Ahead.{IsPlaced, count_at, left_at, placed_here}
use Rattle.osdp_link_laws.proofs.Coming.{HearsTo, Reads, ReadsFront, Stays, TicksTo}
use Rattle.osdp_link_laws.proofs.Counting.{counts_on}
use Rattle.osdp_link_laws.proofs.InARow.{assumed}
use Rattle.osdp_link_laws.proofs.Leaving.{front_leaves, hears_leave, leaves_reader, queue_is, tells, tick_announces, ticks_leave, told_first}
use Rattle.osdp_link_laws.proofs.Lines.{both, each_of}
use Rattle.osdp_link_laws.proofs.Moves.{Premises}
use Rattle.osdp_link_laws.proofs.Once.{holds_on}
use Rattle.osdp_link_laws.proofs.Parts.{At}
use Rattle.osdp_link_laws.proofs.Since.{Hears}
use Rattle.osdp_link_laws.proofs.Stages.{After, Before, Behind, Each, Fresh, HasRestarted, Level, Never, Now, Past, ReaderAt, Rest, Restarted, Stage, Start, ToReaderAt, Waits, frame, number_after, shown}

hears_never : (since : Restarted) → HasRestarted since 0 → Hears since
hears_never Never none = tt
hears_never Before none = absurd (omega (arith, none))
hears_never Now none = absurd (omega (arith, none))

-- ---- where the device is, after each move

module _ (fixed : ControllerConfig) where
  placed_as : (at to : Stage) (address address′ : ℕ) (last last′ : Option ℕ) → to ≡ at → address′ ≡ address → last′ ≡ last
      → IsPlaced fixed at address last → IsPlaced fixed to address′ last′
  placed_as at to address address′ last last′ is same knows placed =
      subst (λ z. IsPlaced fixed z address′ last′) (sym is)
      (subst (λ a. IsPlaced fixed at a last′) (sym same) (subst (λ n. IsPlaced fixed at address n) (sym knows) placed))

  ticks_placed : (t : Ticked) (at to : Stage) (address : ℕ) (last : Option ℕ) → TicksTo t at to → IsPlaced fixed at address last → IsPlaced fixed to address last
  ticks_placed t at to address last (inl is) placed = subst (λ z. IsPlaced fixed z address last) (sym is) placed
  ticks_placed t Fresh to address last (inr ((x, is), sent)) placed = subst (λ z. IsPlaced fixed z address last) (sym is) tt
  ticks_placed t (Rest n y b) to address last (inr ((x, is), sent)) placed = subst (λ z. IsPlaced fixed z address last) (sym is) placed
  ticks_placed t _ to address last (inr (begins, sent)) placed = absurd begins

  hears_placed : (r : Option Report) (at to : Stage) (address : ℕ) (last : Option ℕ) → HearsTo r at to → IsPlaced fixed at address last → IsPlaced fixed to address last
  hears_placed r Fresh to address last comes placed = subst (λ z. IsPlaced fixed z address last) (sym comes.0) placed
  hears_placed r (Behind past x) to address last comes placed = subst (λ z. IsPlaced fixed z address last) (sym comes.0) placed
  hears_placed r (Rest n x a) to address last comes placed = subst (λ z. IsPlaced fixed z address last) (sym comes.0) placed
  hears_placed r (Level past x a) to address last (inl same) placed = subst (λ z. IsPlaced fixed z address last) (sym same.0) placed
  hears_placed r (Level past x a) to address last (inr answered) (inl here) = subst (λ z. IsPlaced fixed z address last) (sym answered.0) (inl here)
  hears_placed r (Level past x a) to address last (inr answered) (inr gone) =
      subst (λ z. IsPlaced fixed z address last) (sym answered.0) (inr (gone.0, refl))

  -- a frame to the controller's address
  abbrev IsFrameThere : Packet → Type 0
  IsFrameThere p = (x : Exchange) × (n : ℕ) × (p ≡ frame fixed x n)

  -- .. as each is that stands on the line to the reader
  front_is : (at : Stage) (p : Packet) (ps : List Packet) → ToReaderAt fixed at (p ∷ ps) → IsFrameThere p
  front_is Fresh p ps line = absurd (let e : p ∷ ps ≡ [] = line in cc)
  front_is (Behind Start x) p ps (inl old) = absurd old.0
  front_is (Behind (After n y b) x) p ps (inl old) = (y, n, old.0)
  front_is (Behind past x) p ps (inr new) = (x, number_after past, new.0)
  front_is (Level past x a) p ps line = (x, number_after past, line.0)
  front_is (Rest n x a) p ps line = (x, n, line.0)

  module _ {H : Type 0} where
    -- one that isn't passed over is heard there
    heard_here : (p : Packet) (r : ReaderState H) (k : Kind) → fixed.address < 127 → IsFrameThere p → kind_of r p ≡ k → k ≢ Silent → r.config.address ≡ fixed.address
    heard_here p r k device (x, n, is) kind heard = elim (eqb_tells r.config.address fixed.address) [
      | inl same ↦ same.1
      | inr other ↦ absurd (heard (sym kind ∙ ap (kind_of r) is ∙ kind_away fixed r x n other.1 device))
    ]

    -- it stays, or goes to another address and knows no number there
    moved_placed : (to : Option ℕ) (past : Past) (x : Exchange) (a : Reply) (r : ReaderState H) → r.config.address ≡ fixed.address → shown x a ≡ []
        → IsPlaced fixed (Level past x a) (moved to r).config.address (moved to r).last
    moved_placed None past x a r here none = inl here
    moved_placed (Some address) past x a r here none =
        both (λ (s : ReaderState H). IsPlaced fixed (Level past x a) s.config.address s.last) (address == r.config.address) r
        (record r { config = record r.config { address = address }; last = None; stored = None }) (inl here) (inr (refl, none))

module _ (fixed : ControllerConfig) {H : Type 0} (answer_of : H → Command → Answer) (after : H → Command → H) where
  -- by the command that is read
  abbrev PlacedBy : Stage → ReaderState H → Type 0
  PlacedBy at r = IsPlaced fixed at r.config.address r.last

  taken_placed : (past : Past) (x : Exchange) (a : Reply) (p : Packet) (r : ReaderState H) → r.config.address ≡ fixed.address
      → PlacedBy (Level past x a) (taken answer_of after (Ok (exchange_command x)) r p).reader
  taken_placed past Opening a p r here = inl here
  taken_placed past Polling a p r here = inl here
  taken_placed past (Asking c) a p r here =
      let queue = released r.queue in
      let o = event_or_answer answer_of after (event_for c queue.events) r.config r.handler c in
      moved_placed fixed (new_address c) past (Asking c) a
      (record r {
        last = Some p.sequence;
        stored = Some (reply_packet p p.sequence o.reply);
        queue = offering (event_for c queue.events) queue;
        handler = o.handler;
      }) here refl

  reads_placed : (since new : Restarted) (at to : Stage) (k : Kind) (p : Packet) (r : ReaderState H) → Reads answer_of after k p r since at new to
      → (k ≢ Silent → r.config.address ≡ fixed.address) → PlacedBy at r → PlacedBy to (outcome answer_of after k r p).reader
  reads_placed since new (Behind (After n y b) x) to kind.Taken p r (hears, same, read, (a, said, is)) here placed =
      subst (λ c. PlacedBy to (taken answer_of after c r p).reader) (sym read)
      (subst (λ z. PlacedBy z (taken answer_of after (Ok (exchange_command x)) r p).reader) (sym is)
      (taken_placed (After n y b) x a p r (here (λ e. absurd cc))))
  reads_placed since new _ to kind.Taken p r comes here placed = absurd comes
  reads_placed since new at to kind.Zero p r (read, keeps) here placed =
      subst (λ c. PlacedBy to (begun answer_of after c r p).reader) (sym read)
      (placed_here fixed to r.config.address (Some 0) (here (λ e. absurd cc)))
  reads_placed since new at to k p r (same, is) here placed = subst (λ z. PlacedBy z r) (sym is) placed

  front_placed : (since new : Restarted) (at to : Stage) (ps : List Packet) (how : Delivery) (l : Link H) → fixed.address < 127 → ReadsFront answer_of after ps how l.reader since at new to
      → ToReaderAt fixed at ps → PlacedBy at l.reader → PlacedBy to (link.to_reader answer_of after ps how l).reader
  front_placed since new at to [] how l device comes line placed = subst (λ z. PlacedBy z l.reader) (sym comes.1) placed
  front_placed since new at to (p ∷ ps) Delivered l device comes line placed =
      reads_placed since new at to (kind_of l.reader p) p l.reader comes
      (heard_here fixed p l.reader (kind_of l.reader p) device (front_is fixed at p ps line) refl) placed
  front_placed since new at to (p ∷ ps) Lost l device comes line placed = subst (λ z. PlacedBy z l.reader) (sym comes.1) placed
  front_placed since new at to (p ∷ ps) Repeated l device comes line placed =
      reads_placed since new at to (kind_of l.reader p) p l.reader comes
      (heard_here fixed p l.reader (kind_of l.reader p) device (front_is fixed at p ps line) refl) placed

  -- ---- a session in which the reader hasn't restarted

  record Lasts (l : Link H) : Type 0 where
    pub since : Restarted
    pub at : Stage
    pub holds : At fixed answer_of after since at l
    pub none : HasRestarted since 0
    pub placed : PlacedBy at l.reader

  -- how many commands and events are left in it
  abbrev counted : (l : Link H) → Lasts l → ℕ
  counted l h = count_at h.since h.at l.controller.waiting l.reader.queue

  -- so many are told, and so many accepted
  abbrev GoesOnBy : ℕ → ℕ → (l next : Link H) → Lasts l → Type 0
  GoesOnBy told more l next h = (n : Lasts next) × (told + counted next n ≡ counted l h + more)

  -- the stage stays, and the reader keeps its address and its last number
  abbrev kept : (l next : Link H) (h : Lasts l) (new : Restarted) (to : Stage) → Stays h.since h.at new to → At fixed answer_of after new to next
      → next.reader.config.address ≡ l.reader.config.address → next.reader.last ≡ l.reader.last → Lasts next
  kept l next h new to comes holds same knows = record {
    since = new;
    at = to;
    holds = holds;
    none = subst (λ s. HasRestarted s 0) (sym comes.0) h.none;
    placed = placed_as fixed h.at to l.reader.config.address next.reader.config.address l.reader.last next.reader.last comes.1 same knows h.placed;
  }

  -- .. and neither the commands that wait nor the queue change
  quiet : (l next : Link H) (h : Lasts l) (new : Restarted) (to : Stage) → Stays h.since h.at new to → At fixed answer_of after new to next
      → next.reader.config.address ≡ l.reader.config.address → next.reader.last ≡ l.reader.last
      → next.controller.waiting ≡ l.controller.waiting → next.reader.queue ≡ l.reader.queue → GoesOnBy 0 0 l next h
  quiet l next h new to comes holds same knows waits queue =
      let is : count_at new to next.controller.waiting next.reader.queue ≡ counted l h = (λ i. count_at (comes.0 i) (comes.1 i) (waits i) (queue i)) in
      (kept l next h new to comes holds same knows, omega (arith, is))

  submits : (refusal : Option ControllerFault) (c : Command) (l : Link H) (h : Lasts l) (new : Restarted) (to : Stage) → Stays h.since h.at new to
      → At fixed answer_of after new to (link.submits refusal c l) → GoesOnBy 0 (length (accepted refusal c) + 0) l (link.submits refusal c l) h
  submits (Some fault) c l h new to comes holds = quiet l l h new to comes holds refl refl refl refl
  submits None c l h new to comes holds =
      let is : count_at new to (l.controller.waiting ++ c ∷ []) l.reader.queue ≡ count_at h.since h.at (l.controller.waiting ++ c ∷ []) l.reader.queue =
      (λ i. count_at (comes.0 i) (comes.1 i) (l.controller.waiting ++ c ∷ []) l.reader.queue) in
      (kept l (link.submits None c l) h new to comes holds refl refl, omega (arith, is, length-append l.controller.waiting (c ∷ [])))

  queues : (full : Bool) (e : Event) (l : Link H) (h : Lasts l) (new : Restarted) (to : Stage) → Stays h.since h.at new to
      → At fixed answer_of after new to (link.queues full e l) → GoesOnBy 0 (0 + length (unless_full full e)) l (link.queues full e l) h
  queues true e l h new to comes holds = quiet l l h new to comes holds refl refl refl refl
  queues false e l h new to comes holds =
      let next = link.queues false e l in
      let is : count_at new to l.controller.waiting next.reader.queue ≡ count_at h.since h.at l.controller.waiting next.reader.queue =
      (λ i. count_at (comes.0 i) (comes.1 i) l.controller.waiting next.reader.queue) in
      let hears = hears_never h.since h.none in
      let before = queue_is fixed h.since h.at l.reader hears h.holds.stage h.holds.reader in
      let reader = subst (λ s. ReaderAt fixed s h.at next.reader) comes.0 (subst (λ z. ReaderAt fixed new z next.reader) comes.1 holds.reader) in
      let later = queue_is fixed h.since h.at next.reader hears h.holds.stage reader in
      let events = length-append l.reader.queue.events (e ∷ []) in
      (kept l next h new to comes holds refl refl, omega (arith, is, before, later, events))

  retargets : (refusal : Option ControllerFault) (address : ℕ) (l : Link H) (h : Lasts l) (new : Restarted) (to : Stage) → Stays h.since h.at new to
      → At fixed answer_of after new to (link.retargets refusal address l) → GoesOnBy 0 0 l (link.retargets refusal address l) h
  retargets (Some fault) address l h new to comes holds = quiet l l h new to comes holds refl refl refl refl
  retargets None address l h new to comes holds = quiet l (link.retargets None address l) h new to comes holds refl refl refl refl

  reopens : (refusal : Option ControllerFault) (ps qs : List Packet) (now : ℕ) (l : Link H) (h : Lasts l) → sessions.begun_again refusal ps qs ≡ 0
      → GoesOnBy 0 0 l (link.reopens refusal ps qs now l) h
  reopens (Some fault) ps qs now l h none = (h, omega arith)
  reopens None (p ∷ ps) qs now l h none = (h, omega arith)
  reopens None [] (q ∷ qs) now l h none = (h, omega arith)
  reopens None [] [] now l h none = absurd (omega (arith, none))

  module _ (given : Premises fixed answer_of after) where
    abbrev Goes : (move : Move H) (l : Link H) → Lasts l → Type 0
    Goes move l h = GoesOnBy (tells (told_by move l)) (length (submitted move l) + length (queued move l)) l (after_move answer_of after move l) h

    comes_to_controller : (how : Delivery) (now : ℕ) (l : Link H) (h : Lasts l) → Goes (ToController how now) l h
    comes_to_controller how now l h =
        let next = link.to_controller l.to_controller how now l in
        let r = told_by_front how l.to_controller now l.controller.session in
        let m = holds_on fixed answer_of after given (ToController how now) l tt tt (h.since, h.at, h.holds) in
        let same = leaves_reader l.to_controller how now l in
        let less = hears_leave fixed h.since h.at m.1 r l.controller.waiting l.reader (hears_never h.since h.none) h.holds.stage h.holds.reader m.2.1 in
        let is : count_at m.0 m.1 next.controller.waiting next.reader.queue ≡ count_at h.since m.1 l.controller.waiting l.reader.queue =
        (λ i. count_at (m.2.0 i) m.1 (same.1 i) (same.0 i).queue) in (
          record {
            since = m.0;
            at = m.1;
            holds = m.3;
            none = subst (λ s. HasRestarted s 0) (sym m.2.0) h.none;
            placed = subst (PlacedBy m.1) (sym same.0) (hears_placed fixed r h.at m.1 l.reader.config.address l.reader.last m.2.1 h.placed);
          },
          omega (arith, less, is),
        )

    ticks_on : (now : ℕ) (l : Link H) (h : Lasts l) → Goes (Tick now) l h
    ticks_on now l h =
        let t = ticks now l.controller.session l.controller.waiting in
        let m = holds_on fixed answer_of after given (Tick now) l tt tt (h.since, h.at, h.holds) in
        let less = ticks_leave h.since h.at m.1 t l.controller.waiting l.reader.queue (tick_announces now l.controller.session l.controller.waiting) m.2.1 m.2.2 in
        let is = ap (λ s. count_at s m.1 t.waiting l.reader.queue) m.2.0 in (
          record {
            since = m.0;
            at = m.1;
            holds = m.3;
            none = subst (λ s. HasRestarted s 0) (sym m.2.0) h.none;
            placed = ticks_placed fixed t h.at m.1 l.reader.config.address l.reader.last m.2.1 h.placed;
          },
          omega (arith, less, is),
        )

    comes_to_reader : (how : Delivery) (l : Link H) (h : Lasts l) → MoveFits answer_of after (ToReader how) l → Goes (ToReader how) l h
    comes_to_reader how l h fits =
        let m = holds_on fixed answer_of after given (ToReader how) l tt fits (h.since, h.at, h.holds) in
        let less = front_leaves fixed answer_of after h.since m.0 h.at m.1 l.to_reader how l m.2 h.holds.stage h.holds.reader m.3.stage m.3.reader in
        let same = less.all (hears_never h.since h.none) in (
          record {
            since = m.0;
            at = m.1;
            holds = m.3;
            none = counts_on answer_of after (ToReader how) l h.since h.at m.0 m.1 0 tt m.2 h.none;
            placed = front_placed h.since m.0 h.at m.1 l.to_reader how l given.device m.2 h.holds.to_reader h.placed;
          },
          omega (arith, same),
        )

    -- each ordinary move that begins no session again
    goes : (move : Move H) (l : Link H) (h : Lasts l) → IsOrdinary move → MoveFits answer_of after move l → sessions.begins answer_of after move l ≡ 0 → Goes move l h
    goes (Submit c) l h ordinary fits none =
        let m = holds_on fixed answer_of after given (Submit c) l tt fits (h.since, h.at, h.holds) in
        submits (controllers.submit_refusal c l.controller) c l h m.0 m.1 m.2 m.3
    goes (QueueEvent e) l h ordinary fits none =
        let m = holds_on fixed answer_of after given (QueueEvent e) l tt fits (h.since, h.at, h.holds) in queues (lacks_room e l.reader.queue) e l h m.0 m.1 m.2 m.3
    goes (Tick now) l h ordinary fits none = ticks_on now l h
    goes (ToReader how) l h ordinary fits none = comes_to_reader how l h fits
    goes (ToController how now) l h ordinary fits none = comes_to_controller how now l h
    goes (Reopen now) l h ordinary fits none = reopens (controllers.begin_refusal l.controller) l.to_reader l.to_controller now l h none
    goes (Retarget address) l h ordinary fits none =
        let m = holds_on fixed answer_of after given (Retarget address) l tt fits (h.since, h.at, h.holds) in
        retargets (controllers.retarget_refusal address l.controller) address l h m.0 m.1 m.2 m.3
    goes Withdraw l h ordinary fits none = absurd ordinary
    goes WithdrawEvent l h ordinary fits none = absurd ordinary
    goes LapseEvent l h ordinary fits none = absurd ordinary
    goes (RestartReader config handler room) l h ordinary fits none = absurd ordinary
    goes (RestartController config room) l h ordinary fits none = absurd ordinary
    goes move l h ordinary fits none =
        let m = holds_on fixed answer_of after given move l tt fits (h.since, h.at, h.holds) in
        quiet l (after_move answer_of after move l) h m.0 m.1 m.2 m.3 refl refl refl refl

    all_goes : (moves : List (Move H)) (l : Link H) (h : Lasts l) → Each IsOrdinary moves → MovesFit answer_of after moves l → all_begun answer_of after moves l ≡ 0
        → GoesOnBy (told_in (reports answer_of after moves l)) (length (all_submitted answer_of after moves l) + length (all_queued answer_of after moves l)) l
        (run answer_of after moves l) h
    all_goes [] l h ordinary fits none = (h, omega arith)
    all_goes (move ∷ moves) l h ordinary fits none =
        let next = after_move answer_of after move l in
        let one = goes move l h ordinary.0 fits.0 (omega (arith, none)) in
        let more = all_goes moves next one.0 ordinary.1 fits.1 (omega (arith, none)) in
        let told = told_first (told_by move l) (reports answer_of after moves next) in
        let commands = length-append (submitted move l) (all_submitted answer_of after moves next) in
        let events = length-append (queued move l) (all_queued answer_of after moves next) in
        (more.0, omega (arith, one.1, more.1, told, commands, events))

module _ {H : Type 0} (answer_of : H → Command → Answer) (after : H → Command → H) where
  pub forgets_none : ReadEachOther answer_of after → ForgetsNone answer_of after
  forgets_none peers l moves b fits ordinary none lasts =
      let fixed = l.controller.session.config in
      let given = assumed answer_of after peers fixed b.address in
      let last = run answer_of after moves l in
      let first : Lasts fixed answer_of after l = record {
        since = Never;
        at = Fresh;
        holds = record {
          stage = tt;
          controller = subst (λ state. Waits fixed state l.controller.session) (sym b.quiet.1) refl;
          waiting = each_of MaySubmit l.controller.waiting b.waiting;
          reader = tt;
          to_reader = b.to_reader;
          to_controller = b.to_controller;
        };
        none = refl;
        placed = tt;
      } in
      let all = all_goes fixed answer_of after given moves l first (each_of IsOrdinary moves ordinary) fits none in
      let h = all.0 in
      let began = left_at fixed answer_of after given Never Fresh l first.holds tt (λ closed. let same : Quiet b.quiet.0 ≡ Closed = sym b.quiet.1 ∙ closed in absurd cc) in
      let ended = left_at fixed answer_of after given h.since h.at last h.holds h.placed (λ closed. absurd (let e : true ≡ false = sym (ap is_closed closed) ∙ lasts in cc)) in
      omega (arith, all.1, began, ended)
