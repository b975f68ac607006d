-- Without a COMSET neither end goes to another address.
use Rattle.std.proofs.Common.{◌≡◌, ◌+◌, ℕ, Bool, true, false, arith, leb, ltb, List, [], ◌∷◌, ◌++◌, Option, Some, None, IfSome, Ok, refl, sym, subst}
use Rattle.osdp_link_laws.proofs.Common.{append-nil, option_to_list, Packet, next_sequence, CommandFits, Command, Communication, Event, Reply, PdId, said_by, exchange_command, Heard, answered, answered_unread, com_of, command_answered, comset_of, hears, hears_busy, hears_in, ignores, is_from_reader, is_numbered, loses, moved_by, opening_answered, pausing_hears, pd_id_of, waiting_hears, later, seen, Ticked, begins, idle_way, gives_up, sends_frame, stays, ticks_in, tries_again, ReplyMeaning, NotTaken, Damaged, NumberRefused, Plain, Unreadable, Exchange, Opening, Polling, Asking, Outstanding, ControllerFault, TooBusy, Session, State, Closed, Quiet, Idle, Waiting, Pausing, Outcome, begun, command_in, moved, new_address, outcome, taken, ReaderState, Answer, Kind, lacks_room, MovesFit, MoveFits, MaySubmit, Delivered, Delivery, Link, Lost, Move, QueueEvent, Reopen, Repeated, RestartController, RestartReader, Retarget, Submit, Tick, ToController, ToReader, Withdraw, after_move, run, LoseToReader, lost_at, ReadsWhatIsAsked, SetsNoAddress, SetsNoOther, StayWhereTheyAre, all_submitted, submitted}
use Rattle.osdp_controller.specs.Machine as controllers
use Rattle.osdp_reader.specs.Table as reader
use Rattle.osdp_reader.specs.declared.kind.Kind.TheVariants as kind
use Rattle.osdp_link_laws.specs.Link as link
use Rattle.osdp_link_laws.specs.Sessions as sessions
use Rattle.osdp_link_laws.proofs.Answering.{no_address}
use Rattle.osdp_link_laws.proofs.Lines.{both, each_append, each_front, each_of, each_rest, each_lost}
use Rattle.osdp_link_laws.proofs.OnItsWay.{withdrawn_first}
use Rattle.osdp_link_laws.proofs.Settling.{MovesNone, stays_put}
use Rattle.osdp_link_laws.proofs.Stages.{Each}

-- a command that can be read and moves no reader
abbrev IsKept : Command → Type 0
IsKept c = SetsNoAddress c × CommandFits c

abbrev AsksKept : Exchange → Type 0
AsksKept x = MovesNone x × CommandFits (exchange_command x)

-- what is outstanding asks such a one
abbrev Asks : State → Type 0
Asks (Waiting until k o) = AsksKept o.exchange
Asks (Pausing until o) = AsksKept o.exchange
Asks _ = Unit {0}

-- the frame of such an exchange
abbrev Carries : Packet → Type 0
Carries p = (x : Exchange) × MovesNone x × (command_in p ≡ Ok (exchange_command x))

-- .. and the controller is at this address
abbrev Stays : ℕ → Session → Type 0
Stays address s = Asks s.state × (s.config.address ≡ address)

module _ (reads : ReadsWhatIsAsked) (address : ℕ) where
  record TickedWell (t : Ticked) : Type 0 where
    pub session : Stays address t.session
    pub waiting : Each IsKept t.waiting
    pub frame : IfSome t.step.frame Carries

  resting : (s : Session) (waiting : List Command) → Stays address s → Each IsKept waiting → TickedWell (stays s waiting)
  resting s waiting is all = record { session = is; waiting = all; frame = tt }

  sending : (k : ℕ) (o : Outstanding) (s : Session) (waiting : List Command) → AsksKept o.exchange → s.config.address ≡ address → Each IsKept waiting
      → TickedWell (sends_frame k o s waiting)
  sending k o s waiting asks is all = record { session = (asks, is); waiting = all; frame = (o.exchange, asks.0, reads o.exchange s asks.1) }

  giving_up : (o : Outstanding) (s : Session) (waiting : List Command) → s.config.address ≡ address → Each IsKept waiting → TickedWell (gives_up o s waiting)
  giving_up o s waiting is all = record { session = (tt, is); waiting = all; frame = tt }

  tick_well : (state : State) (s : Session) (waiting : List Command) → Asks state → Stays address s → Each IsKept waiting → TickedWell (ticks_in state s waiting)
  tick_well Closed s waiting asks is all = resting s waiting is all
  tick_well (Quiet until) s waiting asks is all =
      both TickedWell (leb until s.greatest) (begins Opening 0 s waiting) (stays s waiting)
      (sending 1 (record { exchange = Opening; busies = 0; sent = 0 }) (record s { number = 0; asked = false }) waiting (tt, omega arith) is.1 all) (resting s waiting is all)
  tick_well (Idle due) s waiting asks is all =
      idle_way TickedWell due s waiting
      (λ e. sending 1 (record { exchange = Polling; busies = 0; sent = 0 }) (record s { number = next_sequence s.number; asked = false }) waiting (tt, tt) is.1 all)
      (λ e. resting s waiting is all)
      (λ c rest e.
      let kept = subst (Each IsKept) e all in
      sending 1 (record { exchange = Asking c; busies = 0; sent = 0 }) (record s { number = next_sequence s.number; asked = true }) rest (kept.0.0, kept.0.1) is.1 kept.1)
  tick_well (Waiting until k o) s waiting asks is all =
      both TickedWell (leb until s.greatest) (tries_again k o s waiting) (stays s waiting)
      (both TickedWell (ltb k s.config.sends) (sends_frame (k + 1) o s waiting) (gives_up o s waiting)
      (sending (k + 1) o s waiting asks is.1 all) (giving_up o s waiting is.1 all)) (resting s waiting is all)
  tick_well (Pausing until o) s waiting asks is all =
      both TickedWell (leb until s.greatest) (sends_frame 1 o s waiting) (stays s waiting) (sending 1 o s waiting asks is.1 all) (resting s waiting is all)

  abbrev HeardWell : Heard → Type 0
  HeardWell h = Stays address h.session

  command_well : (to : Option Communication) (c : Command) (a : Reply) (s : Session) → to ≡ None → Stays address s → HeardWell (command_answered to c a s)
  command_well None c a s none is = (tt, is.1)
  command_well (Some d) c a s none is = absurd cc

  opened_well : (id : Option PdId) (s : Session) → Stays address s → HeardWell (opening_answered id s)
  opened_well None s is = is
  opened_well (Some id) s is = (tt, is.1)

  answered_well : (x : Exchange) (a : Reply) (s : Session) → MovesNone x → Stays address s → HeardWell (answered x a s)
  answered_well Opening a s none is = opened_well (pd_id_of a) s is
  answered_well Polling a s none is = (tt, is.1)
  answered_well (Asking c) a s none is =
      command_well (moved_by (comset_of c) (com_of a)) c a s (stays_put c a none) is

  unread_well : (x : Exchange) (code : ℕ) (s : Session) → Stays address s → HeardWell (answered_unread x code s)
  unread_well Opening code s is = is
  unread_well Polling code s is = (tt, is.1)
  unread_well (Asking c) code s is = (tt, is.1)

  busy_well : (o : Outstanding) (s : Session) → AsksKept o.exchange → Stays address s → HeardWell (hears_busy o s)
  busy_well o s asks is =
      both HeardWell (ltb s.config.busy_limit (o.busies + 1)) (loses TooBusy o s)
      (record { session = record s { state = Pausing (later s.config.busy_wait s) (record o { busies = o.busies + 1 }) }; report = None }) (tt, is.1) (asks, is.1)

  waiting_well : (a : ReplyMeaning) (k : ℕ) (o : Outstanding) (s : Session) → AsksKept o.exchange → Stays address s → HeardWell (waiting_hears a k o s)
  waiting_well NotTaken k o s asks is = busy_well o s asks is
  waiting_well Damaged k o s asks is = (asks, is.1)
  waiting_well NumberRefused k o s asks is = (tt, is.1)
  waiting_well (Plain a) k o s asks is = answered_well o.exchange a s asks.0 is
  waiting_well (Unreadable code) k o s asks is = unread_well o.exchange code s is

  pausing_well : (a : ReplyMeaning) (o : Outstanding) (s : Session) → AsksKept o.exchange → Stays address s → HeardWell (pausing_hears a o s)
  pausing_well NotTaken o s asks is = is
  pausing_well Damaged o s asks is = is
  pausing_well NumberRefused o s asks is = (tt, is.1)
  pausing_well (Plain a) o s asks is = answered_well o.exchange a s asks.0 is
  pausing_well (Unreadable code) o s asks is = unread_well o.exchange code s is

  heard_well : (state : State) (number : ℕ) (a : ReplyMeaning) (s : Session) → Asks state → Stays address s → HeardWell (hears_in state number a s)
  heard_well (Waiting until k o) number a s asks is = both HeardWell (is_numbered number a s) (waiting_hears a k o s) (ignores s) (waiting_well a k o s asks is) is
  heard_well (Pausing until o) number a s asks is = both HeardWell (is_numbered number a s) (pausing_hears a o s) (ignores s) (pausing_well a o s asks is) is
  heard_well _ number a s asks is = is

  hears_well : (p : Packet) (now : ℕ) (s : Session) → Stays address s → HeardWell (hears p now s)
  hears_well p now s is =
      both HeardWell (is_from_reader p s) (hears_in s.state p.sequence (said_by p) (seen now s)) (ignores (seen now s))
      (heard_well s.state p.sequence (said_by p) (seen now s) is.0 is) is

module _ {H : Type 0} (answer_of : H → Command → Answer) (after : H → Command → H) where
  -- ---- the reader

  module _ (address : ℕ) where
    abbrev StaysThere : Outcome H → Type 0
    StaysThere o = o.reader.config.address ≡ address

    not_moved : (to : Option ℕ) (r : ReaderState H) → to ≡ None → r.config.address ≡ address → (moved to r).config.address ≡ address
    not_moved None r none is = is
    not_moved (Some a) r none is = absurd cc

    begun_well : (c : Command) (r : ReaderState H) (p : Packet) → new_address c ≡ None → r.config.address ≡ address
        → StaysThere (begun answer_of after (Ok c) r p)
    begun_well c r p none is = not_moved (new_address c) _ none is

    taken_well : (c : Command) (r : ReaderState H) (p : Packet) → new_address c ≡ None → r.config.address ≡ address
        → StaysThere (taken answer_of after (Ok c) r p)
    taken_well c r p none is = not_moved (new_address c) _ none is

    outcome_well : (k : Kind) (r : ReaderState H) (p : Packet) → Carries p → r.config.address ≡ address → StaysThere (outcome answer_of after k r p)
    outcome_well kind.Zero r p (x, none, command) is =
        subst (λ c. StaysThere (begun answer_of after c r p)) (sym command) (begun_well (exchange_command x) r p (no_address x none) is)
    outcome_well kind.Taken r p (x, none, command) is =
        subst (λ c. StaysThere (taken answer_of after c r p)) (sym command) (taken_well (exchange_command x) r p (no_address x none) is)
    outcome_well _ r p carries is = is

  -- ---- a link

  record KeepsBoth (here there : ℕ) (l : Link H) : Type 0 where
    pub waiting : Each IsKept l.controller.waiting
    pub controller : Stays here l.controller.session
    pub line : Each Carries l.to_reader
    pub reader : l.reader.config.address ≡ there

  module _ (reads : ReadsWhatIsAsked) (here there : ℕ) where
    abbrev Keeps : Link H → Type 0
    Keeps l = KeepsBoth here there l

    submits_keeps : (refusal : Option ControllerFault) (c : Command) (l : Link H) → (refusal ≡ None → IsKept c) → Keeps l → Keeps (link.submits refusal c l)
    submits_keeps (Some fault) c l kept h = h
    submits_keeps None c l kept h = record {
      waiting = each_append IsKept l.controller.waiting (c ∷ []) h.waiting (kept refl, tt);
      controller = h.controller;
      line = h.line;
      reader = h.reader;
    }

    queues_keeps : (full : Bool) (e : Event) (l : Link H) → Keeps l → Keeps (link.queues full e l)
    queues_keeps true e l h = h
    queues_keeps false e l h = record { waiting = h.waiting; controller = h.controller; line = h.line; reader = h.reader }

    line_after : (ps : List Packet) (o : Option Packet) → Each Carries ps → IfSome o Carries → Each Carries (ps ++ option_to_list o)
    line_after ps None all more = subst (Each Carries) (sym (append-nil ps)) all
    line_after ps (Some p) all more = each_append Carries ps (p ∷ []) all (more, tt)

    ticked_keeps : (now : ℕ) (l : Link H) → Keeps l → Keeps (after_move answer_of after (Tick now) l)
    ticked_keeps now l h =
        let s = seen now l.controller.session in
        let t = ticks_in l.controller.session.state s l.controller.waiting in
        let well = tick_well reads here l.controller.session.state s l.controller.waiting h.controller.0 h.controller h.waiting in
        record {
          waiting = well.waiting;
          controller = well.session;
          line = line_after l.to_reader t.step.frame h.line well.frame;
          reader = h.reader;
        }

    gets_keeps : (p : Packet) (l : Link H) → Carries p → Keeps l → Keeps (link.reader_gets answer_of after p l)
    gets_keeps p l carries h = record {
      waiting = h.waiting;
      controller = h.controller;
      line = h.line;
      reader = outcome_well there (reader.kind_of l.reader p) l.reader p carries h.reader;
    }

    with_line : (l : Link H) (ps : List Packet) → Each Carries ps → Keeps l → Keeps (record l { to_reader = ps })
    with_line l ps all h = record { waiting = h.waiting; controller = h.controller; line = all; reader = h.reader }

    to_reader_keeps : (how : Delivery) (ps : List Packet) (l : Link H) → l.to_reader ≡ ps → Keeps l → Keeps (link.to_reader answer_of after ps how l)
    to_reader_keeps how [] l is h = h
    to_reader_keeps Delivered (p ∷ ps) l is h =
        let all = subst (Each Carries) is h.line in gets_keeps p (record l { to_reader = ps }) all.0 (with_line l ps all.1 h)
    to_reader_keeps Lost (p ∷ ps) l is h = let all = subst (Each Carries) is h.line in with_line l ps all.1 h
    to_reader_keeps Repeated (p ∷ ps) l is h = let all = subst (Each Carries) is h.line in gets_keeps p l all.0 h

    hears_keeps : (p : Packet) (now : ℕ) (l : Link H) → Keeps l → Keeps (link.controller_gets p now l)
    hears_keeps p now l h = record {
      waiting = h.waiting;
      controller = hears_well reads here p now l.controller.session h.controller;
      line = h.line;
      reader = h.reader;
    }

    to_controller_keeps : (how : Delivery) (now : ℕ) (qs : List Packet) (l : Link H) → Keeps l → Keeps (link.to_controller qs how now l)
    to_controller_keeps how now [] l h = h
    to_controller_keeps Delivered now (q ∷ qs) l h =
        hears_keeps q now (record l { to_controller = qs }) (record { waiting = h.waiting; controller = h.controller; line = h.line; reader = h.reader })
    to_controller_keeps Lost now (q ∷ qs) l h = record { waiting = h.waiting; controller = h.controller; line = h.line; reader = h.reader }
    to_controller_keeps Repeated now (q ∷ qs) l h = hears_keeps q now l h

    begins_keeps : (refusal : Option ControllerFault) (ps qs : List Packet) (now : ℕ) (l : Link H) → Keeps l → Keeps (link.reopens refusal ps qs now l)
    begins_keeps (Some fault) ps qs now l h = h
    begins_keeps None (p ∷ ps) qs now l h = h
    begins_keeps None [] (q ∷ qs) now l h = h
    begins_keeps None [] [] now l h = record { waiting = h.waiting; controller = (tt, h.controller.1); line = h.line; reader = h.reader }

    -- a command that is accepted is among those submitted
    accepted_kept : (refusal : Option ControllerFault) (c : Command) → CommandFits c → Each SetsNoAddress (sessions.accepted refusal c) → refusal ≡ None → IsKept c
    accepted_kept None c fits none e = (none.0, fits)
    accepted_kept (Some fault) c fits none e = absurd cc

    -- a command that is withdrawn leaves the others
    kept_well : (state : State) (ws : List Command) → Each IsKept ws → Each IsKept (controllers.kept_in state ws)
    kept_well state ws all =
        each_rest IsKept (option_to_list (controllers.withdrawn_in state ws)) (controllers.kept_in state ws) (subst (Each IsKept) (sym (withdrawn_first state ws)) all)

    retargets_keep : (refusal : Option ControllerFault) (address : ℕ) (l : Link H) → address ≡ here → Keeps l → Keeps (link.retargets refusal address l)
    retargets_keep (Some fault) address l same h = h
    retargets_keep None address l same h = record { waiting = h.waiting; controller = (h.controller.0, same); line = h.line; reader = h.reader }

    move_keeps : (move : Move H) (l : Link H) → MoveFits answer_of after move l → Each SetsNoAddress (submitted move l) → SetsNoOther there here move → Keeps l
        → Keeps (after_move answer_of after move l)
    move_keeps (Submit c) l fits none same h =
        let refusal = controllers.submit_refusal c l.controller in submits_keeps refusal c l (accepted_kept refusal c fits none) h
    move_keeps (QueueEvent e) l fits none same h = queues_keeps (lacks_room e l.reader.queue) e l h
    move_keeps (Tick now) l fits none same h = ticked_keeps now l h
    move_keeps (ToReader how) l fits none same h = to_reader_keeps how l.to_reader l refl h
    move_keeps (ToController how now) l fits none same h = to_controller_keeps how now l.to_controller l h
    move_keeps (Reopen now) l fits none same h = begins_keeps (controllers.begin_refusal l.controller) l.to_reader l.to_controller now l h
    move_keeps (LoseToReader place) l fits none same h =
        with_line l (lost_at place l.to_reader) (each_lost Carries place l.to_reader h.line) h
    move_keeps Withdraw l fits none same h = record {
      waiting = kept_well l.controller.session.state l.controller.waiting h.waiting;
      controller = h.controller;
      line = h.line;
      reader = h.reader;
    }
    move_keeps (Retarget address) l fits none same h = retargets_keep (controllers.retarget_refusal address l.controller) address l same h
    move_keeps (RestartReader config handler room) l fits none same h =
        record { waiting = h.waiting; controller = h.controller; line = h.line; reader = same }
    move_keeps (RestartController config room) l fits none same h = record { waiting = tt; controller = (tt, same); line = h.line; reader = h.reader }
    move_keeps _ l fits none same h = record { waiting = h.waiting; controller = h.controller; line = h.line; reader = h.reader }

    run_keeps : (moves : List (Move H)) (l : Link H) → MovesFit answer_of after moves l → Each SetsNoAddress (all_submitted answer_of after moves l)
        → Each (SetsNoOther there here) moves → Keeps l
        → Keeps (run answer_of after moves l)
    run_keeps [] l fits none same h = h
    run_keeps (move ∷ moves) l fits none same h =
        let next = after_move answer_of after move l in
        run_keeps moves next fits.1 (each_rest SetsNoAddress (submitted move l) (all_submitted answer_of after moves next) none) same.1
        (move_keeps move l fits.0 (each_front SetsNoAddress (submitted move l) (all_submitted answer_of after moves next) none) same.0 h)

  waiting_kept : (cs : List Command) → Each MaySubmit cs → Each SetsNoAddress cs → Each IsKept cs
  waiting_kept [] may none = tt
  waiting_kept (c ∷ cs) may none = ((none.0, may.0.fits), waiting_kept cs may.1 none.1)

  quiet_asks : (state : State) (until : ℕ) → state ≡ Quiet until → Asks state
  quiet_asks state until is = subst Asks (sym is) tt

  pub stay_there : ReadsWhatIsAsked → StayWhereTheyAre answer_of after
  stay_there reads l moves begun fits none same =
      let all = each_of SetsNoAddress (l.controller.waiting ++ all_submitted answer_of after moves l) none in
      let here = l.controller.session.config.address in
      let there = l.reader.config.address in
      let start : KeepsBoth here there l = record {
        waiting = waiting_kept l.controller.waiting (each_of MaySubmit l.controller.waiting begun.waiting)
            (each_front SetsNoAddress l.controller.waiting (all_submitted answer_of after moves l) all);
        controller = (quiet_asks l.controller.session.state begun.quiet.0 begun.quiet.1, refl);
        line = subst (Each Carries) (sym begun.to_reader) tt;
        reader = refl;
      } in
      let later = run_keeps reads here there moves l fits (each_rest SetsNoAddress l.controller.waiting (all_submitted answer_of after moves l) all)
      (each_of (SetsNoOther there here) moves same) start in
      (later.reader, later.controller.1)
