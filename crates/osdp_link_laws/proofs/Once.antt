-- Within one session: each move keeps what holds.
use Rattle.osdp_link_laws.proofs.Common.{◌≡◌, ℕ, List, [], ◌∷◌, ◌++◌, Option, Some, None, refl, sym, subst, option_to_list, Command, new_session, ControllerConfig, ControllerFault, Session, State, Closed, lacks_room, Answer, MoveFits, MaySubmit, Link, LoseToController, LoseToReader, Move, QueueEvent, Reopen, RestartController, RestartReader, Retarget, SetBusy, SetHandler, Submit, Tick, ToController, ToReader, Withdraw, WithdrawEvent, after_move, LapseEvent}
use Rattle.osdp_controller.specs.Machine as controllers
use Rattle.osdp_link_laws.specs.Link as link
use Rattle.osdp_link_laws.proofs.Coming.{MovesTo}
use Rattle.osdp_link_laws.proofs.Deliveries.{coming_to_controller, coming_to_reader, missing_to_controller, missing_to_reader}
use Rattle.osdp_link_laws.proofs.Lines.{each_rest}
use Rattle.osdp_link_laws.proofs.OnItsWay.{withdrawn_first}
use Rattle.osdp_link_laws.proofs.Moves.{Premises, being_otherwise, not_poll, queueing, submitting, ticking, withdrawing, lapsing}
use Rattle.osdp_link_laws.proofs.Parts.{At, HoldsAtSomeStage, HoldsThen, with_session}
use Rattle.osdp_link_laws.proofs.Restarts.{restarting_reader}
use Rattle.osdp_link_laws.proofs.Stages.{Asks, Behind, ControllerAt, Each, Fresh, Level, Never, Now, Rest, Restarted, Rests, Stage, Waits, number_after}

-- a move that begins no session again
abbrev pub GoesOn : {H : Type 0} → Move H → Type 0
GoesOn (Reopen now) = ⊥
GoesOn _ = Unit {0}

-- nothing was sent yet, and the reader hasn't restarted
abbrev pub IsFirst : Restarted → Stage → Type 0
IsFirst since at = (since ≡ Never) × (at ≡ Fresh)

target_closed : (state : State) (address : ℕ) → controllers.or_no_device (controllers.refused_unless_closed state) address ≡ None → state ≡ Closed
target_closed Closed address may = refl
target_closed _ address may = absurd cc

module _ (fixed : ControllerConfig) where
  -- a controller that is closed may be at any stage
  closed_at : (at : Stage) (s : Session) → s.state ≡ Closed → ControllerAt fixed at s
  closed_at Fresh s closed = subst (λ state. Waits fixed state s) (sym closed) tt
  closed_at (Behind past x) s closed = subst (λ state. Asks fixed state (number_after past) x s) (sym closed) tt
  closed_at (Level past x a) s closed = subst (λ state. Asks fixed state (number_after past) x s) (sym closed) tt
  closed_at (Rest n x a) s closed = subst (λ state. Rests fixed state n s) (sym closed) tt

module _ (fixed : ControllerConfig) {H : Type 0} (answer_of : H → Command → Answer) (after : H → Command → H) where
  abbrev HoldsAt : Link H → Type 0
  HoldsAt l = HoldsAtSomeStage fixed answer_of after l

  -- ---- each move

  retargeting : (refusal : Option ControllerFault) (address : ℕ) (l : Link H) → controllers.retarget_refusal address l.controller ≡ refusal → (since : Restarted) (at : Stage)
      → At fixed answer_of after since at l → At fixed answer_of after since at (link.retargets refusal address l)
  retargeting (Some fault) address l may since at h = h
  retargeting None address l may since at h =
      let s = (controllers.after_retarget address l.controller).session in
      with_session fixed answer_of after since at l s h (closed_at fixed at s (target_closed l.controller.session.state address may))

  pub holds_on : Premises fixed answer_of after → (move : Move H) (l : Link H) → GoesOn move → MoveFits answer_of after move l → (h : HoldsAt l)
      → HoldsThen fixed answer_of after (MovesTo answer_of after move l h.0 h.1) (after_move answer_of after move l)
  holds_on given (Submit c) l on fits (s, at, h) = (
    s,
    at,
    (refl, refl),
    submitting fixed answer_of after s (controllers.submit_refusal c l.controller) c at l
        (λ e. record { no_poll = not_poll c l.controller e; fits = fits }) h,
  )
  holds_on given (QueueEvent e) l on fits (s, at, h) =
      (s, at, (refl, refl), queueing fixed answer_of after s (lacks_room e l.reader.queue) e at l h)
  holds_on given WithdrawEvent l on fits (s, at, h) = (s, at, (refl, refl), withdrawing fixed answer_of after s at l h)
  holds_on given LapseEvent l on fits (s, at, h) = (s, at, (refl, refl), lapsing fixed answer_of after s at l h)
  holds_on given (SetBusy busy) l on fits (s, at, h) = (s, at, (refl, refl), being_otherwise fixed answer_of after s busy l.reader.handler at l h)
  holds_on given (Tick now) l on fits (s, at, h) =
      let t = ticking fixed answer_of after s at now l h in (s, t.0, (refl, t.1.0, t.1.1), t.2)
  holds_on given (ToReader how) l on fits (s, at, h) = coming_to_reader fixed answer_of after s given how l.to_reader l refl at h fits
  holds_on given (ToController how now) l on fits (s, at, h) =
      let c = coming_to_controller fixed answer_of after s given how now l.to_controller l refl at h in (s, c.0, (refl, c.1), c.2)
  holds_on given (LoseToReader place) l on fits (s, at, h) = (s, at, (refl, refl), missing_to_reader fixed answer_of after s place at l h)
  holds_on given (LoseToController place) l on fits (s, at, h) = (s, at, (refl, refl), missing_to_controller fixed answer_of after s place at l h)
  holds_on given (SetHandler handler) l on fits (s, at, h) = (s, at, (refl, refl), being_otherwise fixed answer_of after s l.reader.busy handler at l h)
  holds_on given (RestartReader config handler room) l on fits (s, at, h) =
      (Now, at, (refl, refl), restarting_reader fixed answer_of after config handler room s at l h)
  holds_on given Withdraw l on fits (s, at, h) =
      let state = l.controller.session.state in
      let ws = l.controller.waiting in (
        s,
        at,
        (refl, refl),
        record {
          stage = h.stage;
          controller = h.controller;
          waiting = each_rest MaySubmit (option_to_list (controllers.withdrawn_in state ws)) (controllers.kept_in state ws)
              (subst (Each MaySubmit) (sym (withdrawn_first state ws)) h.waiting);
          reader = h.reader;
          to_reader = h.to_reader;
          to_controller = h.to_controller;
        },
      )
  holds_on given (Retarget address) l on fits (s, at, h) =
      (s, at, (refl, refl), retargeting (controllers.retarget_refusal address l.controller) address l refl s at h)
  holds_on given (RestartController config room) l on fits (s, at, h) = (
    s,
    at,
    (refl, refl),
    record {
      stage = h.stage;
      controller = closed_at fixed at (new_session config) refl;
      waiting = tt;
      reader = h.reader;
      to_reader = h.to_reader;
      to_controller = h.to_controller;
    },
  )
  holds_on given (Reopen now) l on fits h = absurd on

  -- ---- a session

  pub record Goes (l : Link H) : Type 0 where
    pub holds : HoldsAt l

  abbrev GoesThen : (Restarted → Stage → Type 0) → Link H → Type 0
  GoesThen Comes l = (n : Goes l) × Comes n.holds.0 n.holds.1

  pub moving_so : Premises fixed answer_of after → (move : Move H) (l : Link H) → GoesOn move → MoveFits answer_of after move l → (h : Goes l)
      → GoesThen (MovesTo answer_of after move l h.holds.0 h.holds.1) (after_move answer_of after move l)
  moving_so given move l on fits h =
      let m = holds_on given move l on fits h.holds in (record { holds = (m.0, m.1, m.3) }, m.2)

  pub moving : Premises fixed answer_of after → (move : Move H) (l : Link H) → GoesOn move → MoveFits answer_of after move l → Goes l
      → Goes (after_move answer_of after move l)
  moving given move l on fits h = (moving_so given move l on fits h).0

  -- a session has begun and nothing was sent yet
  pub record IsNew (l : Link H) : Type 0 where
    pub controller : Waits fixed l.controller.session.state l.controller.session
    pub waiting : Each MaySubmit l.controller.waiting
    pub to_reader : l.to_reader ≡ []
    pub to_controller : l.to_controller ≡ []

  pub fresh_so : (l : Link H) → IsNew l → GoesThen IsFirst l
  fresh_so l new = (
    record {
      holds = (
        Never,
        Fresh,
        record { stage = tt; controller = new.controller; waiting = new.waiting; reader = tt; to_reader = new.to_reader; to_controller = new.to_controller },
      );
    },
    (refl, refl),
  )

  pub fresh : (l : Link H) → IsNew l → Goes l
  fresh l new = (fresh_so l new).0
