-- What a device acts on, move by move beside its handler: where it never changes, each command has its answer.
use Rattle.osdp_link_ledger.proofs.Common.{◌≡◌, ◌⊎◌, ℕ, Bool, true, false, eqb, List, [], ◌∷◌, ◌++◌, map, Option, Some, None, Result, Ok, Err, refl, sym, subst, ap, ◌∙◌, inl, inr, Packet, Command, Id, Poll, Event, MsgFault, Reply, ControllerFault, event_for, lacks_room, offering, released, unoffered, reply_packet, ReaderState, answer_to, answered, begun, command_in, event_or_answer, kind_of, moved, new_address, outcome, taken, Answer, Kind, new_history, runs, Delivered, Delivery, Link, Lost, Move, QueueEvent, Reopen, Repeated, RestartReader, Retarget, SetHandler, Submit, ToController, ToReader, after_move, both, steps_from, asked}
use Rattle.osdp_controller.specs.Machine as controllers
use Rattle.osdp_reader.specs.declared.config.ReaderConfig.{ReaderConfig}
use Rattle.osdp_reader.specs.declared.kind.Kind.TheVariants as kind
use Rattle.osdp_reader_laws.proofs.Sequences.{same_own}
use Rattle.osdp_link_laws.specs.Link as link
use Rattle.osdp_link_laws.specs.OneHandler.{IsSameModel, KeepHandler, KeepsHandler, with_answers}
use Rattle.osdp_link_ledger.specs.Answers.{ActsHaveAnswersOfOneHandler}
use Rattle.osdp_link_ledger.proofs.Tallies.{Tally, all_given, come_to, commands_acted, given_as, given_by_front, given_in}

module _ {H : Type 0} (answer_of : H → Command → Answer) (after : H → Command → H) where
  -- ---- a move

  -- nothing is acted on and the handler stays, or one command is with its answer, and the handler is the one after it; the device stays the same model
  abbrev ActsBy : ReaderState H → ReaderState H → List (Command × Reply) → Type 0
  ActsBy r s ds =
      IsSameModel s.config r.config
      × (((ds ≡ []) × (s.handler ≡ r.handler))
      ⊎ ((c : Command) × (let a = answer_to answer_of after r.config r.handler c in (ds ≡ (c, a.reply) ∷ []) × (s.handler ≡ a.handler))))

  by_none : (r s : ReaderState H) → s ≡ r → ActsBy r s []
  by_none r s same = ((ap (λ t. t.config.id) same, ap (λ t. t.config.caps) same), inl (refl, ap (λ t. t.handler) same))

  -- a COMSET that moves the device leaves it the model and the handler
  moved_model : (to : Option ℕ) (r : ReaderState H) → IsSameModel (moved to r).config r.config
  moved_model None r = (refl, refl)
  moved_model (Some address) r =
      both (λ s. IsSameModel s.config r.config) (eqb address r.config.address) r (record r { config = record r.config { address = address }; last = None; stored = None })
      (refl, refl) (refl, refl)

  moved_handler : (to : Option ℕ) (r : ReaderState H) → (moved to r).handler ≡ r.handler
  moved_handler None r = refl
  moved_handler (Some address) r =
      both (λ s. s.handler ≡ r.handler) (eqb address r.config.address) r (record r { config = record r.config { address = address }; last = None; stored = None }) refl refl

  -- a POLL is no command that is acted on
  polled_handler : (events : List Event) (config : ReaderConfig) (handler : H) → (event_or_answer answer_of after (event_for Poll events) config handler Poll).handler ≡ handler
  polled_handler [] config handler = refl
  polled_handler (e ∷ events) config handler = refl

  module _ (p : Packet) (r : ReaderState H) where
    abbrev begins : H → ReaderState H
    begins handler = record r { last = Some 0; queue = unoffered r.queue; handler = handler }

    begun_acts : (read : Result Command MsgFault) → let o = begun answer_of after read r p in ActsBy r o.reader (given_as kind.Zero o.command o.said)
    begun_acts (Err fault) = ((refl, refl), inl (refl, refl))
    begun_acts (Ok (Id kept)) = ((refl, refl), inl (refl, refl))
    begun_acts (Ok c) =
        let a = answer_to answer_of after r.config r.handler c in
        (moved_model (new_address c) (begins a.handler), inr (c, (refl, moved_handler (new_address c) (begins a.handler))))

    taken_acts : (read : Result Command MsgFault) → let o = taken answer_of after read r p in ActsBy r o.reader (given_as kind.Taken o.command o.said)
    taken_acts (Err fault) = ((refl, refl), inl (refl, refl))
    taken_acts (Ok Poll) = ((refl, refl), inl (refl, polled_handler (released r.queue).events r.config r.handler))
    taken_acts (Ok c) =
        let a = answer_to answer_of after r.config r.handler c in
        let s = record r { last = Some p.sequence; stored = Some (reply_packet p p.sequence a.reply); queue = offering None (released r.queue); handler = a.handler } in
        (moved_model (new_address c) s, inr (c, (refl, moved_handler (new_address c) s)))

    kind_acts : (k : Kind) → let o = outcome answer_of after k r p in ActsBy r o.reader (given_as k o.command o.said)
    kind_acts kind.Zero = begun_acts (command_in p)
    kind_acts kind.Taken = taken_acts (command_in p)
    kind_acts _ = ((refl, refl), inl (refl, refl))

  abbrev Acts : Link H → Link H → List (Command × Reply) → Type 0
  Acts l m ds = ActsBy l.reader m.reader ds

  submits_acts : (refusal : Option ControllerFault) (c : Command) (l : Link H) → Acts l (link.submits refusal c l) []
  submits_acts None c l = ((refl, refl), inl (refl, refl))
  submits_acts (Some fault) c l = ((refl, refl), inl (refl, refl))

  queues_acts : (full : Bool) (e : Event) (l : Link H) → Acts l (link.queues full e l) []
  queues_acts true e l = ((refl, refl), inl (refl, refl))
  queues_acts false e l = ((refl, refl), inl (refl, refl))

  to_reader_acts : (how : Delivery) (ps : List Packet) (l : Link H)
      → Acts l (link.to_reader answer_of after ps how l) (given_by_front answer_of after how ps l.reader)
  to_reader_acts Delivered [] l = ((refl, refl), inl (refl, refl))
  to_reader_acts Lost [] l = ((refl, refl), inl (refl, refl))
  to_reader_acts Repeated [] l = ((refl, refl), inl (refl, refl))
  to_reader_acts Delivered (p ∷ ps) l = kind_acts p l.reader (kind_of l.reader p)
  to_reader_acts Lost (p ∷ ps) l = ((refl, refl), inl (refl, refl))
  to_reader_acts Repeated (p ∷ ps) l = kind_acts p l.reader (kind_of l.reader p)

  to_controller_reader : (how : Delivery) (now : ℕ) (qs : List Packet) (l : Link H) → (link.to_controller qs how now l).reader ≡ l.reader
  to_controller_reader how now [] l = refl
  to_controller_reader Delivered now (q ∷ qs) l = refl
  to_controller_reader Lost now (q ∷ qs) l = refl
  to_controller_reader Repeated now (q ∷ qs) l = refl

  reopens_reader : (refusal : Option ControllerFault) (ps qs : List Packet) (now : ℕ) (l : Link H) → (link.reopens refusal ps qs now l).reader ≡ l.reader
  reopens_reader (Some fault) ps qs now l = refl
  reopens_reader None (p ∷ ps) qs now l = refl
  reopens_reader None [] (q ∷ qs) now l = refl
  reopens_reader None [] [] now l = refl

  retargets_reader : (refusal : Option ControllerFault) (address : ℕ) (l : Link H) → (link.retargets refusal address l).reader ≡ l.reader
  retargets_reader (Some fault) address l = refl
  retargets_reader None address l = refl

  move_acts : (move : Move H) (l : Link H) → KeepsHandler move l → Acts l (after_move answer_of after move l) (given_in answer_of after move l)
  move_acts (Submit c) l keeps = submits_acts (controllers.submit_refusal c l.controller) c l
  move_acts (QueueEvent e) l keeps = queues_acts (lacks_room e l.reader.queue) e l
  move_acts (ToReader how) l keeps = to_reader_acts how l.to_reader l
  move_acts (ToController how now) l keeps = by_none l.reader (link.to_controller l.to_controller how now l).reader (to_controller_reader how now l.to_controller l)
  move_acts (Reopen now) l keeps =
      by_none l.reader (after_move answer_of after (Reopen now) l).reader (reopens_reader (controllers.begin_refusal l.controller) l.to_reader l.to_controller now l)
  move_acts (SetHandler handler) l keeps = ((refl, refl), inl (refl, keeps))
  move_acts (Retarget address) l keeps =
      by_none l.reader (after_move answer_of after (Retarget address) l).reader (retargets_reader (controllers.retarget_refusal address l.controller) address l)
  move_acts (RestartReader config handler room) l keeps = (keeps.1, inl (refl, keeps.0))
  move_acts _ l keeps = ((refl, refl), inl (refl, refl))

  -- ---- from the beginning

  -- these have the answers of this device, one after the other
  abbrev AreAnswers : ReaderConfig → H → List (Command × Reply) → Type 0
  AreAnswers config handler ds = ds ≡ with_answers answer_of after config handler (map asked ds)

  -- a move acts on these, and those after it have their answers
  then_answers : (config : ReaderConfig) (r s : ReaderState H) (acted ds : List (Command × Reply)) → IsSameModel r.config config → ActsBy r s acted
      → AreAnswers config s.handler ds → AreAnswers config r.handler (acted ++ ds)
  then_answers config r s acted ds model (stays, inl (none, same)) are =
      subst (λ xs. AreAnswers config r.handler (xs ++ ds)) (sym none) (subst (λ h. AreAnswers config h ds) same are)
  then_answers config r s acted ds model (stays, inr (c, (is, later))) are =
      let same = ap (λ o. answered answer_of after o r.handler c) (same_own r.config config c model.0 model.1) in
      let rest = subst (λ h. AreAnswers config h ds) (later ∙ ap (λ a. a.handler) same) are in
      subst (λ xs. AreAnswers config r.handler (xs ++ ds)) (sym is) (λ i. (c, (same i).reply) ∷ rest i)

  moves_answer : (moves : List (Move H)) (l : Link H) (config : ReaderConfig) → IsSameModel l.reader.config config → KeepHandler answer_of after moves l
      → AreAnswers config l.reader.handler (all_given answer_of after moves l)
  moves_answer [] l config model keep = refl
  moves_answer (move ∷ moves) l config model keep =
      let next = after_move answer_of after move l in
      let acts = move_acts move l keep.0 in
      then_answers config l.reader next.reader (given_in answer_of after move l) (all_given answer_of after moves next) model acts
      (moves_answer moves next config (acts.0.0 ∙ model.0, acts.0.1 ∙ model.1) keep.1)

  pub acts_have_answers : ActsHaveAnswersOfOneHandler answer_of after
  acts_have_answers l moves keep =
      let config = l.reader.config in
      let handler = l.reader.handler in
      let h = runs (steps_from answer_of after moves l) new_history in
      let is = ap (λ (y : Tally). y.acted) (come_to answer_of after moves l) in
      is ∙ moves_answer moves l config (refl, refl) keep
      ∙ ap (with_answers answer_of after config handler) (ap (map asked) (sym is) ∙ commands_acted h)
