-- The answer that is on its way is one that the device gave to its command.
use Rattle.osdp_link_laws.proofs.Common.{◌≡◌, ℕ, List, [], ◌∷◌, ◌++◌, Option, Some, None, Ok, sym, subst, ap, ◌∙◌, Packet, Command, Reply, exchange_command, ticks, Opening, Polling, Asking, Exchange, ControllerFault, Report, released, ReaderState, answer_to, command_in, event_or_answer, kind_of, taken, ReaderConfig, Answer, Kind, Delivered, Delivery, Link, Lost, Move, Reopen, Repeated, RestartReader, Tick, ToController, ToReader, told_by_front}
use Rattle.osdp_controller.specs.Machine as controllers
use Rattle.osdp_reader.specs.declared.kind.Kind.TheVariants as kind
use Rattle.osdp_link_laws.proofs.Acting.{no_event}
use Rattle.osdp_link_laws.proofs.Coming.{Due, HearsTo, MovesTo, Reads, ReadsFront, ReadsTo, ReopensTo, Stays, settled_in}
use Rattle.osdp_link_laws.proofs.Lines.{each_front, each_rest}
use Rattle.osdp_link_laws.proofs.Stages.{After, Behind, Each, IsAsked, IsStage, Restarted, Stage, Start, owed, owed_at}
use Rattle.osdp_link_laws.proofs.Telling.{hears_tell, ticks_alike}

module _ {H : Type 0} (answer_of : H → Command → Answer) (after : H → Command → H) where
  abbrev pub IsAnswerOf : Command × Reply → Type 0
  IsAnswerOf p = (config : ReaderConfig) × (handler : H) × (p.1 ≡ (answer_to answer_of after config handler p.0).reply)

  abbrev pub AreAnswers : Stage → Type 0
  AreAnswers at = Each IsAnswerOf (owed_at at)

  stays : (since : Restarted) (at : Stage) (new : Restarted) (to : Stage) → Stays since at new to → AreAnswers at → AreAnswers to
  stays since at new to (same, is) are = subst AreAnswers (sym is) are

  -- a command is taken, and answered
  answers : (x : Exchange) (n : ℕ) (y : Exchange) (b a : Reply) (p : Packet) (r : ReaderState H) → IsAsked (After n y b) x
      → (taken answer_of after (Ok (exchange_command x)) r p).said ≡ Some a → Each IsAnswerOf (owed x a)
  answers Opening n y b a p r asked says = absurd asked
  answers Polling n y b a p r asked says = tt
  answers (Asking c) n y b a p r asked says =
      let none = no_event c (released r.queue).events asked.no_poll in
      let said : Some (answer_to answer_of after r.config r.handler c).reply ≡ Some a =
      sym (ap (λ told. Some (event_or_answer answer_of after told r.config r.handler c).reply) none) ∙ says in
      ((r.config, r.handler, sym (ap (said_or a) said)), tt)
    where
      said_or : Reply → Option Reply → Reply
      said_or other None = other
      said_or other (Some said) = said

  takes : (since : Restarted) (at : Stage) (new : Restarted) (to : Stage) (p : Packet) (r : ReaderState H) → IsStage at
      → ReadsTo kind.Taken (command_in p) (taken answer_of after (command_in p) r p).said since at new to → AreAnswers to
  takes since (Behind (After n y b) x) new to p r stage (hears, same, reads, (a, says, is)) =
      subst AreAnswers (sym is)
      (answers x n y b a p r stage.1 (subst (λ c. (taken answer_of after c r p).said ≡ Some a) reads says))
  takes since (Behind Start x) new to p r stage comes = absurd comes
  takes since _ new to p r stage comes = absurd comes

  reads : (k : Kind) (since : Restarted) (at : Stage) (new : Restarted) (to : Stage) (p : Packet) (r : ReaderState H) → IsStage at
      → Reads answer_of after k p r since at new to → AreAnswers at → AreAnswers to
  reads kind.Taken since at new to p r stage comes are = takes since at new to p r stage comes
  reads kind.Zero since at new to p r stage comes are = subst (λ (d : Due). Each IsAnswerOf d.owing) (sym comes.1.due) are
  reads _ since at new to p r stage comes are = stays since at new to comes are

  to_reader : (ps : List Packet) (how : Delivery) (since : Restarted) (at : Stage) (new : Restarted) (to : Stage) (r : ReaderState H) → IsStage at
      → ReadsFront answer_of after ps how r since at new to → AreAnswers at → AreAnswers to
  to_reader [] how since at new to r stage comes are = stays since at new to comes are
  to_reader (p ∷ ps) Delivered since at new to r stage comes are = reads (kind_of r p) since at new to p r stage comes are
  to_reader (p ∷ ps) Lost since at new to r stage comes are = stays since at new to comes are
  to_reader (p ∷ ps) Repeated since at new to r stage comes are = reads (kind_of r p) since at new to p r stage comes are

  -- what is told was on its way
  heard : (r : Option Report) (since : Restarted) (at to : Stage) → HearsTo r at to → AreAnswers at → Each IsAnswerOf (settled_in r ++ owed_at to)
  heard r since at to comes are = subst (Each IsAnswerOf) (hears_tell since at to r comes).owing are

  pub told_given : (r : Option Report) (since : Restarted) (at to : Stage) → HearsTo r at to → AreAnswers at → Each IsAnswerOf (settled_in r)
  told_given r since at to comes are = each_front IsAnswerOf (settled_in r) (owed_at to) (heard r since at to comes are)

  to_controller : (r : Option Report) (since : Restarted) (at to : Stage) → HearsTo r at to → AreAnswers at → AreAnswers to
  to_controller r since at to comes are = each_rest IsAnswerOf (settled_in r) (owed_at to) (heard r since at to comes are)

  ticked : (now : ℕ) (l : Link H) (since : Restarted) (at : Stage) (new : Restarted) (to : Stage) → MovesTo answer_of after (Tick now) l since at new to
      → AreAnswers at → AreAnswers to
  ticked now l since at new to comes are =
      subst (Each IsAnswerOf) (sym (ticks_alike since at to (ticks now l.controller.session l.controller.waiting) comes.1).owing) are

  reopens : (refusal : Option ControllerFault) (ps qs : List Packet) (since : Restarted) (at : Stage) (new : Restarted) (to : Stage)
      → ReopensTo answer_of after refusal ps qs since at new to → AreAnswers at → AreAnswers to
  reopens None [] [] since at new to is are = subst AreAnswers (sym is) tt
  reopens None [] (q ∷ qs) since at new to comes are = stays since at new to comes are
  reopens None (p ∷ ps) qs since at new to comes are = stays since at new to comes are
  reopens (Some fault) ps qs since at new to comes are = stays since at new to comes are

  pub move_given : (move : Move H) (l : Link H) (since : Restarted) (at : Stage) (new : Restarted) (to : Stage) → IsStage at
      → MovesTo answer_of after move l since at new to → AreAnswers at → AreAnswers to
  move_given (Tick now) l since at new to stage comes are = ticked now l since at new to comes are
  move_given (ToReader how) l since at new to stage comes are = to_reader l.to_reader how since at new to l.reader stage comes are
  move_given (ToController how now) l since at new to stage comes are =
      to_controller (told_by_front how l.to_controller now l.controller.session) since at to comes.1 are
  move_given (Reopen now) l since at new to stage comes are =
      reopens (controllers.begin_refusal l.controller) l.to_reader l.to_controller since at new to comes are
  move_given (RestartReader config handler room) l since at new to stage comes are = subst AreAnswers (sym comes.1) are
  move_given _ l since at new to stage comes are = stays since at new to comes are
