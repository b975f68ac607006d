-- A link that a first session has begun on, and moves have led to: it keeps to its names.
use Rattle.osdp_bus_links.proofs.Common.{◌≡◌, ◌<◌, ℕ, List, [], ◌∷◌, ◌++◌, Option, Some, None, IfSome, sym, subst, ap, ◌∙◌, inl, option_to_list, CommandFits, Command, Report, Answer, Begins, MaySubmit, MovesFit, IsToldAsAsked, NameOneDevice, NamesOne, TellAsAsked, ReadsWhatIsAnswered, ReadsWhatIsAsked, NoComset, reports, told_by, each_append, each_of, each_rest, Each, moves_more, run_more, outstanding_command}
use Rattle.osdp_link_laws.specs.Link.{Link, Move, after_move, run}
use Rattle.osdp_bus_links.proofs.ControllerNames.{ToldAsAsked}
use Rattle.osdp_bus_links.proofs.Names.{BeginsTogether, IsUsual, MayMoves, reserved_after, reserved_after_moves}
use Rattle.osdp_bus_links.proofs.Naming.{CommandNames, InOrder, Keeps, ReplyNames, SetsOnly, keeps_move}
use Rattle.osdp_bus_links.proofs.ReaderNames.{IsFrom, IsStill}
use Rattle.osdp_bus_links.proofs.Reserved.{One, one_of_none}

module _ {H : Type 0} (answer_of : H → Command → Answer) (after : H → Command → H) where
  told_last : (ms : List (Move H)) (m : Move H) (l : Link H) → Each IsToldAsAsked (reports answer_of after (ms ++ m ∷ []) l)
      → ToldAsAsked (told_by m (run answer_of after ms l))
  told_last [] m l told = of_option (told_by m l) told
    where
      of_option : (o : Option Report) → Each IsToldAsAsked (option_to_list o ++ []) → ToldAsAsked o
      of_option None told = tt
      of_option (Some r) told = told.0
  told_last (n ∷ ms) m l told =
      let next = after_move answer_of after n l in
      told_last ms m next (each_rest IsToldAsAsked (option_to_list (told_by n l)) (reports answer_of after (ms ++ m ∷ []) next) told)

  -- a link that a first session has begun on, and moves have led to
  pub record IsLed (first : Link H) (moves : List (Move H)) (l : Link H) : Type 0 where
    pub begins : Begins first
    pub fits : MovesFit answer_of after moves first
    pub usual : Each IsUsual moves
    pub leads : l ≡ run answer_of after moves first

  pub led_on : (first : Link H) (moves more : List (Move H)) (l : Link H) → IsLed first moves l → MovesFit answer_of after more l → Each IsUsual more
      → IsLed first (moves ++ more) (run answer_of after more l)
  led_on first moves more l led fits usual = record {
    begins = led.begins;
    fits = moves_more answer_of after moves more first led.fits (subst (MovesFit answer_of after more) led.leads fits);
    usual = each_append IsUsual moves more led.usual usual;
    leads = ap (run answer_of after more) led.leads ∙ sym (run_more answer_of after moves more first);
  }

  pub keeps_all : ReadsWhatIsAsked → ReadsWhatIsAnswered → NameOneDevice answer_of after → TellAsAsked answer_of after
      → (first : Link H) (done moves : List (Move H)) (r : Option ℕ) (l : Link H) → IsLed first done l → Each IsUsual moves
      → MovesFit answer_of after moves l → MayMoves answer_of after moves l r → Keeps r l
      → Keeps (reserved_after_moves answer_of after moves l r) (run answer_of after moves l)
  keeps_all asked answered names tells first done [] r l led usual fits may h = h
  keeps_all asked answered names tells first done (move ∷ moves) r l led usual fits may h =
      let named : (device : ℕ) × NamesOne device l.to_reader l.to_controller =
      subst (λ k. (device : ℕ) × NamesOne device k.to_reader k.to_controller) (sym led.leads) (names first done led.begins led.fits) in
      let next = led_on first done (move ∷ []) l led (fits.0, tt) (usual.0, tt) in
      let told = subst (λ k. ToldAsAsked (told_by move k)) (sym led.leads) (told_last done move first
      (each_of IsToldAsAsked (reports answer_of after (done ++ move ∷ []) first) (tells first (done ++ move ∷ []) led.begins next.fits))) in
      keeps_all asked answered names tells first (done ++ move ∷ []) moves (reserved_after move l r) (after_move answer_of after move l) next usual.1 fits.1 may.1
      (keeps_move answer_of after asked answered move r l named.0 named.1 usual.0 fits.0 told may.0 h)

  -- both ends begin together
  waiting_fit : (cs : List Command) → Each MaySubmit cs → Each CommandFits cs
  waiting_fit [] may = tt
  waiting_fit (c ∷ cs) may = (may.0.fits, waiting_fit cs may.1)

  pub starts : (l : Link H) → BeginsTogether l → Keeps None l
  starts l b =
      let cs = l.controller.waiting in
      let here = l.controller.session.config.address in
      record {
        one = subst (λ state. One None (option_to_list (outstanding_command state) ++ cs)) (sym b.begins.quiet.1) (one_of_none None cs (each_of NoComset cs b.waiting));
        fits = subst (λ state. Each CommandFits (option_to_list (outstanding_command state) ++ cs)) (sym b.begins.quiet.1) (waiting_fit cs (each_of MaySubmit cs b.begins.waiting));
        names = record {
          device = subst (λ a. a < 127) (sym b.together) b.begins.address;
          reader = inl b.together;
          commands = subst (Each (CommandNames here None)) (sym b.begins.to_reader) tt;
          away = λ other. subst (Each (SetsOnly l.reader.config.address)) (sym b.begins.to_reader) tt;
          order = subst (InOrder here) (sym b.begins.to_reader) tt;
          replies = subst (Each (ReplyNames here None l.reader.config.address)) (sym b.begins.to_controller) tt;
          stored = subst (λ o. IfSome o (λ q. IsFrom l.reader.config.address q × IsStill q)) (sym b.stored) tt;
        };
      }
