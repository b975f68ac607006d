-- What the ledger of a link says of the account of a run over it.
use Rattle.osdp_sim_laws.proofs.Common.{◌≡◌, ◌≤◌, ℕ, inl, inr, List, [], ◌∷◌, ◌++◌, length, refl, sym, subst, ap, ◌∙◌, arith, map, map-append, length-map, Command, Event, Reply, Answer, Begins, MovesFit, Link, Move, with_answers, all_queued, all_submitted, IsSteady, steady_ordinary, steady_handler, each_all, each_rest, Each, Account, SessionsEndOnce, HoldsInOneSession, KeepsLedger, told_of, TellsOfMoves}
use Rattle.osdp_ledger.specs.History.{End, History, new_history, runs}
use Rattle.osdp_ledger.specs.Ledger.{Card, Order}
use Rattle.osdp_ledger.specs.OneSession.{settled_in}
use Rattle.osdp_ledger.specs.Plain.{IsPlain}
use Rattle.osdp_link_laws.specs.Ahead.{ahead}
use Rattle.osdp_link_laws.specs.Link as link
use Rattle.osdp_link_ledger.specs.Steps.{steps_from}
use Rattle.osdp_link_ledger.specs.Telling.{TellsAll, without_place}
use Rattle.osdp_link_laws.proofs.Telling.{asked}
use Rattle.osdp_link_ledger.proofs.Plain.{link_plain}
use Rattle.osdp_link_ledger.proofs.Taking.{each_taken}
use Rattle.osdp_link_ledger.proofs.Tallies.{commands_acted}
use Rattle.osdp_sim_laws.proofs.Opening.{sessions_few}

-- ---- lists

map_both : {A B C : Type 0} (f : B → C) (g : A → B) (xs : List A) → map f (map g xs) ≡ map (λ x. f (g x)) xs
map_both f g [] = refl
map_both f g (x ∷ xs) = ap (λ l. f (g x) ∷ l) (map_both f g xs)

-- what is made of a list is made of its beginning, and of the rest
made_both : {A B C : Type 0} (f : B → C) (g : A → B) (xs : List A) (ys rest : List B) → ys ≡ map g xs ++ rest
    → map f ys ≡ map (λ x. f (g x)) xs ++ map f rest
made_both f g xs ys rest is = ap (map f) is ∙ map-append f (map g xs) rest ∙ ap (λ l. l ++ map f rest) (map_both f g xs)

abbrev command_of : Order → Command
command_of o = o.command

abbrev event_of : Card → Event
event_of c = c.event

module _ {H : Type 0} (answer_of : H → Command → Answer) (after : H → Command → H) where
  -- a link on which a first session begins, with nothing that waits, and moves of a schedule that fit
  pub record IsRunOf (ms : List (Move H)) (l : Link H) : Type 0 where
    pub begins : Begins l
    pub commands : l.controller.waiting ≡ []
    pub events : l.reader.queue.events ≡ []
    pub fits : MovesFit answer_of after ms l
    pub steady : Each IsSteady ms

  abbrev pub history_of : List (Move H) → Link H → History
  history_of ms l = runs (steps_from answer_of after ms l) new_history

  -- the commands that the account has as taken are those acted on
  taken_acted : KeepsLedger answer_of after → (ms : List (Move H)) (l : Link H) (a : Account) → IsRunOf ms l → TellsOfMoves answer_of after a ms l
      → map (λ (d : Order × Reply). d.0.command) (history_of ms l).acted ≡ a.taken
  taken_acted given ms l a is tells =
      sym (commands_acted (history_of ms l)) ∙ ap (map asked) (given.tells l ms is.begins is.fits).acted ∙ each_taken answer_of after ms l ∙ sym tells.taken

  -- the account that tells of the moves has what the ledger tells: each command taken has the answer that the reader gives to it after those before it
  pub tells_all : KeepsLedger answer_of after → (ms : List (Move H)) (l : Link H) (a : Account) → IsRunOf ms l → TellsOfMoves answer_of after a ms l
      → TellsAll a.issued (with_answers answer_of after l.reader.config l.reader.handler a.taken) a.queued (told_of a) (history_of ms l)
  tells_all given ms l a is tells =
      let its = given.tells l ms is.begins is.fits in
      record {
        orders = its.orders ∙ ap (λ cs. cs ++ all_submitted answer_of after ms l) is.commands ∙ sym tells.issued;
        acted = given.acts l ms (steady_handler answer_of after ms l is.steady)
            ∙ ap (with_answers answer_of after l.reader.config l.reader.handler) (taken_acted given ms l a is tells);
        cards = its.cards ∙ ap (λ es. es ++ all_queued answer_of after ms l) is.events ∙ sym tells.queued;
        told = its.told ∙ sym tells.told;
      }

  -- what has no end yet is among the commands issued
  pub ahead_among : KeepsLedger answer_of after → (P : Command → Type 0) (ms : List (Move H)) (l : Link H) (a : Account) → IsRunOf ms l
      → TellsOfMoves answer_of after a ms l → Each P a.issued → Each P (ahead (link.run answer_of after ms l).controller)
  ahead_among given P ms l a is tells issued =
      let h = history_of ms l in
      let all = tells_all given ms l a is tells in
      let orders = (given.holds l ms is.begins is.fits).0 in
      let ended = map (λ (e : Order × End). command_of e.0) h.ended in
      let parts : a.issued ≡ ended ++ map command_of h.ledger.ahead =
      sym all.orders ∙ made_both command_of (λ (e : Order × End). e.0) h.ended h.accepted h.ledger.ahead orders.each in
      subst (Each P) ((given.keeps l ms is.begins is.fits).1.ahead) (each_rest P ended (map command_of h.ledger.ahead) (subst (Each P) parts issued))

  few : (a : Account) → SessionsEndOnce a → length a.sessions ≡ 1 → length a.ends ≤ 1
  few a ends one = elim ends.count [
    | inl lasts ↦ omega (arith, lasts, one)
    | inr ended ↦ omega (arith, ended, one)
  ]

  -- where one session has begun
  pub of_one : KeepsLedger answer_of after → (ms : List (Move H)) (l : Link H) (a : Account) → IsRunOf ms l → TellsOfMoves answer_of after a ms l
      → SessionsEndOnce a → length a.sessions ≡ 1 → HoldsInOneSession answer_of after l.reader.config l.reader.handler a
  of_one given ms l a is tells ends one =
      let steps = steps_from answer_of after ms l in
      let h = history_of ms l in
      let all = tells_all given ms l a is tells in
      let plain = each_all IsPlain steps (link_plain answer_of after ms l (steady_ordinary ms is.steady)) in
      let held = given.session steps plain (given.keeps l ms is.begins is.fits).0
      (omega (arith, sessions_few answer_of after ms l is.begins is.steady, tells.sessions, one)) in
      let more = map without_place held.settled.0 in
      let settled : map without_place h.acted ≡ a.settled ++ more =
      ap (map without_place) held.settled.1 ∙ map-append without_place (settled_in h.ended) held.settled.0
      ∙ ap (λ l. l ++ more) (ap (λ t. t.settled) all.told) in
      record {
        taken = (
          map command_of held.acted.0,
          sym all.orders ∙ made_both command_of (λ (d : Order × Reply). d.0) h.acted h.accepted held.acted.0 held.acted.1
              ∙ ap (λ l. l ++ map command_of held.acted.0) (taken_acted given ms l a is tells),
        );
        settled = (
          more,
          sym all.acted ∙ settled,
          omega (arith, length-map held.settled.0 without_place, held.settled.2),
        );
        reported = (
          map event_of held.reported.0,
          sym all.cards ∙ made_both event_of (λ (told : ℕ × Card). told.1) h.reports h.queued held.reported.0 held.reported.1
              ∙ ap (λ l. l ++ map event_of held.reported.0) (ap (λ t. t.reported) all.told),
        );
        ends = few a ends one;
        causes = ends.causes;
      }
