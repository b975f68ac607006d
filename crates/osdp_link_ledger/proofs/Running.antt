-- From the beginning of a first session, over every list of moves.
use Rattle.osdp_link_ledger.proofs.Common.{◌≡◌, ◌+◌, ℕ, true, false, List, [], ◌∷◌, ◌++◌, None, refl, sym, subst, ap, ◌∙◌, inl, inr, arith, append_assoc, append-nil, map-append, Command, Event, Answer, AreAllowed, History, new_history, runs, Card, Ledger, Order, new_ledger, at_first, allowed_both, runs_then, Events, Begins, MovesFit, Link, Move, after_move, run, ReadEachOther, Assumed, Stands, assumed, begins_so, standing_so, Premises, At, Fresh, Stage, owed_at, unreported_at, HasNumber, HoldsByLedger, IsLedgerOf, LinkKeepsLedger, is_under_way, unreported_in, after_steps, all_steps, queued_before, steps_before, steps_from, steps_of, submitted_before, due_at}
use Rattle.osdp_ledger.specs.Laws.{KeepsEvents, KeepsOrders}
use Rattle.osdp_link_ledger.proofs.Facts.{due_fresh, goes_to, none_due, out_of}
use Rattle.osdp_link_ledger.proofs.Keeping.{due_of, keeps_one}
use Rattle.osdp_link_ledger.proofs.Lists.{FrontUnshown, commands, events}
use Rattle.osdp_link_ledger.proofs.Machines.{AreKept, acted_is, kept_at, owed_answer, unasked_at, unpolled_at}
use Rattle.osdp_link_ledger.proofs.Ties.{AllMay, IsTied, Lasts, OffersAre, SessionIs, after_append, all_may_append, allowed, events_keep, placed, runs_after}

-- ---- what waits at first

-- the panel alone has more, and no session
pub record Submits (cs : List Command) (g k : Ledger) : Type 0 where
  pub ahead : commands k.ahead ≡ commands g.ahead ++ cs
  pub same : k ≡ record g { submitted = k.submitted; ahead = k.ahead }

submits_all : (place : ℕ) (cs : List Command) (g : Ledger) → g.submitted ≡ place
    → AllMay (submitted_before place cs) g × Submits cs g (after_steps (submitted_before place cs) g)
submits_all place [] g is = (tt, record { ahead = sym (append-nil (commands g.ahead)); same = refl })
submits_all place (c ∷ cs) g is =
    let o : Order = record { place = place; command = c } in
    let rest = submits_all (place + 1) cs (record g { submitted = g.submitted + 1; ahead = g.ahead ++ o ∷ [] }) (ap (λ n. n + 1) is) in (
      (sym is, rest.0),
      record {
        ahead = rest.1.ahead ∙ ap (λ all. all ++ cs) (map-append (λ (o : Order). o.command) g.ahead (o ∷ [])) ∙ append_assoc (commands g.ahead) (c ∷ []) cs;
        same = rest.1.same;
      },
    )

pub record Queues (es : List Event) (g k : Ledger) : Type 0 where
  pub cards : events k.cards ≡ events g.cards ++ es
  pub same : k ≡ record g { queued = k.queued; cards = k.cards }

queues_all : (place : ℕ) (es : List Event) (g : Ledger) → g.queued ≡ place → AllMay (queued_before place es) g × Queues es g (after_steps (queued_before place es) g)
queues_all place [] g is = (tt, record { cards = sym (append-nil (events g.cards)); same = refl })
queues_all place (e ∷ es) g is =
    let c : Card = record { place = place; event = e } in
    let rest = queues_all (place + 1) es (record g { queued = g.queued + 1; cards = g.cards ++ c ∷ [] }) (ap (λ n. n + 1) is) in (
      (sym is, rest.0),
      record {
        cards = rest.1.cards ∙ ap (λ all. all ++ es) (map-append (λ (c : Card). c.event) g.cards (c ∷ [])) ∙ append_assoc (events g.cards) (e ∷ []) es;
        same = rest.1.same;
      },
    )

never_shown : (cards : List Card) → FrontUnshown 0 cards
never_shown [] = tt
never_shown (c ∷ cs) = omega arith

module _ {H : Type 0} where
  tied_before : (l : Link H) (g : Ledger) → Begins l → commands g.ahead ≡ l.controller.waiting → events g.cards ≡ l.reader.queue.events → g.is_open ≡ false → g.acted ≡ None
      → g.shown ≡ 0 → IsTied l none_due g
  tied_before l g b ahead cards closed none shown = record {
    ahead = ahead ∙ ap (λ state. out_of state ++ l.controller.waiting) (sym b.quiet.1);
    is_open = closed ∙ ap is_under_way (sym b.quiet.1);
    cards = cards;
    front = λ never. subst (λ n. FrontUnshown n g.cards) (sym shown) (never_shown g.cards);
    session = inl (record {
      way = ap is_under_way b.quiet.1;
      to_reader = b.to_reader;
      to_controller = b.to_controller;
      empty = refl;
      acted = none;
    });
  }

  pub begins_tied : (l : Link H) → Begins l → AllMay (steps_before l) new_ledger × IsTied l none_due (after_steps (steps_before l) new_ledger)
  begins_tied l b =
      let first = submits_all 0 l.controller.waiting new_ledger refl in
      let k = after_steps (submitted_before 0 l.controller.waiting) new_ledger in
      let same : ◌≡◌ {A = Ledger} k (record new_ledger { submitted = k.submitted; ahead = k.ahead }) = first.1.same in
      let second = queues_all 0 l.reader.queue.events k (ap (λ g. g.queued) same) in
      let m = after_steps (queued_before 0 l.reader.queue.events) k in
      let again : ◌≡◌ {A = Ledger} m (record k { queued = m.queued; cards = m.cards }) = second.1.same in (
        all_may_append (submitted_before 0 l.controller.waiting) (queued_before 0 l.reader.queue.events) new_ledger first.0 second.0,
        subst (IsTied l none_due) (sym (after_append (submitted_before 0 l.controller.waiting) (queued_before 0 l.reader.queue.events) new_ledger))
            (tied_before l m b (ap (λ g. commands g.ahead) again ∙ first.1.ahead)
            (second.1.cards ∙ ap (λ g. events g.cards ++ l.reader.queue.events) same)
            (ap (λ g. g.is_open) again ∙ ap (λ g. g.is_open) same) (ap (λ g. g.acted) again ∙ ap (λ g. g.acted) same)
            (ap (λ g. g.shown) again ∙ ap (λ g. g.shown) same)),
      )

-- the ledger that is tied is the link's
module _ {H : Type 0} (answer_of : H → Command → Answer) (after : H → Command → H) where
  pub is_links : (l : Link H) (g : Ledger) (s : Stands answer_of after l) → Premises s.fixed answer_of after → IsTied l (due_of answer_of after l s) g → IsLedgerOf l g
  is_links l g s given h = record {
    ahead = h.ahead;
    is_open = h.is_open;
    acted = λ going n is. acted going ∙ (kept (way going) n is).0;
    unasked = λ going none. acted going ∙ unasked_at s.fixed at l.controller.session held.controller (way going) none;
    offer = λ going n is. offered going ∙ (kept (way going) n is).1;
    unpolled = λ going none. offered going ∙ unpolled_at s.fixed at l.controller.session held.controller (way going) none;
    cards = h.cards;
  }
    where
      at : Stage
      at = s.goes.holds.1

      held : At s.fixed answer_of after s.goes.holds.0 s.goes.holds.1 l
      held = s.goes.holds.2

      way : g.is_open ≡ true → is_under_way l.controller.session.state ≡ true
      way going = sym h.is_open ∙ going

      by_session : g.is_open ≡ true → SessionIs l.controller.session.state l.reader.queue l.to_reader l.to_controller (due_of answer_of after l s) g
          → Lasts l.controller.session.state (owed_at at) g.ahead g.acted g.late
          × (let d = due_of answer_of after l s in OffersAre l.reader.queue d.untold d.stands g.offer g.cards)
      by_session going (inl u) = absurd (let e : false ≡ true = sym u.way ∙ way going in cc)
      by_session going (inr (inl u, offers)) = (u, offers)
      by_session going (inr (inr u, offers)) = absurd (let e : false ≡ true = ap is_under_way (sym u.closed) ∙ way going in cc)

      acted : g.is_open ≡ true → g.acted ≡ owed_answer (owed_at at)
      acted going = acted_is g.ahead g.acted (owed_at at) (by_session going h.session).0.acted

      offered : g.is_open ≡ true → unreported_in g.offer ≡ unreported_at at
      offered going = sym (by_session going h.session).1.untold

      kept : is_under_way l.controller.session.state ≡ true → (n : ℕ) → HasNumber l n
          → AreKept s.fixed answer_of after l.controller.session l.reader n (owed_at at) (unreported_at at)
      kept way n is =
          kept_at s.fixed answer_of after l.controller.session l.reader given s.goes.holds.0 at n held.stage held.controller held.reader way
          (is.0 ∙ goes_to s.fixed at l.controller.session held.controller way) is.1

module _ {H : Type 0} (answer_of : H → Command → Answer) (after : H → Command → H) where
  -- the ledger is tied to the link by the stage of its session
  abbrev pub IsTiedNow : Link H → Ledger → Type 0
  IsTiedNow l g = (s : Stands answer_of after l) × IsTied l (due_of answer_of after l s) g

  pub tied_at_first : (l : Link H) (s : Stands answer_of after l) (g : Ledger) → s.goes.holds.1 ≡ Fresh → IsTied l none_due g → IsTied l (due_of answer_of after l s) g
  tied_at_first l s g fresh tied = subst (λ d. IsTied l d g) (sym (ap (due_at s.goes.holds.0) fresh ∙ due_fresh s.goes.holds.0)) tied

  pub keeps_all : Assumed answer_of after → (moves : List (Move H)) (l : Link H) (h : History) → MovesFit answer_of after moves l
      → (s : Stands answer_of after l) → Events h → IsTied l (due_of answer_of after l s) h.ledger
      → AreAllowed (all_steps answer_of after moves l h.ledger) h × IsTiedNow (run answer_of after moves l) (runs (all_steps answer_of after moves l h.ledger) h).ledger
  keeps_all given [] l h fits s i tied = (tt, (s, tied))
  keeps_all given (move ∷ moves) l h fits s i tied =
      let one = keeps_one answer_of after given move l h.ledger (placed h i) fits.0 s tied in
      let steps = steps_of answer_of after move l h.ledger in
      let next = after_move answer_of after move l in
      let same = runs_after steps h in
      let n = (standing_so answer_of after given move l fits.0 s).0 in
      let rest = keeps_all given moves next (runs steps h) fits.1 n (events_keep steps h one.0 i) (subst (IsTied next (due_of answer_of after next n)) (sym same) one.1) in
      let more = all_steps answer_of after moves next (after_steps steps h.ledger) in
      let later : AreAllowed more (runs steps h) × IsTiedNow (run answer_of after moves next) (runs more (runs steps h)).ledger =
      subst (λ g. AreAllowed (all_steps answer_of after moves next g) (runs steps h)
      × IsTiedNow (run answer_of after moves next) (runs (all_steps answer_of after moves next g) (runs steps h)).ledger) same rest in (
        allowed_both steps more h (allowed steps h one.0) later.0,
        subst (λ k. IsTiedNow (run answer_of after moves next) k.ledger) (sym (runs_then steps more h)) later.1,
      )

  pub keeps_ledger : ReadEachOther answer_of after → LinkKeepsLedger answer_of after
  keeps_ledger peers l moves b fits =
      let before = steps_before l in
      let first = begins_tied l b in
      let h = runs before new_history in
      let same = runs_after before new_history in
      let start = begins_so answer_of after l b in
      let s = start.0 in
      let last = run answer_of after moves l in
      let rest = keeps_all (assumed answer_of after peers) moves l h fits s (events_keep before new_history first.0 at_first)
      (subst (IsTied l (due_of answer_of after l s)) (sym same) (tied_at_first l s (after_steps before new_ledger) start.1 first.1)) in
      let more = all_steps answer_of after moves l (after_steps before new_ledger) in
      let later : AreAllowed more h × IsTiedNow last (runs more h).ledger =
      subst (λ g. AreAllowed (all_steps answer_of after moves l g) h × IsTiedNow last (runs (all_steps answer_of after moves l g) h).ledger) same rest in
      let tied = subst (λ k. IsTiedNow last k.ledger) (sym (runs_then before more new_history)) later.1 in (
        allowed_both before more new_history (allowed before new_history first.0) later.0,
        is_links answer_of after last (runs (before ++ more) new_history).ledger tied.0 (assumed answer_of after peers tied.0.fixed tied.0.device) tied.1,
      )

  pub holds_by_ledger : LinkKeepsLedger answer_of after → KeepsOrders → KeepsEvents → HoldsByLedger answer_of after
  holds_by_ledger keeps orders cards l moves b fits =
      let steps = steps_from answer_of after moves l in
      let allowed = (keeps l moves b fits).0 in
      (orders steps allowed, cards steps allowed)
