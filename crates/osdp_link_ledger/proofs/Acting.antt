-- What the device does with a packet: the ledger stays tied.
use Rattle.osdp_link_ledger.proofs.Common.{◌≡◌, ◌<◌, ◌⊎◌, ◌==◌, suc, Bool, true, false, cond, List, [], ◌∷◌, ◌++◌, length, map, drop, take, Option, Some, None, All, refl, sym, subst, ap, ◌∙◌, inl, inr, arith, append-nil, length-map, All-head, option_to_list, Packet, Command, Event, Reply, State, event_for, offering, released, Act, Card, Leave, Ledger, MayFollow, NoOffer, Offer, Offers, Order, Reported, Unreported, acted_on, is_in_front, Beyond, IsUpTo, asked, Link, is_true, is_under_way, unreported_in, card_at, leaves, order_acted, order_at, Due}
use Rattle.osdp_msg.specs.declared.command.Command.TheVariants as command
use Rattle.osdp_ledger.specs.Ledger as ledger
use Rattle.osdp_link_ledger.proofs.Events.{beyond_front}
use Rattle.osdp_link_ledger.proofs.Facts.{OutIs, out_of}
use Rattle.osdp_link_ledger.proofs.Lists.{FrontUnshown, IsOfferedFront, after_card, commands, events, front_card, front_order, not_offered}
use Rattle.osdp_link_ledger.proofs.Reading.{TakesNext}
use Rattle.osdp_link_ledger.proofs.Ties.{ActedIs, AllUpTo, HasEnded, IsTied, Lasts, Leads, OffersAre, OrdersAre, Placed, Ties}

-- what is tied where an offered front has left
pub record IsReady {H : Type 0} (l : Link H) (d : Due) (g : Ledger) : Type 0 where
  pub ahead : commands g.ahead ≡ out_of l.controller.session.state ++ l.controller.waiting
  pub is_open : g.is_open ≡ is_under_way l.controller.session.state
  pub cards : events g.cards ≡ (released l.reader.queue).events
  pub front : (released l.reader.queue).ever_offered ≡ false → FrontUnshown g.shown g.cards
  pub told : unreported_in g.offer ≡ []
  pub follows : (c : Card) → is_in_front c g.cards → MayFollow g.offer c
  pub counts : length (released l.reader.queue).events ≡ length (not_offered g.offer g.cards)
  pub orders : OrdersAre l.controller.session.state d g

-- ---- the front leaves

-- a card that comes after the one that was reported, which has left
after_left : (b : Card) (cards : List Card) → length (after_card b cards) ≡ length cards → All (IsUpTo b) cards → (c : Card) → is_in_front c cards → b.place < c.place
after_left b [] counts upto c (rest, is) = absurd cc
after_left b (d ∷ ds) counts upto c (rest, is) =
    let same : d ≡ c = cc in
    subst (λ x. b.place < x.place) same (by_place (All-head (IsUpTo b) d ds upto) (d.place == b.place) refl counts)
  where
    by_place : IsUpTo b d → (t : Bool) → (d.place == b.place) ≡ t → length (cond t ds (d ∷ ds)) ≡ suc (length ds) → b.place < d.place
    by_place (inr less) t is counts = less
    by_place (inl e) true is counts = absurd (omega (arith, counts))
    by_place (inl e) false is counts =
        absurd (let no : false ≡ true = sym is ∙ is_true d.place b.place (sym (ap (λ x. x.place) e)) in cc)

follows_now : (offer : Offer) (cards : List Card) → AllUpTo offer cards → unreported_in offer ≡ [] → length (not_offered offer cards) ≡ length cards
    → (c : Card) → is_in_front c cards → MayFollow offer c
follows_now NoOffer cards upto told counts c front = tt
follows_now (Unreported b) cards upto told counts c front = absurd cc
follows_now (Reported b) cards upto told counts c front = after_left b cards counts upto c front

module _ {H : Type 0} (p : Packet) (l : Link H) (d : Due) (g : Ledger) (placed : Placed g) (h : IsTied l d g) (orders : OrdersAre l.controller.session.state d g)
    (o : OffersAre l.reader.queue d.untold d.stands g.offer g.cards) (n : TakesNext p l d) where
  told_now : unreported_in g.offer ≡ []
  told_now = sym o.untold ∙ n.untold

  cards_long : length g.cards ≡ length l.reader.queue.events
  cards_long = sym (length-map g.cards (λ (c : Card). c.event)) ∙ ap length h.cards

  -- the one that is offered is counted
  one_stands : l.reader.queue.offered ≡ true → cond l.reader.queue.offered d.stands 0 ≡ 1
  one_stands on = ap (λ b. cond b d.stands 0) on ∙ n.heard on

  -- none leaves
  stays : l.reader.queue.offered ≡ false → IsReady l d g
  stays off =
      let same : (released l.reader.queue).events ≡ l.reader.queue.events = ap (λ b. cond b (drop 1 l.reader.queue.events) l.reader.queue.events) off in
      let ever : (released l.reader.queue).ever_offered ≡ l.reader.queue.ever_offered = ap (λ b. cond b false l.reader.queue.ever_offered) off in
      let fewer : length (released l.reader.queue).events ≡ length l.reader.queue.events = ap length same in
      let none : cond l.reader.queue.offered d.stands 0 ≡ 0 = ap (λ b. cond b d.stands 0) off in
      record {
        ahead = h.ahead;
        is_open = h.is_open;
        cards = h.cards ∙ sym same;
        front = λ never. h.front (sym ever ∙ never);
        told = told_now;
        follows = λ c front. follows_now g.offer g.cards placed.upto told_now (omega (arith, o.counts, none, cards_long)) c front;
        counts = omega (arith, o.counts, none, fewer);
        orders = orders;
      }

  -- the offered front leaves
  goes : (e : Event) (rest : List Event) → l.reader.queue.events ≡ e ∷ rest → (released l.reader.queue).events ≡ rest → l.reader.queue.offered ≡ true
      → (released l.reader.queue).ever_offered ≡ false → Leads (Leave (card_at g.cards e) ∷ []) g (IsReady l d)
  goes e rest queue left on ever =
      let front = front_card g.cards e rest (h.cards ∙ queue) in
      let c = card_at g.cards e in
      let is : g.offer ≡ Reported c = by_front g.offer refl (o.front on) front.0 in (
        (((drop 1 g.cards, front.0), is), tt),
        record {
          ahead = h.ahead;
          is_open = h.is_open;
          cards = front.1 ∙ sym left;
          front = λ never. beyond_front g.shown c (drop 1 g.cards) (subst (Beyond g.shown) front.0 placed.beyond);
          told = refl;
          follows = λ c stands. tt;
          counts = sym (sym (length-map (drop 1 g.cards) (λ (c : Card). c.event)) ∙ ap length (front.1 ∙ sym left));
          orders = orders;
        },
      )
    where
      by_front : (offer : Offer) → g.offer ≡ offer → (g.offer ≡ NoOffer) ⊎ IsOfferedFront g.offer g.cards → g.cards ≡ card_at g.cards e ∷ drop 1 g.cards
          → g.offer ≡ Reported (card_at g.cards e)
      by_front offer is (inl none) cards =
          let all : length (not_offered g.offer g.cards) ≡ length g.cards = ap (λ x. length (not_offered x g.cards)) none in
          absurd (omega (arith, all, o.counts, one_stands on, cards_long))
      by_front NoOffer is (inr front) cards = absurd (subst (λ x. IsOfferedFront x g.cards) is front)
      by_front (Unreported b) is (inr front) cards = absurd (let bad : b.event ∷ [] ≡ [] = ap unreported_in (sym is) ∙ told_now in cc)
      by_front (Reported b) is (inr front) cards =
          let first : is_in_front b g.cards = subst (λ x. IsOfferedFront x g.cards) is front in
          let same : b ∷ first.0 ≡ card_at g.cards e ∷ drop 1 g.cards = sym first.1 ∙ cards in
          let card : b ≡ card_at g.cards e = cc in
          is ∙ ap Reported card

  by_queue : (all : List Event) (on : Bool) → l.reader.queue.events ≡ all → l.reader.queue.offered ≡ on → Leads (leaves (cond on (take 1 all) []) g) g (IsReady l d)
  by_queue all false is off = (tt, stays off)
  by_queue (e ∷ rest) true is on =
      goes e rest is (ap (λ b. cond b (drop 1 l.reader.queue.events) l.reader.queue.events) on ∙ ap (drop 1) is) on (ap (λ b. cond b false l.reader.queue.ever_offered) on)
  by_queue [] true is on =
      let none : length l.reader.queue.events ≡ 0 = ap length is in
      absurd (omega (arith, none, n.counts, one_stands on))

  pub leaving : Leads (leaves (cond l.reader.queue.offered (take 1 l.reader.queue.events) []) g) g (IsReady l d)
  leaving = by_queue l.reader.queue.events l.reader.queue.offered refl refl

-- ---- an event is offered

-- a POLL offers the event in front
pub record Polled (front : List Event) (d e : Due) : Type 0 where
  pub pend : e.pend ≡ d.pend
  pub owing : e.owing ≡ d.owing
  pub untold : e.untold ≡ front
  pub stands : e.stands ≡ length front

no_answer : (answer : Command × Reply) → [] ≡ answer ∷ [] → ⊥
no_answer answer e = cc

none_acted : (state : State) (d : Due) (g : Ledger) → OrdersAre state d g → d.owing ≡ [] → g.acted ≡ None
none_acted state d g (inr s) owes = s.acted
none_acted state d g (inl s) owes = by_owing s.acted
  where
    by_owing : ActedIs g.ahead g.acted d.owing → g.acted ≡ None
    by_owing (inl none) = none.acted
    by_owing (inr one) = absurd (no_answer ((one.order.command, one.answer)) (sym owes ∙ one.owing))

-- what is due of orders stays so
same_orders : (state : State) (d e : Due) (g : Ledger) → e.pend ≡ d.pend → e.owing ≡ d.owing → OrdersAre state d g → OrdersAre state e g
same_orders state d e g pend owing (inl s) = inl (record { way = s.way; acted = subst (ActedIs g.ahead g.acted) (sym owing) s.acted; late = s.late })
same_orders state d e g pend owing (inr s) = inr (record { closed = s.closed; acted = s.acted; late = s.late ∙ sym pend })

module _ {H : Type 0} (p : Packet) (l : Link H) (d : Due) (g : Ledger) (n : TakesNext p l d) (r : IsReady l d g) where
  abbrev Offering : List Event → List Packet → List Packet → Due → Ledger → Type 0
  Offering waits ps qs e k =
      Ties l.controller.session.state l.controller.waiting (offering (event_for command.Poll waits) (released l.reader.queue)) ps qs e k

  -- none waits
  pub offers_none : (ps qs : List Packet) (e : Due) → (released l.reader.queue).events ≡ [] → Polled [] d e → Offering [] ps qs e g
  offers_none ps qs e none later = record {
    ahead = r.ahead;
    is_open = r.is_open;
    cards = r.cards;
    front = r.front;
    session = inr (
      same_orders l.controller.session.state d e g later.pend later.owing r.orders,
      record { untold = later.untold ∙ sym r.told; front = λ on. absurd cc; counts = omega (arith, r.counts) },
    );
  }

  -- the front is told
  pub offers_front : (event : Event) (rest : List Event) (ps qs : List Packet) (e : Due) → (released l.reader.queue).events ≡ event ∷ rest → Polled (event ∷ []) d e
      → Leads (Offers (card_at g.cards event) ∷ []) g (Offering (event ∷ rest) ps qs e)
  offers_front event rest ps qs e is later =
      let front = front_card g.cards event rest (r.cards ∙ is) in
      let c = card_at g.cards event in (
        ((none_acted l.controller.session.state d g r.orders n.owing, r.follows c (drop 1 g.cards, front.0), (drop 1 g.cards, front.0)), tt),
        record {
          ahead = r.ahead;
          is_open = r.is_open;
          cards = r.cards;
          front = λ never. absurd cc;
          session = inr (
            same_orders l.controller.session.state d e g later.pend later.owing r.orders,
            record {
              untold = later.untold ∙ ap (λ x. x ∷ []) (sym (name g.cards));
              front = λ on. inr (drop 1 g.cards, front.0);
              counts =
                  let few : length (drop 1 g.cards) ≡ length rest = sym (length-map (drop 1 g.cards) (λ (c : Card). c.event)) ∙ ap length front.1 in
                  let all : length (released l.reader.queue).events ≡ suc (length rest) = ap length is in
                  let left : length (after_card c g.cards) ≡ length (drop 1 g.cards) =
                  ap (λ ds. length (after_card c ds)) front.0 ∙ ap (λ b. length (cond b (drop 1 g.cards) (c ∷ drop 1 g.cards))) (is_true c.place c.place refl) in
                  let one : e.stands ≡ 1 = later.stands in
                  omega (arith, few, all, left, one);
            },
          );
        },
      )
    where
      name : (cards : List Card) → (card_at cards event).event ≡ event
      name [] = refl
      name (c ∷ cs) = refl

-- ---- a command is acted on

pub record Acts (c : Command) (a : Reply) (d e : Due) : Type 0 where
  pub before : d.pend ≡ c ∷ []
  pub pend : e.pend ≡ []
  pub owing : e.owing ≡ (c, a) ∷ []
  pub untold : e.untold ≡ []
  pub stands : e.stands ≡ 0

module _ {H : Type 0} (p : Packet) (l : Link H) (d : Due) (g : Ledger) (n : TakesNext p l d) (r : IsReady l d g) (f : OutIs l.controller.session.state d) where
  abbrev Acted : List Packet → List Packet → Due → Ledger → Type 0
  Acted ps qs e k = Ties l.controller.session.state l.controller.waiting (offering None (released l.reader.queue)) ps qs e k

  offers_on : (c : Command) (a : Reply) (e : Due) → Acts c a d e → OffersAre (offering None (released l.reader.queue)) e.untold e.stands g.offer g.cards
  offers_on c a e later = record { untold = later.untold ∙ sym r.told; front = λ on. absurd cc; counts = omega (arith, r.counts) }

  reported : (offer : Offer) → unreported_in offer ≡ [] → ledger.IsReported offer
  reported NoOffer told = tt
  reported (Unreported b) told = absurd cc
  reported (Reported b) told = tt

  -- the front of the session
  acts_in_session : (c : Command) (a : Reply) (ps qs : List Packet) (e : Due) → Acts c a d e → Lasts l.controller.session.state d.owing g.ahead g.acted g.late
      → Leads (Act (order_acted c g) a ∷ []) g (Acted ps qs e)
  acts_in_session c a ps qs e later s =
      let under_way : g.is_open ≡ true = r.is_open ∙ s.way in
      let out : out_of l.controller.session.state ≡ c ∷ [] =
      f s.way ∙ ap (λ os. d.pend ++ map asked os) n.owing ∙ append-nil d.pend ∙ later.before in
      let front = front_order g.ahead c l.controller.waiting (r.ahead ∙ ap (λ cs. cs ++ l.controller.waiting) out) in
      let none = none_acted l.controller.session.state d g (inl s) n.owing in
      let order : order_acted c g ≡ order_at g.ahead c = ap (λ b. order_at (cond b g.ahead (option_to_list g.late)) c) under_way in
      subst (λ o. Leads (Act o a ∷ []) g (Acted ps qs e)) (sym order) (
        ((reported g.offer r.told, inl (under_way, (drop 1 g.ahead, front.0), none)), tt),
        subst (λ b. Acted ps qs e (acted_on b a g)) (sym under_way) (record {
          ahead = r.ahead;
          is_open = r.is_open;
          cards = r.cards;
          front = r.front;
          session = inr (
            inl (record {
              way = s.way;
              acted = inr (record {
                order = order_at g.ahead c;
                rest = drop 1 g.ahead;
                answer = a;
                ahead = front.0;
                acted = refl;
                owing = later.owing ∙ ap (λ x. (x, a) ∷ []) (sym (command g.ahead));
              });
              late = s.late;
            }),
            offers_on c a e later,
          );
        }),
      )
    where
      command : (ahead : List Order) → (order_at ahead c).command ≡ c
      command [] = refl
      command (o ∷ os) = refl

  -- .. or the late one
  late_order : (late : Option Order) (c : Command) → commands (option_to_list late) ≡ c ∷ [] → late ≡ Some (order_at (option_to_list late) c)
  late_order None c is = absurd cc
  late_order (Some o) c is =
      let same : o.command ≡ c = cc in ap (λ command. Some (record { place = o.place; command = command })) same

  acts_late : (c : Command) (a : Reply) (ps qs : List Packet) (e : Due) → Acts c a d e → HasEnded l.controller.session.state d.pend g.acted g.late
      → Leads (Act (order_acted c g) a ∷ []) g (Acted ps qs e)
  acts_late c a ps qs e later s =
      let over : g.is_open ≡ false = r.is_open ∙ ap is_under_way s.closed in
      let order : order_acted c g ≡ order_at (option_to_list g.late) c = ap (λ b. order_at (cond b g.ahead (option_to_list g.late)) c) over in
      subst (λ o. Leads (Act o a ∷ []) g (Acted ps qs e)) (sym order) (
        ((reported g.offer r.told, inr (over, late_order g.late c (s.late ∙ later.before))), tt),
        subst (λ b. Acted ps qs e (acted_on b a g)) (sym over) (record {
          ahead = r.ahead;
          is_open = r.is_open;
          cards = r.cards;
          front = r.front;
          session = inr (inr (record { closed = s.closed; acted = s.acted; late = sym later.pend }), offers_on c a e later);
        }),
      )

  pub acts : (c : Command) (a : Reply) (ps qs : List Packet) (e : Due) → Acts c a d e → Leads (Act (order_acted c g) a ∷ []) g (Acted ps qs e)
  acts c a ps qs e later = by_orders r.orders
    where
      by_orders : OrdersAre l.controller.session.state d g → Leads (Act (order_acted c g) a ∷ []) g (Acted ps qs e)
      by_orders (inl s) = acts_in_session c a ps qs e later s
      by_orders (inr s) = acts_late c a ps qs e later s
