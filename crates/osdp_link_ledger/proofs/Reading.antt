-- What a packet that the device reads says of the session.
use Rattle.osdp_link_ledger.proofs.Common.{◌≡◌, ◌+◌, ℕ, Bool, true, false, cond, List, [], length, Option, Some, None, Ok, refl, sym, subst, ap, ◌∙◌, arith, length-append, option_to_list, Packet, event_in, Command, Event, Reply, exchange_command, ControllerConfig, Exchange, Opening, Polling, Asking, EventQueue, released, command_in, Answer, Kind, Link, leaves_shown, Due, ReadsTo, due_at, standing_at, stands, stood, At}
use Rattle.osdp_msg.specs.declared.command.Command.TheVariants as command
use Rattle.osdp_reader.specs.declared.kind.Kind.TheVariants as kind
use Rattle.osdp_link_laws.proofs.Since.{Hears, has_acted}
use Rattle.osdp_link_laws.proofs.Stages.{After, Behind, IsAsked, Level, Offers, OffersEvent, Past, Restarted, Stage, Start, owed, pending, shown}
use Rattle.osdp_link_ledger.proofs.Facts.{due_stays}

-- a command is taken: all before it is settled and reported
pub record TakesNext {H : Type 0} (p : Packet) (l : Link H) (d : Due) : Type 0 where
  pub exchange : Exchange
  pub past : ℕ × Exchange × Reply
  pub asked : IsAsked (After past.0 past.1 past.2) exchange
  pub reads : command_in p ≡ Ok (exchange_command exchange)
  pub pend : d.pend ≡ pending exchange
  pub owing : d.owing ≡ []
  pub untold : d.untold ≡ []
  pub heard : l.reader.queue.offered ≡ true → d.stands ≡ 1
  pub counts : length l.reader.queue.events ≡ cond l.reader.queue.offered d.stands 0 + length (released l.reader.queue).events

-- .. and what the device says is due after it
pub record IsAnswered (x : Exchange) (said : Option Reply) (e : Due) : Type 0 where
  pub answer : Reply
  pub says : said ≡ Some answer
  pub pend : e.pend ≡ []
  pub owing : e.owing ≡ owed x answer
  pub untold : e.untold ≡ shown x answer
  pub stands : e.stands ≡ length (shown x answer)

-- what a packet may be to the device, by its kind: but where a command is taken as much is due as before, and where number 0 comes nothing that was
-- offered in this session stands in the queue
abbrev pub IsReadAs : {H : Type 0} → Kind → Packet → Link H → Option Reply → Due → Due → Type 0
IsReadAs kind.Taken p l said d e = (n : TakesNext p l d) × IsAnswered n.exchange said e
IsReadAs kind.Zero p l said d e = (command_in p ≡ Ok (command.Id 0)) × (e ≡ d) × (d.stands ≡ 0)
IsReadAs _ p l said d e = e ≡ d

-- ---- the queue

counted : (on : Bool) (es : List Event) → length (cond on es []) ≡ cond on (length es) 0
counted true es = refl
counted false es = refl

-- what is offered was told last
heard_event : (told : Option Event) (q : EventQueue) → OffersEvent told q → q.offered ≡ true → length (option_to_list told) ≡ 1
heard_event None q off on = absurd (let e : false ≡ true = sym off ∙ on in cc)
heard_event (Some e) q offers on = refl

heard_shown : (x : Exchange) (a : Reply) (q : EventQueue) → Offers x a q → q.offered ≡ true → length (shown x a) ≡ 1
heard_shown Polling a q offers on = heard_event (event_in a) q offers on
heard_shown Opening a q off on = absurd (let e : false ≡ true = sym off ∙ on in cc)
heard_shown (Asking c) a q off on = absurd (let e : false ≡ true = sym off ∙ on in cc)

module _ (fixed : ControllerConfig) {H : Type 0} (answer_of : H → Command → Answer) (after : H → Command → H) where
  takes : (since : Restarted) (n : ℕ) (y : Exchange) (b : Reply) (x : Exchange) (p : Packet) (l : Link H) → Hears since
      → At fixed answer_of after since (Behind (After n y b) x) l → command_in p ≡ Ok (exchange_command x)
      → TakesNext p l (due_at since (Behind (After n y b) x))
  takes since n y b x p l hears h reads =
      let acted = has_acted fixed since n y b l.reader hears h.reader in
      let left = (released l.reader.queue).events in
      let on = l.reader.queue.offered in
      let front = ap length (stood since hears n y b x) in
      let gone : length (cond on (shown y b) []) ≡ cond on (length (standing_at since (Behind (After n y b) x))) 0 =
      counted on (shown y b) ∙ ap (λ m. cond on m 0) (sym front) in
      let counts : length l.reader.queue.events ≡ length (cond on (shown y b) []) + length left =
      ap length (leaves_shown y b l.reader.queue acted.offer) ∙ length-append (cond on (shown y b) []) left in
      record {
        exchange = x;
        past = (n, y, b);
        asked = h.stage.1;
        reads = reads;
        pend = refl;
        owing = refl;
        untold = refl;
        heard = λ on. front ∙ heard_shown y b l.reader.queue acted.offer on;
        counts = omega (arith, counts, gone);
      }

  answers : (since : Restarted) (past : Past) (x : Exchange) (said : Option Reply) (a : Reply) → Hears since → said ≡ Some a → IsAnswered x said (due_at since (Level past x a))
  answers since past x said a hears says =
      record { answer = a; says = says; pend = refl; owing = refl; untold = refl; stands = ap length (stands since hears past x a) }

  read_taken : (since : Restarted) (at : Stage) (new : Restarted) (to : Stage) (p : Packet) (said : Option Reply) (l : Link H)
      → At fixed answer_of after since at l → ReadsTo kind.Taken (command_in p) said since at new to
      → IsReadAs kind.Taken p l said (due_at since at) (due_at new to)
  unfolding takes
  read_taken since (Behind (After n y b) x) new to p said l h (hears, same, reads, (a, says, is)) =
      let later : due_at new to ≡ due_at since (Level (After n y b) x a) = (λ i. due_at (same i) (is i)) in
      (takes since n y b x p l hears h reads, subst (IsAnswered x said) (sym later) (answers since (After n y b) x said a hears says))
  read_taken since (Behind Start x) new to p said l h is = absurd is
  read_taken since _ new to p said l h is = absurd is

  pub read : (k : Kind) (since : Restarted) (at : Stage) (new : Restarted) (to : Stage) (p : Packet) (said : Option Reply) (l : Link H)
      → At fixed answer_of after since at l → ReadsTo k (command_in p) said since at new to → IsReadAs k p l said (due_at since at) (due_at new to)
  read kind.Taken since at new to p said l h is = read_taken since at new to p said l h is
  read kind.Zero since at new to p said l h is = (is.0, is.1.due, ap length is.1.stood)
  read _ since at new to p said l h is = due_stays since at new to is
