-- What a packet may make of the controller's address, and of the one that is kept for its COMSET.
use Rattle.osdp_bus_links.proofs.Common.{◌≡◌, ◌⊎◌, ◌<◌, ◌+◌, ℕ, Bool, true, false, cond, eqb, ltb, List, [], ◌∷◌, ◌++◌, Option, Some, None, IfSome, refl, sym, subst, ap, ◌∙◌, inl, inr, ltb-true, eqb_tells, Packet, CommandFits, Command, Communication, Event, Reply, said_by, Heard, answered, answered_unread, com_of, command_answered, comset_of, hears, hears_busy, hears_in, ignores, is_ack, is_numbered, loses, moved_by, opening_answered, pausing_hears, pd_id_of, poll_told, waiting_hears, later, seen, NotTaken, Damaged, NumberRefused, Plain, Unreadable, Exchange, Opening, Polling, Asking, Outstanding, Report, Session, State, Waiting, Pausing, IsNoDevice, IsToldAsAsked, both, each_rest, Each, option_to_list, outstanding_command, submitted_command}
use Rattle.std.specs.Prelude.{◌&&◌, not}
use Rattle.osdp_msg.specs.declared.reply.Reply.TheVariants as reply
use Rattle.osdp_msg.specs.declared.reply_fields.PdId.{PdId}
use Rattle.osdp_msg.specs.Events.{event_in}
use Rattle.osdp_controller.specs.declared.meaning.ReplyMeaning.{ReplyMeaning}
use Rattle.osdp_controller.specs.declared.report.LostCause.{LostCause}
use Rattle.osdp_controller.specs.declared.report.LostCause.TheVariants as causes
use Rattle.osdp_controller.specs.declared.report.Report.TheVariants as report
use Rattle.osdp_bus_links.proofs.Names.{freed_by, freed_for}
use Rattle.osdp_bus_links.proofs.Reserved.{One, front_is, one_of_none, one_rest}

abbrev pub ToldAsAsked : Option Report → Type 0
ToldAsAsked r = IfSome r IsToldAsAsked

com_is : (a : Reply) (d : Communication) → com_of a ≡ Some d → a ≡ reply.Com d
com_is (reply.Com e) d is = ap reply.Com cc
com_is _ d is = absurd cc

-- the COM that moves is that of the COMSET, with a device's address
moves_by : (asked came : Option Communication) (d : Communication) → moved_by asked came ≡ Some d
    → (e : Communication) × (asked ≡ Some e) × (came ≡ Some d) × (d.address ≡ e.address) × (d.address < 127)
moves_by None came d is = absurd cc
moves_by (Some e) None d is = absurd cc
moves_by (Some e) (Some f) d is = by_test (ltb f.address 127) (eqb f.address e.address) refl refl is
  where
    by_test : (small same : Bool) → ltb f.address 127 ≡ small → eqb f.address e.address ≡ same → cond (small && same) (Some f) None ≡ Some d
        → (g : Communication) × (Some e ≡ Some g) × (Some f ≡ Some d) × (d.address ≡ g.address) × (d.address < 127)
    by_test true true lt eq is =
        let same : f ≡ d = cc in
        let at : f.address ≡ e.address = elim (eqb_tells f.address e.address) [ inl equal ↦ equal.1 | inr differs ↦ absurd (let not = differs.0 in cc) ] in
        (e, refl, is, sym (ap (λ (h : Communication). h.address) same) ∙ at, subst (λ (h : Communication). h.address < 127) same (ltb-true f.address 127 lt))
    by_test true false lt eq is = absurd cc
    by_test false same lt eq is = absurd cc

polls_free_none : (r : Option ℕ) (told : Option Event) (a : Reply) → freed_by (poll_told a told) r ≡ r
polls_free_none r (Some e) a = refl
polls_free_none r None a = both (λ t. freed_by t r ≡ r) (is_ack a) None (Some (report.PollAnswered a)) refl refl

module _ (r : Option ℕ) (here : ℕ) (ws : List Command) where
  abbrev pub StaysHere : Heard → Type 0
  StaysHere h = (h.session.config.address ≡ here) × (freed_by h.report r ≡ r)

  -- a COMSET is settled, and didn't move the reader
  pub record Frees (h : Heard) : Type 0 where
    pub asked : Communication
    pub address : h.session.config.address ≡ here
    pub freed : freed_by h.report r ≡ None
    pub reserved : r ≡ Some asked.address
    pub far : ToldAsAsked h.report → 126 < asked.address

  -- .. or its COM moves the controller
  pub record Goes (said : ReplyMeaning) (h : Heard) : Type 0 where
    pub answered : Communication
    pub address : h.session.config.address ≡ answered.address
    pub freed : freed_by h.report r ≡ None
    pub reserved : r ≡ Some answered.address
    pub said_so : said ≡ Plain (reply.Com answered)
    pub device : answered.address < 127

  pub record HeardWell (said : ReplyMeaning) (h : Heard) : Type 0 where
    pub one : One (freed_by h.report r) (option_to_list (outstanding_command h.session.state) ++ ws)
    pub fits : Each CommandFits (option_to_list (outstanding_command h.session.state) ++ ws)
    pub goes : StaysHere h ⊎ Frees h ⊎ Goes said h

  -- nothing is told of a command, or the session ends without one that was settled
  stays_well : (said : ReplyMeaning) (h : Heard) → freed_by h.report r ≡ r → h.session.config.address ≡ here
      → Each CommandFits (option_to_list (outstanding_command h.session.state) ++ ws) → One r (option_to_list (outstanding_command h.session.state) ++ ws) → HeardWell said h
  stays_well said h kept is fits one = record {
    one = subst (λ q. One q (option_to_list (outstanding_command h.session.state) ++ ws)) (sym kept) one;
    fits = fits;
    goes = inl (is, kept);
  }

  opened_well : (said : ReplyMeaning) (id : Option PdId) (s : Session) → s.config.address ≡ here
      → Each CommandFits (option_to_list (outstanding_command s.state) ++ ws) → One r (option_to_list (outstanding_command s.state) ++ ws) → Each CommandFits ws → One r ws → HeardWell said (opening_answered id s)
  opened_well said None s is fits one left rest = stays_well said (ignores s) refl is fits one
  opened_well said (Some id) s is fits one left rest = stays_well said (opening_answered (Some id) s) refl is left rest

  -- a COMSET is done with, and was the one that an address was kept for
  front_well : (said : ReplyMeaning) (h : Heard) (c : Command) (d : Communication) → comset_of c ≡ Some d
      → freed_by h.report r ≡ freed_for (comset_of c) r → option_to_list (outstanding_command h.session.state) ≡ [] → Each CommandFits ws → One r (c ∷ ws)
      → (freed_by h.report r ≡ None → r ≡ Some d.address → Frees h ⊎ Goes said h) → HeardWell said h
  front_well said h c d is frees none fits one goes =
      let front = front_is (comset_of c) d r ws is one.0 in
      let freed : freed_by h.report r ≡ None = frees ∙ ap (λ o. freed_for o r) is in
      record {
        one = subst (λ cs. One (freed_by h.report r) (cs ++ ws)) (sym none) (subst (λ q. One q ws) (sym freed) (one_of_none None ws front.1));
        fits = subst (λ cs. Each CommandFits (cs ++ ws)) (sym none) fits;
        goes = inr (goes freed front.0);
      }

  settled_well : (said : ReplyMeaning) (o : Option Communication) (c : Command) (a : Reply) (s : Session) → comset_of c ≡ o → s.config.address ≡ here
      → Each CommandFits ws → One r (c ∷ ws) → HeardWell said (command_answered None c a s)
  settled_well said None c a s is at fits one =
      stays_well said (command_answered None c a s) (ap (λ o. freed_for o r) is) at fits one.1
  settled_well said (Some d) c a s is at fits one =
      front_well said (command_answered None c a s) c d is refl refl fits one
      (λ freed reserved. inl (record { asked = d; address = at; freed = freed; reserved = reserved; far = λ told. subst IsNoDevice is told }))

  command_well : (to : Option Communication) (c : Command) (a : Reply) (s : Session) → moved_by (comset_of c) (com_of a) ≡ to → s.config.address ≡ here
      → Each CommandFits ws → One r (c ∷ ws) → HeardWell (Plain a) (command_answered to c a s)
  command_well None c a s is at fits one = settled_well (Plain a) (comset_of c) c a s refl at fits one
  command_well (Some d) c a s is at fits one =
      let moves = moves_by (comset_of c) (com_of a) d is in
      front_well (Plain a) (command_answered (Some d) c a s) c moves.0 moves.1 refl refl fits one (λ freed reserved. inr (record {
        answered = d;
        address = refl;
        freed = freed;
        reserved = reserved ∙ ap Some (sym moves.3);
        said_so = ap Plain (com_is a d moves.2);
        device = moves.4;
      }))

  answered_well : (x : Exchange) (a : Reply) (s : Session) → s.config.address ≡ here → Each CommandFits (option_to_list (outstanding_command s.state) ++ ws) → One r (option_to_list (outstanding_command s.state) ++ ws)
      → Each CommandFits (option_to_list (submitted_command x) ++ ws) → One r (option_to_list (submitted_command x) ++ ws) → HeardWell (Plain a) (answered x a s)
  answered_well Opening a s at fits one left rest = opened_well (Plain a) (pd_id_of a) s at fits one left rest
  answered_well Polling a s at fits one left rest =
      stays_well (Plain a) (answered Polling a s) (polls_free_none r (event_in a) a) at left rest
  answered_well (Asking c) a s at fits one left rest =
      command_well (moved_by (comset_of c) (com_of a)) c a s refl at left.1 rest

  unread_well : (said : ReplyMeaning) (x : Exchange) (code : ℕ) (s : Session) → s.config.address ≡ here → Each CommandFits (option_to_list (outstanding_command s.state) ++ ws)
      → One r (option_to_list (outstanding_command s.state) ++ ws) → Each CommandFits (option_to_list (submitted_command x) ++ ws) → One r (option_to_list (submitted_command x) ++ ws) → HeardWell said (answered_unread x code s)
  unread_well said Opening code s at fits one left rest = stays_well said (ignores s) refl at fits one
  unread_well said Polling code s at fits one left rest = stays_well said (answered_unread Polling code s) refl at left rest
  unread_well said (Asking c) code s at fits one left rest = stays_well said (answered_unread (Asking c) code s) refl at left.1 rest.1

  loses_well : (said : ReplyMeaning) (cause : LostCause) (o : Outstanding) (s : Session) → s.config.address ≡ here → Each CommandFits (option_to_list (submitted_command o.exchange) ++ ws)
      → One r (option_to_list (submitted_command o.exchange) ++ ws) → HeardWell said (loses cause o s)
  loses_well said cause o s at left rest =
      stays_well said (loses cause o s) refl at (each_rest CommandFits (option_to_list (submitted_command o.exchange)) ws left) (one_rest r (option_to_list (submitted_command o.exchange)) ws rest)

  busy_well : (said : ReplyMeaning) (o : Outstanding) (s : Session) → s.config.address ≡ here → Each CommandFits (option_to_list (submitted_command o.exchange) ++ ws)
      → One r (option_to_list (submitted_command o.exchange) ++ ws) → HeardWell said (hears_busy o s)
  busy_well said o s at left rest =
      let paused : Heard = record { session = record s { state = Pausing (later s.config.busy_wait s) (record o { busies = o.busies + 1 }) }; report = None } in
      both (HeardWell said) (ltb s.config.busy_limit (o.busies + 1)) (loses causes.TooBusy o s) paused
      (loses_well said causes.TooBusy o s at left rest) (stays_well said paused refl at left rest)

  waiting_well : (a : ReplyMeaning) (k : ℕ) (o : Outstanding) (s : Session) → s.config.address ≡ here → Each CommandFits (option_to_list (outstanding_command s.state) ++ ws)
      → One r (option_to_list (outstanding_command s.state) ++ ws) → Each CommandFits (option_to_list (submitted_command o.exchange) ++ ws) → One r (option_to_list (submitted_command o.exchange) ++ ws) → HeardWell a (waiting_hears a k o s)
  waiting_well NotTaken k o s at fits one left rest = busy_well NotTaken o s at left rest
  waiting_well Damaged k o s at fits one left rest = stays_well Damaged (waiting_hears Damaged k o s) refl at left rest
  waiting_well NumberRefused k o s at fits one left rest = loses_well NumberRefused causes.NumberRefused o s at left rest
  waiting_well (Plain a) k o s at fits one left rest = answered_well o.exchange a s at fits one left rest
  waiting_well (Unreadable code) k o s at fits one left rest = unread_well (Unreadable code) o.exchange code s at fits one left rest

  pausing_well : (a : ReplyMeaning) (o : Outstanding) (s : Session) → s.config.address ≡ here → Each CommandFits (option_to_list (outstanding_command s.state) ++ ws)
      → One r (option_to_list (outstanding_command s.state) ++ ws) → Each CommandFits (option_to_list (submitted_command o.exchange) ++ ws) → One r (option_to_list (submitted_command o.exchange) ++ ws) → HeardWell a (pausing_hears a o s)
  pausing_well NotTaken o s at fits one left rest = stays_well NotTaken (ignores s) refl at fits one
  pausing_well Damaged o s at fits one left rest = stays_well Damaged (ignores s) refl at fits one
  pausing_well NumberRefused o s at fits one left rest = loses_well NumberRefused causes.NumberRefused o s at left rest
  pausing_well (Plain a) o s at fits one left rest = answered_well o.exchange a s at fits one left rest
  pausing_well (Unreadable code) o s at fits one left rest = unread_well (Unreadable code) o.exchange code s at fits one left rest

  in_well : (state : State) (number : ℕ) (a : ReplyMeaning) (s : Session) → s.state ≡ state → s.config.address ≡ here → Each CommandFits (option_to_list (outstanding_command s.state) ++ ws)
      → One r (option_to_list (outstanding_command s.state) ++ ws) → HeardWell a (hears_in state number a s)
  in_well (Waiting until k o) number a s is at fits one =
      both (HeardWell a) (is_numbered number a s) (waiting_hears a k o s) (ignores s)
      (waiting_well a k o s at fits one (subst (λ q. Each CommandFits (option_to_list (outstanding_command q) ++ ws)) is fits) (subst (λ q. One r (option_to_list (outstanding_command q) ++ ws)) is one))
      (stays_well a (ignores s) refl at fits one)
  in_well (Pausing until o) number a s is at fits one =
      both (HeardWell a) (is_numbered number a s) (pausing_hears a o s) (ignores s)
      (pausing_well a o s at fits one (subst (λ q. Each CommandFits (option_to_list (outstanding_command q) ++ ws)) is fits) (subst (λ q. One r (option_to_list (outstanding_command q) ++ ws)) is one))
      (stays_well a (ignores s) refl at fits one)
  in_well _ number a s is at fits one = stays_well a (ignores s) refl at fits one

  -- nothing happens, or the packet is from the reader at this address
  pub heard_well : (p : Packet) (now : ℕ) (s : Session) → s.config.address ≡ here → Each CommandFits (option_to_list (outstanding_command s.state) ++ ws) → One r (option_to_list (outstanding_command s.state) ++ ws)
      → HeardWell (said_by p) (hears p now s) × (StaysHere (hears p now s) ⊎ (p.address ≡ here))
  heard_well p now s at fits one = by_test p.reply (eqb p.address s.config.address) (not p.block) refl
    where
      at_last : Bool → Heard
      at_last b = cond b (hears_in s.state p.sequence (said_by p) (seen now s)) (ignores (seen now s))

      by_test : (reply same plain : Bool) → eqb p.address s.config.address ≡ same
          → HeardWell (said_by p) (at_last (reply && same && plain)) × (StaysHere (at_last (reply && same && plain)) ⊎ (p.address ≡ here))
      by_test true true true is = (
        in_well s.state p.sequence (said_by p) (seen now s) refl at fits one,
        inr (elim (eqb_tells p.address s.config.address) [ inl equal ↦ equal.1 ∙ at | inr differs ↦ absurd (let not = differs.0 in cc) ]),
      )
      by_test true true false is = (stays_well (said_by p) (ignores (seen now s)) refl at fits one, inl (at, refl))
      by_test true false plain is = (stays_well (said_by p) (ignores (seen now s)) refl at fits one, inl (at, refl))
      by_test false same plain is = (stays_well (said_by p) (ignores (seen now s)) refl at fits one, inl (at, refl))
