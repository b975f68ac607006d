-- After each move the reader is at an address of its link, and no packet on the line can send an end to any other.
use Rattle.osdp_bus_links.proofs.Common.{◌≡◌, ◌≢◌, ◌⊎◌, ◌<◌, ℕ, Bool, true, false, List, [], ◌∷◌, ◌++◌, Option, Some, None, IfSome, Result, Ok, Err, refl, sym, subst, ap, ◌∙◌, inl, inr, arith, append_assoc, append-nil, eqb_tells, option_to_list, Packet, CommandFits, ReplyFits, Command, Communication, Event, said_by, comset_of, hears, seen, ticks_in, ControllerFault, State, was_closed, MsgFault, command_in, SetsReader, address_in, outstanding_command, ahead, Answer, lacks_room, MoveFits, SaysWhatFitsIf, IsCommandTo, IsReplyFrom, NamesOne, ReadsWhatIsAnswered, ReadsWhatIsAsked, told_by, told_by_front, each_append, each_map, each_of, Each}
use Rattle.osdp_controller.specs.Machine as controllers
use Rattle.osdp_reader.specs.Table as reader
use Rattle.osdp_link_laws.specs.Link as link
use Rattle.osdp_link_laws.specs.Link.{Delivered, Delivery, Link, Lost, Move, Queue as QueueEvent, Reopen, Repeated, SetBusy, Submit, Tick, ToController, ToReader, after_move}
use Rattle.osdp_bus_links.proofs.Names.{IsName, MayAsk, MayMove, MovesController, MovesReader, accepted_for, asked_for, freed_by, IsUsual, reserved_after}
use Rattle.osdp_bus_links.proofs.ControllerNames.{HeardWell, StaysHere, ToldAsAsked, heard_well}
use Rattle.osdp_bus_links.proofs.ReaderNames.{IsFrom, IsStill, KeepsStill, ReaderGoes, ReaderStays, reader_well}
use Rattle.osdp_bus_links.proofs.Reserved.{One, Sends, TickedWell, moves_below, new_is, one_accepted, tick_frees_none, ticked_well}

-- what a command on the line, and a reply, may name
abbrev pub CommandNames : ℕ → Option ℕ → Packet → Type 0
CommandNames here r p = (to : ℕ) → SetsReader to p → IsName here r to

abbrev pub ReplyNames : ℕ → Option ℕ → ℕ → Packet → Type 0
ReplyNames here r there p = (to : ℕ) → MovesController to p → IsName here r to × (there ≡ to)

-- no COMSET but to this address
abbrev pub SetsOnly : ℕ → Packet → Type 0
SetsOnly there p = (to : ℕ) → SetsReader to p → to ≡ there

-- once a COMSET away was said, no other is to the controller's address
abbrev IsAfter : ℕ → Packet → Packet → Type 0
IsAfter here p q = (to : ℕ) → SetsReader to p → to ≢ here → (other : ℕ) → SetsReader other q → other ≢ here

abbrev pub InOrder : ℕ → List Packet → Type 0
InOrder here [] = Unit {0}
InOrder here (p ∷ ps) = Each (IsAfter here p) ps × InOrder here ps

-- .. with the controller at the one address and the reader at the other
pub record NamesAt (here : ℕ) (r : Option ℕ) (there : ℕ) (kept : Option Packet) (ps qs : List Packet) : Type 0 where
  pub device : there < 127
  pub reader : IsName here r there
  pub commands : Each (CommandNames here r) ps
  pub away : there ≢ here → Each (SetsOnly there) ps
  pub order : InOrder here ps
  pub replies : Each (ReplyNames here r there) qs
  pub stored : IfSome kept (λ q. IsFrom there q × IsStill q)

order_last : (here : ℕ) (ps : List Packet) (p : Packet) → Each (λ q. IsAfter here q p) ps → InOrder here ps → InOrder here (ps ++ p ∷ [])
order_last here [] p before order = (tt, tt)
order_last here (q ∷ ps) p before order =
    (each_append (IsAfter here q) ps (p ∷ []) order.0 (before.0, tt), order_last here ps p before.1 order.1)

order_more : (here : ℕ) (ps : List Packet) (o : Option Packet) → IfSome o (λ p. Each (λ q. IsAfter here q p) ps) → InOrder here ps
    → InOrder here (ps ++ option_to_list o)
order_more here ps None before order = subst (InOrder here) (sym (append-nil ps)) order
order_more here ps (Some p) before order = order_last here ps p before order

order_of_only : (here : ℕ) (ps : List Packet) → Each (SetsOnly here) ps → InOrder here ps
order_of_only here [] only = tt
order_of_only here (p ∷ ps) only =
    (each_any (IsAfter here p) (λ q to sets away. absurd (away (only.0 to sets))) ps, order_of_only here ps only.1)
  where
    each_any : (P : Packet → Type 0) → ((q : Packet) → P q) → (qs : List Packet) → Each P qs
    each_any P all [] = tt
    each_any P all (q ∷ qs) = (all q, each_any P all qs)

sets_of : (to : ℕ) (p : Packet) → MovesReader to p → SetsReader to p
sets_of to p moves = ap address_in moves.read ∙ moves.sets

one_set : (p : Packet) (to other : ℕ) → SetsReader to p → SetsReader other p → other ≡ to
one_set p to other sets again = let both = sym sets ∙ again in cc

sets_below : (to : ℕ) (p : Packet) → SetsReader to p → to < 127
sets_below to p sets = by_command (command_in p) sets
  where
    by_command : (c : Result Command MsgFault) → address_in c ≡ Some to → to < 127
    by_command (Ok c) sets = (new_is c to sets).3
    by_command (Err fault) sets = absurd cc

module _ {H : Type 0} where
  abbrev pub Names : ℕ → Option ℕ → Link H → Type 0
  Names here r l = NamesAt here r l.reader.config.address l.reader.stored l.to_reader l.to_controller

  pub record Keeps (r : Option ℕ) (l : Link H) : Type 0 where
    pub one : One r (ahead l.controller)
    pub fits : Each CommandFits (ahead l.controller)
    pub names : Names l.controller.session.config.address r l

-- ---- names

same_name : (r : Option ℕ) (d y : ℕ) → r ≡ Some d → r ≡ Some y → y ≡ d
same_name r d y is kept = cc

-- a name other than the controller's address is the one that is kept
not_here : (here : ℕ) (r : Option ℕ) (y : ℕ) → y ≢ here → IsName here r y → r ≡ Some y
not_here here r y other (inl same) = absurd (other same)
not_here here r y other (inr kept) = kept

-- a name that is no longer kept was none
kept_name : (here : ℕ) (r : Option ℕ) (d y : ℕ) → r ≡ Some d → y ≢ d → IsName here r y → IsName here None y
kept_name here r d y is other (inl same) = inl same
kept_name here r d y is other (inr kept) = absurd (other (same_name r d y is kept))

wider : (here y : ℕ) (r : Option ℕ) → IsName here None y → IsName here r y
wider here y r (inl same) = inl same
wider here y r (inr kept) = absurd cc

asked_name : (here y : ℕ) (o : Option Communication) (r : Option ℕ) → MayAsk o r → IsName here r y → IsName here (asked_for o r) y
asked_name here y None r may is = is
asked_name here y (Some d) r may is = wider here y (Some d.address) (subst (λ q. IsName here q y) may is)

line_more : (P : Packet → Type 0) (ps : List Packet) (o : Option Packet) → Each P ps → IfSome o P → Each P (ps ++ option_to_list o)
line_more P ps None all more = subst (Each P) (sym (append-nil ps)) all
line_more P ps (Some p) all more = each_append P ps (p ∷ []) all (more, tt)

if_map : {A : Type 0} (P Q : A → Type 0) (o : Option A) → ((x : A) → P x → Q x) → IfSome o P → IfSome o Q
if_map P Q None f h = tt
if_map P Q (Some x) f h = f x h

module _ {H : Type 0} (answer_of : H → Command → Answer) (after : H → Command → H) where
  -- ---- calls

  submitting : (refusal : Option ControllerFault) (c : Command) (r : Option ℕ) (l : Link H) → MayAsk (comset_of c) r → CommandFits c → Keeps r l
      → Keeps (accepted_for refusal c r) (link.submits refusal c l)
  submitting (Some fault) c r l may fits h = h
  submitting None c r l may fits h =
      let cs = option_to_list (outstanding_command l.controller.session.state) in
      let here = l.controller.session.config.address in
      let there = l.reader.config.address in
      let new = asked_for (comset_of c) r in
      record {
        one = subst (One new) (append_assoc cs l.controller.waiting (c ∷ []))
            (one_accepted (comset_of c) r (cs ++ l.controller.waiting) c refl may h.one);
        fits = subst (Each CommandFits) (append_assoc cs l.controller.waiting (c ∷ []))
            (each_append CommandFits (cs ++ l.controller.waiting) (c ∷ []) h.fits (fits, tt));
        names = record {
          device = h.names.device;
          reader = asked_name here there (comset_of c) r may h.names.reader;
          commands = each_map (CommandNames here r) (CommandNames here new)
              (λ p is to sets. asked_name here to (comset_of c) r may (is to sets)) l.to_reader h.names.commands;
          away = h.names.away;
          order = h.names.order;
          replies = each_map (ReplyNames here r there) (ReplyNames here new there)
              (λ p is to moves. (asked_name here to (comset_of c) r may (is to moves).0, (is to moves).1)) l.to_controller h.names.replies;
          stored = h.names.stored;
        };
      }

  queueing : (full : Bool) (e : Event) (r : Option ℕ) (l : Link H) → Keeps r l → Keeps r (link.queues full e l)
  queueing true e r l h = h
  queueing false e r l h = record { one = h.one; fits = h.fits; names = h.names }

  none_asked : (state : State) → controllers.refused_unless_closed state ≡ None → option_to_list (outstanding_command state) ≡ []
  none_asked state e = ap (λ st. option_to_list (outstanding_command st)) (was_closed state e)

  reopening : (refusal : Option ControllerFault) (ps qs : List Packet) (now : ℕ) (r : Option ℕ) (l : Link H) → controllers.begin_refusal l.controller ≡ refusal
      → Keeps r l → Keeps r (link.reopens refusal ps qs now l)
  reopening (Some fault) ps qs now r l is h = h
  reopening None (p ∷ ps) qs now r l is h = h
  reopening None [] (q ∷ qs) now r l is h = h
  reopening None [] [] now r l is h =
      let none = none_asked l.controller.session.state is in
      record {
        one = subst (λ cs. One r (cs ++ l.controller.waiting)) none h.one;
        fits = subst (λ cs. Each CommandFits (cs ++ l.controller.waiting)) none h.fits;
        names = h.names;
      }

  ticking : ReadsWhatIsAsked → (now : ℕ) (r : Option ℕ) (l : Link H) → Keeps r l → Keeps r (after_move answer_of after (Tick now) l)
  ticking reads now r l h =
      let here = l.controller.session.config.address in
      let there = l.reader.config.address in
      let t = ticks_in l.controller.session.state (seen now l.controller.session) l.controller.waiting in
      let well : TickedWell reads r here t = ticked_well reads r here now l.controller.session l.controller.waiting refl h.fits h.one in
      let new = after_move answer_of after (Tick now) l in
      record {
        one = well.one;
        fits = well.fits;
        names = subst (λ a. Names a r new) (sym well.address) (record {
          device = h.names.device;
          reader = h.names.reader;
          commands = line_more (CommandNames here r) l.to_reader t.step.frame h.names.commands
              (if_map (Sends reads r here) (CommandNames here r) t.step.frame (λ p sends to sets. inr (sends to sets)) well.frame);
          away = λ other. line_more (SetsOnly there) l.to_reader t.step.frame (h.names.away other)
              (if_map (Sends reads r here) (SetsOnly there) t.step.frame
              (λ p sends to sets. same_name r there to (not_here here r there other h.names.reader) (sends to sets)) well.frame);
          order = order_more here l.to_reader t.step.frame
              (if_map (Sends reads r here) (λ p. Each (λ q. IsAfter here q p) l.to_reader) t.step.frame (λ p sends.
              each_map (CommandNames here r) (λ q. IsAfter here q p)
              (λ q names to set away other sets same. away (sym (same_name r to other (not_here here r to away (names to set)) (sends other sets)) ∙ same))
              l.to_reader h.names.commands) well.frame) h.names.order;
          replies = h.names.replies;
          stored = h.names.stored;
        });
      }

  -- ---- to the reader

  -- the reader goes where no reply on the line sends the controller: each of those comes from where the reader was
  left : (here : ℕ) (r : Option ℕ) (device there to : ℕ) (qs : List Packet) → there ≡ device → Each (IsReplyFrom device) qs → Each (ReplyNames here r there) qs
      → Each (ReplyNames here r to) qs
  left here r device there to [] at from names = tt
  left here r device there to (q ∷ qs) at from names = (
    λ other moves. absurd (moves.other (sym (names.0 other moves).1 ∙ at ∙ sym from.0.1)),
    left here r device there to qs at from.1 names.1,
  )

  stays_there : (r : Option ℕ) (p : Packet) (l : Link H) → ReaderStays l.reader.config.address (reader.hears answer_of after l.reader p)
      → KeepsStill (reader.hears answer_of after l.reader p).reader → Keeps r l → Keeps r (link.reader_gets answer_of after p l)
  stays_there r p l (stays, quiet) stored h =
      let here = l.controller.session.config.address in
      let there = l.reader.config.address in
      let o = reader.hears answer_of after l.reader p in
      record {
        one = h.one;
        fits = h.fits;
        names = record {
          device = subst (λ a. a < 127) (sym stays) h.names.device;
          reader = subst (IsName here r) (sym stays) h.names.reader;
          commands = h.names.commands;
          away = λ other. subst (λ a. Each (SetsOnly a) l.to_reader) (sym stays) (h.names.away (λ e. other (stays ∙ e)));
          order = h.names.order;
          replies = subst (λ a. Each (ReplyNames here r a) (l.to_controller ++ option_to_list o.reply)) (sym stays)
              (line_more (ReplyNames here r there) l.to_controller o.reply h.names.replies
              (if_map IsStill (ReplyNames here r there) o.reply (λ q still to moves. absurd (still to moves)) quiet));
          stored = stored;
        };
      }

  -- what stands after it goes to the same address
  only_there : (here : ℕ) (r : Option ℕ) (p : Packet) (to : ℕ) (qs : List Packet) → to ≢ here → r ≡ Some to → SetsReader to p → Each (IsAfter here p) qs
      → Each (CommandNames here r) qs → Each (SetsOnly to) qs
  only_there here r p to [] other kept set later names = tt
  only_there here r p to (q ∷ qs) other kept set later names = (
    λ far sets. same_name r to far kept (not_here here r far (later.0 to set other far sets) (names.0 far sets)),
    only_there here r p to qs other kept set later.1 names.1,
  )

  goes_there : (r : Option ℕ) (device : ℕ) (p : Packet) (l : Link H) → IsCommandTo device p → Each (IsReplyFrom device) l.to_controller
      → CommandNames l.controller.session.config.address r p → Each (IsAfter l.controller.session.config.address p) l.to_reader
      → ReaderGoes l.reader.config.address p (reader.hears answer_of after l.reader p)
      → KeepsStill (reader.hears answer_of after l.reader p).reader → Keeps r l → Keeps r (link.reader_gets answer_of after p l)
  goes_there r device p l to_device from_device names later goes stored h =
      let here = l.controller.session.config.address in
      let there = l.reader.config.address in
      let o = reader.hears answer_of after l.reader p in
      let set = sets_of goes.to p goes.moves in
      let named = names goes.to set in
      record {
        one = h.one;
        fits = h.fits;
        names = record {
          device = subst (λ a. a < 127) (sym goes.address) (moves_below goes.to p goes.moves);
          reader = subst (IsName here r) (sym goes.address) named;
          commands = h.names.commands;
          away = λ other.
              let to_other : goes.to ≢ here = λ e. other (goes.address ∙ e) in
              subst (λ a. Each (SetsOnly a) l.to_reader) (sym goes.address) (only_there here r p goes.to l.to_reader to_other
              (not_here here r goes.to to_other named) set later h.names.commands);
          order = h.names.order;
          replies = subst (λ a. Each (ReplyNames here r a) (l.to_controller ++ option_to_list o.reply)) (sym goes.address)
              (line_more (ReplyNames here r goes.to) l.to_controller o.reply
              (left here r device there goes.to l.to_controller (sym goes.named ∙ to_device.1) from_device h.names.replies)
              (if_map (λ q. (other : ℕ) → MovesController other q → other ≡ goes.to) (ReplyNames here r goes.to) o.reply
              (λ q says other moves. (subst (IsName here r) (sym (says other moves)) named, sym (says other moves))) goes.says));
          stored = stored;
        };
      }

  gets : ReadsWhatIsAnswered → (r : Option ℕ) (device : ℕ) (p : Packet) (l : Link H) → device < 127 → IsCommandTo device p → Each (IsReplyFrom device) l.to_controller
      → CommandNames l.controller.session.config.address r p → Each (IsAfter l.controller.session.config.address p) l.to_reader
      → IfSome (reader.hears answer_of after l.reader p).said ReplyFits → Keeps r l
      → Keeps r (link.reader_gets answer_of after p l)
  gets reads r device p l below to_device from_device names later fits h =
      let well = reader_well reads answer_of after l.reader p (subst (λ a. a < 127) (sym to_device.1) below) fits h.names.stored in
      elim well.goes [
        | inl stays ↦ stays_there r p l stays well.stored h
        | inr goes ↦ goes_there r device p l to_device from_device names later goes well.stored h
      ]

  with_lines : (r : Option ℕ) (l : Link H) (ps qs : List Packet) → Each (CommandNames l.controller.session.config.address r) ps
      → (l.reader.config.address ≢ l.controller.session.config.address → Each (SetsOnly l.reader.config.address) ps)
      → InOrder l.controller.session.config.address ps → Each (ReplyNames l.controller.session.config.address r l.reader.config.address) qs → Keeps r l
      → Keeps r (record l { to_reader = ps; to_controller = qs })
  with_lines r l ps qs commands away order replies h = record {
    one = h.one;
    fits = h.fits;
    names = record {
      device = h.names.device;
      reader = h.names.reader;
      commands = commands;
      away = away;
      order = order;
      replies = replies;
      stored = h.names.stored;
    };
  }

  -- what is read leaves the line
  without_front : (p : Packet) (ps : List Packet) (r : Option ℕ) (l : Link H) → l.to_reader ≡ p ∷ ps → Keeps r l
      → Keeps r (record l { to_reader = ps })
  without_front p ps r l is h =
      let here = l.controller.session.config.address in
      let there = l.reader.config.address in
      with_lines r l ps l.to_controller (subst (Each (CommandNames here r)) is h.names.commands).1
      (λ other. (subst (Each (SetsOnly there)) is (h.names.away other)).1) (subst (InOrder here) is h.names.order).1 h.names.replies h

  to_reader_keeps : ReadsWhatIsAnswered → (how : Delivery) (ps : List Packet) (r : Option ℕ) (device : ℕ) (l : Link H) → l.to_reader ≡ ps → device < 127
      → Each (IsCommandTo device) ps → Each (IsReplyFrom device) l.to_controller → SaysWhatFitsIf answer_of after how ps l.reader → Keeps r l → Keeps r (link.to_reader answer_of after ps how l)
  to_reader_keeps reads how [] r device l is below to_device from_device fits h = h
  to_reader_keeps reads Delivered (p ∷ ps) r device l is below to_device from_device fits h =
      let all = subst (Each (CommandNames l.controller.session.config.address r)) is h.names.commands in
      let order = subst (InOrder l.controller.session.config.address) is h.names.order in
      gets reads r device p (record l { to_reader = ps }) below to_device.0 from_device all.0 order.0 fits (without_front p ps r l is h)
  to_reader_keeps reads Lost (p ∷ ps) r device l is below to_device from_device fits h = without_front p ps r l is h
  to_reader_keeps reads Repeated (p ∷ ps) r device l is below to_device from_device fits h =
      let here = l.controller.session.config.address in
      let all = subst (Each (CommandNames here r)) is h.names.commands in
      let order = subst (InOrder here) is h.names.order in
      let itself : IsAfter here p p = λ to sets other far again same. other (sym (one_set p to far sets again) ∙ same) in
      gets reads r device p l below to_device.0 from_device all.0 (subst (Each (IsAfter here p)) (sym is) (itself, order.0)) fits h

  -- ---- to the controller

  -- a COMSET to no device's address is settled: nothing is at that address, and nothing goes there
  freed : (here far : ℕ) (r : Option ℕ) (l : Link H) → r ≡ Some far → 126 < far → Names here r l → Names here None l
  freed here far r l is above h =
      let there = l.reader.config.address in
      record {
        device = h.device;
        reader = kept_name here r far there is (λ e. let small = h.device in omega (arith, above, small, e)) h.reader;
        commands = each_map (CommandNames here r) (CommandNames here None)
            (λ p names to sets. kept_name here r far to is (λ e. let small = sets_below to p sets in omega (arith, above, small, e)) (names to sets))
            l.to_reader h.commands;
        away = h.away;
        order = h.order;
        replies = each_map (ReplyNames here r there) (ReplyNames here None there)
            (λ p names to moves. (kept_name here r far to is (λ e. let small = moves.device in omega (arith, above, small, e)) (names to moves).0, (names to moves).1))
            l.to_controller h.replies;
        stored = h.stored;
      }

  -- the controller goes to the address that was kept for it: the reader is there, and all that moves an end sends it there
  same_at : (here to y : ℕ) (r : Option ℕ) → r ≡ Some to → (y ≡ here → here ≡ to) → IsName here r y → IsName to None y
  same_at here to y r is at (inl same) = inl (same ∙ at same)
  same_at here to y r is at (inr kept) = inl (same_name r to y is kept)

  went_elsewhere : (here to : ℕ) (r : Option ℕ) (l : Link H) → l.reader.config.address ≡ to → to ≢ here → Names here r l → Names to None l
  went_elsewhere here to r l there other h =
      let only : Each (SetsOnly to) l.to_reader = subst (λ a. Each (SetsOnly a) l.to_reader) there (h.away (λ e. other (sym there ∙ e))) in
      record {
        device = h.device;
        reader = inl there;
        commands = each_map (SetsOnly to) (CommandNames to None) (λ p sets far set. inl (sets far set)) l.to_reader only;
        away = λ elsewhere. absurd (elsewhere there);
        order = order_of_only to l.to_reader only;
        replies = each_map (ReplyNames here r l.reader.config.address) (ReplyNames to None l.reader.config.address)
            (λ p names far moves. (inl (sym (names far moves).1 ∙ there), (names far moves).1)) l.to_controller h.replies;
        stored = h.stored;
      }

  went_nowhere : (here : ℕ) (r : Option ℕ) (l : Link H) → r ≡ Some here → Names here r l → Names here None l
  went_nowhere here r l is h = record {
    device = h.device;
    reader = same_at here here l.reader.config.address r is (λ e. refl) h.reader;
    commands = each_map (CommandNames here r) (CommandNames here None)
        (λ p names to sets. same_at here here to r is (λ e. refl) (names to sets)) l.to_reader h.commands;
    away = h.away;
    order = h.order;
    replies = each_map (ReplyNames here r l.reader.config.address) (ReplyNames here None l.reader.config.address)
        (λ p names to moves. (same_at here here to r is (λ e. refl) (names to moves).0, (names to moves).1)) l.to_controller h.replies;
    stored = h.stored;
  }

  never : (r k : Option ℕ) (to : ℕ) → k ≡ None → r ≡ Some to → k ≡ r → ⊥
  never r k to none some same = cc

  went : (here to device : ℕ) (r : Option ℕ) (q : Packet) (l : Link H) → IsReplyFrom device q → q.address ≡ here
      → r ≡ Some to → (to ≢ q.address → l.reader.config.address ≡ to) → Names here r l → Names to None l
  went here to device r q l from at is there h =
      elim (eqb_tells to q.address) [
        | inl equal ↦
            let same : to ≡ here = equal.1 ∙ at in
            subst (λ a. Names a None l) (sym same) (went_nowhere here r l (is ∙ ap Some same) h)
        | inr differs ↦ went_elsewhere here to r l (there differs.1) (λ e. differs.1 (e ∙ sym at)) h
      ]

  -- what is left of the names where the controller has heard a reply
  names_after : (r : Option ℕ) (device : ℕ) (q : Packet) (now : ℕ) (l : Link H) → Each (IsCommandTo device) l.to_reader → IsReplyFrom device q
      → ReplyNames l.controller.session.config.address r l.reader.config.address q → ToldAsAsked (hears q now l.controller.session).report
      → HeardWell r l.controller.session.config.address l.controller.waiting (said_by q) (hears q now l.controller.session)
      → StaysHere r l.controller.session.config.address l.controller.waiting (hears q now l.controller.session) ⊎ (q.address ≡ l.controller.session.config.address)
      → Names l.controller.session.config.address r l
      → Names (hears q now l.controller.session).session.config.address (freed_by (hears q now l.controller.session).report r) l
  names_after r device q now l to_device from names told well from_here h =
      let here = l.controller.session.config.address in
      let heard = hears q now l.controller.session in
      elim well.goes [
        | inl stays ↦ subst (λ a. Names a (freed_by heard.report r) l) (sym stays.0) (subst (λ k. Names here k l) (sym stays.1) h)
        | inr (inl free) ↦ subst (λ a. Names a (freed_by heard.report r) l) (sym free.address)
            (subst (λ k. Names here k l) (sym free.freed) (freed here free.asked.address r l free.reserved (free.far told) h))
        | inr (inr goes) ↦
            let to = goes.answered.address in
            let at : q.address ≡ here = elim from_here [
              | inl still ↦ absurd (never r (freed_by heard.report r) to goes.freed goes.reserved still.1)
              | inr at ↦ at
            ] in
            subst (λ a. Names a (freed_by heard.report r) l) (sym goes.address)
            (subst (λ k. Names to k l) (sym goes.freed)
            (went here to device r q l from at goes.reserved
            (λ other. (names to (record { answered = goes.answered; read = goes.said_so; sets = refl; device = goes.device; other = other })).1) h))
      ]

  hearing : (r : Option ℕ) (device : ℕ) (q : Packet) (now : ℕ) (l : Link H) → Each (IsCommandTo device) l.to_reader → IsReplyFrom device q
      → ReplyNames l.controller.session.config.address r l.reader.config.address q → ToldAsAsked (hears q now l.controller.session).report → Keeps r l
      → Keeps (freed_by (hears q now l.controller.session).report r) (link.controller_gets q now l)
  hearing r device q now l to_device from names told h =
      let well = heard_well r l.controller.session.config.address l.controller.waiting q now l.controller.session refl h.fits h.one in
      let left = names_after r device q now l to_device from names told well.0 well.1 h.names in
      record { one = well.0.one; fits = well.0.fits; names = left }

  to_controller_keeps : (how : Delivery) (qs : List Packet) (now : ℕ) (r : Option ℕ) (device : ℕ) (l : Link H) → l.to_controller ≡ qs
      → Each (IsCommandTo device) l.to_reader → Each (IsReplyFrom device) qs → ToldAsAsked (told_by_front how qs now l.controller.session) → Keeps r l
      → Keeps (freed_by (told_by_front how qs now l.controller.session) r) (link.to_controller qs how now l)
  to_controller_keeps Delivered [] now r device l is to_device from told h = h
  to_controller_keeps Lost [] now r device l is to_device from told h = h
  to_controller_keeps Repeated [] now r device l is to_device from told h = h
  to_controller_keeps Delivered (q ∷ qs) now r device l is to_device from told h =
      let all = subst (Each (ReplyNames l.controller.session.config.address r l.reader.config.address)) is h.names.replies in
      hearing r device q now (record l { to_controller = qs }) to_device from.0 all.0 told (with_lines r l l.to_reader qs h.names.commands h.names.away h.names.order all.1 h)
  to_controller_keeps Lost (q ∷ qs) now r device l is to_device from told h =
      let all = subst (Each (ReplyNames l.controller.session.config.address r l.reader.config.address)) is h.names.replies in
      with_lines r l l.to_reader qs h.names.commands h.names.away h.names.order all.1 h
  to_controller_keeps Repeated (q ∷ qs) now r device l is to_device from told h =
      let all = subst (Each (ReplyNames l.controller.session.config.address r l.reader.config.address)) is h.names.replies in
      hearing r device q now l to_device from.0 all.0 told h

  -- ---- a move, and a list of them

  pub keeps_move : ReadsWhatIsAsked → ReadsWhatIsAnswered → (move : Move H) (r : Option ℕ) (l : Link H) (device : ℕ) → NamesOne device l.to_reader l.to_controller
      → IsUsual move → MoveFits answer_of after move l → ToldAsAsked (told_by move l) → MayMove move r → Keeps r l → Keeps (reserved_after move l r) (after_move answer_of after move l)
  keeps_move asked answered (Submit c) r l device one usual fits told may h = submitting (controllers.submit_refusal c l.controller) c r l may fits h
  keeps_move asked answered (QueueEvent e) r l device one usual fits told may h =
      queueing (lacks_room e l.reader.queue) e r l h
  keeps_move asked answered (SetBusy busy) r l device one usual fits told may h =
      record { one = h.one; fits = h.fits; names = h.names }
  keeps_move asked answered (Tick now) r l device one usual fits told may h =
      subst (λ k. Keeps k (after_move answer_of after (Tick now) l))
      (sym (tick_frees_none r l.controller.session.state (seen now l.controller.session) l.controller.waiting))
      (ticking asked now r l h)
  keeps_move asked answered (ToReader how) r l device one usual fits told may h =
      to_reader_keeps answered how l.to_reader r device l refl one.below (each_of (IsCommandTo device) l.to_reader one.commands)
      (each_of (IsReplyFrom device) l.to_controller one.replies) fits h
  keeps_move asked answered (ToController how now) r l device one usual fits told may h =
      to_controller_keeps how l.to_controller now r device l refl (each_of (IsCommandTo device) l.to_reader one.commands)
      (each_of (IsReplyFrom device) l.to_controller one.replies) told h
  keeps_move asked answered (Reopen now) r l device one usual fits told may h =
      reopening (controllers.begin_refusal l.controller) l.to_reader l.to_controller now r l refl h
  keeps_move asked answered _ r l device one usual fits told may h = absurd usual
