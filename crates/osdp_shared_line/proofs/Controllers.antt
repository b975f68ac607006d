-- What a controller sends and where it goes: a frame to its own address, and the address of its outstanding COMSET.
use Rattle.osdp_shared_line.proofs.Common.{◌≡◌, ◌⊎◌, ◌<◌, ◌+◌, ℕ, Bool, true, false, cond, leb, ltb, eqb, List, [], ◌∷◌, ◌++◌, Option, Some, None, refl, sym, subst, ap, ◌∙◌, inl, inr, arith, leb-false, ltb-true, eqb_tells, append-nil, ◌&&◌, not, nat_le, option_to_list, Packet, next_sequence, CommandFits, Command, Communication, Reply, PdId, said_by, Heard, answered, answered_unread, com_of, command_answered, comset_of, hears, hears_busy, hears_in, ignores, is_numbered, loses, moved_by, opening_answered, pausing_hears, pd_id_of, waiting_hears, frame_of, later, seen, Ticked, begins, idle_way, gives_up, sends_frame, stays, ticks_in, tries_again, Exchange, Opening, Polling, Asking, Outstanding, ReplyMeaning, NotTaken, Damaged, NumberRefused, Plain, Unreadable, Session, State, Closed, Quiet, Idle, Waiting, Pausing, ReadsWhatIsAsked, both, Each, Sets, SetsReader, Somewhere, address_in, outstanding_command, submitted_command}
use Rattle.osdp_msg.specs.declared.command.Command.TheVariants as command
use Rattle.osdp_controller.specs.declared.report.LostCause.{LostCause}
use Rattle.osdp_controller.specs.declared.report.LostCause.TheVariants as causes

-- ---- COMSETs

-- a COMSET to a device's address
sets_device : (c : Command) (d : Communication) → comset_of c ≡ Some d → d.address < 127 → Sets d.address c
sets_device (command.Comset e) d is device =
    let same : e ≡ d = cc in
    subst (λ (f : Communication). cond (nat_le f.address 126) (Some f.address) None ≡ Some d.address) (sym same)
    (ap (λ b. cond b (Some d.address) None) (small (leb d.address 126) refl))
  where
    small : (b : Bool) → leb d.address 126 ≡ b → leb d.address 126 ≡ true
    small true is = is
    small false is = absurd (let above = leb-false d.address 126 is in omega (arith, device, above))
sets_device _ d is device = absurd cc

none_sets : (to : ℕ) → None ≡ Some to → ⊥
none_sets to is = cc

-- the COM that moves is that of the COMSET, with a device's address
moves_by : (asked came : Option Communication) (d : Communication) → moved_by asked came ≡ Some d
    → (e : Communication) × (asked ≡ Some e) × (d.address ≡ e.address) × (d.address < 127)
moves_by None came d is = absurd cc
moves_by (Some e) None d is = absurd cc
moves_by (Some e) (Some f) d is = by_test (ltb f.address 127) (eqb f.address e.address) refl refl is
  where
    by_test : (small same : Bool) → ltb f.address 127 ≡ small → eqb f.address e.address ≡ same → cond (small && same) (Some f) None ≡ Some d
        → (g : Communication) × (Some e ≡ Some g) × (d.address ≡ g.address) × (d.address < 127)
    by_test true true lt eq is =
        let same : f ≡ d = cc in
        let at : f.address ≡ e.address = elim (eqb_tells f.address e.address) [ inl equal ↦ equal.1 | inr differs ↦ absurd (let not = differs.0 in cc) ] in
        (e, refl, sym (ap (λ (h : Communication). h.address) same) ∙ at, subst (λ (h : Communication). h.address < 127) same (ltb-true f.address 127 lt))
    by_test true false lt eq is = absurd cc
    by_test false same lt eq is = absurd cc

-- ---- ticks

-- what is sent is sent to the own address, and a COMSET among it is one that has not ended
abbrev pub IsSent : ℕ → List Command → Packet → Type 0
IsSent here asked p = (p.address ≡ here) × ((to : ℕ) → SetsReader to p → Somewhere (Sets to) asked)

-- some commands have ended, and no other has come
abbrev pub AreLeft : List Command → List Command → Type 0
AreLeft old new = (ended : List Command) × (old ≡ ended ++ new)

pub record TicksWell (here : ℕ) (asked : List Command) (t : Ticked) : Type 0 where
  pub address : t.session.config.address ≡ here
  pub left : AreLeft asked (option_to_list (outstanding_command t.session.state) ++ t.waiting)
  pub sent : Each (IsSent here (option_to_list (outstanding_command t.session.state) ++ t.waiting)) (option_to_list t.step.frame)

module _ (reads : ReadsWhatIsAsked) where
  frame_sets : (x : Exchange) (s : Session) (ws : List Command) → Each CommandFits (option_to_list (submitted_command x) ++ ws)
      → (to : ℕ) → SetsReader to (frame_of x s) → Somewhere (Sets to) (option_to_list (submitted_command x) ++ ws)
  frame_sets Opening s ws fits to sets = absurd (none_sets to (sym (ap address_in (reads Opening s (omega arith))) ∙ sets))
  frame_sets Polling s ws fits to sets = absurd (none_sets to (sym (ap address_in (reads Polling s tt)) ∙ sets))
  frame_sets (Asking c) s ws fits to sets = inl (sym (ap address_in (reads (Asking c) s fits.0)) ∙ sets)

  sending : (k : ℕ) (o : Outstanding) (s : Session) (ws : List Command) → Each CommandFits (option_to_list (submitted_command o.exchange) ++ ws)
      → TicksWell s.config.address (option_to_list (submitted_command o.exchange) ++ ws) (sends_frame k o s ws)
  sending k o s ws fits = record { address = refl; left = ([], refl); sent = ((refl, frame_sets o.exchange s ws fits), tt) }

  giving_up : (o : Outstanding) (s : Session) (ws : List Command) → TicksWell s.config.address (option_to_list (submitted_command o.exchange) ++ ws) (gives_up o s ws)
  giving_up o s ws = record { address = refl; left = (option_to_list (submitted_command o.exchange), refl); sent = tt }

  pub ticks_well : (state : State) (s : Session) (ws : List Command) → s.state ≡ state → Each CommandFits (option_to_list (outstanding_command state) ++ ws)
      → TicksWell s.config.address (option_to_list (outstanding_command state) ++ ws) (ticks_in state s ws)
  ticks_well state s ws at fits = by_state state at fits
    where
      rests : (state : State) (cs : List Command) → s.state ≡ state → TicksWell s.config.address (option_to_list (outstanding_command state) ++ cs) (stays s cs)
      rests state cs at = record { address = refl; left = ([], ap (λ q. option_to_list (outstanding_command q) ++ cs) (sym at)); sent = tt }

      by_state : (state : State) → s.state ≡ state → Each CommandFits (option_to_list (outstanding_command state) ++ ws)
          → TicksWell s.config.address (option_to_list (outstanding_command state) ++ ws) (ticks_in state s ws)
      by_state Closed at fits = rests Closed ws at
      by_state (Quiet until) at fits =
          both (TicksWell s.config.address ws) (leb until s.greatest) (begins Opening 0 s ws) (stays s ws)
          (sending 1 (record { exchange = Opening; busies = 0; sent = 0 }) (record s { number = 0; asked = false }) ws fits) (rests (Quiet until) ws at)
      by_state (Idle due) at fits =
          idle_way (TicksWell s.config.address ws) due s ws
          (λ e. sending 1 (record { exchange = Polling; busies = 0; sent = 0 }) (record s { number = next_sequence s.number; asked = false }) ws fits)
          (λ e. rests (Idle due) ws at)
          (λ c rest e. subst (λ cs. TicksWell s.config.address cs (begins (Asking c) (next_sequence s.number) s rest)) (sym e)
          (sending 1 (record { exchange = Asking c; busies = 0; sent = 0 }) (record s { number = next_sequence s.number; asked = true }) rest (subst (Each CommandFits) e fits)))
      by_state (Waiting until k o) at fits =
          both (TicksWell s.config.address (option_to_list (submitted_command o.exchange) ++ ws)) (leb until s.greatest) (tries_again k o s ws) (stays s ws)
          (both (TicksWell s.config.address (option_to_list (submitted_command o.exchange) ++ ws)) (ltb k s.config.sends) (sends_frame (k + 1) o s ws) (gives_up o s ws)
          (sending (k + 1) o s ws fits) (giving_up o s ws)) (rests (Waiting until k o) ws at)
      by_state (Pausing until o) at fits =
          both (TicksWell s.config.address (option_to_list (submitted_command o.exchange) ++ ws)) (leb until s.greatest) (sends_frame 1 o s ws) (stays s ws)
          (sending 1 o s ws fits) (rests (Pausing until o) ws at)

-- ---- what a frame brings about

-- the controller stays, or goes to the address of the COMSET that is outstanding, and its session ends; no command is outstanding that was not
pub record HearsWell (here : ℕ) (asked : List Command) (h : Heard) : Type 0 where
  pub goes : (h.session.config.address ≡ here)
      ⊎ ((h.session.state ≡ Closed) × (h.session.config.address < 127) × Somewhere (Sets h.session.config.address) asked)
  pub left : AreLeft asked (option_to_list (outstanding_command h.session.state))

module _ (here : ℕ) where
  -- nothing is asked any more
  ends : (asked : List Command) (h : Heard) → h.session.config.address ≡ here → option_to_list (outstanding_command h.session.state) ≡ [] → HearsWell here asked h
  ends asked h at none = record { goes = inl at; left = (asked, sym (append-nil asked) ∙ ap (λ cs. asked ++ cs) (sym none)) }

  -- the same is asked as before
  keeps : (asked : List Command) (h : Heard) → h.session.config.address ≡ here → option_to_list (outstanding_command h.session.state) ≡ asked → HearsWell here asked h
  keeps asked h at same = record { goes = inl at; left = ([], sym same) }

  command_well : (to : Option Communication) (c : Command) (a : Reply) (s : Session) → moved_by (comset_of c) (com_of a) ≡ to
      → s.config.address ≡ here → HearsWell here (c ∷ []) (command_answered to c a s)
  command_well None c a s is at = ends (c ∷ []) (command_answered None c a s) at refl
  command_well (Some d) c a s is at =
      let moves = moves_by (comset_of c) (com_of a) d is in
      record {
        goes = inr (
          refl,
          moves.3,
          inl (subst (λ b. Sets b c) (sym moves.2) (sets_device c moves.0 moves.1 (subst (λ b. b < 127) moves.2 moves.3))),
        );
        left = (c ∷ [], refl);
      }

  opened_well : (id : Option PdId) (s : Session) → s.config.address ≡ here → option_to_list (outstanding_command s.state) ≡ [] → HearsWell here [] (opening_answered id s)
  opened_well None s at none = keeps [] (ignores s) at none
  opened_well (Some id) s at none = keeps [] (opening_answered (Some id) s) at refl

  answered_well : (x : Exchange) (a : Reply) (s : Session) → s.config.address ≡ here → option_to_list (outstanding_command s.state) ≡ option_to_list (submitted_command x)
      → HearsWell here (option_to_list (submitted_command x)) (answered x a s)
  answered_well Opening a s at out = opened_well (pd_id_of a) s at out
  answered_well Polling a s at out = keeps [] (answered Polling a s) at refl
  answered_well (Asking c) a s at out = command_well (moved_by (comset_of c) (com_of a)) c a s refl at

  unread_well : (x : Exchange) (code : ℕ) (s : Session) → s.config.address ≡ here → option_to_list (outstanding_command s.state) ≡ option_to_list (submitted_command x)
      → HearsWell here (option_to_list (submitted_command x)) (answered_unread x code s)
  unread_well Opening code s at out = keeps [] (ignores s) at out
  unread_well Polling code s at out = keeps [] (answered_unread Polling code s) at refl
  unread_well (Asking c) code s at out = ends (c ∷ []) (answered_unread (Asking c) code s) at refl

  loses_well : (cause : LostCause) (o : Outstanding) (s : Session) → s.config.address ≡ here → HearsWell here (option_to_list (submitted_command o.exchange)) (loses cause o s)
  loses_well cause o s at = ends (option_to_list (submitted_command o.exchange)) (loses cause o s) at refl

  busy_well : (o : Outstanding) (s : Session) → s.config.address ≡ here → HearsWell here (option_to_list (submitted_command o.exchange)) (hears_busy o s)
  busy_well o s at =
      let paused : Heard = record { session = record s { state = Pausing (later s.config.busy_wait s) (record o { busies = o.busies + 1 }) }; report = None } in
      both (HearsWell here (option_to_list (submitted_command o.exchange))) (ltb s.config.busy_limit (o.busies + 1)) (loses causes.TooBusy o s) paused
      (loses_well causes.TooBusy o s at) (keeps (option_to_list (submitted_command o.exchange)) paused at refl)

  waiting_well : (a : ReplyMeaning) (k : ℕ) (o : Outstanding) (s : Session) → s.config.address ≡ here → option_to_list (outstanding_command s.state) ≡ option_to_list (submitted_command o.exchange)
      → HearsWell here (option_to_list (submitted_command o.exchange)) (waiting_hears a k o s)
  waiting_well NotTaken k o s at out = busy_well o s at
  waiting_well Damaged k o s at out = keeps (option_to_list (submitted_command o.exchange)) (waiting_hears Damaged k o s) at refl
  waiting_well NumberRefused k o s at out = loses_well causes.NumberRefused o s at
  waiting_well (Plain a) k o s at out = answered_well o.exchange a s at out
  waiting_well (Unreadable code) k o s at out = unread_well o.exchange code s at out

  pausing_well : (a : ReplyMeaning) (o : Outstanding) (s : Session) → s.config.address ≡ here → option_to_list (outstanding_command s.state) ≡ option_to_list (submitted_command o.exchange)
      → HearsWell here (option_to_list (submitted_command o.exchange)) (pausing_hears a o s)
  pausing_well NotTaken o s at out = keeps (option_to_list (submitted_command o.exchange)) (ignores s) at out
  pausing_well Damaged o s at out = keeps (option_to_list (submitted_command o.exchange)) (ignores s) at out
  pausing_well NumberRefused o s at out = loses_well causes.NumberRefused o s at
  pausing_well (Plain a) o s at out = answered_well o.exchange a s at out
  pausing_well (Unreadable code) o s at out = unread_well o.exchange code s at out

  in_well : (state : State) (number : ℕ) (a : ReplyMeaning) (s : Session) → s.state ≡ state → s.config.address ≡ here
      → HearsWell here (option_to_list (outstanding_command state)) (hears_in state number a s)
  in_well (Waiting until k o) number a s is at =
      both (HearsWell here (option_to_list (submitted_command o.exchange))) (is_numbered number a s) (waiting_hears a k o s) (ignores s)
      (waiting_well a k o s at (ap (λ st. option_to_list (outstanding_command st)) is)) (keeps (option_to_list (submitted_command o.exchange)) (ignores s) at (ap (λ st. option_to_list (outstanding_command st)) is))
  in_well (Pausing until o) number a s is at =
      both (HearsWell here (option_to_list (submitted_command o.exchange))) (is_numbered number a s) (pausing_hears a o s) (ignores s)
      (pausing_well a o s at (ap (λ st. option_to_list (outstanding_command st)) is)) (keeps (option_to_list (submitted_command o.exchange)) (ignores s) at (ap (λ st. option_to_list (outstanding_command st)) is))
  in_well _ number a s is at = keeps [] (ignores s) at (ap (λ st. option_to_list (outstanding_command st)) is)

pub hears_well : (p : Packet) (now : ℕ) (s : Session) → HearsWell s.config.address (option_to_list (outstanding_command s.state)) (hears p now s)
hears_well p now s =
    both (HearsWell s.config.address (option_to_list (outstanding_command s.state))) (p.reply && eqb p.address s.config.address && not p.block)
    (hears_in s.state p.sequence (said_by p) (seen now s)) (ignores (seen now s))
    (in_well s.config.address s.state p.sequence (said_by p) (seen now s) refl refl)
    (keeps s.config.address (option_to_list (outstanding_command s.state)) (ignores (seen now s)) refl refl)
