-- One COMSET at most is under way, to the address that is kept for it.
use Rattle.osdp_bus_links.proofs.Common.{◌≡◌, ◌<◌, ◌+◌, ℕ, Bool, true, false, cond, leb, ltb, List, [], ◌∷◌, ◌++◌, Option, Some, None, IfSome, refl, sym, subst, ap, ◌∙◌, arith, leb-true, Packet, next_sequence, CommandFits, Command, Communication, comset_of, frame_of, seen, Ticked, begins, idle_way, gives_up, sends_frame, stays, ticks_in, tries_again, Exchange, Opening, Polling, Asking, Outstanding, Session, State, Closed, Quiet, Idle, Waiting, Pausing, ReadsWhatIsAsked, NoComset, both, each_append, each_rest, tick_so, Each, new_address, SetsReader, address_in, option_to_list, outstanding_command, submitted_command}
use Rattle.osdp_msg.specs.declared.command.Command.TheVariants as command
use Rattle.osdp_bus_links.proofs.Names.{MovesReader, asked_for, freed_by, MayAsk}

abbrev Front : Option Communication → Option ℕ → List Command → Type 0
Front None r cs = Unit {0}
Front (Some d) r cs = (r ≡ Some d.address) × Each NoComset cs

abbrev pub One : Option ℕ → List Command → Type 0
One r [] = Unit {0}
One r (c ∷ cs) = Front (comset_of c) r cs × One r cs

-- ---- lists

front_of_none : (o : Option Communication) (r : Option ℕ) (cs : List Command) → o ≡ None → Front o r cs
front_of_none None r cs none = tt
front_of_none (Some d) r cs none = absurd cc

pub one_of_none : (r : Option ℕ) (cs : List Command) → Each NoComset cs → One r cs
one_of_none r [] none = tt
one_of_none r (c ∷ cs) none = (front_of_none (comset_of c) r cs none.0, one_of_none r cs none.1)

front_none : (o : Option Communication) (cs : List Command) → Front o None cs → o ≡ None
front_none None cs front = refl
front_none (Some d) cs front = absurd (let no = front.0 in cc)

pub none_of_one : (cs : List Command) → One None cs → Each NoComset cs
none_of_one [] one = tt
none_of_one (c ∷ cs) one = (front_none (comset_of c) cs one.0, none_of_one cs one.1)

pub one_rest : (r : Option ℕ) (xs ys : List Command) → One r (xs ++ ys) → One r ys
one_rest r [] ys one = one
one_rest r (x ∷ xs) ys one = one_rest r xs ys one.1

front_more : (o : Option Communication) (r : Option ℕ) (cs : List Command) (c : Command) → NoComset c → Front o r cs → Front o r (cs ++ c ∷ [])
front_more None r cs c none front = tt
front_more (Some d) r cs c none front = (front.0, each_append NoComset cs (c ∷ []) front.1 (none, tt))

one_more : (r : Option ℕ) (cs : List Command) (c : Command) → NoComset c → One r cs → One r (cs ++ c ∷ [])
one_more r [] c none one = (front_of_none (comset_of c) r [] none, tt)
one_more r (d ∷ cs) c none one = (front_more (comset_of d) r cs c none one.0, one_more r cs c none one.1)

front_last : (o : Option Communication) (d : Communication) (cs : List Command) → o ≡ Some d → Front o (Some d.address) []
front_last None d cs is = absurd cc
front_last (Some e) d cs is = (let same : e ≡ d = cc in ap (λ (f : Communication). Some f.address) (sym same), tt)

one_last : (cs : List Command) (c : Command) (d : Communication) → comset_of c ≡ Some d → Each NoComset cs → One (Some d.address) (cs ++ c ∷ [])
one_last [] c d is none = (front_last (comset_of c) d [] is, tt)
one_last (e ∷ cs) c d is none = (front_of_none (comset_of e) (Some d.address) (cs ++ c ∷ []) none.0, one_last cs c d is none.1)

-- one more is accepted
pub one_accepted : (o : Option Communication) (r : Option ℕ) (cs : List Command) (c : Command) → comset_of c ≡ o → MayAsk o r → One r cs
    → One (asked_for o r) (cs ++ c ∷ [])
one_accepted None r cs c is may one = one_more r cs c is one
one_accepted (Some d) r cs c is may one = one_last cs c d is (none_of_one cs (subst (λ q. One q cs) may one))

pub front_is : (o : Option Communication) (d : Communication) (r : Option ℕ) (cs : List Command) → o ≡ Some d → Front o r cs → (r ≡ Some d.address) × Each NoComset cs
front_is None d r cs is front = absurd cc
front_is (Some e) d r cs is front = (let same : e ≡ d = cc in front.0 ∙ ap (λ (f : Communication). Some f.address) same, front.1)

-- a COMSET sets the address that is kept
pub new_is : (c : Command) (to : ℕ) → new_address c ≡ Some to → (d : Communication) × (comset_of c ≡ Some d) × (d.address ≡ to) × (to < 127)
new_is (command.Comset d) to is = by_test (leb d.address 126) refl is
  where
    by_test : (small : Bool) → leb d.address 126 ≡ small → cond small (Some d.address) None ≡ Some to
        → (e : Communication) × (Some d ≡ Some e) × (e.address ≡ to) × (to < 127)
    by_test true test e = (d, refl, cc, let same : d.address ≡ to = cc in omega (arith, same, leb-true d.address 126 test))
    by_test false test e = absurd cc
new_is _ to is = absurd cc

pub moves_below : (to : ℕ) (p : Packet) → MovesReader to p → to < 127
moves_below to p moves = (new_is moves.command to moves.sets).3

-- ---- ticks

module _ (reads : ReadsWhatIsAsked) (r : Option ℕ) (here : ℕ) where
  abbrev pub Sends : Packet → Type 0
  Sends p = (to : ℕ) → SetsReader to p → r ≡ Some to

  pub record TickedWell (t : Ticked) : Type 0 where
    pub one : One r (option_to_list (outstanding_command t.session.state) ++ t.waiting)
    pub fits : Each CommandFits (option_to_list (outstanding_command t.session.state) ++ t.waiting)
    pub address : t.session.config.address ≡ here
    pub frame : IfSome t.step.frame Sends

  frame_sets : (x : Exchange) (s : Session) (ws : List Command) → Each CommandFits (option_to_list (submitted_command x) ++ ws) → One r (option_to_list (submitted_command x) ++ ws) → Sends (frame_of x s)
  frame_sets Opening s ws fits one to sets = absurd (let none = sym (ap address_in (reads Opening s (omega arith))) ∙ sets in cc)
  frame_sets Polling s ws fits one to sets = absurd (let none = sym (ap address_in (reads Polling s tt)) ∙ sets in cc)
  frame_sets (Asking c) s ws fits one to sets =
      let set = new_is c to (sym (ap address_in (reads (Asking c) s fits.0)) ∙ sets) in
      (front_is (comset_of c) set.0 r ws set.1 one.0).0 ∙ ap Some set.2

  sending : (k : ℕ) (o : Outstanding) (s : Session) (ws : List Command) → s.config.address ≡ here → Each CommandFits (option_to_list (submitted_command o.exchange) ++ ws)
      → One r (option_to_list (submitted_command o.exchange) ++ ws) → TickedWell (sends_frame k o s ws)
  sending k o s ws is fits one = record { one = one; fits = fits; address = is; frame = frame_sets o.exchange s ws fits one }

  giving_up : (o : Outstanding) (s : Session) (ws : List Command) → s.config.address ≡ here → Each CommandFits (option_to_list (submitted_command o.exchange) ++ ws)
      → One r (option_to_list (submitted_command o.exchange) ++ ws) → TickedWell (gives_up o s ws)
  giving_up o s ws is fits one =
      record { one = one_rest r (option_to_list (submitted_command o.exchange)) ws one; fits = each_rest CommandFits (option_to_list (submitted_command o.exchange)) ws fits; address = is; frame = tt }

  resting : (s : Session) (ws : List Command) → s.config.address ≡ here → Each CommandFits (option_to_list (outstanding_command s.state) ++ ws) → One r (option_to_list (outstanding_command s.state) ++ ws)
      → TickedWell (stays s ws)
  resting s ws is fits one = record { one = one; fits = fits; address = is; frame = tt }

  ticked_in : (state : State) (s : Session) (ws : List Command) → s.state ≡ state → s.config.address ≡ here → Each CommandFits (option_to_list (outstanding_command state) ++ ws)
      → One r (option_to_list (outstanding_command state) ++ ws) → TickedWell (ticks_in state s ws)
  ticked_in state s ws at is fits one = by_state state at fits one
    where
      rests : (state : State) → s.state ≡ state → Each CommandFits (option_to_list (outstanding_command state) ++ ws) → One r (option_to_list (outstanding_command state) ++ ws) → TickedWell (stays s ws)
      rests state at fits one =
          resting s ws is (subst (λ q. Each CommandFits (option_to_list (outstanding_command q) ++ ws)) (sym at) fits) (subst (λ q. One r (option_to_list (outstanding_command q) ++ ws)) (sym at) one)

      by_state : (state : State) → s.state ≡ state → Each CommandFits (option_to_list (outstanding_command state) ++ ws) → One r (option_to_list (outstanding_command state) ++ ws) → TickedWell (ticks_in state s ws)
      by_state Closed at fits one = rests Closed at fits one
      by_state (Quiet until) at fits one =
          both TickedWell (leb until s.greatest) (begins Opening 0 s ws) (stays s ws)
          (sending 1 (record { exchange = Opening; busies = 0; sent = 0 }) (record s { number = 0; asked = false }) ws is fits one) (rests (Quiet until) at fits one)
      by_state (Idle due) at fits one =
          idle_way TickedWell due s ws
          (λ e. sending 1 (record { exchange = Polling; busies = 0; sent = 0 }) (record s { number = next_sequence s.number; asked = false }) ws is fits one)
          (λ e. rests (Idle due) at fits one)
          (λ c rest e. sending 1 (record { exchange = Asking c; busies = 0; sent = 0 }) (record s { number = next_sequence s.number; asked = true }) rest is
          (subst (Each CommandFits) e fits) (subst (One r) e one))
      by_state (Waiting until k o) at fits one =
          both TickedWell (leb until s.greatest) (tries_again k o s ws) (stays s ws)
          (both TickedWell (ltb k s.config.sends) (sends_frame (k + 1) o s ws) (gives_up o s ws)
          (sending (k + 1) o s ws is fits one) (giving_up o s ws is fits one)) (rests (Waiting until k o) at fits one)
      by_state (Pausing until o) at fits one =
          both TickedWell (leb until s.greatest) (sends_frame 1 o s ws) (stays s ws) (sending 1 o s ws is fits one) (rests (Pausing until o) at fits one)

  pub ticked_well : (now : ℕ) (s : Session) (ws : List Command) → s.config.address ≡ here → Each CommandFits (option_to_list (outstanding_command s.state) ++ ws)
      → One r (option_to_list (outstanding_command s.state) ++ ws) → TickedWell (ticks_in s.state (seen now s) ws)
  ticked_well now s ws is fits one = ticked_in s.state (seen now s) ws refl is fits one

pub tick_frees_none : (r : Option ℕ) (state : State) (s : Session) (ws : List Command) → freed_by (ticks_in state s ws).step.report r ≡ r
tick_frees_none r state s ws = tick_so (λ t. freed_by t r ≡ r) refl (λ o. refl) state s ws
