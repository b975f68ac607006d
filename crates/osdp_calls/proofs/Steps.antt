-- What one call comes to: moves of its own kind alone.
use Rattle.osdp_calls.proofs.Common.{◌≡◌, ℕ, List, [], ◌∷◌, ◌⊎◌, Some, None, refl, sym, ap, ◌∙◌, inl, inr, CommandFits, Room, Command, comset_of, ControllerConfig, retarget_refusal_at, submit_refusal_at, BusConfig, BusFault, each_map, Each, Answer, NetMoveFits, NetMovesFit, Somewhere, Call, NewDevice, NewPanel, OfPanel, Step, SubmitEvent, InUse}
use Rattle.osdp_bus_laws.specs.Calls as bus
use Rattle.osdp_shared_line.specs.Line.{Net, NetMove, Queue, RestartPanel, RestartReader, Retarget, SetBusy, Submit, Tick, Withdraw, after_net, is_comset_refused, run, site_at}
use Rattle.osdp_shared_line.specs.Line as line
use Rattle.osdp_calls.specs.Calls as calls
use Rattle.osdp_calls.proofs.Losing.{IsPlain, IsStill}
use Rattle.osdp_calls.proofs.Same.{IsNetOf}
use Rattle.osdp_calls.proofs.Stations.{Makes}

module _ {H : Type 0} where
  -- a move that a call may come to: any that is plain, and of the others that of its own name
  abbrev pub IsOf : Call H → NetMove H → Type 0
  IsOf call (Submit k command) = call ≡ OfPanel (bus.Submit k command)
  IsOf call (Queue k event) = call ≡ SubmitEvent k event
  IsOf call (line.SetHandler k handler) = call ≡ calls.SetHandler k handler
  IsOf call (Withdraw k) = call ≡ OfPanel (bus.Withdraw k)
  IsOf call (line.WithdrawEvent k) = call ≡ calls.WithdrawEvent k
  IsOf call (line.LapseEvent k) = call ≡ calls.LapseEvent k
  IsOf call (RestartReader k config handler room) = (gap : ℕ) × (call ≡ NewDevice k config handler room gap)
  IsOf call (RestartPanel settings) = (config : BusConfig) × (addresses : List ℕ) × (call ≡ NewPanel config addresses)
  IsOf call _ = Unit {0}

  -- a move that one of these calls comes to
  abbrev pub IsOfOne : List (Step H) → NetMove H → Type 0
  IsOfOne steps move = Somewhere (λ (step : Step H). IsOf step.call move) steps

  -- what a call of the panel comes to that reads nothing: the move of its own name, unless the bus refuses it, or nothing
  abbrev pub MadeByPanel : bus.Call → InUse H → List (NetMove H) → Type 0
  MadeByPanel (bus.Submit k command) l moves =
      ((fault : BusFault) × (submit_refusal_at k command l.bus ≡ Some fault) × (moves ≡ []))
      ⊎ ((submit_refusal_at k command l.bus ≡ None) × (moves ≡ Submit k command ∷ []))
  MadeByPanel (bus.Retarget k address) l moves =
      ((fault : BusFault) × (retarget_refusal_at k address l.bus ≡ Some fault) × (moves ≡ []))
      ⊎ ((retarget_refusal_at k address l.bus ≡ None) × (moves ≡ Retarget k address ∷ []))
  MadeByPanel (bus.Withdraw k) l moves = moves ≡ Withdraw k ∷ []
  MadeByPanel (bus.OnBytes bytes now) l moves = Unit {0}
  MadeByPanel (bus.OnSilence now) l moves = Unit {0}
  MadeByPanel (bus.Tick now) l moves = Unit {0}
  MadeByPanel _ l moves = moves ≡ []

  -- .. and a call of a device
  abbrev pub device_moves : Call H → List (NetMove H)
  device_moves (SubmitEvent k event) = Queue k event ∷ []
  device_moves (calls.SetBusy k busy) = SetBusy k busy ∷ []
  device_moves (calls.SetHandler k handler) = line.SetHandler k handler ∷ []
  device_moves (calls.WithdrawEvent k) = line.WithdrawEvent k ∷ []
  device_moves (calls.LapseEvent k) = line.LapseEvent k ∷ []
  device_moves _ = []

  -- a `next` that answers comes to still ones
  abbrev pub Made : Call H → InUse H → List (NetMove H) → Type 0
  Made (OfPanel call) l moves = MadeByPanel call l moves
  Made (NewPanel config addresses) l moves =
      (settings : ℕ → ControllerConfig × Room) × (moves ≡ RestartPanel settings ∷ [])
      × ((k a : ℕ) → site_at k addresses ≡ Some a → (settings k).0.address ≡ a)
  Made (calls.Next k) l moves = Each IsStill moves
  Made (NewDevice k config handler room gap) l moves = moves ≡ RestartReader k config handler room ∷ []
  Made call l moves = moves ≡ device_moves call

  pub plain_of : (call : Call H) (move : NetMove H) → IsPlain move → IsOf call move
  plain_of call (Submit k command) plain = absurd plain
  plain_of call (Queue k event) plain = absurd plain
  plain_of call (line.SetHandler k handler) plain = absurd plain
  plain_of call (Withdraw k) plain = absurd plain
  plain_of call (line.WithdrawEvent k) plain = absurd plain
  plain_of call (line.LapseEvent k) plain = absurd plain
  plain_of call (RestartReader k config handler room) plain = absurd plain
  plain_of call (RestartPanel settings) plain = absurd plain
  plain_of call _ plain = tt

  module _ (answer_of : H → Command → Answer) (after : H → Command → H) where
    pub record StepsTo (call : Call H) (l : InUse H) (n : Net H) (next : InUse H) : Type 0 where
      pub net : Net H
      pub moves : List (NetMove H)
      pub fit : NetMovesFit answer_of after moves n
      pub run : run answer_of after moves n ≡ net
      pub same : IsNetOf next net
      pub kinds : Each (IsOf call) moves
      pub made : Made call l moves

    -- a call that comes to plain moves
    pub by_plain : (call : Call H) (l : InUse H) (n : Net H) (next : InUse H) → Makes answer_of after (λ moves. Made call l moves) n next → StepsTo call l n next
    by_plain call l n next m =
        let r = m.refines in
        record {
          net = r.net;
          moves = r.reached.moves;
          fit = r.reached.fit;
          run = r.reached.run;
          same = r.same;
          kinds = each_map IsPlain (IsOf call) (plain_of call) r.reached.moves r.reached.plain;
          made = m.made;
        }

    -- .. to one move
    pub by_own : (call : Call H) (move : NetMove H) (l : InUse H) (n : Net H) (next : InUse H) → IsOf call move → Made call l (move ∷ [])
        → NetMoveFits answer_of after move n → IsNetOf next (after_net answer_of after move n) → StepsTo call l n next
    by_own call move l n next of_it made fits same = record {
      net = after_net answer_of after move n;
      moves = move ∷ [];
      fit = (fits, tt);
      run = refl;
      same = same;
      kinds = (of_it, tt);
      made = made;
    }

    -- .. to none, as the entry of a `submit` has no station
    pub by_other : (k : ℕ) (command : Command) (l : InUse H) (n : Net H) (next : InUse H) → site_at k n.sites ≡ None
        → submit_refusal_at k command l.bus ≡ None → CommandFits command → IsNetOf next n → StepsTo (OfPanel (bus.Submit k command)) l n next
    by_other k command l n next nobody is fits same = record {
      net = n;
      moves = Submit k command ∷ [];
      fit = ((fits, λ s asked at accepted moves. absurd (let e = sym nobody ∙ at in cc)), tt);
      run = ap (λ o. line.change_unless (λ s. is_comset_refused k (comset_of command) s n.sites) k o (line.submits answer_of after command) n) nobody;
      same = same;
      kinds = (refl, tt);
      made = inr (is, refl);
    }

    -- .. or refused
    pub by_refusal : (k : ℕ) (command : Command) (fault : BusFault) (l : InUse H) (n : Net H) → submit_refusal_at k command l.bus ≡ Some fault
        → IsNetOf l n → StepsTo (OfPanel (bus.Submit k command)) l n l
    by_refusal k command fault l n is same = record {
      net = n;
      moves = [];
      fit = tt;
      run = refl;
      same = same;
      kinds = tt;
      made = inl (fault, is, refl);
    }
