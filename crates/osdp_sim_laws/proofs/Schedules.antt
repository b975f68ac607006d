-- A schedule over a line of bytes is a list of moves of the link over its packets.
use Rattle.osdp_sim_laws.proofs.Common.{◌≡◌, ℕ, Bool, true, false, not, ◌&&◌, ◌==◌, if◌then◌else◌, List, [], ◌∷◌, ◌++◌, Some, None, refl, sym, subst, Command, ticks, Answer, lacks_room, MovesFit, Link, after_move, IsSteady, each_append, Each, Account, FitAlong, is_well, run, SimState, StepFits, after_step, fault_of, Cause, NotQuiet, SimStep, Issue, Queue, Busy, Wait, ToReader, ToController, Reopen, ReadsPackets, clock_after, step_clock, delivery, in_bytes, move_of, moves_of, first_well}
use Rattle.osdp_controller.specs.Machine as controllers
use Rattle.osdp_link_laws.specs.Beginning.{MoveFits}
use Rattle.osdp_link_laws.specs.Link as link
use Rattle.osdp_sim.specs.Steps as steps
use Rattle.osdp_sim_laws.proofs.Accounts.{Adds, added_both, added_by, adds_then, all_added, and_nothing}
use Rattle.osdp_sim_laws.proofs.Carrying.{ArePackets, IsCarried, is_quiet, issuing, nothing, queueing, reopening, setting_busy, ticking}
use Rattle.osdp_sim_laws.proofs.Delivering.{says_what_fits, to_controller, to_reader}

module _ {H : Type 0} (answer_of : H → Command → Answer) (after : H → Command → H) where
  -- the simulation is carried on by these moves
  pub record Follows (s : SimState H) (ms : List (link.Move H)) (l : Link H) (clock : ℕ) (a : Account) : Type 0 where
    pub carried : IsCarried s (link.run answer_of after ms l) clock a (all_added answer_of after ms l)
    pub moves : MovesFit answer_of after ms l
    pub ordinary : Each IsSteady ms

  -- lists of moves, one after the other
  pub run_both : (ms ns : List (link.Move H)) (l : Link H) → link.run answer_of after (ms ++ ns) l ≡ link.run answer_of after ns (link.run answer_of after ms l)
  run_both [] ns l = refl
  run_both (m ∷ ms) ns l = run_both ms ns (after_move answer_of after m l)

  pub moves_both : (ms ns : List (link.Move H)) (l : Link H) → MovesFit answer_of after ms l → MovesFit answer_of after ns (link.run answer_of after ms l)
      → MovesFit answer_of after (ms ++ ns) l
  moves_both [] ns l first next = next
  moves_both (m ∷ ms) ns l first next = (first.0, moves_both ms ns (after_move answer_of after m l) first.1 next)

  -- a move, with its premise
  by_move : (s : SimState H) (m : link.Move H) (l : Link H) (clock : ℕ) (a : Account)
      → IsCarried s (after_move answer_of after m l) clock a (added_by answer_of after m l) → MoveFits answer_of after m l → IsSteady m → Follows s (m ∷ []) l clock a
  by_move s m l clock a carried fits steady = record {
    carried = subst (IsCarried s (after_move answer_of after m l) clock a) (sym (and_nothing (added_by answer_of after m l))) carried;
    moves = (fits, tt);
    ordinary = (steady, tt);
  }

  -- a step with a reader that is there or isn't
  by_number : (there : Bool) (new : SimState H) (m : link.Move H) (l : Link H) (clock : ℕ) (a : Account) → ArePackets l
      → (there ≡ true → Follows new (m ∷ []) l clock a)
      → Follows (if there then new else in_bytes l clock a) (if there then m ∷ [] else []) l clock a
  by_number true new m l clock a packets does = does refl
  by_number false new m l clock a packets does = record { carried = nothing l clock a packets; moves = tt; ordinary = tt }

  -- what is refused nowhere isn't refused where the reader is there
  there_well : (there : Bool) (refused : Bool) (cause : Cause) → (if there && refused then Some cause else None) ≡ None → there ≡ true
      → (if true && refused then Some cause else None) ≡ None
  there_well true refused cause e is = e
  there_well false refused cause e is = absurd cc

  -- each step
  step_follows : ReadsPackets → (step : SimStep) (l : Link H) (clock : ℕ) (a : Account) → ArePackets l
      → fault_of step (in_bytes l clock a) ≡ None → StepFits answer_of after step (in_bytes l clock a)
      → Follows (after_step answer_of after step (in_bytes l clock a)) (move_of step clock) l (step_clock step clock) a
  step_follows reads (Issue number command) l clock a packets well fits =
      by_number (number == 1) _ (link.Submit command) l clock a packets (λ there.
      by_move _ (link.Submit command) l clock a (issuing (controllers.submit_refusal command l.controller) command l clock a packets) fits tt)
  step_follows reads (Queue number event) l clock a packets well fits =
      by_number (number == 1) _ (link.Queue event) l clock a packets (λ there.
      by_move _ (link.Queue event) l clock a (queueing (lacks_room event l.reader.queue) event l clock a packets) tt tt)
  step_follows reads (Busy number busy) l clock a packets well fits =
      by_number (number == 1) _ (link.SetBusy busy) l clock a packets (λ there.
      by_move _ (link.SetBusy busy) l clock a (setting_busy busy l clock a packets) tt tt)
  step_follows reads (Wait wait) l clock a packets well fits =
      let now = step_clock (Wait wait) clock in
      by_move _ (link.Tick now) l now a (ticking (ticks now l.controller.session l.controller.waiting) now l clock a packets fits) tt tt
  step_follows reads (ToReader move) l clock a packets well fits =
      by_move _ (link.ToReader (delivery move)) l clock a (to_reader answer_of after reads l.to_reader move l clock a refl well fits packets)
      (says_what_fits answer_of after reads l.to_reader move l packets.to_reader fits) tt
  step_follows reads (ToController move) l clock a packets well fits =
      by_move _ (link.ToController (delivery move) clock) l clock a (to_controller reads l.to_controller move l clock a refl well packets) tt tt
  step_follows reads (Reopen number) l clock a packets well fits =
      by_number (number == 1) _ (link.Reopen clock) l clock a packets (λ there.
      let quiet = is_quiet l.to_reader l.to_controller l.controller.session.state (there_well (number == 1) (not (steps.is_quiet (in_bytes l clock a))) NotQuiet well there) in
      by_move _ (link.Reopen clock) l clock a
      (reopening l.to_reader l.to_controller (controllers.begin_refusal l.controller) l clock a quiet.0 quiet.1 quiet.2 packets) tt tt)

  -- ---- more moves

  -- more after what follows
  pub goes_on : (s t : SimState H) (ms ns : List (link.Move H)) (l : Link H) (clock later : ℕ) (a : Account) → Follows s ms l clock a
      → Follows t ns (link.run answer_of after ms l) later s.account → Follows t (ms ++ ns) l later a
  goes_on s t ms ns l clock later a first next =
      let afterwards = link.run answer_of after ms l in
      let last = next.carried in
      let added = adds_then a s.account t.account (all_added answer_of after ms l) (all_added answer_of after ns afterwards) first.carried.adds last.adds in
      record {
        carried = subst (λ m. IsCarried t m later a (all_added answer_of after (ms ++ ns) l)) (sym (run_both ms ns l)) (record {
          state = last.state;
          packets = last.packets;
          adds = subst (λ x. Adds a x t.account) (sym (added_both answer_of after ms ns l)) added;
        });
        moves = moves_both ms ns l first.moves next.moves;
        ordinary = each_append IsSteady ms ns first.ordinary next.ordinary;
      }

  -- each schedule
  pub schedule_follows : ReadsPackets → (steps : List SimStep) (l : Link H) (clock : ℕ) (a : Account) → ArePackets l
      → is_well answer_of after steps (in_bytes l clock a) ≡ true → FitAlong answer_of after steps (in_bytes l clock a)
      → Follows (run answer_of after steps (in_bytes l clock a)) (moves_of steps clock) l (clock_after steps clock) a
  schedule_follows reads [] l clock a packets well fits = record { carried = nothing l clock a packets; moves = tt; ordinary = tt }
  schedule_follows reads (step ∷ steps) l clock a packets well fits =
      let s = in_bytes l clock a in
      let both = first_well (fault_of step s) _ well in
      let first = step_follows reads step l clock a packets both.0 fits.0 in
      let next = after_step answer_of after step s in
      let now = step_clock step clock in
      let later = link.run answer_of after (move_of step clock) l in
      let is = first.carried.state in
      let rest = schedule_follows reads steps later now next.account first.carried.packets
      (subst (λ t. is_well answer_of after steps t ≡ true) is both.1) (subst (FitAlong answer_of after steps) is fits.1) in
      goes_on next (run answer_of after steps next) (move_of step clock) (moves_of steps now) l now (clock_after steps now) a first
      (subst (λ t. Follows (run answer_of after steps t) (moves_of steps now) later (clock_after steps now) next.account) (sym is) rest)
