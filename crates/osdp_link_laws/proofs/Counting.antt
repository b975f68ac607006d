-- The restarts of the reader in a session are counted.
use Rattle.osdp_link_laws.proofs.Common.{◌≡◌, ◌≢◌, ◌+◌, ℕ, zero, suc, arith, List, [], ◌∷◌, Option, Some, None, Result, refl, sym, subst, ap, ◌∙◌, Packet, Command, MsgFault, Reply, ControllerFault, Answer, Kind, kind_of, command_in, outcome, ReaderState, CountsRestarts, restarts_in, Delivered, Delivery, Link, Lost, Move, Reopen, Repeated, RestartReader, Tick, ToController, ToReader, after_move, KeepsReader, all_begun, restarts_after, restarts_in_session}
use Rattle.osdp_controller.specs.Machine as controllers
use Rattle.osdp_reader.specs.declared.kind.Kind.TheVariants as kind
use Rattle.osdp_link_laws.specs.Sessions as sessions
use Rattle.osdp_link_laws.proofs.Coming.{MovesTo, Reads, ReadsFront, ReadsTo}
use Rattle.osdp_link_laws.proofs.Once.{GoesOn}
use Rattle.osdp_link_laws.proofs.Stages.{After, Behind, Each, HasRestarted, Restarted, Stage, Start}

-- ---- a count

same_count : (again count : ℕ) → again ≡ 0 → sessions.kept_count again count ≡ count
same_count zero count none = refl
same_count (suc again) count none = absurd cc

none_kept : (again : ℕ) → sessions.kept_count again 0 ≡ 0
none_kept zero = refl
none_kept (suc again) = refl

none_at_first : (refusal : Option ControllerFault) (ps qs : List Packet) (count : ℕ) → sessions.begun_again refusal ps qs + 0 ≢ 0
    → sessions.kept_count (sessions.begun_again refusal ps qs) count ≡ 0
none_at_first None [] [] count begun = refl
none_at_first None [] (q ∷ qs) count begun = absurd (begun refl)
none_at_first None (p ∷ ps) qs count begun = absurd (begun refl)
none_at_first (Some fault) ps qs count begun = absurd (begun refl)

none_in : {H : Type 0} (move : Move H) (moves : List (Move H)) → KeepsReader move → restarts_in (move ∷ moves) ≡ restarts_in moves
none_in (RestartReader config handler room) moves keeps = absurd keeps
none_in move moves keeps = refl

module _ {H : Type 0} (answer_of : H → Command → Answer) (after : H → Command → H) where
  keeps_count : (move : Move H) (l : Link H) (count : ℕ) → KeepsReader move → sessions.begins answer_of after move l ≡ 0
      → restarts_after answer_of after move l count ≡ count
  keeps_count (RestartReader config handler room) l count keeps none = absurd keeps
  keeps_count (Reopen now) l count keeps none = same_count (sessions.begins answer_of after (Reopen now) l) count none
  keeps_count move l count keeps none = refl

  counts_one : (move : Move H) (moves : List (Move H)) (l : Link H) (count : ℕ) → sessions.begins answer_of after move l ≡ 0
      → restarts_after answer_of after move l count + restarts_in moves ≡ count + restarts_in (move ∷ moves)
  counts_one (RestartReader config handler room) moves l count none = omega arith
  counts_one move moves l count none =
      let same = keeps_count move l count tt none in
      let more = none_in move moves tt in
      omega (arith, same, more)

  counts_all : (moves : List (Move H)) (l : Link H) (count : ℕ) → all_begun answer_of after moves l ≡ 0
      → restarts_in_session answer_of after moves l count ≡ count + restarts_in moves
  counts_all [] l count none = omega arith
  counts_all (move ∷ moves) l count none =
      counts_all moves (after_move answer_of after move l) (restarts_after answer_of after move l count) (omega (arith, none))
      ∙ counts_one move moves l count (omega (arith, none))

  pub counts_restarts : CountsRestarts answer_of after
  counts_restarts = record {
    none = λ l now count begun. none_at_first (controllers.begin_refusal l.controller) l.to_reader l.to_controller count begun;
    each = λ l moves count. counts_all moves l count;
  }

  -- where the reader never restarts none is counted
  pub none_counted : (move : Move H) (l : Link H) → KeepsReader move → restarts_after answer_of after move l 0 ≡ 0
  none_counted (RestartReader config handler room) l keeps = absurd keeps
  none_counted move l keeps = none_kept (sessions.begins answer_of after move l)

  pub none_in_session : (moves : List (Move H)) (l : Link H) → Each KeepsReader moves → restarts_in_session answer_of after moves l 0 ≡ 0
  none_in_session [] l keep = refl
  none_in_session (move ∷ moves) l keep =
      ap (restarts_in_session answer_of after moves (after_move answer_of after move l)) (none_counted move l keep.0)
      ∙ none_in_session moves (after_move answer_of after move l) keep.1

-- ---- at a stage of a session

-- what is known of the restarts is known of one count and of the next
abbrev pub CountsOn : ℕ → ℕ → Restarted → Restarted → Type 0
CountsOn count next since new = HasRestarted since count → HasRestarted new next

same_since : (since new : Restarted) (count : ℕ) → new ≡ since → CountsOn count count since new
same_since since new count same is = subst (λ s. HasRestarted s count) (sym same) is

module _ {H : Type 0} (answer_of : H → Command → Answer) (after : H → Command → H) where
  reads_count : (k : Kind) (read : Result Command MsgFault) (said : Option Reply) (since : Restarted) (at : Stage) (new : Restarted) (to : Stage) (count : ℕ)
      → ReadsTo k read said since at new to → CountsOn count count since new
  reads_count kind.Taken read said since (Behind (After n y b) x) new to count comes = same_since since new count comes.1
  reads_count kind.Taken read said since (Behind Start x) new to count comes = absurd comes
  reads_count kind.Taken read said since _ new to count comes = absurd comes
  reads_count kind.Zero read said since at new to count comes = comes.1.restarts count
  reads_count _ read said since at new to count comes = same_since since new count comes.0

  read_counts : (p : Packet) (r : ReaderState H) (since : Restarted) (at : Stage) (new : Restarted) (to : Stage) (count : ℕ)
      → Reads answer_of after (kind_of r p) p r since at new to → CountsOn count count since new
  read_counts p r since at new to count = reads_count (kind_of r p) (command_in p) (outcome answer_of after (kind_of r p) r p).said since at new to count

  front_counts : (ps : List Packet) (how : Delivery) (r : ReaderState H) (since : Restarted) (at : Stage) (new : Restarted) (to : Stage) (count : ℕ)
      → ReadsFront answer_of after ps how r since at new to → CountsOn count count since new
  front_counts [] how r since at new to count comes = same_since since new count comes.0
  front_counts (p ∷ ps) Delivered r since at new to count comes = read_counts p r since at new to count comes
  front_counts (p ∷ ps) Lost r since at new to count comes = same_since since new count comes.0
  front_counts (p ∷ ps) Repeated r since at new to count comes = read_counts p r since at new to count comes

  -- within a session
  pub counts_on : (move : Move H) (l : Link H) (since : Restarted) (at : Stage) (new : Restarted) (to : Stage) (count : ℕ) → GoesOn move
      → MovesTo answer_of after move l since at new to → CountsOn count (restarts_after answer_of after move l count) since new
  counts_on (Tick now) l since at new to count on comes = same_since since new count comes.0
  counts_on (ToReader how) l since at new to count on comes = front_counts l.to_reader how l.reader since at new to count comes
  counts_on (ToController how now) l since at new to count on comes = same_since since new count comes.0
  counts_on (Reopen now) l since at new to count on comes = absurd on
  counts_on (RestartReader config handler room) l since at new to count on (same, is) = λ had. subst (λ s. HasRestarted s (suc count)) (sym same) (omega arith)
  counts_on _ l since at new to count on comes = same_since since new count comes.0
