-- What laws ask of moves, by each move, and by the list.
use Rattle.osdp_link_laws.proofs.Common.{◌≡◌, ◌≢◌, ℕ, List, [], ◌∷◌, ◌++◌, refl, subst, ap, Command, Answer, SetsNoOther, AtEach, EachIsAsked, HasItsHandler, LeavingIsExact, LosesNoneWithin, RestartsNoController, RestartsNoReader, SetsNoHandler, SetsOnly, TakesNothingBack, KeepHandler, KeepsDevice, KeepsHandler, IsOrdinary, IsSteady, KeepsReader}
use Rattle.osdp_link_laws.specs.Link.{LapseEvent, Link, LoseToController, LoseToReader, Move, RestartController, RestartReader, Retarget, SetHandler, Withdraw, WithdrawEvent, after_move, run}

-- two lists are the same where their first items are, and the rest
pub first_same : {A : Type 0} (x y : A) (xs ys : List A) → (x ∷ xs) ≡ (y ∷ ys) → (x ≡ y) × (xs ≡ ys)
first_same x y xs ys same = (cc, cc)

module _ {H : Type 0} where
  reader_stays : (move : Move H) → RestartsNoReader move → KeepsReader move
  reader_stays (RestartReader config handler room) none = none config handler room refl
  reader_stays move none = tt

  device_stays : (move : Move H) → RestartsNoReader move × SetsNoHandler move → KeepsDevice move
  device_stays (RestartReader config handler room) none = none.0 config handler room refl
  device_stays (SetHandler handler) none = none.1 handler refl
  device_stays move none = tt

  has_handler : (move : Move H) (l : Link H) → KeepsHandler move l → HasItsHandler move l
  has_handler move l keeps = record {
    set = λ handler e. subst (λ m. KeepsHandler m l) e keeps;
    restarted = λ config handler room e. subst (λ m. KeepsHandler m l) e keeps;
  }

  handler_stays : (move : Move H) (l : Link H) → HasItsHandler move l → KeepsHandler move l
  handler_stays (RestartReader config handler room) l its = its.restarted config handler room refl
  handler_stays (SetHandler handler) l its = its.set handler refl
  handler_stays move l its = tt

  none_disturbs : (move : Move H) → IsOrdinary move → TakesNothingBack move × RestartsNoReader move × RestartsNoController move
  none_disturbs move is = (
    (λ e. subst IsOrdinary e is, λ e. subst IsOrdinary e is, λ e. subst IsOrdinary e is),
    λ config handler room e. subst IsOrdinary e is,
    λ config room e. subst IsOrdinary e is,
  )

  is_ordinary : (move : Move H) → TakesNothingBack move × RestartsNoReader move × RestartsNoController move → IsOrdinary move
  is_ordinary Withdraw none = none.0.0 refl
  is_ordinary WithdrawEvent none = none.0.1 refl
  is_ordinary LapseEvent none = none.0.2 refl
  is_ordinary (RestartReader config handler room) none = none.1 config handler room refl
  is_ordinary (RestartController config room) none = none.2 config room refl
  is_ordinary move none = tt

  abbrev IsCalm : Move H → Type 0
  IsCalm move = IsOrdinary move × SetsNoHandler move × ((address : ℕ) → move ≢ Retarget address) × LosesNoneWithin move

  steady_ordinary : (move : Move H) → IsSteady move → IsOrdinary move
  steady_ordinary Withdraw is = is
  steady_ordinary WithdrawEvent is = is
  steady_ordinary LapseEvent is = is
  steady_ordinary (RestartReader config handler room) is = is
  steady_ordinary (RestartController config room) is = is
  steady_ordinary move is = tt

  is_calm : (move : Move H) → IsSteady move → IsCalm move
  is_calm move is = (
    steady_ordinary move is,
    λ handler e. subst IsSteady e is,
    λ address e. subst IsSteady e is,
    λ place. (λ e. subst IsSteady e is, λ e. subst IsSteady e is),
  )

  is_steady : (move : Move H) → IsCalm move → IsSteady move
  is_steady (SetHandler handler) calm = calm.1 handler refl
  is_steady (Retarget address) calm = calm.2 address refl
  is_steady (LoseToReader place) calm = (calm.3 place).0 refl
  is_steady (LoseToController place) calm = (calm.3 place).1 refl
  is_steady Withdraw calm = calm.0
  is_steady WithdrawEvent calm = calm.0
  is_steady LapseEvent calm = calm.0
  is_steady (RestartReader config handler room) calm = calm.0
  is_steady (RestartController config room) calm = calm.0
  is_steady move calm = tt

  sets_only : (there here : ℕ) (move : Move H) → SetsNoOther there here move → SetsOnly there here move
  sets_only there here move none = record {
    set = λ address e. subst (SetsNoOther there here) e none;
    reader = λ config handler room e. subst (SetsNoOther there here) e none;
    controller = λ config room e. subst (SetsNoOther there here) e none;
  }

  sets_no_other : (there here : ℕ) (move : Move H) → SetsOnly there here move → SetsNoOther there here move
  sets_no_other there here (Retarget address) only = only.set address refl
  sets_no_other there here (RestartReader config handler room) only = only.reader config handler room refl
  sets_no_other there here (RestartController config room) only = only.controller config room refl
  sets_no_other there here move only = tt

pub leaving_exact : {H : Type 0} → LeavingIsExact H
leaving_exact {H} = record {
  reader = λ move. (λ keeps config handler room e. subst KeepsReader e keeps, reader_stays move);
  device = λ move. (λ keeps. (λ config handler room e. subst KeepsDevice e keeps, λ handler e. subst KeepsDevice e keeps), device_stays move);
  handler = λ move l. (has_handler move l, handler_stays move l);
  ordinary = λ move. (none_disturbs move, is_ordinary move);
  steady = λ move. (is_calm move, is_steady move);
  address = λ there here move. (sets_only there here move, sets_no_other there here move);
}

module _ {H : Type 0} (answer_of : H → Command → Answer) (after : H → Command → H) where
  -- what is said of a list by its first move and the rest is said of each move
  module _ (Asked : Move H → Link H → Type 0) (AllAsked : List (Move H) → Link H → Type 0)
      (first : (move : Move H) (moves : List (Move H)) (l : Link H) → AllAsked (move ∷ moves) l → Asked move l × AllAsked moves (after_move answer_of after move l))
    where
      pub each_asked : (moves : List (Move H)) (l : Link H) → AllAsked moves l → AtEach answer_of after Asked moves l
      each_asked [] l all [] move rest is = absurd cc
      each_asked [] l all (x ∷ front) move rest is = absurd cc
      each_asked (m ∷ moves) l all [] move rest is =
          subst (λ x. Asked x l) (first_same m move moves rest is).0 (first m moves l all).0
      each_asked (m ∷ moves) l all (x ∷ front) move rest is =
          let same = first_same m x moves (front ++ move ∷ rest) is in
          subst (λ y. Asked move (run answer_of after front (after_move answer_of after y l))) same.0
          (each_asked moves (after_move answer_of after m l) (first m moves l all).1 front move rest same.1)

  -- .. and where it is said of each, it is of the first, and of the rest after it
  pub each_then : (Asked : Move H → Link H → Type 0) (m : Move H) (moves : List (Move H)) (l : Link H) → AtEach answer_of after Asked (m ∷ moves) l
      → Asked m l × AtEach answer_of after Asked moves (after_move answer_of after m l)
  each_then Asked m moves l each = (each [] m moves refl, λ front move rest is. each (m ∷ front) move rest (ap (λ ms. m ∷ ms) is))

  keep_handler : (moves : List (Move H)) (l : Link H) → AtEach answer_of after KeepsHandler moves l → KeepHandler answer_of after moves l
  keep_handler [] l each = tt
  keep_handler (m ∷ moves) l each =
      let both = each_then KeepsHandler m moves l each in (both.0, keep_handler moves (after_move answer_of after m l) both.1)

  pub each_is_asked : EachIsAsked answer_of after
  each_is_asked moves l = (each_asked KeepsHandler (KeepHandler answer_of after) (λ m ms n keep. keep) moves l, keep_handler moves l)
