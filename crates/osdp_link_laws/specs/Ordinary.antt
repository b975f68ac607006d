-- Moves with which neither end restarts, no command or event is taken back, and no event lapses.
use Rattle.osdp_link_laws.specs.Link.{LoseToController, LoseToReader, Move, RestartController, RestartReader, Retarget, SetHandler, Withdraw, WithdrawEvent, LapseEvent}

-- a move with which neither end restarts, no command or event is withdrawn and no event lapses
abbrev pub IsOrdinary : {H : Type 0} → Move H → Type 0
IsOrdinary Withdraw = ⊥
IsOrdinary WithdrawEvent = ⊥
IsOrdinary LapseEvent = ⊥
IsOrdinary (RestartReader config handler room) = ⊥
IsOrdinary (RestartController config room) = ⊥
IsOrdinary _ = Unit {0}

-- .. that sets no handler and no address, and loses nothing out of the middle: what the steps of a schedule come to
abbrev pub IsSteady : {H : Type 0} → Move H → Type 0
IsSteady (SetHandler handler) = ⊥
IsSteady Withdraw = ⊥
IsSteady WithdrawEvent = ⊥
IsSteady LapseEvent = ⊥
IsSteady (Retarget address) = ⊥
IsSteady (RestartReader config handler room) = ⊥
IsSteady (RestartController config room) = ⊥
IsSteady (LoseToReader place) = ⊥
IsSteady (LoseToController place) = ⊥
IsSteady _ = Unit {0}
