-- What steady moves keep.
use Rattle.osdp_link_laws.proofs.Common.{List, [], ◌∷◌, All, Command, Answer, SetsNoOther, Link, Move, after_move, KeepHandler, KeepsDevice, KeepsHandler, IsOrdinary, IsSteady, KeepsReader}
use Rattle.std.specs.Prelude.{ℕ}
use Rattle.osdp_link_laws.specs.Link as link
use Rattle.osdp_link_laws.proofs.Lines.{each_all, each_map}
use Rattle.osdp_link_laws.proofs.Stages.{Each}

is_ordinary : {H : Type 0} (m : Move H) → IsSteady m → IsOrdinary m
is_ordinary link.Withdraw steady = absurd steady
is_ordinary link.WithdrawEvent steady = absurd steady
is_ordinary link.LapseEvent steady = absurd steady
is_ordinary (link.RestartReader config handler room) steady = absurd steady
is_ordinary (link.RestartController config room) steady = absurd steady
is_ordinary m steady = tt

keeps_device : {H : Type 0} (m : Move H) → IsSteady m → KeepsDevice m
keeps_device (link.SetHandler handler) steady = absurd steady
keeps_device (link.RestartReader config handler room) steady = absurd steady
keeps_device m steady = tt

keeps_reader : {H : Type 0} (m : Move H) → IsSteady m → KeepsReader m
keeps_reader (link.RestartReader config handler room) steady = absurd steady
keeps_reader m steady = tt

sets_no_other : {H : Type 0} (reader controller : ℕ) (m : Move H) → IsSteady m → SetsNoOther reader controller m
sets_no_other reader controller (link.Retarget address) steady = absurd steady
sets_no_other reader controller (link.RestartReader config handler room) steady = absurd steady
sets_no_other reader controller (link.RestartController config room) steady = absurd steady
sets_no_other reader controller m steady = tt

pub steady_ordinary : {H : Type 0} (ms : List (Move H)) → Each IsSteady ms → Each IsOrdinary ms
steady_ordinary ms steady = each_map IsSteady IsOrdinary is_ordinary ms steady

-- a device that is never another keeps its handler
keeps_handler : {H : Type 0} (move : Move H) (l : Link H) → KeepsDevice move → KeepsHandler move l
keeps_handler (link.SetHandler handler) l keeps = absurd keeps
keeps_handler (link.RestartReader config handler room) l keeps = absurd keeps
keeps_handler move l keeps = tt

pub keep_handler : {H : Type 0} (answer_of : H → Command → Answer) (after : H → Command → H) (moves : List (Move H)) (l : Link H) → Each KeepsDevice moves
    → KeepHandler answer_of after moves l
keep_handler answer_of after [] l keep = tt
keep_handler answer_of after (move ∷ moves) l keep = (keeps_handler move l keep.0, keep_handler answer_of after moves (after_move answer_of after move l) keep.1)

pub steady_handler : {H : Type 0} (answer_of : H → Command → Answer) (after : H → Command → H) (ms : List (Move H)) (l : Link H) → Each IsSteady ms
    → KeepHandler answer_of after ms l
steady_handler answer_of after ms l steady = keep_handler answer_of after ms l (each_map IsSteady KeepsDevice keeps_device ms steady)

pub keep_reader : {H : Type 0} (ms : List (Move H)) → Each IsSteady ms → All KeepsReader ms
keep_reader ms steady = each_all KeepsReader ms (each_map IsSteady KeepsReader keeps_reader ms steady)

pub set_no_other : {H : Type 0} (reader controller : ℕ) (ms : List (Move H)) → Each IsSteady ms → All (SetsNoOther reader controller) ms
set_no_other reader controller ms steady =
    each_all (SetsNoOther reader controller) ms (each_map IsSteady (SetsNoOther reader controller) (sets_no_other reader controller) ms steady)
