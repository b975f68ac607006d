-- Each bound is reached.
use Rattle.osdp_time_laws.proofs.Common.{◌≡◌, ℕ, ◌+◌, ◌≤◌, Bool, true, false, ◌&&◌, ◌||◌, List, [], ◌∷◌, refl, sym, ◌∙◌, arith, max, nat_le, and_parts, false≢true, leb-true, All-cons, All-nil, next_sequence, Command, Opening, Polling, Session, State, Closed, Quiet, Idle, Waiting, Pausing, IsMachine, IsState, IsSubmitted, Machine, OpensAtZero, acts, seen, is_idle, Ticked, begins, sends_frame, stays, ticks_in, tries_again, either_way, idle_way, Begin, Call, Hear, Tick, after_call, IsAccepted, IsBy, IsOwed, KeepsTime, TicksBy, is_tick, OrderWaits, FallsSilent, GoesOn, IsNotBusy, IsOpening, IsSilent}
use Rattle.osdp_msg.specs.declared.command.Command.TheVariants.{Id}
use Rattle.osdp_msg.specs.ReplyTable as replies
use Rattle.osdp_controller.specs.Settings.{IsConfig}
use Rattle.osdp_controller_laws.proofs.Well.{keeps_each}
use Rattle.osdp_time_laws.specs.Instances.{BoundsAreReached, ack, order_calls, one_order, two_orders, dead_calls, machine_in, opening_calls, outstanding_poll, short_waits, silent_calls, slow_calls}
use Rattle.osdp_time_laws.proofs.Duties.{until_of}

-- where no command waits a tick does something only once the moment is reached
abbrev Acts : ℕ → Session → Ticked → Type 0
Acts until s t = acts t.step ≡ true → until ≤ s.greatest

pub reached_in : (state : State) (s : Session) (w : List Command) → (is_idle state ≡ true → w ≡ []) → Acts (until_of state) s (ticks_in state s w)
reached_in Closed s w none = λ h. cc
reached_in (Quiet until) s w none =
    either_way (Acts until s) (nat_le until s.greatest) (begins Opening 0 s w) (stays s w) (λ b h. leb-true until s.greatest b) (λ b h. cc)
reached_in (Idle due) s w none =
    idle_way (Acts due s) due s w (λ b h. leb-true due s.greatest b) (λ b h. cc)
    (λ command rest has h. absurd (let some : command ∷ rest ≡ [] = sym has ∙ none refl in cc))
reached_in (Waiting until sends o) s w none =
    either_way (Acts until s) (nat_le until s.greatest) (tries_again sends o s w) (stays s w) (λ b h. leb-true until s.greatest b) (λ b h. cc)
reached_in (Pausing until o) s w none =
    either_way (Acts until s) (nat_le until s.greatest) (sends_frame 1 o s w) (stays s w) (λ b h. leb-true until s.greatest b) (λ b h. cc)

-- a tick that is owed, by the moment that the state waits for
owed_by : (call : Call) (k : Machine) (at : ℕ) → (is_idle k.session.state ≡ true → k.waiting ≡ []) → IsOwed at call k → until_of k.session.state ≤ at
owed_by call k at none owed =
    let now : until_of k.session.state ≤ max k.session.greatest at = reached_in k.session.state (seen at k.session) k.waiting none owed.due in
    let on : k.session.greatest ≤ at = owed.not_before in
    omega arith

-- a moment before which no tick does anything: a command that waits is asked at once where nothing is outstanding
abbrev moment_in : Bool → List Command → Session → ℕ
moment_in true (command ∷ w) s = s.greatest
moment_in _ w s = max s.greatest (until_of s.state)

owed_from : (call : Call) (k : Machine) (at : ℕ) → IsOwed at call k → moment_in (is_idle k.session.state) k.waiting k.session ≤ at
owed_from call k at owed = by_waiting (is_idle k.session.state) k.waiting refl refl
  where
    by_waiting : (idle : Bool) (w : List Command) → is_idle k.session.state ≡ idle → k.waiting ≡ w → moment_in idle w k.session ≤ at
    by_waiting true (command ∷ w) is has = owed.not_before
    by_waiting true [] is has = let reached = owed_by call k at (λ idle. has) owed in let on = owed.not_before in omega (arith, reached, on)
    by_waiting false w is has =
        let reached = owed_by call k at (λ idle. absurd (false≢true (sym is ∙ idle))) owed in let on = owed.not_before in omega (arith, reached, on)

-- ---- whether the ticks of a run come in time

abbrev is_by : ℕ → Call → Bool
is_by limit (Begin now) = nat_le now limit
is_by limit (Tick now) = nat_le now limit
is_by limit (Hear p now) = nat_le now limit
is_by limit _ = true

by_later : (m n : ℕ) (call : Call) → m ≤ n → is_by m call ≡ true → IsBy n call
by_later m n (Begin now) le is = omega (arith, le, leb-true now m is)
by_later m n (Tick now) le is = omega (arith, le, leb-true now m is)
by_later m n (Hear p now) le is = omega (arith, le, leb-true now m is)
by_later m n _ le is = tt

abbrev ticks_by : ℕ → List Call → Bool
ticks_by limit [] = true
ticks_by limit (call ∷ calls) = is_by limit call && (is_tick call || ticks_by limit calls)

ticks_later : (m n : ℕ) (calls : List Call) → m ≤ n → ticks_by m calls ≡ true → TicksBy n calls
ticks_later m n [] le is = tt
ticks_later m n (call ∷ calls) le is =
    let both = and_parts (is_by m call) (is_tick call || ticks_by m calls) is in
    (by_later m n call le both.0, λ other. ticks_later m n calls le (rw other at both.1))

abbrev keeps_time : ℕ → List Call → Machine → Bool
keeps_time late [] k = true
keeps_time late (call ∷ calls) k =
    ticks_by (moment_in (is_idle k.session.state) k.waiting k.session + late) (call ∷ calls) && keeps_time late calls (after_call call k)

in_time_by : (late : ℕ) (calls : List Call) (k : Machine) → keeps_time late calls k ≡ true → KeepsTime late calls k
in_time_by late [] k is = tt
in_time_by late (call ∷ calls) k is =
    let moment = moment_in (is_idle k.session.state) k.waiting k.session in
    let both = and_parts (ticks_by (moment + late) (call ∷ calls)) (keeps_time late calls (after_call call k)) is in (
      λ at owed. let from = owed_from call k at owed in ticks_later (moment + late) (at + late) (call ∷ calls) (omega (arith, from)) both.0,
      in_time_by late calls (after_call call k) both.1,
    )

short_config : IsConfig short_waits
short_config = record {
  address = omega arith;
  reply_wait = (omega arith, omega arith);
  poll_interval = (omega arith, omega arith);
  busy_wait = (omega arith, omega arith);
  quiet_wait = (omega arith, omega arith);
  sends = (omega arith, omega arith);
  busy_limit = omega arith;
}

is_machine : (state : State) (number : ℕ) → IsState short_waits state → OpensAtZero state number → IsMachine (machine_in state number)
is_machine state number is opening = record {
  session = record { config = short_config; state = is; opening = opening };
  capacity = (omega arith, omega arith);
  waiting = All-nil IsSubmitted;
  room = omega arith;
}

-- ---- the runs, call by call

slow : GoesOn 1 0 slow_calls (machine_in (Idle 0) 0)
unfolding replies.reply_of replies.reply_fault replies.reply_at
slow = record {
  machine = is_machine (Idle 0) 0 tt tt;
  begins = refl;
  lasts = (refl, (refl, (refl, (refl, (refl, (refl, tt))))));
  in_time = in_time_by 1 slow_calls (after_call (Tick 0) (machine_in (Idle 0) 0)) refl;
}

dead : GoesOn 1 0 dead_calls (machine_in (Idle 0) 0)
dead = record {
  machine = is_machine (Idle 0) 0 tt tt;
  begins = refl;
  lasts = (refl, (refl, tt));
  in_time = in_time_by 1 dead_calls (after_call (Tick 0) (machine_in (Idle 0) 0)) refl;
}

begins_slow : IsOpening 1 0 opening_calls (machine_in Closed 0)
unfolding replies.reply_of replies.reply_fault replies.reply_at
begins_slow = record {
  machine = is_machine Closed 0 tt tt;
  begins = refl;
  lasts = (refl, (refl, (refl, (refl, (refl, (refl, (refl, tt)))))));
  in_time = in_time_by 1 opening_calls (after_call (Begin 0) (machine_in Closed 0)) refl;
}

falls : FallsSilent 1 ack 0 silent_calls (machine_in outstanding_poll 1)
unfolding replies.reply_of replies.reply_fault replies.reply_at
falls = record {
  machine = is_machine outstanding_poll 1
      ((omega arith), (omega arith), record { command = tt; busies = omega arith; some = omega arith; sent = omega arith }) (λ same. absurd cc);
  outstanding = refl;
  answered = refl;
  silent = All-cons IsSilent (Tick 6) (Tick 10 ∷ Tick 14 ∷ []) tt (All-cons IsSilent (Tick 10) (Tick 14 ∷ []) tt (All-cons IsSilent (Tick 14) [] tt (All-nil IsSilent)));
  lasts = (refl, (refl, (refl, tt)));
  in_time = in_time_by 1 silent_calls (after_call (Hear ack 0) (machine_in outstanding_poll 1)) refl;
}

one_id : IsMachine (record (machine_in (Idle 0) 0) { waiting = Id 0 ∷ []; capacity = 2; room = 2866 })
one_id = record {
  session = record { config = short_config; state = tt; opening = tt };
  capacity = (omega arith, omega arith);
  waiting = All-cons IsSubmitted (Id 0) [] (λ same. cc) (All-nil IsSubmitted);
  room = omega arith;
}

order_slow : OrderWaits 0 0 0 order_calls two_orders
unfolding replies.reply_of replies.reply_fault replies.reply_at
order_slow = record {
  machine = record {
    session = record { config = short_config; state = tt; opening = tt };
    capacity = (omega arith, omega arith);
    waiting = All-cons IsSubmitted (Id 0) (Id 0 ∷ []) (λ same. cc) (All-cons IsSubmitted (Id 0) [] (λ same. cc) (All-nil IsSubmitted));
    room = omega arith;
  };
  begins = refl;
  in_a_row = refl;
  place = omega arith;
  lasts = ((omega arith), refl, ((omega arith), refl, ((omega arith), refl, ((omega arith), refl, ((omega arith), refl, ((omega arith), refl, ((omega arith), refl, tt)))))));
  in_time = in_time_by 0 order_calls (after_call (Tick 0) two_orders) refl;
}

order_accepted : IsAccepted 0 (Id 0) order_calls one_order
unfolding replies.reply_of replies.reply_fault replies.reply_at
order_accepted = record {
  machine = keeps_each (Tick 0) (record (machine_in (Idle 0) 0) { waiting = Id 0 ∷ []; capacity = 2; room = 2866 }) one_id;
  timely = omega arith;
  under_way = refl;
  in_a_row = refl;
  accepted = refl;
  lasts = order_slow.lasts;
  in_time = order_slow.in_time;
}

pub bounds_reached : BoundsAreReached
unfolding replies.reply_of replies.reply_fault replies.reply_at
bounds_reached = record {
  slow = slow;
  exchange = refl;
  dead = dead;
  not_busy = All-cons IsNotBusy (Tick 4) (Tick 8 ∷ []) tt (All-cons IsNotBusy (Tick 8) [] tt (All-nil IsNotBusy));
  round = refl;
  begins = begins_slow;
  opening = refl;
  order_waits = order_slow;
  order = refl;
  falls = falls;
  silence = refl;
  accepted = order_accepted;
  acceptance = refl;
}
