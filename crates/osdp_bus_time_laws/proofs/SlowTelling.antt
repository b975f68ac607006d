-- The bound by which a silent device is told lost is reached, by a line of two entries.
use Rattle.osdp_bus_time_laws.proofs.Common.{◌≡◌, ◌∙◌, ap, sym, inl, inr, ℕ, ◌≤◌, ◌||◌, Bool, true, false, max, [], ◌∷◌, None, refl, arith, ◌⊎◌, All, list_any, All-nil, NoReply, until_of, Entry, BusState, has_report, holder, acts, address_of, is_entry_due, NextReport, Tick, after_call, KeepsTime, SilenceIsReached, both_idle, silent_calls, IsOfAnother, NothingIsRead, HasFew}
use Rattle.osdp_frame.specs.Items.{items, left_over}
use Rattle.osdp_frame.specs.Held.{decided}
use Rattle.osdp_msg.specs.ReplyTable.{reply_at, reply_fault, reply_of}
use Rattle.osdp_bus_time_laws.proofs.Acting.{device_in, free_due, no_other, owed_from, reached_of}
use Rattle.osdp_bus_time_laws.proofs.Instances.{short_config}

-- ---- the line, after each call

abbrev first_asked : BusState
first_asked = after_call (Tick 10) both_idle

abbrev first_lost : BusState
first_lost = after_call (Tick 14) first_asked

abbrev first_taken : BusState
first_taken = after_call NextReport first_lost

abbrev second_asked : BusState
second_asked = after_call (Tick 15) first_taken

abbrev second_lost : BusState
second_lost = after_call (Tick 19) second_asked

abbrev last_moment : BusState
last_moment = after_call (Tick 20) second_lost

-- ---- each duty is done in time

same_moment : (n : ℕ) → n ≤ n
same_moment n = omega arith

either_due : (x y : Bool) → (x || (y || false)) ≡ true → (x ≡ true) ⊎ (y ≡ true)
either_due true y due = inl refl
either_due false true due = inr refl
either_due false false due = cc

-- an idle line of two entries whose POLLs are due at one moment
idle_until : (b : BusState) (d e : Entry) (at from : ℕ) → b.held ≡ [] → has_report b ≡ false → holder b ≡ None → b.devices.entries ≡ d ∷ e ∷ []
    → d.controller.waiting ≡ [] → e.controller.waiting ≡ [] → d.controller.session.greatest ≤ b.greatest → e.controller.session.greatest ≤ b.greatest
    → until_of d.controller.session.state ≡ from → until_of e.controller.session.state ≡ from → acts at b ≡ true → from ≤ max b.greatest at
idle_until b d e at from none untold free entries rests_d rests_e seen_d seen_e from_d from_e so =
    by_due
    (either_due (is_entry_due (max b.greatest at) d) (is_entry_due (max b.greatest at) e)
    (sym (ap (list_any (is_entry_due (max b.greatest at))) entries) ∙ free_due b none untold at so free))
  where
    by_due : (is_entry_due (max b.greatest at) d ≡ true) ⊎ (is_entry_due (max b.greatest at) e ≡ true) → from ≤ max b.greatest at
    by_due (inl due) = let reached = reached_of at b d (λ idle. rests_d) seen_d due in omega arith
    by_due (inr due) = let reached = reached_of at b e (λ idle. rests_e) seen_e due in omega arith

second_taken_in_time : KeepsTime 1 (NextReport ∷ []) last_moment
second_taken_in_time = (λ at owed. (tt, λ other. tt), tt)

last_in_time : KeepsTime 1 (Tick 20 ∷ NextReport ∷ []) second_lost
unfolding items left_over decided reply_of reply_fault reply_at
last_in_time = (λ at owed. let due : 19 ≤ at = owed.not_before in (omega arith, λ other. (tt, λ still. tt)), second_taken_in_time)

second_lost_in_time : KeepsTime 1 (Tick 19 ∷ Tick 20 ∷ NextReport ∷ []) second_asked
unfolding items left_over decided reply_of reply_fault reply_at
second_lost_in_time = (
  λ at owed.
      let due : 18 ≤ at = owed_from (Tick 19) second_asked 1 at (device_in second_asked.devices.entries 1) refl refl refl refl refl (same_moment 15) owed in
      (omega arith, no_other),
  last_in_time,
)

second_asked_in_time : KeepsTime 1 (Tick 15 ∷ Tick 19 ∷ Tick 20 ∷ NextReport ∷ []) first_taken
unfolding items left_over decided reply_of reply_fault reply_at
second_asked_in_time = (λ at owed. let due : 14 ≤ at = owed.not_before in (omega arith, no_other), second_lost_in_time)

first_taken_in_time : KeepsTime 1 (NextReport ∷ Tick 15 ∷ Tick 19 ∷ Tick 20 ∷ NextReport ∷ []) first_lost
unfolding items left_over decided reply_of reply_fault reply_at
first_taken_in_time = (λ at owed. let due : 14 ≤ at = owed.not_before in (tt, λ other. (omega arith, no_other)), second_asked_in_time)

first_lost_in_time : KeepsTime 1 (Tick 14 ∷ NextReport ∷ Tick 15 ∷ Tick 19 ∷ Tick 20 ∷ NextReport ∷ []) first_asked
unfolding items left_over decided reply_of reply_fault reply_at
first_lost_in_time = (
  λ at owed.
      let due : 13 ≤ at = owed_from (Tick 14) first_asked 0 at (device_in first_asked.devices.entries 0) refl refl refl refl refl (same_moment 10) owed in
      (omega arith, no_other),
  first_taken_in_time,
)

in_time : KeepsTime 1 silent_calls both_idle
unfolding items left_over decided reply_of reply_fault reply_at
in_time = (
  λ at owed.
      let due : 9 ≤ max 4 at =
      idle_until both_idle (device_in both_idle.devices.entries 0) (device_in both_idle.devices.entries 1) at 9 refl refl refl refl refl refl (same_moment 4) (same_moment 4)
      refl refl owed.due in
      (omega arith, no_other),
  first_lost_in_time,
)

-- ---- nothing is read

two : 2 ≤ 2
two = omega arith

few : HasFew 2 silent_calls both_idle
unfolding items left_over decided reply_of reply_fault reply_at
few = (two, (two, (two, (two, (two, (two, (two, two)))))))

none_of : (d : Entry) → All (IsOfAnother (address_of d)) []
none_of d = All-nil (IsOfAnother (address_of d))

silent : NothingIsRead 1 silent_calls both_idle
unfolding items left_over decided reply_of reply_fault reply_at
silent = (
  λ d at. none_of d,
  (λ d at. none_of d, (λ d at. none_of d, (λ d at. none_of d, (λ d at. none_of d, (λ d at. none_of d, (λ d at. none_of d, tt)))))),
)

pub silence_is_reached : SilenceIsReached
unfolding items left_over decided reply_of reply_fault reply_at
silence_is_reached = record {
  config = short_config;
  idle = record { device = device_in both_idle.devices.entries 1; there = refl; idle = refl };
  in_time = in_time;
  few = few;
  silent = silent;
  lost = record { cause = NoReply; command = None; report = refl };
  moment = refl;
}
