-- The bound of an opening is reached.
use Rattle.osdp_bus_time_laws.proofs.Common.{◌≡◌, ◌∙◌, ap, sym, subst, inl, inr, ℕ, ◌≤◌, ◌||◌, Bool, true, false, max, [], ◌∷◌, Option, Some, None, refl, arith, ◌⊎◌, if◌then◌else◌, seen_by, is_idle, until_of, reached_in, Entry, BusState, has_report, holder, seen, acts, entry_ticks, holds, is_entry_due, entry_begins, new_device, ends_silent, IsBusConfig, BusTicked, bus_ticks, is_due_at, stays, ticks_by, ticks_free, ticks_held, ticks_on, free_acts, held_acts, nothing_ends, nothing_silent, Tick, NextReport, after_call, after_calls, IsOutstandingAt, KeepsTime, OpeningIsReached, before_opening, opening_calls, short_line, two_begun, HasFew}

-- ---- a tick where no bytes are held and no report waits

abbrev plain_by : Option ℕ → BusState → BusTicked
plain_by None s = ticks_free s
plain_by (Some m) s = if is_due_at m s then ticks_held m s else stays s

by_holder : (o : Option ℕ) (s : BusState) → s.held ≡ [] → ticks_by o s ≡ plain_by o s
by_holder None s none = ap ticks_free (nothing_ends s none)
by_holder (Some m) s none = ap (λ r. if is_due_at m s then ticks_held m r else stays s) (nothing_ends s none)

plain_tick : (now : ℕ) (b : BusState) → b.held ≡ [] → has_report b ≡ false → bus_ticks now b ≡ plain_by (holder (seen now b)) (seen now b)
plain_tick now b none untold =
    ap (λ t. if t then stays (seen now b) else ticks_on (ends_silent (seen now b))) untold
    ∙ ap ticks_on (nothing_silent (seen now b) none) ∙ by_holder (holder (seen now b)) (seen now b) none

-- ---- the run, call by call

abbrev after_first : BusState
after_first = (plain_by (holder (seen 5 two_begun)) (seen 5 two_begun)).bus

abbrev after_second : BusState
after_second = (plain_by (holder (seen 9 after_first)) (seen 9 after_first)).bus

abbrev after_third : BusState
after_third = after_call NextReport after_second

abbrev after_fourth : BusState
after_fourth = (plain_by (holder (seen 10 after_third)) (seen 10 after_third)).bus

first_is : after_call (Tick 5) two_begun ≡ after_first
first_is = ap (λ (t : BusTicked). t.bus) (plain_tick 5 two_begun refl refl)

second_is : after_call (Tick 9) after_first ≡ after_second
second_is = ap (λ (t : BusTicked). t.bus) (plain_tick 9 after_first refl refl)

fourth_is : after_call (Tick 10) after_third ≡ after_fourth
fourth_is = ap (λ (t : BusTicked). t.bus) (plain_tick 10 after_third refl refl)

three_are : after_calls before_opening two_begun ≡ after_third
three_are = ap (λ b. after_calls (Tick 9 ∷ NextReport ∷ []) b) first_is ∙ ap (after_call NextReport) second_is

four_are : after_calls opening_calls two_begun ≡ after_fourth
four_are =
    ap (λ b. after_calls (Tick 9 ∷ NextReport ∷ Tick 10 ∷ []) b) first_is ∙ ap (λ b. after_calls (NextReport ∷ Tick 10 ∷ []) b) second_is ∙ fourth_is

-- ---- duties

no_other : {A : Type 0} → true ≡ false → A
no_other h = cc

-- a controller with no command that waits is due only once the moment is reached
reached_of : (n : ℕ) (d : Entry) → (is_idle d.controller.session.state ≡ true → d.controller.waiting ≡ []) → is_entry_due n d ≡ true
    → until_of d.controller.session.state ≤ max d.controller.session.greatest n
reached_of n d none due = reached_in d.controller.session.state (seen_by n d.controller.session) d.controller.waiting none due

either_due : (until : ℕ) (a b : Bool) → (a ≡ true → until ≤ until) → (a || (b || false)) ≡ true → (a ≡ true) ⊎ (b ≡ true)
either_due until true b same due = inl refl
either_due until false true same due = inr refl
either_due until false false same due = cc

abbrev one : Entry
one = entry_begins 0 (new_device 0 short_line)

abbrev other : Entry
other = entry_begins 0 (new_device 1 short_line)

quiet_by : (at : ℕ) → (is_entry_due (max 0 at) one ≡ true) ⊎ (is_entry_due (max 0 at) other ≡ true) → 4 ≤ at
quiet_by at (inl due) = let reached : 4 ≤ max 0 (max 0 at) = reached_of (max 0 at) one (λ idle. cc) due in omega arith
quiet_by at (inr due) = let reached : 4 ≤ max 0 (max 0 at) = reached_of (max 0 at) other (λ idle. cc) due in omega arith

quiet_reached : (at : ℕ) → acts at two_begun ≡ true → 4 ≤ at
quiet_reached at so =
    let b = two_begun in
    quiet_by at
    (either_due at (is_entry_due (max 0 at) one) (is_entry_due (max 0 at) other) (λ h. omega arith)
    (sym (free_acts b.config b.remembered b.devices.entries b.first b.last b.greatest at refl) ∙ so))

outstanding_reached : (at : ℕ) → acts at after_first ≡ true → 8 ≤ at
outstanding_reached at so =
    let b = after_first in
    let reached : 8 ≤ max 5 (max 5 at) =
    reached_of (max 5 at) (entry_ticks 5 one) (λ idle. cc)
    (sym (held_acts b.config b.remembered b.devices.entries b.first b.last b.greatest at 0 (entry_ticks 5 one) refl refl refl) ∙ so) in
    omega arith

-- ---- the whole

pub short_config : IsBusConfig short_line
short_config = record {
  controllers = record {
    config_in_range = record {
      address = omega arith;
      reply_wait = (omega arith, omega arith);
      poll_interval = (omega arith, omega arith);
      busy_wait = (omega arith, omega arith);
      quiet_wait = (omega arith, omega arith);
      sends = (omega arith, omega arith);
      busy_limit = omega arith;
    };
    room = omega arith;
    limit = omega arith;
    bytes = (omega arith, omega arith);
  };
  gap = (omega arith, omega arith);
}

third_in_time : KeepsTime 1 (Tick 10 ∷ []) after_third
third_in_time = (λ at owed. let now : 9 ≤ at = owed.not_before in (omega arith, no_other), tt)

second_in_time : KeepsTime 1 (NextReport ∷ Tick 10 ∷ []) after_second
second_in_time = (λ at owed. let now : 9 ≤ at = owed.not_before in (tt, λ still. (omega arith, no_other)), third_in_time)

first_in_time : KeepsTime 1 (Tick 9 ∷ NextReport ∷ Tick 10 ∷ []) after_first
first_in_time = (
  λ at owed. let reached : 8 ≤ at = outstanding_reached at owed.due in (omega arith, no_other),
  subst (KeepsTime 1 (NextReport ∷ Tick 10 ∷ [])) (sym second_is) second_in_time,
)

in_time : KeepsTime 1 opening_calls two_begun
in_time = (
  λ at owed. let reached : 4 ≤ at = quiet_reached at owed.due in (omega arith, no_other),
  subst (KeepsTime 1 (Tick 9 ∷ NextReport ∷ Tick 10 ∷ [])) (sym first_is) first_in_time,
)

few_third : HasFew 2 (Tick 10 ∷ []) after_third
few_third = (omega arith, subst (HasFew 2 []) (sym fourth_is) (omega arith))

few_first : HasFew 2 (Tick 9 ∷ NextReport ∷ Tick 10 ∷ []) after_first
few_first = (omega arith, subst (HasFew 2 (NextReport ∷ Tick 10 ∷ [])) (sym second_is) (omega arith, few_third))

few : HasFew 2 opening_calls two_begun
few = (omega arith, subst (HasFew 2 (Tick 9 ∷ NextReport ∷ Tick 10 ∷ [])) (sym first_is) few_first)

not_out : IsOutstandingAt 1 after_third → ⊥
not_out out =
    let same : Some out.device ≡ Some other = sym out.there in
    let one_device : out.device ≡ other = cc in
    let stands = ap holds (sym one_device) ∙ out.outstanding in
    cc

pub opening_is_reached : OpeningIsReached
opening_is_reached = record {
  config = short_config;
  accepted = refl;
  in_time = in_time;
  few = few;
  not_before = λ out. not_out (subst (IsOutstandingAt 1) three_are out);
  begins = subst (IsOutstandingAt 1) (sym four_are) (record { device = entry_ticks 10 other; there = refl; outstanding = refl });
  moment = ap (λ (b : BusState). b.greatest) four_are;
}
