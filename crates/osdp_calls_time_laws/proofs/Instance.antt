-- The long day is read in time; and of a quiet wait of twice the time for which packets are held an opening isn't quiet.
use Rattle.osdp_calls_time_laws.proofs.Common.{◌≡◌, ◌<◌, ◌&&◌, ℕ, zero, suc, Bool, true, false, List, [], ◌∷◌, refl, sym, ◌∙◌, arith, and_parts, false≢true, take, Command, IsBusConfig, Answer, Note, OfPanel, Step, after_call, after_calls, InUse, AllKeep, IsSetUp, first_notes, notes_after, has_addresses, is_in_order, is_quiet, LongDayIsTimely, TwiceIsTooShort, brief, held_day, moment_in, one_line, timed, steps_of, AllKeepElse, AllKeepRuleElse, clock_at}
use Rattle.osdp_frame.specs.Held.{decided}
use Rattle.osdp_frame.specs.Items.{items, left_over}
use Rattle.osdp_msg.specs.CommandTable.{command_at, command_fault, command_of}
use Rattle.osdp_msg.specs.ReplyTable.{reply_at, reply_fault, reply_of}
use Rattle.osdp_bus_laws.specs.Calls as bus
use Rattle.osdp_premises.specs.Exactly.{AllInRange}
use Rattle.osdp_premises.specs.Ruling.{keeps_rule}
use Rattle.osdp_premises.specs.LongDay.{answers, calls, line_in_the_morning, long_day}
use Rattle.osdp_premises.proofs.Exactly.{exact}
use Rattle.osdp_premises.proofs.Ruling.{rule_exact}
use Rattle.osdp_premises.proofs.LongDay.{AllRanges, all_range, day_keeps, id_fits, keep_at, no_bytes, room_fits}
use Rattle.osdp_premises.proofs.SettingUp.{set_up_of}
use Rattle.osdp_calls_time_laws.proofs.Deciding.{all_timely}

brief_fits : IsBusConfig brief
brief_fits = record {
  controllers = record {
    config_in_range = record {
      address = omega arith;
      reply_wait = (omega arith, omega arith);
      poll_interval = (omega arith, omega arith);
      busy_wait = (omega arith, omega arith);
      quiet_wait = (omega arith, omega arith);
      sends = (omega arith, omega arith);
      busy_limit = omega arith;
    };
    room = omega arith;
    limit = omega arith;
    bytes = (omega arith, omega arith);
  };
  gap = (omega arith, omega arith);
}

module _ {H : Type 0} where
  one_is_set_up : (handler : H) → IsSetUp (one_line handler)
  one_is_set_up handler =
      set_up_of brief [] (one_line handler) brief_fits refl (record { address = omega arith; stores = tt; place = (refl, refl) }, tt) refl (refl, refl, refl)

  module _ (answer_of : H → Command → Answer) (after : H → Command → H) where
    -- the premises but that on quiet openings, from all of them, or by tests
    else_of : (before : ℕ) (steps : List (Step H)) (l : InUse H) → AllKeep answer_of after steps l → AllKeepElse answer_of after (timed before steps) l
    else_of before [] l keep = tt
    else_of before (step ∷ steps) l keep =
        let k = keep.0 in (
          record { in_order = k.in_order; addresses = k.addresses; in_range = k.in_range },
          else_of (moment_in step.call before) steps (after_call answer_of after step.call step.places l) keep.1,
        )

    abbrev all_else : List (Step H) → InUse H → Bool
    all_else [] l = true
    all_else (step ∷ steps) l =
        is_in_order step.call step.places l && (has_addresses step.call l && all_else steps (after_call answer_of after step.call step.places l))

    else_keep : (before : ℕ) (steps : List (Step H)) (l : InUse H) → all_else steps l ≡ true → AllInRange answer_of after steps l
        → AllKeepElse answer_of after (timed before steps) l
    else_keep before [] l is fits = tt
    else_keep before (step ∷ steps) l is fits =
        let next = after_call answer_of after step.call step.places l in
        let first = and_parts (is_in_order step.call step.places l) (has_addresses step.call l && all_else steps next) is in
        let second = and_parts (has_addresses step.call l) (all_else steps next) first.1 in (
          record { in_order = (exact.order step l).0 first.0; addresses = (exact.addresses step l).0 second.0; in_range = fits.0 },
          else_keep (moment_in step.call before) steps next second.1 fits.1,
        )

    -- the first so many calls keep to the rule in place of the premise on addresses, by a test
    abbrev are_ruled : ℕ → List (Step H) → InUse H → (ℕ → Note) → Bool
    are_ruled zero steps l notes = true
    are_ruled (suc count) [] l notes = true
    are_ruled (suc count) (step ∷ steps) l notes =
        keeps_rule step.call l notes && are_ruled count steps (after_call answer_of after step.call step.places l) (notes_after step.call l notes)

    rule_else : (count before : ℕ) (steps : List (Step H)) (l : InUse H) (notes : ℕ → Note) → are_ruled count steps l notes ≡ true
        → AllKeep answer_of after steps l → AllKeepRuleElse answer_of after (timed before (take count steps)) l notes
    rule_else zero before steps l notes is keep = tt
    rule_else (suc count) before [] l notes is keep = tt
    rule_else (suc count) before (step ∷ steps) l notes is keep =
        let next = after_call answer_of after step.call step.places l in
        let noted = notes_after step.call l notes in
        let both = and_parts (keeps_rule step.call l notes) (are_ruled count steps next noted) is in
        let k = keep.0 in (
          record { in_order = k.in_order; rule = (rule_exact step.call l notes).0 both.0; in_range = k.in_range },
          rule_else count (moment_in step.call before) steps next noted both.1 keep.1,
        )

    pub long_day_timely : (handler other : H) → LongDayIsTimely answer_of after handler other
    unfolding items left_over decided reply_of reply_fault reply_at command_of command_fault command_at
    long_day_timely handler other =
        let day = day_keeps answer_of after handler other in
        record {
          up = day.up;
          waits = let fits : 398 < 400 = omega arith in fits;
          timely = all_timely answer_of after 199 (timed 0 (long_day handler other)) (clock_at 0) (line_in_the_morning handler) refl;
          keep = else_of 0 (long_day handler other) (line_in_the_morning handler) day.keep;
          rule = rule_else 106 0 (long_day handler other) (line_in_the_morning handler) (first_notes (line_in_the_morning handler)) refl day.keep;
        }

    held_ranges : (handler : H) → AllRanges answer_of after (held_day handler) (one_line handler)
    unfolding items left_over decided reply_of reply_fault reply_at command_of command_fault command_at
    held_ranges handler =
        (tt, (tt, (tt, ((id_fits, tt), (tt, (tt, (tt, ((omega arith, room_fits), (tt, ((record { reason = tt; room = omega arith; detail = no_bytes }, tt), (tt, (tt, (tt, (tt, ((record { reason = tt; room = omega arith; detail = no_bytes }, tt), (tt, (tt, tt)))))))))))))))))

    held_not_quiet : (handler : H) → AllKeep answer_of after (steps_of (timed 0 (held_day handler))) (one_line handler) → ⊥
    unfolding items left_over decided reply_of reply_fault reply_at command_of command_fault command_at
    held_not_quiet handler keep =
        let steps = steps_of (timed 0 (held_day handler)) in
        let last : Step H = calls (OfPanel (bus.OnBytes (answers 3 1 (65 ∷ 4 ∷ [])) 9)) (4 ∷ []) in
        let line = after_calls answer_of after (take 16 steps) (one_line handler) in
        let keeps = keep_at answer_of after 16 steps (one_line handler) last refl keep in
        let quiet : is_quiet last.call last.places line ≡ true = (exact.quiet last line).1 keeps.quiet_opening in
        let loud : is_quiet last.call last.places line ≡ false = refl in
        false≢true (sym loud ∙ quiet)

    pub too_short : (handler : H) → TwiceIsTooShort answer_of after handler
    unfolding items left_over decided reply_of reply_fault reply_at command_of command_fault command_at
    too_short handler = record {
      up = one_is_set_up handler;
      waits = refl;
      timely = all_timely answer_of after 2 (timed 0 (held_day handler)) (clock_at 0) (one_line handler) refl;
      keep = else_keep 0 (held_day handler) (one_line handler) refl (all_range answer_of after (held_day handler) (one_line handler) (held_ranges handler));
      not_quiet = held_not_quiet handler;
    }
