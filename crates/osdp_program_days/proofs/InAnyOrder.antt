-- The day in C of a panel with its entries in three orders keeps the premises: by the tests of each call, and since its values are in their ranges.
use Rattle.std.proofs.Common.{◌≡◌, ◌∙◌, ℕ, List, [], ◌∷◌, map, refl, ap, arith}
use Rattle.osdp_frame.specs.Held.{decided}
use Rattle.osdp_frame.specs.Items.{items, left_over}
use Rattle.osdp_msg.specs.CommandTable.{command_at, command_fault, command_of}
use Rattle.osdp_program_days.proofs.Common.{CapabilityFits, new_program, program_after, program_answer, each_all, Call, OfPanel, Step, c_device, c_panel, IsLineOf, id_fits, key_fits, twice_fits, owns, steps_of}
use Rattle.osdp_msg.specs.ReplyTable.{reply_at, reply_fault, reply_of}
use Rattle.osdp_entry_numbers.specs.Day.{own_line}
use Rattle.osdp_entry_numbers.specs.OwnOrder.{OwnStep, own_view}
use Rattle.osdp_entry_numbers.proofs.Day.{AllFit, any_order, at_four, at_noon, keep_all}
use Rattle.osdp_program_days.specs.InAnyOrder.{DayInAnyOrderKeeps, day_in_c, own_day, own_of, own_step, programs}
use Rattle.osdp_program_days.proofs.Days.{same_calls}
use Rattle.osdp_program_days.proofs.InC.{there}

module _ {H : Type 0} where
  -- a step by the panel's own numbers is the same call
  own_call : (call : Call H) (places : List ℕ) → (own_of call places).call ≡ call
  own_call (OfPanel call) places = refl
  own_call _ places = refl

  own_calls : (steps : List (Step H)) → map (λ (step : OwnStep H). step.call) (map own_step steps) ≡ map (λ (step : Step H). step.call) steps
  own_calls [] = refl
  own_calls (step ∷ steps) =
      ap (λ (call : Call H). call ∷ map (λ (s : OwnStep H). s.call) (map own_step steps)) (own_call step.call step.places) ∙ ap (λ calls. step.call ∷ calls) (own_calls steps)

is_line : IsLineOf c_panel c_device programs (own_view (own_line new_program))
is_line = record { bus = refl; devices = there }

fits : AllFit program_answer program_after own_day (own_line new_program)
unfolding items left_over decided reply_of reply_fault reply_at command_of command_fault command_at
fits =
    ((tt, tt, tt), ((tt, tt, tt), ((omega arith, tt, λ accepted. refl), ((tt, tt, tt), ((tt, tt, tt), ((tt, tt, tt), ((tt, tt, tt), ((tt, tt, tt), ((tt, tt, tt), ((tt, tt, tt), ((tt, tt, tt), (((id_fits, tt), tt, tt), ((tt, tt, tt), ((tt, tt, tt), ((tt, tt, tt), ((tt, tt, tt), ((tt, tt, tt), ((tt, tt, tt), (((twice_fits, (omega arith, (omega arith, (omega arith, tt))), omega arith), at_noon, tt), ((tt, tt, tt), ((((omega arith, each_all CapabilityFits [] tt), tt), tt, tt), ((tt, tt, tt), ((tt, tt, tt), ((tt, tt, tt), ((tt, tt, tt), ((tt, tt, tt), (((twice_fits, (omega arith, (omega arith, (omega arith, tt))), omega arith), at_four, tt), ((tt, tt, tt), ((tt, tt, tt), ((tt, tt, tt), ((tt, tt, tt), (((id_fits, tt), tt, tt), ((tt, tt, tt), ((tt, tt, tt), ((tt, tt, tt), ((tt, tt, tt), ((tt, tt, tt), ((tt, tt, tt), ((tt, tt, tt), (((key_fits, tt), tt, tt), ((tt, tt, tt), ((tt, tt, tt), ((tt, tt, tt), ((tt, tt, tt), (((twice_fits, (omega arith, (omega arith, (omega arith, tt))), omega arith), at_noon, tt), ((tt, tt, tt), ((tt, tt, tt), ((tt, tt, λ free. (_, refl, refl)), ((tt, tt, tt), ((tt, tt, tt), ((tt, tt, tt), ((tt, tt, tt), (((id_fits, tt), tt, tt), ((tt, tt, tt), ((tt, tt, tt), ((tt, tt, tt), ((tt, tt, tt), tt)))))))))))))))))))))))))))))))))))))))))))))))))))))))))

all_own_fit : Rattle.osdp_calls_instance.specs.OwnCalls.AllFit c_panel c_device (owns c_panel c_device day_in_c) programs
unfolding items left_over decided reply_of reply_fault reply_at command_of command_fault command_at
all_own_fit =
    (tt, (tt, (tt, (tt, (tt, (tt, (tt, (tt, (tt, (tt, (tt, (tt, (tt, (tt, (tt, (tt, (tt, (tt, (tt, ((refl, (refl, tt)), (tt, (tt, (tt, (tt, (tt, (tt, ((refl, (refl, (refl, tt))), (tt, (tt, (tt, (tt, (tt, (tt, (tt, (tt, (tt, (tt, (tt, (tt, (tt, (tt, (tt, ((refl, (refl, tt)), (tt, (tt, (tt, (tt, (tt, (tt, (tt, (tt, (tt, (tt, (tt, (tt, tt)))))))))))))))))))))))))))))))))))))))))))))))))))))))

pub day_in_any_order_keeps : DayInAnyOrderKeeps
unfolding items left_over decided reply_of reply_fault reply_at command_of command_fault command_at
day_in_any_order_keeps = record {
  calls = record {
    fit = all_own_fit;
    line = is_line;
    calls = own_calls (steps_of c_panel c_device day_in_c programs) ∙ same_calls c_panel c_device day_in_c programs;
    up = (any_order program_answer program_after new_program).up;
  };
  keep = keep_all program_answer program_after own_day (own_line new_program) refl fits;
  ended = refl;
  acted = refl;
  reported = refl;
  sessions = refl;
}
