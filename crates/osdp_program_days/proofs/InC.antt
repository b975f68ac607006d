-- The day of programs in C keeps the premises: by the tests of each call, and since its values are in their ranges.
use Rattle.osdp_program_days.proofs.Common.{◌≡◌, ℕ, zero, suc, List, [], ◌∷◌, Option, Some, None, refl, subst, arith, CapabilityFits, new_program, program_after, program_answer, each_all, site_at, some_same, held_by, Station, c_device, c_panel, AllFit, AtDevice, AtPanel, FitsAt, IsLineOf, OwnCall, Programs, after_own, first_line, station_at, fair_keep, AllRanges, all_range, id_fits, is_set_up, key_fits, room_fits, twice_fits, owns, steps_of}
use Rattle.osdp_frame.specs.Held.{decided}
use Rattle.osdp_frame.specs.Items.{items, left_over}
use Rattle.osdp_msg.specs.CommandTable.{command_at, command_fault, command_of}
use Rattle.osdp_msg.specs.ReplyTable.{reply_at, reply_fault, reply_of}
use Rattle.osdp_device.specs.declared.program.ProgramAnswers.{ProgramAnswers}
use Rattle.osdp_c_values.specs.declared.machine.ReaderMachine.{ReaderMachine}
use Rattle.osdp_program_days.specs.InC.{DayInCKeeps, day_in_c, device_at, programs}
use Rattle.osdp_program_days.proofs.Days.{same_calls}
use Rattle.osdp_program_days.proofs.Fitting.{nak_fits, output_fits}

all_fit : AllFit c_panel c_device (owns c_panel c_device day_in_c) programs
unfolding items left_over decided reply_of reply_fault reply_at command_of command_fault command_at
all_fit =
    (tt, (tt, (tt, (tt, (tt, (tt, (tt, (tt, (tt, (tt, (tt, (tt, (tt, (tt, (tt, (tt, (tt, (tt, (tt, (tt, (tt, (tt, (tt, (tt, (tt, (tt, (tt, (tt, (tt, (tt, (tt, (tt, (tt, (tt, (tt, (tt, (tt, (tt, (tt, (tt, (tt, (tt, (tt, (tt, (tt, (tt, (tt, (tt, (tt, (tt, (tt, (tt, (tt, (tt, (tt, (tt, (tt, (tt, (tt, (tt, (tt, (tt, (tt, (tt, (tt, (tt, (tt, (tt, (tt, (tt, (tt, (tt, (tt, (tt, (tt, (tt, (tt, (tt, (tt, (tt, (tt, (tt, (tt, (tt, (tt, (tt, (tt, (tt, (tt, (tt, (tt, (tt, (tt, (tt, (tt, (tt, (tt, (tt, (tt, (tt, (tt, (tt, (tt, (tt, (tt, (tt, (tt, (tt, (tt, (tt, (tt, (tt, (tt, (tt, (tt, (tt, (tt, (tt, (tt, (tt, (tt, (tt, (tt, (tt, (tt, (tt, (tt, (tt, (tt, (tt, (tt, (tt, (tt, (tt, (tt, (tt, (tt, (tt, (tt, (tt, (tt, (tt, (tt, (tt, (tt, (tt, (tt, ((refl, (refl, (refl, tt))), (tt, (tt, (tt, (tt, (tt, (tt, (tt, (tt, (tt, (tt, (tt, (tt, (tt, (tt, (tt, (tt, (tt, (tt, (tt, (tt, (tt, tt)))))))))))))))))))))))))))))))))))))))))))))))))))))))))))))))))))))))))))))))))))))))))))))))))))))))))))))))))))))))))))))))))))))))))))))))))))))))))))))))))))))))))

-- the device of an entry, at first
abbrev pub IsAt : ℕ → ReaderMachine → Type 0
IsAt k d = c_device.Sound d × (t : Station ProgramAnswers) × (site_at k (first_line new_program).stations ≡ Some t) × (held_by t ≡ c_device.held d)

pub there : (k : ℕ) (d : ReaderMachine) → site_at k programs.devices ≡ Some d → IsAt k d
there zero d is = subst (IsAt zero) (some_same (device_at 3) d is) (tt, station_at 3 new_program, refl, refl)
there (suc zero) d is = subst (IsAt (suc zero)) (some_same (device_at 4) d is) (tt, station_at 4 new_program, refl, refl)
there (suc (suc k)) d is = absurd (let e = is in cc)

is_line : IsLineOf c_panel c_device programs (first_line new_program)
is_line = record { bus = refl; devices = there }

ranges : AllRanges program_answer program_after (steps_of c_panel c_device day_in_c programs) (first_line new_program)
unfolding items left_over decided reply_of reply_fault reply_at command_of command_fault command_at
ranges =
    (tt, (tt, (tt, (tt, (tt, (tt, (tt, (tt, ((id_fits, tt), (tt, (tt, ((tt, tt), (tt, (tt, (tt, (tt, (tt, (tt, (tt, (tt, (tt, ((id_fits, tt), (tt, (tt, (tt, (tt, (tt, (output_fits, (tt, (tt, (tt, (tt, (tt, (tt, (tt, (tt, (tt, (tt, (tt, (tt, (tt, (tt, (tt, ((tt, tt), (tt, (tt, ((tt, tt), (tt, (tt, (tt, (tt, (tt, (tt, (tt, (tt, (tt, ((tt, tt), (tt, (tt, (tt, (tt, (tt, (tt, ((tt, tt), (tt, (tt, (tt, (tt, (tt, (tt, (tt, ((key_fits, tt), (tt, (tt, (tt, (tt, (tt, (tt, (tt, ((tt, tt), (tt, (tt, (tt, (tt, (tt, (tt, (tt, (tt, (tt, (tt, (omega arith, (tt, (omega arith, (tt, (tt, (tt, (tt, (tt, (tt, ((omega arith, room_fits), (tt, ((nak_fits, tt), (tt, (tt, (tt, (tt, (tt, (tt, (tt, ((id_fits, tt), (tt, (tt, (tt, (tt, (tt, (tt, (tt, ((key_fits, tt), (tt, (tt, (tt, (tt, ((omega arith, omega arith), (tt, (tt, (tt, (((omega arith, omega arith), tt), (tt, (tt, (tt, (tt, (tt, (tt, (tt, (tt, ((id_fits, tt), (tt, (tt, (tt, (tt, (omega arith, (tt, (tt, (tt, (tt, (tt, (tt, (tt, (tt, (tt, (tt, (tt, ((id_fits, tt), (tt, (tt, (tt, (tt, (omega arith, (omega arith, (tt, (tt, (tt, (((omega arith, each_all CapabilityFits [] tt), tt), (tt, ((twice_fits, (omega arith, (omega arith, (omega arith, tt))), omega arith), (tt, (tt, (tt, (tt, ((id_fits, tt), (tt, (tt, (tt, (tt, (tt, (tt, (tt, (tt, ((key_fits, tt), (tt, (tt, (tt, (tt, (tt, ((tt, tt), (tt, (tt, (tt, (tt, tt)))))))))))))))))))))))))))))))))))))))))))))))))))))))))))))))))))))))))))))))))))))))))))))))))))))))))))))))))))))))))))))))))))))))))))))))))))))))))))))))))))))))))))))))))))))))))))))

pub day_in_c_keeps : DayInCKeeps
unfolding items left_over decided reply_of reply_fault reply_at command_of command_fault command_at
day_in_c_keeps = record {
  calls = record {
    fit = all_fit;
    line = is_line;
    calls = same_calls c_panel c_device day_in_c programs;
    up = is_set_up new_program;
  };
  keep = fair_keep program_answer program_after (steps_of c_panel c_device day_in_c programs) (first_line new_program) refl
      (all_range program_answer program_after (steps_of c_panel c_device day_in_c programs) (first_line new_program) ranges);
  sessions = refl;
  ended = refl;
  acted = refl;
  reported = refl;
  left = refl;
}
