-- The day of programs by lines keeps the premises: by the tests of each call, and since its values are in their ranges.
use Rattle.osdp_program_days.proofs.Common.{drop, take, ◌≡◌, ℕ, zero, suc, [], ◌∷◌, Some, refl, subst, arith, CapabilityFits, each_all, site_at, some_same, held_by, Station, AllFit, IsLineOf, asks, device_at, first_line, station_at, fair_keep, AllRanges, all_range, id_fits, is_set_up, key_fits, room_fits, twice_fits, owns, steps_of, ordered_on}
use Rattle.osdp_frame.specs.Held.{decided}
use Rattle.osdp_frame.specs.Items.{items, left_over}
use Rattle.osdp_msg.specs.CommandTable.{command_at, command_fault, command_of}
use Rattle.osdp_msg.specs.ReplyTable.{reply_at, reply_fault, reply_of}
use Rattle.osdp_device.specs.Status.{new_status, status_after, status_answer}
use Rattle.osdp_device.specs.declared.status.DeviceStatus.{DeviceStatus}
use Rattle.osdp_line_calls.specs.ReaderSessions as device_sessions
use Rattle.osdp_calls_instance.specs.LinePrograms.{line_device, line_panel}
use Rattle.osdp_program_days.specs.ByLines.{DayByLinesKeeps, second, day_by_lines, programs}
use Rattle.osdp_program_days.proofs.Days.{same_calls}
use Rattle.osdp_program_days.proofs.Fitting.{bytes_fit, nak_fits, one_byte, output_fits}

-- the device of an entry, at first
abbrev IsAt : ℕ → device_sessions.Session → Type 0
IsAt k d = line_device.Sound d × (t : Station DeviceStatus) × (site_at k (first_line new_status).stations ≡ Some t) × (held_by t ≡ line_device.held d)

there : (k : ℕ) (d : device_sessions.Session) → site_at k programs.devices ≡ Some d → IsAt k d
unfolding decided
there zero d is = subst (IsAt zero) (some_same (device_sessions.new_session (device_at 3) 4 20 second) d is) ((record { goes_on = refl; undecided = refl }, record { gap = omega arith; bytes = λ place. omega arith; some = λ e. absurd (let is = e in cc); last = omega arith }), station_at 3 new_status, refl, refl)
there (suc zero) d is = subst (IsAt (suc zero)) (some_same (device_sessions.new_session (device_at 4) 4 20 second) d is) ((record { goes_on = refl; undecided = refl }, record { gap = omega arith; bytes = λ place. omega arith; some = λ e. absurd (let is = e in cc); last = omega arith }), station_at 4 new_status, refl, refl)
there (suc (suc k)) d is = absurd (let e = is in cc)

is_line : IsLineOf line_panel line_device programs (first_line new_status)
is_line = record { bus = refl; devices = there }

all_fit : AllFit line_panel line_device (owns line_panel line_device day_by_lines) programs
unfolding items left_over decided reply_of reply_fault reply_at command_of command_fault command_at
all_fit =
    (tt, (tt, (tt, (tt, (tt, (tt, (tt, (omega arith, (bytes_fit (take 5 (asks 3 0 (97 ∷ 0 ∷ []))) refl, (omega arith, (bytes_fit (drop 5 (asks 3 0 (97 ∷ 0 ∷ []))) refl, (omega arith, (bytes_fit (asks 3 0 (97 ∷ 0 ∷ [])) refl, (tt, (tt, (tt, (tt, (tt, (tt, (tt, (tt, (tt, (omega arith, (bytes_fit (asks 4 0 (97 ∷ 0 ∷ [])) refl, (tt, (tt, (tt, ((omega arith, one_byte), (tt, (tt, (tt, (tt, (omega arith, (bytes_fit (83 ∷ 3 ∷ 11 ∷ 0 ∷ 1 ∷ 104 ∷ 0 ∷ 2 ∷ 0 ∷ 0 ∷ 0 ∷ []) refl, (omega arith, (tt, (tt, (tt, (tt, (omega arith, (bytes_fit (asks 3 1 ordered_on) refl, (omega arith, (bytes_fit (asks 3 1 ordered_on) refl, (tt, (tt, (tt, (key_fits, (tt, (tt, (tt, (tt, (omega arith, (bytes_fit (asks 4 1 (96 ∷ [])) refl, (tt, (tt, (tt, (tt, (tt, (tt, (omega arith, (bytes_fit (asks 3 2 (96 ∷ [])) refl, (tt, (tt, (tt, (tt, (tt, (tt, (tt, (omega arith, (bytes_fit (asks 3 2 (96 ∷ [])) refl, (tt, (tt, (tt, (tt, (tt, (tt, (omega arith, (bytes_fit (asks 4 2 (96 ∷ [])) refl, (tt, (tt, (tt, (tt, (tt, (tt, (tt, (tt, (tt, (tt, (tt, (tt, (tt, (tt, (tt, (tt, (tt, (tt, (tt, (tt, (tt, (tt, (tt, (omega arith, (omega arith, (bytes_fit (asks 4 3 (96 ∷ [])) refl, (tt, (tt, (tt, (tt, (tt, (tt, (omega arith, (bytes_fit (asks 3 0 (97 ∷ 0 ∷ [])) refl, (tt, (tt, (tt, (tt, (tt, (tt, (omega arith, (bytes_fit (asks 3 1 (96 ∷ [])) refl, (tt, (tt, (tt, (tt, (tt, (tt, (tt, (omega arith, (bytes_fit (asks 3 2 (110 ∷ 5 ∷ 128 ∷ 37 ∷ 0 ∷ 0 ∷ [])) refl, (tt, (tt, (tt, (tt, (tt, (tt, (tt, (tt, (omega arith, (bytes_fit (asks 5 0 (97 ∷ 0 ∷ [])) refl, (tt, (tt, (tt, (tt, (tt, (tt, (tt, (tt, (tt, (tt, (tt, (tt, (tt, (tt, (tt, (tt, (tt, (tt, (omega arith, (bytes_fit (asks 5 0 (97 ∷ 0 ∷ [])) refl, (tt, (tt, (tt, (tt, (tt, (tt, (tt, (tt, (omega arith, (bytes_fit (asks 5 1 (98 ∷ 0 ∷ [])) refl, ((refl, (refl, (refl, tt))), (tt, (tt, (tt, (tt, (tt, (omega arith, (bytes_fit (asks 5 0 (97 ∷ 0 ∷ [])) refl, (tt, (tt, (tt, (key_fits, (tt, (tt, (tt, (omega arith, (bytes_fit (asks 5 1 (96 ∷ [])) refl, (omega arith, (tt, (tt, (tt, (omega arith, (bytes_fit (asks 5 1 (96 ∷ [])) refl, (tt, (tt, (tt, tt)))))))))))))))))))))))))))))))))))))))))))))))))))))))))))))))))))))))))))))))))))))))))))))))))))))))))))))))))))))))))))))))))))))))))))))))))))))))))))))))))))))))))))))))))))))))))))))))))))

ranges : AllRanges status_answer status_after (steps_of line_panel line_device day_by_lines programs) (first_line new_status)
unfolding items left_over decided reply_of reply_fault reply_at command_of command_fault command_at
ranges =
    (tt, (tt, (tt, (tt, (tt, (tt, (tt, ((id_fits, tt), (tt, (tt, ((tt, tt), (tt, (tt, (tt, (tt, (tt, (tt, (tt, (tt, ((id_fits, tt), (tt, (tt, (tt, (tt, (tt, (output_fits, (tt, (tt, (tt, (tt, (tt, (tt, (tt, (tt, (tt, ((tt, tt), (tt, (tt, ((tt, tt), (tt, (tt, (tt, (tt, (tt, (tt, (tt, (tt, (tt, ((tt, tt), (tt, (tt, (tt, (tt, (tt, (tt, ((tt, tt), (tt, (tt, (tt, (tt, (tt, (tt, (tt, ((key_fits, tt), (tt, (tt, (tt, (tt, (tt, (tt, (tt, ((tt, tt), (tt, (tt, (tt, (tt, (tt, (tt, (tt, (tt, (tt, (tt, (omega arith, (tt, (omega arith, (tt, (tt, (tt, (tt, (tt, (tt, ((omega arith, room_fits), (tt, ((nak_fits, tt), (tt, (tt, (tt, (tt, (tt, (tt, (tt, ((id_fits, tt), (tt, (tt, (tt, (tt, (tt, (tt, (tt, ((key_fits, tt), (tt, (tt, (tt, (tt, ((omega arith, omega arith), (tt, (tt, (tt, (((omega arith, omega arith), tt), (tt, (tt, (tt, (tt, (tt, (tt, (tt, (tt, ((id_fits, tt), (tt, (tt, (tt, (tt, (omega arith, (tt, (tt, (tt, (tt, (tt, (tt, (tt, (tt, (tt, (tt, (tt, ((id_fits, tt), (tt, (tt, (tt, (tt, (omega arith, (omega arith, (tt, (tt, (tt, (((omega arith, each_all CapabilityFits [] tt), tt), (tt, ((twice_fits, (omega arith, (omega arith, (omega arith, tt))), omega arith), (tt, (tt, (tt, (tt, ((id_fits, tt), (tt, (tt, (tt, (tt, (tt, (tt, (tt, (tt, ((key_fits, tt), (tt, (tt, (tt, (tt, (tt, ((tt, tt), (tt, (tt, (tt, (tt, tt)))))))))))))))))))))))))))))))))))))))))))))))))))))))))))))))))))))))))))))))))))))))))))))))))))))))))))))))))))))))))))))))))))))))))))))))))))))))))))))))))))))))))))))))))))))

pub day_by_lines_keeps : DayByLinesKeeps
unfolding items left_over decided reply_of reply_fault reply_at command_of command_fault command_at
day_by_lines_keeps = record {
  calls = record {
    fit = all_fit;
    line = is_line;
    calls = same_calls line_panel line_device day_by_lines programs;
    up = is_set_up new_status;
  };
  keep = fair_keep status_answer status_after (steps_of line_panel line_device day_by_lines programs) (first_line new_status) refl
      (all_range status_answer status_after (steps_of line_panel line_device day_by_lines programs) (first_line new_status) ranges);
  sessions = refl;
  ended = refl;
  acted = refl;
  reported = refl;
  left = refl;
}
