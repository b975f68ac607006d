-- The premises hold of both lists of calls, and the rule of the one with two entries: by the tests of each call, and since its values are in their ranges.
use Rattle.std.proofs.Common.{[], ◌∷◌, ◌<◌, ℕ, refl, arith}
use Rattle.osdp_frame.specs.Held.{decided}
use Rattle.osdp_frame.specs.Items.{items, left_over}
use Rattle.osdp_msg.specs.CommandTable.{command_at, command_fault, command_of}
use Rattle.osdp_msg.specs.ReplyTable.{reply_at, reply_fault, reply_of}
use Rattle.osdp_calls_instance.proofs.Common.{CapabilityFits, Command, Sum, bus_in_range, each_all, Answer, IsBusConfig, IsSetUp, first_notes, four, settings, once, two_calls, two_set_up, TwoCallsKeep}
use Rattle.osdp_premises.proofs.Exactly.{fair_keep}
use Rattle.osdp_premises.proofs.LongDay.{AllRanges, all_range, id_fits, room_fits}
use Rattle.osdp_premises.proofs.Ruling.{ruled_keep}
use Rattle.osdp_premises.proofs.SettingUp.{MayStand, set_up_of}
use Rattle.osdp_premises.specs.LongDay.{station_at}
use Rattle.osdp_calls_instance.specs.Instance.{SomeCallsKeep, set_up, some_calls}
use Rattle.osdp_calls_instance.specs.Rule.{TwoCallsKeepRule}

in_range : IsBusConfig settings
in_range = bus_in_range Sum four 3 ((omega arith, omega arith), omega arith, omega arith) (omega arith, omega arith)

once_in_range : IsBusConfig once
once_in_range = bus_in_range Sum four 1 ((omega arith, omega arith), omega arith, omega arith) (omega arith, omega arith)

module _ {H : Type 0} (answer_of : H → Command → Answer) (after : H → Command → H) where
  stands : (address : ℕ) (handler : H) → address < 127 → MayStand (station_at address handler)
  stands address handler low = record { address = low; stores = tt; place = (refl, refl) }

  -- ---- one entry

  is_set_up : (handler : H) → IsSetUp (set_up handler)
  is_set_up handler =
      set_up_of settings [] (set_up handler) in_range refl (stands 0 handler (omega arith), tt) refl (refl, refl, refl)

  ranges : (handler : H) → AllRanges answer_of after (some_calls handler) (set_up handler)
  unfolding items left_over decided reply_of reply_fault reply_at command_of command_fault command_at
  ranges handler =
      (tt, (tt, (tt, (tt, (tt, ((id_fits, tt), (tt, (tt, (tt, ((omega arith, omega arith), (tt, ((omega arith, room_fits), ((in_range, (omega arith, tt), omega arith), tt)))))))))))))

  pub keep : (handler : H) → SomeCallsKeep answer_of after handler
  unfolding items left_over decided reply_of reply_fault reply_at command_of command_fault command_at
  keep handler = record {
    up = is_set_up handler;
    keep = fair_keep answer_of after (some_calls handler) (set_up handler) refl (all_range answer_of after (some_calls handler) (set_up handler) (ranges handler));
    opened = refl;
    said = refl;
  }

  -- ---- two entries

  two_ranges : (handler : H) → AllRanges answer_of after two_calls (two_set_up handler)
  unfolding items left_over decided reply_of reply_fault reply_at command_of command_fault command_at
  two_ranges handler =
      (tt, (tt, (tt, ((id_fits, tt), (tt, ((tt, tt), (tt, (tt, (omega arith, (tt, (tt, (((omega arith, each_all CapabilityFits [] tt), tt), (tt, (tt, ((omega arith, omega arith), (tt, (tt, (tt, (tt, (tt, (tt, (tt, (tt, ((id_fits, tt), (tt, (tt, (tt, (tt, (tt, ((id_fits, tt), (tt, tt)))))))))))))))))))))))))))))))

  pub two_keep : (handler : H) → TwoCallsKeep answer_of after handler
  unfolding items left_over decided reply_of reply_fault reply_at command_of command_fault command_at
  two_keep handler = record {
    up = set_up_of once [] (two_set_up handler) once_in_range refl (stands 0 handler (omega arith), (stands 1 handler (omega arith), tt)) refl (refl, refl, refl);
    keep = fair_keep answer_of after two_calls (two_set_up handler) refl (all_range answer_of after two_calls (two_set_up handler) (two_ranges handler));
    openings = refl;
    told = refl;
    no_more = refl;
  }

  pub two_keep_rule : (handler : H) → TwoCallsKeepRule answer_of after handler
  unfolding items left_over decided reply_of reply_fault reply_at command_of command_fault command_at
  two_keep_rule handler =
      ruled_keep answer_of after two_calls (two_set_up handler) (first_notes (two_set_up handler)) refl
      (all_range answer_of after two_calls (two_set_up handler) (two_ranges handler))
