-- The long day keeps the premises: by the tests of each call, and since its values are in their ranges.
use Rattle.osdp_premises.proofs.Common.{◌≡◌, ◌<◌, ◌≤◌, ℕ, zero, suc, true, IfSome, List, [], ◌∷◌, length, Option, Some, None, is_some, refl, subst, inr, arith, and_parts, Sum, Command, device_of, new_device, Entry, items_of, each_all, Each, hears, Answer, site_at, Call, NewDevice, NewPanel, Next, OfPanel, Step, after_call, after_calls, read_up_to, CanStand, InUse, Station, AllKeep, InRange, IsSetUp, Keeps, NextInRange, PanelInRange, each_of, AllInRange, keeps_panel, LongDayKeeps, RestartHappens, RestartsHappen, calls, device_at, first_line, four, had_sessions, line_after, line_in_the_morning, long_day, spare_at, station_at, twice, some_same}
use Rattle.std.specs.Prelude.{All, drop, slice_index, take}
use Rattle.osdp_frame.specs.Held.{decided}
use Rattle.osdp_frame.specs.Items.{items, left_over}
use Rattle.osdp_msg.specs.CommandTable.{command_at, command_fault, command_of}
use Rattle.osdp_msg.specs.Limits.{AreRoom}
use Rattle.osdp_msg.specs.ReplyFields.{CapabilityFits, KeypadFits, PdIdFits}
use Rattle.osdp_msg.specs.ReplyTable.{ReplyFits, reply_at, reply_fault, reply_of}
use Rattle.osdp_bus.specs.Settings.{IsBusConfig, default_config}
use Rattle.osdp_bus.proofs.Defaults.{bus_in_range}
use Rattle.osdp_reader_laws.specs.Storing.{StoresItsOwn}
use Rattle.osdp_premises.proofs.Exactly.{fair_keep}
use Rattle.osdp_premises.proofs.Leaving.{leaving_exact}
use Rattle.osdp_premises.proofs.SettingUp.{MayStand, set_up_of}

pub twice_fits : IsBusConfig twice
twice_fits =
    let h : IsBusConfig (record (default_config Sum four) { sends = 2 }) = bus_in_range Sum four 2 ((omega arith, omega arith), omega arith, omega arith) (omega arith, omega arith) in
    let k = h.controllers.config_in_range in
    record {
      controllers = record {
        config_in_range = record { address = k.address; reply_wait = k.reply_wait; poll_interval = k.poll_interval; busy_wait = k.busy_wait; quiet_wait = k.quiet_wait; sends = k.sends; busy_limit = k.busy_limit };
        room = h.controllers.room;
        limit = h.controllers.limit;
        bytes = h.controllers.bytes;
      };
      gap = h.gap;
    }

pub room_fits : AreRoom four.messages four.bytes
room_fits = ((omega arith, omega arith), omega arith, omega arith)

vendor_bytes : (i : ℕ) → slice_index (1 ∷ 2 ∷ 3 ∷ []) i < 256
vendor_bytes zero = omega arith
vendor_bytes (suc zero) = omega arith
vendor_bytes (suc (suc zero)) = omega arith
vendor_bytes (suc (suc (suc i))) = omega arith

pub id_fits : PdIdFits (device_at 3).id
id_fits = record { vendor_length = refl; vendor = vendor_bytes; model = omega arith; version = omega arith; serial = omega arith; firmware_major = omega arith; firmware_minor = omega arith; firmware_build = omega arith }

spare_fits : PdIdFits (spare_at 9).id
spare_fits = record { vendor_length = refl; vendor = vendor_bytes; model = omega arith; version = omega arith; serial = omega arith; firmware_major = omega arith; firmware_minor = omega arith; firmware_build = omega arith }

spare_can : All CapabilityFits (spare_at 9).caps.items
spare_can = each_all CapabilityFits (spare_at 9).caps.items ((omega arith, omega arith, omega arith), tt)

key_bytes : (i : ℕ) → slice_index (49 ∷ []) i < 256
key_bytes zero = omega arith
key_bytes (suc i) = omega arith

pub no_bytes : (i : ℕ) → slice_index [] i < 256
no_bytes i = omega arith

pub key_fits : KeypadFits (record { reader = 0; digits = record { items = 49 ∷ [] } })
key_fits = record { reader = omega arith; room = omega arith; digits = key_bytes }

-- what holds of the first of a list, and of the rest
each_split : {A : Type 0} (P : A → Type 0) (n : ℕ) (xs : List A) → Each P (take n xs) → Each P (drop n xs) → Each P xs
each_split P zero xs first rest = rest
each_split P (suc n) [] first rest = tt
each_split P (suc n) (x ∷ xs) first rest = (first.0, each_split P n xs first.1 rest)

abbrev the_entry : Option Entry → Entry
the_entry None = new_device 0 twice
the_entry (Some d) = d

module _ {H : Type 0} where
  abbrev the_station : Option (Station H) → H → Station H
  the_station None handler = station_at 3 handler
  the_station (Some t) handler = t

  -- a device as it comes, at an address below 127
  stands : (t : Station H) → t.reader.config.address < 127 → StoresItsOwn t.reader → (t.place ≡ 0) × (t.begun ≡ None) → MayStand t
  stands t address stores place = record { address = address; stores = stores; place = place }

  pub is_set_up : (handler : H) → IsSetUp (first_line handler)
  is_set_up handler = set_up_of twice (20 ∷ []) (first_line handler) twice_fits refl
      (stands (station_at 3 handler) (omega arith) tt (refl, refl), (stands (station_at 4 handler) (omega arith) tt (refl, refl), tt)) refl (refl, refl, refl)

  in_the_morning : (handler : H) → IsSetUp (line_in_the_morning handler)
  in_the_morning handler = set_up_of twice (20 ∷ []) (line_in_the_morning handler) twice_fits refl
      (stands (had_sessions (station_at 3 handler)) (omega arith) (refl, inr refl) (refl, refl), (stands (station_at 4 handler) (omega arith) tt (refl, refl), tt))
      refl (refl, refl, refl)

  -- calls among which no panel is made anew
  still : (steps : List (Step H)) → each_of (λ (step : Step H). keeps_panel step.call) steps ≡ true → Each (λ (step : Step H). CanStand step.call) steps
  still [] is = tt
  still (step ∷ steps) is =
      let both = and_parts (keeps_panel step.call) (each_of (λ (s : Step H). keeps_panel s.call) steps) is in
      (leaving_exact.stands step.call ((leaving_exact.panel step.call).0 both.0), still steps both.1)

module _ {H : Type 0} (answer_of : H → Command → Answer) (after : H → Command → H) where
  -- the ranges of a call, said by what is there
  abbrev pub NextEach : Option (Station H) → Type 0
  NextEach None = Unit {0}
  NextEach (Some t) = Each (λ p. IfSome (hears answer_of after t.reader p).said ReplyFits) (read_up_to t.reader (items_of t.line.held))

  abbrev pub RangeOf : Call H → InUse H → Type 0
  RangeOf (OfPanel call) l = PanelInRange answer_of after call
  RangeOf (Next k) l = NextEach (site_at k l.stations)
  RangeOf (NewDevice k config handler room gap) l = (config.address < 127) × AreRoom room.messages room.bytes
  RangeOf (NewPanel config addresses) l = IsBusConfig config × Each (λ a. a < 127) addresses × (length l.stations ≤ length addresses)
  RangeOf _ l = Unit {0}

  next_range : (o : Option (Station H)) → NextEach o → NextInRange answer_of after o
  next_range None fits = tt
  next_range (Some t) fits =
      each_all (λ p. IfSome (hears answer_of after t.reader p).said ReplyFits) (read_up_to t.reader (items_of t.line.held)) fits

  range_of : (call : Call H) (l : InUse H) → RangeOf call l → InRange answer_of after call l
  range_of (OfPanel call) l fits = fits
  range_of (Next k) l fits = next_range (site_at k l.stations) fits
  range_of (NewDevice k config handler room gap) l fits = fits
  range_of (NewPanel config addresses) l fits = (fits.0, each_all (λ a. a < 127) addresses fits.1, fits.2)
  range_of _ l fits = tt

  abbrev pub AllRanges : List (Step H) → InUse H → Type 0
  AllRanges [] l = Unit {0}
  AllRanges (step ∷ steps) l = RangeOf step.call l × AllRanges steps (after_call answer_of after step.call step.places l)

  pub all_range : (steps : List (Step H)) (l : InUse H) → AllRanges steps l → AllInRange answer_of after steps l
  all_range [] l fits = tt
  all_range (step ∷ steps) l fits =
      (range_of step.call l fits.0, all_range steps (after_call answer_of after step.call step.places l) fits.1)

  ranges : (handler other : H) → AllRanges (long_day handler other) (line_in_the_morning handler)
  unfolding items left_over decided reply_of reply_fault reply_at command_of command_fault command_at
  ranges handler other =
      (tt, (tt, (tt, (tt, (tt, (tt, ((id_fits, tt), (tt, ((tt, tt), (tt, (tt, (tt, (omega arith, (tt, (tt, ((id_fits, tt), (tt, (tt, (tt, (tt, (tt, (tt, (tt, (tt, (tt, (((omega arith, each_all CapabilityFits [] tt), tt), (tt, ((tt, tt), (tt, (tt, (tt, (tt, (tt, (tt, ((tt, tt), (tt, (tt, (tt, (tt, ((tt, tt), (tt, (tt, (tt, (tt, ((key_fits, tt), (tt, (tt, (tt, (tt, ((tt, tt), (tt, (tt, (tt, (tt, (tt, (tt, (omega arith, (tt, (tt, (tt, (tt, (tt, (tt, ((omega arith, room_fits), (tt, ((record { reason = tt; room = omega arith; detail = no_bytes }, tt), (tt, (tt, (tt, (tt, ((id_fits, tt), (tt, (tt, (tt, (tt, ((key_fits, tt), (tt, (tt, ((omega arith, omega arith), (tt, (tt, (((omega arith, omega arith), tt), (tt, (tt, (tt, (tt, (tt, ((id_fits, tt), (tt, (tt, ((omega arith, omega arith), (tt, (tt, (((omega arith, omega arith), tt), (tt, (tt, ((tt, tt), (tt, (tt, (tt, (tt, (tt, (tt, ((id_fits, tt), (tt, (tt, ((omega arith, room_fits), (tt, (tt, (tt, (tt, (tt, (tt, (tt, (tt, ((spare_fits, tt), (tt, (tt, (omega arith, (tt, (tt, (((omega arith, spare_can), tt), ((twice_fits, (omega arith, (omega arith, (omega arith, tt))), omega arith), (tt, (tt, (tt, ((spare_fits, tt), (tt, (tt, (tt, (tt, (tt, (tt, (omega arith, (tt, (tt, (tt, ((tt, tt), (tt, (tt, (tt, (tt, ((tt, (tt, (tt, tt))), (tt, (tt, (tt, (tt, (tt, (tt, (tt, (tt, ((key_fits, tt), (tt, ((omega arith, room_fits), tt))))))))))))))))))))))))))))))))))))))))))))))))))))))))))))))))))))))))))))))))))))))))))))))))))))))))))))))))))))))))))))))))))))))))))))))))))))))))))

  pub day_keeps : (handler other : H) → LongDayKeeps answer_of after handler other
  unfolding items left_over decided reply_of reply_fault reply_at command_of command_fault command_at
  day_keeps handler other = record {
    up = in_the_morning handler;
    keep = fair_keep answer_of after (long_day handler other) (line_in_the_morning handler) refl
        (all_range (long_day handler other) (line_in_the_morning handler) (ranges handler other));
    stand = each_all (λ (step : Step H). CanStand step.call) (long_day handler other)
        (each_split (λ (step : Step H). CanStand step.call) 122 (long_day handler other) (still (take 122 (long_day handler other)) refl)
        ((twice_fits, (refl, (refl, (refl, tt)))), still (drop 123 (long_day handler other)) refl));
    none_refused = (refl, (refl, (refl, tt)));
    openings = refl;
    addresses = refl;
    spare = refl;
    accepted = refl;
    taken = refl;
    told = refl;
    cut_off = refl;
    handed = refl;
    queued = refl;
    pressed = refl;
    taken_back = refl;
    offered = refl;
    lapsed = refl;
    said = refl;
  }

  -- ---- restarts of that day

  abbrev line_then : ℕ → Call H → H → H → InUse H
  line_then count call handler other = after_call answer_of after call [] (line_after answer_of after count handler other)

  keep_before : (count : ℕ) (steps : List (Step H)) (l : InUse H) → AllKeep answer_of after steps l → AllKeep answer_of after (take count steps) l
  keep_before zero steps l keep = tt
  keep_before (suc count) [] l keep = tt
  keep_before (suc count) (step ∷ steps) l keep =
      (keep.0, keep_before count steps (after_call answer_of after step.call step.places l) keep.1)

  pub keep_at : (count : ℕ) (steps : List (Step H)) (l : InUse H) (step : Step H) → site_at count steps ≡ Some step → AllKeep answer_of after steps l
      → Keeps answer_of after step (after_calls answer_of after (take count steps) l)
  keep_at count [] l step none keep = absurd (let e = none in cc)
  keep_at zero (first ∷ steps) l step is keep = subst (λ x. Keeps answer_of after x l) (some_same first step is) keep.0
  keep_at (suc count) (first ∷ steps) l step is keep =
      keep_at count steps (after_call answer_of after first.call first.places l) step is keep.1

  there : (o : Option (Station H)) (handler : H) → is_some o ≡ true → o ≡ Some (the_station o handler)
  there None handler some = absurd (let e = some in cc)
  there (Some t) handler some = refl

  stands_there : (o : Option Entry) → is_some o ≡ true → o ≡ Some (the_entry o)
  stands_there None some = absurd (let e = some in cc)
  stands_there (Some d) some = refl

  restart : (count k : ℕ) (call : Call H) (handler other : H) (first : Station H)
      → site_at count (long_day handler other) ≡ Some (calls call []) → site_at k (line_in_the_morning handler).stations ≡ Some first
      → is_some (site_at k (line_after answer_of after count handler other).stations) ≡ true → is_some (device_of k (line_after answer_of after count handler other).bus) ≡ true
      → is_some (site_at k (line_then count call handler other).stations) ≡ true → is_some (device_of k (line_then count call handler other).bus) ≡ true
      → RestartHappens answer_of after count k call handler other
  restart count k call handler other first at was station entry next_station next_entry =
      let keep = (day_keeps handler other).keep in
      record {
        first = first;
        before = the_station (site_at k (line_after answer_of after count handler other).stations) handler;
        next = the_station (site_at k (line_then count call handler other).stations) handler;
        entry = the_entry (device_of k (line_after answer_of after count handler other).bus);
        next_entry = the_entry (device_of k (line_then count call handler other).bus);
        at = at;
        happens = record {
          up = in_the_morning handler;
          keep = keep_before count (long_day handler other) (line_in_the_morning handler) keep;
          keeps = keep_at count (long_day handler other) (line_in_the_morning handler) (calls call []) at keep;
          was = was;
          station = there (site_at k (line_after answer_of after count handler other).stations) handler station;
          entry = stands_there (device_of k (line_after answer_of after count handler other).bus) entry;
          next_station = there (site_at k (line_then count call handler other).stations) handler next_station;
          next_entry = stands_there (device_of k (line_then count call handler other).bus) next_entry;
        };
      }

  in_place : (handler other : H) → RestartHappens answer_of after 63 1 (NewDevice 1 (device_at 4) other four 20) handler other
  unfolding items left_over decided reply_of reply_fault reply_at command_of command_fault command_at
  in_place handler other = restart 63 1 (NewDevice 1 (device_at 4) other four 20) handler other (station_at 4 handler) refl refl refl refl refl refl

  elsewhere : (handler other : H) → RestartHappens answer_of after 106 0 (NewDevice 0 (spare_at 9) handler four 20) handler other
  unfolding items left_over decided reply_of reply_fault reply_at command_of command_fault command_at
  elsewhere handler other = restart 106 0 (NewDevice 0 (spare_at 9) handler four 20) handler other (had_sessions (station_at 3 handler)) refl refl refl refl refl refl

  in_its_place : (handler other : H) → RestartHappens answer_of after 153 1 (NewDevice 1 (spare_at 4) handler four 20) handler other
  unfolding items left_over decided reply_of reply_fault reply_at command_of command_fault command_at
  in_its_place handler other = restart 153 1 (NewDevice 1 (spare_at 4) handler four 20) handler other (station_at 4 handler) refl refl refl refl refl refl

  of_panel : (handler other : H) → RestartHappens answer_of after 122 0 (NewPanel twice (9 ∷ 4 ∷ 20 ∷ [])) handler other
  unfolding items left_over decided reply_of reply_fault reply_at command_of command_fault command_at
  of_panel handler other = restart 122 0 (NewPanel twice (9 ∷ 4 ∷ 20 ∷ [])) handler other (had_sessions (station_at 3 handler)) refl refl refl refl refl refl

  pub restarts_happen : (handler other : H) → RestartsHappen answer_of after handler other
  restarts_happen handler other =
      record {
        in_place = in_place handler other;
        elsewhere = elsewhere handler other;
        replaced = in_its_place handler other;
        panel = of_panel handler other;
      }
