-- The items of a run that are packets are what the controllers hear.
use Rattle.osdp_calls.proofs.Common.{◌≡◌, ◌||◌, ℕ, max, not, Bool, true, false, cond, List, [], ◌∷◌, ◌++◌, Option, Some, None, refl, sym, ap, ◌∙◌, append_assoc, slice_get, slice_set, items, whole_packets, Packet, RunItem, PacketItem, SkippedItem, RefusedItem, Report, BusState, Devices, device_of, has_report, holder, is_silent, seen, waiting_after, entry_ticks, first_from, is_at, step_of, ends_run, ends_silent, hears_items, hears_packet, BusTicked, bus_ticks, is_due_at, is_held_and_due, next_due, stays, ticks_at, ticks_by, ticks_with, Entry, told_at, told_by_device, told_by_end, told_by_entry, told_by_holder, told_by_items, told_by_silence, told_by_tick, told_by_ticking, told_in, judged, asked_at, asked_by_holder, read_at_end, read_at_silence, read_at_tick, read_by, read_by_holder, HandsOver, heard, hears_all, told_by_all}
use Rattle.osdp_bus_laws.specs.Calls as bus

hears_parts : (now : ℕ) (parts : List RunItem) (ds : Devices) → hears_items now parts ds ≡ hears_all now (whole_packets parts) ds
hears_parts now [] ds = refl
hears_parts now (PacketItem p ∷ parts) ds = hears_parts now parts (hears_packet p now ds)
hears_parts now (SkippedItem byte ∷ parts) ds = hears_parts now parts ds
hears_parts now (RefusedItem fault ∷ parts) ds = hears_parts now parts ds

tells_parts : (now : ℕ) (parts : List RunItem) (ds : Devices) → told_by_items now parts ds ≡ told_by_all now (whole_packets parts) ds
tells_parts now [] ds = refl
tells_parts now (PacketItem p ∷ parts) ds =
    ap (λ xs. told_by_entry p now (first_from 0 (is_at p.address) ds.entries) ds ++ xs) (tells_parts now parts (hears_packet p now ds))
tells_parts now (SkippedItem byte ∷ parts) ds = tells_parts now parts ds
tells_parts now (RefusedItem fault ∷ parts) ds = tells_parts now parts ds

hears_more : (now : ℕ) (ps qs : List Packet) (ds : Devices) → hears_all now (ps ++ qs) ds ≡ hears_all now qs (hears_all now ps ds)
hears_more now [] qs ds = refl
hears_more now (p ∷ ps) qs ds = hears_more now ps qs (hears_packet p now ds)

tells_more : (now : ℕ) (ps qs : List Packet) (ds : Devices)
    → told_by_all now (ps ++ qs) ds ≡ told_by_all now ps ds ++ told_by_all now qs (hears_all now ps ds)
tells_more now [] qs ds = refl
tells_more now (p ∷ ps) qs ds =
    let here = told_by_entry p now (first_from 0 (is_at p.address) ds.entries) ds in
    let next = hears_packet p now ds in
    ap (λ xs. here ++ xs) (tells_more now ps qs next) ∙ sym (append_assoc here (told_by_all now ps next) (told_by_all now qs (hears_all now ps next)))

-- ---- the end of a run, and a silence

-- a bus, and what its controllers are and tell once they have heard these packets
abbrev With : BusState → List Packet → BusState
With b ps = record b { devices = hears_all b.greatest ps b.devices }

-- the same but for what is held
pub record IsAlike (a b : BusState) : Type 0 where
  pub devices : a.devices ≡ b.devices
  pub greatest : a.greatest ≡ b.greatest
  pub first : a.first ≡ b.first

end_alike : (b : BusState) → IsAlike (ends_run b) (With b (read_at_end b))
end_alike b = record { devices = hears_parts b.greatest (items true b.held) b.devices; greatest = refl; first = refl }

silent_alike : (b : BusState) → IsAlike (ends_silent b) (With b (read_at_silence b))
silent_alike b = by_test (is_silent b)
  where
    by_test : (x : Bool) → IsAlike (cond x (ends_run b) b) (With b (cond x (read_at_end b) []))
    by_test true = end_alike b
    by_test false = record { devices = refl; greatest = refl; first = refl }

silence_tells : (b : BusState) → told_by_silence b ≡ told_by_all b.greatest (read_at_silence b) b.devices
silence_tells b = by_test (is_silent b)
  where
    by_test : (x : Bool) → cond x (told_by_end b) [] ≡ told_by_all b.greatest (cond x (read_at_end b) []) b.devices
    by_test true = tells_parts b.greatest (items true b.held) b.devices
    by_test false = refl

-- ---- a controller that ticks

with_alike : (entry : ℕ) (o : Option Entry) (a b : BusState) → IsAlike a b
    → ((ticks_with entry o a).bus.devices ≡ (ticks_with entry o b).bus.devices) × ((ticks_with entry o a).sent ≡ (ticks_with entry o b).sent)
    × (told_by_device entry o a ≡ told_by_device entry o b)
with_alike entry None a b is = (is.devices, refl, refl)
with_alike entry (Some d) a b is = (
  (λ i. record {
    entries = slice_set (is.devices i).entries entry (entry_ticks (is.greatest i) d);
    report = waiting_after entry (step_of (is.greatest i) d).report (is.devices i).report;
  }),
  (λ i. (step_of (is.greatest i) d).frame),
  (λ i. told_at entry (step_of (is.greatest i) d).report),
)

ticks_alike : (o : Option ℕ) (a b : BusState) → IsAlike a b
    → ((ticks_at o a).bus.devices ≡ (ticks_at o b).bus.devices) × ((ticks_at o a).sent ≡ (ticks_at o b).sent)
    × (told_by_ticking o a ≡ told_by_ticking o b)
ticks_alike None a b is = (is.devices, refl, refl)
ticks_alike (Some entry) a b is =
    let there : device_of entry a ≡ device_of entry b = ap (λ (ds : Devices). slice_get ds.entries entry) is.devices in
    let alike = with_alike entry (device_of entry a) a b is in (
      alike.0 ∙ ap (λ o. (ticks_with entry o b).bus.devices) there,
      alike.1 ∙ ap (λ o. (ticks_with entry o b).sent) there,
      alike.2 ∙ ap (λ o. told_by_device entry o b) there,
    )

-- what a tick comes to: this is read, and then this one ticks
pub record Ticks (b : BusState) (ps : List Packet) (o : Option ℕ) (ticked : BusTicked) (told : List (ℕ × Report)) : Type 0 where
  pub devices : ticked.bus.devices ≡ (ticks_at o (With b ps)).bus.devices
  pub sent : ticked.sent ≡ (ticks_at o (With b ps)).sent
  pub tells : told ≡ told_by_all b.greatest ps b.devices ++ told_by_ticking o (With b ps)

asks_so : (rests : Bool) (o : Option ℕ) (b : BusState)
    → Ticks b (read_at_end b) (cond rests None o) (cond rests (stays (ends_run b)) (ticks_at o (ends_run b)))
    (told_by_end b ++ cond rests [] (told_by_ticking o (ends_run b)))
asks_so true o b = record {
  devices = (end_alike b).devices;
  sent = refl;
  tells = ap (λ xs. xs ++ []) (tells_parts b.greatest (items true b.held) b.devices);
}
asks_so false o b =
    let alike = ticks_alike o (ends_run b) (With b (read_at_end b)) (end_alike b) in
    record {
      devices = alike.0;
      sent = alike.1;
      tells = (λ i. tells_parts b.greatest (items true b.held) b.devices i ++ alike.2 i);
    }

holder_so : (o : Option ℕ) (b : BusState) → Ticks b (read_by_holder o b) (asked_by_holder o b) (ticks_by o b) (told_by_holder o b)
holder_so None b = asks_so (has_report (ends_run b)) (next_due (ends_run b)) b
holder_so (Some entry) b = by_due (is_due_at entry b)
  where
    by_due : (x : Bool) → Ticks b (cond x (read_at_end b) [])
        (cond x (cond (has_report (ends_run b) || not (is_held_and_due entry (ends_run b))) None (Some entry)) None)
        (cond x (cond (has_report (ends_run b) || not (is_held_and_due entry (ends_run b))) (stays (ends_run b)) (ticks_at (Some entry) (ends_run b))) (stays b))
        (cond x (told_by_end b ++ cond (has_report (ends_run b) || not (is_held_and_due entry (ends_run b))) [] (told_by_ticking (Some entry) (ends_run b))) [])
    by_due true = asks_so (has_report (ends_run b) || not (is_held_and_due entry (ends_run b))) (Some entry) b
    by_due false = record { devices = refl; sent = refl; tells = refl }

-- after what a silence ends
after_silence_so : (o : Option ℕ) (ps : List Packet) (b : BusState) (ticked : BusTicked) (told : List (ℕ × Report))
    → Ticks (ends_silent b) ps o ticked told → Ticks b (read_at_silence b ++ ps) o ticked (told_by_silence b ++ told)
after_silence_so o ps b ticked told t =
    let quiet = silent_alike b in
    let alike : IsAlike (With (ends_silent b) ps) (With b (read_at_silence b ++ ps)) = record {
      devices = (λ i. hears_all (quiet.greatest i) ps (quiet.devices i)) ∙ sym (hears_more b.greatest (read_at_silence b) ps b.devices);
      greatest = quiet.greatest;
      first = quiet.first;
    } in
    let ticks = ticks_alike o (With (ends_silent b) ps) (With b (read_at_silence b ++ ps)) alike in
    record {
      devices = t.devices ∙ ticks.0;
      sent = t.sent ∙ ticks.1;
      tells = (λ i. silence_tells b i ++ t.tells i)
          ∙ (λ i. told_by_all b.greatest (read_at_silence b) b.devices ++ (told_by_all (quiet.greatest i) ps (quiet.devices i) ++ ticks.2 i))
          ∙ sym (append_assoc (told_by_all b.greatest (read_at_silence b) b.devices)
          (told_by_all b.greatest ps (hears_all b.greatest (read_at_silence b) b.devices)) (told_by_ticking o (With b (read_at_silence b ++ ps))))
          ∙ ap (λ xs. xs ++ told_by_ticking o (With b (read_at_silence b ++ ps))) (sym (tells_more b.greatest (read_at_silence b) ps b.devices));
    }

tick_so : (now : ℕ) (b : BusState) → Ticks (seen now b) (read_at_tick now b) (asked_at now b) (bus_ticks now b) (told_by_tick now b)
tick_so now b = by_report (has_report b)
  where
    by_report : (x : Bool) → Ticks (seen now b)
        (cond x [] (read_at_silence (seen now b) ++ read_by_holder (holder (judged now b)) (judged now b)))
        (cond x None (asked_by_holder (holder (judged now b)) (judged now b)))
        (cond x (stays (seen now b)) (ticks_by (holder (judged now b)) (judged now b)))
        (cond x [] (told_by_silence (seen now b) ++ told_by_holder (holder (judged now b)) (judged now b)))
    by_report true = record { devices = refl; sent = refl; tells = refl }
    by_report false =
        after_silence_so (asked_by_holder (holder (judged now b)) (judged now b)) (read_by_holder (holder (judged now b)) (judged now b)) (seen now b)
        (ticks_by (holder (judged now b)) (judged now b)) (told_by_holder (holder (judged now b)) (judged now b))
        (holder_so (holder (judged now b)) (judged now b))

-- ---- bytes

bytes_so : (bytes : List ℕ) (now : ℕ) (b : BusState)
    → ((bus.after_call (bus.OnBytes bytes now) b).devices ≡ (heard (bus.OnBytes bytes now) now b).devices)
    × (told_in (bus.OnBytes bytes now) b ≡ told_by_all (max b.greatest now) (read_by (bus.OnBytes bytes now) b) b.devices)
bytes_so [] now b = (refl, refl)
bytes_so (byte ∷ bytes) now b =
    let c = seen now b in
    let quiet = silent_alike c in
    let parts = items false ((ends_silent c).held ++ (byte ∷ bytes)) in (
      hears_parts (ends_silent c).greatest parts (ends_silent c).devices
          ∙ (λ i. hears_all (quiet.greatest i) (whole_packets parts) (quiet.devices i))
          ∙ sym (hears_more c.greatest (read_at_silence c) (whole_packets parts) c.devices),
      (λ i. silence_tells c i ++ tells_parts (ends_silent c).greatest parts (ends_silent c).devices i)
          ∙ (λ i. told_by_all c.greatest (read_at_silence c) c.devices ++ told_by_all (quiet.greatest i) (whole_packets parts) (quiet.devices i))
          ∙ sym (tells_more c.greatest (read_at_silence c) (whole_packets parts) c.devices),
    )

pub hands_over : (b : BusState) → HandsOver b
hands_over b = record {
  bytes = λ bytes now. bytes_so bytes now b;
  silence = λ now. (
    hears_parts (max b.greatest now) (items true b.held) b.devices,
    tells_parts (max b.greatest now) (items true b.held) b.devices,
  );
  tick = λ now. let t = tick_so now b in (t.devices, t.sent, t.tells);
}
