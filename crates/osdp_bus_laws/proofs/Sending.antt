-- What goes out while an exchange holds the line, and what the beginning of a session leaves.
use Rattle.osdp_bus_laws.proofs.Common.{◌≡◌, ◌∙◌, ap, sym, subst, ℕ, ◌+◌, ◌≤◌, true, max, List, Some, refl, IfSome, nat_le, nat_lt, option_map, slice_set, option_map_or, leb-true, Packet, Command, Session, State, Waiting, Pausing, is_outstanding, frame_of, seen_by, moment_of, Ticked, gives_up, sends_frame, stays_in, ticks_in, tries_again, either_way, exchange_in, Entry, BusState, device_of, has_report, holder, seen, holds, after_begin_at, changed_unless, entry_begins, BusTicked, bus_ticks, is_due_at, stays, ticks_at, ticks_by, ticks_held, ticks_on, ticks_with, Begin, after_call, own_frame, asking, judged}
use Rattle.osdp_bus_laws.specs.Sending.{HoldersSendTheirFrame, IsReached, SessionsBeginAlone}
use Rattle.osdp_bus_laws.proofs.Sound.{either_held}
use Rattle.osdp_bus_laws.proofs.Turning.{set_here, set_other}

-- ---- the frame of an exchange

abbrev Own : Packet → State → Session → Ticked → Type 0
Own p state s t = t.step.frame ≡ Some p
    → (option_map (λ x. frame_of x s) (exchange_in state) ≡ Some p) × IfSome (moment_of state) (λ moment. moment ≤ s.greatest)

frame_in : (state : State) (s : Session) (w : List Command) (p : Packet) → is_outstanding state ≡ true → Own p state s (ticks_in state s w)
frame_in (Waiting until sends o) s w p stands =
    either_way (Own p (Waiting until sends o) s) (nat_le until s.greatest) (tries_again sends o s w) (stays_in s w)
    (λ reached. either_way (Own p (Waiting until sends o) s) (nat_lt sends s.config.sends) (sends_frame (sends + 1) o s w) (gives_up o s w)
    (λ more h. (h, leb-true until s.greatest reached)) (λ more h. absurd cc))
    (λ reached h. absurd cc)
frame_in (Pausing until o) s w p stands =
    either_way (Own p (Pausing until o) s) (nat_le until s.greatest) (sends_frame 1 o s w) (stays_in s w)
    (λ reached h. (h, leb-true until s.greatest reached)) (λ reached h. absurd cc)
frame_in _ s w p stands = absurd cc

module _ (now entry : ℕ) (b : BusState) (p : Packet) where
  abbrev Sends : BusTicked → Type 0
  Sends t = t.sent ≡ Some p → (d : Entry) × (device_of entry (asking now b) ≡ Some d) × (own_frame d ≡ Some p) × IsReached (asking now b) d

  by_device : (d : Entry) → device_of entry (asking now b) ≡ Some d → holds d ≡ true → Sends (ticks_at (Some entry) (asking now b))
  by_device d at stands =
      subst Sends (sym (ap (λ o. ticks_with entry o (asking now b)) at))
      (λ h. let own = frame_in d.controller.session.state (seen_by (asking now b).greatest d.controller.session) d.controller.waiting p stands h in
      (d, at, own.0, own.1))

  by_held : Sends (ticks_held entry (asking now b))
  by_held = either_held Sends entry (asking now b) (λ h. absurd cc) (λ none. by_device)

  by_tick : holder (judged now b) ≡ Some entry → Sends (bus_ticks now b)
  by_tick held =
      let j = judged now b in
      either_way Sends (has_report b) (stays (seen now b)) (ticks_on j) (λ t h. absurd cc)
      (λ t. subst (λ o. Sends (ticks_by o j)) (sym held)
      (either_way Sends (is_due_at entry j) (ticks_held entry (asking now b)) (stays j) (λ due. by_held) (λ due h. absurd cc)))

pub holders_send_their_frame : (b : BusState) → HoldersSendTheirFrame b
holders_send_their_frame b now entry p held sent = by_tick now entry b p held sent

-- ---- a session begins

pub sessions_begin_alone : (b : BusState) → SessionsBeginAlone b
sessions_begin_alone b entry now d at ok =
    let change = entry_begins (max b.greatest now) in
    let after : after_call (Begin entry now) b
    ≡ record (seen now b) { devices = record b.devices { entries = slice_set b.devices.entries entry (change d) } } =
    ap (λ f. changed_unless f b (after_begin_at entry now b)) ok
    ∙ ap (λ o. option_map_or (λ d. record (seen now b) { devices = record b.devices { entries = slice_set b.devices.entries entry (change d) } }) o (seen now b)) at in
    record {
      device = change d;
      there = ap (device_of entry) after ∙ set_here b.devices.entries entry d (change d) at;
      waiting = refl;
      reserved = refl;
      outstanding = refl;
      others = λ other apart. ap (device_of other) after ∙ set_other b.devices.entries entry other (change d) apart;
    }
