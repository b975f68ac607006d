-- What comes in asks no order. Where the order that was asked is answered, that is told.
use Rattle.osdp_bus_order_laws.proofs.Common.{◌≡◌, ◌∙◌, ap, sym, subst, inl, inr, refl, ℕ, Bool, true, false, max, List, [], ◌∷◌, ◌++◌, Option, Some, None, ◌⊎◌, nat_eq, is_some, slice_get, slice_set, eqb-true, eqb-false, items, Packet, Command, Exchange, Report, submitted_command, Heard, hears, either_way, GoesOn, IsAnswered, asked_in, command_of, told_command, exchange_in, frame_ends, Entry, BusState, Devices, is_silent, seen, waiting_after, entry_hears, told_of, after_bytes, ends_run, hears_items, hears_with, asking, judged, items_keep, set_here, set_other, one_device}
use Rattle.osdp_controller_laws.proofs.InOrder.{none_outstanding}
use Rattle.osdp_controller_laws.proofs.Stepwise.{frames_in_steps}
use Rattle.osdp_bus_laws.proofs.Staying.{stays_silent}

abbrev pub asked : Entry → Option Command
asked d = asked_in d.controller.session.state

-- ---- one device and one packet

-- what is asked stays, or ends and is told
abbrev pub Ends : Option Command → Heard → Type 0
Ends before h = (asked_in h.session.state ≡ before) ⊎ ((asked_in h.session.state ≡ None) × (is_some h.report ≡ true))

told_some : (report : Option Report) (o : Option Command) → told_command report ≡ o → (o ≡ None) ⊎ (is_some report ≡ true)
told_some None o told = inl (sym told)
told_some (Some report) o told = inr refl

by_end : (x : Exchange) (h : Heard) → GoesOn x h.session.state h.report ⊎ IsAnswered x h.session.state h.report → Ends (submitted_command x) h
by_end x h (inl on) = inl (ap command_of on.outstanding)
by_end x h (inr answered) = by_told (told_some h.report (submitted_command x) answered.told)
  where
    none : asked_in h.session.state ≡ None
    none = ap command_of answered.ended

    by_told : (submitted_command x ≡ None) ⊎ (is_some h.report ≡ true) → Ends (submitted_command x) h
    by_told (inl nothing) = inl (none ∙ sym nothing)
    by_told (inr told) = inr (none, told)

pub by_exchange : (o : Option Exchange) (p : Packet) (now : ℕ) (d : Entry) → exchange_in d.controller.session.state ≡ o
    → Ends (asked d) (hears p now d.controller.session)
by_exchange None p now d is =
    let ignored = (frames_in_steps p now d.controller.session).not_outstanding (none_outstanding d.controller.session.state is) in
    inl (ap (λ (h : Heard). asked_in h.session.state) ignored)
by_exchange (Some x) p now d is =
    subst (λ o. Ends o (hears p now d.controller.session)) (sym (ap command_of is)) (by_end x (hears p now d.controller.session) (frame_ends x p now d.controller.session is))

-- ---- all that comes in

module _ (g : ℕ) (entry : ℕ) (first : Entry) where
  -- the device of the entry: what it asks stays, or has ended, and then a report waits
  pub record Hears (ds : Devices) : Type 0 where
    pub device : Entry
    pub there : slice_get ds.entries entry ≡ Some device
    pub asks : (asked device ≡ asked first) ⊎ ((asked device ≡ None) × (is_some ds.report ≡ true))

  some_after : (i : ℕ) (told : Option Report) (waiting : Option (ℕ × Report)) → is_some waiting ≡ true → is_some (waiting_after i told waiting) ≡ true
  some_after i None waiting some = some
  some_after i (Some report) waiting some = refl

  some_told : (i : ℕ) (told : Option Report) (waiting : Option (ℕ × Report)) → is_some told ≡ true → is_some (waiting_after i told waiting) ≡ true
  some_told i None waiting some = absurd cc
  some_told i (Some report) waiting some = refl

  packet_by : (t : Bool) (p : Packet) (i : ℕ) (d : Entry) (ds : Devices) → nat_eq entry i ≡ t → slice_get ds.entries i ≡ Some d → Hears ds → Hears (hears_with p g i (Some d) ds)
  packet_by true p i d ds same at h =
      let here : entry ≡ i = eqb-true entry i same in
      let one : h.device ≡ d = one_device (slice_get ds.entries i) h.device d (sym (ap (slice_get ds.entries) here) ∙ h.there) at in
      record {
        device = entry_hears p g d;
        there = ap (slice_get (slice_set ds.entries i (entry_hears p g d))) here ∙ set_here ds.entries i d (entry_hears p g d) at;
        asks = by_ends (by_exchange (exchange_in d.controller.session.state) p g d refl) (subst (λ e. (asked e ≡ asked first) ⊎ ((asked e ≡ None) × (is_some ds.report ≡ true))) one h.asks);
      }
    where
      by_ends : Ends (asked d) (hears p g d.controller.session) → (asked d ≡ asked first) ⊎ ((asked d ≡ None) × (is_some ds.report ≡ true))
          → (asked (entry_hears p g d) ≡ asked first) ⊎ ((asked (entry_hears p g d) ≡ None) × (is_some (waiting_after i (told_of p g d) ds.report) ≡ true))
      by_ends (inr (none, told)) before = inr (none, some_told i (told_of p g d) ds.report told)
      by_ends (inl still) (inl was) = inl (still ∙ was)
      by_ends (inl still) (inr (none, some)) = inr (still ∙ none, some_after i (told_of p g d) ds.report some)
  packet_by false p i d ds other at h = record {
    device = h.device;
    there = set_other ds.entries i entry (entry_hears p g d) (eqb-false entry i other) ∙ h.there;
    asks = by_before h.asks;
  }
    where
      by_before : (asked h.device ≡ asked first) ⊎ ((asked h.device ≡ None) × (is_some ds.report ≡ true))
          → (asked h.device ≡ asked first) ⊎ ((asked h.device ≡ None) × (is_some (waiting_after i (told_of p g d) ds.report) ≡ true))
      by_before (inl was) = inl was
      by_before (inr (none, some)) = inr (none, some_after i (told_of p g d) ds.report some)

  hears_one : (p : Packet) (i : ℕ) (d : Entry) (ds : Devices) → slice_get ds.entries i ≡ Some d → Hears ds → Hears (hears_with p g i (Some d) ds)
  hears_one p i d ds at h = packet_by (nat_eq entry i) p i d ds refl at h

  hears_all : (moment : ℕ) (ended : Bool) (bytes : List ℕ) (ds : Devices) → moment ≡ g → Hears ds → Hears (hears_items moment (items ended bytes) ds)
  hears_all moment ended bytes ds is h =
      subst (λ (n : ℕ). Hears (hears_items n (items ended bytes) ds)) (sym is) (items_keep g Hears hears_one (items ended bytes) ds h)

  abbrev pub HearsIn : BusState → Type 0
  HearsIn b = Hears b.devices

  pub hears_run : (b : BusState) → b.greatest ≡ g → HearsIn b → HearsIn (ends_run b)
  hears_run b is h = hears_all b.greatest true b.held b.devices is h

  hears_judged : (now : ℕ) (b : BusState) → max b.greatest now ≡ g → HearsIn b → HearsIn (judged now b)
  hears_judged now b is h = either_way HearsIn (is_silent (seen now b)) (ends_run (seen now b)) (seen now b) (λ t. hears_run (seen now b) is h) (λ t. h)

  judged_at : (now : ℕ) (b : BusState) → max b.greatest now ≡ g → (judged now b).greatest ≡ g
  judged_at now b is = (stays_silent (seen now b)).greatest ∙ is

  pub hears_asking : (now : ℕ) (b : BusState) → max b.greatest now ≡ g → HearsIn b → HearsIn (asking now b)
  hears_asking now b is h = hears_run (judged now b) (judged_at now b is) (hears_judged now b is h)

  pub hears_bytes : (bytes : List ℕ) (now : ℕ) (b : BusState) → max b.greatest now ≡ g → HearsIn b → HearsIn (after_bytes bytes now b)
  hears_bytes [] now b is h = h
  hears_bytes (byte ∷ bytes) now b is h =
      let j = judged now b in
      hears_all j.greatest false (j.held ++ (byte ∷ bytes)) j.devices (judged_at now b is) (hears_judged now b is h)

  -- at first
  pub hears_nothing : (ds : Devices) → slice_get ds.entries entry ≡ Some first → Hears ds
  hears_nothing ds at = record { device = first; there = at; asks = inl refl }
