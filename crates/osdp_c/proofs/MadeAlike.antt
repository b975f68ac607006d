-- Machines that are made of the same settings.
use Rattle.osdp_c.proofs.Common.{◌≡◌, ◌∙◌, ◌⊎◌, inl, inr, ℕ, Bool, List, Option, Some, None, Result, Ok, Err, refl, sym, ap, subst, AreBoth, AreMadeAlike, HaveHeardTheSame, LacksMemory, MonitorsAreMadeAlike, ReadersAreMadeAlike, ReadersWithRoomAreMadeAlike, Status, HeldMonitor, number, MsgFault}
use Rattle.arrayvec.specs.ArrayVec.{ArrayVec}
use Rattle.osdp_c_values.specs.declared.machine.ReaderMachine.{ReaderMachine}
use Rattle.osdp_c_values.specs.declared.monitor_fault.MonitorFault.{MonitorFault}
use Rattle.osdp_c_values.specs.declared.monitor_fault.MonitorFault.TheVariants as monitor
use Rattle.osdp_c_values.specs.declared.settings.ReaderSettings.{ReaderSettings}
use Rattle.osdp_c_values.specs.declared.status.Status.TheVariants as status
use Rattle.osdp_c_values.specs.Monitors as monitors
use Rattle.osdp_c_values.specs.Readers as readers
use Rattle.osdp_c_values.specs.Settings.{default_room}
use Rattle.osdp_msg.specs.declared.capability.Capability.{Capability}
use Rattle.osdp_msg.specs.declared.limits.Room.{Room}
use Rattle.osdp_reader.specs.declared.fault.ReaderFault.{ReaderFault}
use Rattle.osdp_reader.specs.declared.fault.ReaderFault.TheVariants.{NoMemory, OutOfRange}
use Rattle.osdp_tool_show.specs.declared.detail.Detail.{Detail}

-- the same handles are alike
both_same : {M : Type 0} (AreAlike : M → M → Type 0) → ((x : M) → AreAlike x x) → (m n : Option M) → m ≡ n → AreBoth AreAlike m n
both_same {M} AreAlike itself m n same = subst (λ x. AreBoth AreAlike m x) same (own m)
  where
    own : (x : Option M) → AreBoth AreAlike x x
    own None = tt
    own (Some x) = itself x

-- a handle in use stays
in_use : {M : Type 0} (AreAlike : M → M → Type 0) → ((x : M) → AreAlike x x) → (out used a b : ℕ) (held : M) (m n : Option M)
    → a ≡ used → m ≡ Some held → b ≡ used → n ≡ Some held
    → ((a ≡ b) × AreBoth AreAlike m n) ⊎ (LacksMemory out a m b ⊎ LacksMemory out b n a)
in_use AreAlike itself out used a b held m n ha hm hb hn = inl (ha ∙ sym hb, both_same AreAlike itself m n (hm ∙ sym hn))

abbrev IsMade : {M E : Type 0} → Result M E → Type 0
IsMade (Ok m) = Unit {0}
IsMade (Err fault) = ⊥

-- ---- readers

-- memory is out for the one, and the other is made, or out of it too
abbrev Lacks : {M E : Type 0} → E → Result M E → Result M E → Type 0
Lacks {M} {E} out r q = (r ≡ Err out) × (IsMade q ⊎ (q ≡ Err out))

with_alike : (room : Option Room) (s : ReaderSettings) (caps : ArrayVec Capability) (r q : Result ReaderMachine ReaderFault)
    → readers.MadeWith room s caps r → readers.MadeWith room s caps q → (r ≡ q) ⊎ (Lacks NoMemory r q ⊎ Lacks NoMemory q r)
with_alike None s caps r q h g = inl (h ∙ sym g)
with_alike (Some room) s caps (Ok m) (Ok n) h g = inl (ap (λ (x : ReaderMachine). Ok x) (h.1 ∙ sym g.1))
with_alike (Some room) s caps (Ok m) (Err OutOfRange) h g = absurd (g h.0)
with_alike (Some room) s caps (Ok m) (Err NoMemory) h g = inr (inr (refl, inl tt))
with_alike (Some room) s caps (Err OutOfRange) (Ok n) h g = absurd (h g.0)
with_alike (Some room) s caps (Err NoMemory) (Ok n) h g = inr (inl (refl, inl tt))
with_alike (Some room) s caps (Err OutOfRange) (Err OutOfRange) h g = inl refl
with_alike (Some room) s caps (Err NoMemory) (Err NoMemory) h g = inl refl
with_alike (Some room) s caps (Err OutOfRange) (Err NoMemory) h g = absurd (h g)
with_alike (Some room) s caps (Err NoMemory) (Err OutOfRange) h g = absurd (g h)

abbrev told_by : Result ReaderMachine ReaderFault → Result ReaderMachine Status
told_by (Ok m) = Ok m
told_by (Err fault) = Err (status.Reader fault)

record Comes (room : Option Room) (s : ReaderSettings) (caps : ArrayVec Capability) (r : Result ReaderMachine Status) : Type 0 where
  first : Result ReaderMachine ReaderFault
  made : readers.MadeWith room s caps first
  is : r ≡ told_by first

comes_of : (room : Option Room) (s : ReaderSettings) (caps : ArrayVec Capability) (r : Result ReaderMachine Status)
    → readers.MadeAs room s (Ok caps) r → Comes room s caps r
comes_of room s caps (Ok m) h = record { first = Ok m; made = h; is = refl }
comes_of room s caps (Err refused) h = record { first = Err h.0; made = h.2; is = ap (λ (x : Status). Err x) h.1 }

abbrev answer_of : Result ReaderMachine ReaderFault → ℕ
answer_of r = number (readers.made_status (told_by r))

abbrev held_of : Result ReaderMachine ReaderFault → Option ReaderMachine
held_of r = readers.made_in (told_by r)

other_reader : (q : Result ReaderMachine ReaderFault) (b : ℕ) → b ≡ answer_of q → IsMade q ⊎ (q ≡ Err NoMemory) → (b ≡ 0) ⊎ (b ≡ 41)
other_reader (Ok n) b told made = inl told
other_reader (Err fault) b told (inl bad) = absurd bad
other_reader (Err fault) b told (inr same) = inr (told ∙ ap answer_of same)

readers_alike : (r q : Result ReaderMachine ReaderFault) (a b : ℕ) (m n : Option ReaderMachine) → a ≡ answer_of r → m ≡ held_of r → b ≡ answer_of q → n ≡ held_of q
    → (r ≡ q) ⊎ (Lacks NoMemory r q ⊎ Lacks NoMemory q r)
    → ((a ≡ b) × AreBoth (λ x y. x ≡ y) m n) ⊎ (LacksMemory 41 a m b ⊎ LacksMemory 41 b n a)
readers_alike r q a b m n ha hm hb hn (inl same) =
    inl (ha ∙ ap answer_of same ∙ sym hb, both_same (λ x y. x ≡ y) (λ x. refl) m n (hm ∙ ap held_of same ∙ sym hn))
readers_alike r q a b m n ha hm hb hn (inr (inl lacks)) =
    inr (inl (record { told = ha ∙ ap answer_of lacks.0; nothing = hm ∙ ap held_of lacks.0; other_is = other_reader q b hb lacks.1 }))
readers_alike r q a b m n ha hm hb hn (inr (inr lacks)) =
    inr (inr (record { told = hb ∙ ap answer_of lacks.0; nothing = hn ∙ ap held_of lacks.0; other_is = other_reader r a ha lacks.1 }))

made_readers : (room : Option Room) (s : ReaderSettings) (caps : Result (ArrayVec Capability) MsgFault) (r q : Result ReaderMachine Status) (a b : ℕ) (m n : Option ReaderMachine)
    → readers.MadeAs room s caps r → a ≡ number (readers.made_status r) → m ≡ readers.made_in r
    → readers.MadeAs room s caps q → b ≡ number (readers.made_status q) → n ≡ readers.made_in q
    → ((a ≡ b) × AreBoth (λ x y. x ≡ y) m n) ⊎ (LacksMemory 41 a m b ⊎ LacksMemory 41 b n a)
made_readers room s (Err fault) r q a b m n h ha hm g hb hn =
    let same : r ≡ q = h ∙ sym g in
    inl (
      ha ∙ ap (λ x. number (readers.made_status x)) same ∙ sym hb,
      both_same (λ x y. x ≡ y) (λ x. refl) m n (hm ∙ ap readers.made_in same ∙ sym hn),
    )
made_readers room s (Ok caps) r q a b m n h ha hm g hb hn =
    let one = comes_of room s caps r h in
    let two = comes_of room s caps q g in
    readers_alike one.first two.first a b m n
    (ha ∙ ap (λ x. number (readers.made_status x)) one.is) (hm ∙ ap readers.made_in one.is)
    (hb ∙ ap (λ x. number (readers.made_status x)) two.is) (hn ∙ ap readers.made_in two.is)
    (with_alike room s caps one.first two.first one.made two.made)

readers_in : (room : Option Room) (s : ReaderSettings) (body : List ℕ) (before : Option ReaderMachine)
    → AreMadeAlike (λ x y. x ≡ y) 41 (readers.NewReaderIn room s body before)
readers_in room s body (Some held) a b m n h g = in_use (λ x y. x ≡ y) (λ x. refl) 41 (number status.InUse) a b held m n h.0 h.1 g.0 g.1
readers_in room s body None a b m n h g = made_readers room s (readers.caps_of body) h.0 g.0 a b m n h.1 h.2 h.3 g.1 g.2 g.3

pub readers_are_made_alike : ReadersAreMadeAlike
readers_are_made_alike s body before a b m n h g = readers_in (default_room s.capacity) s body before a b m n h g

pub readers_with_room_are_made_alike : ReadersWithRoomAreMadeAlike
readers_with_room_are_made_alike bytes s body before a b m n h g =
    readers_in (Some (record { messages = s.capacity; bytes = bytes })) s body before a b m n h g

-- ---- monitors

heard_itself : (m : HeldMonitor) → HaveHeardTheSame m m
heard_itself m = record { listens = refl; prints = refl; heard = refl; waiting = refl }

abbrev monitor_answer : Result HeldMonitor MonitorFault → ℕ
monitor_answer r = number (monitors.made_status r)

abbrev AreSame : Result HeldMonitor MonitorFault → Result HeldMonitor MonitorFault → Type 0
AreSame r q = (monitor_answer r ≡ monitor_answer q) × AreBoth HaveHeardTheSame (monitors.made_in r) (monitors.made_in q)

same_fault : (e f : MonitorFault) → e ≡ f → AreSame (Err e) (Err f)
same_fault e f same = (ap (λ (x : MonitorFault). number (status.Monitor x)) same, tt)

abbrev fault_in : Result HeldMonitor MonitorFault → MonitorFault
fault_in (Ok m) = monitor.NoMemory
fault_in (Err fault) = fault

monitors_alike : (detail : Option Detail) (standard : Bool) (r q : Result HeldMonitor MonitorFault)
    → monitors.MonitorMade detail standard r → monitors.MonitorMade detail standard q
    → AreSame r q ⊎ (Lacks monitor.NoMemory r q ⊎ Lacks monitor.NoMemory q r)
monitors_alike None standard (Ok m) q h g = absurd (no_fault h)
  where
    no_fault : Ok m ≡ Err monitor.OutOfRange → ⊥
    no_fault e = cc
monitors_alike None standard (Err e) (Ok n) h g = absurd (no_fault g)
  where
    no_fault : Ok n ≡ Err monitor.OutOfRange → ⊥
    no_fault e = cc
monitors_alike None standard (Err e) (Err f) h g = inl (same_fault e f (ap fault_in (h ∙ sym g)))
monitors_alike (Some detail) standard (Ok m) (Ok n) h g =
    inl (
      refl,
      record {
        listens = h.listens ∙ sym g.listens;
        prints = h.prints ∙ sym g.prints;
        heard = h.heard ∙ sym g.heard;
        waiting = h.waiting ∙ sym g.waiting;
      },
    )
monitors_alike (Some detail) standard (Ok m) (Err f) h g = inr (inr (ap (λ (x : MonitorFault). Err x) g, inl tt))
monitors_alike (Some detail) standard (Err e) (Ok n) h g = inr (inl (ap (λ (x : MonitorFault). Err x) h, inl tt))
monitors_alike (Some detail) standard (Err e) (Err f) h g = inl (same_fault e f (h ∙ sym g))

other_monitor : (q : Result HeldMonitor MonitorFault) (b : ℕ) → b ≡ monitor_answer q → IsMade q ⊎ (q ≡ Err monitor.NoMemory) → (b ≡ 0) ⊎ (b ≡ 51)
other_monitor (Ok n) b told made = inl told
other_monitor (Err fault) b told (inl bad) = absurd bad
other_monitor (Err fault) b told (inr same) = inr (told ∙ ap monitor_answer same)

both_by : (r q m n : Option HeldMonitor) → m ≡ r → n ≡ q → AreBoth HaveHeardTheSame r q → AreBoth HaveHeardTheSame m n
both_by r q m n hm hn both = subst (λ x. AreBoth HaveHeardTheSame x n) (sym hm) (subst (λ x. AreBoth HaveHeardTheSame r x) (sym hn) both)

made_monitors : (r q : Result HeldMonitor MonitorFault) (a b : ℕ) (m n : Option HeldMonitor)
    → a ≡ monitor_answer r → m ≡ monitors.made_in r → b ≡ monitor_answer q → n ≡ monitors.made_in q
    → AreSame r q ⊎ (Lacks monitor.NoMemory r q ⊎ Lacks monitor.NoMemory q r)
    → ((a ≡ b) × AreBoth HaveHeardTheSame m n) ⊎ (LacksMemory 51 a m b ⊎ LacksMemory 51 b n a)
made_monitors r q a b m n ha hm hb hn (inl same) =
    inl (ha ∙ same.0 ∙ sym hb, both_by (monitors.made_in r) (monitors.made_in q) m n hm hn same.1)
made_monitors r q a b m n ha hm hb hn (inr (inl lacks)) =
    inr (inl (record { told = ha ∙ ap monitor_answer lacks.0; nothing = hm ∙ ap monitors.made_in lacks.0; other_is = other_monitor q b hb lacks.1 }))
made_monitors r q a b m n ha hm hb hn (inr (inr lacks)) =
    inr (inr (record { told = hb ∙ ap monitor_answer lacks.0; nothing = hn ∙ ap monitors.made_in lacks.0; other_is = other_monitor r a ha lacks.1 }))

pub monitors_are_made_alike : MonitorsAreMadeAlike
monitors_are_made_alike prints standard (Some held) a b m n h g =
    in_use HaveHeardTheSame heard_itself 51 (number status.InUse) a b held m n h.0 h.1 g.0 g.1
monitors_are_made_alike prints standard None a b m n h g =
    made_monitors h.0 g.0 a b m n h.2 h.3 g.2 g.3
    (monitors_alike (monitors.detail_at prints) (monitors.is_standard standard) h.0 g.0 h.1 g.1)
