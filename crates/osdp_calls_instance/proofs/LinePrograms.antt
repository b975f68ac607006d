-- Lines are calls of a line in use.
use Rattle.std.proofs.Common.{◌≡◌, ℕ, zero, suc, ◌<◌, Bool, true, false, not, cond, option_map, slice_get, List, [], ◌∷◌, ◌++◌, drop, length, length-drop, map, Option, Some, None, refl, sym, subst, ap, ◌∙◌, arith}
use Rattle.osdp_calls_instance.proofs.Common.{◌==◌, Command, Event, AreBytes-drop, AreBytes, decided_nothing, RunItem, item_size, BusState, add_refusal, after_add, after_next_report, changed_unless, remembered_after, BusFault, all_read, all_read_after, fewer_turns, last_turn, seen_in_turn, takes_in_turn, received_new, received_silence, received_take, received_tick, tells_in_turn, Heard, hears_bytes, reads_all, then_hears, turns_left, IsAllRead, IsReceived, Received, after_silence, after_take, after_tick, count_taken, Said, status_after, status_answer, after_all, after_items, items_of, listed, next_told, said_to_all, each_all, Each, has_room, ReaderState, after_lapse_event, after_submit_if, after_withdraw_event, Expired, Withdrawn, InDoubt, Answer, Call, OfPanel, Take, Held, device_after, takes_event, AddsMakeTheBus, AreDeviceCalls, ArePanelCalls, IsOfDevice, IsOfPanel, bus_after_each, device_after_each, eq-eqb}
use Rattle.osdp_frame.specs.Held as frame
use Rattle.osdp_bus_laws.specs.Calls as bus
use Rattle.osdp_device.specs.declared.status.DeviceStatus.{DeviceStatus}
use Rattle.osdp_line_calls.specs.PanelSessions as panel
use Rattle.osdp_bus.specs.Buses.{has_report}
use Rattle.osdp_bus.specs.Machine.{new_device}
use Rattle.osdp_bus.specs.declared.entry.Entry.{Entry}
use Rattle.osdp_controller.specs.declared.report.Report.{Report}
use Rattle.osdp_panel.specs.Orders.{PanelState}
use Rattle.osdp_panel.specs.Panels.{after_add_at}
use Rattle.osdp_panel_laws.specs.Calls as calls
use Rattle.std.specs.Prelude.{if◌then◌else◌, is_some, ◌+◌}
use Rattle.osdp_line_calls.specs.ReaderCalls.{CallFits}
use Rattle.osdp_line_calls.specs.ReaderSessions as device
use Rattle.osdp_line_calls.specs.declared.panel_call.PanelCall.{PanelCall}
use Rattle.osdp_line_calls.specs.declared.panel_call.PanelCall.TheVariants.{Add}
use Rattle.osdp_line_calls.specs.declared.reader_call.ReaderCall.{ReaderCall}
use Rattle.osdp_line_calls.specs.declared.reader_call.ReaderCall.TheVariants as line
use Rattle.osdp_line_laws.proofs.OfReaders.{call_steps}
use Rattle.osdp_line_laws.proofs.ReaderRuns.{line_is}
use Rattle.osdp_line_laws.specs.PanelLines as panel_lines
use Rattle.osdp_line_laws.specs.PanelRuns as panel_runs
use Rattle.osdp_line_laws.specs.ReaderRuns as device_runs
use Rattle.osdp_device.specs.Ages.{AgesState, after_expiry, after_removal, expired, expired_front, expires}
use Rattle.osdp_line_calls.proofs.LettingGo.{none_left}
use Rattle.osdp_line_calls.specs.ReaderAbsence.{LetGo, goes_first, keeps_all, lets_some_go}
use Rattle.osdp_calls_instance.specs.LinePrograms.{DeviceAnew, DeviceLine, LinesAreThese, PanelAnew, PanelLine, SaysToDevice, SaysToPanel, after_adds, after_device_line, after_device_lines, after_panel_line, after_panel_lines, calls_of_line, device_line_calls, handing, leaving_by, leaving_call, leaving_calls, line_device, line_handle, line_panel, nexts, reading, unless_done}
use Rattle.osdp_calls_instance.specs.Panels.{AreCallsOfPanel, Calls, EachFits, FirstEntry, adding, after_each_of_panel}
use Rattle.osdp_calls_instance.proofs.Panels.{handles_are_calls, own_device}

pub nexts_own : (H : Type 0) (k n : ℕ) → Each (IsOfDevice {H = H} k) (nexts k n)
nexts_own H k zero = (own_device k, tt)
nexts_own H k (suc n) = (own_device k, nexts_own H k n)

module _ {H : Type 0} where
  abbrev pub holding : ReaderState H → Received → Held H
  holding r l = record { reader = r; line = l }

  pub same_device : (r q : ReaderState H) (l m : Received) → r ≡ q → l ≡ m → holding r l ≡ holding q m
  same_device r q l m a b = (λ i. record { reader = a i; line = b i })

  module _ (answer_of : H → Command → Answer) (after : H → Command → H) where
    pub more_calls : (xs ys : List (Call H)) (d : Held H)
        → device_after_each answer_of after (xs ++ ys) d ≡ device_after_each answer_of after ys (device_after_each answer_of after xs d)
    more_calls [] ys d = refl
    more_calls (x ∷ xs) ys d = more_calls xs ys (device_after answer_of after x d)

    -- ---- what is held is read

    abbrev pub read_out : ReaderState H → Received → Held H
    read_out r l = holding (reads_all answer_of after r l).reader (reads_all answer_of after r l).line

    abbrev pub line_told : ReaderState H → Received → Received
    line_told r l = record l { held = (next_told answer_of after r l.held).held }

    with_held : (l : Received) (h g : frame.Held) → h ≡ g → ◌≡◌ {A = Received} (record l { held = h }) (record l { held = g })
    with_held l h g is = ap (λ (x : frame.Held). record l { held = x }) is

    pub first_said : (r : ReaderState H) (l : Received) (o : Option Said) → (next_told answer_of after r l.held).said ≡ o
        → said_to_all answer_of after (items_of l.held) r
        ≡ listed o ++ said_to_all answer_of after (items_of (next_told answer_of after r l.held).held) (next_told answer_of after r l.held).reader
    first_said r l o is =
        let t = next_told answer_of after r l.held in
        (tells_in_turn answer_of after r l.held).said ∙ ap (λ x. listed x ++ said_to_all answer_of after (items_of t.held) t.reader) is

    -- nothing is said, and nothing is left
    reads_none : (k : ℕ) (r : ReaderState H) (l : Received) → (next_told answer_of after r l.held).said ≡ None
        → device_after_each answer_of after (nexts k 0) (holding r l) ≡ read_out r l
    reads_none k r l none =
        let t = next_told answer_of after r l.held in
        let tell = tells_in_turn answer_of after r l.held in
        same_device t.reader (reads_all answer_of after r l).reader (line_told r l) (reads_all answer_of after r l).line
        (sym (tell.reader ∙ ap (λ parts. after_items answer_of after parts t.reader) (tell.all none)))
        (with_held l t.held (after_all l.held (items_of l.held)) (sym (tell.left ∙ ap (λ parts. after_all t.held parts) (tell.all none))))

    -- something is said, and then the rest is read
    reads_some : (k n : ℕ) (r : ReaderState H) (l : Received)
        → device_after_each answer_of after (nexts k n) (holding (next_told answer_of after r l.held).reader (line_told r l))
        ≡ read_out (next_told answer_of after r l.held).reader (line_told r l)
        → device_after_each answer_of after (nexts k (suc n)) (holding r l) ≡ read_out r l
    reads_some k n r l rest =
        let t = next_told answer_of after r l.held in
        let tell = tells_in_turn answer_of after r l.held in
        rest
        ∙ same_device (after_items answer_of after (items_of t.held) t.reader) (reads_all answer_of after r l).reader
        (record l { held = after_all t.held (items_of t.held) }) (reads_all answer_of after r l).line
        (sym tell.reader) (with_held l (after_all t.held (items_of t.held)) (after_all l.held (items_of l.held)) (sym tell.left))

    pub nothing_said : (r : ReaderState H) (l : Received) → (next_told answer_of after r l.held).said ≡ None
        → said_to_all answer_of after (items_of l.held) r ≡ []
    nothing_said r l none =
        let t = next_told answer_of after r l.held in
        first_said r l None none ∙ ap (λ parts. said_to_all answer_of after parts t.reader) ((tells_in_turn answer_of after r l.held).all none)

    -- one `next` after the other, as often as something is said: what holds where nothing is, and before one where it does after it
    module _ (P : ℕ → ReaderState H → Received → Type 0)
        (last : (r : ReaderState H) (l : Received) → (next_told answer_of after r l.held).said ≡ None → P 0 r l)
        (more : (n : ℕ) (r : ReaderState H) (l : Received) (said : Said) → (next_told answer_of after r l.held).said ≡ Some said
        → P n (next_told answer_of after r l.held).reader (line_told r l) → P (suc n) r l) where
      nexts_end : (r : ReaderState H) (l : Received) (o : Option Said) → (next_told answer_of after r l.held).said ≡ o
          → length (said_to_all answer_of after (items_of l.held) r) ≡ 0 → P 0 r l
      nexts_end r l None none count = last r l none
      nexts_end r l (Some said) some count =
          let t = next_told answer_of after r l.held in
          absurd (let e : suc (length (said_to_all answer_of after (items_of t.held) t.reader)) ≡ 0 = sym (ap length (first_said r l (Some said) some)) ∙ count in
          omega (arith, e))

      nexts_go : (n : ℕ) (r : ReaderState H) (l : Received) (o : Option Said) → (next_told answer_of after r l.held).said ≡ o
          → ((q : ReaderState H) (m : Received) → length (said_to_all answer_of after (items_of m.held) q) ≡ n → P n q m)
          → length (said_to_all answer_of after (items_of l.held) r) ≡ suc n → P (suc n) r l
      nexts_go n r l None none rest count =
          absurd (let e : 0 ≡ suc n = sym (ap length (nothing_said r l none)) ∙ count in omega (arith, e))
      nexts_go n r l (Some said) some rest count =
          let t = next_told answer_of after r l.held in
          let one_more : suc (length (said_to_all answer_of after (items_of t.held) t.reader)) ≡ suc n =
          sym (ap length (first_said r l (Some said) some)) ∙ count in
          more n r l said some (rest t.reader (line_told r l) (omega (arith, one_more)))

      pub by_nexts : (n : ℕ) (r : ReaderState H) (l : Received) → length (said_to_all answer_of after (items_of l.held) r) ≡ n → P n r l
      by_nexts zero r l count = nexts_end r l (next_told answer_of after r l.held).said refl count
      by_nexts (suc n) r l count = nexts_go n r l (next_told answer_of after r l.held).said refl (λ q m. by_nexts n q m) count

    pub reading_is : (k : ℕ) (r : ReaderState H) (l : Received)
        → device_after_each answer_of after (reading answer_of after k r l) (holding r l) ≡ read_out r l
    reading_is k r l =
        by_nexts (λ n q m. device_after_each answer_of after (nexts k n) (holding q m) ≡ read_out q m) (λ q m none. reads_none k q m none)
        (λ n q m said some rest. reads_some k n q m rest) (length (said_to_all answer_of after (items_of l.held) r)) r l refl

    -- ---- what holds at all times of what has come

    bytes_later : (parts : List RunItem) (held : frame.Held) → AreBytes held.bytes → AreBytes (after_all held parts).bytes
    bytes_later [] held fits = fits
    bytes_later (part ∷ parts) held fits = bytes_later parts (frame.later held part) (AreBytes-drop (item_size part) held.bytes fits)

    pub received_read : (r : ReaderState H) (l : Received) → IsReceived l → IsReceived (reads_all answer_of after r l).line
    received_read r l is =
        let all = all_read answer_of after r l is in
        record {
          gap = is.gap;
          bytes = bytes_later (items_of l.held) l.held is.bytes;
          some = λ e. absurd (let f = sym all.goes_on ∙ e in cc);
          last = is.last;
        }

    -- ---- bytes are handed over

    abbrev pub heard_of : List ℕ → ℕ → ReaderState H → Received → Heard H
    heard_of bytes now r l = hears_bytes answer_of after bytes now r l

    -- one turn: bytes are taken and read, and then the others
    abbrev turn_on : ℕ → ℕ → List ℕ → ℕ → ReaderState H → Received → List ℕ → List (Call H)
    turn_on turns k bytes now r l left =
        let h = reads_all answer_of after r (after_take bytes now l) in
        Take k bytes now ∷ (reading answer_of after k r (after_take bytes now l) ++ unless_done left (handing answer_of after turns k left now h.reader h.line))

    pub record Hands (turns k : ℕ) (bytes : List ℕ) (now : ℕ) (r : ReaderState H) (l : Received) : Type 0 where
      pub is : device_after_each answer_of after (handing answer_of after turns k bytes now r l) (holding r l)
          ≡ holding (heard_of bytes now r l).reader (heard_of bytes now r l).line
      pub received : IsReceived (heard_of bytes now r l).line

    -- a turn took bytes, and these are left: what they bring the device to is what all of them do
    pub record TurnedOn (bytes rest : List ℕ) (now : ℕ) (r : ReaderState H) (l : Received) : Type 0 where
      pub fewer : turns_left rest now (reads_all answer_of after r (after_take bytes now l)).line < turns_left bytes now l
      pub received : IsReceived (reads_all answer_of after r (after_take bytes now l)).line
      pub read : IsAllRead (reads_all answer_of after r (after_take bytes now l)).line
      pub fits : AreBytes rest
      pub whole : then_hears answer_of after rest now (reads_all answer_of after r (after_take bytes now l)) ≡ hears_bytes answer_of after bytes now r l

    pub turned_on : (bytes : List ℕ) (b : ℕ) (left : List ℕ) (now : ℕ) (r : ReaderState H) (l : Received) → IsReceived l → IsAllRead l → AreBytes bytes
        → drop (count_taken bytes now l) bytes ≡ b ∷ left → TurnedOn bytes (b ∷ left) now r l
    turned_on bytes b left now r l is all fits some =
        let taken = after_take bytes now l in
        let taken_so = received_take bytes now l is fits in
        let h = reads_all answer_of after r taken in
        let count = count_taken bytes now l in
        let length_is : length (drop count bytes) ≡ suc (length left) = ap length some in
        let any : 0 < length bytes = omega (arith, length-drop count bytes, length_is) in
        record {
          fewer = subst (λ x. turns_left x now h.line < turns_left bytes now l) some (fewer_turns answer_of after bytes now r l is all fits any);
          received = received_read r taken taken_so;
          read = all_read answer_of after r taken taken_so;
          fits = subst AreBytes some (AreBytes-drop count bytes fits);
          whole = ap (λ x. then_hears answer_of after x now h) (sym some) ∙ takes_in_turn answer_of after bytes now r l is all fits;
        }

    -- none are left
    pub turned_all : (bytes : List ℕ) (now : ℕ) (r : ReaderState H) (l : Received) → IsReceived l → IsAllRead l → AreBytes bytes
        → drop (count_taken bytes now l) bytes ≡ [] → reads_all answer_of after r (after_take bytes now l) ≡ hears_bytes answer_of after bytes now r l
    turned_all bytes now r l is all fits none =
        let taken = after_take bytes now l in
        let h = reads_all answer_of after r taken in
        sym (last_turn answer_of after now h (all_read answer_of after r taken (received_take bytes now l is fits)) (seen_in_turn answer_of after bytes now r l))
        ∙ ap (λ x. then_hears answer_of after x now h) (sym none) ∙ takes_in_turn answer_of after bytes now r l is all fits

    abbrev Handed : ℕ → ℕ → ℕ → Type 0
    Handed turns k now = (bytes : List ℕ) (r : ReaderState H) (l : Received) → turns_left bytes now l < turns
        → IsReceived l → IsAllRead l → AreBytes bytes → Hands turns k bytes now r l

    first_turn : (turns k : ℕ) (bytes left : List ℕ) (now : ℕ) (r : ReaderState H) (l : Received) → let h = reads_all answer_of after r (after_take bytes now l) in
        device_after_each answer_of after (turn_on turns k bytes now r l left) (holding r l)
        ≡ device_after_each answer_of after (unless_done left (handing answer_of after turns k left now h.reader h.line)) (holding h.reader h.line)
    first_turn turns k bytes left now r l =
        let taken = after_take bytes now l in
        let h = reads_all answer_of after r taken in
        let more = unless_done left (handing answer_of after turns k left now h.reader h.line) in
        more_calls (reading answer_of after k r taken) more (holding r taken) ∙ ap (device_after_each answer_of after more) (reading_is k r taken)

    -- the bytes that were not taken, if there are any
    by_rest : (turns k : ℕ) (bytes left : List ℕ) (now : ℕ) (r : ReaderState H) (l : Received) → turns_left bytes now l < suc turns
        → IsReceived l → IsAllRead l → AreBytes bytes → Handed turns k now → drop (count_taken bytes now l) bytes ≡ left
        → Hands (suc turns) k bytes now r l
    by_rest turns k bytes [] now r l fewer is all fits more none =
        let done = turned_all bytes now r l is all fits none in
        record {
          is = ap (λ left. device_after_each answer_of after (turn_on turns k bytes now r l left) (holding r l)) none
              ∙ first_turn turns k bytes [] now r l ∙ ap (λ (x : Heard H). holding x.reader x.line) done;
          received = subst (λ (x : Heard H). IsReceived x.line) done (received_read r (after_take bytes now l) (received_take bytes now l is fits));
        }
    by_rest turns k bytes (b ∷ left) now r l fewer is all fits more some =
        let h = reads_all answer_of after r (after_take bytes now l) in
        let turned = turned_on bytes b left now r l is all fits some in
        let on = more (b ∷ left) h.reader h.line (omega (arith, fewer, turned.fewer)) turned.received turned.read turned.fits in
        record {
          is = ap (λ x. device_after_each answer_of after (turn_on turns k bytes now r l x) (holding r l)) some
              ∙ first_turn turns k bytes (b ∷ left) now r l ∙ on.is ∙ ap (λ (x : Heard H). holding x.reader x.line) turned.whole;
          received = subst (λ (x : Heard H). IsReceived x.line) turned.whole on.received;
        }

    pub hands : (turns k : ℕ) (bytes : List ℕ) (now : ℕ) (r : ReaderState H) (l : Received) → turns_left bytes now l < turns
        → IsReceived l → IsAllRead l → AreBytes bytes → Hands turns k bytes now r l
    hands zero k bytes now r l fewer is all fits = absurd (omega (arith, fewer))
    hands (suc turns) k bytes now r l fewer is all fits =
        by_rest turns k bytes (drop (count_taken bytes now l) bytes) now r l fewer is all fits
        (λ bs q m less sound read are. hands turns k bs now q m less sound read are) refl

  -- ---- whose calls these are

  pub both_own : (k : ℕ) (xs ys : List (Call H)) → Each (IsOfDevice k) xs → Each (IsOfDevice k) ys → Each (IsOfDevice k) (xs ++ ys)
  both_own k [] ys a b = b
  both_own k (x ∷ xs) ys a b = (a.0, both_own k xs ys a.1 b)

  done_own : (k : ℕ) (rest : List ℕ) (calls : List (Call H)) → Each (IsOfDevice k) calls → Each (IsOfDevice k) (unless_done rest calls)
  done_own k [] calls are = tt
  done_own k (b ∷ rest) calls are = are

  pub handing_own : (answer_of : H → Command → Answer) (after : H → Command → H) (turns k : ℕ) (bytes : List ℕ) (now : ℕ) (r : ReaderState H) (l : Received)
      → Each (IsOfDevice k) (handing answer_of after turns k bytes now r l)
  handing_own answer_of after zero k bytes now r l = tt
  handing_own answer_of after (suc turns) k bytes now r l =
      let rest = drop (count_taken bytes now l) bytes in
      let h = reads_all answer_of after r (after_take bytes now l) in (
        own_device k,
        both_own k (reading answer_of after k r (after_take bytes now l)) _
            (nexts_own H k (length (said_to_all answer_of after (items_of (after_take bytes now l).held) r)))
            (done_own k rest _ (handing_own answer_of after turns k rest now h.reader h.line)),
      )

-- ---- a panel's lines

-- a panel to which nothing was ordered, and which has nothing to tell
record IsFresh (p : PanelState) : Type 0 where
  none : p.bus.devices.report ≡ None
  empty : panel.count_waiting p.bus.devices.entries ≡ 0

count_added : (ds : List Entry) (d : Entry) → d.controller.waiting ≡ [] → panel.count_waiting (ds ++ d ∷ []) ≡ panel.count_waiting ds
count_added [] d none = let size : length d.controller.waiting ≡ 0 = ap length none in omega (arith, size)
count_added (x ∷ ds) d none = ap (λ n. length x.controller.waiting + n) (count_added ds d none)

stays_fresh : (o : Option BusFault) (address next : ℕ) (p : PanelState) → IsFresh p → IsFresh (changed_unless o p (after_add_at address next p))
stays_fresh None address next p is = record { none = is.none; empty = count_added p.bus.devices.entries (new_device address p.bus.config) refl ∙ is.empty }
stays_fresh (Some fault) address next p is = is

nothing_taken : (p : PanelState) → IsFresh p → panel_lines.takes_all p ≡ []
nothing_taken p is =
    let none : ◌≡◌ {A = ℕ} (if has_report p.bus then 1 else 0) 0 = ap {B = ℕ} (λ (o : Option (ℕ × Report)). if is_some o then 1 else 0) is.none in
    let empty = is.empty in
    let most : panel.most_reports p ≡ 0 = omega (arith, none, empty) in
    ap (λ n. panel_lines.takes_some n p) most

-- lines that add entries are the calls that add them
adds_so : (entries : List FirstEntry) (s : panel.Session) → IsFresh s.panel → (after_adds entries s).panel ≡ calls.after_calls (adding entries) s.panel
adds_so [] s is = refl
adds_so (e ∷ entries) s is =
    let q : PanelState = calls.after_call (calls.Add e.address e.next) s.panel in
    let next : panel.Session = panel_runs.after_said (Some (Add e.address e.next)) s in
    let fresh : IsFresh q = stays_fresh (add_refusal e.address s.panel.bus) e.address e.next s.panel is in
    let same : next.panel ≡ q = ap (λ l. calls.after_calls l q) (nothing_taken q fresh) in
    adds_so entries next (subst IsFresh (sym same) fresh) ∙ ap (calls.after_calls (adding entries)) same

-- the calls of a line
all_fit : (list : List calls.Call) (p : PanelState) → EachFits (map Calls list) p
all_fit [] p = tt
all_fit (call ∷ list) p = (tt, all_fit list (calls.after_call call p))

same_calls : (list : List calls.Call) (p : PanelState) → calls.after_calls list p ≡ after_each_of_panel (map Calls list) p
same_calls [] p = refl
same_calls (call ∷ list) p = same_calls list (calls.after_call call p)

line_handle_is : AreCallsOfPanel line_handle
line_handle_is = record { fit = fits; panel = is }
  where
    fits : (own : PanelLine) (s : panel.Session) → line_handle.Fits own s → EachFits (line_handle.calls own s) s.panel
    fits (SaysToPanel None) s fit = tt
    fits (SaysToPanel (Some call)) s fit = all_fit (panel_lines.calls_of call s) s.panel
    fits (PanelAnew config entries) s fit = (fit, tt)

    is : (own : PanelLine) (s : panel.Session) → line_handle.Fits own s → (after_panel_line own s).panel ≡ after_each_of_panel (line_handle.calls own s) s.panel
    is (SaysToPanel None) s fit = refl
    is (SaysToPanel (Some call)) s fit = same_calls (panel_lines.calls_of call s) s.panel
    is (PanelAnew config entries) s fit = adds_so entries (panel.new_session config) (record { none = refl; empty = refl })

pub panel_lines_are : {H : Type 0} → AddsMakeTheBus → ArePanelCalls (line_panel {H = H})
panel_lines_are adds = handles_are_calls adds line_handle line_handle_is

-- ---- a device's lines

abbrev with_line : device.Session → Held DeviceStatus
with_line s = record { reader = s.reader; line = s.line }

-- what the whole device is after a line is what the call does
done_is : (call : ReaderCall) (s : device.Session) → with_line (device_runs.after_said (Some call) s) ≡ with_line (device.does call s).session
done_is call s = same_device _ _ _ _ (sym (call_steps call s).reader) (sym (line_is call s))

event_is : (fits : Bool) (event : Event) (d : Held DeviceStatus) → takes_event (not fits) event d ≡ record d { reader = after_submit_if fits event d.reader }
event_is true event d = refl
event_is false event d = refl

-- ---- events that leave

abbrev with_queue : ReaderState DeviceStatus → Received → Held DeviceStatus
with_queue r l = record { reader = r; line = l }

-- the oldest event leaves by its call
one_leaves : (k : ℕ) (r : ReaderState DeviceStatus) (l : Received) (first : Expired) → expired_front r.queue ≡ Some first
    → with_queue (after_expiry r) l ≡ device_after status_answer status_after (leaving_call k first) (with_queue r l)
one_leaves k r l first is = by_ever r.queue.ever_offered first is
  where
    doubted : (front : Option Event) (e : Event) → option_map (expired true) front ≡ Some (Withdrawn e) → ⊥
    doubted None e none = cc
    doubted (Some x) e other = cc

    known : (front : Option Event) (e : Event) → option_map (expired false) front ≡ Some (InDoubt e) → ⊥
    known None e none = cc
    known (Some x) e other = cc

    by_ever : (ever : Bool) (gone : Expired) → option_map (expired ever) (slice_get r.queue.events 0) ≡ Some gone
        → with_queue (cond ever (after_lapse_event r) (after_withdraw_event r)) l
        ≡ device_after status_answer status_after (leaving_call k gone) (with_queue r l)
    by_ever true (InDoubt e) same = refl
    by_ever false (Withdrawn e) same = refl
    by_ever true (Withdrawn e) same = absurd (doubted (slice_get r.queue.events 0) e same)
    by_ever false (InDoubt e) same = absurd (known (slice_get r.queue.events 0) e same)

-- what leaves of so many events at most leaves by calls
abbrev IsByCalls : ℕ → Received → ReaderState DeviceStatus → LetGo → Type 0
IsByCalls k l r g = with_queue g.reader l ≡ device_after_each status_answer status_after (leaving_calls k g.expired) (with_queue r l)

abbrev later_ages : ReaderState DeviceStatus → AgesState → AgesState
later_ages r a = after_removal false (length r.queue.events) a

left_more : (n k now limit : ℕ) (r : ReaderState DeviceStatus) (l : Received) (a : AgesState)
    → IsByCalls k l (after_expiry r) (lets_some_go n now limit (after_expiry r) (later_ages r a))
    → IsByCalls k l r (lets_some_go (suc n) now limit r a)
left_more n k now limit r l a more = by_test (expires now limit (length r.queue.events) a) refl
  where
    rest : LetGo
    rest = lets_some_go n now limit (after_expiry r) (later_ages r a)

    by_front : (front : Option Expired) → expired_front r.queue ≡ front → expires now limit (length r.queue.events) a ≡ true
        → IsByCalls k l r (goes_first front rest)
    by_front None is test =
        absurd (let stays : expires now limit (length r.queue.events) a ≡ false = none_left now limit r a
        (sym is ∙ ap (λ t. cond t (expired_front r.queue) None) (sym test)) in
        let e : true ≡ false = sym test ∙ stays in cc)
    by_front (Some first) is test =
        more ∙ ap (device_after_each status_answer status_after (leaving_calls k rest.expired)) (one_leaves k r l first is)

    by_test : (test : Bool) → expires now limit (length r.queue.events) a ≡ test
        → IsByCalls k l r (cond test (goes_first (expired_front r.queue) rest) (keeps_all r a))
    by_test true is = by_front (expired_front r.queue) refl is
    by_test false is = refl

left_so : (n k now limit : ℕ) (r : ReaderState DeviceStatus) (l : Received) (a : AgesState) → IsByCalls k l r (lets_some_go n now limit r a)
left_so zero k now limit r l a = refl
left_so (suc n) k now limit r l a = left_more n k now limit r l a (left_so n k now limit (after_expiry r) l (later_ages r a))

leaving_own : (k : ℕ) (gone : List Expired) → Each (IsOfDevice k) (leaving_calls k gone)
leaving_own k [] = tt
leaving_own k (Withdrawn e ∷ gone) = (own_device k, leaving_own k gone)
leaving_own k (InDoubt e ∷ gone) = (own_device k, leaving_own k gone)

call_is : (k : ℕ) (call : ReaderCall) (s : device.Session) → line_device.Fits (SaysToDevice (Some call)) s → IsAllRead s.line × IsReceived s.line
    → with_line (device.does call s).session ≡ device_after_each status_answer status_after (calls_of_line k call s) (with_line s)
call_is k (line.At later) s fits is = left_so (length s.reader.queue.events) k (device.comes later s).now s.absence.expire s.reader s.line s.ages
call_is k (line.Bytes list) s fits is =
    sym (hands status_answer status_after (suc (turns_left list.items s.now s.line)) k list.items s.now s.reader s.line (omega arith) is.1 is.0
    (λ place. omega (arith, fits.1 place))).is
call_is k line.Silence s fits is = sym (reading_is status_answer status_after k s.reader (after_silence s.now s.line))
call_is k line.Tick s fits is = sym (reading_is status_answer status_after k s.reader (after_tick s.now s.line))
call_is k (line.Event event) s fits is = sym (event_is (has_room event s.reader.queue) event (with_line s))
call_is k _ s fits is = refl

abbrev IsSound : device.Session → Type 0
IsSound s = IsAllRead s.line × IsReceived s.line

call_sound : (call : ReaderCall) (s : device.Session) → CallFits call → IsSound s → IsSound (device.does call s).session
call_sound (line.Bytes list) s fits is = (
  all_read_after status_answer status_after list.items s.now s.reader s.line is.1 is.0 (λ place. omega (arith, fits.1 place)),
  (hands status_answer status_after (suc (turns_left list.items s.now s.line)) 0 list.items s.now s.reader s.line (omega arith) is.1 is.0
      (λ place. omega (arith, fits.1 place))).received,
)
call_sound line.Silence s fits is =
    let silent = received_silence s.now s.line is.1 in
    (all_read status_answer status_after s.reader (after_silence s.now s.line) silent, received_read status_answer status_after s.reader (after_silence s.now s.line) silent)
call_sound line.Tick s fits is =
    let quiet = received_tick s.now s.line is.1 in
    (all_read status_answer status_after s.reader (after_tick s.now s.line) quiet, received_read status_answer status_after s.reader (after_tick s.now s.line) quiet)
call_sound _ s fits is = is

line_own : (k : ℕ) (call : ReaderCall) (s : device.Session) → Each (IsOfDevice k) (calls_of_line k call s)
line_own k (line.At later) s = leaving_own k (leaving_by (line.At later) s)
line_own k (line.Bytes list) s = handing_own status_answer status_after (suc (turns_left list.items s.now s.line)) k list.items s.now s.reader s.line
line_own k line.Silence s = (own_device k, nexts_own DeviceStatus k (length (said_to_all status_answer status_after (items_of (after_silence s.now s.line).held) s.reader)))
line_own k line.Tick s = (own_device k, nexts_own DeviceStatus k (length (said_to_all status_answer status_after (items_of (after_tick s.now s.line).held) s.reader)))
line_own k _ s = (own_device k, tt)

device_own : (k : ℕ) (own : DeviceLine) (s : device.Session) → Each (IsOfDevice k) (device_line_calls k own s)
device_own k (SaysToDevice None) s = tt
device_own k (SaysToDevice (Some call)) s = line_own k call s
device_own k (DeviceAnew config room gap) s = (own_device k, tt)

of_device : (k : ℕ) (own : DeviceLine) (s : device.Session) → line_device.Fits own s → IsSound s
    → with_line (after_device_line own s) ≡ device_after_each status_answer status_after (device_line_calls k own s) (with_line s)
of_device k (SaysToDevice None) s fits is = refl
of_device k (SaysToDevice (Some call)) s fits is = done_is call s ∙ call_is k call s fits is
of_device k (DeviceAnew config room gap) s fits is = refl

stays_sound : (own : DeviceLine) (s : device.Session) → line_device.Fits own s → IsSound s → IsSound (after_device_line own s)
stays_sound (SaysToDevice None) s fits is = is
stays_sound (SaysToDevice (Some call)) s fits is =
    subst (λ (d : Held DeviceStatus). IsAllRead d.line × IsReceived d.line) (sym (done_is call s)) (call_sound call s fits is)
stays_sound (DeviceAnew config room gap) s fits is =
    (record { goes_on = refl; undecided = decided_nothing false }, received_new gap fits)

pub device_lines_are : AreDeviceCalls status_answer status_after line_device
device_lines_are = record {
  end = λ k own s. each_all (IsOfDevice k) (device_line_calls k own s) (device_own k own s);
  device = of_device;
  sound = stays_sound;
}

-- ---- lines as they are written

panel_tells : (said : List (Option PanelCall)) (first last : panel.Session) (text : List ℕ) → panel_runs.Tells said first text last
    → last ≡ after_panel_lines said first
panel_tells [] first last text told = told.1
panel_tells (one ∷ more) first last text (due, rest, is_due, tells, joined) = panel_tells more (panel_runs.after_said one first) last rest tells

device_tells : (said : List (Option ReaderCall)) (first : device.Session) → device_runs.after_all_said said first ≡ after_device_lines said first
device_tells [] first = refl
device_tells (one ∷ more) first = device_tells more (device_runs.after_said one first)

pub lines_are_these : panel_runs.RunsAreCalls → device_runs.RunsAreCalls → LinesAreThese
lines_are_these panels devices = record {
  panel = λ first last lines text speaks.
      let run = panels first lines text last speaks in (run.0, run.1, panel_tells run.0 first last text run.2);
  device = λ first last lines text speaks.
      let run = devices first lines text last speaks in (run.0, run.1, run.3 ∙ device_tells run.0 first);
}
