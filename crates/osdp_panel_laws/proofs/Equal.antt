-- Events are equal in bytes exactly where their codes and their data are.
use Rattle.std.proofs.Common.{◌≡◌, ◌∙◌, ap, ℕ, List, ◌∷◌}
use Rattle.osdp_msg.specs.declared.event.Event.{Event}
use Rattle.osdp_msg.specs.Events.{event_reply}
use Rattle.osdp_msg.specs.ReplyTable.{reply_code, reply_data}
use Rattle.osdp_controller.specs.declared.report.Report.{Report}
use Rattle.osdp_bus.specs.Buses.{BusState, new_bus}
use Rattle.osdp_bus.specs.Remembering.{event_bytes}
use Rattle.osdp_bus_laws.specs.Calls.{after_calls}
use Rattle.osdp_bus_laws.specs.Repeating.{CameBefore, MarksExactly, MarksWhatMayComeAgain, of_entry}
use Rattle.osdp_bus_laws.specs.Reports.{taken_along}
use Rattle.osdp_panel_laws.specs.Equal.{AreEqual, EqualEventsAreMarked, MarksEqualEvents, WasToldLast}

same_head : (x y : ℕ) (xs ys : List ℕ) → x ∷ xs ≡ y ∷ ys → x ≡ y
same_head x y xs ys is = cc

same_rest : (x y : ℕ) (xs ys : List ℕ) → x ∷ xs ≡ y ∷ ys → xs ≡ ys
same_rest x y xs ys is = cc

equal_of : (a b : Event) → event_bytes a ≡ event_bytes b → AreEqual a b
equal_of a b is =
    let ra = event_reply a in
    let rb = event_reply b in
    record { code = same_head (reply_code ra) (reply_code rb) (reply_data ra) (reply_data rb) is; bytes = same_rest (reply_code ra) (reply_code rb) (reply_data ra) (reply_data rb) is }

bytes_of : (a b : Event) → AreEqual a b → event_bytes a ≡ event_bytes b
bytes_of a b is = ap (λ k. k ∷ reply_data (event_reply a)) is.code ∙ ap (λ ds. reply_code (event_reply b) ∷ ds) is.bytes

was_told : (e : Event) (rs : List Report) → CameBefore e rs → WasToldLast e rs
was_told e rs h = record {
  before = h.before;
  last = h.last;
  after = h.after;
  whole = h.whole;
  equal = equal_of e h.last h.equal;
  none_later = h.none_later;
  opened = h.opened;
}

came_before : (e : Event) (rs : List Report) → WasToldLast e rs → CameBefore e rs
came_before e rs h = record {
  before = h.before;
  last = h.last;
  after = h.after;
  whole = h.whole;
  equal = bytes_of e h.last h.equal;
  none_later = h.none_later;
  opened = h.opened;
}

by_bytes : (b : BusState) (taken : List (ℕ × Report)) → MarksExactly b taken → MarksEqualEvents b taken
by_bytes b taken h = record {
  marked = λ is. let m = h.marked is in (m.0, m.1, m.2, was_told m.1 (of_entry m.0 taken) m.3);
  marks = λ entry e at told. h.marks entry e at (came_before e (of_entry entry taken) told);
}

pub equal_events_are_marked : MarksWhatMayComeAgain → EqualEventsAreMarked
equal_events_are_marked marks config calls is =
    by_bytes (after_calls calls (new_bus config)) (taken_along calls (new_bus config)) (marks config calls is)
