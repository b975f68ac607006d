-- Events that are kept as their bytes.
use Rattle.std.proofs.Common.{◌≡◌, ◌+◌, ◌-◌, ◌&&◌, Bool, true, false, ℕ, List, [], ◌∷◌, ◌++◌, length, map, drop, take, refl, sym, ap, ◌∙◌}
use Rattle.std.specs.List.{All}
use Rattle.std.specs.Prelude.{nat_le, nat_lt, unwrap_or}
use Rattle.std.proofs.lemmas.List.{length-map}
use Rattle.std.proofs.lemmas.List.Elements.{All-append, All-drop, All-head, All-push, All-tail, All-take}
use Rattle.osdp_msg.specs.declared.event.Event.{Event}
use Rattle.osdp_msg.specs.declared.event.Event.TheVariants.{Inputs}
use Rattle.osdp_msg.specs.Events.{EventFits, event_reply}
use Rattle.osdp_msg.specs.Kept.{event_kept}
use Rattle.osdp_msg.specs.ReplyTable.{reply_code, reply_data}
use Rattle.osdp_msg.proofs.Keeping.{event_back}
use Rattle.osdp_reader.specs.Queue.{IsEvent, bytes_waiting, event_size}
use Rattle.osdp_ring.specs.Ring.{Strings, pushed_if, total}

kept_is : (e : Event) (bytes : List ℕ) → EventFits e → bytes ≡ reply_code (event_reply e) ∷ reply_data (event_reply e) → event_kept bytes ≡ e
kept_is e bytes fits is = ap event_kept is ∙ ap (λ read. unwrap_or read (Inputs (record { items = [] }))) (event_back e fits)

size_is : (bytes : List ℕ) → IsEvent bytes → event_size (event_kept bytes) ≡ length bytes
size_is bytes event = ap event_size (kept_is event.0 bytes event.1 event.2) ∙ sym (ap length event.2)

bytes_total : (ss : List (List ℕ)) → All IsEvent ss → bytes_waiting (map event_kept ss) ≡ total ss
bytes_total [] events = refl
bytes_total (s ∷ ss) events =
    ap (λ (k : ℕ). k + bytes_waiting (map event_kept ss)) (size_is s (All-head IsEvent s ss events))
    ∙ ap (λ (k : ℕ). length s + k) (bytes_total ss (All-tail IsEvent s ss events))

-- room as the queue has it is room as its events have it
pub room_is : (e : Event) (bytes : List ℕ) (capacity room : ℕ) (ss : List (List ℕ)) → EventFits e → bytes ≡ reply_code (event_reply e) ∷ reply_data (event_reply e) → All IsEvent ss
    → (nat_lt (length ss) capacity && nat_le (length bytes) (room - total ss))
    ≡ (nat_lt (length (map event_kept ss)) capacity && nat_le (event_size e) (room - bytes_waiting (map event_kept ss)))
room_is e bytes capacity room ss fits is events =
    let size : length bytes ≡ event_size e = ap length is in
    rw (length-map ss event_kept, bytes_total ss events, size) refl

pub pushed_events : (fits : Bool) (bytes : List ℕ) (q : Strings) → IsEvent bytes → All IsEvent q.items → All IsEvent (pushed_if fits bytes q).items
pushed_events true bytes q event events = All-push IsEvent q.items bytes events event
pushed_events false bytes q event events = events

pub others_events : (ss : List (List ℕ)) → All IsEvent ss → All IsEvent (take 1 ss ++ drop 2 ss)
others_events ss events = All-append IsEvent (take 1 ss) (drop 2 ss) (All-take IsEvent 1 ss events) (All-drop IsEvent 2 ss events)
