-- Each item has one line.
use Rattle.osdp_tool_show.proofs.Common.{◌≡◌, ℕ, suc, ◌<◌, ◌==◌, cond, Bool, true, false, List, [], ◌∷◌, ◌++◌, length, slice_index, codes, drop, refl, sym, ap, ◌∙◌, arith, append_assoc, length-append, decimal, IsBytes, encode_upper, CheckKind, Sum, Crc, FrameFault, TooShort, IsPacket, Packet, RunItem, PacketItem, SkippedItem, RefusedItem, check_name, direction_name, fault_name, item_line, item_text, message_text, HasOneLine, IsCount, IsItem}
use Rattle.osdp_tool_show.proofs.Cuts.{cut, one_byte}
use Rattle.osdp_tool_show.proofs.OneItem.{one_item}
use Rattle.osdp_tool_show.proofs.NoFeed.{HasNoFeed, both, decimal_no_feed, digits_no_feed, lacks_feed, literal, message_no_feed, nothing}

direction_no_feed : (reply : Bool) → HasNoFeed (direction_name reply)
direction_no_feed true = literal (codes "reply") refl
direction_no_feed false = literal (codes "cmd") refl

check_no_feed : (check : CheckKind) → HasNoFeed (check_name check)
check_no_feed Sum = literal (codes "sum") refl
check_no_feed Crc = literal (codes "crc") refl

bits_no_feed : (reserved : ℕ) (none : Bool) → reserved < 16 → HasNoFeed (cond none [] (codes " bits " ++ decimal reserved))
bits_no_feed reserved true small = nothing
bits_no_feed reserved false small = both {xs = codes " bits "} (literal (codes " bits ") refl)
    (decimal_no_feed reserved (omega arith))

unblocked_no_feed : (reply : Bool) (body : List ℕ) → IsBytes body → 0 < length body
    → HasNoFeed (message_text reply (slice_index body 0) (drop 1 body))
unblocked_no_feed reply [] h some = absurd (omega arith)
unblocked_no_feed reply (b ∷ body) h some = message_no_feed reply b body (one_byte b (h 0)) (λ i. h (suc i))

body_no_feed : (reply block : Bool) (body : List ℕ) → IsBytes body → 0 < length body
    → HasNoFeed (cond block (codes "block " ++ encode_upper body) (message_text reply (slice_index body 0) (drop 1 body)))
body_no_feed reply true body h some = both {xs = codes "block "} (literal (codes "block ") refl) (digits_no_feed body h)
body_no_feed reply false body h some = unblocked_no_feed reply body h some

packet_no_feed : (p : Packet) → IsPacket p → HasNoFeed (item_text (PacketItem p))
packet_no_feed p h =
    let address : p.address < 128 = h.address in
    let number : p.sequence < 4 = h.sequence in
    let space = literal (codes " ") refl in
    let front = both {xs = direction_name p.reply} (direction_no_feed p.reply)
    (both {xs = codes " "} space
    (both {xs = decimal p.address} (decimal_no_feed p.address (omega arith))
    (both {xs = codes " seq "} (literal (codes " seq ") refl)
    (both {xs = decimal p.sequence} (decimal_no_feed p.sequence (omega arith))
    (both {xs = codes " "} space
    (both {xs = check_name p.check} (check_no_feed p.check) (bits_no_feed p.reserved (p.reserved == 0) h.reserved))))))) in
    both front (both {xs = codes " "} space (body_no_feed p.reply p.block p.body h.body h.code))

fault_named : (fault : FrameFault) → lacks_feed (fault_name fault) ≡ true
fault_named TooShort = refl
fault_named fault = refl

item_no_feed : (item : RunItem) → IsItem item → HasNoFeed (item_text item)
item_no_feed (PacketItem p) h = packet_no_feed p h
item_no_feed (SkippedItem b) h = both {xs = codes "skip "} (literal (codes "skip ") refl) (digits_no_feed (b ∷ []) (one_byte b h))
item_no_feed (RefusedItem fault) h = both {xs = codes "refused "} (literal (codes "refused ") refl)
    (literal (fault_name fault) (fault_named fault))

-- ---- lines

pub one_line : HasOneLine
one_line run place item small low h =
    let front = decimal run ++ (codes ":" ++ (decimal place ++ codes " ")) in
    let text = both {xs = front} (both {xs = decimal run} (decimal_no_feed run small)
    (both {xs = codes ":"} (literal (codes ":") refl)
    (both {xs = decimal place} (decimal_no_feed place low) (literal (codes " ") refl)))) (item_no_feed item h) in
    (front ++ item_text item, sym (append_assoc front (item_text item) (codes "\n")), text.lacks)

-- no line is empty
pub some_line : (run place : ℕ) (item : RunItem) → 0 < length (item_line run place item)
some_line run place item =
    let front = decimal run ++ (codes ":" ++ (decimal place ++ codes " ")) in
    omega (arith, length-append front (item_text item ++ codes "\n"), length-append (item_text item) (codes "\n"))

-- what stands after one line stands after the other, where all of it is the same
pub next_line : (run place other_run other_place : ℕ) (item other : RunItem) (front back : List ℕ)
    → IsCount run → IsCount place → IsCount other_run → IsCount other_place → IsItem item → IsItem other
    → item_line run place item ++ front ≡ item_line other_run other_place other ++ back
    → (run ≡ other_run) × (place ≡ other_place) × (item ≡ other) × (front ≡ back)
next_line run place other_run other_place item other front back small low fits room h k e =
    let first = one_line run place item small low h in
    let second = one_line other_run other_place other fits room k in
    let whole = sym (ap (λ (text : List ℕ). text ++ front) first.1 ∙ append_assoc first.0 (codes "\n") front) ∙ e
    ∙ ap (λ (text : List ℕ). text ++ back) second.1 ∙ append_assoc second.0 (codes "\n") back in
    let parts = cut 10 first.0 second.0 front back first.2 second.2 whole in
    let lines = first.1 ∙ ap (λ (text : List ℕ). text ++ codes "\n") parts.0 ∙ sym second.1 in
    let one = one_item run place other_run other_place item other small low fits room h k lines in
    (one.0, one.1, one.2, parts.1)
