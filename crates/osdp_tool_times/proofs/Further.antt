-- The items of a run, one after the other.
use Rattle.std.proofs.Common.{◌≡◌, ℕ, ◌≤◌, ◌<◌, ◌==◌, Bool, true, false, cond, nat_lt, List, [], ◌∷◌, ◌++◌, append-nil, Option, None, Some, length, drop, refl, sym, subst, ap, ◌∙◌, arith}
use Rattle.osdp_frame.specs.declared.fault.FrameFault.{FrameFault}
use Rattle.osdp_frame.specs.declared.fault.FrameFault.TheVariants.{TooShort, TooLong, BadCheck, Ended}
use Rattle.osdp_frame.specs.Bytes.{AreBytes}
use Rattle.osdp_frame.specs.Held.{by_itself, decided, is_checked, packet_at}
use Rattle.osdp_frame.specs.Items.{items, packets_in, whole_packets}
use Rattle.osdp_frame.specs.Packet.{Packet, largest}
use Rattle.osdp_frame.specs.Reading.{RunItem, PacketItem, SkippedItem, RefusedItem, check_at, count_at, item_size, smallest}
use Rattle.osdp_frame.specs.Spelling.{start_of_message}
use Rattle.osdp_frame.proofs.Decided.{decided_more}
use Rattle.osdp_frame_laws.proofs.OneByOne.{items_after}
use Rattle.osdp_frame_laws.proofs.LeftOver.{items_nothing}
use Rattle.osdp_frame_laws.proofs.Readings.{item_size-decided}
use Rattle.osdp_tool_times.specs.Captures.{begun_after, from_start, item_at, item_told, run_after, run_told, start_in}
use Rattle.osdp_tool_times.specs.Presence.{after_answer, after_asked, has_lost, is_offline}
use Rattle.osdp_tool_times.specs.PresenceLaws.{HearsFurtherAnswers}
use Rattle.osdp_tool_times.specs.Times.{all_further, further_after}
use Rattle.osdp_tool_times.specs.declared.table.Times.{Times}
use Rattle.osdp_tool_times.specs.declared.waits.Told.TheVariants.{Nothing}

decided_as : (first : Option RunItem) (part : RunItem) → by_itself first ≡ Some part → first ≡ Some part
decided_as None part is = absurd cc
decided_as (Some (PacketItem p)) part is = is
decided_as (Some (SkippedItem b)) part is = is
decided_as (Some (RefusedItem fault)) part is = absurd cc

pub size_within : (bytes : List ℕ) (part : RunItem) → AreBytes bytes → item_at bytes ≡ Some part → item_size part ≤ length bytes
size_within bytes part fits is = item_size-decided false bytes part fits (decided_as (decided false bytes) part is)

-- an item that its own bytes decide stands first where the run ends
first_packets : (bytes : List ℕ) (part : RunItem) → AreBytes bytes → item_at bytes ≡ Some part
    → packets_in bytes ≡ whole_packets (part ∷ []) ++ packets_in (drop (item_size part) bytes)
first_packets bytes part fits is =
    let all : bytes ++ [] ≡ bytes = append-nil bytes in
    let more : decided true (bytes ++ []) ≡ Some part =
    decided_more true bytes [] part (subst (λ l. AreBytes l) (sym all) fits) (decided_as (decided false bytes) part is) in
    let ended : decided true bytes ≡ Some part = subst (λ l. decided true l ≡ Some part) all more in
    ap whole_packets (items_after true bytes part ended) ∙ front part (items true (drop (item_size part) bytes))
  where
    front : (x : RunItem) (parts : List RunItem) → whole_packets (x ∷ parts) ≡ whole_packets (x ∷ []) ++ whole_packets parts
    front (PacketItem p) parts = refl
    front (SkippedItem b) parts = refl
    front (RefusedItem fault) parts = refl

-- else the byte at the head is refused there, or the run is over
refused : (b : ℕ) (bytes : List ℕ) → None ≡ item_at (b ∷ bytes) → (fault : FrameFault) × (decided true (b ∷ bytes) ≡ Some (RefusedItem fault))
unfolding decided
refused b bytes is =
    by_tests (b == start_of_message) (nat_lt (length rest) 5) (nat_lt (count_at rest) (smallest (check_at rest))) (nat_lt largest (count_at rest)) (nat_lt (length rest) (count_at rest)) (is_checked rest) is
  where
    rest : List ℕ
    rest = b ∷ bytes

    tested : Option RunItem → Bool → Bool → Bool → Bool → Bool → Bool → Option RunItem
    tested at_end start few short long less right =
        cond start (cond few at_end (cond short (Some (RefusedItem TooShort)) (cond long (Some (RefusedItem TooLong)) (cond less at_end
        (cond right (Some (PacketItem (packet_at rest))) (Some (RefusedItem BadCheck))))))) (Some (SkippedItem b))

    by_tests : (start few short long less right : Bool) → None ≡ by_itself (tested None start few short long less right)
        → (fault : FrameFault) × (tested (Some (RefusedItem Ended)) start few short long less right ≡ Some (RefusedItem fault))
    by_tests false few short long less right e = absurd cc
    by_tests true true short long less right e = (Ended, refl)
    by_tests true false true long less right e = (TooShort, refl)
    by_tests true false false true less right e = (TooLong, refl)
    by_tests true false false false true right e = (Ended, refl)
    by_tests true false false false false true e = absurd cc
    by_tests true false false false false false e = (BadCheck, refl)

pub passed_packets : (bytes : List ℕ) → 0 < length bytes → None ≡ item_at bytes → packets_in (drop 1 bytes) ≡ packets_in bytes
passed_packets [] some is = absurd (omega arith)
passed_packets (b ∷ bytes) some is =
    let one = refused b bytes is in sym (ap whole_packets (items_after true (b ∷ bytes) (RefusedItem one.0) one.1))

further_append : (xs ys : List Packet) (moment : Option ℕ) (times : List Times)
    → all_further (xs ++ ys) moment times ≡ all_further ys moment (all_further xs moment times)
unfolding all_further
further_append [] ys moment times = refl
further_append (p ∷ xs) ys moment times = further_append xs ys moment (further_after p moment times)

-- once it has come, those after it are left
pub further_first : (bytes : List ℕ) (part : RunItem) (moment : Option ℕ) (times : List Times) → AreBytes bytes → item_at bytes ≡ Some part
    → all_further (packets_in (drop (item_size part) bytes)) moment (all_further (whole_packets (part ∷ [])) moment times)
    ≡ all_further (packets_in bytes) moment times
further_first bytes part moment times fits is =
    sym (further_append (whole_packets (part ∷ [])) (packets_in (drop (item_size part) bytes)) moment times)
    ∙ ap (λ packets. all_further packets moment times) (sym (first_packets bytes part fits is))

pub further_nothing : (moment : Option ℕ) (times : List Times) → all_further (packets_in []) moment times ≡ times
unfolding all_further
further_nothing moment times = ap (λ parts. all_further (whole_packets parts) moment times) (items_nothing true)

-- where no packet begins nothing comes of a run
pub begun_nothing : (moment : Option ℕ) (times : List Times) → begun_after [] moment times ≡ times
unfolding decided
begun_nothing moment times = further_nothing moment times

empty : (bytes : List ℕ) → length bytes ≡ 0 → bytes ≡ []
empty [] is = refl
empty (b ∷ bytes) is = absurd (omega arith)

pub run_nothing : (run : List ℕ) (moment : Option ℕ) (times : List Times) → length (from_start (start_in run) run) ≡ 0 → times ≡ run_after run moment times
run_nothing run moment times is =
    sym (ap (λ l. begun_after l moment times) (empty (from_start (start_in run) run) is) ∙ begun_nothing moment times)

pub told_nothing : (run : List ℕ) (moment : Option ℕ) (times : List Times) → length (from_start (start_in run) run) ≡ 0 → Nothing ≡ run_told run moment times
unfolding decided
told_nothing run moment times is = sym (ap (λ l. item_told (item_at l) moment times) (empty (from_start (start_in run) run) is))

-- an answer that stands further in its run
pub heard_further : HearsFurtherAnswers
heard_further p moment t = record {
  online = λ reply. ap (λ b. is_offline (cond b (after_answer (has_lost p t.presence) moment t.presence) (after_asked t.presence))) reply;
  answers = refl;
  late = refl;
}
