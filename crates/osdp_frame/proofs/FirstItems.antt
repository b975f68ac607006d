-- What is kept of the first item is enough to show it.
use Rattle.osdp_frame.proofs.Common.{nat_lt, ◌==◌, ◌≡◌, ℕ, ◌-◌, ◌/◌, ◌%◌, ◌≤◌, Bool, false, List, [], ◌∷◌, ◌++◌, length, take, drop, get_or, Option, Some, None, true, cond, ltb, refl, sym, ap, subst, ◌∙◌, arith, length-drop, take-append-le, drop-append-le, take-append-drop, get_or_append_left, length-append, take_at, First, AreBytes, check_size, Packet, IsPacket, packet_length, largest, TooShort, TooLong, BadCheck, start_of_message, RunItem, PacketItem, SkippedItem, RefusedItem, Begins, IsFirst, item_size, smallest, count_at, check_at, item_in, item_if, PacketFits, FirstFits}
use Rattle.osdp_frame.specs.declared.first.First.TheVariants as kept
use Rattle.osdp_frame.specs.Packed.{packed}
use Rattle.osdp_frame.specs.Held.{begun, by_itself, decided, is_checked, packet_at}
use Rattle.osdp_frame.proofs.Head.{AreBytes-take, count_at-append, check_at-append}
use Rattle.osdp_frame.proofs.Decided.{decided_first, first_decided, stands_first, decided_more}
use Rattle.osdp_frame.proofs.Spelled.{length-spelled}

-- a packet that is decided is one
pub packet_decided : (ended : Bool) (bytes : List ℕ) (p : Packet) → AreBytes bytes → Some (PacketItem p) ≡ decided ended bytes → IsPacket p
packet_decided ended bytes p fits is = (stands_first ended bytes (PacketItem p) (first_decided ended bytes (PacketItem p) fits (sym is))).spelled.fits

-- with more after it, it stays the same packet
packet_at-append : (rest more : List ℕ) → PacketFits rest (count_at rest) → packet_at (rest ++ more) ≡ packet_at rest
packet_at-append rest more fits =
    let five : 5 ≤ length rest = omega (arith, fits.1, fits.2) in
    let count = count_at-append rest more five in
    let check = check_at-append rest more five in
    let address : get_or (rest ++ more) 1 0 ≡ get_or rest 1 0 = get_or_append_left rest more 0 1 (omega arith) in
    let control : get_or (rest ++ more) 4 0 ≡ get_or rest 4 0 = get_or_append_left rest more 0 4 (omega arith) in
    let n = count_at rest - check_size (check_at rest) - 5 in
    let last : count_at (rest ++ more) - check_size (check_at (rest ++ more)) - 5 ≡ n = λ i. count i - check_size (check i) - 5 in
    let later : drop 5 (rest ++ more) ≡ drop 5 rest ++ more = drop-append-le 5 rest more five in
    let same : take n (drop 5 rest ++ more) ≡ take n (drop 5 rest) = take-append-le n (drop 5 rest) more (omega (arith, fits.2, length-drop 5 rest)) in
    let body : take (count_at (rest ++ more) - check_size (check_at (rest ++ more)) - 5) (drop 5 (rest ++ more)) ≡ take n (drop 5 rest) =
    (λ i. take (last i) (later i)) ∙ same in
    λ i. packed (nat_lt 127 (address i)) (address i % 128) (control i % 4) (check i) (control i / 8 % 2 == 1) (control i / 16) (body i)

-- with more after it, it stays the same item
pub item_in-append : (first : First) (rest more : List ℕ) → FirstFits rest (Some first) → item_in first (rest ++ more) ≡ item_in first rest
item_in-append (kept.Packet count) rest more fits =
    ap PacketItem (packet_at-append rest more (subst (λ n. PacketFits rest n) fits.0 fits))
item_in-append (kept.Skipped b) rest more fits = refl
item_in-append (kept.Refused f) rest more fits = refl

pub FirstFits-append : (first : First) (rest more : List ℕ) → FirstFits rest (Some first) → FirstFits (rest ++ more) (Some first)
FirstFits-append (kept.Packet count) rest more fits =
    let five : 5 ≤ length rest = omega (arith, fits.1, fits.2) in
    let size = ap check_size (check_at-append rest more five) in (
      fits.0 ∙ sym (count_at-append rest more five),
      omega (arith, fits.1),
      omega (arith, fits.2, length-append rest more),
    )
FirstFits-append (kept.Skipped b) rest more fits = omega (arith, length-append rest more)
FirstFits-append (kept.Refused f) rest more fits = omega (arith, length-append rest more)

-- what is decided of the front of bytes in a run that goes on is decided of all of them
pub item_if-more : (first : First) (held : ℕ) (rest : List ℕ) (ended : Bool) → AreBytes rest → FirstFits (take held rest) (Some first)
    → item_if (Some first) (take held rest) ≡ decided false (take held rest) → item_if (Some first) rest ≡ decided ended rest
item_if-more first held rest ended bytes fits is =
    let split : take held rest ++ drop held rest ≡ rest = take-append-drop held rest in
    let all : AreBytes (take held rest ++ drop held rest) = subst (λ l. AreBytes l) (sym split) bytes in
    let same : item_in first (take held rest ++ drop held rest) ≡ item_in first (take held rest) = item_in-append first (take held rest) (drop held rest) fits in
    let later : decided ended (take held rest ++ drop held rest) ≡ Some (item_in first (take held rest)) = decided_more ended (take held rest) (drop held rest) (item_in first (take held rest)) all (sym is) in
    let whole : item_if (Some first) (take held rest ++ drop held rest) ≡ decided ended (take held rest ++ drop held rest) = ap Some same ∙ sym later in
    subst (λ l. item_if (Some first) l ≡ decided ended l) split whole

pub FirstFits-more : (first : First) (held : ℕ) (rest : List ℕ) → FirstFits (take held rest) (Some first) → FirstFits rest (Some first)
FirstFits-more first held rest fits =
    subst (λ l. FirstFits l (Some first)) (take-append-drop held rest) (FirstFits-append first (take held rest) (drop held rest) fits)

-- ---- items that their own bytes decide

-- a packet's bytes decide it
pub whole_by_itself : (bytes : List ℕ) (p : Packet) → AreBytes bytes → decided false bytes ≡ Some (PacketItem p)
    → decided false (take (packet_length p) bytes) ≡ Some (PacketItem p)
whole_by_itself bytes p fits is =
    let b : Begins p bytes = stands_first false bytes (PacketItem p) (first_decided false bytes (PacketItem p) fits is) in
    let front : take (packet_length p) bytes ≡ b.bytes =
    ap (take (packet_length p)) b.parts ∙ take_at b.bytes b.after (packet_length p) (length-spelled p b.bytes b.spelled) in
    decided_first false (take (packet_length p) bytes) (PacketItem p) (AreBytes-take (packet_length p) bytes fits) (λ more none. record {
      bytes = b.bytes;
      after = more;
      spelled = b.spelled;
      parts = ap (λ l. l ++ more) front;
    })

begun_never_passed : (rest : List ℕ) (byte : ℕ) → begun false rest ≡ Some (SkippedItem byte) → ⊥
begun_never_passed rest byte is =
    by_tests (ltb (length rest) 5) (ltb (count_at rest) (smallest (check_at rest))) (ltb largest (count_at rest)) (ltb (length rest) (count_at rest)) (is_checked rest) is
  where
    by_tests : (few short long less right : Bool) → cond few None (cond short (Some (RefusedItem TooShort)) (cond long (Some (RefusedItem TooLong)) (cond less None (cond right (Some (PacketItem (packet_at rest))) (Some (RefusedItem BadCheck)))))) ≡ Some (SkippedItem byte) → ⊥
    by_tests true short long less right e = cc
    by_tests false true long less right e = cc
    by_tests false false true less right e = cc
    by_tests false false false true right e = cc
    by_tests false false false false true e = cc
    by_tests false false false false false e = cc

-- and a byte that begins none decides itself
pub passed_by_itself : (bytes : List ℕ) (byte : ℕ) → decided false bytes ≡ Some (SkippedItem byte) → decided false (take 1 bytes) ≡ Some (SkippedItem byte)
unfolding decided
passed_by_itself [] byte is = is
passed_by_itself (b ∷ bytes) byte is = by_test (b == start_of_message) refl is
  where
    by_test : (t : Bool) → (b == start_of_message) ≡ t → cond t (begun false (b ∷ bytes)) (Some (SkippedItem b)) ≡ Some (SkippedItem byte)
        → cond (b == start_of_message) (begun false (b ∷ [])) (Some (SkippedItem b)) ≡ Some (SkippedItem byte)
    by_test true test h = absurd (begun_never_passed (b ∷ bytes) byte h)
    by_test false test h = ap (λ t. cond t (begun false (b ∷ [])) (Some (SkippedItem b))) test ∙ h

some_same : (x y : RunItem) → Some x ≡ Some y → x ≡ y
some_same x y e = cc

pub decided_by_itself : (bytes : List ℕ) (part : RunItem) → AreBytes bytes → by_itself (decided false bytes) ≡ Some part
    → decided false (take (item_size part) bytes) ≡ Some part
decided_by_itself bytes part fits is = by_answer (decided false bytes) refl is
  where
    by_answer : (o : Option RunItem) → decided false bytes ≡ o → by_itself o ≡ Some part → decided false (take (item_size part) bytes) ≡ Some part
    by_answer None d e = absurd cc
    by_answer (Some (PacketItem p)) d e = subst (λ x. decided false (take (item_size x) bytes) ≡ Some x) (some_same (PacketItem p) part e) (whole_by_itself bytes p fits d)
    by_answer (Some (SkippedItem b)) d e = subst (λ x. decided false (take (item_size x) bytes) ≡ Some x) (some_same (SkippedItem b) part e) (passed_by_itself bytes b d)
    by_answer (Some (RefusedItem f)) d e = absurd cc

pub first_by_itself : (bytes : List ℕ) (part : RunItem) → AreBytes bytes → by_itself (decided false bytes) ≡ Some part
    → IsFirst false (take (item_size part) bytes) part
first_by_itself bytes part fits is =
    first_decided false (take (item_size part) bytes) part (AreBytes-take (item_size part) bytes fits) (decided_by_itself bytes part fits is)
