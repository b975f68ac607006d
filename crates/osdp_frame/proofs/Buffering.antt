-- What a buffer's fields say of what it holds.
use Rattle.osdp_frame.proofs.Common.{◌≡◌, ℕ, ◌+◌, ◌-◌, ◌*◌, ◌/◌, ◌%◌, ◌<◌, ◌≤◌, List, ◌++◌, length, take, drop, get_or, slice_range, refl, sym, ap, subst, ◌∙◌, arith, inl, inr, cases_lt, take-add, drop-take, drop-drop, take-take, get_or-take, length-take-le, Buffered, IsBuffer, buffered, bytes_of, AreBytes, GoesOver, IsRunning}
use Rattle.osdp_frame.specs.declared.buffer.Buffer.TheInside.{Inside}
use Rattle.osdp_frame.proofs.Head.{AreBytes-take}
use Rattle.osdp_frame.proofs.Running.{get_or-slice, slice-same, slice-slice}

-- what is after the first items of a piece
pub slice_after : (b : List ℕ) (from to size : ℕ) → from + size ≤ to → slice_range b (from + size) to ≡ drop size (slice_range b from to)
slice_after b from to size h =
    let rest : to - from ≡ size + (to - (from + size)) = omega arith in
    ap (take (to - (from + size))) (sym (drop-drop size from b)) ∙ sym (ap (λ n. drop size (take n (drop from b))) rest ∙ drop-take size (to - (from + size)) (drop from b))

-- what is written after the bytes held follows them
pub written_after : (new mid : List ℕ) (from n k : ℕ) → take (from + n) new ≡ take (from + n) mid → slice_range new from (from + n + k) ≡ slice_range mid from (from + n) ++ slice_range new (from + n) (from + n + k)
written_after new mid from n k same =
    let whole : from + n + k - from ≡ n + k = omega arith in
    let front : n ≡ from + n - from = omega arith in
    let back : k ≡ from + n + k - (from + n) = omega arith in
    ap (λ m. take m (drop from new)) whole ∙ take-add n k (drop from new)
    ∙ (λ i. take (front i) (drop from new) ++ take (back i) (drop-drop n from new i))
    ∙ ap (λ l. l ++ slice_range new (from + n) (from + n + k)) (slice-same new mid from n same)

-- what the same pieces have at a place within them
at_same : {C : Type 0} (new old : List C) (a b from to j : ℕ) (d : C) → slice_range new a b ≡ slice_range old from to → j < b - a → j < to - from → get_or new (a + j) d ≡ get_or old (from + j) d
at_same new old a b from to j d same p q = sym (get_or-slice new a b j d p) ∙ ap (λ l. get_or l j d) same ∙ get_or-slice old from to j d q

piece_same : (new old : List ℕ) (a b from to at n : ℕ) → slice_range new a b ≡ slice_range old from to → at + n ≤ b - a → at + n ≤ to - from
    → slice_range new (a + at) (a + at + n) ≡ slice_range old (from + at) (from + at + n)
piece_same new old a b from to at n same p q = sym (slice-slice new a b at n p) ∙ ap (λ l. slice_range l at (at + n)) same ∙ slice-slice old from to at n q

-- the bytes held are moved with those before them
pub held_moved : (new old : List ℕ) (from to at : ℕ) → from ≤ to → at % 16 ≡ from % 16
    → slice_range new (at - from % 16) (at + (to - from)) ≡ slice_range old (from - from % 16) to → slice_range new at (at + (to - from)) ≡ slice_range old from to
held_moved new old from to at order stride same =
    let m = from % 16 in
    let begin : at ≡ at - m + m = omega arith in
    let end : at + (to - from) ≡ at - m + m + (to - from) = omega arith in
    let begin_old : from - m + m ≡ from = omega arith in
    let end_old : from - m + m + (to - from) ≡ to = omega arith in
    (λ i. slice_range new (begin i) (end i)) ∙ piece_same new old (at - m) (at + (to - from)) (from - m) to m (to - from) same (omega arith) (omega arith)
    ∙ (λ i. slice_range old (begin_old i) (end_old i))

-- ---- the running checks

-- the same states over the same bytes run, wherever they stand
run_same : {C : Type 0} (since : C → List ℕ → C → Type 0) (old new : List C) (before after : List ℕ) (j k : ℕ) (d : C)
    → get_or new k d ≡ get_or old j d → slice_range after (16 * k) (16 * (k + 1)) ≡ slice_range before (16 * j) (16 * (j + 1)) → get_or new (k + 1) d ≡ get_or old (j + 1) d
    → GoesOver since (get_or old j d) (slice_range before (16 * j) (16 * (j + 1))) (get_or old (j + 1) d) → GoesOver since (get_or new k d) (slice_range after (16 * k) (16 * (k + 1))) (get_or new (k + 1) d)
run_same since old new before after j k d first bytes last goes =
    subst (λ s. GoesOver since s (slice_range after (16 * k) (16 * (k + 1))) (get_or new (k + 1) d)) (sym first)
    (subst (λ l. GoesOver since (get_or old j d) l (get_or new (k + 1) d)) (sym bytes)
    (subst (λ s. GoesOver since (get_or old j d) (slice_range before (16 * j) (16 * (j + 1))) s) (sym last) goes))

-- they go on running where they are moved by whole strides
pub run_moved : {C : Type 0} (since : C → List ℕ → C → Type 0) (old new : List C) (before after : List ℕ) (from ran to at : ℕ) → from ≤ ran → ran ≤ to → at % 16 ≡ from % 16
    → slice_range after (at - from % 16) (at + (to - from)) ≡ slice_range before (from - from % 16) to
    → slice_range new (at / 16) (at / 16 + (ran / 16 - from / 16) + 1) ≡ slice_range old (from / 16) (ran / 16 + 1)
    → IsRunning since old before (from / 16) (ran / 16) → IsRunning since new after (at / 16) ((at + (ran - from)) / 16)
run_moved since old new before after from ran to at order within stride bytes states run k d low high =
    let a = at / 16 in
    let f = from / 16 in
    let r = ran / 16 in
    let j = k - a in
    let here : a + j ≡ k = omega arith in
    let next : a + (j + 1) ≡ k + 1 = omega arith in
    let next_old : f + (j + 1) ≡ f + j + 1 = omega arith in
    let begin : 16 * k ≡ at - from % 16 + 16 * j = omega arith in
    let end : 16 * (k + 1) ≡ at - from % 16 + 16 * j + 16 = omega arith in
    let begin_old : from - from % 16 + 16 * j ≡ 16 * (f + j) = omega arith in
    let end_old : from - from % 16 + 16 * j + 16 ≡ 16 * (f + j + 1) = omega arith in
    run_same since old new before after (f + j) k d
    (ap (λ n. get_or new n d) (sym here) ∙ at_same new old a (a + (r - f) + 1) f (r + 1) j d states (omega arith) (omega arith))
    ((λ i. slice_range after (begin i) (end i)) ∙ piece_same after before (at - from % 16) (at + (to - from)) (from - from % 16) to (16 * j) 16 bytes (omega arith) (omega arith)
    ∙ (λ i. slice_range before (begin_old i) (end_old i)))
    (ap (λ n. get_or new n d) (sym next) ∙ at_same new old a (a + (r - f) + 1) f (r + 1) (j + 1) d states (omega arith) (omega arith) ∙ ap (λ n. get_or old n d) next_old)
    (run (f + j) d (omega arith) (omega arith))

-- where bytes are written after them
pub run_written : {C : Type 0} (since : C → List ℕ → C → Type 0) (states : List C) (before after : List ℕ) (from to held : ℕ) → 16 * to ≤ held → take held after ≡ take held before
    → IsRunning since states before from to → IsRunning since states after from to
run_written since states before after from to held within same run k d low high =
    let next : 16 * (k + 1) ≡ 16 * k + 16 = omega arith in
    let short : take (16 * k + 16) after ≡ take (16 * k + 16) before =
    sym (take-take (16 * k + 16) held after (omega arith)) ∙ ap (take (16 * k + 16)) same ∙ take-take (16 * k + 16) held before (omega arith) in
    let piece : slice_range after (16 * k) (16 * (k + 1)) ≡ slice_range before (16 * k) (16 * (k + 1)) =
    ap (slice_range after (16 * k)) next ∙ slice-same after before (16 * k) 16 short ∙ ap (slice_range before (16 * k)) (sym next) in
    subst (λ l. GoesOver since (get_or states k d) l (get_or states (k + 1) d)) (sym piece) (run k d low high)

-- where bytes are let go
pub run_after : {C : Type 0} (since : C → List ℕ → C → Type 0) (states : List C) (bytes : List ℕ) (from to first last : ℕ) → from ≤ first → (first < last → last ≤ to)
    → IsRunning since states bytes from to → IsRunning since states bytes first last
run_after since states bytes from to first last order within run k d low high = run k d (omega arith) (let h = within (omega arith) in omega arith)

-- and where they go on
pub run_further : {C : Type 0} (since : C → List ℕ → C → Type 0) (old new : List C) (bytes : List ℕ) (from ran to : ℕ) → take (ran + 1) new ≡ take (ran + 1) old
    → IsRunning since old bytes from ran → IsRunning since new bytes ran to → IsRunning since new bytes from to
run_further since old new bytes from ran to same run on k d low high = elim (cases_lt k ran) [
  | inl before ↦ run_same since old new bytes bytes k k d (kept k (omega arith)) refl (kept (k + 1) (omega arith)) (run k d low before)
  | inr past ↦ on k d past high
]
  where
    kept : (n : ℕ) → n < ran + 1 → get_or new n d ≡ get_or old n d
    kept n h = sym (get_or-take (ran + 1) new n d h) ∙ ap (λ l. get_or l n d) same ∙ get_or-take (ran + 1) old n d h

-- ---- the front of what is held

pub record IsFront (b : Inside) (count : ℕ) : Type 0 where
  pub piece : take count (bytes_of b) ≡ slice_range b.bytes b.from (b.from + count)
  pub bytes : AreBytes (slice_range b.bytes b.from (b.from + count))
  pub size : length (slice_range b.bytes b.from (b.from + count)) ≡ count
  pub within : b.from + count ≤ b.ran

pub front_of : (b : Inside) (v : Buffered) (count : ℕ) → buffered b ≡ v → IsBuffer b → AreBytes v.bytes → v.run ≤ length v.bytes → count ≤ v.run → IsFront b count
front_of b v count view is fits order run =
    let held = bytes_of b in
    let size = ap (λ (w : Buffered). length w.bytes) view in
    let ran = ap (λ (w : Buffered). w.run) view in
    let bytes : AreBytes held = subst AreBytes (sym (ap (λ (w : Buffered). w.bytes) view)) fits in
    let end : b.from + count - b.from ≡ count = omega arith in
    let piece : take count held ≡ slice_range b.bytes b.from (b.from + count) =
    take-take count (b.to - b.from) (drop b.from b.bytes) (omega (arith, is.order, is.run, run)) ∙ ap (λ n. take n (drop b.from b.bytes)) (sym end) in
    record {
      piece = piece;
      bytes = subst AreBytes piece (AreBytes-take count held bytes);
      size = ap length (sym piece) ∙ length-take-le count held (omega (arith, order, run));
      within = omega (arith, is.order, run);
    }
