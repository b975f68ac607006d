-- Runs that come to a receiver piece by piece and are read item by item, whatever is made of the items.
use Rattle.std.proofs.Common.{◌≡◌, ℕ, ◌+◌, ◌-◌, ◌<◌, ◌≤◌, ◌==◌, ◌&&◌, not, Bool, true, false, List, [], ◌∷◌, ◌++◌, length, take, drop, Some, None, refl, sym, subst, ap, ◌∙◌, arith, append_assoc, append-nil, length-drop, take-append-drop}
use Rattle.std.proofs.Math.Seq.{drop-drop}
use Rattle.osdp_frame_laws.proofs.Common.{drop_all, take_all, AreBytes, Held, after_advance, after_first, after_gap, after_push, decided, later, taken_count, RunItem, item_size, total_size, IsReading, IsAllRead, IsReceived, Received, ends_run, AreBytes-append, AreBytes-drop}
use Rattle.osdp_frame.specs.Items.{items, left_over, rest_of}
use Rattle.osdp_frame_laws.proofs.LeftOver.{gap_items, left_nothing, left_over-append, left_same, some_ended, takes_some, takes_within}
use Rattle.osdp_frame_laws.proofs.OneByOne.{items_after, items_on}
use Rattle.osdp_frame_laws.proofs.Readings.{items_undecided, items-append, is_reading}

-- ---- item by item

left_after : (bytes : List ℕ) (part : RunItem) → decided false bytes ≡ Some part → left_over (drop (item_size part) bytes) ≡ left_over bytes
unfolding left_over
left_after bytes part is =
    drop-drop (total_size (items false (drop (item_size part) bytes))) (item_size part) bytes
    ∙ ap (λ parts. drop (total_size parts) bytes) (sym (items_after false bytes part is))

rest_ended : (rest : List ℕ) → rest_of (true && not (length rest == 0)) rest ≡ []
rest_ended [] = left_nothing
rest_ended (b ∷ rest) = ap (λ e. rest_of (true && e) (b ∷ rest)) (some_ended b rest)

rest_after : (ended : Bool) (bytes : List ℕ) (part : RunItem) → decided ended bytes ≡ Some part
    → rest_of (ended && not (length (drop (item_size part) bytes) == 0)) (drop (item_size part) bytes) ≡ rest_of ended bytes
rest_after true bytes part is = rest_ended (drop (item_size part) bytes)
rest_after false bytes part is = left_after bytes part is

-- an item was taken off: the others leave what all of them do
pub item_leaves : (l m : Received) (part : RunItem) → decided l.held.ended l.held.bytes ≡ Some part → m ≡ record l { held = after_advance l.held }
    → rest_of m.held.ended m.held.bytes ≡ rest_of l.held.ended l.held.bytes
item_leaves l m part is advanced =
    ap (λ (x : Received). rest_of x.held.ended x.held.bytes) advanced ∙ ap (λ o. rest_of (after_first l.held o).ended (after_first l.held o).bytes) is
    ∙ rest_after l.held.ended l.held.bytes part is

-- nothing more is decided
pub record NoneLeft (l : Received) : Type 0 where
  pub read : IsAllRead l
  pub items : items l.held.ended l.held.bytes ≡ []
  pub left : l.held.bytes ≡ rest_of l.held.ended l.held.bytes

goes_on : (ended : Bool) (bytes : List ℕ) → AreBytes bytes → (ended ≡ true → 0 < length bytes) → decided ended bytes ≡ None → ended ≡ false
goes_on false bytes fits some none = refl
goes_on true bytes fits some none =
    let nil : bytes ≡ [] = subst (λ l. IsReading bytes l) (items_undecided true bytes none) (is_reading bytes fits) in
    absurd (let more = some refl in let l = ap length nil in omega arith)

pub none_left : (l : Received) → IsReceived l → decided l.held.ended l.held.bytes ≡ None → NoneLeft l
none_left l is none =
    let on : l.held.ended ≡ false = goes_on l.held.ended l.held.bytes is.bytes is.some none in
    let undecided : decided false l.held.bytes ≡ None = sym (ap (λ e. decided e l.held.bytes) on) ∙ none in
    record {
      read = record { goes_on = on; undecided = undecided };
      items = items_undecided l.held.ended l.held.bytes none;
      left = sym (left_same l.held.bytes undecided) ∙ sym (ap (λ e. rest_of e l.held.bytes) on);
    }

-- a run is over: its items are those of its reading, and nothing is left of it
pub over_items : (l m : Received) → m ≡ ends_run l → items m.held.ended m.held.bytes ≡ items true l.held.bytes
over_items l m ends = ap (λ (x : Received). items x.held.ended x.held.bytes) ends ∙ gap_items l.held.bytes

pub over_leaves : (l m : Received) → m ≡ ends_run l → rest_of m.held.ended m.held.bytes ≡ []
over_leaves l m ends = ap (λ (x : Received). rest_of x.held.ended x.held.bytes) ends ∙ rest_ended l.held.bytes

-- ---- piece by piece

-- a piece was pushed and its items read: what it decides, and then what the rest does, is what all of it does
pub record PieceTaken (bytes : List ℕ) (at count : ℕ) (l pushed m : Received) : Type 0 where
  pub within : at + count ≤ length bytes
  pub items : items false (l.held.bytes ++ drop at bytes) ≡ items pushed.held.ended pushed.held.bytes ++ items false (m.held.bytes ++ drop (at + count) bytes)
  pub left : left_over (m.held.bytes ++ drop (at + count) bytes) ≡ left_over (l.held.bytes ++ drop at bytes)

rest_is : (at : ℕ) (bytes : List ℕ) → take (length bytes - at) (drop at bytes) ≡ drop at bytes
rest_is at bytes = take_all (length bytes - at) (drop at bytes) (omega (arith, length-drop at bytes))

taken : (bytes : List ℕ) (at : ℕ) (l pushed m : Received) → AreBytes bytes → at ≤ length bytes → IsReceived l → IsAllRead l
    → pushed ≡ record l { held = after_push l.held (drop at bytes) } → m.held.bytes ≡ rest_of pushed.held.ended pushed.held.bytes
    → PieceTaken bytes at (taken_count l.held (drop at bytes)) l pushed m
taken bytes at l pushed m fits inside is read pushes lefts =
    let rest = drop at bytes in
    let count = taken_count l.held rest in
    let b1 = l.held.bytes ++ take count rest in
    let after : drop (at + count) bytes ≡ drop count rest = sym (drop-drop count at bytes) in
    let pushed_is : pushed.held ≡ record { bytes = b1; ended = false } =
    ap (λ (x : Received). x.held) pushes ∙ ap (λ (e : Bool). record { bytes = b1; ended = e }) read.goes_on in
    let rest_fits : AreBytes rest = AreBytes-drop at bytes fits in
    let whole : l.held.bytes ++ rest ≡ b1 ++ drop count rest =
    ap (λ x. l.held.bytes ++ x) (sym (take-append-drop count rest)) ∙ sym (append_assoc l.held.bytes (take count rest) (drop count rest)) in
    let all_fits : AreBytes (b1 ++ drop count rest) = subst AreBytes whole (AreBytes-append l.held.bytes rest is.bytes rest_fits) in
    let next_bytes : m.held.bytes ≡ left_over b1 = lefts ∙ ap (λ (h : Held). rest_of h.ended h.bytes) pushed_is in
    let there : m.held.bytes ++ drop (at + count) bytes ≡ left_over b1 ++ drop count rest =
    ap (λ x. x ++ drop (at + count) bytes) next_bytes ∙ ap (λ x. left_over b1 ++ x) after in
    let short = takes_within l.held rest in
    record {
      within = omega (arith, short, length-drop at bytes, inside);
      items = ap (items false) whole ∙ items-append false b1 (drop count rest) all_fits
          ∙ ap (λ (h : Held). items h.ended h.bytes ++ items false (left_over b1 ++ drop count rest)) (sym pushed_is)
          ∙ ap (λ (x : List ℕ). items pushed.held.ended pushed.held.bytes ++ items false x) (sym there);
      left = ap left_over there ∙ sym (left_over-append b1 (drop count rest) all_fits) ∙ ap left_over (sym whole);
    }

-- .. as a loop over the bytes hands it over
pub piece_taken : (bytes : List ℕ) (at count : ℕ) (l pushed m : Received) → AreBytes bytes → at ≤ length bytes → IsReceived l → IsAllRead l
    → count ≡ taken_count l.held (take (length bytes - at) (drop at bytes))
    → pushed ≡ record l { held = after_push l.held (take (length bytes - at) (drop at bytes)) }
    → m.held.bytes ≡ rest_of pushed.held.ended pushed.held.bytes → PieceTaken bytes at count l pushed m
piece_taken bytes at count l pushed m fits inside is read counts pushes lefts =
    subst (λ n. PieceTaken bytes at n l pushed m) (sym (counts ∙ ap (taken_count l.held) (rest_is at bytes)))
    (taken bytes at l pushed m fits inside is read
    (pushes ∙ ap (λ (x : List ℕ). record l { held = after_push l.held x }) (rest_is at bytes)) lefts)

-- something of it was taken
pub piece_some : (bytes : List ℕ) (at count : ℕ) (l : Received) → IsAllRead l → at < length bytes
    → count ≡ taken_count l.held (take (length bytes - at) (drop at bytes)) → 0 < count
piece_some bytes at count l read inside counts =
    let some : 0 < length (drop at bytes) = omega (arith, length-drop at bytes) in
    let takes = takes_some l.held (drop at bytes) read.goes_on read.undecided some in
    let counted : count ≡ taken_count l.held (drop at bytes) = counts ∙ ap (taken_count l.held) (rest_is at bytes) in
    omega (arith, takes, counted)

-- nothing is left to push
pub record AllTaken (bytes : List ℕ) (at : ℕ) (l : Received) : Type 0 where
  pub items : items false (l.held.bytes ++ drop at bytes) ≡ []
  pub left : left_over (l.held.bytes ++ drop at bytes) ≡ l.held.bytes

pub all_taken : (bytes : List ℕ) (at : ℕ) (l : Received) → IsAllRead l → length bytes ≤ at → AllTaken bytes at l
all_taken bytes at l read past =
    let bytes_are : l.held.bytes ++ drop at bytes ≡ l.held.bytes =
    ap (λ x. l.held.bytes ++ x) (drop_all at bytes past) ∙ append-nil l.held.bytes in
    record {
      items = ap (items false) bytes_are ∙ items_undecided false l.held.bytes read.undecided;
      left = ap left_over bytes_are ∙ left_same l.held.bytes read.undecided;
    }

-- ---- whatever is made of the items, as long as it is made of one after the other

module _ {S : Type 0} (reads : List RunItem → S → S) (splits : (xs ys : List RunItem) (s : S) → reads (xs ++ ys) s ≡ reads ys (reads xs s)) where
  pub item_read : (l m : Received) (part : RunItem) (s t : S) → decided l.held.ended l.held.bytes ≡ Some part
      → m ≡ record l { held = after_advance l.held } → t ≡ reads (part ∷ []) s
      → reads (items m.held.ended m.held.bytes) t ≡ reads (items l.held.ended l.held.bytes) s
  item_read l m part s t is advanced makes =
      let after = after_advance l.held in
      ap (λ (x : Received). reads (items x.held.ended x.held.bytes) t) advanced ∙ ap (reads (items after.ended after.bytes)) makes
      ∙ sym (splits (part ∷ []) (items after.ended after.bytes) s) ∙ sym (ap (λ parts. reads parts s) (items_on l.held part is))

  pub piece_read : (bytes : List ℕ) (at count : ℕ) (l pushed m : Received) (s t : S) → PieceTaken bytes at count l pushed m
      → t ≡ reads (items pushed.held.ended pushed.held.bytes) s
      → reads (items false (m.held.bytes ++ drop (at + count) bytes)) t ≡ reads (items false (l.held.bytes ++ drop at bytes)) s
  piece_read bytes at count l pushed m s t takes makes =
      let xs = items pushed.held.ended pushed.held.bytes in
      let ys = items false (m.held.bytes ++ drop (at + count) bytes) in
      ap (reads ys) makes ∙ sym (splits xs ys s) ∙ sym (ap (λ parts. reads parts s) takes.items)
