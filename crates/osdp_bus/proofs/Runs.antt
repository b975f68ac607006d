-- The devices of a bus hear the items of a run one after the other.
use Rattle.osdp_bus.proofs.Common.{◌≡◌, ℕ, ◌+◌, ◌-◌, ◌==◌, ◌≤◌, ◌<◌, List, [], ◌∷◌, ◌++◌, true, false, Option, Some, None, length, take, drop, refl, sym, ap, ◌∙◌, arith, length-drop, subst, take_all, Held, after_advance, after_first, after_push, by_itself, decided, later, taken_count, items, left_over, rest_of, IsAllRead, IsReceived, Received, run_ends, PieceTaken, item_leaves, item_read, over_items, over_leaves, piece_read, piece_some, piece_taken, items_nothing, some_ended, BusState, Devices, ends_run, hears_item, hears_items, ReadsHead}
use Rattle.std.proofs.Math.Seq.{drop-drop}
use Rattle.osdp_frame.specs.Bytes.{AreBytes}
use Rattle.osdp_frame.specs.Reading.{RunItem, PacketItem, SkippedItem, RefusedItem, item_size}
use Rattle.osdp_frame_laws.proofs.Readings.{item_size-decided}

pub hears_items-append : (now : ℕ) (xs ys : List RunItem) (ds : Devices) → hears_items now (xs ++ ys) ds ≡ hears_items now ys (hears_items now xs ds)
hears_items-append now [] ys ds = refl
hears_items-append now (x ∷ xs) ys ds = hears_items-append now xs ys (hears_item now x ds)

-- a bus and what has come on its line
abbrev with_line : BusState → Received → BusState
with_line b l = record b { held = l.held.bytes; last = l.last; greatest = l.greatest }

-- the run of a bus is over
pub run_over : (b : BusState) (l gapped m : Received) (now : ℕ) (next_ds : Devices) → gapped ≡ run_ends l → now ≡ gapped.greatest
    → next_ds ≡ hears_items now (items gapped.held.ended gapped.held.bytes) b.devices → ◌≡◌ {A = Received} m (record gapped { held = m.held })
    → m.held.bytes ≡ rest_of gapped.held.ended gapped.held.bytes
    → record (with_line b m) { devices = next_ds } ≡ ends_run (with_line b l)
run_over b l gapped m now next_ds ends is_now hears reads lefts =
    let last : m.last ≡ l.last = ap (λ (x : Received). x.last) reads ∙ ap (λ (x : Received). x.last) ends in
    let greatest : m.greatest ≡ l.greatest = ap (λ (x : Received). x.greatest) reads ∙ ap (λ (x : Received). x.greatest) ends in
    let moment : now ≡ l.greatest = is_now ∙ ap (λ (x : Received). x.greatest) ends in
    let heard : next_ds ≡ hears_items l.greatest (items true l.held.bytes) b.devices =
    hears ∙ ap (λ n. hears_items n (items gapped.held.ended gapped.held.bytes) b.devices) moment
    ∙ ap (λ parts. hears_items l.greatest parts b.devices) (over_items l gapped ends) in
    let nothing : m.held.bytes ≡ [] = lefts ∙ over_leaves l gapped ends in
    (λ i. record b { devices = heard i; held = nothing i; last = last i; greatest = greatest i })

-- no byte is held
empty : (bytes : List ℕ) → (length bytes == 0) ≡ true → bytes ≡ []
empty [] none = refl
empty (b ∷ bytes) none = absurd (let some = some_ended b bytes in cc)

-- .. so nothing comes of its end
pub over_nothing : (b : BusState) → (length b.held == 0) ≡ true → b ≡ ends_run b
over_nothing b none =
    let nothing : b.held ≡ [] = empty b.held none in
    let items_are : items true b.held ≡ [] = ap (items true) nothing ∙ items_nothing true in
    (λ i. record b { held = nothing i }) ∙ sym (λ i. record b { devices = hears_items b.greatest (items_are i) b.devices; held = [] })

-- ---- what stands at the head of bytes is read by itself

-- .. where it lies: nothing was held
decided_as : (first : Option RunItem) (part : RunItem) → by_itself first ≡ Some part → first ≡ Some part
decided_as None part is = absurd cc
decided_as (Some (PacketItem p)) part is = is
decided_as (Some (SkippedItem byte)) part is = is
decided_as (Some (RefusedItem fault)) part is = absurd cc

whole_decided : (bytes : List ℕ) (part : RunItem) → by_itself (decided false bytes) ≡ Some part → decided false bytes ≡ Some part
whole_decided bytes part is = decided_as (decided false bytes) part is

pub head_whole : (bytes : List ℕ) (part : RunItem) (l : Received) (now : ℕ) (ds heard : Devices) → AreBytes bytes → (length l.held.bytes == 0) ≡ true
    → by_itself (decided false bytes) ≡ Some part → heard ≡ hears_item now part ds → ReadsHead bytes (item_size part) l l now ds heard
head_whole bytes part l now ds heard fits none own hears =
    let is : decided false bytes ≡ Some part = whole_decided bytes part own in
    let before : Received = record l { held = record { bytes = bytes; ended = false } } in
    let after : Received = record l { held = after_advance before.held } in
    let next : after.held ≡ later before.held part = ap (after_first before.held) is in
    let nothing : l.held.bytes ≡ [] = empty l.held.bytes none in
    let rest = drop (item_size part) bytes in
    record {
      within = item_size-decided false bytes part fits is;
      heard =
          ap (λ (x : List ℕ). hears_items now (items false (x ++ rest)) heard) nothing
          ∙ sym (ap (λ (h : Held). hears_items now (items h.ended h.bytes) heard) next)
          ∙ item_read (hears_items now) (hears_items-append now) before after part ds heard is refl hears
          ∙ sym (ap (λ (x : List ℕ). hears_items now (items false (x ++ bytes)) ds) nothing);
      left =
          ap (λ (x : List ℕ). left_over (x ++ rest)) nothing ∙ sym (ap (λ (h : Held). rest_of h.ended h.bytes) next)
          ∙ item_leaves before after part is refl ∙ sym (ap (λ (x : List ℕ). left_over (x ++ bytes)) nothing);
    }

-- .. or nothing of it is
pub head_none : (bytes : List ℕ) (l : Received) (now : ℕ) (ds : Devices) → ReadsHead bytes 0 l l now ds ds
head_none bytes l now ds = record { within = omega arith; heard = refl; left = refl }

-- .. or once it is held
all_of : (bytes : List ℕ) → take (length bytes - 0) (drop 0 bytes) ≡ bytes
all_of bytes = take_all (length bytes - 0) bytes (omega arith)

pub head_some : (bytes : List ℕ) (count : ℕ) (l : Received) → IsAllRead l → 0 < length bytes → count ≡ taken_count l.held bytes → 0 < count
head_some bytes count l read some counts = piece_some bytes 0 count l read some (counts ∙ ap (taken_count l.held) (sym (all_of bytes)))

pub head_held : (bytes : List ℕ) (count : ℕ) (l pushed m : Received) (now : ℕ) (ds heard : Devices) → AreBytes bytes → IsReceived l → IsAllRead l
    → count ≡ taken_count l.held bytes → pushed ≡ record l { held = after_push l.held bytes } → m.held.bytes ≡ rest_of pushed.held.ended pushed.held.bytes
    → heard ≡ hears_items now (items pushed.held.ended pushed.held.bytes) ds → ReadsHead bytes count l m now ds heard
head_held bytes count l pushed m now ds heard fits is read counts pushes lefts hears =
    let all = sym (all_of bytes) in
    let takes : PieceTaken bytes 0 count l pushed m =
    piece_taken bytes 0 count l pushed m fits (omega arith) is read (counts ∙ ap (taken_count l.held) all)
    (pushes ∙ ap (λ (x : List ℕ). record l { held = after_push l.held x }) all) lefts in
    let counted : 0 + count ≡ count = omega arith in
    record {
      within = omega (arith, takes.within);
      heard =
          sym (ap (λ n. hears_items now (items false (m.held.bytes ++ drop n bytes)) heard) counted)
          ∙ piece_read (hears_items now) (hears_items-append now) bytes 0 count l pushed m ds heard takes hears;
      left = sym (ap (λ n. left_over (m.held.bytes ++ drop n bytes)) counted) ∙ takes.left;
    }

-- .. by itself, after nothing of it was read
pub head_after : (bytes : List ℕ) (none count : ℕ) (l m : Received) (now : ℕ) (ds heard es : Devices) → none ≡ 0 → ReadsHead bytes none l l now ds heard
    → ReadsHead bytes count l m now heard es → ReadsHead bytes count l m now ds es
head_after bytes none count l m now ds heard es is before reads =
    let nothing : ReadsHead bytes 0 l l now ds heard = subst (λ n. ReadsHead bytes n l l now ds heard) is before in
    record { within = reads.within; heard = reads.heard ∙ nothing.heard; left = reads.left }

-- so the head of what is left of bytes is read
pub record HeadRead (bytes : List ℕ) (at count : ℕ) (l m : Received) (now : ℕ) (ds es : Devices) : Type 0 where
  pub within : at + count ≤ length bytes
  pub heard : hears_items now (items false (m.held.bytes ++ drop (at + count) bytes)) es ≡ hears_items now (items false (l.held.bytes ++ drop at bytes)) ds
  pub left : left_over (m.held.bytes ++ drop (at + count) bytes) ≡ left_over (l.held.bytes ++ drop at bytes)

pub head_read : (bytes : List ℕ) (at count : ℕ) (l m : Received) (now : ℕ) (ds heard : Devices) → at ≤ length bytes
    → ReadsHead (take (length bytes - at) (drop at bytes)) count l m now ds heard → HeadRead bytes at count l m now ds heard
head_read bytes at count l m now ds heard inside reads =
    let rest : take (length bytes - at) (drop at bytes) ≡ drop at bytes = take_all (length bytes - at) (drop at bytes) (omega (arith, length-drop at bytes)) in
    let here : ReadsHead (drop at bytes) count l m now ds heard = subst (λ (x : List ℕ). ReadsHead x count l m now ds heard) rest reads in
    let after : drop count (drop at bytes) ≡ drop (at + count) bytes = drop-drop count at bytes in
    record {
      within = omega (arith, here.within, length-drop at bytes, inside);
      heard = sym (ap (λ (x : List ℕ). hears_items now (items false (m.held.bytes ++ x)) heard) after) ∙ here.heard;
      left = sym (ap (λ (x : List ℕ). left_over (m.held.bytes ++ x)) after) ∙ here.left;
    }
