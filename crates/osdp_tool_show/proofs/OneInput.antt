-- The full text of an input is that of its runs alone.
use Rattle.osdp_tool_show.proofs.Common.{◌≡◌, ℕ, ◌+◌, ◌<◌, ◌≤◌, ◌^◌, ◌==◌, cond, not, Bool, true, false, List, [], ◌∷◌, ◌++◌, length, get_or, take, drop, refl, sym, ap, subst, ◌∙◌, arith, append_assoc, append-nil, length-append, eqb-true, take-append_seam, AllByRecursion, concat, AreBytes, Packet, packet_length, spelling, start_of_message, AreBytes-drop, sizes_reading, Form, Raw, runs_of, with_bytes, runs_short, Full, item_line, IsItem, no_tally, runs_lines, shown, AreReadings, HasRuns, TellsRuns, items_text, readings_text}
use Rattle.std.proofs.lemmas.List.{append_cancel_right, nil_from_length, take-append-drop}
use Rattle.osdp_frame.specs.Reading.{RunItem, PacketItem, SkippedItem, RefusedItem, Begins, Stands, IsReading, item_size, total_size}
use Rattle.osdp_frame.proofs.Spelled.{length-spelled, spelled_is}
use Rattle.osdp_tool_show.proofs.OneLine.{next_line, some_line}
use Rattle.osdp_tool_show.proofs.Readings.{HasBytes, runs_are, runs_have_bytes, shown_is, some_readings}

-- ---- a reading is that of one run

-- an item stands first as its own bytes
spelled_front : (p : Packet) (rest : List ℕ) → Begins p rest → take (packet_length p) rest ≡ spelling p
spelled_front p rest b =
    ap (λ (n : ℕ). take n rest) (sym (length-spelled p b.bytes b.spelled)) ∙ ap (take (length b.bytes)) b.parts
    ∙ take-append_seam b.bytes b.after ∙ spelled_is p b.bytes b.spelled

one_rest : (part : RunItem) (rest other : List ℕ) → Stands rest part → Stands other part
    → drop (item_size part) rest ≡ drop (item_size part) other → rest ≡ other
one_rest (PacketItem p) rest other s t e =
    sym (take-append-drop (packet_length p) rest)
    ∙ ap (λ l. l ++ drop (packet_length p) rest) (spelled_front p rest s ∙ sym (spelled_front p other t))
    ∙ ap (λ l. take (packet_length p) other ++ l) e ∙ take-append-drop (packet_length p) other
one_rest (SkippedItem b) rest other s t e =
    s.1 ∙ ap (λ l. b ∷ l) (sym (ap (drop 1) s.1) ∙ e ∙ ap (drop 1) t.1) ∙ sym t.1
one_rest (RefusedItem fault) rest other s t e =
    s.1 ∙ ap (λ l. start_of_message ∷ l) (sym (ap (drop 1) s.1) ∙ e ∙ ap (drop 1) t.1) ∙ sym t.1

one_run : (parts : List RunItem) (rest other : List ℕ) → IsReading rest parts → IsReading other parts → rest ≡ other
one_run [] rest other r s = r ∙ sym s
one_run (part ∷ parts) rest other r s =
    one_rest part rest other r.0 s.0 (one_run parts (drop (item_size part) rest) (drop (item_size part) other) r.1 s.1)

one_runs : (readings : List (List RunItem)) (runs others : List (List ℕ)) → AreReadings runs readings
    → AreReadings others readings → runs ≡ others
one_runs [] [] [] r s = refl
one_runs [] [] (other ∷ others) r s = absurd s
one_runs [] (run ∷ runs) others r s = absurd r
one_runs (parts ∷ readings) [] others r s = absurd r
one_runs (parts ∷ readings) (run ∷ runs) [] r s = absurd s
one_runs (parts ∷ readings) (run ∷ runs) (other ∷ others) r s =
    let first = one_run parts run other r.0 s.0 in
    let rest = one_runs readings runs others r.1 s.1 in
    λ i. first i ∷ rest i

-- ---- items of a reading

item_fits : (part : RunItem) (rest : List ℕ) → AreBytes rest → Stands rest part → IsItem part
item_fits (PacketItem p) rest fits s = s.spelled.fits
item_fits (SkippedItem b) rest fits s = let first = ap (λ l. get_or l 0 0) s.1 in omega (arith, fits 0)
item_fits (RefusedItem fault) rest fits s = tt

items_fit : (parts : List RunItem) (rest : List ℕ) → AreBytes rest → IsReading rest parts → AllByRecursion IsItem parts
items_fit [] rest fits r = tt
items_fit (part ∷ parts) rest fits r =
    (item_fits part rest fits r.0, items_fit parts (drop (item_size part) rest) (AreBytes-drop (item_size part) rest fits) r.1)

-- a reading whose places are numbers of 64 bits
record Fits (parts : List RunItem) : Type 0 where
  items : AllByRecursion IsItem parts
  some : 0 < length parts
  size : total_size parts < 2 ^ 64

reading_fits : (run : List ℕ) (parts : List RunItem) → HasBytes run → length run < 2 ^ 64 → IsReading run parts → Fits parts
reading_fits run [] has short r = let none = ap length r in let some = has.0 in absurd (omega arith)
reading_fits run (part ∷ parts) has short r =
    let sizes = sizes_reading run (part ∷ parts) r in
    record { items = items_fit (part ∷ parts) run has.1 r; some = omega arith; size = omega arith }

readings_fit : (runs : List (List ℕ)) (readings : List (List RunItem)) → AllByRecursion HasBytes runs
    → length (concat runs) < 2 ^ 64 → AreReadings runs readings
    → AllByRecursion Fits readings × (length readings ≤ length (concat runs))
readings_fit [] [] has short r = (tt, omega arith)
readings_fit [] (parts ∷ readings) has short r = absurd r
readings_fit (run ∷ runs) [] has short r = absurd r
readings_fit (run ∷ runs) (parts ∷ readings) has short r =
    let whole = length-append run (concat runs) in
    let some = has.0.0 in
    let rest = readings_fit runs readings has.1 (omega arith) r.1 in
    ((reading_fits run parts has.0 (omega arith) r.0, rest.0), omega (arith, rest.1))

-- ---- texts of readings

-- no line where another run begins
other_run : (run place : ℕ) (item : RunItem) (readings : List (List RunItem)) (back : List ℕ) → run + length readings < 2 ^ 64
    → place < 2 ^ 64 → IsItem item → AllByRecursion Fits readings
    → readings_text Full (run + 1) readings ≡ item_line run place item ++ back → ⊥
other_run run place item [] back room low h k e =
    let none = ap length e in omega (arith, some_line run place item, length-append (item_line run place item) back)
other_run run place item ([] ∷ readings) back room low h k e = let some = k.0.some in omega arith
other_run run place item ((part ∷ parts) ∷ readings) back room low h k e =
    let first = append_assoc (item_line (run + 1) 0 part) (items_text Full (run + 1) (0 + item_size part) parts)
    (readings_text Full (run + 1 + 1) readings) in
    let same = next_line (run + 1) 0 run place part item _ back (omega arith) (omega arith) (omega arith) low k.0.items.0 h
    (sym first ∙ e) in
    omega (arith, same.0)

same_items : (run place : ℕ) (xs ys : List RunItem) (rs ss : List (List RunItem)) → run + length rs < 2 ^ 64 → run + length ss < 2 ^ 64
    → place + total_size xs < 2 ^ 64 → place + total_size ys < 2 ^ 64 → AllByRecursion IsItem xs → AllByRecursion IsItem ys
    → AllByRecursion Fits rs → AllByRecursion Fits ss
    → (readings_text Full (run + 1) rs ≡ readings_text Full (run + 1) ss → rs ≡ ss)
    → items_text Full run place xs ++ readings_text Full (run + 1) rs
    ≡ items_text Full run place ys ++ readings_text Full (run + 1) ss → (xs ≡ ys) × (rs ≡ ss)
same_items run place [] [] rs ss room more low short hx hy hr hs rest e = (refl, rest e)
same_items run place [] (y ∷ ys) rs ss room more low short hx hy hr hs rest e =
    absurd (other_run run place y rs _ room (omega arith) hy.0 hr
    (e ∙ append_assoc (item_line run place y) (items_text Full run (place + item_size y) ys)
    (readings_text Full (run + 1) ss)))
same_items run place (x ∷ xs) [] rs ss room more low short hx hy hr hs rest e =
    absurd (other_run run place x ss _ more (omega arith) hx.0 hs
    (sym e ∙ append_assoc (item_line run place x) (items_text Full run (place + item_size x) xs)
    (readings_text Full (run + 1) rs)))
same_items run place (x ∷ xs) (y ∷ ys) rs ss room more low short hx hy hr hs rest e =
    let first = append_assoc (item_line run place x) (items_text Full run (place + item_size x) xs)
    (readings_text Full (run + 1) rs) in
    let second = append_assoc (item_line run place y) (items_text Full run (place + item_size y) ys)
    (readings_text Full (run + 1) ss) in
    let line = next_line run place run place x y _ _ (omega arith) (omega arith) (omega arith) (omega arith) hx.0 hy.0
    (sym first ∙ e ∙ second) in
    let size = ap item_size line.2 in
    let later = line.3 ∙ ap (λ (n : ℕ). items_text Full run (place + n) ys ++ readings_text Full (run + 1) ss) (sym size) in
    let more_items = same_items run (place + item_size x) xs ys rs ss room more (omega arith) (omega arith) hx.1 hy.1 hr hs
    rest later in
    ((λ i. line.2 i ∷ more_items.0 i), more_items.1)

-- an item has a line
some_text : (run : ℕ) (x : RunItem) (xs : List RunItem) (rs : List (List RunItem)) → readings_text Full run ((x ∷ xs) ∷ rs) ≡ [] → ⊥
some_text run x xs rs e = omega (
  arith,
  ap length e,
  some_line run 0 x,
  length-append (item_line run 0 x) (items_text Full run (0 + item_size x) xs),
  length-append (items_text Full run 0 (x ∷ xs)) (readings_text Full (run + 1) rs),
)

same_readings : (run : ℕ) (rs ss : List (List RunItem)) → run + length rs ≤ 2 ^ 64 → run + length ss ≤ 2 ^ 64
    → AllByRecursion Fits rs → AllByRecursion Fits ss
    → readings_text Full run rs ≡ readings_text Full run ss → rs ≡ ss
same_readings run [] [] room more hr hs e = refl
same_readings run [] ([] ∷ ss) room more hr hs e = let some = hs.0.some in absurd (omega arith)
same_readings run ([] ∷ rs) ss room more hr hs e = let some = hr.0.some in absurd (omega arith)
same_readings run [] ((y ∷ ys) ∷ ss) room more hr hs e = absurd (some_text run y ys ss (sym e))
same_readings run ((x ∷ xs) ∷ rs) [] room more hr hs e = absurd (some_text run x xs rs e)
same_readings run (xs ∷ rs) (ys ∷ ss) room more hr hs e =
    let size = hr.0.size in
    let other = hs.0.size in
    let same = same_items run 0 xs ys rs ss (omega arith) (omega arith) (omega arith) (omega arith) hr.0.items hs.0.items
    hr.1 hs.1
    (same_readings (run + 1) rs ss (omega arith) (omega arith) hr.1 hs.1) e in
    λ i. same.0 i ∷ same.1 i

-- ---- inputs

same_runs : (form other : Form) (a b : List ℕ) (runs others : List (List ℕ)) → AreBytes a → AreBytes b → length a < 2 ^ 64
    → length b < 2 ^ 64
    → HasRuns form a runs → HasRuns other b others → shown Full form a ≡ shown Full other b → runs ≡ others
same_runs form other a b runs others fits more short low has have e =
    let is = runs_are form a runs has in
    let are = runs_are other b others have in
    let first = some_readings form a fits in
    let second = some_readings other b more in
    let runs_first = runs_are form a first.0 first.2 in
    let runs_second = runs_are other b second.0 second.2 in
    let r = subst (λ l. AreReadings l first.1) runs_first first.3 in
    let s = subst (λ l. AreReadings l second.1) runs_second second.3 in
    let text = shown_is Full form a first.0 first.1 fits first.2 first.3 in
    let other_text = shown_is Full other b second.0 second.1 more second.2 second.3 in
    let same_text : readings_text Full 1 first.1 ≡ readings_text Full 1 second.1 =
    append_cancel_right (readings_text Full 1 first.1) (readings_text Full 1 second.1) [] (sym text ∙ e ∙ other_text) in
    let length_a = runs_short form a in
    let length_b = runs_short other b in
    let f = readings_fit (runs_of form a) first.1 (runs_have_bytes form a fits) (omega arith) r in
    let g = readings_fit (runs_of other b) second.1 (runs_have_bytes other b more) (omega arith) s in
    let same = same_readings 1 first.1 second.1 (omega (arith, f.1)) (omega (arith, g.1)) f.0 g.0 same_text in
    is ∙ one_runs second.1 (runs_of form a) (runs_of other b) (subst (λ l. AreReadings (runs_of form a) l) same r) s ∙ sym are

same_shown : (form other : Form) (a b : List ℕ) (runs others : List (List ℕ)) → HasRuns form a runs → HasRuns other b others
    → runs ≡ others → shown Full form a ≡ shown Full other b
same_shown form other a b runs others has have e =
    let is = sym (runs_are form a runs has) ∙ e ∙ runs_are other b others have in
    ap (λ l. runs_lines Full no_tally l ++ []) is

-- raw bytes are those of their run
one_raw : (bytes : List ℕ) → concat (with_bytes (bytes ∷ [])) ≡ bytes
one_raw bytes = go (length bytes == 0) refl
  where
    go : (none : Bool) → (length bytes == 0) ≡ none → concat (cond (not none) (bytes ∷ []) []) ≡ bytes
    go true is = sym (nil_from_length bytes (eqb-true (length bytes) 0 is))
    go false is = append-nil bytes

pub tells_runs : TellsRuns
tells_runs = record {
  runs = λ form other a b runs others fits more short low has have. (
    same_runs form other a b runs others fits more short low has have,
    same_shown form other a b runs others has have,
  );
  raw = λ a b fits more short low e. sym (one_raw a)
      ∙ ap concat (same_runs Raw Raw a b (with_bytes (a ∷ [])) (with_bytes (b ∷ [])) fits more short low refl refl e) ∙ one_raw b;
}
