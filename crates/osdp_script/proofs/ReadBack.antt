-- A script that was read is read back from its text.
use Rattle.std.proofs.Common.{◌≡◌, ◌≢◌, ◌≤◌, ℕ, List, [], ◌∷◌, ◌++◌, length, map, inl, inr, Option, Some, refl, sym, ap, subst, ◌∙◌, append_assoc, append-nil, length-append, arith}
use Rattle.osdp_script.proofs.Common.{All, AllByRecursion, flat_map, map-append, All-append, All-cons, All-head, All-nil, All-tail, CheckKind, IsLine, ended_lines, last_line, line_feed, lines_of, ended_lines-cut, Script, ScriptLine, Check, Reader, Step, Clean, IsSetting, LineFits, StepFits, AreRead, IsFree, IsInPlace, IsRead, IsScriptOf, Plan, no_plan, with_line, AreApart, AreReaders}
use Rattle.osdp_script.proofs.InTurn.{read_in_turn}
use Rattle.osdp_script.proofs.Settings.{readers_named}
use Rattle.osdp_script.specs.Printed.{ReadsBack, line_text, reader_line, script_lines, script_text}
use Rattle.osdp_script.proofs.OneScript.{one_meaning}
use Rattle.osdp_script.proofs.PrintedLine.{is_line, is_read, plain_text}

-- ---- what was read

-- a line that stands below those of so many readers
StandsBelow : ℕ → ScriptLine → Type 0
StandsBelow readers (Check kind) = ⊥
StandsBelow readers (Reader address room) = ⊥
StandsBelow readers (Step step) = StepFits readers step
StandsBelow readers (Clean n) = (n ≤ 1000) × (readers ≡ 1)

AllBelow : Plan → Type 0
AllBelow p = All (StandsBelow (length p.readers)) p.below

one : (P : ScriptLine → Type 0) (line : ScriptLine) → P line → All P (line ∷ [])
one P line h = All-cons P line [] h (All-nil P)

line_below : (p : Plan) (line : ScriptLine) → LineFits (length p.readers) line → IsInPlace p line → AllBelow p → AllBelow (with_line line p)
unfolding AllBelow StandsBelow
line_below p (Check kind) fits place h = h
line_below p (Reader address room) fits place h =
    let Below : ScriptLine → Type 0 = StandsBelow (length (p.readers ++ (address, room) ∷ [])) in
    subst (λ (lines : List ScriptLine). All Below lines) (sym place.before) (All-nil Below)
line_below p (Step step) fits place h =
    let Below : ScriptLine → Type 0 = StandsBelow (length p.readers) in
    All-append Below p.below (Step step ∷ []) h (one Below (Step step) fits)
line_below p (Clean n) fits place h =
    let Below : ScriptLine → Type 0 = StandsBelow (length p.readers) in
    All-append Below p.below (Clean n ∷ []) h (one Below (Clean n) (fits, place))

read_below : (p : Plan) (line : List ℕ) (q : Plan) → IsRead p line q → AllBelow p → AllBelow q
read_below p line q (inl (over, is)) h = subst AllBelow (sym is) h
read_below p line q (inr (over, told)) h = subst AllBelow (sym told.plan) (line_below p told.line told.says.fits told.says.place h)

all_below : (p : Plan) (lines : List (List ℕ)) (q : Plan) → AreRead p lines q → AllBelow p → AllBelow q
all_below p [] q is h = subst AllBelow (sym is) h
all_below p (line ∷ lines) q (mid, first, rest) h = all_below mid lines q rest (read_below p line mid first h)

none_below : AllBelow no_plan
unfolding AllBelow
none_below = All-nil (StandsBelow 0)

-- ---- the lines are read again

abbrev plan : Option CheckKind → List (ℕ × ℕ) → List ScriptLine → Plan
plan check readers below = record { check = check; readers = readers; below = below }

abbrev Set : ℕ × ℕ → Type 0
Set r = IsSetting r.0 r.1

abbrev texts : List ScriptLine → List (List ℕ)
texts lines = map plain_text lines

-- what holds of all holds of the one between them
between : (P : ℕ × ℕ → Type 0) (front : List (ℕ × ℕ)) (r : ℕ × ℕ) (rest : List (ℕ × ℕ)) → All P (front ++ r ∷ rest) → P r
between P [] r rest h = All-head P r rest h
between P (first ∷ front) r rest h = between P front r rest (All-tail P first (front ++ r ∷ rest) h)

-- a reader's address is free below those of other addresses
free_of : (front : List (ℕ × ℕ)) (r : ℕ × ℕ) (rest : List (ℕ × ℕ)) → AreApart (front ++ r ∷ rest) → IsFree r.0 front
free_of [] r rest h = All-nil (λ (o : ℕ × ℕ). o.0 ≢ r.0)
free_of (first ∷ front) r rest h =
    let Free : ℕ × ℕ → Type 0 = λ o. o.0 ≢ r.0 in
    let differs : Free first = λ same. between (λ (o : ℕ × ℕ). o.0 ≢ first.0) front r rest h.0 (sym same) in
    All-cons Free first front differs (free_of front r rest h.1)

readers_read : (check : Option CheckKind) (front rest : List (ℕ × ℕ)) → length (front ++ rest) ≤ 16 → All Set rest → AreApart (front ++ rest)
    → AreRead (plan check front []) (texts (map reader_line rest)) (plan check (front ++ rest) [])
readers_read check front [] most each apart = ap (λ (readers : List (ℕ × ℕ)). plan check readers []) (append-nil front)
readers_read check front ((address, room) ∷ rest) most each apart =
    let reader : ℕ × ℕ = (address, room) in
    let p = plan check front [] in
    let next = front ++ reader ∷ [] in
    let whole : next ++ rest ≡ front ++ reader ∷ rest = append_assoc front (reader ∷ []) rest in
    let long = length-append front (reader ∷ rest) in
    let more = readers_read check next rest (subst (λ (l : List (ℕ × ℕ)). length l ≤ 16) (sym whole) most) (All-tail Set reader rest each)
    (subst AreApart (sym whole) apart) in (
      with_line (Reader address room) p,
      is_read p (Reader address room) (All-head Set reader rest each) (record { before = refl; limit = omega arith; free = free_of front reader rest apart }),
      subst (λ (readers : List (ℕ × ℕ)). AreRead (plan check next []) (texts (map reader_line rest)) (plan check readers [])) whole more,
    )

below_read : (check : Option CheckKind) (readers : List (ℕ × ℕ)) (front rest : List ScriptLine) → All (StandsBelow (length readers)) rest
    → AreRead (plan check readers front) (texts rest) (plan check readers (front ++ rest))
unfolding StandsBelow
below_read check readers front [] h = ap (λ (below : List ScriptLine). plan check readers below) (append-nil front)
below_read check readers front (line ∷ rest) h =
    let p = plan check readers front in
    let next = front ++ line ∷ [] in
    let stands = All-head (StandsBelow (length readers)) line rest h in
    let first = one_read line stands in
    let more = below_read check readers next rest (All-tail (StandsBelow (length readers)) line rest h) in (
      plan check readers next,
      first,
      subst (λ (below : List ScriptLine). AreRead (plan check readers next) (texts rest) (plan check readers below)) (append_assoc front (line ∷ []) rest) more,
    )
  where
    one_read : (l : ScriptLine) → StandsBelow (length readers) l → IsRead (plan check readers front) (plain_text l) (plan check readers (front ++ l ∷ []))
    one_read (Check kind) s = absurd s
    one_read (Reader address room) s = absurd s
    one_read (Step step) s = is_read (plan check readers front) (Step step) s tt
    one_read (Clean n) s = is_read (plan check readers front) (Clean n) s.0 s.1

-- ---- the text is cut into the lines

cut_text : (lines : List ScriptLine) → flat_map line_text lines ≡ flat_map (λ line. line ++ line_feed ∷ []) (texts lines)
cut_text [] = refl
cut_text (line ∷ lines) = ap (λ (l : List ℕ). line_text line ++ l) (cut_text lines)

lines_again : (lines : List ScriptLine) → AllByRecursion IsLine (texts lines) → lines_of (flat_map line_text lines) ≡ texts lines
lines_again lines each =
    let bytes = flat_map line_text lines in
    let cut = ended_lines-cut bytes (texts lines) [] each tt
    (cut_text lines ∙ sym (append-nil (flat_map (λ line. line ++ line_feed ∷ []) (texts lines)))) in
    ap (λ (rest : List ℕ). ended_lines bytes ++ last_line rest) cut.1 ∙ append-nil (ended_lines bytes) ∙ cut.0

all_lines : (xs ys : List (List ℕ)) → AllByRecursion IsLine xs → AllByRecursion IsLine ys → AllByRecursion IsLine (xs ++ ys)
all_lines [] ys h k = k
all_lines (x ∷ xs) ys h k = (h.0, all_lines xs ys h.1 k)

reader_lines : (readers : List (ℕ × ℕ)) → All Set readers → AllByRecursion IsLine (texts (map reader_line readers))
reader_lines [] h = tt
reader_lines ((address, room) ∷ rest) h =
    (is_line 0 (Reader address room) (All-head Set (address, room) rest h), reader_lines rest (All-tail Set (address, room) rest h))

below_lines : (readers : ℕ) (lines : List ScriptLine) → All (StandsBelow readers) lines → AllByRecursion IsLine (texts lines)
unfolding StandsBelow
below_lines readers [] h = tt
below_lines readers (line ∷ rest) h =
    (one_line line (All-head (StandsBelow readers) line rest h), below_lines readers rest (All-tail (StandsBelow readers) line rest h))
  where
    one_line : (l : ScriptLine) → StandsBelow readers l → IsLine (plain_text l)
    one_line (Check kind) s = absurd s
    one_line (Reader address room) s = absurd s
    one_line (Step step) s = is_line readers (Step step) s
    one_line (Clean n) s = is_line readers (Clean n) s.0

-- ---- the script

record HasLines (script : Script) : Type 0 where
  pub readers : AreReaders script.readers.items
  pub below : All (StandsBelow (length script.readers.items)) script.lines

had_lines : (bytes : List ℕ) (script : Script) → IsScriptOf bytes script → HasLines script
unfolding AllBelow
had_lines bytes script (p, means, is) = record {
  readers = readers_named bytes script (p, means, is);
  below =
      let h = all_below no_plan (lines_of bytes) p means.good none_below in
      subst (λ (lines : List ScriptLine). All (StandsBelow (length script.readers.items)) lines) (sym is.below)
      (subst (λ (readers : List (ℕ × ℕ)). All (StandsBelow (length readers)) p.below) (sym is.readers) h);
}

in_pieces : (script : Script) → texts (script_lines script)
    ≡ plain_text (Check script.check) ∷ (texts (map reader_line script.readers.items) ++ texts script.lines)
in_pieces script =
    ap (λ (l : List (List ℕ)). plain_text (Check script.check) ∷ l)
    (map-append plain_text (map reader_line script.readers.items) script.lines)

lines_read : (script : Script) → HasLines script
    → AreRead no_plan (texts (script_lines script)) (plan (Some script.check) script.readers.items script.lines)
lines_read script has =
    let check = Some script.check in
    let readers = script.readers.items in
    let steps = script.lines in
    let first = is_read no_plan (Check script.check) tt (record { once = refl; before = refl }) in
    let named = readers_read check [] readers has.readers.most has.readers.each has.readers.apart in
    let below = below_read check readers [] steps has.below in
    let both = (read_in_turn (texts (map reader_line readers)) (texts steps) (plan check [] []) (plan check readers steps)).1
    (plan check readers [], named, below) in
    subst (λ (lines : List (List ℕ)). AreRead no_plan lines (plan check readers steps)) (sym (in_pieces script)) (plan check [] [], first, both)

each_line : (script : Script) → HasLines script → AllByRecursion IsLine (texts (script_lines script))
each_line script has =
    subst (λ (lines : List (List ℕ)). AllByRecursion IsLine lines) (sym (in_pieces script)) (
      is_line 0 (Check script.check) tt,
      all_lines (texts (map reader_line script.readers.items)) (texts script.lines) (reader_lines script.readers.items has.readers.each)
          (below_lines (length script.readers.items) script.lines has.below),
    )

read_again : (script : Script) → HasLines script → IsScriptOf (script_text script) script
read_again script has =
    let p = plan (Some script.check) script.readers.items script.lines in
    let lines = sym (lines_again (script_lines script) (each_line script has)) in (
      p,
      record { good = subst (λ (l : List (List ℕ)). AreRead no_plan l p) lines (lines_read script has); some = has.readers.some },
      record { check = refl; readers = refl; below = refl },
    )

pub read_back : ReadsBack
read_back bytes script is =
    let again = read_again script (had_lines bytes script is) in
    record { read = again; only = λ other said. (one_meaning (script_text script)).script script other again said }
