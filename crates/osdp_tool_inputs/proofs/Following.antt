-- A capture that is followed line by line.
use Rattle.osdp_tool_inputs.proofs.Common.{◌≡◌, ℕ, ◌+◌, true, false, cond, List, [], ◌∷◌, ◌++◌, length, refl, sym, ap, ◌∙◌, arith, append_assoc, append-nil, length-append, has_digits, Capture, Option}
use Rattle.osdp_tool_inputs.specs.Heard.{line_late, tells_below}
use Rattle.osdp_tool_inputs.specs.Places.{HasFollowed, late_from, late_in}
use Rattle.osdp_tool_inputs.specs.declared.capture.LateTimes.{LateTimes}
use Rattle.osdp_tool_times.specs.Captures.{Heard, after_line, after_lines, heard_of, nothing_heard}

-- ---- one after the other

after_more : (h : Heard) (xs ys : List (List ℕ)) → after_lines h (xs ++ ys) ≡ after_lines (after_lines h xs) ys
unfolding after_lines
after_more h [] ys = refl
after_more h (line ∷ xs) ys = after_more (after_line h line) xs ys

tells_more : (h : Heard) (xs ys : List (List ℕ)) → tells_below h (xs ++ ys) ≡ tells_below h xs ++ tells_below (after_lines h xs) ys
unfolding after_lines tells_below
tells_more h [] ys = refl
tells_more h (line ∷ xs) ys =
    let rest = tells_more (after_line h line) xs ys in
    let next = after_line h line in
    let told = line_late h line in
    elim (has_digits line) as
    (λ t. cond t (told ∷ tells_below next (xs ++ ys)) (tells_below next (xs ++ ys))
    ≡ cond t (told ∷ tells_below next xs) (tells_below next xs) ++ tells_below (after_lines next xs) ys)
    [ true ↦ ap (λ l. told ∷ l) rest | false ↦ rest ]

longer : (run : ℕ) (told : Option LateTimes) (xs : List (Option LateTimes)) → run + 1 + length xs ≡ run + length (told ∷ xs)
longer run told xs = omega arith

late_more : (run : ℕ) (xs ys : List (Option LateTimes)) → late_from run (xs ++ ys) ≡ late_from run xs ++ late_from (run + length xs) ys
unfolding late_from
late_more run [] ys = ap (λ n. late_from n ys) (omega arith)
late_more run (told ∷ xs) ys =
    ap (λ l. late_in run told ++ l) (late_more (run + 1) xs ys ∙ ap (λ n. late_from (run + 1) xs ++ late_from n ys) (longer run told xs))
    ∙ sym (append_assoc (late_in run told) (late_from (run + 1) xs) (late_from (run + length (told ∷ xs)) ys))

late_one : (run : ℕ) (told : Option LateTimes) → late_from run (told ∷ []) ≡ late_in run told
unfolding late_from
late_one run told = append-nil (late_in run told)

one_after : (h : Heard) (line : List ℕ) → after_lines h (line ∷ []) ≡ after_line h line
unfolding after_lines
one_after h line = refl

one_told : (h : Heard) (line : List ℕ) → has_digits line ≡ true → tells_below h (line ∷ []) ≡ line_late h line ∷ []
unfolding tells_below
one_told h line some = ap (λ t. cond t (line_late h line ∷ []) []) some

none_told : (h : Heard) (line : List ℕ) → has_digits line ≡ false → tells_below h (line ∷ []) ≡ []
unfolding tells_below
none_told h line none = ap (λ t. cond t (line_late h line ∷ []) []) none

-- ---- a capture

pub followed_none : (c : Capture) → heard_of c.timed ≡ nothing_heard → c.runs ≡ 0 → c.late.items ≡ [] → HasFollowed [] c
unfolding after_lines tells_below late_from
followed_none c heard runs late = record { heard = heard; runs = runs; late = late }

module _ (lines : List (List ℕ)) (line : List ℕ) (old new : Capture) (h : HasFollowed lines old)
    (heard : heard_of new.timed ≡ after_line (heard_of old.timed) line) where
  heard_is : heard_of new.timed ≡ after_lines nothing_heard (lines ++ line ∷ [])
  heard_is =
      heard ∙ ap (λ x. after_line x line) h.heard ∙ sym (after_more nothing_heard lines (line ∷ []) ∙ one_after (after_lines nothing_heard lines) line)

  pub followed_other : has_digits line ≡ false → new.runs ≡ old.runs → new.late.items ≡ old.late.items → HasFollowed (lines ++ line ∷ []) new
  followed_other none runs late =
      let same : tells_below nothing_heard (lines ++ line ∷ []) ≡ tells_below nothing_heard lines =
      tells_more nothing_heard lines (line ∷ []) ∙ ap (λ l. tells_below nothing_heard lines ++ l) (none_told (after_lines nothing_heard lines) line none)
      ∙ append-nil (tells_below nothing_heard lines) in
      record {
        heard = heard_is;
        runs = runs ∙ h.runs ∙ sym (ap length same);
        late = late ∙ h.late ∙ sym (ap (late_from 1) same);
      }

  pub followed_run : (told : Option LateTimes) (run : ℕ) → has_digits line ≡ true → told ≡ line_late (heard_of old.timed) line → run ≡ old.runs + 1 → new.runs ≡ run
      → new.late.items ≡ old.late.items ++ late_in run told → HasFollowed (lines ++ line ∷ []) new
  followed_run told run some is number runs late =
      let tells = tells_below nothing_heard lines in
      let more : tells_below nothing_heard (lines ++ line ∷ []) ≡ tells ++ told ∷ [] =
      tells_more nothing_heard lines (line ∷ []) ∙ ap (λ l. tells ++ l) (one_told (after_lines nothing_heard lines) line some)
      ∙ ap (λ x. tells ++ line_late x line ∷ []) (sym h.heard) ∙ ap (λ t. tells ++ t ∷ []) (sym is) in
      let place : run ≡ 1 + length tells = omega (arith, number, h.runs) in
      record {
        heard = heard_is;
        runs = let size = length-append tells (told ∷ []) in runs ∙ omega (arith, number, h.runs, size) ∙ sym (ap length more);
        late = late ∙ ap (λ l. l ++ late_in run told) h.late ∙ ap (λ n. late_from 1 tells ++ late_in n told) place
            ∙ ap (λ l. late_from 1 tells ++ l) (sym (late_one (1 + length tells) told)) ∙ sym (late_more 1 tells (told ∷ [])) ∙ sym (ap (late_from 1) more);
      }
