-- How many steps a script has.
use Rattle.osdp_tool_sim.proofs.Common.{◌≡◌, ◌+◌, ◌*◌, ◌<◌, ◌≤◌, ◌^◌, ◌==◌, ℕ, zero, suc, Bool, true, false, List, [], ◌∷◌, ◌++◌, length, inl, inr, refl, ap, arith, length-append, Script, LineFits, AreRead, IsRead, IsScriptOf, Plan, line_steps, lines_steps, steps_of, with_line}
use Rattle.osdp_tool_streams.specs.Cut.{ended_after, last_line, line_feed, lines_of, unended_after}
use Rattle.osdp_script.specs.declared.script.ScriptLine.{ScriptLine}
use Rattle.osdp_script.specs.declared.script.ScriptLine.TheVariants.{Check, Reader, Step, Clean}
use Rattle.osdp_sim.specs.Rounds.{rounds}

-- ---- lines

lines_from : (line bytes : List ℕ) → length (ended_after line bytes ++ last_line (unended_after line bytes)) ≤ 2 * length bytes + 1
unfolding ended_after unended_after
lines_from [] [] = omega arith
lines_from (c ∷ line) [] = omega arith
lines_from line (b ∷ bytes) = go (b == line_feed) refl (lines_from [] bytes) (lines_from (line ++ b ∷ []) bytes)
  where
    go : (feed : Bool) → (b == line_feed) ≡ feed → length (ended_after [] bytes ++ last_line (unended_after [] bytes)) ≤ 2 * length bytes + 1
        → length (ended_after (line ++ b ∷ []) bytes ++ last_line (unended_after (line ++ b ∷ []) bytes)) ≤ 2 * length bytes + 1
        → length (ended_after line (b ∷ bytes) ++ last_line (unended_after line (b ∷ bytes))) ≤ 2 * length (b ∷ bytes) + 1
    go true is ended open_line = rw is (omega arith)
    go false is ended open_line = rw is (omega arith)

lines_few : (bytes : List ℕ) → length (lines_of bytes) ≤ 2 * length bytes + 1
lines_few bytes = lines_from [] bytes

-- ---- steps

rounds_length : (n wait : ℕ) → length (rounds n wait) ≡ 3 * n
rounds_length zero wait = refl
rounds_length (suc n) wait = let rest = rounds_length n wait in omega arith

line_length : (readers : ℕ) (line : ScriptLine) → LineFits readers line → length (line_steps line) ≤ 3003
line_length readers (Check kind) fits = omega arith
line_length readers (Reader address room) fits = omega arith
line_length readers (Step step) fits = omega arith
line_length readers (Clean n) fits = let rest = rounds_length n 50 in omega arith

one_more : (p : Plan) (line : ScriptLine) → length (lines_steps (p.below ++ line ∷ [])) ≡ length (lines_steps p.below) + length (line_steps line)
one_more p line = go p.below
  where
    go : (below : List ScriptLine) → length (lines_steps (below ++ line ∷ [])) ≡ length (lines_steps below) + length (line_steps line)
    go [] = let both = length-append (line_steps line) [] in omega arith
    go (first ∷ below) =
        let rest = go below in
        let front = length-append (line_steps first) (lines_steps (below ++ line ∷ [])) in
        let back = length-append (line_steps first) (lines_steps below) in
        omega arith

told_few : (readers : ℕ) (p : Plan) (line : ScriptLine) → LineFits readers line
    → length (lines_steps (with_line line p).below) ≤ length (lines_steps p.below) + 3003
told_few readers p (Check kind) fits = omega arith
told_few readers p (Reader address room) fits = omega arith
told_few readers p (Step step) fits = let more = one_more p (Step step) in let few = line_length readers (Step step) fits in omega arith
told_few readers p (Clean n) fits = let more = one_more p (Clean n) in let few = line_length readers (Clean n) fits in omega arith

read_few : (p : Plan) (line : List ℕ) (q : Plan) → IsRead p line q → length (lines_steps q.below) ≤ length (lines_steps p.below) + 3003
read_few p line q (inl (over, is)) = let same = ap (λ (r : Plan). length (lines_steps r.below)) is in omega arith
read_few p line q (inr (over, told)) =
    let few = told_few (length p.readers) p told.line told.says.fits in
    let same = ap (λ (r : Plan). length (lines_steps r.below)) told.plan in omega arith

all_few : (p : Plan) (lines : List (List ℕ)) (q : Plan) → AreRead p lines q
    → length (lines_steps q.below) ≤ length (lines_steps p.below) + 3003 * length lines
all_few p [] q is = let same = ap (λ (r : Plan). length (lines_steps r.below)) is in omega arith
all_few p (line ∷ lines) q (mid, first, rest) =
    let one = read_few p line mid first in
    let more = all_few mid lines q rest in
    omega arith

pub steps_few : (bytes : List ℕ) (script : Script) → length bytes < 2 ^ 40 → IsScriptOf bytes script → length (steps_of script) < 2 ^ 64
steps_few bytes script small (p, means, is) =
    let few = all_few _ (lines_of bytes) p means.good in
    let lines = lines_few bytes in
    let same = ap (λ below. length (lines_steps below)) is.below in
    omega arith
