-- The runs of an input have no more bytes than it has.
use Rattle.osdp_tool_streams.proofs.Common.{◌≡◌, ℕ, ◌+◌, ◌≤◌, ◌==◌, cond, not, Bool, true, false, List, [], ◌∷◌, ◌++◌, length, Option, Some, None, refl, ap, arith, length-append, filter, concat, flat_map, option_map_or, result_ok, decode_of, decode_of-ok, Form, Raw, Joined, Apart, ended_lines, last_line, line_feed, lines_of, unended_line, is_blank, kept, line_bytes, said}
use Rattle.osdp_tool_streams.specs.Runs.{good_front, runs_of, with_bytes}
use Rattle.osdp_tool_streams.proofs.Bytes.{is_cut, result_some}

filter_short : (test : ℕ → Bool) (xs : List ℕ) → length (filter test xs) ≤ length xs
filter_short test [] = omega arith
filter_short test (x ∷ xs) = go (filter_short test xs) (test x)
  where
    go : length (filter test xs) ≤ length xs → (t : Bool)
        → length (cond t (x ∷ filter test xs) (filter test xs)) ≤ length (x ∷ xs)
    go ih true = omega arith
    go ih false = omega arith

pub said_short : (characters bytes : List ℕ) → said characters ≡ Some bytes → length bytes ≤ length characters
said_short [] bytes h = let none : bytes ≡ [] = cc in rw none (omega arith)
said_short (c ∷ characters) bytes h = go (c == 35) h
  where
    go : (t : Bool) → cond t (Some []) (result_ok (decode_of (c ∷ characters))) ≡ Some bytes
        → length bytes ≤ length (c ∷ characters)
    go true e = let none : bytes ≡ [] = cc in rw none (omega arith)
    go false e = omega (arith, (decode_of-ok (c ∷ characters) bytes (result_some (decode_of (c ∷ characters)) bytes e)).2)

line_short : (line bytes : List ℕ) → line_bytes line ≡ Some bytes → length bytes ≤ length line
line_short line bytes h =
    let said_is = said_short (kept line) bytes h in
    omega (arith, filter_short (λ b. not (is_blank b)) line)

good_short : (lines : List (List ℕ)) → length (concat (good_front lines)) ≤ length (concat lines)
unfolding good_front
good_short [] = omega arith
good_short (line ∷ lines) = go (good_short lines) (line_bytes line) refl
  where
    go : length (concat (good_front lines)) ≤ length (concat lines) → (o : Option (List ℕ)) → line_bytes line ≡ o
        → length (concat (option_map_or (λ bytes. bytes ∷ good_front lines) o [])) ≤ length (concat (line ∷ lines))
    go ih None is = omega arith
    go ih (Some bytes) is = omega (
      arith,
      line_short line bytes is,
      length-append bytes (concat (good_front lines)),
      length-append line (concat lines),
    )

feeds_short : (lines : List (List ℕ)) (rest : List ℕ)
    → length (concat (lines ++ last_line rest)) ≤ length (flat_map (λ line. line ++ line_feed ∷ []) lines ++ rest)
feeds_short [] [] = omega arith
feeds_short [] (b ∷ rest) = omega (arith, length-append (b ∷ rest) [])
feeds_short (line ∷ lines) rest =
    let ih = feeds_short lines rest in
    let feeds = flat_map (λ l. l ++ line_feed ∷ []) lines in
    let whole : length (flat_map (λ l. l ++ line_feed ∷ []) (line ∷ lines) ++ rest) ≡ (length line + 1) + length (feeds ++ rest) =
    omega (
      arith,
      length-append ((line ++ line_feed ∷ []) ++ feeds) rest,
      length-append (line ++ line_feed ∷ []) feeds,
      length-append line (line_feed ∷ []),
      length-append feeds rest,
    ) in
    omega (arith, length-append line (concat (lines ++ last_line rest)))

lines_short : (bytes : List ℕ) → length (concat (lines_of bytes)) ≤ length bytes
lines_short bytes =
    let cut = is_cut bytes in
    omega (arith, feeds_short (ended_lines bytes) (unended_line bytes), ap length cut.whole)

with_short : (runs : List (List ℕ)) → length (concat (with_bytes runs)) ≤ length (concat runs)
with_short [] = omega arith
with_short (run ∷ runs) = go (with_short runs) (not (length run == 0))
  where
    go : length (concat (with_bytes runs)) ≤ length (concat runs) → (t : Bool)
        → length (concat (cond t (run ∷ with_bytes runs) (with_bytes runs))) ≤ length (concat (run ∷ runs))
    go ih true = omega (arith, length-append run (concat (with_bytes runs)), length-append run (concat runs))
    go ih false = omega (arith, length-append run (concat runs))

pub runs_short : (form : Form) (bytes : List ℕ) → length (concat (runs_of form bytes)) ≤ length bytes
runs_short Raw bytes = omega (arith, with_short (bytes ∷ []), length-append bytes [])
runs_short Joined bytes =
    let good = good_front (lines_of bytes) in
    omega (arith, with_short (concat good ∷ []), length-append (concat good) [], good_short (lines_of bytes), lines_short bytes)
runs_short Apart bytes = omega (arith, with_short (good_front (lines_of bytes)), good_short (lines_of bytes), lines_short bytes)
