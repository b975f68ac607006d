-- Each input has a cut, and what lines say is bytes.
use Rattle.osdp_tool_streams.proofs.Common.{◌≡◌, ◌≢◌, ℕ, ◌==◌, cond, Bool, true, false, List, [], ◌∷◌, ◌++◌, Option, Some, None, Result, Ok, Err, refl, sym, subst, ap, ◌∙◌, arith, append_assoc, append-nil, eqb-true, eqb-false, AllByRecursion, flat_map, option_map_or, result_ok, IsBytes, decode_of, FromHexError, decode_of-ok, line_bytes, said, kept}
use Rattle.osdp_tool_streams.specs.Cut.{line_feed, ended_after, unended_after, ended_lines, unended_line, IsLine, IsCut}
use Rattle.osdp_tool_streams.specs.Runs.{good_front}

IsLine-append : (line : List ℕ) (b : ℕ) → IsLine line → b ≢ line_feed → IsLine (line ++ b ∷ [])
IsLine-append [] b h n = (n, tt)
IsLine-append (x ∷ line) b h n = (h.0, IsLine-append line b h.1 n)

cut_after : (line bytes : List ℕ) → IsLine line
    → (line ++ bytes ≡ flat_map (λ l. l ++ line_feed ∷ []) (ended_after line bytes) ++ unended_after line bytes)
    × AllByRecursion IsLine (ended_after line bytes) × IsLine (unended_after line bytes)
unfolding ended_after unended_after
cut_after line [] h = (append-nil line, tt, h)
cut_after line (b ∷ bytes) h = go (cut_after [] bytes tt) (cut_after (line ++ b ∷ []) bytes) (b == line_feed) refl
  where
    Cut : List ℕ → List (List ℕ) → List ℕ → Type 0
    Cut all lines rest = (all ≡ flat_map (λ l. l ++ line_feed ∷ []) lines ++ rest) × AllByRecursion IsLine lines × IsLine rest

    go : Cut bytes (ended_after [] bytes) (unended_after [] bytes)
        → (IsLine (line ++ b ∷ []) → Cut ((line ++ b ∷ []) ++ bytes) (ended_after (line ++ b ∷ []) bytes) (unended_after (line ++ b ∷ []) bytes))
        → (t : Bool) → (b == line_feed) ≡ t
        → Cut (line ++ b ∷ bytes) (cond t (line ∷ ended_after [] bytes) (ended_after (line ++ b ∷ []) bytes)) (cond t (unended_after [] bytes) (unended_after (line ++ b ∷ []) bytes))
    go ended going true is =
        let feed : b ≡ line_feed = eqb-true b line_feed is in (
          ap (λ c. line ++ c ∷ bytes) feed ∙ sym (append_assoc line (line_feed ∷ []) bytes) ∙ ap (λ l. (line ++ line_feed ∷ []) ++ l) ended.0
              ∙ sym (append_assoc (line ++ line_feed ∷ []) (flat_map (λ l. l ++ line_feed ∷ []) (ended_after [] bytes)) (unended_after [] bytes)),
          (h, ended.1),
          ended.2,
        )
    go ended going false is =
        let rest = going (IsLine-append line b h (eqb-false b line_feed is)) in
        (sym (append_assoc line (b ∷ []) bytes) ∙ rest.0, rest.1, rest.2)

-- each input has a cut
pub is_cut : (bytes : List ℕ) → IsCut bytes (ended_lines bytes) (unended_line bytes)
is_cut bytes =
    let c = cut_after [] bytes tt in
    record { whole = c.0; each = c.1; last = c.2 }

-- ---- what lines say is bytes

no_bytes : IsBytes []
no_bytes i = omega arith

pub result_some : (r : Result (List ℕ) FromHexError) (bytes : List ℕ) → result_ok r ≡ Some bytes → r ≡ Ok bytes
result_some (Ok x) bytes h = cc
result_some (Err e) bytes h = cc

said_bytes : (characters bytes : List ℕ) → said characters ≡ Some bytes → IsBytes bytes
said_bytes [] bytes h = let none : bytes ≡ [] = cc in subst IsBytes (sym none) no_bytes
said_bytes (c ∷ characters) bytes h = go (c == 35) h
  where
    go : (t : Bool) → cond t (Some []) (result_ok (decode_of (c ∷ characters))) ≡ Some bytes → IsBytes bytes
    go true e = let none : bytes ≡ [] = cc in subst IsBytes (sym none) no_bytes
    go false e = (decode_of-ok (c ∷ characters) bytes (result_some (decode_of (c ∷ characters)) bytes e)).3

pub good_front-bytes : (lines : List (List ℕ)) → AllByRecursion IsBytes (good_front lines)
unfolding good_front
good_front-bytes [] = tt
good_front-bytes (line ∷ lines) = go (good_front-bytes lines) (line_bytes line) refl
  where
    go : AllByRecursion IsBytes (good_front lines) → (o : Option (List ℕ)) → line_bytes line ≡ o → AllByRecursion IsBytes (option_map_or (λ bytes. bytes ∷ good_front lines) o [])
    go ih None is = tt
    go ih (Some bytes) is = (said_bytes (kept line) bytes is, ih)
