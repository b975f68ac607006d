-- How a capture is read on, line by line.
use Rattle.std.proofs.Common.{◌≡◌, ℕ, ◌+◌, ◌-◌, ◌≤◌, List, [], ◌∷◌, ◌++◌, Option, Some, None, Result, Ok, Err, length, take, drop, refl, sym, subst, ap, ◌∙◌, arith, append_assoc, append-nil, take-append-drop, length-drop}
use Rattle.std.proofs.lemmas.List.{take_more, take_rest}
use Rattle.std.proofs.Math.Seq.{drop-drop}
use Rattle.osdp_tool_streams.specs.Cut.{HasLine, IsLine, ended_lines, last_line, line_feed, lines_of, unended_line}
use Rattle.osdp_tool_streams.proofs.CutLemmas.{ended_after-feed, ended_after-line, unended_after-feed, unended_after-line}
use Rattle.osdp_tool_captures.specs.declared.fault.BadLine.{BadLine}
use Rattle.osdp_tool_captures.specs.declared.fault.LineFault.{LineFault}
use Rattle.osdp_tool_captures.specs.declared.format.Tool.{Tool}
use Rattle.osdp_tool_captures.specs.Laws.{FirstLineFirst}
use Rattle.osdp_tool_captures.specs.Lines.{line_text}
use Rattle.osdp_tool_captures.specs.Captures.{AddsLine, bad_or, before, capture_fault, capture_text, first_bad, lines_text}

-- a line feed ends the first line
pub lines_of-feed : (line rest : List ℕ) → IsLine line → lines_of (line ++ line_feed ∷ rest) ≡ line ∷ lines_of rest
lines_of-feed line rest h =
    ap (λ l. l ++ last_line (unended_line (line ++ line_feed ∷ rest))) (ended_after-feed [] line rest h)
    ∙ ap (λ u. (line ∷ ended_lines rest) ++ last_line u) (unended_after-feed [] line rest)

pub lines_of-line : (rest : List ℕ) → IsLine rest → lines_of rest ≡ last_line rest
lines_of-line rest h =
    ap (λ l. l ++ last_line (unended_line rest)) (ended_after-line [] rest h) ∙ ap last_line (unended_after-line [] rest h)

-- bytes, cut before and after their first line
pub line_cut : (bytes : List ℕ) (count : ℕ) → HasLine bytes count → bytes ≡ take count bytes ++ line_feed ∷ drop (count + 1) bytes
line_cut bytes count h =
    let one_more : take (count + 1) bytes ≡ take count bytes ++ line_feed ∷ [] =
    take_more bytes count 0 h.below ∙ ap (λ n. take count bytes ++ n ∷ []) h.feed in
    sym (take-append-drop (count + 1) bytes) ∙ ap (λ l. l ++ drop (count + 1) bytes) one_more ∙ append_assoc (take count bytes) (line_feed ∷ []) (drop (count + 1) bytes)

pub first_line_first : FirstLineFirst
first_line_first bytes count has = ap lines_of (line_cut bytes count has) ∙ lines_of-feed (take count bytes) (drop (count + 1) bytes) has.line

-- what was read of a capture, and what is to come of it
pub record Going (tool : Tool) (bytes : List ℕ) (at number : ℕ) (text : List ℕ) : Type 0 where
  pub within : at ≤ length bytes
  pub counts : number ≤ at + 1
  pub text_is : capture_text tool bytes ≡ text ++ lines_text tool (lines_of (drop at bytes))
  pub bad_is : capture_fault tool bytes ≡ first_bad tool number (lines_of (drop at bytes))

pub going_first : (tool : Tool) (bytes : List ℕ) → Going tool bytes 0 1 []
going_first tool bytes = record { within = omega arith; counts = omega arith; text_is = refl; bad_is = refl }

module _ (tool : Tool) (bytes : List ℕ) (at number : ℕ) (text : List ℕ) (going : Going tool bytes at number text) (count : ℕ) (stands : HasLine (drop at bytes) count) where
  lines_are : lines_of (drop at bytes) ≡ take count (drop at bytes) ∷ lines_of (drop (at + (count + 1)) bytes)
  lines_are =
      ap lines_of (line_cut (drop at bytes) count stands) ∙ lines_of-feed (take count (drop at bytes)) (drop (count + 1) (drop at bytes)) stands.line
      ∙ ap (λ l. take count (drop at bytes) ∷ lines_of l) (drop-drop (count + 1) at bytes)

  text_goes : lines_text tool (lines_of (drop at bytes)) ≡ before (line_text tool (take count (drop at bytes))) (lines_text tool (lines_of (drop (at + (count + 1)) bytes)))
  unfolding lines_text
  text_goes = ap (lines_text tool) lines_are

  bad_goes : first_bad tool number (lines_of (drop at bytes)) ≡ bad_or number (line_text tool (take count (drop at bytes))) (first_bad tool (number + 1) (lines_of (drop (at + (count + 1)) bytes)))
  unfolding first_bad
  bad_goes = ap (first_bad tool number) lines_are

  -- the line is good, and is added
  pub going_on : (said : Result (List ℕ) LineFault) (new : List ℕ) → line_text tool (take count (drop at bytes)) ≡ said → AddsLine number said text new None
      → Going tool bytes (at + (count + 1)) (number + 1) new
  going_on (Ok more) new is (none, added) = record {
    within = let b = stands.below in let w = going.within in let l = length-drop at bytes in omega arith;
    counts = let c = going.counts in omega arith;
    text_is = going.text_is ∙ ap (λ l. text ++ l) (text_goes ∙ ap (λ s. before s (lines_text tool (lines_of (drop (at + (count + 1)) bytes)))) is)
        ∙ sym (append_assoc text more (lines_text tool (lines_of (drop (at + (count + 1)) bytes)))) ∙ ap (λ l. l ++ lines_text tool (lines_of (drop (at + (count + 1)) bytes))) (sym added);
    bad_is = going.bad_is ∙ bad_goes ∙ ap (λ s. bad_or number s (first_bad tool (number + 1) (lines_of (drop (at + (count + 1)) bytes)))) is;
  }
  going_on (Err fault) new is (bad, same) = absurd cc

  -- the line is bad, and ends the text
  pub going_bad : (said : Result (List ℕ) LineFault) (new : List ℕ) (bad : BadLine) → line_text tool (take count (drop at bytes)) ≡ said
      → AddsLine number said text new (Some bad) → (new ≡ capture_text tool bytes) × (Some bad ≡ capture_fault tool bytes)
  going_bad (Ok more) new bad is (none, added) = absurd cc
  going_bad (Err fault) new bad is (bad_is, same) = (
    same ∙ sym (going.text_is ∙ ap (λ l. text ++ l) (text_goes ∙ ap (λ s. before s (lines_text tool (lines_of (drop (at + (count + 1)) bytes)))) is) ∙ append-nil text),
    bad_is ∙ sym (going.bad_is ∙ bad_goes ∙ ap (λ s. bad_or number s (first_bad tool (number + 1) (lines_of (drop (at + (count + 1)) bytes)))) is),
  )

-- what stands after the last line feed, blank or not
module _ (tool : Tool) (bytes : List ℕ) (at number : ℕ) (text : List ℕ) (going : Going tool bytes at number text) where
  last_text : (rest : List ℕ) (said : Result (List ℕ) LineFault) → line_text tool rest ≡ said → (new : List ℕ) (bad : Option BadLine)
      → AddsLine number said text new bad → (new ≡ text ++ lines_text tool (last_line rest)) × (bad ≡ first_bad tool number (last_line rest))
  unfolding lines_text first_bad
  last_text [] (Ok more) is new bad (none, added) =
      let nothing : more ≡ [] = cc in
      (added ∙ ap (λ l. text ++ l) nothing, none)
  last_text [] (Err fault) is new bad adds = absurd cc
  last_text (b ∷ rest) (Ok more) is new bad (none, added) = (
    added ∙ ap (λ l. text ++ l) (sym (ap (λ s. before s []) is ∙ append-nil more)),
    none ∙ sym (ap (λ s. bad_or number s None) is),
  )
  last_text (b ∷ rest) (Err fault) is new bad (bad_is, same) = (
    same ∙ sym (ap (λ s. text ++ before s []) is ∙ append-nil text),
    bad_is ∙ sym (ap (λ s. bad_or number s None) is),
  )

  pub going_last : (said : Result (List ℕ) LineFault) (new : List ℕ) (bad : Option BadLine) → IsLine (drop at bytes) → line_text tool (drop at bytes) ≡ said
      → AddsLine number said text new bad → (new ≡ capture_text tool bytes) × (bad ≡ capture_fault tool bytes)
  going_last said new bad h is adds =
      let last = last_text (drop at bytes) said is new bad adds in
      let lines = lines_of-line (drop at bytes) h in (
        last.0 ∙ sym (going.text_is ∙ ap (λ l. text ++ lines_text tool l) lines),
        last.1 ∙ sym (going.bad_is ∙ ap (first_bad tool number) lines),
      )

-- ---- the same, of slices

part_of_slice : (bytes : List ℕ) (at count : ℕ) → take (at + count - at) (drop at bytes) ≡ take count (drop at bytes)
part_of_slice bytes at count = ap (λ n. take n (drop at bytes)) (omega arith)

module _ (tool : Tool) (bytes : List ℕ) (at number : ℕ) (text : List ℕ) (going : Going tool bytes at number text) (count : ℕ)
    (stands : HasLine (take (length bytes - at) (drop at bytes)) count) (new : List ℕ) where
  pub step_on : AddsLine number (line_text tool (take (at + count - at) (drop at bytes))) text new None → Going tool bytes (at + (count + 1)) (number + 1) new
  step_on adds =
      going_on tool bytes at number text going count (subst (λ l. HasLine l count) (take_rest bytes at) stands) (line_text tool (take count (drop at bytes))) new refl
      (subst (λ l. AddsLine number (line_text tool l) text new None) (part_of_slice bytes at count) adds)

  pub step_bad : (bad : BadLine) → AddsLine number (line_text tool (take (at + count - at) (drop at bytes))) text new (Some bad)
      → (new ≡ capture_text tool bytes) × (Some bad ≡ capture_fault tool bytes)
  step_bad bad adds =
      going_bad tool bytes at number text going count (subst (λ l. HasLine l count) (take_rest bytes at) stands) (line_text tool (take count (drop at bytes))) new bad refl
      (subst (λ l. AddsLine number (line_text tool l) text new (Some bad)) (part_of_slice bytes at count) adds)

pub step_last : (tool : Tool) (bytes : List ℕ) (at number : ℕ) (text : List ℕ) → Going tool bytes at number text → (new : List ℕ) (bad : Option BadLine)
    → IsLine (take (length bytes - at) (drop at bytes)) → AddsLine number (line_text tool (take (length bytes - at) (drop at bytes))) text new bad
    → (new ≡ capture_text tool bytes) × (bad ≡ capture_fault tool bytes)
step_last tool bytes at number text going new bad line adds =
    going_last tool bytes at number text going (line_text tool (drop at bytes)) new bad (subst IsLine (take_rest bytes at) line) refl
    (subst (λ l. AddsLine number (line_text tool l) text new bad) (take_rest bytes at) adds)
