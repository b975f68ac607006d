-- What is told with the moments of a capture.
use Rattle.osdp_tool_inputs.proofs.Common.{◌≡◌, ◌⊎◌, inl, inr, ℕ, Bool, List, [], ◌∷◌, ◌++◌, codes, flat_map, refl, sym, ap, ◌∙◌, append_assoc, cases_Bool, cond-false, cond-true, eqb-true, line_feed, lines_of, is_about, late_notice, names_run, place_named, shown_stamp, tells_at, tells_of, times_after, told_line, took_text, ends_so, run_of, stamps_of, ◌==◌, ◌&&◌, true, false, Option, None, Some}
use Rattle.osdp_tool_inputs.specs.declared.capture.LateTimes.{LateTimes}
use Rattle.osdp_tool_inputs.specs.Laws.{AreEdges, Edges, IsFront, IsTail, MomentsLeaveLines, lines_between}

-- ---- a line after its front

plain_line : (line rest : List ℕ) → (line ++ line_feed ∷ []) ++ rest ≡ [] ++ (line ++ line_feed ∷ rest)
plain_line line rest = append_assoc line (line_feed ∷ []) rest

stamped_line : (stamp line rest : List ℕ) → (stamp ++ (codes " " ++ (line ++ line_feed ∷ []))) ++ rest ≡ (stamp ++ codes " ") ++ (line ++ line_feed ∷ rest)
stamped_line stamp line rest =
    append_assoc stamp (codes " " ++ (line ++ line_feed ∷ [])) rest
    ∙ ap (λ t. stamp ++ t) (append_assoc (codes " ") (line ++ line_feed ∷ []) rest ∙ ap (λ t. codes " " ++ t) (append_assoc line (line_feed ∷ []) rest))
    ∙ sym (append_assoc stamp (codes " ") (line ++ line_feed ∷ rest))

-- a line about a late answer names its place
names_it : (a b : Bool) → (a && b) ≡ true → a ≡ true
names_it true b e = refl
names_it false b e = absurd cc

-- what stands after a line
tail_is : (line : List ℕ) (told : Option LateTimes)
    → (times_after line told ≡ []) ⊎ ((late : LateTimes) × (told ≡ Some late) × (place_named line ≡ late.place) × (times_after line told ≡ took_text late.took late.waited))
tail_is line None = inl refl
tail_is line (Some late) = elim (cases_Bool (is_about late line)) [
  | inl is ↦ inr (
    late,
    refl,
    eqb-true (place_named line) late.place (names_it (place_named line == late.place) (ends_so line late_notice) is),
    cond-true (is_about late line) (took_text late.took late.waited) [] is,
  )
  | inr other ↦ inl (cond-false (is_about late line) (took_text late.took late.waited) [] other)
]

abbrev Edged : Bool → List (List ℕ) → List (Option LateTimes) → List ℕ → Type 0
Edged clock stamps tells line =
    (edge : Edges) × IsFront clock stamps line edge.front × IsTail tells line edge.tail
    × ((rest : List ℕ) → told_line clock stamps tells line ++ rest ≡ edge.front ++ (line ++ (edge.tail ++ line_feed ∷ rest)))

one_edge : (clock : Bool) (stamps : List (List ℕ)) (tells : List (Option LateTimes)) (line : List ℕ) → Edged clock stamps tells line
one_edge clock stamps tells line =
    let stamp = shown_stamp clock stamps line in
    let tail = times_after line (tells_at (run_of line) tells) in
    let stamped = stamp ++ (codes " " ++ ((line ++ tail) ++ line_feed ∷ [])) in
    elim (cases_Bool (names_run line)) [
      | inl names ↦ (
        record { front = stamp ++ codes " "; tail = tail },
        inr refl,
        tail_is line (tells_at (run_of line) tells),
        λ rest. ap (λ t. t ++ rest) (cond-true (names_run line) stamped (line ++ line_feed ∷ []) names) ∙ stamped_line stamp (line ++ tail) rest
            ∙ ap (λ t. (stamp ++ codes " ") ++ t) (append_assoc line tail (line_feed ∷ rest)),
      )
      | inr plain ↦ (
        record { front = []; tail = [] },
        inl refl,
        inl refl,
        λ rest. ap (λ t. t ++ rest) (cond-false (names_run line) stamped (line ++ line_feed ∷ []) plain) ∙ plain_line line rest,
      )
    ]

all_edges : (clock : Bool) (stamps : List (List ℕ)) (tells : List (Option LateTimes)) (lines : List (List ℕ)) → (edges : List Edges) × AreEdges clock stamps tells lines edges
    × (flat_map (told_line clock stamps tells) lines ≡ lines_between edges lines)
unfolding lines_between
all_edges clock stamps tells [] = ([], tt, refl)
all_edges clock stamps tells (line ∷ lines) =
    let first = one_edge clock stamps tells line in
    let more = all_edges clock stamps tells lines in (
      first.0 ∷ more.0,
      (first.1, first.2, more.1),
      first.3 (flat_map (told_line clock stamps tells) lines) ∙ ap (λ t. first.0.front ++ (line ++ (first.0.tail ++ line_feed ∷ t))) more.2,
    )

pub moments_leave_lines : MomentsLeaveLines
moments_leave_lines clock text shown = all_edges clock (stamps_of text) (tells_of text) (lines_of shown)
