-- What an output of lines has taken, and what was written for it.
use Rattle.osdp_tool_objects.proofs.Common.{◌≡◌, ◌&&◌, ◌+◌, ◌-◌, ◌≤◌, inl, inr, not, ℕ, Bool, true, false, List, [], ◌++◌, Option, None, Some, length, get_or, take, drop, refl, sym, subst, ap, ◌∙◌, arith, append_assoc, append-nil, length-append, Appends, length-take-le, drop-append_seam, take-append-add, take-append_seam, has_failed, inner_of, unended_after-append, WritesTheirObjects, IsNew, fault_of, lines_taken, output_of, start_of}
use Rattle.std.specs.Str.{bytes_eq}
use Rattle.std.proofs.KnownBytes.{Appends-kept, Appends-nil, Appends-trans}
use Rattle.std.proofs.lemmas.Bool.{and_from, cases_Bool}
use Rattle.std.proofs.lemmas.Slice.Eq.{bytes_eq-Decides}
use Rattle.osdp_tool_streams.specs.Cut.{ended_after, unended_after}
use Rattle.osdp_tool_streams.specs.declared.fault.ToolFault.{ToolFault}
use Rattle.osdp_tool_streams.specs.declared.fault.ToolFault.TheVariants.{NoMemory, WriteFailed}
use Rattle.osdp_tool_objects.specs.Streams.{StopsWriting, Writes, has_appended, has_appended_part, held_after, is_written, marked, noted, taken_so, written_after}
use Rattle.osdp_tool_objects.specs.declared.stream.Objects.{Objects}
use Rattle.osdp_tool_objects.proofs.Lines.{pieces_written}

-- ---- what was added to known bytes

appended : (a b : Option (List ℕ)) (bytes : List ℕ) → has_appended a b bytes ≡ true → Appends a b bytes
appended None b bytes e = tt
appended (Some x) None bytes e = absurd cc
appended (Some x) (Some y) bytes e = (bytes_eq-Decides y (x ++ bytes)).0 e

both : (a b : Bool) → (a && b) ≡ true → (a ≡ true) × (b ≡ true)
both true b e = (refl, e)
both false b e = absurd cc

-- ---- a beginning of bytes

part_of : (a b : Option (List ℕ)) (bytes : List ℕ) (count : ℕ) → count ≤ length bytes → Appends a b (take count bytes) → has_appended_part a b bytes ≡ true
part_of None b bytes count within p = refl
part_of (Some x) None bytes count within p = absurd p
part_of (Some x) (Some y) bytes count within p =
    let size : length y - length x ≡ count =
    let both = ap length p ∙ length-append x (take count bytes) in let part = length-take-le count bytes within in omega arith in
    (bytes_eq-Decides y (x ++ take (length y - length x) bytes)).1 (p ∙ ap (λ n. x ++ take n bytes) (sym size))

in_part : (a b : Option (List ℕ)) (bytes : List ℕ) → has_appended_part a b bytes ≡ true → (count : ℕ) × Appends a b (take count bytes)
in_part None b bytes e = (0, tt)
in_part (Some x) None bytes e = absurd cc
in_part (Some x) (Some y) bytes e = (length y - length x, (bytes_eq-Decides y (x ++ take (length y - length x) bytes)).0 e)

not_so : (b : Bool) → not b ≡ true → b ≡ false
not_so true e = absurd cc
not_so false e = refl

-- ---- one write

-- what is known of an output in which nothing has failed
record IsWell (failed : Bool) (start now : Option (List ℕ)) (held taken lost : List ℕ) : Type 0 where
  well : failed ≡ false
  wrote : Appends start now (written_after [] taken)
  holds : held ≡ held_after [] taken
  none : lost ≡ []

are_well : (failed : Bool) (start now : Option (List ℕ)) (held taken lost : List ℕ) → is_written None failed start now held taken lost ≡ true → IsWell failed start now held taken lost
are_well failed start now held taken lost e =
    let first = both (not failed) (has_appended start now (written_after [] taken) && (bytes_eq held (held_after [] taken) && bytes_eq lost [])) e in
    let second = both (has_appended start now (written_after [] taken)) (bytes_eq held (held_after [] taken) && bytes_eq lost []) first.1 in
    let third = both (bytes_eq held (held_after [] taken)) (bytes_eq lost []) second.1 in
    record {
      well = not_so failed first.0;
      wrote = appended start now (written_after [] taken) second.0;
      holds = (bytes_eq-Decides held (held_after [] taken)).0 third.0;
      none = (bytes_eq-Decides lost []).0 third.1;
    }

has_all : (a b : Option (List ℕ)) (bytes : List ℕ) → Appends a b bytes → has_appended a b bytes ≡ true
has_all None b bytes p = refl
has_all (Some x) None bytes p = absurd p
has_all (Some x) (Some y) bytes p = (bytes_eq-Decides y (x ++ bytes)).1 p

well_again : (failed : Bool) (start now : Option (List ℕ)) (held taken lost : List ℕ) → IsWell failed start now held taken lost → is_written None failed start now held taken lost ≡ true
well_again failed start now held taken lost is =
    and_from (not failed) (has_appended start now (written_after [] taken) && (bytes_eq held (held_after [] taken) && bytes_eq lost [])) (ap not is.well)
    (and_from (has_appended start now (written_after [] taken)) (bytes_eq held (held_after [] taken) && bytes_eq lost []) (has_all start now (written_after [] taken) is.wrote)
    (and_from (bytes_eq held (held_after [] taken)) (bytes_eq lost []) ((bytes_eq-Decides held (held_after [] taken)).1 is.holds) ((bytes_eq-Decides lost []).1 is.none)))

-- what is taken is added to what it holds as an output of lines
took : (was_known known : Bool) (start : Option (List ℕ)) (old new bytes : List ℕ) → (was_known ≡ true → (known ≡ true) × (new ≡ old ++ bytes))
    → Appends (taken_so was_known start old) (taken_so known start new) bytes
took false known start old new bytes more = tt
took true known start old new bytes more =
    let is = more refl in
    subst (λ b. Appends (Some (marked start ++ old)) (taken_so b start new) bytes) (sym is.0)
    (ap (λ l. marked start ++ l) is.1 ∙ sym (append_assoc (marked start) old bytes))

module _ (was_failed failed : Bool) (start was now : Option (List ℕ)) (held new_held taken lost bytes : List ℕ) where
  abbrev text : List ℕ
  text = written_after held bytes

  -- the objects of what was taken before, and of these bytes
  all_text : held ≡ held_after [] taken → written_after [] taken ++ text ≡ written_after [] (taken ++ bytes)
  all_text holds = ap (λ h. written_after [] taken ++ written_after h bytes) holds ∙ sym (pieces_written [] taken bytes)

  -- all of their objects were written
  pub took_all : (new_taken : List ℕ) → Appends was now text → new_held ≡ held_after held bytes → failed ≡ was_failed → new_taken ≡ taken ++ bytes
      → Appends (taken_so (is_written None was_failed start was held taken lost) start (taken ++ lost))
      (taken_so (is_written None failed start now new_held new_taken lost) start (new_taken ++ lost)) bytes
  took_all new_taken wrote holds same took_is =
      took (is_written None was_failed start was held taken lost) (is_written None failed start now new_held new_taken lost) start (taken ++ lost) (new_taken ++ lost) bytes
      (λ e. let is = are_well was_failed start was held taken lost e in (
        well_again failed start now new_held new_taken lost (record {
          well = same ∙ is.well;
          wrote =
              subst (Appends start now) (all_text is.holds ∙ ap (written_after []) (sym took_is))
              (Appends-trans start was now (written_after [] taken) text is.wrote wrote);
          holds =
              holds ∙ ap (λ h. held_after h bytes) is.holds ∙ sym (unended_after-append [] taken bytes) ∙ ap (held_after []) (sym took_is);
          none = is.none;
        }),
        ap (λ l. new_taken ++ l) is.none ∙ append-nil new_taken ∙ took_is ∙ sym (ap (λ l. l ++ bytes) (ap (λ l. taken ++ l) is.none ∙ append-nil taken)),
      ))

  stopped : (new_lost : List ℕ) (fault : ToolFault) → IsWell was_failed start was held taken lost → StopsWriting text was now was_failed failed fault → new_lost ≡ bytes
      → is_written (Some fault) failed start now new_held taken new_lost ≡ true
  stopped new_lost fault is stops lost_is =
      elim stops [
        | inl none ↦
            subst (λ f. is_written (Some f) failed start now new_held taken new_lost ≡ true) (sym none.0)
            (and_from (not failed) (has_appended start now (written_after [] taken)) (ap not (none.2 ∙ is.well))
            (has_all start now (written_after [] taken) (Appends-kept start was now (written_after [] taken) is.wrote none.1)))
        | inr part ↦ (
            let before = written_after [] taken in
            let count = part.1.0 in
            let whole : before ++ text ≡ written_after [] (taken ++ new_lost) = all_text is.holds ∙ ap (λ l. written_after [] (taken ++ l)) (sym lost_is) in
            let front : before ++ take count text ≡ take (length before + count) (before ++ text) = sym (take-append-add before text count) in
            let wrote : Appends start now (take (length before + count) (before ++ text)) =
            subst (Appends start now) front (Appends-trans start was now before (take count text) is.wrote part.1.2) in
            let within : length before + count ≤ length (before ++ text) = let short = part.1.1 in let size = length-append before text in omega arith in
            subst (λ f. is_written (Some f) failed start now new_held taken new_lost ≡ true) (sym part.0)
            (and_from failed (has_appended_part start now (written_after [] (taken ++ new_lost))) part.2
            (subst (λ l. has_appended_part start now l ≡ true) whole (part_of start now (before ++ text) (length before + count) within wrote)))
            )
      ]

  -- not all of their objects were written
  pub took_part : (new_lost : List ℕ) (fault : ToolFault) → StopsWriting text was now was_failed failed fault → new_lost ≡ lost ++ bytes
      → Appends (taken_so (is_written None was_failed start was held taken lost) start (taken ++ lost))
      (taken_so (is_written (Some fault) failed start now new_held taken new_lost) start (taken ++ new_lost)) bytes
  took_part new_lost fault stops lost_is =
      took (is_written None was_failed start was held taken lost) (is_written (Some fault) failed start now new_held taken new_lost) start (taken ++ lost) (taken ++ new_lost) bytes
      (λ e. let is = are_well was_failed start was held taken lost e in (
        stopped new_lost fault is stops (lost_is ∙ ap (λ l. l ++ bytes) is.none),
        ap (λ l. taken ++ l) lost_is ∙ sym (append_assoc taken lost bytes),
      ))

-- ---- from the first write on

pub nothing_taken : (failed : Bool) (start now : Option (List ℕ)) (held taken lost : List ℕ) → failed ≡ false → start ≡ now → held ≡ [] → taken ≡ [] → lost ≡ []
    → taken_so (is_written None failed start now held taken lost) start (taken ++ lost) ≡ Some (marked now)
unfolding ended_after unended_after
nothing_taken failed start now held taken lost well begins none nothing lost_none =
    let is : is_written None failed start now held taken lost ≡ true =
    well_again failed start now held taken lost (record {
      well = well;
      wrote = subst (λ t. Appends start now (written_after [] t)) (sym nothing) (subst (λ s. Appends s now []) (sym begins) (Appends-nil now));
      holds = none ∙ ap (held_after []) (sym nothing);
      none = lost_none;
    }) in
    ap (λ b. taken_so b start (taken ++ lost)) is
    ∙ ap (λ l. Some (marked start ++ l)) (ap (λ t. t ++ lost) nothing ∙ lost_none) ∙ ap Some (append-nil (marked start)) ∙ ap (λ s. Some (marked s)) begins

same_front : (a b : Option (List ℕ)) (x y : List ℕ) → marked a ++ x ≡ marked b ++ y → (a ≡ b) × (x ≡ y)
unfolding marked
same_front None None x y e = (refl, ap (drop 1) e)
same_front None (Some d) x y e = let n : 0 ≡ length d + 1 = ap (λ l. get_or l 0 0) e in absurd (omega arith)
same_front (Some c) None x y e = let n : length c + 1 ≡ 0 = ap (λ l. get_or l 0 0) e in absurd (omega arith)
same_front (Some c) (Some d) x y e =
    let n : length c + 1 ≡ length d + 1 = ap (λ l. get_or l 0 0) e in
    let same : length c ≡ length d = omega arith in
    let tail : c ++ x ≡ d ++ y = ap (drop 1) e in (
      ap Some (sym (take-append_seam c x) ∙ ap (take (length c)) tail ∙ ap (λ k. take k (d ++ y)) same ∙ take-append_seam d y),
      sym (drop-append_seam c x) ∙ ap (drop (length c)) tail ∙ ap (λ k. drop k (d ++ y)) same ∙ drop-append_seam d y,
    )

-- the objects of what is known to be written
module _ (failed : Bool) (start now : Option (List ℕ)) (held taken lost : List ℕ) where
  known_writes : (fault : Option ToolFault) → is_written fault failed start now held taken lost ≡ true → Writes fault failed start now (taken ++ lost)
  known_writes None e =
      let is = are_well failed start now held taken lost e in
      (subst (λ l. Appends start now (written_after [] l)) (sym (append-nil taken) ∙ ap (λ l. taken ++ l) (sym is.none)) is.wrote, is.well)
  known_writes (Some NoMemory) e =
      let parts = both (not failed) (has_appended start now (written_after [] taken)) e in
      (length taken, subst (λ l. Appends start now (written_after [] l)) (sym (take-append_seam taken lost)) (appended start now (written_after [] taken) parts.1), not_so failed parts.0)
  known_writes (Some WriteFailed) e =
      let parts = both failed (has_appended_part start now (written_after [] (taken ++ lost))) e in
      let part = in_part start now (written_after [] (taken ++ lost)) parts.1 in (part.0, part.1, parts.0)
  known_writes (Some fault) e = absurd cc

pub writes_their_objects : WritesTheirObjects
writes_their_objects fault failed first start now held taken lost lines appends =
    let known = is_written fault failed start now held taken lost in
    elim (cases_Bool known) [
      | inl e ↦ (
          let whole : marked start ++ (taken ++ lost) ≡ marked first ++ lines = subst (λ b. Appends (Some (marked first)) (taken_so b start (taken ++ lost)) lines) e appends in
          let same = same_front start first (taken ++ lost) lines whole in
          subst (λ s. Writes fault failed s now lines) same.0
          (subst (λ l. Writes fault failed start now l) same.1 (known_writes failed start now held taken lost fault e))
          )
      | inr e ↦ absurd (subst (λ b. Appends (Some (marked first)) (taken_so b start (taken ++ lost)) lines) e appends)
    ]

-- ---- of an output itself

module _ {W : Type 0} (contents : W → Option (List ℕ)) (old new : Objects W) where
  pub new_front : IsNew contents old → lines_taken contents old ≡ Some (marked (contents (inner_of (output_of old))))
  new_front is =
      let failed = has_failed (output_of old) in
      let start = start_of contents old in
      let now = contents (inner_of (output_of old)) in
      let taken = noted old.taken.items in
      let lost = noted old.lost.items in
      ap (λ f. taken_so (is_written f failed start now old.held.items taken lost) start (taken ++ lost)) is.fault
      ∙ nothing_taken failed start now old.held.items taken lost is.well is.start is.held is.taken is.lost

  pub objects_written : (lines : List ℕ) → IsNew contents old → Appends (lines_taken contents old) (lines_taken contents new) lines
      → Writes (fault_of new) (has_failed (output_of new)) (contents (inner_of (output_of old))) (contents (inner_of (output_of new))) lines
  objects_written lines is appends =
      writes_their_objects (fault_of new) (has_failed (output_of new)) (contents (inner_of (output_of old))) (start_of contents new) (contents (inner_of (output_of new)))
      new.held.items (noted new.taken.items) (noted new.lost.items) lines (subst (λ front. Appends front (lines_taken contents new) lines) (new_front is) appends)
