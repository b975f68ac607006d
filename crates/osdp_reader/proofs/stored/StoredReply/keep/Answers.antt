use Rattle.std.proofs.Common.{ℕ, List, true, subst, sym, ◌∙◌}
use Rattle.osdp_frame.specs.Spelling.{Spells}
use Rattle.osdp_reader.proofs.Storing.{first_of_spelling, is_spelled}
use Rattle.osdp_reader.proofs.stored.StoredReply.keep.Goals as goal

pub invariant_of-self : goal.invariant_of-self
invariant_of-self c =
    let bytes = c.put.new.place.items in
    let p = c.requires.0 in
    let spelled = subst (λ (b : List ℕ). Spells p b) (sym (c.put.ensures ∙ c.as_slice.ensures.value)) c.requires.1 in
    let are = c.spelling_of_bytes.ensures p bytes spelled in
    is_spelled p bytes spelled
    (first_of_spelling p bytes spelled (λ part. c.first_item_decided.ensures.some true bytes part are))

pub returns : goal.returns
returns c p given =
    let bytes = c.put.new.place.items in
    let spelled = subst (λ (b : List ℕ). Spells p b) (sym (c.put.ensures ∙ c.as_slice.ensures.value)) given in
    let are = c.spelling_of_bytes.ensures p bytes spelled in
    first_of_spelling p bytes spelled (λ part. c.first_item_decided.ensures.some true bytes part are)
