-- The lines that end in bytes, one after the other.
use Rattle.osdp_tool_objects.proofs.Common.{◌≡◌, ℕ, ◌+◌, ◌-◌, ◌≤◌, List, [], ◌∷◌, ◌++◌, length, take, drop, Result, Ok, Err, OnOk, refl, sym, subst, ap, ◌∙◌, arith, append_assoc, append-nil, length-drop, if◌then◌else◌, is_ok, take_rest, drop-drop, HasLine, IsLine, ended_after, line_feed, unended_after, ended_after-append, ended_after-feed, ended_after-line, unended_after-feed, unended_after-line, held_after, objects_of, written_after, PiecesGiveTheSame}
use Rattle.std.proofs.lemmas.Grind.{flat_map-append}
use Rattle.osdp_tool_captures.proofs.Cutting.{line_cut}
use Rattle.osdp_tool_objects.specs.Objects.{object_of}

-- what is written so far, and what is held, by the bytes to come
pub record AreWritten (bytes : List ℕ) (at : ℕ) (held now before text : List ℕ) : Type 0 where
  pub within : at ≤ length bytes
  pub text_is : text ++ written_after now (drop at bytes) ≡ before ++ written_after held bytes
  pub held_is : held_after now (drop at bytes) ≡ held_after held bytes

pub none_written : (bytes held text : List ℕ) → AreWritten bytes 0 held held text text
none_written bytes held text = record { within = omega arith; text_is = refl; held_is = refl }

part_of_slice : (text : List ℕ) (at count : ℕ) → take (at + count - at) (drop at text) ≡ take count (drop at text)
part_of_slice text at count = ap (λ n. take n (drop at text)) (omega arith)

-- what a line that ends in bytes brings
feed_written : (held line rest : List ℕ) → IsLine line → written_after held (line ++ line_feed ∷ rest) ≡ object_of [] (held ++ line) ++ written_after [] rest
feed_written held line rest is = ap objects_of (ended_after-feed held line rest is)

module _ (bytes : List ℕ) (at count : ℕ) (held now before text : List ℕ) (done : AreWritten bytes at held now before text) where
  pub one_more : HasLine (take (length bytes - at) (drop at bytes)) count → (next after : List ℕ) → next ≡ []
      → after ≡ text ++ object_of [] (now ++ take (at + count - at) (drop at bytes)) → AreWritten bytes (at + (count + 1)) held next before after
  one_more has next after empty wrote =
      let stands = subst (λ l. HasLine l count) (take_rest bytes at) has in
      let line = take count (drop at bytes) in
      let rest = drop (at + (count + 1)) bytes in
      let cut : drop at bytes ≡ line ++ line_feed ∷ rest =
      line_cut (drop at bytes) count stands ∙ ap (λ l. line ++ line_feed ∷ l) (drop-drop (count + 1) at bytes) in
      let object = object_of [] (now ++ line) in
      record {
        within = let b = stands.below in let w = done.within in let l = length-drop at bytes in omega arith;
        text_is =
            ap (λ h. after ++ written_after h rest) empty
            ∙ ap (λ t. t ++ written_after [] rest) (wrote ∙ ap (λ l. text ++ object_of [] (now ++ l)) (part_of_slice bytes at count))
            ∙ append_assoc text object (written_after [] rest)
            ∙ ap (λ t. text ++ t) (sym (ap (written_after now) cut ∙ feed_written now line rest stands.line))
            ∙ done.text_is;
        held_is =
            ap (λ h. held_after h rest) empty ∙ sym (ap (held_after now) cut ∙ unended_after-feed now line rest) ∙ done.held_is;
      }

module _ (bytes : List ℕ) (at : ℕ) (held now before text : List ℕ) (done : AreWritten bytes at held now before text) (is_line : IsLine (take (length bytes - at) (drop at bytes))) where
  is : IsLine (drop at bytes)
  is = subst IsLine (take_rest bytes at) is_line

  pub text_done : {T E : Type 0} (r : Result T E) → OnOk r (text ≡ before ++ written_after held bytes)
  text_done (Ok x) = sym (append-nil text) ∙ ap (λ l. text ++ objects_of l) (sym (ended_after-line now (drop at bytes) is)) ∙ done.text_is
  text_done (Err e) = tt

  pub held_done : {T E : Type 0} (r : Result T E) (next : List ℕ) → next ≡ (if is_ok r then now ++ take (length bytes - at) (drop at bytes) else now) → OnOk r (next ≡ held_after held bytes)
  held_done (Ok x) next holds = holds ∙ ap (λ l. now ++ l) (take_rest bytes at) ∙ sym (unended_after-line now (drop at bytes) is) ∙ done.held_is
  held_done (Err e) next holds = tt

-- ---- pieces

pub pieces_written : PiecesGiveTheSame
pieces_written held first second =
    ap objects_of (ended_after-append held first second) ∙ flat_map-append (object_of []) (ended_after held first) (ended_after (unended_after held first) second)
