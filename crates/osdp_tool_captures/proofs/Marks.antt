-- The bytes of a mark, one after the other.
use Rattle.std.proofs.Common.{◌≡◌, ◌≢◌, ℕ, ◌<◌, ◌==◌, ◌&&◌, Bool, true, false, cond, List, [], ◌∷◌, ◌++◌, Option, Some, None, length, take, refl, arith, slice_index_or, slice_set}
use Rattle.std.specs.Prelude.{option_map}
use Rattle.std.specs.List.{remove}
use Rattle.std.specs.Io.KnownBytes.{Consumes, prepend_known}
use Rattle.std.proofs.lemmas.Bool.{eqb-true}
use Rattle.osdp_tool_captures.specs.Laws.{PassesOneMark}
use Rattle.osdp_tool_captures.specs.Marks.{content_of, left_of, utf8_mark, without_mark}
use Rattle.osdp_tool_captures.specs.declared.format.Format.{Format}
use Rattle.osdp_tool_captures.specs.declared.format.Format.TheVariants.{Bytes, Digits, Of}

-- the first byte that is held is handed on
pub handed : (begun : Bool) (held new buffer : List ℕ) (byte : ℕ) (rest : Option (List ℕ)) → begun ≡ true → 0 < length held → false ≡ (length buffer == 0)
    → byte ≡ slice_index_or held 0 byte → new ≡ remove held 0
    → Consumes (option_map (left_of begun) (prepend_known held rest)) (option_map (left_of begun) (prepend_known new rest)) (take 1 (slice_set buffer 0 byte))
handed false held new buffer byte rest begun some room is left = cc
handed true [] new buffer byte rest begun some room is left = absurd (omega (arith, some))
handed true (h ∷ held) new [] byte rest begun some room is left = cc
handed true (h ∷ held) new (b ∷ buffer) byte None begun some room is left = tt
handed true (h ∷ held) new (b ∷ buffer) byte (Some rest) begun some room is left = rw (left, is) refl

-- a text of three bytes or more, by whether each of them is one of a mark
by_bytes : (s t u : Bool) (a b c : ℕ) (rest : List ℕ) → (a == 0xEF) ≡ s → (b == 0xBB) ≡ t → (c == 0xBF) ≡ u → a ∷ b ∷ c ∷ rest ≢ utf8_mark ++ rest
    → cond (s && (t && u)) rest (a ∷ b ∷ c ∷ rest) ≡ a ∷ b ∷ c ∷ rest
by_bytes true true true a b c rest x y z other = absurd (other (rw (eqb-true a 0xEF x, eqb-true b 0xBB y, eqb-true c 0xBF z) refl))
by_bytes true true false a b c rest x y z other = refl
by_bytes true false u a b c rest x y z other = refl
by_bytes false t u a b c rest x y z other = refl

unmarked : (text : List ℕ) → ((rest : List ℕ) → text ≢ utf8_mark ++ rest) → without_mark text ≡ text
unmarked [] other = refl
unmarked (a ∷ []) other = refl
unmarked (a ∷ b ∷ []) other = refl
unmarked (a ∷ b ∷ c ∷ rest) other = by_bytes (a == 0xEF) (b == 0xBB) (c == 0xBF) a b c rest refl refl refl (other rest)

marked : (format : Format) (text : List ℕ) → format ≢ Bytes → content_of format (utf8_mark ++ text) ≡ text
marked Digits text lines = refl
marked Bytes text lines = absurd (lines refl)
marked (Of tool) text lines = refl

plain : (format : Format) (text : List ℕ) → ((rest : List ℕ) → text ≢ utf8_mark ++ rest) → content_of format text ≡ text
plain Digits text other = unmarked text other
plain Bytes text other = refl
plain (Of tool) text other = unmarked text other

pub passes_one_mark : PassesOneMark
passes_one_mark = record { marked = marked; plain = plain; bytes = λ all. refl }
