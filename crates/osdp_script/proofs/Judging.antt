-- One line, judged by what stands above it.
use Rattle.osdp_script.proofs.Common.{◌≡◌, ℕ, List, length, Option, Some, None, ReadsWords, words_in, ScriptLine, LineFits, line_words, SaysNothing, Plan}

-- what is read of the words of a text
abbrev pub ReadsText : Plan → List ℕ → Option ScriptLine → Type 0
ReadsText p text r = ReadsWords line_words (LineFits (length p.readers)) (words_in text) r

none_is_some : (line : ScriptLine) → None ≡ Some line → ⊥
none_is_some line e = cc e

-- words of no line
pub unread : (p : Plan) (text : List ℕ) → ReadsText p text None → SaysNothing p text
unread p text reads line says = none_is_some line (reads.only line says.fits says.words)
