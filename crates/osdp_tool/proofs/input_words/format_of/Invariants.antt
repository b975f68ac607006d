use Rattle.osdp_tool.proofs.Common.{◌≡◌, drop, texts_of, format_of, last_format}
use Rattle.osdp_tool.proofs.input_words.format_of.Given as goal

-- the words so far, and those that are left
abbrev pub invariant-loop-word : goal.invariant-loop-word
invariant-loop-word l = last_format l.format (texts_of (drop l.word-index l.words)) ≡ format_of (texts_of l.words)
