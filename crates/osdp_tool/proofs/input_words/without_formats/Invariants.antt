use Rattle.osdp_tool.proofs.Common.{◌≡◌, ◌++◌, drop, filter, not, is_some, texts_of, format_named}
use Rattle.osdp_tool.proofs.input_words.without_formats.Given as goal

-- the words so far, and those that are left
abbrev pub invariant-loop-word : goal.invariant-loop-word
invariant-loop-word l = texts_of l.left.items ++ filter (λ word. not (is_some (format_named word))) (texts_of (drop l.word-index l.words)) ≡ filter (λ word. not (is_some (format_named word))) (texts_of l.words)
