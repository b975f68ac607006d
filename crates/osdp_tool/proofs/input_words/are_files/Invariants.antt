use Rattle.osdp_tool.proofs.Common.{◌≡◌, drop, texts_of, are_files}
use Rattle.osdp_tool.proofs.input_words.are_files.Given as goal

-- the words so far, and those that are left
abbrev pub invariant-loop-word : goal.invariant-loop-word
invariant-loop-word l = are_files (texts_of (drop l.word-index l.words)) ≡ are_files (texts_of l.words)
