use Rattle.osdp_words.proofs.Common.{◌≡◌, length, words_in}
use denote.Text.{Utf8}
use denote.Shadow.{shadow}
use Rattle.osdp_words.proofs.splitting.first_word.Given as goal

abbrev pub invariant-parts : goal.invariant-parts
invariant-parts l = (words_in l.line ≡ words_in l.rest) × shadow (Utf8 l.rest)

abbrev pub decreases-parts : goal.decreases-parts
decreases-parts l = length l.rest
