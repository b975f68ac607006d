-- The words of values.
use Rattle.std.specs.Prelude.{Bool, true, false, codes}
use Rattle.osdp_words.specs.Word.{Word, plain}

-- whether something is to be
abbrev pub switch_word : Bool → Word
switch_word true = plain (codes "on")
switch_word false = plain (codes "off")
